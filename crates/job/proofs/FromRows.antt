-- A column over the rows of a record.
use Rattle.std.proofs.Common.{◌≡◌, ℕ, ◌+◌, ◌*◌, ◌<◌, ◌≤◌, Bool, true, cond, not, List, [], ◌∷◌, map, length, get_or, ℤ, Some, Ok, Err, vec_items, vec_len, Bor, Result, sym, refl, ap, ◌∙◌, subst, arith, MatchResult}
use Rattle.std.proofs.lemmas.List.{length-map}
use Rattle.std.proofs.lemmas.Bool.{le-leb}
use Rattle.encoding.specs.Bitmap.{bit}
use Rattle.encoding.specs.declared.bitmap.Bitmap.{Bitmap}
use Rattle.encoding.specs.declared.offsets.Offsets.{Offsets}
use Rattle.kernels.specs.declared.length.LengthFault.TheVariants.{Rows}
use Rattle.kernels.specs.declared.length.Unit as unit
use Rattle.kinds.specs.declared.fault.KindFault.TheVariants.{Lacks, Length}
use Rattle.std.specs.List.{flat_map}
use Rattle.std.proofs.lemmas.List.Sums.{sum_by-cons}
use Rattle.encoding.specs.Offsets.{numbers, ceiling_of}
use Rattle.encoding.specs.Utf8 as utf8
use Rattle.encoding.proofs.Reading.{unreadable_no_text}
use Rattle.columns.specs.Faults.{number}
use Rattle.columns.specs.declared.fault.ColumnFault.{ColumnFault}
use Rattle.columns.specs.declared.fault.ColumnFault.TheVariants.{Shape, Offset, View, Text}
use Rattle.columns.specs.declared.offset_column.OffsetColumn.{OffsetColumn}
use Rattle.columns.specs.declared.lists.Lists.{Lists}
use Rattle.columns.specs.Grounds.{Refused}
use Rattle.columns.specs.OffsetColumn.{lists_of, Granted, Made}
use Rattle.columns.specs.Rows.{SourceRow}
use Rattle.columns.specs.Lists.{covers, valid_at, meaning_of, lengths_of}
use Rattle.records.specs.Layout.{GivenRow, Laid}
use Rattle.job.specs.declared.fault.JobError.{JobError}
use Rattle.job.specs.declared.fault.JobError.TheVariants.{Memory, Fault}
use Rattle.job.specs.declared.fault.JobFault.TheVariants.{Record, NotRead, File, Column, Kind}
use Rattle.job.specs.declared.gather.Gathered.{Gathered}
use Rattle.job.specs.declared.lengths.Lengths.{Lengths}
use Rattle.job.specs.Gathered.{starts_of, given_of_row, Lays}
use Rattle.job.specs.Measured.{null_rows, Shows, Tells, MeasuredAs, PartMeasured}
use Rattle.job.specs.Transcript.{AllText, nulls, sizes}
use Rattle.job.proofs.Gathering.{stands, rows_are}

-- the lists l hold the rows rs
pub record Over (l : Lists) (rs : List GivenRow) : Type 0 where
  pub counted : l.rows ≡ length rs
  pub starts : numbers l.offsets ≡ starts_of 0 rs
  pub content : l.«data».now ≡ flat_map (λ r. r.bytes) rs
  pub covered : covers l.validity l.rows ≡ true
  pub bits : (k : ℕ) (d : GivenRow) → k < length rs → valid_at l.validity k ≡ (get_or rs k d).valid
  pub few : length rs ≤ 2147483647
  pub low : length (flat_map (λ r. r.bytes) rs) ≤ ceiling_of l.offsets

map_given : (xs : List SourceRow) → map (λ r. length r.bytes) xs ≡ sizes (map given_of_row xs)
map_given [] = refl
map_given (x ∷ xs) = ap (λ (zs : List ℕ). length x.bytes ∷ zs) (map_given xs)

nulls_given : (xs : List SourceRow) → null_rows xs ≡ nulls (map given_of_row xs)
nulls_given [] = refl
nulls_given (x ∷ xs) =
    sum_by-cons (λ r. cond (not r.valid) 1 0) x xs ∙ ap (λ (n : ℕ). cond (not x.valid) 1 0 + n) (nulls_given xs)
    ∙ sym (sum_by-cons (λ r. cond (not r.valid) 1 0) (given_of_row x) (map given_of_row xs))

abbrev pub RefusedOver : Bool → List GivenRow → ColumnFault → Type 0
RefusedOver text rs f = (text ≡ true) × (AllText rs → ⊥) × (number f ≡ 4)

abbrev pub GrantedOver : Bool → ℕ → List GivenRow → OffsetColumn → Type 0
GrantedOver text k rs c = (text ≡ true → AllText rs) × Shows k rs c

granted_over : (l : Lists) (k : ℕ) (rs : List GivenRow) (c : OffsetColumn) → Over l rs → ceiling_of l.offsets ≡ k → Granted l c → GrantedOver l.text k rs c
granted_over l k rs c o q g =
    let s = stands l rs o.counted o.starts o.content o.covered o.bits o.few o.low in (
      λ e i d h. subst utf8.Text (s.3 i d h) (g.texts e i (omega (arith, o.counted, h))),
      record {
        ceiling_is = ap (λ (x : Lists). ceiling_of x.offsets) g.kept ∙ q;
        lengths_are = g.lengths ∙ map_given (meaning_of l).rows ∙ ap sizes s.2;
        nulls_are = ap (λ m. null_rows m.rows) g.rows ∙ nulls_given (meaning_of l).rows ∙ ap nulls s.2;
      },
    )

refused_over : (l : Lists) (rs : List GivenRow) (f : ColumnFault) → Over l rs → Refused l f → RefusedOver l.text rs f
refused_over l rs Shape o h =
    let s = stands l rs o.counted o.starts o.content o.covered o.bits o.few o.low in absurd (h s.0)
refused_over l rs (Offset row) o h =
    let s = stands l rs o.counted o.starts o.content o.covered o.bits o.few o.low in
    let w = h.1.1 in
    absurd (w.wrong (s.1.right h.1.0 w.inside))
refused_over l rs (View row) o h = absurd h
refused_over l rs (Text row fault) o h =
    let s = stands l rs o.counted o.starts o.content o.covered o.bits o.few o.low in
    let d : GivenRow = record { valid = true; bytes = [] } in
    let k : row < length rs = omega (arith, h.3.0, o.counted) in
    (h.2, λ t. unreadable_no_text _ _ h.3.2 (subst utf8.Text (sym (s.3 row d k)) (t row d k)), refl)

-- the column over the lists of rows: it is made unless it is marked text and a row is no text
pub made_over : (l : Lists) (k : ℕ) (rs : List GivenRow) (r : Result OffsetColumn ColumnFault) → Over l rs → ceiling_of l.offsets ≡ k → Made l r
    → MatchResult r (GrantedOver l.text k rs) (RefusedOver l.text rs)
made_over l k rs (Ok c) o q h = granted_over l k rs c o q h
made_over l k rs (Err f) o q h = refused_over l rs f o h

-- the lists that were gathered hold the rows
pub over_from : {X : Type 0} (number : X → ℤ) (g : Gathered X) (rs : List GivenRow) (text : Bool) (n : ℕ) (o : Offsets) (ds : Bor (List ℕ)) (m : Bitmap)
    → Lays number g rs → n + 1 ≡ vec_len g.offsets → 2147483647 ≤ ceiling_of o → numbers o ≡ map number (vec_items g.offsets)
    → ds.now ≡ vec_items g.«data» → m.bytes.now ≡ vec_items g.validity → m.start ≡ 0
    → Over (record { text = text; rows = n; offsets = o; «data» = ds; validity = Some m }) rs
over_from number g rs text n o ds m y r k p q b z = record {
  counted = omega (arith, rows_are number g rs y, r);
  starts = p ∙ y.starts;
  content = q ∙ y.content;
  covered = le-leb (m.start + n) (8 * length m.bytes.now) (omega (arith, rows_are number g rs y, r, y.covered, ap length b, z));
  bits = λ i d l. (λ j. bit (b j) (sums i j)) ∙ y.bits i d l;
  few = omega (arith, rows_are number g rs y, g.small);
  low = omega (arith, g.«data».ok.0, ap length y.content, g.begun, g.small);
}
  where
    sums : (i : ℕ) → m.start + i ≡ i
    sums i = omega (arith, z)

-- what is measured of the column is measured of the record's rows
pub part_from : (u : unit.Unit) (text : Bool) (rs : List GivenRow) (k : ℕ) (part : List ℕ) (c : OffsetColumn) (r : Result Lengths JobError) → Laid part rs → GrantedOver text k rs c
    → MeasuredAs u (lists_of c) r → PartMeasured u text k part r
part_from u text rs k part c (Ok m) h g p =
    let e = g.1.lengths_are in
    let n : length (lengths_of (lists_of c)) ≡ length rs = ap length e ∙ length-map rs (λ (w : GivenRow). length w.bytes) in (
      rs,
      h,
      g.0,
      omega (arith, p.0, n),
      subst (λ (ls : List ℕ). Tells u k (nulls rs) ls m) e
          (subst (λ (x : ℕ). Tells u k x (lengths_of (lists_of c)) m) g.1.nulls_are
          (subst (λ (x : ℕ). Tells u x (null_rows (meaning_of (lists_of c)).rows) (lengths_of (lists_of c)) m) g.1.ceiling_is p.1)),
    )
part_from u text rs k part c (Err (Memory m)) h g p = tt
part_from u text rs k part c (Err (Fault Record)) h g p = absurd p
part_from u text rs k part c (Err (Fault NotRead)) h g p = absurd p
part_from u text rs k part c (Err (Fault File)) h g p = absurd p
part_from u text rs k part c (Err (Fault (Column f))) h g p = absurd p
part_from u text rs k part c (Err (Fault (Kind Lacks))) h g p = absurd p
part_from u text rs k part c (Err (Fault (Kind (Length Rows)))) h g p =
    (rs, h, g.0, omega (arith, p, ap length g.1.lengths_are, length-map rs (λ (w : GivenRow). length w.bytes)))
