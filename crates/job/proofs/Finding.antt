-- Columns of a job by their numbers.
use Rattle.std.proofs.Common.{◌≡◌, ℕ, ◌<◌, ◌≤◌, true, List, length, get_or, Some, Ok, Err, Option, Result, MatchResult, sym, refl, ap, ◌∙◌, subst, arith}
use Rattle.std.proofs.lemmas.List.{get_or-map, length-map}
use Rattle.kernels.specs.declared.length.LengthFault.TheVariants.{Rows}
use Rattle.kernels.specs.declared.length.Unit as unit
use Rattle.kinds.specs.Lengths.{ceiling}
use Rattle.kinds.specs.declared.fault.KindFault.TheVariants.{Lacks, Length}
use Rattle.records.specs.Layout.{Laid, GivenRow}
use Rattle.records.proofs.RowParts.{laid_same}
use Rattle.job.specs.declared.column.OffsetFormat.{OffsetFormat}
use Rattle.job.specs.declared.entry.Entry.{Entry}
use Rattle.job.specs.declared.fault.JobError.{JobError}
use Rattle.job.specs.declared.fault.JobError.TheVariants.{Memory, Fault}
use Rattle.job.specs.declared.fault.JobFault.TheVariants.{Record, NotRead, File, Column, Kind}
use Rattle.job.specs.declared.lengths.Lengths.{Lengths}
use Rattle.job.specs.Faults.{OnFault, unread_of}
use Rattle.job.specs.Measured.{PartChecked, PartMeasured, ColumnMeasured}
use Rattle.job.specs.Printed.{IsRead}
use Rattle.job.specs.States.{record_of, records_of, Has}
use Rattle.job.specs.Transcript.{ColumnRecord, AllText, Read, IsNotRead, built}

at_entry : (es : List Entry) (k : ℕ) (e : Entry) → k < length es → e ≡ get_or es k e → (d : ColumnRecord) → get_or (records_of es) k d ≡ record_of e
at_entry es k e h q d = get_or-map record_of es k e d h ∙ ap record_of (sym q)

pub has_at : (es : List Entry) (k : ℕ) (e : Entry) (f : OffsetFormat) → k < length es → e ≡ get_or es k e → built e.format ≡ Some f → length e.part.now ≤ 65536 → Has (records_of es) k f e.part.now
has_at es k e f h q b s = record {
  taken = record_of e;
  inside = omega (arith, length-map es record_of, h);
  here = at_entry es k e h q;
  small = s;
  format = b;
  part_is = refl;
}

pub has_only : (es : List Entry) (k : ℕ) (e : Entry) (f : OffsetFormat) (part : List ℕ) → k < length es → e ≡ get_or es k e → Has (records_of es) k f part → built e.format ≡ Some f
has_only es k e f part l q h = ap (λ (c : ColumnRecord). built c.format) (sym (sym (h.here h.taken) ∙ at_entry es k e l q h.taken)) ∙ h.format

pub has_small : (es : List Entry) (k : ℕ) (e : Entry) (f : OffsetFormat) (part : List ℕ) → k < length es → e ≡ get_or es k e → Has (records_of es) k f part → length e.part.now ≤ 65536
has_small es k e f part l q h = subst (λ (c : ColumnRecord). length c.part ≤ 65536) (sym (h.here h.taken) ∙ at_entry es k e l q h.taken) h.small

-- a column that is read has a record
pub has_read : (cs : List ColumnRecord) (k : ℕ) (f : OffsetFormat) (part : List ℕ) (rs : List GivenRow) → Has cs k f part → Laid part rs → (f.text ≡ true → AllText rs) → Read cs k f rs
has_read cs k f part rs h l t = record {
  taken = h.taken;
  inside = h.inside;
  here = h.here;
  small = h.small;
  format = h.format;
  rows = subst (λ (p : List ℕ). Laid p rs) (sym h.part_is) l;
  texts = t;
}

pub read_has : (cs : List ColumnRecord) (k : ℕ) (f : OffsetFormat) (rs : List GivenRow) → (r : Read cs k f rs) → Has cs k f r.taken.part
read_has cs k f rs r = record { taken = r.taken; inside = r.inside; here = r.here; small = r.small; format = r.format; part_is = refl }

-- a column that no record has is not read
pub unread : (cs : List ColumnRecord) (k : ℕ) → ((f : OffsetFormat) (part : List ℕ) → Has cs k f part → ⊥) → IsNotRead cs k
unread cs k h = λ f rs r. h f r.taken.part (read_has cs k f rs r)

some_same : (f g : OffsetFormat) (o : Option OffsetFormat) → o ≡ Some f → o ≡ Some g → f ≡ g
some_same f g o p q = cc

pub has_same : (cs : List ColumnRecord) (k : ℕ) (f g : OffsetFormat) (part : List ℕ) (rs : List GivenRow) → Has cs k f part → Read cs k g rs → (f ≡ g) × Laid part rs
has_same cs k f g part rs h r =
    let e : h.taken ≡ r.taken = sym (h.here h.taken) ∙ r.here h.taken in (
      some_same f g (built h.taken.format) h.format (ap (λ (c : ColumnRecord). built c.format) e ∙ r.format),
      subst (λ (p : List ℕ). Laid p rs) (sym (ap (λ (c : ColumnRecord). c.part) e) ∙ h.part_is) r.rows,
    )

pub not_laid : (cs : List ColumnRecord) (k : ℕ) (f : OffsetFormat) (part : List ℕ) → Has cs k f part → ((rs : List GivenRow) → Laid part rs → ⊥) → IsNotRead cs k
not_laid cs k f part h n = λ g rs r. n rs (has_same cs k f g part rs h r).1

pub not_text : (cs : List ColumnRecord) (k : ℕ) (f : OffsetFormat) (part : List ℕ) (rs : List GivenRow) → Has cs k f part → Laid part rs → f.text ≡ true → (AllText rs → ⊥) → IsNotRead cs k
not_text cs k f part rs h l t n = λ g qs r.
    let s = has_same cs k f g part qs h r in
    n (subst AllText (laid_same s.1 l) (r.texts (ap (λ (x : OffsetFormat). x.text) (sym s.0) ∙ t)))

-- what is measured of the part, as a later operation meets it
pub column_measured : (u : unit.Unit) (cs : List ColumnRecord) (k : ℕ) (f : OffsetFormat) (part : List ℕ) (r s : Result Lengths JobError) → Has cs k f part
    → PartMeasured u f.text (ceiling f.wide) part r → MatchResult r (λ m. s ≡ Ok m) (λ e. s ≡ Err (unread_of e)) → ColumnMeasured u cs k s
column_measured u cs k f part (Ok m) s h p q = rw q (f, p.0, has_read cs k f part p.0 h p.1 p.2, p.3, p.4)
column_measured u cs k f part (Err (Memory e)) s h p q = rw q tt
column_measured u cs k f part (Err (Fault Record)) s h p q = rw q (not_laid cs k f part h p)
column_measured u cs k f part (Err (Fault NotRead)) s h p q = absurd p
column_measured u cs k f part (Err (Fault File)) s h p q = absurd p
column_measured u cs k f part (Err (Fault (Column e))) s h p q = rw q (not_text cs k f part p.0 h p.1 p.2 p.3)
column_measured u cs k f part (Err (Fault (Kind Lacks))) s h p q = absurd p
column_measured u cs k f part (Err (Fault (Kind (Length Rows)))) s h p q = rw q (f, p.0, has_read cs k f part p.0 h p.1 p.2, p.3)

-- whether the column is made, as a later operation meets it
pub column_checked : (cs : List ColumnRecord) (k : ℕ) (f : OffsetFormat) (part : List ℕ) (r s : Result (Unit {0}) JobError) → Has cs k f part
    → PartChecked f.text part r → MatchResult r (λ m. s ≡ Ok m) (λ e. s ≡ Err (unread_of e))
    → MatchResult s (λ _. IsRead cs k) (OnFault (λ g. (g ≡ NotRead) × IsNotRead cs k))
column_checked cs k f part (Ok m) s h p q = rw q (f, p.0, has_read cs k f part p.0 h p.1 p.2)
column_checked cs k f part (Err (Memory e)) s h p q = rw q tt
column_checked cs k f part (Err (Fault Record)) s h p q = rw q (refl, not_laid cs k f part h p)
column_checked cs k f part (Err (Fault NotRead)) s h p q = absurd p
column_checked cs k f part (Err (Fault File)) s h p q = absurd p
column_checked cs k f part (Err (Fault (Column e))) s h p q = rw q (refl, not_text cs k f part p.0 h p.1 p.2 p.3)
column_checked cs k f part (Err (Fault (Kind e))) s h p q = absurd p
