-- What holds of the meaning of lists that keep the rules: proofs, which stand here since the law of a source may cite specs/ alone.
use Rattle.std.proofs.Common.{◌≡◌, ℕ, ◌+◌, ◌-◌, ◌<◌, ◌≤◌, List, length, get_or, drop, ℤ, pos, negsuc, ◌≤ℤ◌, sym, refl, ◌∙◌, subst, arith}
use Rattle.std.specs.List.{between}
use Rattle.std.proofs.lemmas.List.FromFn.{length-map-range_with_len, get_or-map-range_with_len}
use Rattle.std.proofs.lemmas.List.{length-take}
use Rattle.std.proofs.lemmas.Int.{ints}
use Rattle.encoding.specs.Offsets.{numbers, ceiling_of, place, at}
use Rattle.encoding.specs.Utf8.{Text}
use Rattle.encoding.specs.declared.offsets.Offsets.{Offsets}
use Rattle.encoding.specs.declared.offsets.Offsets.TheVariants.{Narrow, Wide}
use Rattle.encoding.proofs.Scalars.{text_from}
use Rattle.columns.specs.declared.lists.Lists.{Lists}
use Rattle.columns.specs.Lists.{Shaped, Ordered, TextsTested, row_at, meaning_of}
use Rattle.columns.specs.Rows.{SourceRow, Good}

pub ceiling_small : (o : Offsets) → ceiling_of o ≤ 9223372036854775807
ceiling_small (Narrow s) = omega arith
ceiling_small (Wide s) = omega arith

place_low : (z : ℤ) (c : ℕ) → z ≤ℤ pos c → place z ≤ c
place_low (pos n) c h = grind (arith, ints)
place_low (negsuc n) c h = omega arith

pub length_between : (a b : ℕ) (ds : List ℕ) → length (between a b ds) ≤ b - a
length_between a b ds = omega (arith, length-take (b - a) (drop a ds))

-- no place passes the width's ceiling
pub place_small : (l : Lists) (k : ℕ) → Ordered l → k < length (numbers l.offsets) → place (at (numbers l.offsets) k) ≤ ceiling_of l.offsets
place_small l k o h = place_low (at (numbers l.offsets) k) (ceiling_of l.offsets) (o.low k h)

pub count_rows : (l : Lists) → length (meaning_of l).rows ≡ l.rows
unfolding meaning_of
count_rows l = length-map-range_with_len (row_at l) 0 l.rows

pub row_in : (l : Lists) (i : ℕ) (d : SourceRow) → i < l.rows → get_or (meaning_of l).rows i d ≡ row_at l i
unfolding meaning_of
row_in l i d h = get_or-map-range_with_len (row_at l) 0 l.rows i i d h (omega arith)

pub meaning_text : (l : Lists) → (meaning_of l).text ≡ l.text
unfolding meaning_of
meaning_text l = refl

-- what holds of every source
pub good : (l : Lists) → Shaped l → Ordered l → TextsTested l → Good (meaning_of l)
good l s o t =
    let n = count_rows l in
    record {
      few = omega (arith, n, s.few);
      reach = λ i d h.
          let e = row_in l i d (omega (arith, n, h)) in
          let k : i < l.rows = omega (arith, n, h) in
          subst (λ (r : SourceRow). r.base + length r.bytes ≤ 9223372036854775807) (sym e)
          (omega (
            arith,
            s.counted,
            k,
            length_between (place (at (numbers l.offsets) i)) (place (at (numbers l.offsets) (i + 1))) l.«data».now,
            place_small l i o (omega (arith, s.counted, k)),
            place_small l (i + 1) o (omega (arith, s.counted, k)),
            ceiling_small l.offsets,
          ));
      texts = λ e i d h.
          subst (λ (r : SourceRow). Text r.bytes) (sym (row_in l i d (omega (arith, n, h))))
          (text_from _ (t (sym (meaning_text l) ∙ e) i (omega (arith, n, h))));
    }
