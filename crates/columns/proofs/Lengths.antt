-- The lengths of rows, and the places between them.
use Rattle.std.proofs.Common.{◌≡◌, ℕ, suc, ◌+◌, ◌<◌, ◌≤◌, length, get_or, ℤ, pos, negsuc, ◌≤ℤ◌, ap, ◌∙◌, subst, arith}
use Rattle.std.proofs.lemmas.List.{length-map, get_or-map}
use Rattle.std.proofs.lemmas.Int.{ints}
use Rattle.encoding.specs.Offsets.{numbers, ceiling_of, place, at}
use Rattle.columns.specs.declared.lists.Lists.{Lists}
use Rattle.columns.specs.Lists.{Shaped, Ordered, bytes_at, row_at, meaning_of, lengths_of}
use Rattle.columns.specs.Rows.{SourceRow}
use Rattle.columns.specs.Meanings.{length_between, place_small, count_rows, row_in}

pub count_lengths : (l : Lists) → length (lengths_of l) ≡ l.rows
unfolding lengths_of
count_lengths l = length-map (meaning_of l).rows (λ r. length r.bytes) ∙ count_rows l

pub length_in : (l : Lists) (i : ℕ) → i < l.rows → get_or (lengths_of l) i 0 ≡ length (bytes_at (numbers l.offsets) l.«data».now i)
unfolding lengths_of
length_in l i h =
    get_or-map (λ (r : SourceRow). length r.bytes) (meaning_of l).rows i (row_at l i) 0 (omega (arith, count_rows l, h))
    ∙ ap (λ (r : SourceRow). length r.bytes) (row_in l i (row_at l i) h)

-- places rise, and end within the data
pub places : (l : Lists) (i : ℕ) → Shaped l → Ordered l → i < l.rows
    → (place (at (numbers l.offsets) i) ≤ place (at (numbers l.offsets) (i + 1))) × (place (at (numbers l.offsets) (i + 1)) ≤ length l.«data».now)
places l i s o h =
    let os = numbers l.offsets in
    let end = length l.«data».now in
    rise (at os i) (at os (i + 1)) end
    (subst (λ (k : ℕ). (pos 0 ≤ℤ at os k) × (at os i ≤ℤ at os k) × (at os k ≤ℤ pos end)) (omega arith) (o.right (suc i) (omega (arith, s.counted, h))))
  where
    rise : (a b : ℤ) (end : ℕ) → (pos 0 ≤ℤ b) × (a ≤ℤ b) × (b ≤ℤ pos end) → (place a ≤ place b) × (place b ≤ end)
    rise (pos a) (pos b) end h = (grind (arith, ints), grind (arith, ints))
    rise (negsuc a) (pos b) end h = (grind (arith, ints), grind (arith, ints))
    rise (pos a) (negsuc b) end h = (grind (arith, ints), grind (arith, ints))
    rise (negsuc a) (negsuc b) end h = (grind (arith, ints), grind (arith, ints))

pub length_row : (l : Lists) (i : ℕ) → Shaped l → Ordered l → i < l.rows → length (bytes_at (numbers l.offsets) l.«data».now i) ≤ ceiling_of l.offsets
length_row l i s o h =
    omega (
      arith,
      s.counted,
      h,
      length_between (place (at (numbers l.offsets) i)) (place (at (numbers l.offsets) (i + 1))) l.«data».now,
      place_small l (i + 1) o (omega (arith, s.counted, h)),
    )
