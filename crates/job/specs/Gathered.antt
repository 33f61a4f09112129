-- The lists of a column that hold rows.
use Rattle.std.specs.Prelude.{◌≡◌, ℕ, ◌+◌, ◌*◌, ◌<◌, ◌≤◌, List, [], ◌∷◌, map, length, ℤ, pos, vec_items, slice_index_or}
use Rattle.std.specs.List.{flat_map}
use Rattle.encoding.specs.Bitmap.{bit}
use Rattle.columns.specs.Rows.{SourceRow}
use Rattle.job.specs.declared.gather.Gathered.{Gathered}
use Rattle.records.specs.Layout.{GivenRow}

-- where each row begins, and where the last ends, when they stand one after another from a on
abbrev pub starts_of : ℕ → List GivenRow → List ℤ
starts_of a [] = pos a ∷ []
starts_of a (r ∷ rs) = pos a ∷ starts_of (a + length r.bytes) rs

-- the row of a source as a file gives it: without the place of its bytes
abbrev pub given_of_row : SourceRow → GivenRow
given_of_row r = record { valid = r.valid; bytes = r.bytes }

-- the lists g hold the rows rs: offset k is the sum of the first k lengths, the data is the rows' bytes one after another, bit k says whether row k is valid
pub record Lays {X : Type 0} (number : X → ℤ) (g : Gathered X) (rs : List GivenRow) : Type 0 where
  pub starts : map number (vec_items g.offsets) ≡ starts_of 0 rs
  pub content : vec_items g.«data» ≡ flat_map (λ r. r.bytes) rs
  pub covered : length rs ≤ 8 * length (vec_items g.validity)
  pub bits : (k : ℕ) (d : GivenRow) → k < length rs → bit (vec_items g.validity) k ≡ (slice_index_or rs k d).valid
