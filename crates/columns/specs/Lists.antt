-- The lists of an offset column, after the Arrow Columnar Format: what they mean, and when they keep the rules.
use Rattle.std.specs.Prelude.{◌≡◌, ℕ, ◌+◌, ◌*◌, ◌<◌, ◌≤◌, Bool, true, List, map, length, ℤ, Some, None, Option, nat_le}
use Rattle.std.specs.List.{range_with_len, between}
use Rattle.encoding.specs.Bitmap.{bit}
use Rattle.encoding.specs.Offsets.{numbers, ceiling_of, place, at, AllRight}
use Rattle.encoding.specs.Spelt.{is_text}
use Rattle.encoding.specs.Utf8.{Text}
use Rattle.encoding.specs.declared.bitmap.Bitmap.{Bitmap}
use Rattle.columns.specs.declared.lists.Lists.{Lists}
use Rattle.columns.specs.Rows.{SourceRow, Meaning}

-- whether row i holds a value: bit start + i of the map; without a map every row does
abbrev pub valid_at : Option Bitmap → ℕ → Bool
valid_at None i = true
valid_at (Some m) i = bit m.bytes.now (m.start + i)

-- whether the map has a bit for each of n rows
abbrev pub covers : Option Bitmap → ℕ → Bool
covers None n = true
covers (Some m) n = nat_le (m.start + n) (8 * length m.bytes.now)

-- the bytes of row i: those between its two offsets
abbrev pub bytes_at : List ℤ → List ℕ → ℕ → List ℕ
bytes_at os ds i = between (place (at os i)) (place (at os (i + 1))) ds

-- row i of the column over these lists
abbrev pub row_at : Lists → ℕ → SourceRow
row_at l i = record { valid = valid_at l.validity i; bytes = bytes_at (numbers l.offsets) l.«data».now i; base = place (at (numbers l.offsets) i) }

-- what the column over these lists means
unfoldable pub meaning_of : Lists → Meaning
meaning_of l = record { text = l.text; rows = map (row_at l) (range_with_len 0 l.rows) }

-- the length of each row
unfoldable pub lengths_of : Lists → List ℕ
lengths_of l = map (λ r. length r.bytes) (meaning_of l).rows

-- counts and sizes are right: one offset more than rows, and a map, where there is one, with a bit for each row
pub record Shaped (l : Lists) : Type 0 where
  pub few : l.rows ≤ 2147483647
  pub counted : length (numbers l.offsets) ≡ l.rows + 1
  pub mapped : covers l.validity l.rows ≡ true

-- the offsets keep the rules
abbrev pub Ordered : Lists → Type 0
Ordered l = AllRight (numbers l.offsets) (ceiling_of l.offsets) (length l.«data».now)

-- each of the first n rows is text, null rows too, if the column is
abbrev pub TextsTo : Lists → ℕ → Type 0
TextsTo l n = l.text ≡ true → (i : ℕ) → i < n → Text (bytes_at (numbers l.offsets) l.«data».now i)

-- the same of every row, as a test that a column's type can hold
abbrev pub TextsTested : Lists → Type 0
TextsTested l = l.text ≡ true → (i : ℕ) → i < l.rows → is_text (bytes_at (numbers l.offsets) l.«data».now i) ≡ true
