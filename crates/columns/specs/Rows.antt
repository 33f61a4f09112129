-- What a source means: its rows.
use Rattle.std.specs.Prelude.{◌≡◌, ℕ, ◌+◌, ◌<◌, ◌≤◌, Bool, true, List, length, slice_index_or}
use Rattle.columns.specs.declared.row.Row.{Row}
use Rattle.encoding.specs.Utf8.{Text}

-- a row as a source has it; its base is where its bytes begin in the source's data
pub record SourceRow : Type 0 where
  pub valid : Bool
  pub bytes : List ℕ
  pub base : ℕ

-- the row that an answer holds
abbrev pub row_of : Row → SourceRow
row_of w = record { valid = w.valid; bytes = w.bytes.now; base = w.base }

-- a source: a text mark and rows
pub record Meaning : Type 0 where
  pub text : Bool
  pub rows : List SourceRow

-- what holds of every source: few enough rows, each reaching no further than the 64-bit ceiling, text where it is marked so
pub record Good (m : Meaning) : Type 0 where
  pub few : length m.rows ≤ 2147483647
  pub reach : (i : ℕ) (d : SourceRow) → i < length m.rows → (slice_index_or m.rows i d).base + length (slice_index_or m.rows i d).bytes ≤ 9223372036854775807
  pub texts : m.text ≡ true → (i : ℕ) (d : SourceRow) → i < length m.rows → Text (slice_index_or m.rows i d).bytes
