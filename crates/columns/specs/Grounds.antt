-- The grounds against making a column by offsets.
use Rattle.std.specs.Prelude.{◌≡◌, ℕ, ◌-◌, ◌<◌, true, length}
use Rattle.encoding.specs.Offsets.{numbers, FirstWrong}
use Rattle.encoding.specs.Utf8 as utf8
use Rattle.encoding.specs.Utf8.{Unreadable}
use Rattle.columns.specs.declared.fault.ColumnFault.{ColumnFault}
use Rattle.columns.specs.declared.fault.ColumnFault.TheVariants.{Shape, Offset, View, Text}
use Rattle.columns.specs.declared.lists.Lists.{Lists}
use Rattle.columns.specs.Lists.{Shaped, Ordered, bytes_at}

-- the fault of the first row that is no text, with the place where its first unreadable character begins
abbrev pub FirstIllFormed : Lists → ColumnFault → Type 0
FirstIllFormed l Shape = ⊥
FirstIllFormed l (Offset row) = ⊥
FirstIllFormed l (View row) = ⊥
FirstIllFormed l (Text row fault) =
    (row < l.rows) × ((i : ℕ) → i < row → utf8.Text (bytes_at (numbers l.offsets) l.«data».now i))
    × Unreadable (bytes_at (numbers l.offsets) l.«data».now row) fault.place

-- the first ground that holds, each tried over all rows before the next, with what it tells
abbrev pub Refused : Lists → ColumnFault → Type 0
Refused l Shape = Shaped l → ⊥
Refused l (Offset row) = Shaped l × ((k : ℕ) × FirstWrong (numbers l.offsets) (length l.«data».now) k × (row ≡ k - 1))
Refused l (View row) = ⊥
Refused l (Text row fault) = Shaped l × Ordered l × (l.text ≡ true) × FirstIllFormed l (Text row fault)
