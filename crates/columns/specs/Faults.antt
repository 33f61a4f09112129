-- The number of each fault in making a column, and what it tells.
use Rattle.std.specs.Prelude.{ℕ}
use Rattle.columns.specs.declared.fault.ColumnFault.{ColumnFault}
use Rattle.columns.specs.declared.fault.ColumnFault.TheVariants.{Shape, Offset, View, Text}

abbrev pub number : ColumnFault → ℕ
number Shape = 1
number (Offset row) = 2
number (View row) = 3
number (Text row fault) = 4

-- the row told, 0 where none is
abbrev pub row_told : ColumnFault → ℕ
row_told Shape = 0
row_told (Offset row) = row
row_told (View row) = row
row_told (Text row fault) = row
