-- What making a column by offsets answers.
use Rattle.std.specs.Prelude.{◌≡◌, map, length, Result, MatchResult}
use Rattle.columns.specs.declared.fault.ColumnFault.{ColumnFault}
use Rattle.columns.specs.declared.lists.Lists.{Lists}
use Rattle.columns.specs.declared.offset_column.OffsetColumn.{OffsetColumn}
use Rattle.columns.specs.Grounds.{Refused}
use Rattle.columns.specs.Lists.{Shaped, Ordered, TextsTo, meaning_of, lengths_of}

-- the lists that a column stands over
abbrev pub lists_of : OffsetColumn → Lists
lists_of c = c.sound.lists

-- no ground holds, and c is the column over the lists l: it means their rows, and these rows' lengths
pub record Granted (l : Lists) (c : OffsetColumn) : Type 0 where
  pub kept : lists_of c ≡ l
  pub shaped : Shaped l
  pub ordered : Ordered l
  pub texts : TextsTo l l.rows
  pub rows : meaning_of (lists_of c) ≡ meaning_of l
  pub lengths : lengths_of (lists_of c) ≡ map (λ r. length r.bytes) (meaning_of l).rows

-- making a column answers it exactly when no ground holds
abbrev pub Made : Lists → Result OffsetColumn ColumnFault → Type 0
Made l r = MatchResult r (Granted l) (Refused l)
