-- A job's state, from what the program holds.
use Rattle.std.specs.Prelude.{◌≡◌, ℕ, ◌<◌, ◌≤◌, List, map, length, Some, slice_index_or}
use Rattle.job.specs.declared.column.OffsetFormat.{OffsetFormat}
use Rattle.job.specs.declared.entry.Entry.{Entry}
use Rattle.job.specs.Transcript.{ColumnRecord, built}

abbrev pub record_of : Entry → ColumnRecord
record_of e = record { format = e.format; part = e.part.now }

abbrev pub records_of : List Entry → List ColumnRecord
records_of es = map record_of es

-- column k has a record, in a format that is built and with this rows part
pub record Has (cs : List ColumnRecord) (k : ℕ) (f : OffsetFormat) (part : List ℕ) : Type 0 where
  pub taken : ColumnRecord
  pub inside : k < length cs
  pub here : (d : ColumnRecord) → slice_index_or cs k d ≡ taken
  pub small : length taken.part ≤ 65536
  pub format : built taken.format ≡ Some f
  pub part_is : taken.part ≡ part
