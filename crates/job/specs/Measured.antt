-- What a column's lengths are, in terms of what it means.
use Rattle.std.specs.Prelude.{◌≡◌, ℕ, ◌<◌, ◌≤◌, Bool, true, not, List, length, Ok, Err, vec_items, count_by, Result}
use Rattle.encoding.specs.Offsets.{ceiling_of}
use Rattle.columns.specs.declared.lists.Lists.{Lists}
use Rattle.columns.specs.Rows.{SourceRow}
use Rattle.columns.specs.Lists.{meaning_of, lengths_of}
use Rattle.kernels.specs.Lengths.{numbers_in, over_in}
use Rattle.kernels.specs.declared.length.LengthFault.TheVariants.{Rows}
use Rattle.kernels.specs.declared.length.Unit as unit
use Rattle.kinds.specs.declared.fault.KindFault.TheVariants.{Lacks, Length}
use Rattle.columns.specs.OffsetColumn.{lists_of}
use Rattle.columns.specs.declared.offset_column.OffsetColumn.{OffsetColumn}
use Rattle.job.specs.declared.fault.JobError.{JobError}
use Rattle.job.specs.declared.fault.JobError.TheVariants.{Memory, Fault}
use Rattle.job.specs.declared.fault.JobFault.TheVariants.{Record, NotRead, File, Column, Kind}
use Rattle.kinds.specs.Lengths.{ceiling}
use Rattle.columns.specs.Faults.{number}
use Rattle.records.specs.Layout.{Laid, GivenRow}
use Rattle.job.specs.declared.column.OffsetFormat.{OffsetFormat}
use Rattle.job.specs.declared.lengths.Lengths.{Lengths}
use Rattle.job.specs.Transcript.{ColumnRecord, AllText, Read, IsNotRead, nulls, sizes}

-- how many rows are null
abbrev pub null_rows : List SourceRow → ℕ
null_rows rs = count_by (λ r. not r.valid) rs

-- the numbers that a granted measure holds: so many nulls, and these lengths, one for each row, in this unit and in the width up to c
pub record Tells (u : unit.Unit) (c nulls : ℕ) (ls : List ℕ) (m : Lengths) : Type 0 where
  pub nulls_are : m.nulls ≡ nulls
  pub wrapped_are : m.wrapped ≡ over_in u c ls
  pub numbers_are : vec_items m.numbers ≡ numbers_in u c ls

-- measuring the column over these lists: its numbers, or 12 where it has more rows than there are places
abbrev pub MeasuredAs : unit.Unit → Lists → Result Lengths JobError → Type 0
MeasuredAs u l (Ok m) = (length (lengths_of l) ≤ 4096) × Tells u (ceiling_of l.offsets) (null_rows (meaning_of l).rows) (lengths_of l) m
MeasuredAs u l (Err (Memory e)) = Unit {0}
MeasuredAs u l (Err (Fault Record)) = ⊥
MeasuredAs u l (Err (Fault NotRead)) = ⊥
MeasuredAs u l (Err (Fault File)) = ⊥
MeasuredAs u l (Err (Fault (Column f))) = ⊥
MeasuredAs u l (Err (Fault (Kind Lacks))) = ⊥
MeasuredAs u l (Err (Fault (Kind (Length Rows)))) = 4096 < length (lengths_of l)

-- the column c shows the rows rs, in the width up to k
pub record Shows (k : ℕ) (rs : List GivenRow) (c : OffsetColumn) : Type 0 where
  pub ceiling_is : ceiling_of (lists_of c).offsets ≡ k
  pub lengths_are : lengths_of (lists_of c) ≡ sizes rs
  pub nulls_are : null_rows (meaning_of (lists_of c)).rows ≡ nulls rs

-- making the column of a record, text or not, whose rows part this is: 17 where the part is not laid out as rows, 4 where a
-- row of a text column is no text
abbrev pub PartChecked : Bool → List ℕ → Result (Unit {0}) JobError → Type 0
PartChecked text part (Ok u) = (rs : List GivenRow) × Laid part rs × (text ≡ true → AllText rs)
PartChecked text part (Err (Memory e)) = Unit {0}
PartChecked text part (Err (Fault Record)) = (rs : List GivenRow) → Laid part rs → ⊥
PartChecked text part (Err (Fault NotRead)) = ⊥
PartChecked text part (Err (Fault File)) = ⊥
PartChecked text part (Err (Fault (Column f))) = (rs : List GivenRow) × Laid part rs × (text ≡ true) × (AllText rs → ⊥) × (number f ≡ 4)
PartChecked text part (Err (Fault (Kind f))) = ⊥

-- measuring the column of a record, text or not, whose rows part this is, in the width up to c: its numbers; 12 where it has
-- more rows than there are places; 17 where the part is not laid out as rows; 4 where a row of a text column is no text
abbrev pub PartMeasured : unit.Unit → Bool → ℕ → List ℕ → Result Lengths JobError → Type 0
PartMeasured u text c part (Ok m) =
    (rs : List GivenRow) × Laid part rs × (text ≡ true → AllText rs) × (length rs ≤ 4096) × Tells u c (nulls rs) (sizes rs) m
PartMeasured u text c part (Err (Memory e)) = Unit {0}
PartMeasured u text c part (Err (Fault Record)) = (rs : List GivenRow) → Laid part rs → ⊥
PartMeasured u text c part (Err (Fault NotRead)) = ⊥
PartMeasured u text c part (Err (Fault File)) = ⊥
PartMeasured u text c part (Err (Fault (Column f))) = (rs : List GivenRow) × Laid part rs × (text ≡ true) × (AllText rs → ⊥) × (number f ≡ 4)
PartMeasured u text c part (Err (Fault (Kind Lacks))) = ⊥
PartMeasured u text c part (Err (Fault (Kind (Length Rows)))) = (rs : List GivenRow) × Laid part rs × (text ≡ true → AllText rs) × (4096 < length rs)

-- measuring column k of a job: its numbers, 12, or 18 where it is not read
abbrev pub ColumnMeasured : unit.Unit → List ColumnRecord → ℕ → Result Lengths JobError → Type 0
ColumnMeasured u cs k (Ok m) =
    (f : OffsetFormat) × (rs : List GivenRow) × Read cs k f rs × (length rs ≤ 4096) × Tells u (ceiling f.wide) (nulls rs) (sizes rs) m
ColumnMeasured u cs k (Err (Memory e)) = Unit {0}
ColumnMeasured u cs k (Err (Fault Record)) = ⊥
ColumnMeasured u cs k (Err (Fault NotRead)) = IsNotRead cs k
ColumnMeasured u cs k (Err (Fault File)) = ⊥
ColumnMeasured u cs k (Err (Fault (Column f))) = ⊥
ColumnMeasured u cs k (Err (Fault (Kind Lacks))) = ⊥
ColumnMeasured u cs k (Err (Fault (Kind (Length Rows)))) = (f : OffsetFormat) × (rs : List GivenRow) × Read cs k f rs × (4096 < length rs)
