-- What operations print, by the columns that they name.
use Rattle.std.specs.Prelude.{◌≡◌, ℕ, ◌⊎◌, List, ◌++◌, length, Ok, Err, vec_items, Result}
use Rattle.std.specs.List.{flat_map}
use Rattle.kinds.specs.declared.fault.KindFault.TheVariants.{Lacks}
use Rattle.kinds.specs.declared.fault.KindFault.TheVariants.{Length as Measure}
use Rattle.records.specs.Layout.{GivenRow}
use Rattle.records.specs.declared.record.Record.{Record}
use Rattle.records.specs.declared.record.Record.TheVariants.{Column, Cut, CutByCharacter, Join, Length, BitLength}
use Rattle.job.specs.declared.column.OffsetFormat.{OffsetFormat}
use Rattle.job.specs.declared.fault.JobError.{JobError}
use Rattle.job.specs.declared.fault.JobError.TheVariants.{Memory, Fault}
use Rattle.job.specs.declared.fault.JobFault.TheVariants.{Record as NoRecord, NotRead, File, Column as NoColumn, Kind}
use Rattle.job.specs.declared.lengths.Lengths.{Lengths}
use Rattle.job.specs.Faults.{number}
use Rattle.job.specs.Lines.{line, number_line}
use Rattle.job.specs.Transcript.{ColumnRecord, Read, IsNotRead, Operation}

abbrev pub IsRead : List ColumnRecord → ℕ → Type 0
IsRead cs c = (k : OffsetFormat) × (rs : List GivenRow) × Read cs c k rs

-- what operation n prints that has this answer: its lengths, or the number of its fault; want of memory is not printed
abbrev pub Prints : ℕ → Result Lengths JobError → List ℕ → Type 0
Prints n (Ok m) s = s ≡ line n 0 (length (vec_items m.numbers)) m.nulls m.wrapped ++ flat_map number_line (vec_items m.numbers)
Prints n (Err (Memory e)) s = ⊥
Prints n (Err (Fault f)) s = s ≡ line n (number f) 0 0 0

-- the answer of an operation on columns a and b that is not built: 18 where one of them is not read, else 15
abbrev pub LackingAnswered : List ColumnRecord → ℕ → ℕ → Result Lengths JobError → Type 0
LackingAnswered cs a b (Ok m) = ⊥
LackingAnswered cs a b (Err (Memory e)) = Unit {0}
LackingAnswered cs a b (Err (Fault NoRecord)) = ⊥
LackingAnswered cs a b (Err (Fault NotRead)) = (c : ℕ) × ((a ≡ c) ⊎ (b ≡ c)) × IsNotRead cs c
LackingAnswered cs a b (Err (Fault File)) = ⊥
LackingAnswered cs a b (Err (Fault (NoColumn f))) = ⊥
LackingAnswered cs a b (Err (Fault (Kind Lacks))) = IsRead cs a × IsRead cs b
LackingAnswered cs a b (Err (Fault (Kind (Measure f)))) = ⊥

-- what the operation x adds; a column record is none, and adds nothing
abbrev pub OperatePrinted : List ColumnRecord → ℕ → Record → List ℕ → List ℕ → Type 0
OperatePrinted cs n (Column f p) before after = after ≡ before
OperatePrinted cs n (Cut k s l) before after = (added : List ℕ) × (after ≡ before ++ added) × Operation cs n (Cut k s l) added
OperatePrinted cs n (CutByCharacter k s l) before after = (added : List ℕ) × (after ≡ before ++ added) × Operation cs n (CutByCharacter k s l) added
OperatePrinted cs n (Join j k) before after = (added : List ℕ) × (after ≡ before ++ added) × Operation cs n (Join j k) added
OperatePrinted cs n (Length k) before after = (added : List ℕ) × (after ≡ before ++ added) × Operation cs n (Length k) added
OperatePrinted cs n (BitLength k) before after = (added : List ℕ) × (after ≡ before ++ added) × Operation cs n (BitLength k) added
