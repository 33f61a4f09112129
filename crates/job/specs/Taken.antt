-- Column records as they are taken.
use Rattle.std.specs.Prelude.{◌≡◌, ℕ, List, ◌++◌, Some, Option}
use Rattle.columns.specs.Faults as columns
use Rattle.kinds.specs.Faults as kinds
use Rattle.records.specs.Formats.{letters, Lawful}
use Rattle.records.specs.Layout.{GivenRow, Laid}
use Rattle.records.specs.declared.format.Format.{Format}
use Rattle.job.specs.declared.entry.Entry.{Entry}
use Rattle.job.specs.declared.fault.JobFault.{JobFault}
use Rattle.job.specs.declared.fault.JobFault.TheVariants.{Record, NotRead, File, Column, Kind}
use Rattle.job.specs.Transcript.{ColumnAnswer, answer_line}

-- a column record of this format and rows part meets this fault: 17 where the part is not laid out as rows, else what making
-- the column answers
abbrev pub Meets : Format → List ℕ → JobFault → Type 0
Meets x part Record = (rs : List GivenRow) → Laid part rs → ⊥
Meets x part NotRead = ⊥
Meets x part File = ⊥
Meets x part (Column f) = (rs : List GivenRow) × Laid part rs × ColumnAnswer x rs (Some (columns.number f))
Meets x part (Kind f) = (rs : List GivenRow) × Laid part rs × ColumnAnswer x rs (Some (kinds.number f))

-- these letters are no format, or this part is not laid out as rows
abbrev pub NotListed : List ℕ → List ℕ → Type 0
NotListed ls part = (x : Format) → Lawful x → ls ≡ letters x → (rs : List GivenRow) → Laid part rs → ⊥

-- the entry e keeps the record of these letters and this rows part; what it prints was added
pub record Taken (ls part : List ℕ) (e : Entry) (before after : List ℕ) : Type 0 where
  pub rows : List GivenRow
  pub answer : Option ℕ
  pub lawful : Lawful e.format
  pub spelt : ls ≡ letters e.format
  pub kept : e.part.now ≡ part
  pub laid : Laid part rows
  pub answered : ColumnAnswer e.format rows answer
  pub printed : after ≡ before ++ answer_line answer
