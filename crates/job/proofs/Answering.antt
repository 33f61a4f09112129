-- What a column record answers.
use Rattle.std.proofs.Common.{◌≡◌, ℕ, List, Some, None, Ok, Err, Option, Result, ◌++◌, MatchResult, refl, sym, subst}
use Rattle.records.specs.Formats.{letters, Lawful}
use Rattle.records.specs.Layout.{GivenRow, Laid}
use Rattle.records.specs.declared.format.Format.{Format}
use Rattle.job.specs.declared.column.OffsetFormat.{OffsetFormat}
use Rattle.job.specs.declared.fault.JobError.{JobError}
use Rattle.job.specs.declared.fault.JobError.TheVariants.{Memory, Fault}
use Rattle.job.specs.declared.entry.Entry.{Entry}
use Rattle.job.specs.declared.fault.JobFault.{JobFault}
use Rattle.job.specs.declared.fault.JobFault.TheVariants.{Record, NotRead, File, Column, Kind}
use Rattle.job.specs.Faults.{OnFault, number}
use Rattle.job.specs.Measured.{PartChecked}
use Rattle.job.specs.Taken.{Meets, Taken}
use Rattle.job.specs.Transcript.{built, ColumnAnswer, made, ill_formed, answer_line}

-- whether the column of a record in a format that is built can be made
pub answer_is : (x : Format) (k : OffsetFormat) (part : List ℕ) (r : Result (Unit {0}) JobError) → built x ≡ Some k → PartChecked k.text part r
    → MatchResult r (λ _. (rs : List GivenRow) × Laid part rs × ColumnAnswer x rs None) (OnFault (Meets x part))
answer_is x k part (Ok u) e h = (h.0, h.1, made k e h.2)
answer_is x k part (Err (Memory m)) e h = tt
answer_is x k part (Err (Fault Record)) e h = h
answer_is x k part (Err (Fault NotRead)) e h = absurd h
answer_is x k part (Err (Fault File)) e h = absurd h
answer_is x k part (Err (Fault (Column f))) e h = (h.0, h.1, subst (λ (n : ℕ). ColumnAnswer x h.0 (Some n)) (sym h.4) (ill_formed k e h.2 h.3))
answer_is x k part (Err (Fault (Kind f))) e h = absurd h

-- a fault that is no bad record has laid rows and is what making the column answers
pub answer_met : (x : Format) (part : List ℕ) (f : JobFault) → (f ≡ Record → ⊥) → Meets x part f
    → (rs : List GivenRow) × Laid part rs × ColumnAnswer x rs (Some (number f))
answer_met x part Record n h = absurd (n refl)
answer_met x part NotRead n h = absurd h
answer_met x part File n h = absurd h
answer_met x part (Column f) n h = h
answer_met x part (Kind f) n h = h

-- the entry of a record that was taken
pub taken_by : (e : Entry) (ls before after : List ℕ) (a : Option ℕ) → Lawful e.format × (ls ≡ letters e.format)
    → (rs : List GivenRow) × Laid e.part.now rs × ColumnAnswer e.format rs a → after ≡ before ++ answer_line a → Taken ls e.part.now e before after
taken_by e ls before after a l h p = record {
  rows = h.0;
  answer = a;
  lawful = l.0;
  spelt = l.1;
  kept = refl;
  laid = h.1;
  answered = h.2;
  printed = p;
}
