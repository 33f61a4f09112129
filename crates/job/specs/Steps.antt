-- A job's steps, from what the program holds before and after.
use Rattle.std.specs.Prelude.{◌≡◌, ℕ, ◌<◌, Bool, true, false, List, [], ◌∷◌, ◌++◌, length, vec_items}
use Rattle.job.specs.declared.run.Job.{Job}
use Rattle.job.specs.declared.entry.Entry.{Entry}
use Rattle.job.specs.declared.fault.JobFault.{JobFault}
use Rattle.job.specs.Faults.{number}
use Rattle.job.specs.Lines.{refusal_line}
use Rattle.job.specs.States.{record_of, records_of}
use Rattle.job.specs.Taken.{Taken}
use Rattle.job.specs.Transcript.{State, Step, ended}

abbrev pub state_of : Job → State
state_of j = record { columns = records_of (vec_items j.columns); operations = j.operations; rest = j.rest.now }

-- a column record of these letters and this rows part was taken: an entry keeps it, and what it prints was added
abbrev pub Took : State → State → List ℕ → List ℕ → List ℕ → List ℕ → Type 0
Took s t ls part before after = (e : Entry) × Taken ls part e before after × (t ≡ record { columns = s.columns ++ record_of e ∷ []; operations = s.operations; rest = s.rest })

-- the fault f ends the job here; nothing has changed yet
pub record Ends (s t : State) (f : JobFault) (before after : List ℕ) : Type 0 where
  pub step : Step s (refusal_line (number f)) (ended s)
  pub same : t ≡ s
  pub silent : after ≡ before

-- a step was made: it added just what it prints, and less is left of the file
pub record Made (s t : State) (before after : List ℕ) : Type 0 where
  pub added : List ℕ
  pub printed : after ≡ before ++ added
  pub stepped : Step s added t
  pub shorter : length t.rest < length s.rest

-- true where a step was made; false where nothing is left of the file, and then nothing changed
abbrev pub Stepped : State → State → List ℕ → List ℕ → Bool → Type 0
Stepped s t before after true = Made s t before after
Stepped s t before after false = (s.rest ≡ []) × (t ≡ s) × (after ≡ before)
