-- Calls that may be refused.
use Rattle.std.proofs.Common.{◌≡◌, None, Some, Ok, Option}
use Rattle.std.specs.Option.{ok_or}
use Rattle.job.specs.declared.fault.JobError.{JobError}
use Rattle.job.specs.declared.fault.JobError.TheVariants.{Memory, Fault}
use Rattle.job.specs.declared.fault.JobFault.{JobFault}
use Rattle.job.specs.Faults.{OnFault}

pub given_some : {T E : Type 0} (o : Option T) (d : E) (x : T) → Ok x ≡ ok_or o d → o ≡ Some x
given_some None d x h = cc
given_some (Some y) d x h = cc

-- what a fault says, made weaker
pub fault_weaker : (P Q : JobFault → Type 0) (e : JobError) → ((f : JobFault) → P f → Q f) → OnFault P e → OnFault Q e
fault_weaker P Q (Memory m) k h = tt
fault_weaker P Q (Fault f) k h = k f h
