-- The number of each fault of a job, and what holds of an error.
use Rattle.std.specs.Prelude.{ℕ}
use Rattle.columns.specs.Faults as columns
use Rattle.kinds.specs.Faults as kinds
use Rattle.job.specs.declared.fault.JobError.{JobError}
use Rattle.job.specs.declared.fault.JobError.TheVariants.{Memory, Fault}
use Rattle.job.specs.declared.fault.JobFault.{JobFault}
use Rattle.job.specs.declared.fault.JobFault.TheVariants.{Record, NotRead, File, Column, Kind}

abbrev pub number : JobFault → ℕ
number Record = 17
number NotRead = 18
number File = 19
number (Column f) = columns.number f
number (Kind f) = kinds.number f

-- the error is want of memory, or a fault of which this holds
abbrev pub OnFault : (JobFault → Type 0) → JobError → Type 0
OnFault P (Memory e) = Unit {0}
OnFault P (Fault f) = P f

-- a column that cannot be made counts as not read
abbrev pub unread_of : JobError → JobError
unread_of (Memory e) = Memory e
unread_of (Fault Record) = Fault NotRead
unread_of (Fault NotRead) = Fault NotRead
unread_of (Fault File) = Fault File
unread_of (Fault (Column f)) = Fault NotRead
unread_of (Fault (Kind f)) = Fault (Kind f)
