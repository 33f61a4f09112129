use Rattle.std.proofs.Common.{[], length, string_bytes}
use Rattle.job.specs.Steps.{state_of}
use Rattle.job.proofs.Stepping.{GoesOn}
use Rattle.job.proofs.run.run.Given as goal

abbrev pub invariant-loop-job : goal.invariant-loop-job
invariant-loop-job l = GoesOn (record { columns = []; operations = 0; rest = l.file }) (state_of l.job) (string_bytes l.out)

abbrev pub decreases-loop-job : goal.decreases-loop-job
decreases-loop-job l = length l.job.rest.now
