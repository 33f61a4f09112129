use Rattle.std.proofs.Common.{length}
use Rattle.herringiron.proofs.run_job.Given as goal

abbrev pub decreases-loop-out : goal.decreases-loop-out
decreases-loop-out l = length l.job.rest.now
