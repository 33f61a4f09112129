use Rattle.std.specs.Fmt.{digits}
use Rattle.job.proofs.print.LineDisplay.fmt.Goals as goal

pub returns-in-Ok-clause-writes : goal.returns-in-Ok-clause-writes
unfolding digits
returns-in-Ok-clause-writes g c = rw (c.in-Ok.is, ← c.in-Ok.lengths.now.numbers.ok.0, ← c.len-rows.ensures) c.write.ensures.writes

pub returns-in-Err-clause-writes : goal.returns-in-Err-clause-writes
unfolding digits
returns-in-Err-clause-writes g c = rw (c.in-Err.is, ← c.number.ensures) c.write-in-Err.ensures.writes
