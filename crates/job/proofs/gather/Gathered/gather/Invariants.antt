use Rattle.std.proofs.Common.{List, length}
use Rattle.records.specs.Layout.{GivenRow}
use Rattle.job.proofs.Growing.{Taken}
use Rattle.job.proofs.gather.Gathered.gather.Given as goal

abbrev pub invariant-loop-rest : goal.invariant-loop-rest
invariant-loop-rest g l = (rs : List GivenRow) × Taken g.O.Offset.number l.part.bytes.now l.rest l.lists rs

abbrev pub decreases-loop-rest : goal.decreases-loop-rest
decreases-loop-rest g l = length l.rest
