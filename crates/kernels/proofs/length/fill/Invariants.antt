use Rattle.kernels.proofs.Filling.{Filling}
use Rattle.kernels.proofs.length.fill.Given as goal

abbrev pub invariant-loop-i : goal.invariant-loop-i
invariant-loop-i g l = Filling l.unit g.O.Offset.number g.O.Offset.ceiling (g.M.Measure.lengths l.column) l.initial.out l.out l.i l.over
