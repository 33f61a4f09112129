use Rattle.std.proofs.Common.{◌≡◌, ℕ, ◌<◌, map, pos, ◌≤ℤ◌}
use Rattle.encoding.specs.Offsets.{at, before, Right}
use Rattle.encoding.proofs.offsets.check.Given as goal

abbrev pub invariant-loop-i : goal.invariant-loop-i
invariant-loop-i g l = (before (map g.O.Offset.number l.offsets) l.i ≡ pos l.last) × ((k : ℕ) → k < l.i → Right (map g.O.Offset.number l.offsets) l.end k)
    × ((k : ℕ) → k < l.i → at (map g.O.Offset.number l.offsets) k ≤ℤ pos g.O.Offset.ceiling)
