use Rattle.std.proofs.Common.{◌≡◌, ℕ, length, drop}
use Rattle.encoding.specs.Utf8.{Reaches}
use Rattle.encoding.proofs.utf8.check.Given as goal

abbrev pub invariant-loop-rest : goal.invariant-loop-rest
invariant-loop-rest l = (l.rest ≡ drop l.place l.s) × ((k : ℕ) × Reaches l.s k l.place)

abbrev pub decreases-loop-rest : goal.decreases-loop-rest
decreases-loop-rest l = length l.rest
