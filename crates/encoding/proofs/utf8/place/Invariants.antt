use Rattle.std.proofs.Common.{◌≡◌, drop}
use Rattle.encoding.specs.Utf8.{Reaches}
use Rattle.encoding.proofs.utf8.place.Given as goal

abbrev pub invariant-loop : goal.invariant-loop
invariant-loop l = (l.rest ≡ drop l.p l.s) × Reaches l.s l.counter l.p
