use Rattle.std.proofs.Common.{◌≡◌, ℕ, ◌<◌, get_or, take, fold}
use Rattle.std.specs.Int.{IsInRange}
use Rattle.records.proofs.Widths.{with_digit}
use Rattle.records.proofs.format.read_width.Given as goal

abbrev pub invariant-loop-b : goal.invariant-loop-b
invariant-loop-b l = (l.width ≡ fold with_digit 0 (take l.b-index l.digits)) × ((k : ℕ) → k < l.b-index → IsInRange 48 57 (get_or l.digits k 0))
