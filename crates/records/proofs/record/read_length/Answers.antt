use Rattle.std.proofs.Common.{arith}
use Rattle.std.proofs.lemmas.Result.{MatchResult-from_err}
use Rattle.records.proofs.Bodies.{length_unmarked, length_missing}
use Rattle.records.proofs.record.read_length.Goals as goal

pub returns-in_err-rest : goal.returns-in_err-rest
returns-in_err-rest c = MatchResult-from_err _ _ _ c.from_residual.ensures.0 (λ _. length_unmarked _ c.in_err-rest.ensures)

pub returns-in_err-last-in-true-default : goal.returns-in_err-last-in-true-default
returns-in_err-last-in-true-default c =
    MatchResult-from_err _ _ _ c.from_residual-in_err-last-in-true-default.ensures.0
    (λ _. length_missing c.args.b.now c.in_ok-rest.field-0.1.now (grind arith) c.in_err-last-in-true-default.ensures)
