use Rattle.std.proofs.lemmas.Result.{MatchResult-from_err}
use Rattle.records.proofs.Little.{reads_at, reads_same}
use Rattle.records.proofs.record.read_join.Goals as goal

pub returns-in_err-left : goal.returns-in_err-left
returns-in_err-left c = MatchResult-from_err _ _ _ c.from_residual.ensures.0 (λ _ x y h. c.in_err-left.ensures x h.0 h.1)

pub returns-in_err-right : goal.returns-in_err-right
returns-in_err-right c =
    MatchResult-from_err _ _ _ c.from_residual-in_err-right.ensures.0
    (λ _ x y h. c.in_err-right.ensures y (reads_at (reads_same h.1 c.in_ok-left.ensures).1 h.2))
