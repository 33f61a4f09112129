use Rattle.std.proofs.Common.{[]}
use Rattle.std.proofs.lemmas.Result.{MatchResult-from_err}
use Rattle.records.proofs.record.last.Goals as goal

pub returns-in_err-x : goal.returns-in_err-x
returns-in_err-x g c = MatchResult-from_err _ _ _ c.from_residual.ensures.0 (λ _ x r. c.in_err-x.ensures x [] r)
