use Rattle.std.proofs.Common.{subst}
use Rattle.std.proofs.lemmas.Result.{MatchResult-from_err}
use Rattle.records.specs.Layout.{LengthPart}
use Rattle.records.proofs.Little.{reads_at, reads_same}
use Rattle.records.proofs.record.read_cut.Goals as goal

pub returns-in_err-column : goal.returns-in_err-column
returns-in_err-column c = MatchResult-from_err _ _ _ c.from_residual.ensures.0 (λ _ d s l h. c.in_err-column.ensures d h.0 h.3)

pub returns-in_err-start : goal.returns-in_err-start
returns-in_err-start c =
    MatchResult-from_err _ _ _ c.from_residual-in_err-start.ensures.0
    (λ _ d s l h. c.in_err-start.ensures h.2 h.1 (reads_at (reads_same h.3 c.in_ok-column.ensures).1 h.4))

pub returns-in_err-length : goal.returns-in_err-length
returns-in_err-length c =
    MatchResult-from_err _ _ _ c.from_residual-in_err-length.ensures.0
    (λ _ d s l h.
    let r = reads_at (reads_same h.3 c.in_ok-column.ensures).1 h.4 in
    c.in_err-length.ensures l (subst (LengthPart l) (reads_same r c.in_ok-start.ensures).1 h.6))
