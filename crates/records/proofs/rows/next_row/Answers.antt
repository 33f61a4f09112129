use Rattle.std.proofs.Common.{◌<◌, length, ap, length-append, arith}
use Rattle.std.proofs.lemmas.Result.{MatchResult-from_err}
use Rattle.records.proofs.Little.{reads_same}
use Rattle.records.proofs.RowParts.{row_after}
use Rattle.records.proofs.rows.next_row.Goals as goal

pub returns-in_err-size-clause-reads : goal.returns-in_err-size-clause-reads
returns-in_err-size-clause-reads c =
    MatchResult-from_err _ _ _ c.from_residual-in_err-size.ensures.0
    (λ _ v s rest h. c.in_err-size.ensures _ _ (row_after c.in_ok-valid.ensures v s rest h))

pub returns-in_err-bytes-clause-reads : goal.returns-in_err-bytes-clause-reads
returns-in_err-bytes-clause-reads c =
    let l : length c.in_ok-size.rest.now < c.in_ok-size.size = grind arith in
    MatchResult-from_err _ _ _ c.from_residual-in_err-bytes.ensures.0
    (λ _ v s rest h.
    let i = reads_same (row_after c.in_ok-valid.ensures v s rest h) c.in_ok-size.ensures in
    omega (arith, l, i.0, ap length i.1, length-append s rest))
