use Rattle.std.proofs.lemmas.Result.{err_from_is_err_and}
use Rattle.job.proofs.column.check_in.Goals as goal

pub returns-in_err-column : goal.returns-in_err-column
returns-in_err-column g c =
    let p = err_from_is_err_and c.from_residual-in_err-column.result c.from_residual-in_err-column.ensures.1 in
    let k = c.in_ok-gather.ensures in
    let h = c.in_err-column.ensures k.0 k.2 in
    rw (p.1, p.2) (k.0, k.1, h.0, h.1, h.2)

pub returns : goal.returns
returns g c =
    let k = c.in_ok-gather.ensures in
    (k.0, k.1, (c.in_ok-column.ensures k.0 k.2).0)
