use Rattle.std.proofs.lemmas.Result.{err_from_is_err_and}
use Rattle.job.proofs.FromRows.{part_from}
use Rattle.job.proofs.column.measure_in.Goals as goal

pub returns-in_err-column : goal.returns-in_err-column
returns-in_err-column g c =
    let p = err_from_is_err_and c.from_residual-in_err-column.result c.from_residual-in_err-column.ensures.1 in
    let k = c.in_ok-lists.ensures in
    let h = c.in_err-column.ensures k.0 k.2 in
    rw (p.1, p.2) (k.0, k.1, h.0, h.1, h.2)

pub returns : goal.returns
returns g c =
    let k = c.in_ok-lists.ensures in
    part_from c.args.unit c.args.text k.0 g.O.Offset.ceiling c.args.part.bytes.now c.in_ok-column.column c.lengths_of.result k.1
    (c.in_ok-column.ensures k.0 k.2) c.lengths_of.ensures
