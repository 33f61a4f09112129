use Rattle.std.proofs.Common.{refl, inl, inr}
use Rattle.std.proofs.lemmas.Result.{err_from_is_err_and}
use Rattle.job.specs.States.{records_of}
use Rattle.job.proofs.Printing.{lacking_unread}
use Rattle.job.proofs.operate.lacking.Goals as goal

pub returns-in_err-check : goal.returns-in_err-check
returns-in_err-check c =
    let p = err_from_is_err_and c.from_residual.result c.from_residual.ensures.1 in
    rw (p.1, p.2) (lacking_unread (records_of c.args.columns.now.entries.now) c.args.left c.args.right c.args.left c.in_err-check.field-0.0 (inl refl) c.in_err-check.ensures)

pub returns-in_err-check-2 : goal.returns-in_err-check-2
returns-in_err-check-2 c =
    let p = err_from_is_err_and c.from_residual-in_err-check-2.result c.from_residual-in_err-check-2.ensures.1 in
    rw (p.1, p.2) (lacking_unread (records_of c.args.columns.now.entries.now) c.args.left c.args.right c.args.right c.in_err-check-2.field-0.0 (inr refl) c.in_err-check-2.ensures)
