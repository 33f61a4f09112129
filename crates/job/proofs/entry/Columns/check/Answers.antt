use Rattle.std.proofs.Common.{Err, ap, ◌∙◌}
use Rattle.std.proofs.lemmas.Result.{err_from_is_err_and, MatchResult-weaker}
use Rattle.job.specs.States.{records_of}
use Rattle.job.proofs.Finding.{unread, column_checked}
use Rattle.job.proofs.entry.Columns.check.Goals as goal

pub returns-in_err-format : goal.returns-in_err-format
returns-in_err-format c =
    let p = err_from_is_err_and c.from_residual.result c.from_residual.ensures.1 in
    let h = c.in_err-format.ensures in
    rw (p.1, p.2) (h.0, unread (records_of c.args.self.now.entries.now) c.args.column h.1)

pub returns : goal.returns
returns c =
    column_checked (records_of c.args.self.now.entries.now) c.args.column c.in_ok-format.format _ c.check.result c.map_err.result c.in_ok-format.ensures c.check.ensures
    (MatchResult-weaker c.check.result c.map_err.ensures.cases (λ m e. e) (λ e k. let p = err_from_is_err_and c.map_err.result k in p.1 ∙ ap Err p.2))
