use Rattle.std.proofs.Common.{◌+◌, ◌∷◌, drop, ap, ◌∙◌}
use Rattle.std.proofs.lemmas.List.{drop_more}
use Rattle.columns.specs.Rows.{SourceRow, row_of}
use Rattle.columns.proofs.rows.RowsIterator.next.Goals as goal

pub returns-clause-steps : goal.returns-clause-steps
returns-clause-steps g c =
    let at = c.args.self.now in
    let rows = (g.S.Source.meaning at.source.now).rows in
    let h = c.in_ok-row.ensures in
    drop_more rows at.next (row_of c.in_ok-row.row) h.0 ∙ ap (λ (r : SourceRow). r ∷ drop (at.next + 1) rows) (h.1 (row_of c.in_ok-row.row))
