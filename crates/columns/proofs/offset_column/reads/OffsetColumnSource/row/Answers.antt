use Rattle.std.proofs.Common.{sym, ◌∙◌, arith}
use Rattle.columns.specs.Meanings.{count_rows, row_in}
use Rattle.columns.proofs.offset_column.reads.OffsetColumnSource.row.Goals as goal

pub returns-then-i-self : goal.returns-then-i-self
returns-then-i-self c = omega (arith, count_rows c.args.self.now.sound.lists, c.if-i-self.true)

pub returns : goal.returns
returns c =
    let l = c.args.self.now.sound.lists in (
      omega (arith, count_rows l, c.if-i-self.false),
      λ d. row_in l c.args.i d c.if-i-self.false
          ∙ (λ j. record { valid = sym c.valid.ensures j; bytes = sym c.part-base.ensures.1 j; base = sym c.part-base.ensures.0 j }),
    )
