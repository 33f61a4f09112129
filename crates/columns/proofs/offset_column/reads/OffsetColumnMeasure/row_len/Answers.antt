use Rattle.std.proofs.Common.{length, sym, ap, ◌∙◌, arith}
use Rattle.columns.proofs.Lengths.{count_lengths, length_in}
use Rattle.columns.proofs.offset_column.reads.OffsetColumnMeasure.row_len.Goals as goal

pub returns-then-i-self : goal.returns-then-i-self
returns-then-i-self c = omega (arith, count_lengths c.args.self.now.sound.lists, c.if-i-self.true)

pub returns : goal.returns
returns c =
    let l = c.args.self.now.sound.lists in
    (omega (arith, count_lengths l, c.if-i-self.false), ap length c.part.ensures.1 ∙ sym (length_in l c.args.i c.if-i-self.false))
