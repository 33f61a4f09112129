use Rattle.std.proofs.Common.{◌<◌, arith}
use Rattle.columns.proofs.Lengths.{count_lengths, length_in, length_row}
use Rattle.columns.proofs.offset_column.OffsetColumn.is_wide.Goals as goal

pub returns-clause-low : goal.returns-clause-low
returns-clause-low c i h =
    let s = c.args.self.now.sound in
    let k : i < s.lists.rows = omega (arith, count_lengths s.lists, h) in
    omega (arith, length_in s.lists i k, length_row s.lists i s.shaped s.ordered k)
