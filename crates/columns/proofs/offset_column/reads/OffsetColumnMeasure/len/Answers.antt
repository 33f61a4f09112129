use Rattle.std.proofs.Common.{sym}
use Rattle.columns.proofs.Lengths.{count_lengths}
use Rattle.columns.proofs.offset_column.reads.OffsetColumnMeasure.len.Goals as goal

pub returns : goal.returns
returns c = sym (count_lengths c.args.self.now.sound.lists)
