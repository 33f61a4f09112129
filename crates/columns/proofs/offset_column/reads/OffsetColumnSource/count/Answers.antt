use Rattle.std.proofs.Common.{sym}
use Rattle.columns.specs.Meanings.{count_rows}
use Rattle.columns.proofs.offset_column.reads.OffsetColumnSource.count.Goals as goal

pub returns : goal.returns
returns c = sym (count_rows c.args.self.now.sound.lists)
