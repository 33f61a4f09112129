use Rattle.std.proofs.Common.{sym}
use Rattle.columns.specs.Meanings.{meaning_text}
use Rattle.columns.proofs.offset_column.reads.OffsetColumnSource.is_text.Goals as goal

pub returns : goal.returns
returns c = sym (meaning_text c.args.self.now.sound.lists)
