use Rattle.std.proofs.Common.{ℕ, ◌<◌}
use Rattle.encoding.specs.Offsets.{numbers}
use Rattle.encoding.specs.Utf8.{Text}
use Rattle.columns.specs.Lists.{bytes_at}
use Rattle.columns.proofs.sound.SoundLists.check_texts.Given as goal

abbrev pub invariant-loop-row : goal.invariant-loop-row
invariant-loop-row l = (k : ℕ) → k < l.row-counter → Text (bytes_at (numbers l.self.lists.offsets) l.self.lists.«data».now k)
