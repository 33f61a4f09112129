use Rattle.std.proofs.Common.{subst, below_more}
use Rattle.std.proofs.lemmas.Result.{MatchResult-at_ok}
use Rattle.encoding.specs.Utf8.{Text}
use Rattle.columns.proofs.Errors.{ok_before}
use Rattle.columns.proofs.sound.SoundLists.check_texts.Goals as goal

pub loop-row-preserved : goal.loop-row-preserved
loop-row-preserved c =
    below_more _ _ c.loop-row.invariant
    (subst Text c.part.ensures.1 (MatchResult-at_ok _ _ _ (ok_before _ c.check.result c.map_err.result _ c.map_err.ensures.cases c.in_ok-map_err.was) c.check.ensures.answer))
