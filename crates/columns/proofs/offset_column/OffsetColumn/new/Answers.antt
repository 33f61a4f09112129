use Rattle.std.proofs.lemmas.Result.{err_from_is_err_and}
use Rattle.std.proofs.lemmas.Bool.{both_ways}
use Rattle.encoding.proofs.Scalars.{is_text_from}
use Rattle.columns.specs.Lists.{TextsTo}
use Rattle.columns.proofs.Making.{granted, refused}
use Rattle.columns.proofs.offset_column.OffsetColumn.new.Goals as goal
use Rattle.columns.proofs.offset_column.OffsetColumn.new.Goals.{Joined-sound, then-sound+in_ok-check_texts, else-sound}

texts : (c : Joined-sound) → TextsTo c.in_ok-sound.sound.lists c.in_ok-sound.sound.lists.rows
texts c =
    elim c.if-sound.branch [
      | then-sound+in_ok-check_texts w ↦ w.in_ok-check_texts.ensures
      | else-sound w ↦ λ e. absurd (both_ways c.in_ok-sound.sound.lists.text w.if-sound.false e)
    ]

pub invariant_of-result : goal.invariant_of-result
invariant_of-result c = record { texts = λ e i h. is_text_from _ (texts c e i h) }

pub returns-in_err-check_texts : goal.returns-in_err-check_texts
returns-in_err-check_texts c =
    let p = err_from_is_err_and c.from_residual-in_err-check_texts.result c.from_residual-in_err-check_texts.ensures.1 in
    rw (p.1, p.2) (refused c.args.lists c.in_ok-sound.sound c.in_err-check_texts.field-0.0 c.in_ok-sound.ensures c.if-sound.true c.in_err-check_texts.ensures)

pub returns : goal.returns
returns c = granted c.args.lists c.in_ok-sound.sound _ c.in_ok-sound.ensures (texts (goal.at.returns c).Joined-sound)
