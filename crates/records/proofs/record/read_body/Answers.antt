use Rattle.std.proofs.Common.{◌∙◌}
use Rattle.std.proofs.lemmas.Result.{MatchResult-from_err}
use Rattle.records.specs.declared.record.RecordKind.TheVariants.{Cut, CutByCharacter, Join, Length, BitLength}
use Rattle.records.proofs.Bodies.{each_body}
use Rattle.records.proofs.record.read_body.Goals as goal

pub returns-in_err-column-in-Cut : goal.returns-in_err-column-in-Cut
returns-in_err-column-in-Cut c =
    MatchResult-from_err _ _ _ c.from_residual-in_err-column-in-Cut.ensures.0
    (λ _ x e. each_body (λ _. ⊥) Cut c.args.body.now c.in_err-column-in-Cut.ensures x (e ∙ c.in-Cut.is))

pub returns-in_err-column-in-CutByCharacter : goal.returns-in_err-column-in-CutByCharacter
returns-in_err-column-in-CutByCharacter c =
    MatchResult-from_err _ _ _ c.from_residual-in_err-column-in-CutByCharacter.ensures.0
    (λ _ x e. each_body (λ _. ⊥) CutByCharacter c.args.body.now c.in_err-column-in-CutByCharacter.ensures x (e ∙ c.in-CutByCharacter.is))

pub returns-in_err-left-in-Join : goal.returns-in_err-left-in-Join
returns-in_err-left-in-Join c =
    MatchResult-from_err _ _ _ c.from_residual-in_err-left-in-Join.ensures.0
    (λ _ x e. each_body (λ _. ⊥) Join c.args.body.now c.in_err-left-in-Join.ensures x (e ∙ c.in-Join.is))

pub returns-in_err-last-in-Length : goal.returns-in_err-last-in-Length
returns-in_err-last-in-Length c =
    MatchResult-from_err _ _ _ c.from_residual-in_err-last-in-Length.ensures.0
    (λ _ x e. each_body (λ _. ⊥) Length c.args.body.now c.in_err-last-in-Length.ensures x (e ∙ c.in-Length.is))

pub returns-in_err-last-in-BitLength : goal.returns-in_err-last-in-BitLength
returns-in_err-last-in-BitLength c =
    MatchResult-from_err _ _ _ c.from_residual-in_err-last-in-BitLength.ensures.0
    (λ _ x e. each_body (λ _. ⊥) BitLength c.args.body.now c.in_err-last-in-BitLength.ensures x (e ∙ c.in-BitLength.is))
