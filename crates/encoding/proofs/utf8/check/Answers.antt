use Rattle.std.proofs.Common.{◌≡◌, ℕ, ◌+◌, List, length, drop, sym, refl, ap, ◌∙◌, subst, Err, arith, length-drop}
use Rattle.std.proofs.lemmas.Grind.{common_steps}
use Rattle.std.proofs.lemmas.List.{drop-drop}
use Rattle.encoding.specs.Utf8.{Unreadable, Front, none}
use Rattle.encoding.proofs.Texts.{front_some}
use Rattle.encoding.proofs.Reading.{reaches_more, unreadable_no_text}
use Rattle.encoding.proofs.Scalars.{rfc3629}
use Rattle.encoding.proofs.utf8.check.Goals as goal

pub loop-rest-init : goal.loop-rest-init
loop-rest-init c = (refl, (0, (omega arith, none)))

pub returns-in_err-n : goal.returns-in_err-n
returns-in_err-n c =
    let s : List ℕ = c.args.s.now in
    let p = c.loop-rest.place in
    let i = c.loop-rest.invariant in
    let f = rw c.in_err-n.ensures.ok_part at c.first_char.ensures in
    let u : Unreadable s p = record {
      inside = grind (arith, common_steps);
      before = (i.1.0, i.1.1.1);
      stops = λ n h. f n (subst (λ (l : List ℕ). Front l n) (sym i.0) h);
    } in
    let e : c.from_residual.result ≡ Err (record { place = p }) = grind (arith, common_steps) in
    rw e (record { answer = (u, unreadable_no_text s p u); law = rfc3629 })

pub loop-rest-smaller : goal.loop-rest-smaller
loop-rest-smaller c =
    let f = rw c.in_ok-n.ensures.ok_part at c.first_char.ensures in
    omega (arith, front_some _ _ f.0, ap length f.1, f.0.0, length-drop c.in_ok-n.n c.loop-rest.rest.now)

pub loop-rest-preserved : goal.loop-rest-preserved
loop-rest-preserved c =
    let n = c.in_ok-n.n in
    let f = rw c.in_ok-n.ensures.ok_part at c.first_char.ensures in
    let i = c.loop-rest.invariant in (
      f.1 ∙ ap (drop n) i.0 ∙ drop-drop n c.loop-rest.place c.args.s.now,
      (i.1.0 + 1, reaches_more _ _ _ _ _ i.1.1 i.0 f.0),
    )

pub returns-clause-law : goal.returns-clause-law
returns-clause-law c = rfc3629
