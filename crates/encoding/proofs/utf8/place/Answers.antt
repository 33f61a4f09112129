use Rattle.std.proofs.Common.{ℕ, List, drop, sym, refl, ap, ◌∙◌, subst, arith}
use Rattle.std.proofs.lemmas.List.{drop-drop}
use Rattle.encoding.specs.Utf8.{Reaches, Front, none}
use Rattle.encoding.proofs.Reading.{reaches_more, reaches_none, reaches_text, not_reached}
use Rattle.encoding.proofs.utf8.place.Goals as goal

pub loop-init : goal.loop-init
loop-init c = (refl, (omega arith, none))

pub loop-preserved : goal.loop-preserved
loop-preserved c =
    let f = c.in_ok-n.ensures in
    let i = c.loop.invariant in (
      f.1 ∙ ap (drop c.in_ok-n.n) i.0 ∙ drop-drop c.in_ok-n.n c.loop.p c.args.s.now,
      reaches_more _ _ _ _ _ i.1 i.0 f.0,
    )

pub returns-in_err-n : goal.returns-in_err-n
returns-in_err-n c =
    let s : List ℕ = c.args.s.now in
    let i = c.loop.invariant in
    let h = reaches_none s c.loop.counter c.args.k c.loop.p i.1 c.loop-test.true
    (λ n f. c.in_err-n.ensures n (subst (λ (l : List ℕ). Front l n) (sym i.0) f)) in
    rw c.from_residual.ensures (record { reads = h; text = λ n t. not_reached s n c.args.k t h })

pub returns : goal.returns
returns c =
    let s : List ℕ = c.args.s.now in
    let p = c.loop.p in
    let r : Reaches s c.args.k p = subst (λ (k : ℕ). Reaches s k p) (omega arith) c.loop.invariant.1 in
    record { reads = r; text = λ n t. reaches_text s n c.args.k p t r }
