use Rattle.std.proofs.Common.{◌≡◌, ◌-◌, map, pos, sym, refl, ap, subst, ◌∙◌, add-one, below_more, arith, Err}
use Rattle.std.proofs.lemmas.Grind.{common_steps}
use Rattle.std.proofs.lemmas.List.{length-map}
use Rattle.std.proofs.lemmas.Int.{ints}
use Rattle.encoding.specs.Offsets.{at, before, FirstWrong, Judged}
use Rattle.encoding.proofs.Widths.{at_number}
use Rattle.encoding.proofs.offsets.check.Goals as goal

pub returns-in_err-last : goal.returns-in_err-last
returns-in_err-last g c =
    let number = g.O.Offset.number in
    let os = map number c.args.offsets.now in
    let i = c.loop-i.i in
    let read = at_number number c.args.offsets.now i c.index-offsets-i.result c.loop-i-test.true c.index-offsets-i.is in
    let first : FirstWrong os c.args.end i = record {
      inside = simp length-map c.loop-i-test.true;
      earlier = c.loop-i.invariant.1;
      wrong = λ r. grind (arith, common_steps, ints, r.0, r.1, r.2, c.loop-i.invariant.0);
    } in
    let e : c.from_residual.result ≡ Err (record { row = i - 1 }) = grind (arith, common_steps) in
    subst (Judged os g.O.Offset.ceiling c.args.end) (sym e) (i, first, refl)

pub loop-i-preserved : goal.loop-i-preserved
loop-i-preserved g c =
    let number = g.O.Offset.number in
    let os = map number c.args.offsets.now in
    let i = c.loop-i.i in
    let last = c.loop-i.invariant.0 in
    let read : at os i ≡ pos c.in_ok-last.last =
    at_number number c.args.offsets.now i c.index-offsets-i.result c.loop-i-test.true c.index-offsets-i.is ∙ grind (arith, common_steps) in (
      ap (before os) (add-one i) ∙ read,
      below_more _ _ c.loop-i.invariant.1 (grind (arith, common_steps, ints), grind (arith, common_steps, ints), grind (arith, common_steps, ints)),
      below_more _ _ c.loop-i.invariant.2 (grind (arith, common_steps, ints)),
    )
