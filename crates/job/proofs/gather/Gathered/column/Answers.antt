use Rattle.std.proofs.Common.{ℕ, ◌≤◌, map, sym, refl, ap, ◌∙◌, subst, arith}
use Rattle.job.proofs.FromRows.{over_from, made_over}
use Rattle.job.proofs.gather.Gathered.column.Goals as goal

pub returns : goal.returns
returns g c = λ rs y.
    made_over _ g.O.Offset.ceiling rs c.new.result
    (over_from g.O.Offset.number c.args.self.now rs c.args.text _ c.lend.result c.deref-3.result _ y (let some = c.args.self.now.begun in omega arith)
    (subst (λ (x : ℕ). 2147483647 ≤ x) (sym c.lend.ensures.ceiling) g.met.O.Offset.least)
    (c.lend.ensures.numbers ∙ ap (map g.O.Offset.number) c.deref-2.ensures.value)
    c.deref-3.ensures.value c.deref.ensures.value refl)
    c.lend.ensures.ceiling c.new.ensures
