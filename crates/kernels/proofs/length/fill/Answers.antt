use Rattle.std.proofs.Common.{get_or, ℕ, ◌+◌, ◌≤◌, map, sym, ap, ◌∙◌, subst, inl, inr, arith}
use Rattle.std.proofs.lemmas.Bool.{cases_lt}
use Rattle.std.proofs.lemmas.Bool.Decides.{not_from_Decides}
use Rattle.std.proofs.lemmas.List.{length-map}
use Rattle.encoding.specs.Offsets.{wrapped}
use Rattle.kernels.specs.Lengths.{in_unit}
use Rattle.kernels.proofs.Filling.{one_more, over_more, over_same}
use Rattle.kernels.proofs.length.fill.Goals.{then-not-fits, else-not-fits}
use Rattle.kernels.proofs.length.fill.Goals as goal

pub loop-i-preserved : goal.loop-i-preserved
loop-i-preserved g c =
    let ls = g.M.Measure.lengths c.args.column.now in
    let u = c.args.unit in
    let k = g.O.Offset.ceiling in
    let i = c.loop-i.i in
    let m = c.in-Some.ensures in
    let v = c.loop-i.invariant in
    record {
      written = one_more (λ (n : ℕ). wrapped k (in_unit u n)) g.O.Offset.number ls (map g.O.Offset.number c.args.out.now) c.loop-i.out i c.wrapped.result v.written m.0
          (omega (arith, length-map c.args.out.now g.O.Offset.number, c.if-len-out.false, c.len.ensures))
          (c.wrapped.ensures ∙ ap (λ (n : ℕ). wrapped k (in_unit u n)) m.1);
      counted = elim c.if-not-fits.branch [
        | then-not-fits z ↦ z.over-is ∙ ap (λ (n : ℕ). n + 1) v.counted
            ∙ sym (over_more u k ls i m.0 (elim (cases_lt k (in_unit u (get_or ls i 0))) [
              | inl l ↦ l
              | inr h ↦ absurd (not_from_Decides _ c.fits.ensures z.if-not-fits.true (subst (λ (n : ℕ). in_unit u n ≤ k) (sym m.1) h))
            ]))
        | else-not-fits z ↦ z.over-is ∙ v.counted ∙ sym (over_same u k ls i m.0 (subst (λ (n : ℕ). in_unit u n ≤ k) m.1 (c.fits.ensures.0 z.if-not-fits.false)))
      ];
      few = elim c.if-not-fits.branch [
        | then-not-fits z ↦ omega (arith, z.over-is, v.few)
        | else-not-fits z ↦ omega (arith, z.over-is, v.few)
      ];
      within = omega (arith, m.0);
    }
