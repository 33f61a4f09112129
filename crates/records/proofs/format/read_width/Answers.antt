use Rattle.std.proofs.Common.{◌≡◌, ℕ, ◌+◌, ◌*◌, ◌<◌, List, length, get_or, decimal, fold, sym, ap, ◌∙◌, inl, inr, arith, below_more}
use Rattle.std.proofs.lemmas.Grind.{common_steps}
use Rattle.std.proofs.lemmas.List.{take_all}
use Rattle.std.proofs.lemmas.List.Sums.{fold_more}
use Rattle.records.proofs.Widths.{with_digit, front_small, width_length, width_first, width_digit, width_value, width_text}
use Rattle.records.proofs.format.read_width.Goals as goal
use Rattle.records.proofs.format.read_width.Goals.{In_ok-d, After-loop-b}

pub returns-then-is_empty : goal.returns-then-is_empty
returns-then-is_empty c = λ w h e. let s = width_length c.args.digits.now w h e in grind (arith, common_steps, s.0, s.1)

pub returns-then-digits-gt1 : goal.returns-then-digits-gt1
returns-then-digits-gt1 c = λ w h e. width_first c.args.digits.now w h e c.if-digits-eq48.true c.if-digits-gt1.true

pub returns-in_err-d : goal.returns-in_err-d
returns-in_err-d c =
    rw c.from_residual.ensures
    (λ w h e. c.in_err-d.ensures (width_digit c.args.digits.now w c.loop-b.b-index h e c.loop-b-test.true))

-- what is read so far has at most ten digits
small : (c : In_ok-d) → c.loop-b.width < 10000000000
small c =
    let f = front_small c.args.digits.now c.loop-b.b-index (omega arith) (omega arith) c.loop-b.invariant.1 in
    omega (arith, f, c.loop-b.invariant.0)

pub overflow_mul-width : goal.overflow_mul-width
overflow_mul-width c = omega (arith, small c)

pub overflow_add-width : goal.overflow_add-width
overflow_add-width c = omega (arith, small (goal.at.overflow_add-width c).In_ok-d, c.in_ok-d.ensures)

pub loop-b-preserved : goal.loop-b-preserved
loop-b-preserved c =
    let i = c.loop-b.b-index in
    let s : List ℕ = c.args.digits.now in
    let d = c.in_ok-d.ensures in (
      (ap (λ (k : ℕ). c.loop-b.width * 10 + k) d.1 ∙ ap (λ (w : ℕ). with_digit w (get_or s i 0)) c.loop-b.invariant.0) ∙ sym (fold_more with_digit 0 s i 0 c.loop-b-test.true),
      below_more _ _ c.loop-b.invariant.1 d.0,
    )

-- after the loop all of the text is read
read : (c : After-loop-b) → c.loop-b.width ≡ fold with_digit 0 c.args.digits.now
read c = c.loop-b.invariant.0 ∙ ap (fold with_digit 0) (take_all c.loop-b.b-index c.args.digits.now c.loop-b-test.false)

pub returns-then-width-gt-MAX_WIDTH : goal.returns-then-width-gt-MAX_WIDTH
returns-then-width-gt-MAX_WIDTH c = λ w h e.
    omega (arith, width_value c.args.digits.now w h e, read (goal.at.returns-then-width-gt-MAX_WIDTH c).After-loop-b, c.if-width-gt-MAX_WIDTH.true)

pub returns : goal.returns
returns c =
    let s : List ℕ = c.args.digits.now in
    let r : c.loop-b.width ≡ fold with_digit 0 s = read (goal.at.returns c).After-loop-b in
    let e : 0 < length s = grind (arith, common_steps) in
    let z : get_or s 0 0 ≡ 48 → length s ≡ 1 = λ h. elim c.else-digits-eq48.either [ inl a ↦ omega (arith, a.1, e) | inr a ↦ absurd (a h) ] in
    (c.if-width-gt-MAX_WIDTH.false, width_text s (λ k h. c.loop-b.invariant.1 k (omega arith)) e z (omega (arith, r)) ∙ ap decimal (sym r))
