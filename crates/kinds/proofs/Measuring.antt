-- Lengths by kind, from what the kernel answers and writes.
use Rattle.std.proofs.Common.{◌≡◌, ℕ, suc, ◌<◌, ◌≤◌, cond, ltb, List, [], ◌∷◌, map, length, get_or, ℤ, pos, Some, None, Ok, Err, Option, sym, refl, ap, ◌∙◌, inl, inr, arith}
use Rattle.std.proofs.lemmas.Bool.{cases_Bool, cond-true, cond-false}
use Rattle.encoding.specs.Offsets.{wrapped}
use Rattle.encoding.proofs.Widths.{wrapped_fits}
use Rattle.kernels.specs.declared.length.LengthFault.TheVariants.{Rows}
use Rattle.kernels.specs.declared.length.Unit.TheVariants.{Bytes}
use Rattle.kinds.specs.declared.fault.KindFault.TheVariants.{Length}
use Rattle.kinds.specs.Lengths.{Measured, ceiling, room, Low, true_lengths, in_width, over_of, laid, narrow_after, wide_after, answer}

map_low : (c : ℕ) (ls : List ℕ) → ((i : ℕ) → i < length ls → get_or ls i 0 ≤ c) → map (λ n. wrapped c n) ls ≡ map pos ls
map_low c [] h = refl
map_low c (n ∷ ls) h =
    ap (λ (z : ℤ). z ∷ map (λ k. wrapped c k) ls) (wrapped_fits c n (h 0 (omega arith)))
    ∙ ap (λ zs. pos n ∷ zs) (map_low c ls (λ i l. h (suc i) (omega arith)))

-- lengths that fit their width stand as they are
pub narrow_true : (o : Option Measured) (out : List ℤ) → Low o → narrow_after (in_width Bytes) o out ≡ narrow_after true_lengths o out
narrow_true None out h = refl
narrow_true (Some m) out h = ap (λ (xs : List ℤ). cond m.wide out (laid xs out)) (map_low (ceiling m.wide) m.lengths h)

pub wide_true : (o : Option Measured) (out : List ℤ) → Low o → wide_after (in_width Bytes) o out ≡ wide_after true_lengths o out
wide_true None out h = refl
wide_true (Some m) out h = ap (λ (xs : List ℤ). cond m.wide (laid xs out) out) (map_low (ceiling m.wide) m.lengths h)

pub answer_granted : (o : Option Measured) (ns ws : List ℤ) (n : ℕ) → Ok n ≡ answer (over_of Bytes) o ns ws → Ok tt ≡ answer {X = Unit {0}} (λ _. tt) o ns ws
answer_granted None ns ws n h = absurd (let w : ◌≡◌ {A = ℕ} 0 1 = cc in omega arith)
answer_granted (Some m) ns ws n h =
    let t = ltb (room m.wide ns ws) (length m.lengths) in
    elim (cases_Bool t) [
      | inl q ↦ absurd (let z = h ∙ cond-true t (Err (Length Rows)) (Ok (over_of Bytes m)) q in let w : ◌≡◌ {A = ℕ} 0 1 = cc in omega arith)
      | inr q ↦ sym (cond-false t (Err (Length Rows)) (Ok tt) q)
    ]
