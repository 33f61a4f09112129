-- Numbers in a signed width, and offsets that keep the rules.
use Rattle.std.proofs.Common.{◌≡◌, ℕ, suc, ◌+◌, ◌-◌, ◌*◌, ◌/◌, ◌%◌, ◌<◌, ◌≤◌, leb, List, map, length, get_or, ℤ, pos, negsuc, ◌+ℤ◌, ◌≤ℤ◌, sym, ap, ◌∙◌, subst, inl, inr, mod-lt, mod-eq_of_lt, add-mul, arith}
use Rattle.std.proofs.lemmas.Nat.{div-add-mod'}
use Rattle.std.proofs.lemmas.List.{get_or-map}
use Rattle.std.proofs.lemmas.Int.{ints}
use Rattle.std.proofs.lemmas.Bool.{cases_lt, cond-true, cond-false, le-leb, lt-leb}
use Rattle.encoding.specs.Offsets.{wrapped, Wraps, at}

-- how many numbers the width has whose greatest number is c
abbrev span : ℕ → ℕ
span c = 2 * (c + 1)

pub wrapped_low : (c x : ℕ) → x % span c ≤ c → wrapped c x ≡ pos (x % span c)
wrapped_low c x h = cond-true (leb (x % span c) c) (pos (x % span c)) (negsuc (span c - suc (x % span c))) (le-leb (x % span c) c h)

pub wrapped_high : (c x : ℕ) → c < x % span c → wrapped c x ≡ negsuc (span c - suc (x % span c))
wrapped_high c x h = cond-false (leb (x % span c) c) (pos (x % span c)) (negsuc (span c - suc (x % span c))) (lt-leb (x % span c) c h)

abbrev Placed : ℕ → ℕ → ℤ → Type 0
Placed c x z = (negsuc c ≤ℤ z) × (z ≤ℤ pos c) × ((k : ℕ) × (z +ℤ pos (k * span c) ≡ pos x))

placed_low : (c x m q : ℕ) → m ≤ c → q * span c + m ≡ x → Placed c x (pos m)
placed_low c x m q h e = (grind (arith, ints), grind (arith, ints), (q, ap pos (omega arith)))

placed_high : (c x m q : ℕ) → c < m → m < span c → q * span c + m ≡ x → Placed c x (negsuc (span c - suc m))
placed_high c x m q h l e =
    let t : (q + 1) * span c ≡ q * span c + span c = add-mul q 1 (span c) ∙ omega arith in
    (grind (arith, ints), grind (arith, ints), (q + 1, ap (λ (y : ℕ). negsuc (span c - suc m) +ℤ pos y) t ∙ omega (arith, ints)))

pub wrapped_fits : (c x : ℕ) → x ≤ c → wrapped c x ≡ pos x
wrapped_fits c x h =
    let e : x % span c ≡ x = mod-eq_of_lt (omega arith) in
    wrapped_low c x (omega arith) ∙ ap pos e

pub wraps : Wraps
wraps c x =
    let m = x % span c in
    let e : (x / span c) * span c + m ≡ x = div-add-mod' x (span c) in
    let l : m < span c = mod-lt x (omega arith) in
    let p : Placed c x (wrapped c x) =
    elim (cases_lt c m) [
      | inl h ↦ subst (Placed c x) (sym (wrapped_high c x h)) (placed_high c x m (x / span c) h l e)
      | inr h ↦ subst (Placed c x) (sym (wrapped_low c x h)) (placed_low c x m (x / span c) h e)
    ] in
    (p.0, p.1, p.2, wrapped_fits c x)

-- what stands at i, among the numbers
pub at_number : {X : Type 0} (number : X → ℤ) (xs : List X) (i : ℕ) (x : X) → i < length xs → x ≡ get_or xs i x → at (map number xs) i ≡ number x
at_number number xs i x h e = get_or-map number xs i x (pos 0) h ∙ ap number (sym e)
