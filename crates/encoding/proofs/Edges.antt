-- Boundaries of text are the places where characters begin.
use Rattle.std.proofs.Common.{rules, ◌≡◌, ℕ, zero, suc, ◌+◌, ◌-◌, ◌<◌, ◌≤◌, List, [], ◌∷◌, ◌++◌, length, get_or, sym, refl, ap, ◌∙◌, subst, inl, inr, append_assoc, arith}
use Rattle.std.proofs.lemmas.List.{get_or_append_left, get_or-append_right, length-append}
use Rattle.std.specs.Prelude.{All}
use Rattle.std.proofs.lemmas.List.Elements.{All-get_or}
use Rattle.std.proofs.lemmas.Bool.{cases_lt}
use Rattle.std.proofs.lemmas.Bool.Decides.{nat_tests}
use Rattle.encoding.specs.Utf8.{Char, utf8_1, utf8_2, utf8_3a, utf8_3b, utf8_3c, utf8_3d, utf8_4a, utf8_4b, utf8_4c, Chars, none, more, Begins, Boundary, Boundaries, Tail}
use Rattle.encoding.proofs.Chars.{char_size, char_told}

-- the bytes of a list after its first, all of them tails
after_first : (a : ℕ) (xs : List ℕ) → All Tail xs → (i : ℕ) → 0 < i → i < suc (length xs) → Tail (get_or (a ∷ xs) i 0)
after_first a xs h zero p q = absurd (omega arith)
after_first a xs h (suc i) p q = All-get_or Tail xs i 0 (omega arith) h

-- inside a character the bytes are tails
inside : {c : List ℕ} → Char c → (i : ℕ) → 0 < i → i < length c → Tail (get_or c i 0)
inside (utf8_1 h) i p q = absurd (omega arith)
inside (utf8_2 {a = a} {b = b} h t) i p q = after_first a (b ∷ []) (search rules) i p q
inside (utf8_3a {a = a} {b = b} {c = c} h k t) i p q = after_first a (b ∷ c ∷ []) (search rules) i p q
inside (utf8_3b {a = a} {b = b} {c = c} h k t) i p q = after_first a (b ∷ c ∷ []) (search rules) i p q
inside (utf8_3c {a = a} {b = b} {c = c} h k t) i p q = after_first a (b ∷ c ∷ []) (search rules) i p q
inside (utf8_3d {a = a} {b = b} {c = c} h k t) i p q = after_first a (b ∷ c ∷ []) (search rules) i p q
inside (utf8_4a {a = a} {b = b} {c = c} {d = d} h k t u) i p q = after_first a (b ∷ c ∷ d ∷ []) (search rules) i p q
inside (utf8_4b {a = a} {b = b} {c = c} {d = d} h k t u) i p q = after_first a (b ∷ c ∷ d ∷ []) (search rules) i p q
inside (utf8_4c {a = a} {b = b} {c = c} {d = d} h k t u) i p q = after_first a (b ∷ c ∷ d ∷ []) (search rules) i p q

-- the first byte is none
leads : {c : List ℕ} → Char c → Tail (get_or c 0 0) → ⊥
leads h t = let told = char_told h in grind (arith, nat_tests)

text_leads : {k : ℕ} {s : List ℕ} → Chars k s → 0 < length s → Tail (get_or s 0 0) → ⊥
text_leads none h u = absurd (omega arith)
text_leads (more {c = c} {t = t} {s = s} h r e) l u =
    leads h (subst Tail (ap (λ (x : List ℕ). get_or x 0 0) e ∙ get_or_append_left c t 0 0 (char_size h).0) u)

begins_boundary : (s : List ℕ) (p k : ℕ) → Begins s k p → Boundary s p
begins_boundary s p k b =
    let a = b.0 in
    let t = b.1 in
    let n : length s ≡ length a + length t = ap length b.2 ∙ length-append a t in
    elim (cases_lt p (length s)) [
      | inl l ↦ inr (inr (
        l,
        λ u. text_leads b.5.1 (omega (arith, b.3))
            (subst Tail (ap (λ (x : List ℕ). get_or x p 0) b.2 ∙ get_or-append_right a t p p 0 b.3 (omega arith) ∙ ap (λ (i : ℕ). get_or t i 0) (omega arith)) u),
      ))
      | inr g ↦ inr (inl (omega (arith, b.3)))
    ]

later : {c t s : List ℕ} (p k : ℕ) → Char c → s ≡ c ++ t → Begins t k p → Begins s (suc k) (length c + p)
later {c} {t} {s} p k h e b = (
  c ++ b.0,
  b.1,
  e ∙ ap (λ (x : List ℕ). c ++ x) b.2 ∙ sym (append_assoc c b.0 b.1),
  omega (arith, length-append c b.0, b.3),
  more h b.4 refl,
  b.5,
)

begins_zero : {n : ℕ} {s : List ℕ} (p : ℕ) → Chars n s → p ≡ 0 → (k : ℕ) × Begins s k p
begins_zero {n} {s} p h e = (0, ([], s, refl, sym e, none, (n, h)))

-- not inside the first character
outside : (c t s : List ℕ) (p : ℕ) → Char c → s ≡ c ++ t → Boundary s p → 0 < p → p < length c → ⊥
outside c t s p h e (inl z) l k = omega arith
outside c t s p h e (inr (inl z)) l k = omega (arith, ap length e, length-append c t)
outside c t s p h e (inr (inr z)) l k =
    z.1 (subst Tail (sym (ap (λ (x : List ℕ). get_or x p 0) e ∙ get_or_append_left c t 0 p k)) (inside h p l k))

past : (c t s : List ℕ) (p : ℕ) → Char c → s ≡ c ++ t → Boundary s p → length c ≤ p → Boundary t (p - length c)
past c t s p h e (inl z) l = absurd (omega (arith, (char_size h).0))
past c t s p h e (inr (inl z)) l = inr (inl (omega (arith, ap length e, length-append c t)))
past c t s p h e (inr (inr z)) l =
    inr (inr (
      omega (arith, z.0, ap length e, length-append c t),
      λ u. z.1 (subst Tail (sym (ap (λ (x : List ℕ). get_or x p 0) e ∙ get_or-append_right c t (length c) p 0 refl l)) u),
    ))

boundary_begins : {n : ℕ} {s : List ℕ} (p : ℕ) → Chars n s → Boundary s p → (k : ℕ) × Begins s k p
boundary_begins p none (inl e) = begins_zero p none e
boundary_begins p none (inr (inl e)) = begins_zero p none e
boundary_begins p none (inr (inr e)) = absurd (omega (arith, e.0))
boundary_begins p (more {n = n} {c = c} {t = t} {s = s} h r e) q =
    elim (cases_lt p (length c)) [
      | inl l ↦ elim (cases_lt 0 p) [ inl z ↦ absurd (outside c t s p h e q z l) | inr z ↦ begins_zero p (more h r e) (omega arith) ]
      | inr g ↦
          let b = boundary_begins (p - length c) r (past c t s p h e q g) in
          (suc b.0, subst (Begins s (suc b.0)) (omega arith) (later (p - length c) b.0 h e b.1))
    ]

pub boundaries : Boundaries
boundaries s p t = (boundary_begins p t.1, begins_boundary s p)
