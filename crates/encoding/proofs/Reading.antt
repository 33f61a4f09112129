-- Text read from its front, character by character.
use Rattle.std.proofs.Common.{◌≡◌, ℕ, zero, suc, ◌+◌, ◌<◌, ◌≤◌, cond, List, ◌++◌, length, take, drop, sym, refl, ap, ◌∙◌, subst, inl, inr, append_assoc, arith, take-append-drop, take-add}
use lib.Seq.{take-append-add}
use Rattle.std.proofs.lemmas.List.{length-append, length-take-le, take_at, drop_at, length-drop}
use Rattle.std.proofs.lemmas.List.Sums.{sum_by-append}
use Rattle.std.proofs.lemmas.Bool.{cases_lt}
use Rattle.std.proofs.lemmas.Bool.Decides.{nat_tests}
use Rattle.encoding.specs.Utf8.{Char, utf8_1, utf8_2, utf8_3a, utf8_3b, utf8_3c, utf8_3d, utf8_4a, utf8_4b, utf8_4c, Chars, none, more, Text, Front, Reaches, Begins, Unreadable, leads, first_bytes}
use Rattle.encoding.proofs.Texts.{front_told, chars_rest, chars_front, chars_join, one_char}

pub front_of : (c u b : List ℕ) → Char c → b ≡ c ++ u → Front b (length c)
front_of c u b h e =
    (omega (arith, ap length e, length-append c u), subst Char (sym (ap (take (length c)) e ∙ take_at c u (length c) refl)) h)

-- two characters at one front are the same
pub front_same : (s : List ℕ) (m n : ℕ) → Front s m → Front s n → m ≡ n
front_same s m n f g = let a = front_told s m f in let b = front_told s n g in cc

-- of two readings of one list, the longer goes on with a character where the shorter ends
pub further : (b t : List ℕ) {i k : ℕ} {a c : List ℕ} → Chars i a → Chars k c → c ++ t ≡ a ++ b → i < k → (n : ℕ) × Front b n
further b t none none e l = absurd (omega arith)
further b t none (more {c = c1} {t = c2} h r q) e l =
    (length c1, front_of c1 (c2 ++ t) b h (sym e ∙ ap (λ (x : List ℕ). x ++ t) q ∙ append_assoc c1 c2 t))
further b t (more {c = a1} {t = a2} g s p) none e l = absurd (omega arith)
further b t {a = a} {c = c} (more {c = a1} {t = a2} g s p) (more {c = c1} {t = c2} h r q) e l =
    let w = c ++ t in
    let left : w ≡ c1 ++ (c2 ++ t) = ap (λ (x : List ℕ). x ++ t) q ∙ append_assoc c1 c2 t in
    let right : w ≡ a1 ++ (a2 ++ b) = e ∙ ap (λ (x : List ℕ). x ++ b) p ∙ append_assoc a1 a2 b in
    let z : length c1 ≡ length a1 = front_same w _ _ (front_of c1 (c2 ++ t) w h left) (front_of a1 (a2 ++ b) w g right) in
    let rest : c2 ++ t ≡ a2 ++ b =
    sym (ap (drop (length c1)) left ∙ drop_at c1 (c2 ++ t) (length c1) refl)
    ∙ (ap (drop (length c1)) right ∙ drop_at a1 (a2 ++ b) (length c1) (sym z)) in
    further b t s r rest (omega arith)

-- what follows characters at the front of text is text
pub after : {i n : ℕ} {a b s : List ℕ} → Chars i a → Chars n s → s ≡ a ++ b → (m : ℕ) × (n ≡ i + m) × Chars m b
after {n = n} none t e = (n, omega arith, subst (Chars n) e t)
after {n = n} {b = b} {s = s} (more {n = i} {c = c} {t = u} h r p) t e =
    let q : s ≡ c ++ (u ++ b) = e ∙ ap (λ (x : List ℕ). x ++ b) p ∙ append_assoc c u b in
    let d = chars_rest (length c) t (front_of c (u ++ b) s h q) in
    let k = after r d.2 (ap (drop (length c)) q ∙ drop_at c (u ++ b) (length c) refl) in
    (k.0, omega (arith, d.1, k.1), k.2)

-- as many characters as text has can be read
pub reach : (k : ℕ) {n : ℕ} {s : List ℕ} → Chars n s → k ≤ n → (p : ℕ) × Reaches s k p
reach zero t l = (0, (omega arith, none))
reach (suc k) none l = absurd (omega arith)
reach (suc k) (more {n = n} {c = c} {t = u} {s = s} h r e) l =
    let b = reach k r (omega arith) in
    let p = b.0 in (
      length c + p,
      (
        omega (arith, ap length e, length-append c u, b.1.0),
        more h b.1.1 (ap (take (length c + p)) e ∙ take-append-add c u p),
      ),
    )

-- one character more
pub reaches_more : (s : List ℕ) (k p n : ℕ) (rest : List ℕ) → Reaches s k p → rest ≡ drop p s → Front rest n → Reaches s (k + 1) (p + n)
reaches_more s k p n rest b e f =
    let g : Front (drop p s) n = subst (λ (l : List ℕ). Front l n) e f in (
      omega (arith, g.0, length-drop p s, b.0),
      subst (Chars (k + 1)) (sym (take-add p n s)) (chars_join b.1 (one_char g.1)),
    )

pub reaches_text : (s : List ℕ) (n k p : ℕ) → Chars n s → Reaches s k p → (k ≤ n) × Begins s k p
reaches_text s n k p t b =
    let d = after b.1 t (sym (take-append-drop p s)) in (
      omega (arith, d.1),
      (take p s, drop p s, sym (take-append-drop p s), length-take-le p s b.0, b.1, (d.0, d.2)),
    )

-- where no character follows the first i, no k beyond i can be reached
pub reaches_none : (s : List ℕ) (i k p : ℕ) → Reaches s i p → i < k → ((n : ℕ) → Front (drop p s) n → ⊥) → (q : ℕ) → Reaches s k q → ⊥
reaches_none s i k p b l h q r =
    let f = further (drop p s) (drop q s) b.1 r.1 (take-append-drop q s ∙ sym (take-append-drop p s)) l in
    h f.0 f.1

pub not_reached : (s : List ℕ) (n k : ℕ) → Chars n s → ((q : ℕ) → Reaches s k q → ⊥) → n < k
not_reached s n k t h =
    elim (cases_lt n k) [ inl l ↦ l | inr g ↦ absurd (let r = reach k t g in h r.0 r.1) ]

-- bytes that cannot be read are no text
pub unreadable_no_text : (s : List ℕ) (p : ℕ) → Unreadable s p → Text s → ⊥
unreadable_no_text s p u t =
    let d = after u.before.1 t.1 (sym (take-append-drop p s)) in
    let f = chars_front d.2 (omega (arith, length-drop p s, u.inside)) in
    u.stops f.0 f.1

-- a character has one byte that is no following byte
first_of : {c : List ℕ} → Char c → first_bytes c ≡ 1
first_of (utf8_1 h) = grind (arith, nat_tests)
first_of (utf8_2 h t) = grind (arith, nat_tests)
first_of (utf8_3a h k t) = grind (arith, nat_tests)
first_of (utf8_3b h k t) = grind (arith, nat_tests)
first_of (utf8_3c h k t) = grind (arith, nat_tests)
first_of (utf8_3d h k t) = grind (arith, nat_tests)
first_of (utf8_4a h k t u) = grind (arith, nat_tests)
first_of (utf8_4b h k t u) = grind (arith, nat_tests)
first_of (utf8_4c h k t u) = grind (arith, nat_tests)

pub chars_counted : {n : ℕ} {s : List ℕ} → Chars n s → first_bytes s ≡ n
chars_counted none = refl
chars_counted (more {n = n} {c = c} {t = t} {s = s} h r e) =
    ap first_bytes e ∙ sum_by-append (λ (x : ℕ). cond (leads x) 1 0) c t ∙ omega (arith, first_of h, chars_counted r)
