-- Text, one character after the other.
use Rattle.std.proofs.Common.{◌≡◌, ℕ, suc, ◌+◌, ◌<◌, ◌≤◌, List, [], ◌++◌, length, Some, get_or, take, drop, sym, refl, ap, ◌∙◌, subst, append_assoc, append-nil, arith}
use Rattle.std.proofs.lemmas.List.{length-take-le, get_or-take, get_or_append_left, take_at, drop_at, length-append}
use Rattle.encoding.specs.Utf8.{Char, Front, Chars, none, more, size_of}
use Rattle.encoding.proofs.Chars.{char_size, char_told}

pub front_some : (s : List ℕ) (n : ℕ) → Front s n → 1 ≤ n
front_some s n f = omega (arith, (char_size f.1).0, length-take-le n s f.0)

pub front_told : (s : List ℕ) (n : ℕ) → Front s n → Some n ≡ size_of (get_or s 0 0)
front_told s n f =
    ap Some (sym (length-take-le n s f.0)) ∙ char_told f.1 ∙ ap size_of (get_or-take n s 0 0 (front_some s n f))

seam_told : (c t : List ℕ) → Char c → Some (length c) ≡ size_of (get_or (c ++ t) 0 0)
seam_told c t h = char_told h ∙ ap size_of (sym (get_or_append_left c t 0 0 (char_size h).0))

pub nil_front : (n : ℕ) → Front [] n → ⊥
nil_front n f = let h = front_some [] n f in omega (arith, f.0)

-- what follows the character at the front
pub chars_rest : {k : ℕ} {s : List ℕ} (n : ℕ) → Chars k s → Front s n → (j : ℕ) × (k ≡ suc j) × Chars j (drop n s)
chars_rest n none f = absurd (nil_front n f)
chars_rest n (more {n = j} {c = c} {t = t} {s = s} h r e) f =
    let told : Some (length c) ≡ Some n = seam_told c t h ∙ ap (λ (l : List ℕ). size_of (get_or l 0 0)) (sym e) ∙ sym (front_told s n f) in
    let same : length c ≡ n = cc in
    let rest : drop n s ≡ t = ap (drop n) e ∙ drop_at c t n same in
    (j, refl, subst (Chars j) (sym rest) r)

pub chars_front : {k : ℕ} {s : List ℕ} → Chars k s → 0 < length s → (n : ℕ) × Front s n
chars_front none h = absurd (omega arith)
chars_front (more {n = j} {c = c} {t = t} {s = s} h r e) l =
    (length c, (omega (arith, ap length e, length-append c t), subst Char (sym (ap (take (length c)) e ∙ take_at c t (length c) refl)) h))

-- characters before, and what follows
pub chars_join : {j k : ℕ} {a b : List ℕ} → Chars j a → Chars k b → Chars (j + k) (a ++ b)
chars_join {k = k} {b = b} none q = subst (λ (n : ℕ). Chars n b) (omega arith) q
chars_join {k = k} {b = b} (more {n = n} {c = c} {t = t} {s = s} h r e) q =
    subst (λ (m : ℕ). Chars m (s ++ b)) (omega arith)
    (more h (chars_join r q) (ap (λ (l : List ℕ). l ++ b) e ∙ append_assoc c t b))

pub one_char : {c : List ℕ} → Char c → Chars 1 c
one_char {c} h = more h none (sym (append-nil c))
