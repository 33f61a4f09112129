-- Characters by their first byte and the rules of the bytes that follow.
use Rattle.std.proofs.Common.{◌≡◌, ℕ, ◌≤◌, ◌↔◌, List, [], ◌∷◌, length, get_or, Some, inl, inr, arith}
use Rattle.std.proofs.lemmas.Bool.Decides.{nat_tests}
use Rattle.std.proofs.lemmas.Bool.{cases_lt}
use Rattle.encoding.specs.Utf8.{Char, utf8_1, utf8_2, utf8_3a, utf8_3b, utf8_3c, utf8_3d, utf8_4a, utf8_4b, utf8_4c, size_of, In, Second, Tail}

two_to : {a b : ℕ} → Char (a ∷ b ∷ []) → Tail b
two_to (utf8_2 h t) = t

three_to : {a b c : ℕ} → Char (a ∷ b ∷ c ∷ []) → Second a b × Tail c
three_to (utf8_3a h k t) = ((grind (arith, nat_tests), grind (arith, nat_tests)), t)
three_to (utf8_3b h k t) = ((grind (arith, nat_tests), grind (arith, nat_tests)), t)
three_to (utf8_3c h k t) = ((grind (arith, nat_tests), grind (arith, nat_tests)), t)
three_to (utf8_3d h k t) = ((grind (arith, nat_tests), grind (arith, nat_tests)), t)

pub three_from : {a b c : ℕ} → In 224 239 a → Second a b → Tail c → Char (a ∷ b ∷ c ∷ [])
three_from {a} {b} {c} h k t =
    elim (cases_lt a 225) [
      | inl l ↦ utf8_3a (omega arith) (grind (arith, nat_tests), grind (arith, nat_tests)) t
      | inr g ↦ elim (cases_lt a 237) [
        | inl l ↦ utf8_3b (omega arith, omega arith) (grind (arith, nat_tests), grind (arith, nat_tests)) t
        | inr g2 ↦ elim (cases_lt a 238) [
          | inl l ↦ utf8_3c (omega arith) (grind (arith, nat_tests), grind (arith, nat_tests)) t
          | inr g3 ↦ utf8_3d (omega arith, omega arith) (grind (arith, nat_tests), grind (arith, nat_tests)) t
        ]
      ]
    ]

four_to : {a b c d : ℕ} → Char (a ∷ b ∷ c ∷ d ∷ []) → Second a b × Tail c × Tail d
four_to (utf8_4a h k t u) = ((grind (arith, nat_tests), grind (arith, nat_tests)), t, u)
four_to (utf8_4b h k t u) = ((grind (arith, nat_tests), grind (arith, nat_tests)), t, u)
four_to (utf8_4c h k t u) = ((grind (arith, nat_tests), grind (arith, nat_tests)), t, u)

pub four_from : {a b c d : ℕ} → In 240 244 a → Second a b → Tail c → Tail d → Char (a ∷ b ∷ c ∷ d ∷ [])
four_from {a} {b} {c} {d} h k t u =
    elim (cases_lt a 241) [
      | inl l ↦ utf8_4a (omega arith) (grind (arith, nat_tests), grind (arith, nat_tests)) t u
      | inr g ↦ elim (cases_lt a 244) [
        | inl l ↦ utf8_4b (omega arith, omega arith) (grind (arith, nat_tests), grind (arith, nat_tests)) t u
        | inr g2 ↦ utf8_4c (omega arith) (grind (arith, nat_tests), grind (arith, nat_tests)) t u
      ]
    ]

-- a list of one to four bytes, by its first byte
pub char_1 : (s : List ℕ) → length s ≡ 1 → In 0 127 (get_or s 0 0) → Char s
char_1 [] l h = absurd (omega arith)
char_1 (a ∷ []) l h = utf8_1 h
char_1 (a ∷ b ∷ s) l h = absurd (omega arith)

pub char_2 : (s : List ℕ) → length s ≡ 2 → In 194 223 (get_or s 0 0) → Tail (get_or s 1 0) ↔ Char s
char_2 [] l h = absurd (omega arith)
char_2 (a ∷ []) l h = absurd (omega arith)
char_2 (a ∷ b ∷ []) l h = (λ t. utf8_2 h t, two_to)
char_2 (a ∷ b ∷ c ∷ s) l h = absurd (omega arith)

pub char_3 : (s : List ℕ) → length s ≡ 3 → In 224 239 (get_or s 0 0) → (Second (get_or s 0 0) (get_or s 1 0) × Tail (get_or s 2 0)) ↔ Char s
char_3 [] l h = absurd (omega arith)
char_3 (a ∷ []) l h = absurd (omega arith)
char_3 (a ∷ b ∷ []) l h = absurd (omega arith)
char_3 (a ∷ b ∷ c ∷ []) l h = (λ p. three_from h p.0 p.1, three_to)
char_3 (a ∷ b ∷ c ∷ d ∷ s) l h = absurd (omega arith)

pub char_4 : (s : List ℕ) → length s ≡ 4 → In 240 244 (get_or s 0 0) → (Second (get_or s 0 0) (get_or s 1 0) × Tail (get_or s 2 0) × Tail (get_or s 3 0)) ↔ Char s
char_4 [] l h = absurd (omega arith)
char_4 (a ∷ []) l h = absurd (omega arith)
char_4 (a ∷ b ∷ []) l h = absurd (omega arith)
char_4 (a ∷ b ∷ c ∷ []) l h = absurd (omega arith)
char_4 (a ∷ b ∷ c ∷ d ∷ []) l h = (λ p. four_from h p.0 p.1 p.2, four_to)
char_4 (a ∷ b ∷ c ∷ d ∷ e ∷ s) l h = absurd (omega arith)

-- a character's size, one to four bytes, is told by its first byte
pub char_told : {c : List ℕ} → Char c → Some (length c) ≡ size_of (get_or c 0 0)
char_told (utf8_1 h) = grind (arith, nat_tests)
char_told (utf8_2 h t) = grind (arith, nat_tests)
char_told (utf8_3a h k t) = grind (arith, nat_tests)
char_told (utf8_3b h k t) = grind (arith, nat_tests)
char_told (utf8_3c h k t) = grind (arith, nat_tests)
char_told (utf8_3d h k t) = grind (arith, nat_tests)
char_told (utf8_4a h k t u) = grind (arith, nat_tests)
char_told (utf8_4b h k t u) = grind (arith, nat_tests)
char_told (utf8_4c h k t u) = grind (arith, nat_tests)

-- a character has one to four bytes
pub char_size : {c : List ℕ} → Char c → (1 ≤ length c) × (length c ≤ 4)
char_size h = let t = char_told h in (grind (arith, nat_tests), grind (arith, nat_tests))
