-- Each character is one scalar value, and each text a list of them.
use Rattle.std.proofs.Common.{◌≡◌, ℕ, suc, ◌+◌, ◌-◌, ◌*◌, ◌/◌, ◌<◌, ◌≤◌, true, List, [], ◌∷◌, ◌++◌, length, IsUtf8, sym, refl, ap, ◌∙◌, subst, inl, inr, arith}
use lib.Utf8.{scalar, scalars, encode, encodes, next, scalar_cases}
use Rattle.std.specs.Str.{chars, bytes_eq}
use Rattle.std.proofs.lemmas.Slice.Eq.{bytes_eq-Decides}
use Rattle.std.proofs.lemmas.Str.{encode_same, encodes-chars, scalars-chars}
use Rattle.std.proofs.lemmas.Bool.{cond-true, cond-false, lt-ltb, le-ltb, cases_lt, and_from, and_parts}
use Rattle.std.proofs.lemmas.Bool.Decides.{nat_tests}
use Rattle.encoding.specs.Utf8.{Char, utf8_1, utf8_2, utf8_3a, utf8_3b, utf8_3c, utf8_3d, utf8_4a, utf8_4b, utf8_4c, Chars, none, more, Text, Tail}
use Rattle.encoding.specs.Scalars.{Rfc3629}
use Rattle.encoding.specs.Spelt.{is_text}
use Rattle.encoding.proofs.Chars.{three_from, four_from}

-- the bytes of a scalar value, by its size
pub encode_1 : (u : ℕ) → u < 128 → encode u ≡ u ∷ []
unfolding encode
encode_1 u h = cond-true _ _ _ (lt-ltb u 128 h)

pub encode_2 : (u : ℕ) → 128 ≤ u → u < 2048 → encode u ≡ (192 + u / 64) ∷ next u ∷ []
unfolding encode
encode_2 u l h = cond-false _ _ _ (le-ltb u 128 l) ∙ cond-true _ _ _ (lt-ltb u 2048 h)

pub encode_3 : (u : ℕ) → 2048 ≤ u → u < 65536 → encode u ≡ (224 + u / 4096) ∷ next (u / 64) ∷ next u ∷ []
unfolding encode
encode_3 u l h = cond-false _ _ _ (le-ltb u 128 (omega arith)) ∙ cond-false _ _ _ (le-ltb u 2048 l) ∙ cond-true _ _ _ (lt-ltb u 65536 h)

pub encode_4 : (u : ℕ) → 65536 ≤ u → encode u ≡ (240 + u / 262144) ∷ next (u / 4096) ∷ next (u / 64) ∷ next u ∷ []
unfolding encode
encode_4 u l = cond-false _ _ _ (le-ltb u 128 (omega arith)) ∙ cond-false _ _ _ (le-ltb u 2048 (omega arith)) ∙ cond-false _ _ _ (le-ltb u 65536 l)

-- a number below the surrogates is a scalar value
low : (u : ℕ) → u < 55296 → scalar u ≡ true
low u h = grind (arith, nat_tests)

-- and so is one above them, up to U+10FFFF
high : (u : ℕ) → 57344 ≤ u → u < 1114112 → scalar u ≡ true
high u l h = grind (arith, nat_tests)

-- the scalar value that a character encodes
abbrev Encoded : List ℕ → Type 0
Encoded c = (u : ℕ) × (scalar u ≡ true) × (encode u ≡ c)

-- two bytes are the encoding of the number that they spell
two_bytes : (a b : ℕ) → 194 ≤ a → a < 224 → Tail b → (u : ℕ) → u ≡ (a - 192) * 64 + (b - 128) → encode u ≡ a ∷ b ∷ []
two_bytes a b l h t u e =
    let p : 192 + u / 64 ≡ a = omega arith in
    let r : next u ≡ b = omega arith in
    encode_2 u (omega arith) (omega arith) ∙ (cc)

-- and so are three, where the number needs three
three_bytes : (a b c : ℕ) → 224 ≤ a → a < 240 → Tail b → Tail c → (u : ℕ) → u ≡ (a - 224) * 4096 + (b - 128) * 64 + (c - 128) → 2048 ≤ u → encode u ≡ a ∷ b ∷ c ∷ []
three_bytes a b c l h t s u e m =
    let p : 224 + u / 4096 ≡ a = omega arith in
    let q : next (u / 64) ≡ b = omega arith in
    let r : next u ≡ c = omega arith in
    encode_3 u m (omega arith) ∙ (cc)

-- and four, where it needs four
four_bytes : (a b c d : ℕ) → 240 ≤ a → a < 245 → Tail b → Tail c → Tail d → (u : ℕ) → u ≡ (a - 240) * 262144 + (b - 128) * 4096 + (c - 128) * 64 + (d - 128) → 65536 ≤ u → encode u ≡ a ∷ b ∷ c ∷ d ∷ []
four_bytes a b c d l h t s v u e m =
    let p : 240 + u / 262144 ≡ a = omega arith in
    let o : next (u / 4096) ≡ b = omega arith in
    let q : next (u / 64) ≡ c = omega arith in
    let r : next u ≡ d = omega arith in
    encode_4 u m ∙ (cc)

-- each character is the encoding of a scalar value
pub spelt : {c : List ℕ} → Char c → Encoded c
spelt (utf8_1 {a = a} h) = (a, low a (omega arith), encode_1 a (omega arith))
spelt (utf8_2 {a = a} {b = b} h t) =
    let u = (a - 192) * 64 + (b - 128) in
    (u, low u (omega arith), two_bytes a b (omega arith) (omega arith) t u refl)
spelt (utf8_3a {a = a} {b = b} {c = c} h k t) =
    let u = (a - 224) * 4096 + (b - 128) * 64 + (c - 128) in
    (u, low u (omega arith), three_bytes a b c (omega arith) (omega arith) (omega arith, omega arith) t u refl (omega arith))
spelt (utf8_3b {a = a} {b = b} {c = c} h k t) =
    let u = (a - 224) * 4096 + (b - 128) * 64 + (c - 128) in
    (u, low u (omega arith), three_bytes a b c (omega arith) (omega arith) k t u refl (omega arith))
spelt (utf8_3c {a = a} {b = b} {c = c} h k t) =
    let u = (a - 224) * 4096 + (b - 128) * 64 + (c - 128) in
    (u, low u (omega arith), three_bytes a b c (omega arith) (omega arith) (omega arith, omega arith) t u refl (omega arith))
spelt (utf8_3d {a = a} {b = b} {c = c} h k t) =
    let u = (a - 224) * 4096 + (b - 128) * 64 + (c - 128) in
    (u, high u (omega arith) (omega arith), three_bytes a b c (omega arith) (omega arith) k t u refl (omega arith))
spelt (utf8_4a {a = a} {b = b} {c = c} {d = d} h k t s) =
    let u = (a - 240) * 262144 + (b - 128) * 4096 + (c - 128) * 64 + (d - 128) in
    (u, high u (omega arith) (omega arith), four_bytes a b c d (omega arith) (omega arith) (omega arith, omega arith) t s u refl (omega arith))
spelt (utf8_4b {a = a} {b = b} {c = c} {d = d} h k t s) =
    let u = (a - 240) * 262144 + (b - 128) * 4096 + (c - 128) * 64 + (d - 128) in
    (u, high u (omega arith) (omega arith), four_bytes a b c d (omega arith) (omega arith) k t s u refl (omega arith))
spelt (utf8_4c {a = a} {b = b} {c = c} {d = d} h k t s) =
    let u = (a - 240) * 262144 + (b - 128) * 4096 + (c - 128) * 64 + (d - 128) in
    (u, high u (omega arith) (omega arith), four_bytes a b c d (omega arith) (omega arith) (omega arith, omega arith) t s u refl (omega arith))

-- no two numbers have one encoding
pub encode_once : (u v : ℕ) → encode u ≡ encode v → u ≡ v
encode_once u v e = (encode_same u v [] [] (ap (λ (l : List ℕ). l ++ []) e)).0

-- the encoding of a scalar value is a character
pub char_encode : (u : ℕ) → scalar u ≡ true → Char (encode u)
char_encode u s =
    let r = scalar_cases u s in
    elim (cases_lt u 128) [
      | inl h ↦ subst Char (sym (encode_1 u h)) (utf8_1 (omega arith, omega arith))
      | inr l ↦ elim (cases_lt u 2048) [
        | inl h ↦ subst Char (sym (encode_2 u l h)) (utf8_2 (omega arith, omega arith) (omega arith, omega arith))
        | inr m ↦ elim (cases_lt u 65536) [
          | inl h ↦ subst Char (sym (encode_3 u m h)) (three_from (omega arith, omega arith) (grind (arith, nat_tests), grind (arith, nat_tests)) (omega arith, omega arith))
          | inr n ↦ subst Char (sym (encode_4 u n)) (four_from (omega arith, omega arith) (grind (arith, nat_tests), grind (arith, nat_tests)) (omega arith, omega arith) (omega arith, omega arith))
        ]
      ]
    ]

-- a text is the encoding of as many scalar values as it has characters
pub spelt_text : {n : ℕ} {s : List ℕ} → Chars n s → (us : List ℕ) × (length us ≡ n) × (scalars us ≡ true) × (encodes us ≡ s)
spelt_text none = ([], refl, refl, refl)
spelt_text (more {n = n} {c = c} {t = t} {s = s} h r e) =
    let u = spelt h in
    let us = spelt_text r in
    (u.0 ∷ us.0, ap suc us.1, and_from _ _ u.1 us.2, ap (λ (l : List ℕ). l ++ encodes us.0) u.2 ∙ ap (λ (l : List ℕ). c ++ l) us.3 ∙ sym e)

-- the encoding of scalar values is text
pub text_encodes : (us : List ℕ) → scalars us ≡ true → Chars (length us) (encodes us)
text_encodes [] h = none
text_encodes (u ∷ us) h = let p = and_parts (scalar u) (scalars us) h in more (char_encode u p.0) (text_encodes us p.1) refl

-- text and what std calls UTF-8 are the same
pub text_from_utf8 : (s : List ℕ) → IsUtf8 s → Text s
text_from_utf8 s h = (length h.0, subst (Chars (length h.0)) h.1.1 (text_encodes h.0 h.1.0))

pub utf8_from_text : (s : List ℕ) → Text s → IsUtf8 s
utf8_from_text s t = let r = spelt_text t.1 in (r.0, (r.2, r.3))

-- the law of the grammar
pub rfc3629 : Rfc3629
rfc3629 = record {
  character = λ c h. let r = spelt h in (r.0, r.1, r.2, λ v s e. encode_once v r.0 (e ∙ sym r.2));
  encoded = char_encode;
  text = λ n s h. spelt_text h;
  utf8 = text_from_utf8;
}

-- the test of text says what the grammar says
pub is_text_from : (s : List ℕ) → Text s → is_text s ≡ true
unfolding is_text
is_text_from s t =
    let u = utf8_from_text s t in
    and_from _ _ (scalars-chars s u) ((bytes_eq-Decides (encodes (chars s)) s).1 (encodes-chars s u))

pub text_from : (s : List ℕ) → is_text s ≡ true → Text s
unfolding is_text
text_from s h =
    let p = and_parts (scalars (chars s)) (bytes_eq (encodes (chars s)) s) h in
    text_from_utf8 s (chars s, (p.0, (bytes_eq-Decides (encodes (chars s)) s).0 p.1))
