-- The grammar of RFC 3629 and the scalar values of Unicode.
-- Assumes nothing.
use Rattle.std.specs.Prelude.{◌≡◌, ℕ, true, List, length, IsUtf8}
use Rattle.std.proofs.Math.Utf8.{scalar, scalars, encode, encodes}
use Rattle.encoding.specs.Utf8.{Char, Chars, Text}

-- each character of the grammar is the encoding of exactly one scalar value (no surrogate, none above U+10FFFF, never overlong), and each scalar value's encoding is a character
pub record Rfc3629 : Type 0 where
  pub character : (c : List ℕ) → Char c → (u : ℕ) × (scalar u ≡ true) × (encode u ≡ c) × ((v : ℕ) → scalar v ≡ true → encode v ≡ c → v ≡ u)
  pub encoded : (u : ℕ) → scalar u ≡ true → Char (encode u)
  -- text by the grammar is exactly what std calls UTF-8: the encoding of a list of scalar values, as many as there are characters
  pub text : (n : ℕ) (s : List ℕ) → Chars n s → (us : List ℕ) × (length us ≡ n) × (scalars us ≡ true) × (encodes us ≡ s)
  pub utf8 : (s : List ℕ) → IsUtf8 s → Text s
