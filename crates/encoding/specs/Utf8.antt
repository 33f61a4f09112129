-- Text after the grammar of RFC 3629.
use Rattle.std.specs.Prelude.{◌≡◌, ℕ, suc, ◌<◌, ◌≤◌, Bool, cond, not, ◌&&◌, ◌⊎◌, List, [], ◌∷◌, ◌++◌, length, Option, Some, None, take, drop, count_by, ◌==◌, nat_le, nat_lt, slice_index}

-- b lies in lo..hi
abbrev pub In : ℕ → ℕ → ℕ → Type 0
In lo hi b = (lo ≤ b) × (b ≤ hi)

-- a following byte: UTF8-tail = %x80-BF
abbrev pub Tail : ℕ → Type 0
Tail b = In 128 191 b

-- one character, rule by rule: UTF8-1, UTF8-2, and the rows of UTF8-3 and UTF8-4
pub data Char : List ℕ → Type 0 where
  utf8_1 : {a : ℕ} → In 0 127 a → Char (a ∷ [])
  utf8_2 : {a b : ℕ} → In 194 223 a → Tail b → Char (a ∷ b ∷ [])
  utf8_3a : {a b c : ℕ} → a ≡ 224 → In 160 191 b → Tail c → Char (a ∷ b ∷ c ∷ [])
  utf8_3b : {a b c : ℕ} → In 225 236 a → Tail b → Tail c → Char (a ∷ b ∷ c ∷ [])
  utf8_3c : {a b c : ℕ} → a ≡ 237 → In 128 159 b → Tail c → Char (a ∷ b ∷ c ∷ [])
  utf8_3d : {a b c : ℕ} → In 238 239 a → Tail b → Tail c → Char (a ∷ b ∷ c ∷ [])
  utf8_4a : {a b c d : ℕ} → a ≡ 240 → In 144 191 b → Tail c → Tail d → Char (a ∷ b ∷ c ∷ d ∷ [])
  utf8_4b : {a b c d : ℕ} → In 241 243 a → Tail b → Tail c → Tail d → Char (a ∷ b ∷ c ∷ d ∷ [])
  utf8_4c : {a b c d : ℕ} → a ≡ 244 → In 128 143 b → Tail c → Tail d → Char (a ∷ b ∷ c ∷ d ∷ [])

-- s is n characters, one after the other
pub data Chars : ℕ → List ℕ → Type 0 where
  none : Chars 0 []
  more : {n : ℕ} {c t s : List ℕ} → Char c → Chars n t → s ≡ c ++ t → Chars (suc n) s

-- text, well-formed: UTF8-octets = *( UTF8-char )
abbrev pub Text : List ℕ → Type 0
Text s = (n : ℕ) × Chars n s

-- the first n bytes of s are a character
abbrev pub Front : List ℕ → ℕ → Type 0
Front s n = (n ≤ length s) × Char (take n s)

-- the first p bytes of s are text, and no character can be read there
pub record Unreadable (s : List ℕ) (p : ℕ) : Type 0 where
  pub inside : p < length s
  pub before : Text (take p s)
  pub stops : (n : ℕ) → Front (drop p s) n → ⊥

-- the first k characters of s are its first p bytes
abbrev pub Reaches : List ℕ → ℕ → ℕ → Type 0
Reaches s k p = (p ≤ length s) × Chars k (take p s)

-- character k of the text s begins at the byte place p; for k the number of characters, p is the end
abbrev pub Begins : List ℕ → ℕ → ℕ → Type 0
Begins s k p = (a b : List ℕ) × (s ≡ a ++ b) × (length a ≡ p) × Chars k a × Text b

-- the size of the character that b begins, if it begins one
abbrev pub size_of : ℕ → Option ℕ
size_of b = cond (nat_lt b 128) (Some 1) (cond (nat_lt b 194) None (cond (nat_lt b 224) (Some 2) (cond (nat_lt b 240) (Some 3) (cond (nat_lt b 245) (Some 4) None))))

-- b may be the second byte of a character of three or four bytes that a begins
abbrev pub Second : ℕ → ℕ → Type 0
Second a b = (cond (a == 224) 160 (cond (a == 240) 144 128) ≤ b) × (b ≤ cond (a == 237) 159 (cond (a == 244) 143 191))

-- a place of a row is a boundary if it is 0, the row's length, or holds a byte outside 80-BF
abbrev pub Boundary : List ℕ → ℕ → Type 0
Boundary s p = (p ≡ 0) ⊎ ((p ≡ length s) ⊎ ((p < length s) × (Tail (slice_index s p) → ⊥)))

-- in text the boundaries are the places where characters begin, and the end
abbrev pub Boundaries : Type 0
Boundaries = (s : List ℕ) (p : ℕ) → Text s → (Boundary s p → (k : ℕ) × Begins s k p) × ((k : ℕ) → Begins s k p → Boundary s p)

-- whether b is no following byte
abbrev pub leads : ℕ → Bool
leads b = not (nat_le 128 b && nat_le b 191)

-- how many bytes of s are no following bytes
abbrev pub first_bytes : List ℕ → ℕ
first_bytes s = count_by leads s
