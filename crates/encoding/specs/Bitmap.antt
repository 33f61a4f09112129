-- Bits in bytes, the lowest bit of each byte first.
-- Assumes nothing.
use Rattle.std.specs.Prelude.{◌≡◌, ℕ, ◌+◌, ◌*◌, ◌/◌, ◌%◌, ◌^◌, ◌<◌, Bool, cond, List, length, ◌==◌, ◌≢◌, slice_index, slice_set}

-- bit p of these bytes: bit p % 8 of byte p / 8
abbrev pub bit : List ℕ → ℕ → Bool
bit ms p = (slice_index ms (p / 8) / 2 ^ (p % 8)) % 2 == 1

-- the byte b with v for its bit k: the bits above k, then v, then the bits below k
abbrev pub marked : ℕ → ℕ → Bool → ℕ
marked b k v = (b / 2 ^ k / 2 * 2 + cond v 1 0) * 2 ^ k + b % 2 ^ k

-- these bytes with v for their bit p; unchanged where they end before it
abbrev pub with_bit : List ℕ → ℕ → Bool → List ℕ
with_bit ms p v = slice_set ms (p / 8) (marked (slice_index ms (p / 8)) (p % 8) v)

-- the bit that was written is read back, and every other bit stays
abbrev pub BitLaws : Type 0
BitLaws = (ms : List ℕ) (p : ℕ) (v : Bool) → p < 8 * length ms → (bit (with_bit ms p v) p ≡ v) × ((q : ℕ) → (q ≢ p) → bit (with_bit ms p v) q ≡ bit ms q)
