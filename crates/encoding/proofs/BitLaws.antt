-- One bit of a byte written, and the others kept.
use Rattle.std.proofs.Common.{◌≡◌, ℕ, ◌+◌, ◌-◌, ◌*◌, ◌/◌, ◌%◌, ◌^◌, ◌<◌, Bool, true, false, cond, eqb, List, length, get_or, set, sym, refl, ap, ◌∙◌, inl, inr, arith}
use Rattle.std.proofs.lemmas.List.{get_or-set_same, get_or-set_other}
use Rattle.std.proofs.lemmas.Nat.{shr_high, mod_low, shr-shr, field_of, mod-pow-add, mod_below, pow_pos}
use Rattle.std.proofs.lemmas.Bool.{cases_eq, cases_lt}
use Rattle.encoding.specs.Bitmap.{bit, marked, with_bit, BitLaws}

-- what stands from bit k up
above : (b k : ℕ) (v : Bool) → marked b k v / 2 ^ k ≡ b / 2 ^ k / 2 * 2 + cond v 1 0
above b k v = shr_high (b / 2 ^ k / 2 * 2 + cond v 1 0) k (b % 2 ^ k) (mod_below b (2 ^ k) (pow_pos k))

-- what stands below bit k stays
below : (b k : ℕ) (v : Bool) → marked b k v % 2 ^ k ≡ b % 2 ^ k
below b k v = mod_low (b / 2 ^ k / 2 * 2 + cond v 1 0) k (b % 2 ^ k) (mod_below b (2 ^ k) (pow_pos k))

-- a bit as a number
one_lt : (v : Bool) → cond v 1 0 < 2
one_lt true = omega arith
one_lt false = omega arith

one_is : (v : Bool) → eqb (cond v 1 0) 1 ≡ v
one_is true = refl
one_is false = refl

-- the bit written is read back
marked_same : (b k : ℕ) (v : Bool) → eqb ((marked b k v / 2 ^ k) % 2) 1 ≡ v
marked_same b k v =
    let h = one_lt v in
    let e : (b / 2 ^ k / 2 * 2 + cond v 1 0) % 2 ≡ cond v 1 0 = omega arith in
    ap (λ (x : ℕ). eqb (x % 2) 1) (above b k v) ∙ ap (λ (x : ℕ). eqb x 1) e ∙ one_is v

-- a bit below place j + m + 1 is told by the bits below that place
low_told : (n m j : ℕ) → (n / 2 ^ j) % 2 ≡ (n % 2 ^ (m + 1 + j) / 2 ^ j) % 2
low_told n m j =
    let x = n / 2 ^ j in
    let e : n % 2 ^ (m + 1 + j) / 2 ^ j ≡ x % 2 ^ (m + 1) = field_of n (m + 1) j in
    let f : x % 2 ^ (m + 1) ≡ (x / 2 ^ 1 % 2 ^ m) * 2 ^ 1 + x % 2 ^ 1 = mod-pow-add x m 1 in
    omega arith

-- bytes that agree below place k agree at each bit there
low_same : (a b k j : ℕ) → j < k → a % 2 ^ k ≡ b % 2 ^ k → (a / 2 ^ j) % 2 ≡ (b / 2 ^ j) % 2
low_same a b k j h e =
    let m = k - j - 1 in
    let i : m + 1 + j ≡ k = omega arith in
    low_told a m j ∙ ap (λ (i : ℕ). (a % 2 ^ i / 2 ^ j) % 2) i ∙ ap (λ (x : ℕ). (x / 2 ^ j) % 2) e
    ∙ sym (ap (λ (i : ℕ). (b % 2 ^ i / 2 ^ j) % 2) i) ∙ sym (low_told b m j)

-- bytes that agree above bit k agree from each place there
high_same : (a b k j : ℕ) → k < j → a / 2 ^ k / 2 ≡ b / 2 ^ k / 2 → a / 2 ^ j ≡ b / 2 ^ j
high_same a b k j h e =
    let m = j - k - 1 in
    let i : k + 1 + m ≡ j = omega arith in
    let two : (n : ℕ) → n / 2 ^ j ≡ n / 2 ^ k / 2 / 2 ^ m = λ n.
    ap (λ (i : ℕ). n / 2 ^ i) (sym i) ∙ sym (shr-shr n (k + 1) m) ∙ ap (λ (x : ℕ). x / 2 ^ m) (sym (shr-shr n k 1)) in
    two a ∙ ap (λ (x : ℕ). x / 2 ^ m) e ∙ sym (two b)

-- every other bit of the byte stays
marked_other : (b k j : ℕ) (v : Bool) → (j ≡ k → ⊥) → (marked b k v / 2 ^ j) % 2 ≡ (b / 2 ^ j) % 2
marked_other b k j v ne = elim (cases_lt j k) [
  | inl h ↦ low_same (marked b k v) b k j h (below b k v)
  | inr h ↦
      let l = one_lt v in
      let e : (b / 2 ^ k / 2 * 2 + cond v 1 0) / 2 ≡ b / 2 ^ k / 2 = omega arith in
      ap (λ (x : ℕ). x % 2) (high_same (marked b k v) b k j (omega arith) (ap (λ (x : ℕ). x / 2) (above b k v) ∙ e))
]

-- the other bits of the list
other : (ms : List ℕ) (p q : ℕ) (v : Bool) → p < 8 * length ms → (q ≡ p → ⊥) → bit (with_bit ms p v) q ≡ bit ms q
other ms p q v h ne =
    let b = get_or ms (p / 8) 0 in
    let w = marked b (p % 8) v in
    let tell = λ (x : ℕ). eqb ((x / 2 ^ (q % 8)) % 2) 1 in
    elim (cases_eq (q / 8) (p / 8)) [
      | inl e ↦
          let far : q % 8 ≡ p % 8 → ⊥ = λ f. ne (omega arith) in
          ap (λ (i : ℕ). tell (get_or (set ms (p / 8) w) i 0)) e ∙ ap tell (get_or-set_same ms (p / 8) w 0 (omega arith))
          ∙ ap (λ (x : ℕ). eqb x 1) (marked_other b (p % 8) (q % 8) v far) ∙ sym (ap (λ (i : ℕ). tell (get_or ms i 0)) e)
      | inr far ↦ ap tell (get_or-set_other ms (p / 8) (q / 8) w 0 far)
    ]

-- what is written is read back, and the rest stays
pub bit_laws : BitLaws
bit_laws ms p v h = (
  ap (λ (x : ℕ). eqb ((x / 2 ^ (p % 8)) % 2) 1) (get_or-set_same ms (p / 8) (marked (get_or ms (p / 8) 0) (p % 8) v) 0 (omega arith))
      ∙ marked_same (get_or ms (p / 8) 0) (p % 8) v,
  λ q ne. other ms p q v h ne,
)
