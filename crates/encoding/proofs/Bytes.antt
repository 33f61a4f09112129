-- A byte with one bit set or cleared by a mask, tested at every byte and every place.
use Rattle.std.proofs.Common.{◌≡◌, ℕ, zero, suc, ◌-◌, ◌*◌, ◌%◌, ◌^◌, ◌<◌, Bool, true, false, ◌&&◌, eqb, Decides, refl}
use lib.Bits.{bit_and, bit_or}
use Rattle.std.proofs.lemmas.Bool.Decides.{Decides-below_and, Decides-and, Decides-eqb}
use Rattle.encoding.specs.Bitmap.{marked}

-- the test p passes at every number below n
abbrev every : (ℕ → Bool) → ℕ → Bool
every p zero = true
every p (suc n) = p n && every p n

-- it says that each of them has what p tests
decides_every : (p : ℕ → Bool) (P : ℕ → Type 0) → ((k : ℕ) → Decides (p k) (P k)) → (n : ℕ) → Decides (every p n) ((k : ℕ) → k < n → P k)
decides_every p P each n = Decides-below_and p P (every p) each refl (λ _. refl) n

-- the byte with bit k alone, as a shift makes it
abbrev mask : ℕ → ℕ
mask k = (1 * 2 ^ k) % 256

-- the mask sets and clears bit k of b
abbrev pub Masks : ℕ → ℕ → Type 0
Masks b k = (bit_or b (mask k) ≡ marked b k true) × (bit_and b (255 - mask k) ≡ marked b k false)

-- the same as a test
abbrev masks : ℕ → ℕ → Bool
masks b k = eqb (bit_or b (mask k)) (marked b k true) && eqb (bit_and b (255 - mask k)) (marked b k false)

-- it does, at every byte and every place
pub masks_right : (b : ℕ) → b < 256 → (k : ℕ) → k < 8 → Masks b k
masks_right b h k l =
    (decides_every (λ n. every (masks n) 8) (λ n. (j : ℕ) → j < 8 → Masks n j)
    (λ n. decides_every (masks n) (Masks n) (λ j. Decides-and _ _ (Decides-eqb _ _) (Decides-eqb _ _)) 8) 256).0 refl b h k l
