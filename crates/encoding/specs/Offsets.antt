-- Offsets, and numbers in a signed width.
use Rattle.std.specs.Prelude.{◌≡◌, ℕ, zero, suc, ◌+◌, ◌-◌, ◌*◌, ◌%◌, ◌<◌, ◌≤◌, Bool, true, false, cond, List, length, ℤ, pos, negsuc, ◌+ℤ◌, ◌≤ℤ◌, Option, Result, MatchOption, MatchResult, ◌≢◌, nat_le, slice_index_or}
use Rattle.encoding.specs.declared.offsets.OffsetFault.{OffsetFault}
use Rattle.encoding.specs.declared.offsets.Offsets.{Offsets}
use Rattle.encoding.specs.declared.offsets.Offsets.TheVariants.{Narrow, Wide}

-- the numbers in a lent list of either width
abbrev pub numbers : Offsets → List ℤ
numbers (Narrow s) = s.now
numbers (Wide s) = s.now

-- the greatest number of the list's width
abbrev pub ceiling_of : Offsets → ℕ
ceiling_of (Narrow s) = 2147483647
ceiling_of (Wide s) = 9223372036854775807

-- whether the list has 64-bit offsets
abbrev pub wide_of : Offsets → Bool
wide_of (Narrow s) = false
wide_of (Wide s) = true

-- offset k
abbrev pub at : List ℤ → ℕ → ℤ
at os k = slice_index_or os k (pos 0)

-- the offset before offset k, 0 before the first
abbrev pub before : List ℤ → ℕ → ℤ
before os zero = pos 0
before os (suc k) = at os k

-- offset k keeps the rules: it is not negative, not below the one before, not beyond the end of the data
abbrev pub Right : List ℤ → ℕ → ℕ → Type 0
Right os end k = (pos 0 ≤ℤ at os k) × (before os k ≤ℤ at os k) × (at os k ≤ℤ pos end)

-- every offset keeps the rules, and lies in its width
pub record AllRight (os : List ℤ) (ceiling end : ℕ) : Type 0 where
  pub right : (k : ℕ) → k < length os → Right os end k
  pub low : (k : ℕ) → k < length os → at os k ≤ℤ pos ceiling

-- offset k is the first that breaks the rules
pub record FirstWrong (os : List ℤ) (end k : ℕ) : Type 0 where
  pub inside : k < length os
  pub earlier : (j : ℕ) → j < k → Right os end j
  pub wrong : Right os end k → ⊥

-- what a check of the offsets answers: nothing where all are right, else the row of the first that is wrong,
-- the one that it ends (offset k ends row k - 1; the first offset tells row 0)
abbrev pub Judged : List ℤ → ℕ → ℕ → Result (Unit {0}) OffsetFault → Type 0
Judged os ceiling end r = MatchResult r (λ _. AllRight os ceiling end) (λ f. (k : ℕ) × FirstWrong os end k × (f.row ≡ k - 1))

-- what a reader of offset k answers: its number, which lies in its width, or nothing where there is none or it is negative
abbrev pub Answered : List ℤ → ℕ → ℕ → Option ℕ → Type 0
Answered os ceiling k r = MatchOption r (k < length os → (n : ℕ) → at os k ≢ pos n) (λ n. (k < length os) × (at os k ≡ pos n) × (n ≤ ceiling))

-- the place that an offset names
abbrev pub place : ℤ → ℕ
place (pos n) = n
place (negsuc n) = 0

-- x in the signed width whose greatest number is c, as two's complement wraps it
abbrev pub wrapped : ℕ → ℕ → ℤ
wrapped c x = cond (nat_le (x % (2 * (c + 1))) c) (pos (x % (2 * (c + 1)))) (negsuc (2 * (c + 1) - suc (x % (2 * (c + 1)))))

-- what a wrapped number is: it lies in the width, and differs from x by a multiple of the width's count of numbers;
-- a number that fits stays as it is
abbrev pub Wraps : Type 0
Wraps = (c x : ℕ) → (negsuc c ≤ℤ wrapped c x) × (wrapped c x ≤ℤ pos c)
    × ((k : ℕ) × (wrapped c x +ℤ pos (k * (2 * (c + 1))) ≡ pos x)) × (x ≤ c → wrapped c x ≡ pos x)
