-- A width in decimal: what its text has, and what its digits come to.
use Rattle.std.proofs.Common.{◌≡◌, ℕ, ◌+◌, ◌-◌, ◌*◌, ◌<◌, ◌≤◌, List, length, get_or, take, decimal, fold, sym, refl, ap, ◌∙◌, subst, inl, inr, arith}
use Rattle.std.specs.Int.{IsInRange}
use Rattle.std.proofs.lemmas.List.{get_or-take, length-take-le}
use Rattle.std.proofs.lemmas.Bool.{cases_lt}
use Rattle.std.proofs.lemmas.Str.Parse.{IsNumeralModel, numerals_by_fold, tells_by_index, digits_value_short}
use Rattle.std.proofs.lemmas.Fmt.{decimal-digits_value, digits_decimal, digits_value-decimal, length-decimal-le, decimal_nonempty, first_decimal, decimal_digit}

-- the number n with one digit more
abbrev pub with_digit : ℕ → ℕ → ℕ
with_digit n c = n * 10 + (c - 48)

abbrev pub AllDigits : List ℕ → Type 0
AllDigits ds = (i : ℕ) → i < length ds → IsInRange 48 57 (get_or ds i 0)

-- digits are read one by one
numerals : IsNumeralModel AllDigits (fold with_digit 0)
numerals = numerals_by_fold AllDigits tells_by_index (fold with_digit) (record { empty = λ n. refl; more = λ n c cs h. refl })

front_digits : (ds : List ℕ) (n : ℕ) → n ≤ length ds → ((k : ℕ) → k < n → IsInRange 48 57 (get_or ds k 0)) → AllDigits (take n ds)
front_digits ds n h d = λ i l.
    let j : i < n = omega (arith, length-take-le n ds h) in subst (IsInRange 48 57) (sym (get_or-take n ds i 0 j)) (d i j)

-- at most ten digits come to less than ten to the tenth
pub front_small : (ds : List ℕ) (n : ℕ) → n ≤ length ds → n ≤ 10 → ((k : ℕ) → k < n → IsInRange 48 57 (get_or ds k 0)) → fold with_digit 0 (take n ds) < 10000000000
front_small ds n h k d = digits_value_short numerals (take n ds) 10 (front_digits ds n h d) (omega (arith, length-take-le n ds h))

-- a width has one to ten digits
pub width_length : (ds : List ℕ) (w : ℕ) → w ≤ 2147483647 → ds ≡ decimal w → (0 < length ds) × (length ds ≤ 10)
width_length ds w h e = (
  subst (λ (l : List ℕ). 0 < length l) (sym e) (decimal_nonempty w (omega arith)),
  subst (λ (l : List ℕ). length l ≤ 10) (sym e) (length-decimal-le 10 w (omega arith) (omega arith) (omega arith)),
)

-- a width has no spare 0
pub width_first : (ds : List ℕ) (w : ℕ) → w ≤ 2147483647 → ds ≡ decimal w → get_or ds 0 0 ≡ 48 → 1 < length ds → ⊥
width_first ds w h e z l =
    elim (cases_lt 0 w) [
      | inl p ↦ omega (arith, first_decimal w p (omega arith), ap (λ (s : List ℕ). get_or s 0 0) e)
      | inr p ↦ omega (arith, ap length e, ap length (decimal_digit w (omega arith)))
    ]

-- each byte of a width is a digit
pub width_digit : (ds : List ℕ) (w k : ℕ) → w ≤ 2147483647 → ds ≡ decimal w → k < length ds → IsInRange 48 57 (get_or ds k 0)
width_digit ds w k h e l = subst AllDigits (sym e) (digits_decimal numerals w (omega arith)) k l

-- the digits of a width come to it
pub width_value : (ds : List ℕ) (w : ℕ) → w ≤ 2147483647 → ds ≡ decimal w → fold with_digit 0 ds ≡ w
width_value ds w h e = ap (fold with_digit 0) e ∙ digits_value-decimal numerals w (omega arith)

-- digits with no spare 0 are the decimal of what they come to
pub width_text : (ds : List ℕ) → AllDigits ds → 0 < length ds → (get_or ds 0 0 ≡ 48 → length ds ≡ 1) → fold with_digit 0 ds < 10000000000 → ds ≡ decimal (fold with_digit 0 ds)
width_text ds d l z h = sym (decimal-digits_value numerals ds d l z (omega arith))
