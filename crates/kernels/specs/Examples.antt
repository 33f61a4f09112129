-- Worked examples, proved together.
use Rattle.std.specs.Prelude.{◌≡◌, ℕ, ◌*◌, Bool, true, false, not, List, [], ◌∷◌, ℤ, pos, negsuc, nat_le}
use Rattle.encoding.specs.Offsets.{wrapped}

pub data Example : Type 0 where
  -- a row of so many bytes, its bit length in 32 bits, and whether it is counted as wrapped
  bits : ℕ → ℤ → Bool → Example

abbrev pub examples : List Example
examples = bits 268435455 (pos 2147483640) false ∷ bits 268435456 (negsuc 2147483647) true ∷ []

abbrev pub Holds : Example → Type 0
Holds (bits n z counted) = (wrapped 2147483647 (8 * n) ≡ z) × (not (nat_le (8 * n) 2147483647) ≡ counted)

abbrev pub AllHold : List Example → Type 0
AllHold [] = Unit {0}
AllHold (e ∷ es) = Holds e × AllHold es

abbrev pub ExamplesHold : Type 0
ExamplesHold = AllHold examples
