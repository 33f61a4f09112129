-- Lengths as numbers in a signed width.
use Rattle.std.specs.Prelude.{◌≡◌, ℕ, ◌*◌, ◌<◌, cond, not, List, ◌++◌, map, length, drop, ℤ, Ok, Err, count_by, Result, nat_le, nat_lt}
use Rattle.encoding.specs.Offsets.{wrapped}
use Rattle.kernels.specs.declared.length.LengthFault.{LengthFault}
use Rattle.kernels.specs.declared.length.LengthFault.TheVariants.{Rows}
use Rattle.kernels.specs.declared.length.Unit.{Unit}
use Rattle.kernels.specs.declared.length.Unit.TheVariants.{Bytes, Bits}

-- the number of each fault
abbrev pub number : LengthFault → ℕ
number Rows = 12

-- a length in its unit: as it is, or eight times as many bits
abbrev pub in_unit : Unit → ℕ → ℕ
in_unit Bytes n = n
in_unit Bits n = 8 * n

-- the numbers that stand for these lengths in the width whose greatest number is c
abbrev pub numbers_in : Unit → ℕ → List ℕ → List ℤ
numbers_in u c ls = map (λ n. wrapped c (in_unit u n)) ls

-- how many of these lengths do not fit the width
abbrev pub over_in : Unit → ℕ → List ℕ → ℕ
over_in u c ls = count_by (λ n. not (nat_le (in_unit u n) c)) ls

-- what is answered where the list has so many places
abbrev pub answered : Unit → ℕ → List ℕ → ℕ → Result ℕ LengthFault
answered u c ls places = cond (nat_lt places (length ls)) (Err Rows) (Ok (over_in u c ls))

-- the list after the call: the numbers in front, and every place past the rows as it was; a list too short is as it was
abbrev pub filled : Unit → ℕ → List ℕ → List ℤ → List ℤ
filled u c ls out = cond (nat_lt (length out) (length ls)) out (numbers_in u c ls ++ drop (length ls) out)

-- the list `old`, seen by its numbers in the width up to c, becomes `new` and r is answered; a list that is too short stays as it is
pub record Fills {X : Type 0} (u : Unit) (number : X → ℤ) (c : ℕ) (ls : List ℕ) (old new : List X) (r : Result ℕ LengthFault) : Type 0 where
  pub answer : r ≡ answered u c ls (length old)
  pub after : map number new ≡ filled u c ls (map number old)
  pub kept : length old < length ls → new ≡ old
