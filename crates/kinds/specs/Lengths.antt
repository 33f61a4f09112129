-- Lengths by kind: which list they go to, what is written there, and what is answered.
use Rattle.std.specs.Prelude.{◌≡◌, ℕ, ◌<◌, ◌≤◌, Bool, cond, List, ◌++◌, map, length, drop, ℤ, pos, Some, None, Ok, Err, Option, Result, nat_lt, slice_index}
use Rattle.encoding.specs.Offsets.{wide_of}
use Rattle.columns.specs.OffsetColumn.{lists_of}
use Rattle.columns.specs.Lists.{lengths_of}
use Rattle.kernels.specs.Lengths.{numbers_in, over_in}
use Rattle.kernels.specs.declared.length.LengthFault.TheVariants.{Rows}
use Rattle.kernels.specs.declared.length.Unit as unit
use Rattle.kinds.specs.declared.column.Column.{Column}
use Rattle.kinds.specs.declared.column.Column.TheVariants.{Offset, Unbuilt}
use Rattle.kinds.specs.declared.fault.KindFault.{KindFault}
use Rattle.kinds.specs.declared.fault.KindFault.TheVariants.{Lacks, Length}

-- what is measured of a column: whether in 64 bits, and the length of each row
pub record Measured : Type 0 where
  pub wide : Bool
  pub lengths : List ℕ

-- nothing where the operation lacks the kind
abbrev pub measured : Column → Option Measured
measured (Offset c) = Some (record { wide = wide_of (lists_of c).offsets; lengths = lengths_of (lists_of c) })
measured (Unbuilt k) = None

-- the greatest number of the width
abbrev pub ceiling : Bool → ℕ
ceiling wide = cond wide 9223372036854775807 2147483647

-- how many places the list of the width has
abbrev pub room : Bool → List ℤ → List ℤ → ℕ
room wide ns ws = cond wide (length ws) (length ns)

-- the numbers to be written: the lengths as they are, and the lengths in a unit, wrapped in the width
abbrev pub true_lengths : Measured → List ℤ
true_lengths m = map pos m.lengths

abbrev pub in_width : unit.Unit → Measured → List ℤ
in_width u m = numbers_in u (ceiling m.wide) m.lengths

-- how many rows' lengths in the unit do not fit the width, null rows counted too
abbrev pub over_of : unit.Unit → Measured → ℕ
over_of u m = over_in u (ceiling m.wide) m.lengths

-- every length itself fits the width
abbrev pub Low : Option Measured → Type 0
Low None = Unit {0}
Low (Some m) = (i : ℕ) → i < length m.lengths → slice_index m.lengths i ≤ ceiling m.wide

-- numbers laid over the front of a list; a list too short for them stays as it is
abbrev pub laid : List ℤ → List ℤ → List ℤ
laid xs out = cond (nat_lt (length out) (length xs)) out (xs ++ drop (length xs) out)

-- the 32-bit list after the call, and the 64-bit one: one of them has the numbers, the other is as it was
abbrev pub narrow_after : (Measured → List ℤ) → Option Measured → List ℤ → List ℤ
narrow_after numbers None out = out
narrow_after numbers (Some m) out = cond m.wide out (laid (numbers m) out)

abbrev pub wide_after : (Measured → List ℤ) → Option Measured → List ℤ → List ℤ
wide_after numbers None out = out
wide_after numbers (Some m) out = cond m.wide (laid (numbers m) out) out

-- 15 where the kind is lacking, 12 where its list is shorter than the rows, else what is counted
abbrev pub answer : {X : Type 0} → (Measured → X) → Option Measured → List ℤ → List ℤ → Result X KindFault
answer counted None ns ws = Err Lacks
answer counted (Some m) ns ws = cond (nat_lt (room m.wide ns ws) (length m.lengths)) (Err (Length Rows)) (Ok (counted m))

-- a call by kind, from the two lists before it to the two lists after it and its answer r
pub record Writes {X : Type 0} (numbers : Measured → List ℤ) (counted : Measured → X) (m : Option Measured) (ns ws ns' ws' : List ℤ) (r : Result X KindFault) : Type 0 where
  pub answered : r ≡ answer counted m ns ws
  pub narrow : ns' ≡ narrow_after numbers m ns
  pub wide : ws' ≡ wide_after numbers m ws
