-- The lines that a job prints.
use Rattle.std.specs.Prelude.{ℕ, List, ◌++◌, length, ℤ, Ok, Err, vec_items, codes, decimal, Result}
use Rattle.std.specs.Borrow.{Bor}
use Rattle.std.specs.Fmt.{signed_decimal}
use Rattle.job.specs.declared.fault.JobFault.{JobFault}
use Rattle.job.specs.declared.lengths.Lengths.{Lengths}
use Rattle.job.specs.Faults.{number}

-- an operation's line: its number, the refusal or 0, and three numbers
abbrev pub line_text : ℕ → ℕ → ℕ → ℕ → ℕ → List ℕ
line_text n refusal a b c = decimal n ++ (codes " " ++ (decimal refusal ++ (codes " " ++ (decimal a ++ (codes " " ++ (decimal b ++ (codes " " ++ decimal c)))))))

-- the line of operation n by its answer: its lengths' counts, or the number of its fault and three zeros
abbrev pub operation_text : ℕ → Result (Bor Lengths) JobFault → List ℕ
operation_text n (Ok m) = line_text n 0 (length (vec_items m.now.numbers)) m.now.nulls m.now.wrapped
operation_text n (Err f) = line_text n (number f) 0 0 0

abbrev pub line : ℕ → ℕ → ℕ → ℕ → ℕ → List ℕ
line n refusal a b c = line_text n refusal a b c ++ codes "\n"

-- a refusal that belongs to no operation: its number and three zeros
abbrev pub refusal_text : ℕ → List ℕ
refusal_text refusal = decimal refusal ++ codes " 0 0 0"

abbrev pub refusal_line : ℕ → List ℕ
refusal_line refusal = refusal_text refusal ++ codes "\n"

-- a length on a line
abbrev pub number_line : ℤ → List ℕ
number_line z = signed_decimal z ++ codes "\n"
