-- How the bytes of a job file are laid out.
use Rattle.std.specs.Prelude.{◌≡◌, ℕ, ◌+◌, ◌*◌, Bool, true, false, List, [], ◌∷◌, ◌++◌, length, ℤ, Some, None, Option}
use Rattle.std.proofs.Common.{to_z}
use Rattle.std.specs.Int.{w64}
use Rattle.records.specs.declared.record.Record.{Record}
use Rattle.records.specs.declared.record.Record.TheVariants.{Column, Cut, CutByCharacter, Join, Length, BitLength}
use Rattle.records.specs.Kinds.{number_of, kind_of}

-- the number that bytes give, the lowest byte first
abbrev pub le : List ℕ → ℕ
le [] = 0
le (b ∷ bs) = b + 256 * le bs

-- n bytes that give the number x stand at the front of b, and rest follows them
abbrev pub Reads : ℕ → ℕ → List ℕ → List ℕ → Type 0
Reads n x b rest = (p : List ℕ) × (length p ≡ n) × (le p ≡ x) × (b ≡ p ++ rest)

-- the byte for yes and the byte for no
abbrev pub mark_of : Bool → ℕ
mark_of true = 1
mark_of false = 0

-- b is a length that may be left out: the byte 0, or the byte 1 and 8 bytes of it
abbrev pub LengthPart : Option ℕ → List ℕ → Type 0
LengthPart None b = b ≡ mark_of false ∷ []
LengthPart (Some n) b = (t : List ℕ) × (b ≡ mark_of true ∷ t) × Reads 8 n t []

-- b is the body of a column record: the size of the format, the format, the rows part
abbrev pub ColumnBody : List ℕ → List ℕ → List ℕ → Type 0
ColumnBody f rows b = b ≡ length f ∷ (f ++ rows)

-- b is the body of a cut: the column's number, the start in two's complement, the length
abbrev pub CutBody : ℕ → ℤ → Option ℕ → List ℕ → Type 0
CutBody col start len b = (t u : List ℕ) × (x : ℕ) × Reads 2 col b t × Reads 8 x t u × (to_z w64 x ≡ start) × LengthPart len u

-- b is the body of a join: the numbers of two columns
abbrev pub JoinBody : ℕ → ℕ → List ℕ → Type 0
JoinBody l r b = (t : List ℕ) × Reads 2 l b t × Reads 2 r t []

-- b is the body of the record: all of its fields, and nothing after them
abbrev pub Fields : Record → List ℕ → Type 0
Fields (Column f rows) b = ColumnBody f.now rows.now b
Fields (Cut c s l) b = CutBody c s l b
Fields (CutByCharacter c s l) b = CutBody c s l b
Fields (Join l r) b = JoinBody l r b
Fields (Length c) b = Reads 2 c b []
Fields (BitLength c) b = Reads 2 c b []

-- the record x stands at the front of a file, and rest follows it:
-- 4 bytes for the size of kind and body, 2 bytes for the kind, the body
abbrev pub Stands : List ℕ → Record → List ℕ → Type 0
Stands file x rest = (body t : List ℕ) × Reads 4 (2 + length body) file t × Reads 2 (number_of (kind_of x)) t (body ++ rest) × Fields x body

-- a record as a file gives it, wherever its parts are borrowed from
pub data GivenRecord : Type 0 where
  given_column : List ℕ → List ℕ → GivenRecord
  given_cut : ℕ → ℤ → Option ℕ → GivenRecord
  given_cut_by_character : ℕ → ℤ → Option ℕ → GivenRecord
  given_join : ℕ → ℕ → GivenRecord
  given_length : ℕ → GivenRecord
  given_bit_length : ℕ → GivenRecord

-- what a record gives
abbrev pub given_of : Record → GivenRecord
given_of (Column f rows) = given_column f.now rows.now
given_of (Cut c s l) = given_cut c s l
given_of (CutByCharacter c s l) = given_cut_by_character c s l
given_of (Join l r) = given_join l r
given_of (Length c) = given_length c
given_of (BitLength c) = given_bit_length c

-- a row with its bytes s stands at the front of b, and rest follows it:
-- 1 byte that says whether it is valid, 4 bytes for the size, its bytes
abbrev pub RowAt : List ℕ → Bool → List ℕ → List ℕ → Type 0
RowAt b v s rest = (t : List ℕ) × (b ≡ mark_of v ∷ t) × Reads 4 (length s) t (s ++ rest)

-- a row as a file gives it
pub record GivenRow : Type 0 where
  pub valid : Bool
  pub bytes : List ℕ

-- the rows part of a column record, and the rows that it holds
pub data Laid : List ℕ → List GivenRow → Type 0 where
  none : Laid [] []
  more : {b rest s : List ℕ} {v : Bool} {rs : List GivenRow} → RowAt b v s rest → Laid rest rs → Laid b (record { valid = v; bytes = s } ∷ rs)
