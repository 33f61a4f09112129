-- The kinds of records.
use Rattle.std.specs.Prelude.{◌≡◌, ◌≢◌, ℕ, Result, MatchResult}
use Rattle.records.specs.declared.record.BadRecord.{BadRecord}
use Rattle.records.specs.declared.record.Record.{Record}
use Rattle.records.specs.declared.record.Record.TheVariants as record_of
use Rattle.records.specs.declared.record.RecordKind.{RecordKind}
use Rattle.records.specs.declared.record.RecordKind.TheVariants.{Column, Cut, CutByCharacter, Join, Length, BitLength}

-- the number that stands for a kind
abbrev pub number_of : RecordKind → ℕ
number_of Column = 1
number_of Cut = 2
number_of CutByCharacter = 3
number_of Join = 4
number_of Length = 5
number_of BitLength = 6

-- the result is the kind with this number, or an error where no kind has it
abbrev pub Decodes : ℕ → Result RecordKind BadRecord → Type 0
Decodes n r = MatchResult r (λ k. number_of k ≡ n) (λ _. (k : RecordKind) → number_of k ≢ n)

-- the kind of a record
abbrev pub kind_of : Record → RecordKind
kind_of (record_of.Column f rows) = Column
kind_of (record_of.Cut c s l) = Cut
kind_of (record_of.CutByCharacter c s l) = CutByCharacter
kind_of (record_of.Join l r) = Join
kind_of (record_of.Length c) = Length
kind_of (record_of.BitLength c) = BitLength
