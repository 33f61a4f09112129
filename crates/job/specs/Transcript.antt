-- What a job prints, record by record.
use Rattle.std.specs.Prelude.{◌≡◌, ℕ, ◌+◌, ◌<◌, ◌≤◌, Bool, true, false, not, ◌⊎◌, List, [], ◌∷◌, ◌++◌, map, length, Some, None, count_by, Option, slice_index_or}
use Rattle.std.specs.List.{flat_map}
use Rattle.encoding.specs.Utf8.{Text}
use Rattle.kernels.specs.Lengths.{numbers_in, over_in}
use Rattle.kernels.specs.declared.length.Unit as unit
use Rattle.kernels.specs.declared.length.Unit.TheVariants.{Bytes, Bits}
use Rattle.kinds.specs.Lengths.{ceiling}
use Rattle.job.specs.declared.column.OffsetFormat.{OffsetFormat}
use Rattle.records.specs.declared.format.Format.{Format}
use Rattle.records.specs.declared.format.Format.TheVariants.{Utf8, LargeUtf8, Binary, LargeBinary, Utf8View, BinaryView, FixedSizeBinary}
use Rattle.records.specs.declared.record.Record.{Record}
use Rattle.records.specs.declared.record.Record.TheVariants.{Column, Cut, CutByCharacter, Join, Length, BitLength}
use Rattle.records.specs.Formats.{letters, Lawful}
use Rattle.records.specs.Layout.{Stands, Laid, GivenRow}
use Rattle.job.specs.Lines.{line, refusal_line, number_line}

-- a column record that was taken: its format and the part of it that holds its rows
pub record ColumnRecord : Type 0 where
  pub format : Format
  pub part : List ℕ

-- a format that is built: whether its rows are text, and whether its offsets have 64 bits
abbrev pub built : Format → Option OffsetFormat
built Utf8 = Some (record { text = true; wide = false })
built LargeUtf8 = Some (record { text = true; wide = true })
built Binary = Some (record { text = false; wide = false })
built LargeBinary = Some (record { text = false; wide = true })
built Utf8View = None
built BinaryView = None
built (FixedSizeBinary w) = None

-- every row is text, null rows too
abbrev pub AllText : List GivenRow → Type 0
AllText rs = (i : ℕ) (d : GivenRow) → i < length rs → Text (slice_index_or rs i d).bytes

-- what making the column answers: nothing where it is made, else the number of the refusal
pub data ColumnAnswer (x : Format) (rs : List GivenRow) : Option ℕ → Type 0 where
  made : (k : OffsetFormat) → built x ≡ Some k → (k.text ≡ true → AllText rs) → ColumnAnswer x rs None
  ill_formed : (k : OffsetFormat) → built x ≡ Some k → k.text ≡ true → (AllText rs → ⊥) → ColumnAnswer x rs (Some 4)
  unbuilt : built x ≡ None → ColumnAnswer x rs (Some 15)

-- column c is read: its record was taken, from a file that is not too long, and its column, in this format and with these
-- rows, is made
pub record Read (cs : List ColumnRecord) (c : ℕ) (k : OffsetFormat) (rs : List GivenRow) : Type 0 where
  pub taken : ColumnRecord
  pub inside : c < length cs
  pub here : (d : ColumnRecord) → slice_index_or cs c d ≡ taken
  pub small : length taken.part ≤ 65536
  pub format : built taken.format ≡ Some k
  pub rows : Laid taken.part rs
  pub texts : k.text ≡ true → AllText rs

-- no column of this number is read
abbrev pub IsNotRead : List ColumnRecord → ℕ → Type 0
IsNotRead cs c = (k : OffsetFormat) (rs : List GivenRow) → Read cs c k rs → ⊥

-- the lengths of rows, and how many rows are null
abbrev pub sizes : List GivenRow → List ℕ
sizes rs = map (λ r. length r.bytes) rs

abbrev pub nulls : List GivenRow → ℕ
nulls rs = count_by (λ r. not r.valid) rs

-- what a length prints: rows, nulls and wrapped rows, then each row's number in the width
abbrev pub length_lines : unit.Unit → ℕ → Bool → List GivenRow → List ℕ
length_lines u n wide rs =
    line n 0 (length rs) (nulls rs) (over_in u (ceiling wide) (sizes rs)) ++ flat_map number_line (numbers_in u (ceiling wide) (sizes rs))

-- the operation x names column c
abbrev pub Names : Record → ℕ → Type 0
Names (Column f r) c = ⊥
Names (Cut k s l) c = k ≡ c
Names (CutByCharacter k s l) c = k ≡ c
Names (Join j k) c = (j ≡ c) ⊎ (k ≡ c)
Names (Length k) c = k ≡ c
Names (BitLength k) c = k ≡ c

-- the operation x measures column c in this unit
abbrev pub Measures : Record → unit.Unit → ℕ → Type 0
Measures (Column f r) u c = ⊥
Measures (Cut k s l) u c = ⊥
Measures (CutByCharacter k s l) u c = ⊥
Measures (Join j k) u c = ⊥
Measures (Length k) u c = (u ≡ Bytes) × (k ≡ c)
Measures (BitLength k) u c = (u ≡ Bits) × (k ≡ c)

-- the operation x is not built yet
abbrev pub NotBuilt : Record → Type 0
NotBuilt (Column f r) = ⊥
NotBuilt (Cut k s l) = Unit {0}
NotBuilt (CutByCharacter k s l) = Unit {0}
NotBuilt (Join j k) = Unit {0}
NotBuilt (Length k) = ⊥
NotBuilt (BitLength k) = ⊥

-- what operation n prints, after these column records
pub data Operation (cs : List ColumnRecord) (n : ℕ) (x : Record) : List ℕ → Type 0 where
  not_read : (c : ℕ) → Names x c → IsNotRead cs c → Operation cs n x (line n 18 0 0 0)
  not_built : NotBuilt x → ((c : ℕ) → Names x c → (k : OffsetFormat) × (rs : List GivenRow) × Read cs c k rs) → Operation cs n x (line n 15 0 0 0)
  too_many : (u : unit.Unit) (c : ℕ) (k : OffsetFormat) (rs : List GivenRow) → Measures x u c → Read cs c k rs → 4096 < length rs → Operation cs n x (line n 12 0 0 0)
  measured : (u : unit.Unit) (c : ℕ) (k : OffsetFormat) (rs : List GivenRow) → Measures x u c → Read cs c k rs → length rs ≤ 4096 → Operation cs n x (length_lines u n k.wide rs)

-- a column record's format is listed, and its rows part is laid out as rows
abbrev pub Listed : Record → Type 0
Listed (Column f r) = ((y : Format) × Lawful y × (f.now ≡ letters y)) × ((rs : List GivenRow) × Laid r.now rs)
Listed (Cut k s l) = Unit {0}
Listed (CutByCharacter k s l) = Unit {0}
Listed (Join j k) = Unit {0}
Listed (Length k) = Unit {0}
Listed (BitLength k) = Unit {0}

-- x is a column record of this format and with this rows part
abbrev pub Columns : Record → Format → List ℕ → Type 0
Columns (Column f r) y part = Lawful y × (f.now ≡ letters y) × (r.now ≡ part)
Columns (Cut k s l) y part = ⊥
Columns (CutByCharacter k s l) y part = ⊥
Columns (Join j k) y part = ⊥
Columns (Length k) y part = ⊥
Columns (BitLength k) y part = ⊥

-- a job on its way: the column records taken, how many operations ran, and what is left of the file
pub record State : Type 0 where
  pub columns : List ColumnRecord
  pub operations : ℕ
  pub rest : List ℕ

abbrev pub ended : State → State
ended s = record { columns = s.columns; operations = s.operations; rest = [] }

-- what a column record prints
abbrev pub answer_line : Option ℕ → List ℕ
answer_line None = []
answer_line (Some n) = refusal_line n

-- one step: what it prints, and the state after it
pub data Step (s : State) : List ℕ → State → Type 0 where
  too_long : 65536 < length s.rest → Step s (refusal_line 19) (ended s)
  bad : 0 < length s.rest → length s.rest ≤ 65536 → ((x : Record) (t : List ℕ) → Stands s.rest x t → Listed x → ⊥) → Step s (refusal_line 17) (ended s)
  column : (x : Record) (f : Format) (part t : List ℕ) (rs : List GivenRow) (a : Option ℕ) → length s.rest ≤ 65536 → Stands s.rest x t → Columns x f part
      → Laid part rs → ColumnAnswer f rs a
      → Step s (answer_line a) (record { columns = s.columns ++ record { format = f; part = part } ∷ []; operations = s.operations; rest = t })
  operation : (x : Record) (t out : List ℕ) → length s.rest ≤ 65536 → Stands s.rest x t → Operation s.columns (s.operations + 1) x out
      → Step s out (record { columns = s.columns; operations = s.operations + 1; rest = t })

-- a whole job prints what its steps print, one after the other, until nothing is left of the file
pub data Runs : State → List ℕ → Type 0 where
  done : {s : State} → s.rest ≡ [] → Runs s []
  more : {s t : State} {a b : List ℕ} → Step s a t → Runs t b → Runs s (a ++ b)

-- the transcript of a file
abbrev pub Transcript : List ℕ → List ℕ → Type 0
Transcript file out = Runs (record { columns = []; operations = 0; rest = file }) out

-- a file has no two transcripts
abbrev pub OneTranscript : Type 0
OneTranscript = (file a b : List ℕ) → Transcript file a → Transcript file b → a ≡ b
