-- A file has one transcript.
use Rattle.std.proofs.Common.{◌≡◌, ℕ, ◌+◌, ◌*◌, ◌<◌, ◌≤◌, cond, eqb, List, [], ◌∷◌, ◌++◌, length, get_or, drop, Some, None, fold, Option, sym, refl, ap, ◌∙◌, subst, arith}
use Rattle.kernels.specs.declared.length.Unit as unit
use Rattle.records.specs.Formats.{letters, Lawful}
use Rattle.records.specs.Layout.{Laid, GivenRow, GivenRecord, given_of, given_column, given_cut, given_cut_by_character, given_join, given_length, given_bit_length}
use Rattle.records.specs.declared.format.Format.{Format}
use Rattle.records.specs.declared.format.Format.TheVariants.{Utf8, LargeUtf8, Binary, LargeBinary, Utf8View, BinaryView, FixedSizeBinary}
use Rattle.records.specs.declared.record.Record.{Record}
use Rattle.records.specs.declared.record.Record.TheVariants.{Column, Cut, CutByCharacter, Join, Length, BitLength}
use Rattle.records.proofs.Records.{stands_same, stands_shorter}
use Rattle.records.proofs.RowParts.{laid_same}
use Rattle.records.proofs.Widths.{with_digit, width_value}
use Rattle.job.specs.declared.column.OffsetFormat.{OffsetFormat}
use Rattle.job.specs.Transcript.{ColumnRecord, built, ColumnAnswer, made, ill_formed, unbuilt, Read, IsNotRead, length_lines, Names, Measures, NotBuilt, Operation, not_read, not_built, too_many, measured, Listed, Columns, State, answer_line, Step, too_long, bad, column, operation, Runs, done, more, OneTranscript}
use Rattle.job.proofs.Finding.{read_has, has_same}

-- a format back from its letters
abbrev key : List ℕ → ℕ
key l = get_or l 0 0 * 256 + get_or l 1 0

abbrev format_of : List ℕ → Format
format_of l =
    cond (eqb (key l) 29952) Utf8 (cond (eqb (key l) 21760) LargeUtf8 (cond (eqb (key l) 31232) Binary (cond (eqb (key l) 23040) LargeBinary
    (cond (eqb (key l) 30325) Utf8View (cond (eqb (key l) 30330) BinaryView (FixedSizeBinary (fold with_digit 0 (drop 2 l))))))))

format_back : (x : Format) → Lawful x → format_of (letters x) ≡ x
format_back Utf8 h = refl
format_back LargeUtf8 h = refl
format_back Binary h = refl
format_back LargeBinary h = refl
format_back Utf8View h = refl
format_back BinaryView h = refl
format_back (FixedSizeBinary w) h = ap FixedSizeBinary (width_value _ w h refl)

letters_same : (x y : Format) → Lawful x → Lawful y → letters x ≡ letters y → x ≡ y
letters_same x y h k e = sym (format_back x h) ∙ ap format_of e ∙ format_back y k

-- an operation back from what it gives
abbrev Plain : Record → Type 0
Plain (Column f p) = ⊥
Plain (Cut k s l) = Unit {0}
Plain (CutByCharacter k s l) = Unit {0}
Plain (Join j k) = Unit {0}
Plain (Length k) = Unit {0}
Plain (BitLength k) = Unit {0}

abbrev record_back : GivenRecord → Record
record_back (given_column f p) = Length 0
record_back (given_cut k s l) = Cut k s l
record_back (given_cut_by_character k s l) = CutByCharacter k s l
record_back (given_join j k) = Join j k
record_back (given_length k) = Length k
record_back (given_bit_length k) = BitLength k

plain_back : (x : Record) → Plain x → record_back (given_of x) ≡ x
plain_back (Column f p) h = absurd h
plain_back (Cut k s l) h = refl
plain_back (CutByCharacter k s l) h = refl
plain_back (Join j k) h = refl
plain_back (Length k) h = refl
plain_back (BitLength k) h = refl

plain_same : (x y : Record) → Plain x → Plain y → given_of x ≡ given_of y → x ≡ y
plain_same x y h k e = sym (plain_back x h) ∙ ap record_back e ∙ plain_back y k

operation_plain : (cs : List ColumnRecord) (n : ℕ) (x : Record) (out : List ℕ) → Operation cs n x out → Plain x
operation_plain cs n (Column f p) out (not_read c h k) = absurd h
operation_plain cs n (Column f p) out (not_built h k) = absurd h
operation_plain cs n (Column f p) out (too_many u c k rs h r l) = absurd h
operation_plain cs n (Column f p) out (measured u c k rs h r l) = absurd h
operation_plain cs n (Cut k s l) out o = tt
operation_plain cs n (CutByCharacter k s l) out o = tt
operation_plain cs n (Join j k) out o = tt
operation_plain cs n (Length k) out o = tt
operation_plain cs n (BitLength k) out o = tt

plain_listed : (x : Record) → Plain x → Listed x
plain_listed (Column f p) h = absurd h
plain_listed (Cut k s l) h = tt
plain_listed (CutByCharacter k s l) h = tt
plain_listed (Join j k) h = tt
plain_listed (Length k) h = tt
plain_listed (BitLength k) h = tt

columns_listed : (x : Record) (f : Format) (part : List ℕ) (rs : List GivenRow) → Columns x f part → Laid part rs → Listed x
columns_listed (Column g p) f part rs h l = ((f, h.0, h.1), (rs, subst (λ (b : List ℕ). Laid b rs) (sym h.2) l))
columns_listed (Cut k s l) f part rs h m = absurd h
columns_listed (CutByCharacter k s l) f part rs h m = absurd h
columns_listed (Join j k) f part rs h m = absurd h
columns_listed (Length k) f part rs h m = absurd h
columns_listed (BitLength k) f part rs h m = absurd h

-- what a column record gives
columns_given : (x : Record) (f : Format) (part : List ℕ) → Columns x f part → Lawful f × (given_of x ≡ given_column (letters f) part)
columns_given (Column g p) f part h = (h.0, (λ i. given_column (h.1 i) (h.2 i)))
columns_given (Cut k s l) f part h = absurd h
columns_given (CutByCharacter k s l) f part h = absurd h
columns_given (Join j k) f part h = absurd h
columns_given (Length k) f part h = absurd h
columns_given (BitLength k) f part h = absurd h

columns_plain : (x y : Record) (f : Format) (part : List ℕ) → Columns x f part → Plain y → given_of x ≡ given_of y → ⊥
columns_plain x (Column g p) f part h k e = absurd k
columns_plain x (Cut a s l) f part h k e = let q = (columns_given x f part h).1 in let z : ◌≡◌ {A = ℕ} 0 1 = cc in omega arith
columns_plain x (CutByCharacter a s l) f part h k e = let q = (columns_given x f part h).1 in let z : ◌≡◌ {A = ℕ} 0 1 = cc in omega arith
columns_plain x (Join a b) f part h k e = let q = (columns_given x f part h).1 in let z : ◌≡◌ {A = ℕ} 0 1 = cc in omega arith
columns_plain x (Length a) f part h k e = let q = (columns_given x f part h).1 in let z : ◌≡◌ {A = ℕ} 0 1 = cc in omega arith
columns_plain x (BitLength a) f part h k e = let q = (columns_given x f part h).1 in let z : ◌≡◌ {A = ℕ} 0 1 = cc in omega arith

columns_same : (x y : Record) (f g : Format) (part other : List ℕ) → Columns x f part → Columns y g other → given_of x ≡ given_of y → (f ≡ g) × (part ≡ other)
columns_same x y f g part other h k e =
    let p = columns_given x f part h in
    let q = columns_given y g other k in
    let l : letters f ≡ letters g = let a = p.1 in let b = q.1 in cc in
    let m : part ≡ other = let a = p.1 in let b = q.1 in cc in
    (letters_same f g p.0 q.0 l, m)

some_apart : (k : OffsetFormat) (o : Option OffsetFormat) → o ≡ Some k → o ≡ None → ⊥
some_apart k o p q = let z : ◌≡◌ {A = ℕ} 0 1 = cc in omega arith

format_same : (j k : OffsetFormat) (o : Option OffsetFormat) → o ≡ Some j → o ≡ Some k → j ≡ k
format_same j k o p q = cc

answer_same : (x : Format) (rs : List GivenRow) (a b : Option ℕ) → ColumnAnswer x rs a → ColumnAnswer x rs b → a ≡ b
answer_same x rs a b (made j p t) (made k q u) = refl
answer_same x rs a b (made j p t) (ill_formed k q u n) = absurd (n (t (ap (λ (f : OffsetFormat). f.text) (format_same j k (built x) p q) ∙ u)))
answer_same x rs a b (made j p t) (unbuilt q) = absurd (some_apart j (built x) p q)
answer_same x rs a b (ill_formed j p u n) (made k q t) = absurd (n (t (ap (λ (f : OffsetFormat). f.text) (format_same k j (built x) q p) ∙ u)))
answer_same x rs a b (ill_formed j p u n) (ill_formed k q v m) = refl
answer_same x rs a b (ill_formed j p u n) (unbuilt q) = absurd (some_apart j (built x) p q)
answer_same x rs a b (unbuilt p) (made k q t) = absurd (some_apart k (built x) q p)
answer_same x rs a b (unbuilt p) (ill_formed k q v m) = absurd (some_apart k (built x) q p)
answer_same x rs a b (unbuilt p) (unbuilt q) = refl

read_same : (cs : List ColumnRecord) (c : ℕ) (j k : OffsetFormat) (rs qs : List GivenRow) → Read cs c j rs → Read cs c k qs → (j ≡ k) × (rs ≡ qs)
read_same cs c j k rs qs r s =
    let h = has_same cs c j k r.taken.part qs (read_has cs c j rs r) s in
    (h.0, laid_same r.rows h.1)

measures_names : (x : Record) (u : unit.Unit) (a c : ℕ) → Measures x u a → Names x c → c ≡ a
measures_names (Column f p) u a c h k = absurd h
measures_names (Cut k s l) u a c h n = absurd h
measures_names (CutByCharacter k s l) u a c h n = absurd h
measures_names (Join j k) u a c h n = absurd h
measures_names (Length k) u a c h n = sym n ∙ h.1
measures_names (BitLength k) u a c h n = sym n ∙ h.1

measures_same : (x : Record) (u v : unit.Unit) (a c : ℕ) → Measures x u a → Measures x v c → (u ≡ v) × (a ≡ c)
measures_same (Column f p) u v a c h k = absurd h
measures_same (Cut k s l) u v a c h n = absurd h
measures_same (CutByCharacter k s l) u v a c h n = absurd h
measures_same (Join j k) u v a c h n = absurd h
measures_same (Length k) u v a c h n = (h.0 ∙ sym n.0, sym h.1 ∙ n.1)
measures_same (BitLength k) u v a c h n = (h.0 ∙ sym n.0, sym h.1 ∙ n.1)

measures_built : (x : Record) (u : unit.Unit) (a : ℕ) → Measures x u a → NotBuilt x → ⊥
measures_built (Column f p) u a h n = h
measures_built (Cut k s l) u a h n = h
measures_built (CutByCharacter k s l) u a h n = h
measures_built (Join j k) u a h n = h
measures_built (Length k) u a h n = n
measures_built (BitLength k) u a h n = n

unread_measured : (cs : List ColumnRecord) (x : Record) (u : unit.Unit) (a c : ℕ) (k : OffsetFormat) (rs : List GivenRow) → Names x c → IsNotRead cs c → Measures x u a → Read cs a k rs → ⊥
unread_measured cs x u a c k rs n z m r = z k rs (subst (λ (i : ℕ). Read cs i k rs) (sym (measures_names x u a c m n)) r)

many_few : (cs : List ColumnRecord) (x : Record) (u v : unit.Unit) (a c : ℕ) (j k : OffsetFormat) (rs qs : List GivenRow) → Measures x u a → Measures x v c
    → Read cs a j rs → Read cs c k qs → 4096 < length rs → length qs ≤ 4096 → ⊥
many_few cs x u v a c j k rs qs m n r s l h =
    let e = (measures_same x u v a c m n).1 in
    let w = (read_same cs c j k rs qs (subst (λ (i : ℕ). Read cs i j rs) e r) s).1 in
    omega (arith, ap length w)

operation_same : (cs : List ColumnRecord) (n : ℕ) (x : Record) (a b : List ℕ) → Operation cs n x a → Operation cs n x b → a ≡ b
operation_same cs n x a b (not_read c h k) (not_read d i j) = refl
operation_same cs n x a b (not_read c h k) (not_built i j) = let r = j c h in absurd (k r.0 r.1 r.2)
operation_same cs n x a b (not_read c h k) (too_many u d f rs m r l) = absurd (unread_measured cs x u d c f rs h k m r)
operation_same cs n x a b (not_read c h k) (measured u d f rs m r l) = absurd (unread_measured cs x u d c f rs h k m r)
operation_same cs n x a b (not_built h k) (not_read d i j) = let r = k d i in absurd (j r.0 r.1 r.2)
operation_same cs n x a b (not_built h k) (not_built i j) = refl
operation_same cs n x a b (not_built h k) (too_many u d f rs m r l) = absurd (measures_built x u d m h)
operation_same cs n x a b (not_built h k) (measured u d f rs m r l) = absurd (measures_built x u d m h)
operation_same cs n x a b (too_many u c f rs m r l) (not_read d i j) = absurd (unread_measured cs x u c d f rs i j m r)
operation_same cs n x a b (too_many u c f rs m r l) (not_built i j) = absurd (measures_built x u c m i)
operation_same cs n x a b (too_many u c f rs m r l) (too_many v d g qs o s h) = refl
operation_same cs n x a b (too_many u c f rs m r l) (measured v d g qs o s h) = absurd (many_few cs x u v c d f g rs qs m o r s l h)
operation_same cs n x a b (measured u c f rs m r l) (not_read d i j) = absurd (unread_measured cs x u c d f rs i j m r)
operation_same cs n x a b (measured u c f rs m r l) (not_built i j) = absurd (measures_built x u c m i)
operation_same cs n x a b (measured u c f rs m r l) (too_many v d g qs o s h) = absurd (many_few cs x v u d c g f qs rs o m s r h l)
operation_same cs n x a b (measured u c f rs m r l) (measured v d g qs o s h) =
    let e = measures_same x u v c d m o in
    let w = read_same cs d f g rs qs (subst (λ (i : ℕ). Read cs i f rs) e.1 r) s in
    λ i. length_lines (e.0 i) n (w.0 i).wide (w.1 i)

-- one step
step_same : (s t u : State) (a b : List ℕ) → Step s a t → Step s b u → (a ≡ b) × (t ≡ u)
step_same s t u a b (too_long l) (too_long m) = (refl, refl)
step_same s t u a b (too_long l) (bad m k n) = absurd (omega arith)
step_same s t u a b (too_long l) (column x f part r rs c k h p q o) = absurd (omega arith)
step_same s t u a b (too_long l) (operation x r out k h o) = absurd (omega arith)
step_same s t u a b (bad l k n) (too_long m) = absurd (omega arith)
step_same s t u a b (bad l k n) (bad m j o) = (refl, refl)
step_same s t u a b (bad l k n) (column x f part r rs c j h p q o) = absurd (n x r h (columns_listed x f part rs p q))
step_same s t u a b (bad l k n) (operation x r out j h o) = absurd (n x r h (plain_listed x (operation_plain s.columns (s.operations + 1) x out o)))
step_same s t u a b (column x f part r rs c k h p q o) (too_long m) = absurd (omega arith)
step_same s t u a b (column x f part r rs c k h p q o) (bad m j n) = absurd (n x r h (columns_listed x f part rs p q))
step_same s t u a b (column x f part r rs c k h p q o) (column y g other r' qs d k' h' p' q' o') =
    let e = stands_same x y r r' h h' in
    let w = columns_same x y f g part other p p' e.0 in
    let v : rs ≡ qs = laid_same (subst (λ (l : List ℕ). Laid l rs) w.1 q) q' in
    let z : c ≡ d = answer_same g qs c d (subst (λ (m : Format). ColumnAnswer m qs c) w.0 (subst (λ (l : List GivenRow). ColumnAnswer f l c) v o)) o' in (
      ap answer_line z,
      λ i. record { columns = s.columns ++ record { format = w.0 i; part = w.1 i } ∷ []; operations = s.operations; rest = e.1 i },
    )
step_same s t u a b (column x f part r rs c k h p q o) (operation y r' out k' h' o') =
    absurd (columns_plain x y f part p (operation_plain s.columns (s.operations + 1) y out o') (stands_same x y r r' h h').0)
step_same s t u a b (operation x r out k h o) (too_long m) = absurd (omega arith)
step_same s t u a b (operation x r out k h o) (bad m j n) = absurd (n x r h (plain_listed x (operation_plain s.columns (s.operations + 1) x out o)))
step_same s t u a b (operation x r out k h o) (column y g other r' qs d k' h' p' q' o') =
    absurd (columns_plain y x g other p' (operation_plain s.columns (s.operations + 1) x out o) (stands_same y x r' r h' h).0)
step_same s t u a b (operation x r out k h o) (operation y r' out' k' h' o') =
    let e = stands_same x y r r' h h' in
    let w = plain_same x y (operation_plain s.columns (s.operations + 1) x out o) (operation_plain s.columns (s.operations + 1) y out' o') e.0 in (
      operation_same s.columns (s.operations + 1) y out out' (subst (λ (z : Record). Operation s.columns (s.operations + 1) z out) w o) o',
      λ i. record { columns = s.columns; operations = s.operations + 1; rest = e.1 i },
    )

step_goes : (s t : State) (a : List ℕ) → Step s a t → 0 < length s.rest
step_goes s t a (too_long l) = omega arith
step_goes s t a (bad l k n) = l
step_goes s t a (column x f part r rs c k h p q o) = omega (arith, stands_shorter x h)
step_goes s t a (operation x r out k h o) = omega (arith, stands_shorter x h)

runs_same : {s : State} {a b : List ℕ} → Runs s a → Runs s b → a ≡ b
runs_same (done p) (done q) = refl
runs_same (done {s = s} p) (more {t = t} {a = a} q r) = absurd (omega (arith, ap length p, step_goes s t a q))
runs_same (more {s = s} {t = t} {a = a} p r) (done q) = absurd (omega (arith, ap length q, step_goes s t a p))
runs_same (more {s = s} {t = t} {a = a} {b = b} p r) (more {t = u} {a = c} {b = d} q w) =
    let e = step_same s t u a c p q in
    let f = runs_same r (subst (λ (z : State). Runs z d) (sym e.1) w) in
    λ i. e.0 i ++ f i

pub one_transcript : OneTranscript
one_transcript file a b p q = runs_same p q
