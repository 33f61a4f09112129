-- What the bodies of records hold, and when there is none.
use Rattle.std.proofs.Common.{◌≡◌, ℕ, Bool, true, false, List, [], ◌∷◌, get_or, drop, ℤ, Some, None, Option, sym, refl, ap, ◌∙◌, subst, arith, w64, to_z}
use Rattle.records.specs.declared.record.Record.{Record}
use Rattle.records.specs.declared.record.Record.TheVariants.{Column, Cut, CutByCharacter, Join, Length, BitLength}
use Rattle.records.specs.declared.record.RecordKind.{RecordKind}
use Rattle.records.specs.declared.record.RecordKind.TheVariants as kind
use Rattle.records.specs.Kinds.{kind_of}
use Rattle.records.specs.Layout.{Reads, mark_of, LengthPart, ColumnBody, CutBody, JoinBody, Fields, GivenRecord, given_of}
use Rattle.records.specs.Layout.GivenRecord.{given_column, given_cut, given_cut_by_character, given_join, given_length, given_bit_length}
use Rattle.records.proofs.Little.{parts_same, reads_at, reads_same}

-- no mark: no length, nor the sign that it is left out
pub length_unmarked : (b : List ℕ) → ((v : Bool) (rest : List ℕ) → b ≡ mark_of v ∷ rest → ⊥) → (l : Option ℕ) → LengthPart l b → ⊥
length_unmarked b k None h = k false [] h
length_unmarked b k (Some n) h = k true h.0 h.1

-- a mark for a length, and no length
pub length_missing : (b t : List ℕ) → b ≡ 1 ∷ t → ((x : ℕ) → Reads 8 x t [] → ⊥) → (l : Option ℕ) → LengthPart l b → ⊥
length_missing b t e k None h = omega (arith, ap (λ (s : List ℕ). get_or s 0 0) (sym e ∙ h))
length_missing b t e k (Some n) h = k n (reads_at (ap (drop 1) (sym h.1 ∙ e)) h.2)

-- P of each record of the kind k whose body is b
abbrev pub Each : (GivenRecord → Type 0) → RecordKind → List ℕ → Type 0
Each P kind.Column b = (f rows : List ℕ) → ColumnBody f rows b → P (given_column f rows)
Each P kind.Cut b = (c : ℕ) (s : ℤ) (l : Option ℕ) → CutBody c s l b → P (given_cut c s l)
Each P kind.CutByCharacter b = (c : ℕ) (s : ℤ) (l : Option ℕ) → CutBody c s l b → P (given_cut_by_character c s l)
Each P kind.Join b = (x y : ℕ) → JoinBody x y b → P (given_join x y)
Each P kind.Length b = (x : ℕ) → Reads 2 x b [] → P (given_length x)
Each P kind.BitLength b = (x : ℕ) → Reads 2 x b [] → P (given_bit_length x)

each_own : (P : GivenRecord → Type 0) (b : List ℕ) (x : Record) → Each P (kind_of x) b → Fields x b → P (given_of x)
each_own P b (Column f rows) z h = z f.now rows.now h
each_own P b (Cut c s l) z h = z c s l h
each_own P b (CutByCharacter c s l) z h = z c s l h
each_own P b (Join x y) z h = z x y h
each_own P b (Length c) z h = z c h
each_own P b (BitLength c) z h = z c h

pub each_body : (P : GivenRecord → Type 0) (k : RecordKind) (b : List ℕ) → Each P k b → (x : Record) → kind_of x ≡ k → Fields x b → P (given_of x)
each_body P k b z x e = each_own P b x (subst (λ j. Each P j b) (sym e) z)

-- a body gives one record of its kind
length_same : (b : List ℕ) (l m : Option ℕ) → LengthPart l b → LengthPart m b → l ≡ m
length_same b None None h k = refl
length_same b None (Some m) h k = absurd (omega (arith, ap (λ (s : List ℕ). get_or s 0 0) (sym h ∙ k.1)))
length_same b (Some l) None h k = absurd (omega (arith, ap (λ (s : List ℕ). get_or s 0 0) (sym h.1 ∙ k)))
length_same b (Some l) (Some m) h k =
    ap (λ (n : ℕ). Some n) (reads_same (reads_at (ap (drop 1) (sym h.1 ∙ k.1)) h.2) k.2).0

column_same : (b f rows g tail : List ℕ) → ColumnBody f rows b → ColumnBody g tail b → (f ≡ g) × (rows ≡ tail)
column_same b f rows g tail h k =
    let e = sym h ∙ k in parts_same f g rows tail (ap (drop 1) e) (ap (λ (s : List ℕ). get_or s 0 0) e)

cut_same : (b : List ℕ) (c d : ℕ) (s t : ℤ) (l m : Option ℕ) → CutBody c s l b → CutBody d t m b → (c ≡ d) × (s ≡ t) × (l ≡ m)
cut_same b c d s t l m h k =
    let i = reads_same h.3 k.3 in
    let j = reads_same (reads_at i.1 h.4) k.4 in
    (i.0, sym h.5 ∙ ap (to_z w64) j.0 ∙ k.5, length_same k.1 l m (subst (LengthPart l) j.1 h.6) k.6)

join_same : (b : List ℕ) (x y z w : ℕ) → JoinBody x y b → JoinBody z w b → (x ≡ z) × (y ≡ w)
join_same b x y z w h k =
    let i = reads_same h.1 k.1 in
    (i.0, (reads_same (reads_at i.1 h.2) k.2).0)

pub fields_same : (b : List ℕ) (x y : Record) → kind_of x ≡ kind_of y → Fields x b → Fields y b → given_of x ≡ given_of y
fields_same b (Column f rows) y e h =
    each_body (λ o. given_column f.now rows.now ≡ o) kind.Column b
    (λ g tail q. let r = column_same b f.now rows.now g tail h q in λ i. given_column (r.0 i) (r.1 i)) y (sym e)
fields_same b (Cut c s l) y e h =
    each_body (λ o. given_cut c s l ≡ o) kind.Cut b
    (λ d t m q. let r = cut_same b c d s t l m h q in λ i. given_cut (r.0 i) (r.1 i) (r.2 i)) y (sym e)
fields_same b (CutByCharacter c s l) y e h =
    each_body (λ o. given_cut_by_character c s l ≡ o) kind.CutByCharacter b
    (λ d t m q. let r = cut_same b c d s t l m h q in λ i. given_cut_by_character (r.0 i) (r.1 i) (r.2 i)) y (sym e)
fields_same b (Join x z) y e h =
    each_body (λ o. given_join x z ≡ o) kind.Join b
    (λ u w q. let r = join_same b x z u w h q in λ i. given_join (r.0 i) (r.1 i)) y (sym e)
fields_same b (Length c) y e h =
    each_body (λ o. given_length c ≡ o) kind.Length b (λ d q. ap given_length (reads_same h q).0) y (sym e)
fields_same b (BitLength c) y e h =
    each_body (λ o. given_bit_length c ≡ o) kind.BitLength b (λ d q. ap given_bit_length (reads_same h q).0) y (sym e)
