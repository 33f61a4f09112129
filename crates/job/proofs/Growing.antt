-- The lists of rows as they grow: a bit more, a row more, and how far the rows part is read.
use Rattle.std.proofs.Common.{◌≡◌, ℕ, ◌+◌, ◌*◌, ◌<◌, ◌≤◌, Bool, List, [], ◌∷◌, ◌++◌, map, length, ℤ, pos, vec_items, vec_len, sym, ap, ◌∙◌, subst, inl, inr, arith}
use Rattle.std.proofs.lemmas.List.{length-append, length_push, append_assoc, append-nil, get_or_append_left, get_or_push, map_push, nil_from_length}
use Rattle.std.proofs.lemmas.Bool.{cases_lt}
use Rattle.encoding.specs.Bitmap.{bit}
use Rattle.job.specs.declared.gather.Gathered.{Gathered}
use Rattle.records.specs.Layout.{RowAt, GivenRow, Laid}
use Rattle.records.specs.Layout.Laid.{none, more}
use Rattle.job.specs.Gathered.{starts_of, Lays}
use Rattle.records.proofs.RowParts.{row_same}
use Rattle.records.proofs.Little.{reads_fits}
use Rattle.job.proofs.Gathering.{rows_are, bytes_of, total_of, total_cons, length_bytes, bytes_append}

-- ---- a bit more

-- what the bits say once that of row n is written: it and those of the rows before
abbrev pub BitAdded : List ℕ → List ℕ → ℕ → Bool → Type 0
BitAdded old new n v = (n < 8 * length new) × (bit new n ≡ v) × ((k : ℕ) → k < n → bit new k ≡ bit old k)

-- ---- a row more

pub starts_push : (a : ℕ) (rs : List GivenRow) (r : GivenRow) → starts_of a (rs ++ r ∷ []) ≡ starts_of a rs ++ pos (a + total_of rs + length r.bytes) ∷ []
starts_push a [] r = let e : a + length r.bytes ≡ a + 0 + length r.bytes = omega arith in ap (λ (z : ℕ). pos a ∷ pos z ∷ []) e
starts_push a (q ∷ rs) r =
    let c = total_cons q rs in
    let e : a + length q.bytes + total_of rs + length r.bytes ≡ a + total_of (q ∷ rs) + length r.bytes = omega arith in
    ap (λ (z : List ℤ). pos a ∷ z) (starts_push (a + length q.bytes) rs r ∙ ap (λ (z : ℕ). starts_of (a + length q.bytes) rs ++ pos z ∷ []) e)

-- the lists with a row more
pub lays_push : {X : Type 0} (number : X → ℤ) (g h : Gathered X) (x : X) (v : Bool) (s : List ℕ) (n : ℕ) → n + 1 ≡ vec_len g.offsets
    → vec_items h.offsets ≡ vec_items g.offsets ++ x ∷ [] → number x ≡ pos (vec_len h.«data») → vec_items h.«data» ≡ vec_items g.«data» ++ s
    → BitAdded (vec_items g.validity) (vec_items h.validity) n v
    → (rs : List GivenRow) → Lays number g rs → Lays number h (rs ++ record { valid = v; bytes = s } ∷ [])
lays_push {X} number g h x v s n m o e d b rs l =
    let r : GivenRow = record { valid = v; bytes = s } in
    let c = rows_are number g rs l in
    let long = length_push rs r in
    let size : vec_len h.«data» ≡ 0 + total_of rs + length s =
    h.«data».ok.0 ∙ ap length d ∙ length-append (vec_items g.«data») s ∙ ap (λ (z : ℕ). z + length s) (ap length l.content ∙ length_bytes rs ∙ omega arith) in
    record {
      starts = ap (map number) o ∙ map_push number (vec_items g.offsets) x ∙ ap (λ (z : List ℤ). z ++ number x ∷ []) l.starts
          ∙ ap (λ (z : ℤ). starts_of 0 rs ++ z ∷ []) (e ∙ ap pos size) ∙ sym (starts_push 0 rs r);
      content = d ∙ ap (λ (z : List ℕ). z ++ s) l.content ∙ ap (λ (z : List ℕ). bytes_of rs ++ z) (sym (append-nil s)) ∙ sym (bytes_append rs (r ∷ []));
      covered = omega (arith, b.0);
      bits = λ k q i. elim (cases_lt k (length rs)) [
        | inl a ↦ b.2 k (omega arith) ∙ l.bits k q a ∙ sym (ap (λ (z : GivenRow). z.valid) (get_or_append_left rs (r ∷ []) q k a))
        | inr a ↦
            let f : k ≡ n = omega arith in
            ap (bit (vec_items h.validity)) f ∙ b.1 ∙ sym (ap (λ (z : GivenRow). z.valid) (get_or_push rs r q k (omega arith)))
      ];
    }

-- ---- how far the rows part is read

rowless : (v : Bool) (s rest : List ℕ) → RowAt [] v s rest → ⊥
rowless v s rest h = omega (arith, ap length h.1)

-- bytes that begin with a row hold it first
pub laid_first : {b : List ℕ} {qs : List GivenRow} (v : Bool) (s t : List ℕ) → RowAt b v s t → Laid b qs
    → (ps : List GivenRow) × (qs ≡ record { valid = v; bytes = s } ∷ ps) × Laid t ps
laid_first v s t r none = absurd (rowless v s t r)
laid_first v s t r (more {rest = u} {s = q} {v = w} {rs = ps} k m) =
    let e = row_same w v q u s t k r in
    (ps, λ i. record { valid = e.0 i; bytes = e.1 i } ∷ ps, subst (λ (p : List ℕ). Laid p ps) e.2 m)

-- bytes that begin with no row hold no rows
pub laid_never : {b : List ℕ} {qs : List GivenRow} → 0 < length b → ((v : Bool) (s t : List ℕ) → RowAt b v s t → ⊥) → Laid b qs → ⊥
laid_never h k none = omega arith
laid_never h k (more {rest = u} {s = q} {v = w} r m) = k w q u r

-- a row's bytes and what follows them lie in the bytes that it stands at the front of
pub row_fits : {b : List ℕ} (v : Bool) (s t : List ℕ) → RowAt b v s t → length s + length t + 5 ≡ length b
row_fits v s t r = omega (arith, ap length r.1, reads_fits r.2, length-append s t)

-- of the rows part the rows rs are read, and g holds them
pub record Taken {X : Type 0} (number : X → ℤ) (part rest : List ℕ) (g : Gathered X) (rs : List GivenRow) : Type 0 where
  pub lays : Lays number g rs
  pub onward : (qs : List GivenRow) → Laid rest qs → Laid part (rs ++ qs)
  pub back : (ws : List GivenRow) → Laid part ws → (qs : List GivenRow) × (ws ≡ rs ++ qs) × Laid rest qs
  pub room : vec_len g.offsets + vec_len g.«data» + length rest ≤ length part + 1

-- a row more is read
pub taken_more : {X : Type 0} (number : X → ℤ) (part rest t : List ℕ) (g h : Gathered X) (v : Bool) (s : List ℕ) (rs : List GivenRow) → Taken number part rest g rs
    → RowAt rest v s t → Lays number h (rs ++ record { valid = v; bytes = s } ∷ []) → Taken number part t h (rs ++ record { valid = v; bytes = s } ∷ [])
taken_more number part rest t g h v s rs k r l =
    let q : GivenRow = record { valid = v; bytes = s } in
    let fits = row_fits v s t r in
    let size : vec_len h.«data» ≡ vec_len g.«data» + length s =
    h.«data».ok.0 ∙ ap length (l.content ∙ bytes_append rs (q ∷ []) ∙ ap (λ (z : List ℕ). bytes_of rs ++ z) (append-nil s))
    ∙ length-append (bytes_of rs) s ∙ ap (λ (z : ℕ). z + length s) (sym (g.«data».ok.0 ∙ ap length k.lays.content)) in
    let places : vec_len h.offsets ≡ vec_len g.offsets + 1 = omega (arith, rows_are number h (rs ++ q ∷ []) l, rows_are number g rs k.lays, length_push rs q) in
    let x = k.room in
    record {
      lays = l;
      onward = λ qs m. subst (Laid part) (sym (append_assoc rs (q ∷ []) qs)) (k.onward (q ∷ qs) (more r m));
      back = λ ws m.
          let o = k.back ws m in
          let f = laid_first v s t r o.2 in
          (f.0, o.1 ∙ ap (λ (z : List GivenRow). rs ++ z) f.1 ∙ sym (append_assoc rs (q ∷ []) f.0), f.2);
      room = omega arith;
    }

-- all is read
pub taken_all : {X : Type 0} (number : X → ℤ) (part rest : List ℕ) (g : Gathered X) (rs : List GivenRow) → Taken number part rest g rs → length rest ≡ 0 → Laid part rs
taken_all number part rest g rs k h =
    subst (Laid part) (append-nil rs) (k.onward [] (subst (λ (l : List ℕ). Laid l []) (sym (nil_from_length rest h)) none))

-- what is left begins with no row
pub taken_never : {X : Type 0} (number : X → ℤ) (part rest : List ℕ) (g : Gathered X) (rs : List GivenRow) → Taken number part rest g rs → 0 < length rest
    → ((v : Bool) (s t : List ℕ) → RowAt rest v s t → ⊥) → (ws : List GivenRow) → Laid part ws → ⊥
taken_never number part rest g rs k h free ws m = laid_never h free (k.back ws m).2
