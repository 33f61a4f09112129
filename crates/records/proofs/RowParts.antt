-- A row at the front of bytes: its parts, and that there is one at most.
use Rattle.std.proofs.Common.{◌≡◌, ℕ, Bool, List, [], ◌∷◌, ◌++◌, length, get_or, drop, sym, refl, ap, ◌∙◌, subst, arith}
use Rattle.records.specs.Layout.{Reads, mark_of, RowAt, GivenRow, Laid}
use Rattle.records.specs.Layout.Laid.{none, more}
use Rattle.records.proofs.Little.{parts_same, reads_at, reads_same}

-- after its mark a row has the size of its bytes
pub row_after : {b t : List ℕ} {m : ℕ} → b ≡ m ∷ t → (v : Bool) (s rest : List ℕ) → RowAt b v s rest → Reads 4 (length s) t (s ++ rest)
row_after e v s rest h = reads_at (ap (drop 1) (sym h.1 ∙ e)) h.2

mark_same : (v w : Bool) → mark_of v ≡ mark_of w → v ≡ w
mark_same v w e = grind arith

-- bytes begin with one row at most
pub row_same : {b : List ℕ} (v w : Bool) (s rest q tail : List ℕ) → RowAt b v s rest → RowAt b w q tail → (v ≡ w) × (s ≡ q) × (rest ≡ tail)
row_same v w s rest q tail h k =
    let i = reads_same (row_after k.1 v s rest h) k.2 in
    let j = parts_same s q rest tail i.1 i.0 in
    (mark_same v w (ap (λ (l : List ℕ). get_or l 0 0) (sym h.1 ∙ k.1)), j.0, j.1)

rowless : (v : Bool) (s rest : List ℕ) → RowAt [] v s rest → ⊥
rowless v s rest h = omega (arith, ap length h.1)

-- a rows part holds one list of rows
pub laid_same : {b : List ℕ} {rs qs : List GivenRow} → Laid b rs → Laid b qs → rs ≡ qs
laid_same none none = refl
laid_same none (more {rest = rest} {s = s} {v = v} r l) = absurd (rowless v s rest r)
laid_same (more {rest = rest} {s = s} {v = v} r l) none = absurd (rowless v s rest r)
laid_same (more {rest = rest} {s = s} {v = v} {rs = rs} r l) (more {rest = tail} {s = q} {v = w} {rs = qs} k m) =
    let e = row_same v w s rest q tail r k in
    let t : rs ≡ qs = laid_same l (subst (λ (p : List ℕ). Laid p qs) (sym e.2) m) in
    λ i. record { valid = e.0 i; bytes = e.1 i } ∷ t i
