-- A record at the front of a file: its parts, and when there is none.
use Rattle.std.proofs.Common.{◌≡◌, ℕ, ◌+◌, ◌-◌, ◌<◌, List, ◌++◌, length, take, sym, ap, ◌∙◌, subst, arith, length-append}
use Rattle.std.proofs.lemmas.List.{take_at}
use Rattle.records.specs.declared.record.Record.{Record}
use Rattle.records.specs.declared.record.RecordKind.{RecordKind}
use Rattle.records.specs.Kinds.{number_of, kind_of}
use Rattle.records.specs.Layout.{Reads, Fields, Stands, given_of}
use Rattle.records.proofs.Bodies.{fields_same}
use Rattle.records.proofs.Little.{parts_same, reads_at, reads_same, reads_fits}

number_same : (j k : RecordKind) → number_of j ≡ number_of k → j ≡ k
number_same j k e = grind arith

-- after its size a record has its kind
pub kind_after : {file t rest : List ℕ} {n : ℕ} (x : Record) → Reads 4 n file t → (h : Stands file x rest) → Reads 2 (number_of (kind_of x)) t (h.0 ++ rest)
kind_after x r h = reads_at (reads_same h.2 r).1 h.3

-- the numbers that stand before a body are those of the record
pub stands_parts : {file t u rest : List ℕ} {n k : ℕ} (x : Record) → Reads 4 n file t → Reads 2 k t u → (h : Stands file x rest)
    → (2 + length h.0 ≡ n) × (number_of (kind_of x) ≡ k) × (h.0 ++ rest ≡ u)
stands_parts x r q h = let j = reads_same (kind_after x r h) q in ((reads_same h.2 r).0, j.0, j.1)

-- a body that is none of this kind
pub stands_bodiless : {file t u body : List ℕ} {n m : ℕ} {k : RecordKind} → Reads 4 n file t → Reads 2 m t u → number_of k ≡ m → body ≡ take (n - 2) u
    → ((x : Record) → kind_of x ≡ k → Fields x body → ⊥) → (x : Record) (rest : List ℕ) → Stands file x rest → ⊥
stands_bodiless {u = u} {n = n} r q i e z x rest h =
    let p = stands_parts x r q h in
    let l : length h.0 ≡ n - 2 = omega (arith, p.0) in
    z x (number_same _ _ (p.1 ∙ sym i)) (subst (Fields x) (sym (take_at h.0 rest (n - 2) l) ∙ ap (take (n - 2)) p.2 ∙ sym e) h.4)

-- what follows a record is shorter than the file
pub stands_shorter : {file rest : List ℕ} (x : Record) → Stands file x rest → length rest < length file
stands_shorter {rest = rest} x h = omega (arith, reads_fits h.2, reads_fits h.3, length-append h.0 rest)

-- a file begins with one record at most
pub stands_same : {file : List ℕ} (x y : Record) (rest tail : List ℕ) → Stands file x rest → Stands file y tail → (given_of x ≡ given_of y) × (rest ≡ tail)
stands_same x y rest tail h k =
    let p = stands_parts x k.2 k.3 h in
    let i = parts_same h.0 k.0 rest tail p.2 (omega (arith, p.0)) in
    (fields_same k.0 x y (number_same _ _ p.1) (subst (Fields x) i.0 h.4) k.4, i.1)
