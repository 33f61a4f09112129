-- Numbers off the front of bytes.
use Rattle.std.proofs.Common.{◌≡◌, ℕ, ◌+◌, List, ◌++◌, length, take, drop, sym, refl, ap, ◌∙◌, length-append}
use Rattle.std.proofs.lemmas.List.{take_at, drop_at}
use Rattle.records.specs.Layout.{le, Reads}

-- a list that is cut at one place has the same parts
pub parts_same : (p q t u : List ℕ) → p ++ t ≡ q ++ u → length p ≡ length q → (p ≡ q) × (t ≡ u)
parts_same p q t u e l =
    let n : ℕ = length q in
    (sym (take_at p t n l) ∙ ap (take n) e ∙ take_at q u n refl, sym (drop_at p t n l) ∙ ap (drop n) e ∙ drop_at q u n refl)

-- what is read is no more than there is
pub reads_fits : {n x : ℕ} {b rest : List ℕ} → Reads n x b rest → length b ≡ n + length rest
reads_fits {rest = rest} r = ap length r.3 ∙ length-append r.0 rest ∙ ap (λ (k : ℕ). k + length rest) r.1

-- the same bytes read the same
pub reads_at : {n x : ℕ} {b t rest : List ℕ} → b ≡ t → Reads n x b rest → Reads n x t rest
reads_at e r = (r.0, r.1, r.2, sym e ∙ r.3)

-- bytes give one number, and leave one rest
pub reads_same : {n x y : ℕ} {b t u : List ℕ} → Reads n x b t → Reads n y b u → (x ≡ y) × (t ≡ u)
reads_same {t = t} {u = u} r q =
    let i = parts_same r.0 q.0 t u (sym r.3 ∙ q.3) (r.1 ∙ sym q.1) in (sym r.2 ∙ ap le i.0 ∙ q.2, i.1)
