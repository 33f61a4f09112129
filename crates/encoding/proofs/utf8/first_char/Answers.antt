use Rattle.std.proofs.Common.{◌≡◌, ℕ, take, subst, Some, None, get_or, arith}
use Rattle.std.proofs.lemmas.Grind.{common_steps}
use Rattle.encoding.specs.Utf8.{Char, Front, size_of}
use Rattle.encoding.proofs.Texts.{front_told}
use Rattle.encoding.proofs.utf8.first_char.Goals as goal

pub returns-in_err-n : goal.returns-in_err-n
returns-in_err-n c =
    let none : None ≡ size_of (get_or c.args.s.now 0 0) = grind (arith, common_steps) in
    rw c.from_residual-in_err-n.ensures (λ m f. let told = front_told c.args.s.now m f in cc)

pub returns-in_err-c : goal.returns-in_err-c
returns-in_err-c c =
    let n : ℕ = c.in_ok-n.n in
    let some : Some n ≡ size_of (get_or c.args.s.now 0 0) = grind (arith, common_steps) in
    rw c.from_residual-in_err-c.ensures (λ m f. let told = front_told c.args.s.now m f in let same : m ≡ n = cc in omega (arith, f.0, c.in_err-c.ensures.cases))

pub returns : goal.returns
returns c =
    let n : ℕ = c.in_ok-n.n in
    let some : Some n ≡ size_of (get_or c.args.s.now 0 0) = grind (arith, common_steps) in
    let split = c.in_ok-c.ensures.cases in
    let no : (Char (take n c.args.s.now) → ⊥) → (m : ℕ) → Front c.args.s.now m → ⊥ = λ no m f.
    let told = front_told c.args.s.now m f in let same : m ≡ n = cc in no (subst (λ (k : ℕ). Char (take k c.args.s.now)) same f.1) in
    rw c.then_some.ensures (grind (arith, common_steps, no, split))
