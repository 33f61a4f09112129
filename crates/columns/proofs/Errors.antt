-- Errors that are turned into others.
use Rattle.std.proofs.Common.{◌≡◌, Ok, Err, Result, sym, ◌∙◌, subst}
use Rattle.std.specs.Result.{MatchResult, IsErrAnd}

-- what `map_err` leaves as `Ok` was `Ok` before
pub ok_before : {T E D : Type 0} (Q : E → D → Type 0) (r : Result T E) (q : Result T D) (x : T)
    → MatchResult r (λ y. q ≡ Ok y) (λ e. IsErrAnd q (Q e)) → q ≡ Ok x → r ≡ Ok x
ok_before Q (Ok y) q x h e = let z = sym h ∙ e in cc
ok_before Q (Err d) q x h e = absurd (subst (λ z. IsErrAnd z (Q d)) e h)
