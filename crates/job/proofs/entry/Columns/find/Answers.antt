use Rattle.std.proofs.Common.{◌≡◌, ℕ, ◌≤◌, List, length, None, Some, Option, sym, refl, ◌∙◌, subst, arith}
use Rattle.std.proofs.lemmas.List.{length-map}
use Rattle.std.proofs.lemmas.Option.{MatchOption-at_none}
use Rattle.job.specs.States.{record_of, records_of, Has}
use Rattle.job.proofs.Finding.{has_at, has_only, has_small}
use Rattle.job.proofs.entry.Columns.find.Goals.{in_default-via-in-None-1, in_default-via-in-Some+in-None-1, in_default-via-in-Some+in-Some-built+in-None-1}
use Rattle.job.proofs.entry.Columns.find.Goals as goal

no_some : {A : Type 0} (o : Option A) (x : A) → o ≡ None → o ≡ Some x → ⊥
no_some o x p q = cc

pub returns-in-Some-new : goal.returns-in-Some-new
returns-in-Some-new c =
    let l = rw c.from.ensures at c.in-Some.ensures.lookup in
    subst (Has (records_of c.args.self.now.entries.now) c.args.column c.in-Some-built.format) (sym c.in-Some-new.ensures)
    (has_at c.args.self.now.entries.now c.args.column c.in-Some.entry.now c.in-Some-built.format l.3.0 l.1 (sym c.built.ensures ∙ c.in-Some-built.is)
    (subst (λ (b : List ℕ). length b ≤ 65536) c.in-Some-new.ensures c.in-Some-new.part.small))

pub returns-in_default : goal.returns-in_default
returns-in_default c = (
  refl,
  λ f part h. elim c.in_default.branch [
    | in_default-via-in-None-1 w ↦
        let n : c.get.result ≡ None = cc in
        let l = rw c.from.ensures at c.get.ensures.lookup in
        let z : length c.args.self.now.entries.now ≤ c.args.column = MatchOption-at_none _ _ n l.3 in
        omega (arith, length-map c.args.self.now.entries.now record_of)
    | in_default-via-in-Some+in-None-1 w ↦
        let l = rw c.from.ensures at w.in-Some.ensures.lookup in
        no_some _ f (sym w.built.ensures ∙ cc) (has_only c.args.self.now.entries.now c.args.column w.in-Some.entry.now f part l.3.0 l.1 h)
    | in_default-via-in-Some+in-Some-built+in-None-1 w ↦
        let l = rw c.from.ensures at w.in-Some.ensures.lookup in
        let s = has_small c.args.self.now.entries.now c.args.column w.in-Some.entry.now f part l.3.0 l.1 h in omega arith
  ],
)
