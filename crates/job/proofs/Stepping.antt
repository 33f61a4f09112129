-- Steps of a job.
use Rattle.std.proofs.Common.{◌≡◌, ℕ, ◌+◌, ◌<◌, ◌≤◌, List, [], ◌∷◌, ◌++◌, length, sym, refl, ap, ◌∙◌, subst, append_assoc, append-nil, arith, Bor}
use Rattle.records.specs.Layout.{Stands, Laid, given_of}
use Rattle.records.specs.declared.record.Record.{Record}
use Rattle.records.specs.declared.record.Record.TheVariants.{Column, Cut, CutByCharacter, Join, Length, BitLength}
use Rattle.records.proofs.Records.{stands_same, stands_shorter}
use Rattle.job.specs.declared.fault.JobFault.TheVariants.{File, Record as NoRecord}
use Rattle.job.specs.Printed.{OperatePrinted}
use Rattle.job.specs.Steps.{Took, Ends, Made}
use Rattle.job.specs.Taken.{NotListed}
use Rattle.job.specs.Transcript.{ColumnRecord, State, Step, too_long, bad, column, operation, Listed, Operation, Runs, done, more}

-- what ends the job
pub ends_long : (s : State) (out : List ℕ) → 65536 < length s.rest → Ends s s File out out
ends_long s out l = record { step = too_long l; same = refl; silent = refl }

pub ends_bad : (s : State) (out : List ℕ) → 0 < length s.rest → length s.rest ≤ 65536 → ((x : Record) (u : List ℕ) → Stands s.rest x u → ⊥) → Ends s s NoRecord out out
ends_bad s out l k n = record { step = bad l k (λ x u p _. n x u p); same = refl; silent = refl }

-- a column record that is listed at all is listed by the parts of any record that stands there
not_listed_by : (x : Record) (f p : Bor (List ℕ)) → given_of x ≡ given_of (Column f p) → NotListed f.now p.now → Listed x → ⊥
not_listed_by (Column g q) f p e n l =
    n l.0.0 l.0.1 (letters_same ∙ l.0.2) l.1.0 (subst (λ (b : List ℕ). Laid b l.1.0) part_same l.1.1)
  where
    letters_same : f.now ≡ g.now
    letters_same = cc

    part_same : q.now ≡ p.now
    part_same = cc
not_listed_by (Cut k s l) f p e n h = absurd (let z : ◌≡◌ {A = ℕ} 0 1 = cc in omega arith)
not_listed_by (CutByCharacter k s l) f p e n h = absurd (let z : ◌≡◌ {A = ℕ} 0 1 = cc in omega arith)
not_listed_by (Join j k) f p e n h = absurd (let z : ◌≡◌ {A = ℕ} 0 1 = cc in omega arith)
not_listed_by (Length k) f p e n h = absurd (let z : ◌≡◌ {A = ℕ} 0 1 = cc in omega arith)
not_listed_by (BitLength k) f p e n h = absurd (let z : ◌≡◌ {A = ℕ} 0 1 = cc in omega arith)

pub ends_unlisted : (s t : State) (x : Record) (f p : Bor (List ℕ)) (rest before after : List ℕ) → 0 < length s.rest → length s.rest ≤ 65536 → x ≡ Column f p → Stands s.rest x rest
    → NotListed f.now p.now → t ≡ s → after ≡ before → Ends s t NoRecord before after
ends_unlisted s t x f p rest before after l k q h n e a =
    let z : Stands s.rest (Column f p) rest = subst (λ (y : Record). Stands s.rest y rest) q h in
    record { step = bad l k (λ y u w. not_listed_by y f p (stands_same y (Column f p) u rest w z).0 n); same = e; silent = a }

-- the step of a column record that was taken
pub took_made : (s t : State) (x : Record) (f p : Bor (List ℕ)) (rest before after : List ℕ) → length s.rest ≤ 65536 → x ≡ Column f p → Stands s.rest x rest
    → Took s t f.now p.now before after → Made s (record { columns = t.columns; operations = t.operations; rest = rest }) before after
took_made s t x f p rest before after k q h w =
    let z : Stands s.rest (Column f p) rest = subst (λ (y : Record). Stands s.rest y rest) q h in
    let y = w.0 in
    let e : ◌≡◌ {A = State} (record { columns = t.columns; operations = t.operations; rest = rest }) (record { columns = s.columns ++ record { format = y.format; part = p.now } ∷ []; operations = s.operations; rest = rest }) =
    ap (λ (u : State). record { columns = u.columns; operations = u.operations; rest = rest }) w.2
    ∙ ap (λ (b : List ℕ). record { columns = s.columns ++ record { format = y.format; part = b } ∷ []; operations = s.operations; rest = rest }) w.1.kept in
    record {
      added = _;
      printed = w.1.printed;
      stepped = subst (Step s _) (sym e) (column (Column f p) y.format p.now rest w.1.rows w.1.answer k z (w.1.lawful, w.1.spelt, refl) w.1.laid w.1.answered);
      shorter = stands_shorter (Column f p) z;
    }

pub operated : (s : State) (x : Record) (rest before after added : List ℕ) → length s.rest ≤ 65536 → Stands s.rest x rest → after ≡ before ++ added
    → Operation s.columns (s.operations + 1) x added → Made s (record { columns = s.columns; operations = s.operations + 1; rest = rest }) before after
operated s x rest before after added k h q o = record { added = added; printed = q; stepped = operation x rest added k h o; shorter = stands_shorter x h }

-- what an operation that is no column record added
pub operate_added : (cs : List ColumnRecord) (n : ℕ) (x : Record) (before after : List ℕ) → ((f p : Bor (List ℕ)) → x ≡ Column f p → ⊥) → OperatePrinted cs n x before after
    → (added : List ℕ) × (after ≡ before ++ added) × Operation cs n x added
operate_added cs n (Column f p) before after h o = absurd (h f p refl)
operate_added cs n (Cut k s l) before after h o = o
operate_added cs n (CutByCharacter k s l) before after h o = o
operate_added cs n (Join j k) before after h o = o
operate_added cs n (Length k) before after h o = o
operate_added cs n (BitLength k) before after h o = o

-- a whole run, step by step
abbrev pub GoesOn : State → State → List ℕ → Type 0
GoesOn start s out = (b : List ℕ) → Runs s b → Runs start (out ++ b)

pub one_step : (start s t : State) (before after : List ℕ) → GoesOn start s before → Made s t before after → GoesOn start t after
one_step start s t before after g m = λ b r.
    subst (Runs start) (sym (append_assoc before m.added b) ∙ ap (λ (o : List ℕ). o ++ b) (sym m.printed)) (g (m.added ++ b) (more m.stepped r))

pub at_end : (start s t : State) (before after : List ℕ) → GoesOn start s before → (s.rest ≡ []) × (t ≡ s) × (after ≡ before) → Runs start after
at_end start s t before after g h = subst (Runs start) (append-nil before ∙ sym h.2) (g [] (done h.0))
