-- What operations print.
use Rattle.std.proofs.Common.{◌≡◌, ℕ, Bool, ◌⊎◌, List, ◌++◌, length, Ok, Err, vec_items, Result, subst, inl, inr}
use Rattle.std.specs.List.{flat_map}
use Rattle.std.proofs.lemmas.List.{length-map}
use Rattle.kernels.specs.declared.length.LengthFault.TheVariants.{Rows}
use Rattle.kernels.specs.declared.length.Unit as unit
use Rattle.kinds.specs.Lengths.{ceiling}
use Rattle.kinds.specs.declared.fault.KindFault.TheVariants.{Lacks, Length}
use Rattle.records.specs.Layout.{GivenRow}
use Rattle.records.specs.declared.record.Record as rec
use Rattle.job.specs.declared.fault.JobError.{JobError}
use Rattle.job.specs.declared.fault.JobError.TheVariants.{Memory, Fault}
use Rattle.job.specs.declared.fault.JobFault.TheVariants.{Record, NotRead, File, Column, Kind}
use Rattle.job.specs.declared.lengths.Lengths.{Lengths}
use Rattle.job.specs.Faults.{OnFault}
use Rattle.job.specs.Lines.{line, number_line}
use Rattle.job.specs.Measured.{Tells, ColumnMeasured}
use Rattle.job.specs.Printed.{IsRead, Prints, LackingAnswered}
use Rattle.job.specs.Transcript.{ColumnRecord, IsNotRead, nulls, sizes, length_lines, Names, Measures, NotBuilt, Operation, not_read, not_built, too_many, measured}

-- a granted measure is printed as its lines
lines_are : (u : unit.Unit) (n : ℕ) (wide : Bool) (rs : List GivenRow) (m : Lengths) → Tells u (ceiling wide) (nulls rs) (sizes rs) m
    → length_lines u n wide rs ≡ line n 0 (length (vec_items m.numbers)) m.nulls m.wrapped ++ flat_map number_line (vec_items m.numbers)
lines_are u n wide rs m t = rw (t.numbers_are, t.nulls_are, t.wrapped_are) (simp length-map)

-- a measure as an operation
pub operation_measured : (cs : List ColumnRecord) (n : ℕ) (u : unit.Unit) (c : ℕ) (x : rec.Record) (r : Result Lengths JobError) (added : List ℕ) → Measures x u c → Names x c
    → ColumnMeasured u cs c r → Prints n r added → Operation cs n x added
operation_measured cs n u c x (Ok m) added h k p q = rw (q, ← (lines_are u n p.0.wide p.1 m p.4)) (measured u c p.0 p.1 h p.2 p.3)
operation_measured cs n u c x (Err (Memory e)) added h k p q = absurd q
operation_measured cs n u c x (Err (Fault Record)) added h k p q = absurd p
operation_measured cs n u c x (Err (Fault NotRead)) added h k p q = rw q (not_read c k p)
operation_measured cs n u c x (Err (Fault File)) added h k p q = absurd p
operation_measured cs n u c x (Err (Fault (Column f))) added h k p q = absurd p
operation_measured cs n u c x (Err (Fault (Kind Lacks))) added h k p q = absurd p
operation_measured cs n u c x (Err (Fault (Kind (Length Rows)))) added h k p q = rw q (too_many u c p.0 p.1 h p.2 p.3)

-- an operation that is not built
pub operation_lacking : (cs : List ColumnRecord) (n a b : ℕ) (x : rec.Record) (r : Result Lengths JobError) (added : List ℕ) → NotBuilt x → ((c : ℕ) → (a ≡ c) ⊎ (b ≡ c) → Names x c)
    → ((c : ℕ) → Names x c → (a ≡ c) ⊎ (b ≡ c)) → LackingAnswered cs a b r → Prints n r added → Operation cs n x added
operation_lacking cs n a b x (Ok m) added h to from p q = absurd p
operation_lacking cs n a b x (Err (Memory e)) added h to from p q = absurd q
operation_lacking cs n a b x (Err (Fault Record)) added h to from p q = absurd p
operation_lacking cs n a b x (Err (Fault NotRead)) added h to from p q = rw q (not_read p.0 (to p.0 p.1) p.2)
operation_lacking cs n a b x (Err (Fault File)) added h to from p q = absurd p
operation_lacking cs n a b x (Err (Fault (Column f))) added h to from p q = absurd p
operation_lacking cs n a b x (Err (Fault (Kind Lacks))) added h to from p q =
    rw q (not_built h (λ c k. elim (from c k) [ inl e ↦ subst (IsRead cs) e p.0 | inr e ↦ subst (IsRead cs) e p.1 ]))
operation_lacking cs n a b x (Err (Fault (Kind (Length f)))) added h to from p q = absurd p

-- a column that is not read, as the answer of such an operation
pub lacking_unread : (cs : List ColumnRecord) (a b c : ℕ) (e : JobError) → (a ≡ c) ⊎ (b ≡ c) → OnFault (λ f. (f ≡ NotRead) × IsNotRead cs c) e → LackingAnswered cs a b (Err e)
lacking_unread cs a b c (Memory m) h k = tt
lacking_unread cs a b c (Fault f) h k = rw k.0 (c, h, k.1)
