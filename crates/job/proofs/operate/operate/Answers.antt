use Rattle.std.proofs.Common.{◌≡◌, ℕ, ℤ, ◌⊎◌, List, ◌++◌, Option, Result, string_bytes, sym, refl, ◌∙◌, inl, inr}
use Rattle.std.proofs.lemmas.Result.{IfOk-weaker}
use Rattle.kernels.specs.declared.length.Unit.TheVariants.{Bytes, Bits}
use Rattle.records.specs.declared.record.Record.{Record}
use Rattle.records.specs.declared.record.Record.TheVariants.{Cut, CutByCharacter}
use Rattle.job.specs.declared.fault.JobError.{JobError}
use Rattle.job.specs.declared.lengths.Lengths.{Lengths}
use Rattle.job.specs.Printed.{LackingAnswered, OperatePrinted, Prints}
use Rattle.job.specs.States.{records_of}
use Rattle.job.specs.Transcript.{ColumnRecord}
use Rattle.job.proofs.Printing.{operation_measured, operation_lacking}
use Rattle.job.proofs.operate.operate.Goals.{in-Cut, in-Cut-2}
use Rattle.job.proofs.operate.operate.Goals as goal

same : {a c : ℕ} → (a ≡ c) ⊎ (a ≡ c) → a ≡ c
same (inl e) = e
same (inr e) = e

cut_lacks : (cs : List ColumnRecord) (n k j : ℕ) (x : Record) (r : Result Lengths JobError) (before after : List ℕ) → k ≡ j
    → ((s : ℤ) × (l : Option ℕ) × (x ≡ Cut j s l)) ⊎ ((s : ℤ) × (l : Option ℕ) × (x ≡ CutByCharacter j s l)) → LackingAnswered cs k k r
    → (added : List ℕ) × (after ≡ before ++ added) × Prints n r added → OperatePrinted cs n x before after
cut_lacks cs n k j x r before after q (inl e) p h = rw e.2 (h.0, h.1, operation_lacking cs n k k _ r h.0 tt (λ i d. sym q ∙ same d) (λ i d. inl (q ∙ d)) p h.2)
cut_lacks cs n k j x r before after q (inr e) p h = rw e.2 (h.0, h.1, operation_lacking cs n k k _ r h.0 tt (λ i d. sym q ∙ same d) (λ i d. inl (q ∙ d)) p h.2)

pub returns-in-Join : goal.returns-in-Join
returns-in-Join c =
    let cs = records_of c.args.columns.now.entries.now in
    rw c.in-Join.is (IfOk-weaker c.put_answer.result _ _ (λ _ h. (h.0, h.1, operation_lacking cs c.args.n c.in-Join.left c.in-Join.right _ c.lacking.result h.0 tt (λ k e. e) (λ k e. e) c.lacking.ensures h.2)) c.put_answer.ensures)

pub returns-in-Length : goal.returns-in-Length
returns-in-Length c =
    let cs = records_of c.args.columns.now.entries.now in
    rw c.in-Length.is (IfOk-weaker c.put_answer-in-Length.result _ _ (λ _ h. (h.0, h.1, operation_measured cs c.args.n Bytes c.in-Length.column _ c.measure.result h.0 (refl, refl) refl c.measure.ensures h.2)) c.put_answer-in-Length.ensures)

pub returns-in-BitLength : goal.returns-in-BitLength
returns-in-BitLength c =
    let cs = records_of c.args.columns.now.entries.now in
    rw c.in-BitLength.is (IfOk-weaker c.put_answer-in-BitLength.result _ _ (λ _ h. (h.0, h.1, operation_measured cs c.args.n Bits c.in-BitLength.column _ c.measure-in-BitLength.result h.0 (refl, refl) refl c.measure-in-BitLength.ensures h.2)) c.put_answer-in-BitLength.ensures)

pub returns-in-Cut : goal.returns-in-Cut
returns-in-Cut c =
    let cs = records_of c.args.columns.now.entries.now in
    IfOk-weaker c.put_answer-in-Cut.result _ _
    (λ _ h. elim c.in-Cut-1.branch [
      | in-Cut w ↦ cut_lacks cs c.args.n _ _ c.args.found c.lacking-in-Cut.result (string_bytes c.args.out.now) _ w.column-is w.in-Cut.is c.lacking-in-Cut.ensures h
      | in-Cut-2 w ↦ cut_lacks cs c.args.n _ _ c.args.found c.lacking-in-Cut.result (string_bytes c.args.out.now) _ w.column-is w.in-Cut.is c.lacking-in-Cut.ensures h
    ])
    c.put_answer-in-Cut.ensures
