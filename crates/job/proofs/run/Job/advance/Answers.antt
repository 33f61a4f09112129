use Rattle.std.proofs.Common.{◌+◌, List, string_bytes, sym, subst}
use Rattle.std.proofs.lemmas.Result.{err_from_is_err_and}
use Rattle.job.specs.declared.entry.Entry.{Entry}
use Rattle.job.specs.declared.fault.JobFault.{JobFault}
use Rattle.job.specs.States.{records_of}
use Rattle.job.specs.Steps.{state_of, Ends}
use Rattle.job.specs.Transcript.{Operation}
use Rattle.job.proofs.Refusing.{fault_weaker}
use Rattle.job.proofs.Stepping.{ends_long, ends_bad, ends_unlisted, took_made, operated, operate_added}
use Rattle.job.proofs.run.Job.advance.Goals.{in-Column+in_ok-take, in_default+in_ok-operate}
use Rattle.job.proofs.run.Job.advance.Goals as goal

pub returns-then-self-gt-MAX_FILE : goal.returns-then-self-gt-MAX_FILE
returns-then-self-gt-MAX_FILE c = rw c.into.ensures (ends_long (state_of c.args.self.now) (string_bytes c.args.out.now) c.if-self-gt-MAX_FILE.true)

pub returns-in_err-found : goal.returns-in_err-found
returns-in_err-found c =
    let p = err_from_is_err_and c.from_residual.result c.from_residual.ensures.1 in
    rw (p.1, p.2) (ends_bad (state_of c.args.self.now) (string_bytes c.args.out.now) c.requires c.if-self-gt-MAX_FILE.false c.in_err-found.ensures.reads)

pub returns-in_err-take : goal.returns-in_err-take
returns-in_err-take c =
    let p = err_from_is_err_and c.from_residual-in_err-take.result c.from_residual-in_err-take.ensures.1 in
    let s = state_of c.args.self.now in
    let t = state_of c.take.new.self in
    let before = string_bytes c.args.out.now in
    let after = string_bytes c.take.new.out in
    rw (p.1, p.2) (fault_weaker _ _ c.in_err-take.field-0.0
    (λ f h. subst (λ (g : JobFault). Ends s t g before after) (sym h.0)
    (ends_unlisted s t c.in_ok-found.found c.in-Column.format c.in-Column.rows c.in_ok-found.after.now before after c.requires c.if-self-gt-MAX_FILE.false c.in-Column.is c.in_ok-found.ensures.reads h.1 h.2 h.3))
    c.in_err-take.ensures)

pub returns : goal.returns
returns c =
    let s = state_of c.args.self.now in
    let before = string_bytes c.args.out.now in
    elim c.match-found.branch [
      | in-Column+in_ok-take w ↦
          rw (w.self-is, w.out-is)
          (took_made s (state_of w.take.new.self) c.in_ok-found.found w.in-Column.format w.in-Column.rows c.in_ok-found.after.now before (string_bytes w.take.new.out)
          c.if-self-gt-MAX_FILE.false w.in-Column.is c.in_ok-found.ensures.reads w.in_ok-take.ensures)
      | in_default+in_ok-operate w ↦
          let h = operate_added _ _ c.in_ok-found.found before (string_bytes w.operate.new.out) w.in_default.not-Column w.in_ok-operate.ensures in
          rw (w.self-is, w.out-is)
          (operated s c.in_ok-found.found c.in_ok-found.after.now before (string_bytes w.operate.new.out) h.0 c.if-self-gt-MAX_FILE.false c.in_ok-found.ensures.reads h.1
          (subst (λ (es : List Entry). Operation (records_of es) (c.args.self.now.operations + 1) c.in_ok-found.found h.0) w.deref.ensures.value h.2))
    ]
