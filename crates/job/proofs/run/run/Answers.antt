use Rattle.std.proofs.Common.{[], string_bytes, subst}
use Rattle.job.specs.Steps.{state_of, Stepped}
use Rattle.job.specs.Transcript.{State}
use Rattle.job.proofs.Stepping.{one_step, at_end}
use Rattle.job.proofs.Unique.{one_transcript}
use Rattle.job.proofs.run.run.Goals as goal

pub loop-job-preserved : goal.loop-job-preserved
loop-job-preserved c =
    let start : State = record { columns = []; operations = 0; rest = c.args.file.now } in
    let s = state_of c.loop-job.job in
    let t = state_of c.step.new.self in
    let before = string_bytes c.loop-job.out in
    let after = string_bytes c.step.new.out in
    one_step start s t before after c.loop-job.invariant (subst (Stepped s t before after) c.if-branch.true c.in_ok-step.ensures)

pub returns-clause-value : goal.returns-clause-value
returns-clause-value c =
    let start : State = record { columns = []; operations = 0; rest = c.args.file.now } in
    let s = state_of c.loop-job.job in
    let t = state_of c.step.new.self in
    let before = string_bytes c.loop-job.out in
    let after = string_bytes c.step.new.out in
    at_end start s t before after c.loop-job.invariant (subst (Stepped s t before after) c.if-branch.false c.in_ok-step.ensures)

pub returns-clause-only : goal.returns-clause-only
returns-clause-only c = one_transcript

pub returns-in_err-step-clause-only : goal.returns-in_err-step-clause-only
returns-in_err-step-clause-only c = one_transcript
