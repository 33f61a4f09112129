use Rattle.std.proofs.Common.{rules, ◌≡◌, List, Some, None, vec_items, string_bytes, sym, ap, ◌∙◌, append-nil}
use Rattle.std.proofs.lemmas.List.{map_push}
use Rattle.std.proofs.lemmas.Option.{MatchOption-at_some}
use Rattle.job.specs.declared.entry.Entry.{Entry}
use Rattle.job.specs.declared.fault.JobFault.TheVariants.{Record}
use Rattle.job.specs.Faults.{number}
use Rattle.job.specs.States.{record_of, records_of}
use Rattle.job.specs.Taken.{Taken}
use Rattle.job.specs.Transcript.{ColumnRecord}
use Rattle.job.proofs.Answering.{answer_met, taken_by}
use Rattle.job.proofs.Refusing.{given_some}
use Rattle.job.proofs.run.Job.take.Goals.{in-Ok, in-Err-Fault+in_ok-writeln-in-Err-Fault}
use Rattle.job.proofs.run.Job.take.Goals as goal

pub returns : goal.returns
returns c =
    let e : Entry = record { format = c.in_ok-format.format; part = c.args.part.bytes } in
    let l = MatchOption-at_some _ _ _ (given_some _ _ _ c.in_ok-format.ensures.value) c.read_format.ensures in
    let before = string_bytes c.args.out.now in
    let after = string_bytes c.match-check.out in
    let h : Taken c.args.letters.now c.args.part.bytes.now e before after = elim c.match-check.branch [
      | in-Ok w ↦ taken_by e c.args.letters.now before after None l w.in-Ok.ensures (ap string_bytes w.out-is ∙ sym (append-nil before))
      | in-Err-Fault+in_ok-writeln-in-Err-Fault w ↦
          let n : w.in-Err-Fault.fault ≡ Record → ⊥ = search rules in
          taken_by e c.args.letters.now before after (Some (number w.in-Err-Fault.fault)) l
          (answer_met e.format e.part.now w.in-Err-Fault.fault n (rw w.in-Err-Fault.field-0-is at w.in-Err-Fault.ensures)) (ap string_bytes w.out-is ∙ w.in_ok-writeln-in-Err-Fault.ensures.bytes)
    ] in
    let q = ap records_of c.in_ok-push.ensures.items ∙ map_push record_of (vec_items c.args.self.now.columns) e in
    (e, h, ap (λ (cs : List ColumnRecord). record { columns = cs; operations = c.args.self.now.operations; rest = c.args.self.now.rest.now }) q)
