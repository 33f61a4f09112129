use Rattle.std.proofs.Common.{sym, ◌∙◌}
use Rattle.job.specs.Transcript.{unbuilt}
use Rattle.job.proofs.Answering.{answer_is}
use Rattle.job.proofs.part.Part.check.Goals as goal

pub returns-in-Some : goal.returns-in-Some
returns-in-Some c = answer_is c.args.format c.in-Some.known c.args.self.bytes.now c.check.result (sym c.built.ensures ∙ c.in-Some.is) c.check.ensures

pub returns-in_ok-gather-in-None : goal.returns-in_ok-gather-in-None
returns-in_ok-gather-in-None c = let h = c.in_ok-gather-in-None.ensures in rw c.into.ensures (h.0, h.1, unbuilt (sym c.built.ensures ∙ c.in-None.is))
