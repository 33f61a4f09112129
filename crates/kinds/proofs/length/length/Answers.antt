use Rattle.std.proofs.Common.{◌∙◌}
use Rattle.kinds.specs.Lengths.{measured}
use Rattle.kinds.proofs.Measuring.{narrow_true, wide_true, answer_granted}
use Rattle.kinds.proofs.length.length.Goals as goal

pub returns : goal.returns
returns c =
    let m = measured c.args.column.now in
    let h = c.in_ok-measure.ensures in
    record {
      answered = answer_granted m c.args.narrow.now c.args.wide.now _ h.writes.answered;
      narrow = h.writes.narrow ∙ narrow_true m c.args.narrow.now h.low;
      wide = h.writes.wide ∙ wide_true m c.args.wide.now h.low;
    }
