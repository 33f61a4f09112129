-- The mask sets or clears the bit.
use Rattle.std.proofs.Common.{sym, ap, ◌∙◌, arith}
use Rattle.encoding.specs.Bitmap.{marked}
use Rattle.encoding.proofs.Bytes.{masks_right}
use Rattle.encoding.proofs.bitmap.with_bit.Goals as goal

pub returns-then-valid : goal.returns-then-valid
returns-then-valid c =
    (masks_right c.args.b (omega arith) c.args.k c.requires).0
    ∙ ap (marked c.args.b c.args.k) (sym c.if-valid.true)

pub returns-else-valid : goal.returns-else-valid
returns-else-valid c =
    (masks_right c.args.b (omega arith) c.args.k c.requires).1
    ∙ ap (marked c.args.b c.args.k) (sym c.if-valid.false)
