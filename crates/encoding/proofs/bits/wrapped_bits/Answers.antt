use Rattle.encoding.proofs.Widths.{wraps}
use Rattle.encoding.proofs.bits.wrapped_bits.Goals as goal

pub returns-clause-law : goal.returns-clause-law
returns-clause-law g c = wraps
