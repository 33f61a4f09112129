use Rattle.encoding.proofs.BitLaws.{bit_laws}
use Rattle.encoding.proofs.bitmap.write.Goals as goal

pub returns-in_err-b-clause-law : goal.returns-in_err-b-clause-law
returns-in_err-b-clause-law c = bit_laws

pub returns-clause-law : goal.returns-clause-law
returns-clause-law c = bit_laws
