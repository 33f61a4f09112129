-- The number of each fault of a call by kind.
use Rattle.std.specs.Prelude.{ℕ}
use Rattle.kernels.specs.Lengths as lengths
use Rattle.kinds.specs.declared.fault.KindFault.{KindFault}
use Rattle.kinds.specs.declared.fault.KindFault.TheVariants.{Lacks, Length}

abbrev pub number : KindFault → ℕ
number Lacks = 15
number (Length f) = lengths.number f
