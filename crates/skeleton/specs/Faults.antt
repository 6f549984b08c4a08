-- The faults of a text and their numbers.
use Rattle.std.specs.Prelude.{ℕ}
use Rattle.skeleton.specs.declared.faults.SkelFault.{SkelFault}
use Rattle.skeleton.specs.declared.faults.SkelFault.TheVariants.{BadMark, BadOrder, BadPath, BadCount, Short, Trailing, TooLong}

abbrev pub fault_code : SkelFault → ℕ
fault_code BadMark = 1
fault_code BadOrder = 2
fault_code BadPath = 3
fault_code BadCount = 4
fault_code Short = 5
fault_code Trailing = 6
fault_code TooLong = 7
