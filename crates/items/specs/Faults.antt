-- Why bytes make no article: the number of each fault.
use Rattle.std.specs.Prelude.{ℕ}
use Rattle.items.specs.declared.fault.ArticleFault.{ArticleFault}
use Rattle.items.specs.declared.fault.ArticleFault.TheVariants.{WrongLength, NotADigit, WrongCheckDigit}

abbrev pub fault_number : ArticleFault → ℕ
fault_number WrongLength = 9
fault_number NotADigit = 10
fault_number WrongCheckDigit = 11
