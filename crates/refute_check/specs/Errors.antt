-- Which error it is.
use Rattle.std.specs.Prelude.{List}
use Rattle.cnf.specs.Formula.{Formula}
use Rattle.refute_check.specs.Entry.{Entry}
use Rattle.refute_check.specs.Accepted.{IsBadAt}
use Rattle.refute_check.specs.declared.checker.CheckErr.{CheckErr}
use Rattle.refute_check.specs.declared.checker.CheckErr.TheVariants.{Bad}

abbrev pub IsBadFor : Formula → List Entry → CheckErr → Type 0
IsBadFor formula log (Bad k) = IsBadAt formula log k
