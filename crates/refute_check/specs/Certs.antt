-- What contracts see of clauses and a log that refutes them.
use Rattle.std.specs.Prelude.{List}
use Rattle.cnf.specs.Formula.{Formula}
use Rattle.refute_check.specs.Entry.{Entry}

-- clauses, and steps of which each follows from them and those before it
pub record Certificate : Type 0 where
  pub cnf : Formula
  pub log : List Entry

abbrev pub certificate_of : Formula → List Entry → Certificate
certificate_of cnf log = record { cnf = cnf; log = log }
