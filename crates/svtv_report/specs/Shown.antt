-- The names of variables and samples.
use Rattle.std.specs.Prelude.{List, map}
use Rattle.svtv_report.specs.Texts.{Text}
use Rattle.svtv_report.specs.Invariants.{Names}
use Rattle.svtv_report.specs.declared.invariants.Columns.{Columns}
use Rattle.svtv_table.specs.declared.bound.Sample.{Sample}
use Rattle.svtv_table.specs.declared.bound.VarDecl.{VarDecl}

abbrev pub var_texts : List VarDecl → List Text
var_texts vars = map (λ v. v.name) vars

abbrev pub sample_texts : List Sample → List Text
sample_texts samples = map (λ s. s.name) samples

abbrev pub names_of : Columns → Names
names_of c = record { resets = var_texts c.resets.now; periods = var_texts c.periods.now; samples = sample_texts c.samples.now }
