use Rattle.std.proofs.lemmas.Result.{IfOk-from_err}
use Rattle.std.proofs.Common.{List, map, subst, sym}
use Rattle.svtv_table.specs.Binding.{sample_name}
use Rattle.svtv_table.specs.Indexing.{Indexes}
use Rattle.svtv_table.specs.declared.bound.Sample.{Sample}
use Rattle.svtv_table.proofs.binding.no_work.Goals as goal

pub returns-in_err-drives : goal.returns-in_err-drives
returns-in_err-drives c = IfOk-from_err _ _ c.from_residual.ensures.0

pub returns-in_err-overs : goal.returns-in_err-overs
returns-in_err-overs c = IfOk-from_err _ _ c.from_residual-in_err-overs.ensures.0

pub returns : goal.returns
returns c = λ vars. record {
  drives = c.in_ok-drives.ensures;
  overs = c.in_ok-overs.ensures;
  samples = c.new.ensures;
  named = subst (λ (samples : List Sample). Indexes c.new-2.result (map sample_name samples)) (sym c.new.ensures) c.new-2.ensures;
}
