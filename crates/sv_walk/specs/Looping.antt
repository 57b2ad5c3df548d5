-- The values of a generate loop's variable, where the variable may stand for them.
use Rattle.std.specs.Prelude.{Bool, List}
use Rattle.fourvec.specs.declared.Bit.{Bit}
use Rattle.sv_outside.specs.declared.refusal.Place.{Place}
use Rattle.sv_tree.specs.declared.word.Word.{Word}
use Rattle.sv_tree.specs.declared.exprs.Expr.{Expr}
use Rattle.sv_tree.specs.declared.stmts.Step.{Step}
use Rattle.sv_meaning.specs.Faults.{Judged, provided, ◌>>=◌}
use Rattle.sv_meaning.specs.Layouts.{find}
use Rattle.sv_meaning.specs.Deeds.{turns}
use Rattle.sv_hierarchy.specs.Scopes.{State, genvar_faults, seen}

abbrev pub loop_judged : Place → Bool → Word → Expr → Expr → Step → State → Judged (List (List Bit))
loop_judged p header v start test next st = provided (genvar_faults header v (find v.text (seen st))) (seen st) >>= λ at. turns p at v.text start test next
