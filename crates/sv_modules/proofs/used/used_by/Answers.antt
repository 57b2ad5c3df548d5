use Rattle.std.proofs.lemmas.Result.{IfOk-from_err}
use Rattle.std.proofs.Common.{List, take, sym, subst, arith, Bor}
use Rattle.std.proofs.lemmas.List.{take_all}
use Rattle.sv_tree.specs.declared.design.Item.{Item}
use Rattle.sv_tree.specs.declared.design.Module.{Module}
use Rattle.sv_hierarchy.specs.Scopes.{instantiated_by}
use Rattle.sv_modules.specs.Naming.{Holds, Adds}
use Rattle.sv_modules.specs.Libraries.{trees_of, used_in}
use Rattle.sv_modules.proofs.Sets.{holds_more}
use Rattle.sv_modules.proofs.Instances.{in_none, in_next}
use Rattle.sv_modules.proofs.used.used_by.Goals as goal

pub modules-init : goal.modules-init
modules-init c = subst (Holds c.new-used.result) (sym in_none) c.new-used.ensures

pub modules-preserved : goal.modules-preserved
modules-preserved c =
    subst (Holds c.add_items.new.used) (sym (in_next c.args.modules.now c.modules.module-index c.module-item.result c.modules-test.true c.module-item.is))
    (holds_more c.modules.used c.add_items.new.used (used_in (trees_of (take c.modules.module-index c.args.modules.now))) (instantiated_by c.module-item.result.now.items) c.modules.invariant
    (subst (λ (xs : List Item). Adds c.modules.used (instantiated_by xs) c.add_items.new.used) c.as_slice.ensures c.in_ok-add_items.ensures))

pub returns : goal.returns
returns c =
    subst (λ (ms : List (Bor Module)). Holds c.modules.used (used_in (trees_of ms))) (take_all c.modules.module-index c.args.modules.now (omega (arith, c.modules-test.false))) c.modules.invariant

pub returns-in_err-add_items : goal.returns-in_err-add_items
returns-in_err-add_items c = IfOk-from_err _ _ c.from_residual.ensures.0
