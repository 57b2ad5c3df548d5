use Rattle.std.proofs.lemmas.Result.{IfOk-from_err}
use Rattle.std.proofs.Common.{◌∙◌, ◌++◌, ◌∷◌, [], List, take, Option, sym, ap, subst, arith}
use Rattle.std.proofs.lemmas.List.{take_all}
use Rattle.std.specs.Result.{OnOk}
use Rattle.sv_tree.specs.declared.design.Gen.{Gen}
use Rattle.sv_tree.specs.declared.design.Item.{Item}
use Rattle.sv_tree.specs.declared.design.Item.TheVariants as it
use Rattle.sv_meaning.specs.Layouts.{Name}
use Rattle.sv_hierarchy.specs.Scopes.{instantiated, instantiated_by, instantiated_under}
use Rattle.sv_modules.specs.Naming.{Adds}
use Rattle.sv_modules.proofs.Sets.{adds_none, adds_more, adds_then}
use Rattle.sv_modules.proofs.Instances.{used_inst, used_generate, used_for, used_if, used_if_else, used_block, used_single, used_net, used_variable, used_typedef, used_param, used_genvar, used_assign, used_always, by_none, by_next}
use Rattle.sv_modules.proofs.used.+item.Goals as goal

pub add_body-returns-in-Block : goal.add_body-returns-in-Block
add_body-returns-in-Block t c =
    subst (λ (ns : List Name). OnOk c.add_items.result (Adds c.args.used.now ns c.add_items.new.used))
    (ap instantiated_by c.as_slice.ensures ∙ sym (ap instantiated_under c.in-Block.is ∙ used_block c.in-Block.field-0 c.in-Block.field-1 c.in-Block.items c.in-Block.field-3)) c.add_items.ensures

pub add_body-returns-in-Single : goal.add_body-returns-in-Single
add_body-returns-in-Single t c =
    subst (λ (ns : List Name). OnOk c.add_item.result (Adds c.args.used.now ns c.add_item.new.used))
    (ap instantiated c.get.ensures ∙ sym (ap instantiated_under c.in-Single.is ∙ used_single c.in-Single.field-0 c.in-Single.item)) c.add_item.ensures

pub add_item-returns-in-Inst : goal.add_item-returns-in-Inst
add_item-returns-in-Inst t c =
    subst (λ (ns : List Name). OnOk c.add.result (Adds c.args.used.now ns c.add.new.self))
    (ap (λ (n : Name). n ∷ []) c.bytes.ensures ∙ sym (ap instantiated c.in-Inst.is ∙ used_inst c.in-Inst.inst)) c.add.ensures

pub add_item-returns-in-Generate : goal.add_item-returns-in-Generate
add_item-returns-in-Generate t c =
    subst (λ (ns : List Name). OnOk c.add_items.result (Adds c.args.used.now ns c.add_items.new.used))
    (ap instantiated_by c.as_slice.ensures ∙ sym (ap instantiated c.in-Generate.is ∙ used_generate c.in-Generate.items)) c.add_items.ensures

pub add_item-returns-in-For : goal.add_item-returns-in-For
add_item-returns-in-For t c =
    subst (λ (ns : List Name). OnOk c.add_body.result (Adds c.args.used.now ns c.add_body.new.used))
    (ap instantiated_under c.get.ensures ∙ sym (ap instantiated c.in-For.is ∙ used_for c.in-For.field-0 c.in-For.field-1 c.in-For.field-2 c.in-For.field-3 c.in-For.field-4 c.in-For.field-5 c.in-For.body)) c.add_body.ensures

pub add_item-returns-in_ok-add_body-in-Some : goal.add_item-returns-in_ok-add_body-in-Some
add_item-returns-in_ok-add_body-in-Some t c =
    let item = c.in-If.is ∙ ap (λ (o : Option Gen). it.If c.in-If.field-0 c.in-If.field-1 c.in-If.body o) c.in-Some.is in
    subst (λ (ns : List Name). OnOk c.add_body-in-Some-2.result (Adds c.args.used.now ns c.add_body-in-Some-2.new.used))
    (ap (λ (x : Gen). instantiated_under x ++ instantiated_under c.get-in-Some-2.result.now) c.get-in-Some.ensures ∙ ap (λ (x : Gen). instantiated_under c.in-If.body ++ instantiated_under x) c.get-in-Some-2.ensures
    ∙ sym (ap instantiated item ∙ used_if_else c.in-If.field-0 c.in-If.field-1 c.in-If.body c.in-Some.other))
    (adds_then c.add_body-in-Some-2.result c.args.used.now c.add_body-in-Some.new.used c.add_body-in-Some-2.new.used
    (instantiated_under c.get-in-Some.result.now) (instantiated_under c.get-in-Some-2.result.now) c.in_ok-add_body-in-Some.ensures c.add_body-in-Some-2.ensures)

pub add_item-returns-in-None : goal.add_item-returns-in-None
add_item-returns-in-None t c =
    subst (λ (ns : List Name). OnOk c.add_body-in-None.result (Adds c.args.used.now ns c.add_body-in-None.new.used))
    (ap instantiated_under c.get-in-None.ensures ∙ sym (ap instantiated (c.in-If.is ∙ ap (λ (o : Option Gen). it.If c.in-If.field-0 c.in-If.field-1 c.in-If.body o) c.in-None.is) ∙ used_if c.in-If.field-0 c.in-If.field-1 c.in-If.body)) c.add_body-in-None.ensures

pub add_item-returns-in-Net : goal.add_item-returns-in-Net
add_item-returns-in-Net t c = subst (λ (ns : List Name). Adds c.args.used.now ns c.args.used.now) (sym (ap instantiated c.in-Net.is ∙ used_net c.in-Net.field-0 c.in-Net.field-1 c.in-Net.field-2)) (adds_none c.args.used.now)

pub add_item-returns-in-Variable : goal.add_item-returns-in-Variable
add_item-returns-in-Variable t c = subst (λ (ns : List Name). Adds c.args.used.now ns c.args.used.now) (sym (ap instantiated c.in-Variable.is ∙ used_variable c.in-Variable.field-0 c.in-Variable.field-1)) (adds_none c.args.used.now)

pub add_item-returns-in-Typedef : goal.add_item-returns-in-Typedef
add_item-returns-in-Typedef t c = subst (λ (ns : List Name). Adds c.args.used.now ns c.args.used.now) (sym (ap instantiated c.in-Typedef.is ∙ used_typedef c.in-Typedef.field-0)) (adds_none c.args.used.now)

pub add_item-returns-in-Param : goal.add_item-returns-in-Param
add_item-returns-in-Param t c = subst (λ (ns : List Name). Adds c.args.used.now ns c.args.used.now) (sym (ap instantiated c.in-Param.is ∙ used_param c.in-Param.field-0)) (adds_none c.args.used.now)

pub add_item-returns-in-Genvar : goal.add_item-returns-in-Genvar
add_item-returns-in-Genvar t c = subst (λ (ns : List Name). Adds c.args.used.now ns c.args.used.now) (sym (ap instantiated c.in-Genvar.is ∙ used_genvar c.in-Genvar.field-0)) (adds_none c.args.used.now)

pub add_item-returns-in-Assign : goal.add_item-returns-in-Assign
add_item-returns-in-Assign t c = subst (λ (ns : List Name). Adds c.args.used.now ns c.args.used.now) (sym (ap instantiated c.in-Assign.is ∙ used_assign c.in-Assign.field-0)) (adds_none c.args.used.now)

pub add_item-returns-in-Always : goal.add_item-returns-in-Always
add_item-returns-in-Always t c = subst (λ (ns : List Name). Adds c.args.used.now ns c.args.used.now) (sym (ap instantiated c.in-Always.is ∙ used_always c.in-Always.field-0)) (adds_none c.args.used.now)

pub add_items-items-init : goal.add_items-items-init
add_items-items-init t c = subst (λ (ns : List Name). Adds c.args.used.now ns c.args.used.now) (sym by_none) (adds_none c.args.used.now)

pub add_items-items-preserved : goal.add_items-items-preserved
add_items-items-preserved t c =
    subst (λ (ns : List Name). Adds c.args.used.now ns c.add_item.new.used) (sym (by_next c.args.items.now c.items.item-index c.item-item.result c.items-test.true c.item-item.is))
    (adds_more c.args.used.now c.items.used c.add_item.new.used (instantiated_by (take c.items.item-index c.args.items.now)) (instantiated c.item-item.result) c.items.invariant c.in_ok-add_item.ensures)

pub add_item-returns-in_err-add_body-in-Some : goal.add_item-returns-in_err-add_body-in-Some
add_item-returns-in_err-add_body-in-Some t c = IfOk-from_err _ _ c.from_residual.ensures.0

pub add_items-returns-in_err-add_item : goal.add_items-returns-in_err-add_item
add_items-returns-in_err-add_item t c = IfOk-from_err _ _ c.from_residual.ensures.0

pub add_items-returns : goal.add_items-returns
add_items-returns t c =
    subst (λ (l : List Item). Adds c.args.used.now (instantiated_by l) c.items.used) (take_all c.items.item-index c.args.items.now (omega (arith, c.items-test.false))) c.items.invariant
