use Rattle.std.proofs.lemmas.Result.{IfOk-from_err}
use Rattle.std.proofs.Common.{◌≡◌, ◌∙◌, ◌++◌, List, [], sym, ap, subst, append_assoc, arith}
use Rattle.std.proofs.lemmas.List.{take_all}
use Rattle.sv_tree.specs.declared.design.Item.{Item}
use Rattle.std.specs.Result.{OnOk}
use Rattle.sv_meaning.specs.Layouts.{Name}
use Rattle.sv_hierarchy.specs.Scopes.{body_params, item_names, params_of_items}
use Rattle.sv_modules.specs.Naming.{texts_of}
use Rattle.sv_modules.proofs.Given.{given_param, given_local, given_generate, given_net, given_variable, given_typedef, given_genvar, given_assign, given_always, given_inst, given_for, given_if, no_items, nothing_more, items_next}
use Rattle.sv_modules.proofs.parameters.+item.Goals as goal

pub add_of_item-returns-in-Parameter : goal.add_of_item-returns-in-Parameter
add_of_item-returns-in-Parameter t c =
    subst (λ (ns : List Name). OnOk c.add_names.result (texts_of c.add_names.new.words.items ≡ texts_of c.args.words.now.items ++ ns))
    (ap item_names c.as_slice.ensures ∙ sym (ap body_params c.in-Param.is ∙ given_param c.in-Param.param c.in-Parameter.is)) c.add_names.ensures

pub add_of_item-returns-in-Localparam : goal.add_of_item-returns-in-Localparam
add_of_item-returns-in-Localparam t c = nothing_more (texts_of c.args.words.now.items) (body_params c.args.item.now) (ap body_params c.in-Param.is ∙ given_local c.in-Param.param c.in-Localparam.is)

pub add_of_item-returns-in-Generate : goal.add_of_item-returns-in-Generate
add_of_item-returns-in-Generate t c =
    subst (λ (ns : List Name). OnOk c.add_of_items.result (texts_of c.add_of_items.new.words.items ≡ texts_of c.args.words.now.items ++ ns))
    (ap params_of_items c.as_slice-in-Generate.ensures ∙ sym (ap body_params c.in-Generate.is ∙ given_generate c.in-Generate.items)) c.add_of_items.ensures

pub add_of_item-returns-in-Net : goal.add_of_item-returns-in-Net
add_of_item-returns-in-Net t c = nothing_more (texts_of c.args.words.now.items) (body_params c.args.item.now) (ap body_params c.in-Net.is ∙ given_net c.in-Net.field-0 c.in-Net.field-1 c.in-Net.field-2)

pub add_of_item-returns-in-Variable : goal.add_of_item-returns-in-Variable
add_of_item-returns-in-Variable t c = nothing_more (texts_of c.args.words.now.items) (body_params c.args.item.now) (ap body_params c.in-Variable.is ∙ given_variable c.in-Variable.field-0 c.in-Variable.field-1)

pub add_of_item-returns-in-Typedef : goal.add_of_item-returns-in-Typedef
add_of_item-returns-in-Typedef t c = nothing_more (texts_of c.args.words.now.items) (body_params c.args.item.now) (ap body_params c.in-Typedef.is ∙ given_typedef c.in-Typedef.field-0)

pub add_of_item-returns-in-Genvar : goal.add_of_item-returns-in-Genvar
add_of_item-returns-in-Genvar t c = nothing_more (texts_of c.args.words.now.items) (body_params c.args.item.now) (ap body_params c.in-Genvar.is ∙ given_genvar c.in-Genvar.field-0)

pub add_of_item-returns-in-Assign : goal.add_of_item-returns-in-Assign
add_of_item-returns-in-Assign t c = nothing_more (texts_of c.args.words.now.items) (body_params c.args.item.now) (ap body_params c.in-Assign.is ∙ given_assign c.in-Assign.field-0)

pub add_of_item-returns-in-Always : goal.add_of_item-returns-in-Always
add_of_item-returns-in-Always t c = nothing_more (texts_of c.args.words.now.items) (body_params c.args.item.now) (ap body_params c.in-Always.is ∙ given_always c.in-Always.field-0)

pub add_of_item-returns-in-Inst : goal.add_of_item-returns-in-Inst
add_of_item-returns-in-Inst t c = nothing_more (texts_of c.args.words.now.items) (body_params c.args.item.now) (ap body_params c.in-Inst.is ∙ given_inst c.in-Inst.field-0)

pub add_of_item-returns-in-For : goal.add_of_item-returns-in-For
add_of_item-returns-in-For t c = nothing_more (texts_of c.args.words.now.items) (body_params c.args.item.now) (ap body_params c.in-For.is ∙ given_for c.in-For.field-0 c.in-For.field-1 c.in-For.field-2 c.in-For.field-3 c.in-For.field-4 c.in-For.field-5 c.in-For.field-6)

pub add_of_item-returns-in-If : goal.add_of_item-returns-in-If
add_of_item-returns-in-If t c = nothing_more (texts_of c.args.words.now.items) (body_params c.args.item.now) (ap body_params c.in-If.is ∙ given_if c.in-If.field-0 c.in-If.field-1 c.in-If.field-2 c.in-If.field-3)

pub add_of_items-items-init : goal.add_of_items-items-init
add_of_items-items-init t c = nothing_more (texts_of c.args.words.now.items) (params_of_items []) no_items

pub add_of_items-items-preserved : goal.add_of_items-items-preserved
add_of_items-items-preserved t c =
    c.in_ok-add_of_item.ensures ∙ ap (λ (x : List Name). x ++ body_params c.item-item.result) c.items.invariant
    ∙ append_assoc (texts_of c.args.words.now.items) _ (body_params c.item-item.result)
    ∙ ap (λ (x : List Name). texts_of c.args.words.now.items ++ x) (sym (items_next c.args.items.now c.items.item-index c.item-item.result c.items-test.true c.item-item.is))

pub add_of_items-returns-in_err-add_of_item : goal.add_of_items-returns-in_err-add_of_item
add_of_items-returns-in_err-add_of_item t c = IfOk-from_err _ _ c.from_residual.ensures.0

pub add_of_items-returns : goal.add_of_items-returns
add_of_items-returns t c =
    c.items.invariant ∙ ap (λ (l : List Item). texts_of c.args.words.now.items ++ params_of_items l) (take_all c.items.item-index c.args.items.now (omega (arith, c.items-test.false)))
