use Rattle.std.proofs.Common.{refl}
use Rattle.sv_write.specs.Design.{assigns, genvars, net, variable, write_else_part, write_gen, write_item}
use Rattle.sv_write.specs.Writing.{each, maybe}
use Rattle.sv_write.proofs.Adding.{◌▷◌, made, nothing_added, under}
use Rattle.sv_write.proofs.DesignMade.{made_always, made_assign, made_block, made_for, made_generate, made_genvar, made_if, made_inst, made_net, made_param, made_single, made_typedef, made_variable}
use Rattle.sv_write.proofs.Loops.{left_next, left_last}
use Rattle.sv_write.proofs.design.+item.Goals as goal

pub items-parts-preserved : goal.items-parts-preserved
items-parts-preserved t c = left_next c.parts-test.true c.part-item.is c.parts.invariant c.item.ensures

pub items-returns : goal.items-returns
items-returns t c = left_last c.parts-test.false c.parts.invariant

pub maybe_else-returns-in-Some : goal.maybe_else-returns-in-Some
maybe_else-returns-in-Some t c = made (maybe write_else_part) c.in-Some.is (λ l. refl) (c.key.ensures ▷ under write_gen c.get.ensures c.body.ensures)

pub maybe_else-returns-in-None : goal.maybe_else-returns-in-None
maybe_else-returns-in-None t c = made (maybe write_else_part) c.in-None.is (λ l. refl) nothing_added

pub body-returns-in-Block : goal.body-returns-in-Block
body-returns-in-Block t c = made write_gen c.in-Block.is (made_block _ _ _ _) (c.begin.ensures ▷ under (each write_item) c.as_slice.ensures c.items.ensures ▷ c.end.ensures)

pub body-returns-in-Single : goal.body-returns-in-Single
body-returns-in-Single t c = made write_gen c.in-Single.is (made_single _ _) (under write_item c.get.ensures c.item.ensures)

pub item-returns-in-Net : goal.item-returns-in-Net
item-returns-in-Net t c = made write_item c.in-Net.is (made_net _ _ _) (under (net c.in-Net.word c.in-Net.of) c.as_slice.ensures c.net.ensures)

pub item-returns-in-Variable : goal.item-returns-in-Variable
item-returns-in-Variable t c = made write_item c.in-Variable.is (made_variable _ _) (under (variable c.in-Variable.of) c.as_slice-in-Variable.ensures c.variable.ensures)

pub item-returns-in-Typedef : goal.item-returns-in-Typedef
item-returns-in-Typedef t c = made write_item c.in-Typedef.is (made_typedef _) (c.typedef.ensures)

pub item-returns-in-Param : goal.item-returns-in-Param
item-returns-in-Param t c = made write_item c.in-Param.is (made_param _) (c.param.ensures)

pub item-returns-in-Genvar : goal.item-returns-in-Genvar
item-returns-in-Genvar t c = made write_item c.in-Genvar.is (made_genvar _) (under genvars c.as_slice-in-Genvar.ensures c.genvars.ensures)

pub item-returns-in-Assign : goal.item-returns-in-Assign
item-returns-in-Assign t c = made write_item c.in-Assign.is (made_assign _) (under assigns c.as_slice-in-Assign.ensures c.assigns.ensures)

pub item-returns-in-Always : goal.item-returns-in-Always
item-returns-in-Always t c = made write_item c.in-Always.is (made_always _) (c.block.ensures)

pub item-returns-in-Inst : goal.item-returns-in-Inst
item-returns-in-Inst t c = made write_item c.in-Inst.is (made_inst _) (c.inst.ensures)

pub item-returns-in-For : goal.item-returns-in-For
item-returns-in-For t c = made write_item c.in-For.is (made_for _ _ _ _ _ _ _) (c.for_word.ensures ▷ c.turns.ensures ▷ under write_gen c.get.ensures c.body.ensures)

pub item-returns-in-If : goal.item-returns-in-If
item-returns-in-If t c = made write_item c.in-If.is (made_if _ _ _ _) (c.if_head.ensures ▷ under write_gen c.get-in-If.ensures c.body-in-If.ensures ▷ c.maybe_else.ensures)

pub item-returns-in-Generate : goal.item-returns-in-Generate
item-returns-in-Generate t c = made write_item c.in-Generate.is (made_generate _) (c.key.ensures ▷ under (each write_item) c.as_slice-in-Generate.ensures c.items.ensures ▷ c.key-in-Generate.ensures)
