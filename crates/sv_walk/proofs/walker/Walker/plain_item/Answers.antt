use Rattle.std.proofs.Common.{◌∙◌, false, sym, ap}
use Rattle.sv_tree.specs.declared.design.Item.{Item}
use Rattle.sv_hierarchy.specs.Scopes.{act, add_genvar, add_wire, add_assignment, walk_all, with_form, with_form_or_bit}
use Rattle.sv_walk.proofs.Walking.{same_walk}
use Rattle.sv_walk.proofs.WalkingTrees.{always_walk, assign_walk, genvar_walk, inst_walk, net_walk, param_walk, typedef_walk, variable_walk}
use Rattle.sv_walk.proofs.walker.Walker.plain_item.Goals as goal

pub returns-in-Net : goal.returns-in-Net
returns-in-Net c =
    same_walk (act c.args.item.now).item _ c.args.self.now c.args.current.now c.add_nets.new.self c.add_nets.new.current c.add_nets.result (ap (λ (x : Item). (act x).item) c.in-Net.is ∙ net_walk c.in-Net.field-0 c.in-Net.form c.in-Net.words ∙ sym (λ i. with_form_or_bit (c.as_ref.ensures.value i) (λ x. walk_all (add_wire false x) (c.as_slice.ensures i)))) c.add_nets.ensures

pub returns-in-Variable : goal.returns-in-Variable
returns-in-Variable c =
    same_walk (act c.args.item.now).item _ c.args.self.now c.args.current.now c.add_nets-in-Variable.new.self c.add_nets-in-Variable.new.current c.add_nets-in-Variable.result (ap (λ (x : Item). (act x).item) c.in-Variable.is ∙ variable_walk c.in-Variable.form c.in-Variable.words ∙ sym (λ i. with_form c.in-Variable.form (λ x. walk_all (add_wire false x) (c.as_slice-in-Variable.ensures i)))) c.add_nets-in-Variable.ensures

pub returns-in-Typedef : goal.returns-in-Typedef
returns-in-Typedef c =
    same_walk (act c.args.item.now).item _ c.args.self.now c.args.current.now c.add_typedef.new.self c.add_typedef.new.current c.add_typedef.result (ap (λ (x : Item). (act x).item) c.in-Typedef.is ∙ typedef_walk c.in-Typedef.tree) c.add_typedef.ensures

pub returns-in-Param : goal.returns-in-Param
returns-in-Param c =
    same_walk (act c.args.item.now).item _ c.args.self.now c.args.current.now c.add_params.new.self c.add_params.new.current c.add_params.result (ap (λ (x : Item). (act x).item) c.in-Param.is ∙ param_walk c.in-Param.tree) c.add_params.ensures

pub returns-in-Genvar : goal.returns-in-Genvar
returns-in-Genvar c =
    same_walk (act c.args.item.now).item _ c.args.self.now c.args.current.now c.add_genvars.new.self c.add_genvars.new.current c.add_genvars.result (ap (λ (x : Item). (act x).item) c.in-Genvar.is ∙ genvar_walk c.in-Genvar.words ∙ ap (walk_all add_genvar) (sym c.as_slice-in-Genvar.ensures)) c.add_genvars.ensures

pub returns-in-Assign : goal.returns-in-Assign
returns-in-Assign c =
    same_walk (act c.args.item.now).item _ c.args.self.now c.args.current.now c.add_assignments.new.self c.add_assignments.new.current c.add_assignments.result (ap (λ (x : Item). (act x).item) c.in-Assign.is ∙ assign_walk c.in-Assign.list ∙ ap (walk_all add_assignment) (sym c.as_slice-in-Assign.ensures)) c.add_assignments.ensures

pub returns-in-Always : goal.returns-in-Always
returns-in-Always c =
    same_walk (act c.args.item.now).item _ c.args.self.now c.args.current.now c.add_work.new.self c.args.current.now c.add_work.result (ap (λ (x : Item). (act x).item) c.in-Always.is ∙ always_walk c.in-Always.block) c.add_work.ensures

pub returns-in-Inst : goal.returns-in-Inst
returns-in-Inst c =
    same_walk (act c.args.item.now).item _ c.args.self.now c.args.current.now c.add_children.new.self c.add_children.new.current c.add_children.result (ap (λ (x : Item). (act x).item) c.in-Inst.is ∙ inst_walk c.in-Inst.inst) c.add_children.ensures

pub returns-in-Generate : goal.returns-in-Generate
returns-in-Generate c = absurd (c.requires.no_region _ c.in-Generate.is)

pub returns-in-For : goal.returns-in-For
returns-in-For c = absurd (c.requires.no_loop _ _ _ _ _ _ _ c.in-For.is)

pub returns-in-If : goal.returns-in-If
returns-in-If c = absurd (c.requires.no_choice _ _ _ _ c.in-If.is)
