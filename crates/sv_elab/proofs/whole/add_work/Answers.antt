use Rattle.std.proofs.Common.{refl, sym, subst}
use Rattle.driver_resolve.specs.Drivers.{widths_of}
use Rattle.flat_net.specs.Flats as f
use Rattle.sv_names.specs.Names.{names_are}
use Rattle.sv_meaning.specs.Layouts.{Scope}
use Rattle.sv_meaning.specs.Designs.{Work}
use Rattle.sv_hierarchy.specs.Scopes.{live_at, work_of, work_at}
use Rattle.sv_scope.specs.Scoped.{levels_of, wires_of}
use Rattle.sv_levels.specs.Levels.{front_is}
use Rattle.sv_levels.specs.Tasks.{task_is, work_is}
use Rattle.sv_stmt.specs.Blocks.{AreWires}
use Rattle.sv_elab.specs.declared.whole.Making.{Making}
use Rattle.sv_elab.specs.Working.{IsWorked, TaskStandsAbove}
use Rattle.sv_elab.proofs.Making.{made_more}
use Rattle.sv_elab.proofs.Owning.{own_more}
use Rattle.sv_elab.proofs.whole.add_work.Goals as goal

pub work_parts-requires-clause-names : goal.work_parts-requires-clause-names
work_parts-requires-clause-names c =
    subst (AreWires (names_are c.in_ok-names.names)) (sym c.requires.widths)
    (subst (λ (z : Scope). AreWires z (widths_of (wires_of c.args.scopes.now))) (sym c.in_ok-names.ensures.names) (c.requires.scopes.names (front_is c.args.work.now.at)))

pub work_parts-requires-clause-below : goal.work_parts-requires-clause-below
work_parts-requires-clause-below c = subst (λ (z : Scope). TaskStandsAbove z (task_is c.args.work.now.task)) (sym c.in_ok-names.ensures.names) c.requires.above

pub returns-clause-ok : goal.returns-clause-ok
returns-clause-ok c = λ works before h.
    let wires = wires_of c.args.scopes.now in
    let old : Making = c.args.making.now in
    let x = c.in_ok-drivers.field-0 in
    let new : Making = record { arena = c.work_parts.new.arena; drivers = c.append.new.self; joins = c.add_join.new.joins; made = x.made } in
    let at = live_at (levels_of c.args.scopes.now) (work_is c.args.work.now).at in
    let w : Work = work_at (levels_of c.args.scopes.now) (work_is c.args.work.now) in
    let k : IsWorked wires w old.made new.arena x = subst (λ (z : Scope). IsWorked wires (work_of z (task_is c.args.work.now.task)) old.made c.work_parts.new.arena x) c.in_ok-names.ensures.names (c.in_ok-drivers.ensures.is wires (sym c.requires.widths)) in
    made_more wires works w before old new x h k c.in_ok-drivers.ensures.stays c.in_ok-append.ensures.ok c.in_ok-add_join.ensures
    (own_more at (work_is c.args.work.now).task (f.links_of old.joins) c.requires.free h.own_children) refl
