use Rattle.std.proofs.Common.{false}
use Rattle.std.specs.Option.{option_copied}
use Rattle.sv_meaning.specs.Layouts as layouts
use Rattle.sv_hierarchy.specs.Scopes as m
use Rattle.sv_walk.specs.Walks.{state_of}
use Rattle.sv_walk.proofs.DeclaringWires.{with_formed, with_unformed}
use Rattle.sv_walk.proofs.Walking.{same_ends}
use Rattle.sv_walk.proofs.walker.Walker.add_nets.Goals as goal

pub returns-in_err-layout-in-Some : goal.returns-in_err-layout-in-Some
returns-in_err-layout-in-Some c =
    let f = λ (x : layouts.Layout). m.walk_all (m.add_wire false x) c.args.words.now in
    let s = state_of c.args.self.now c.args.current.now in
    same_ends (state_of c.formed.new.self c.formed.new.current) (m.with_form_or_bit (option_copied c.args.tree) f s) (m.with_form c.in-Some.tree.now f s) c.from_residual.result (λ i. m.with_form_or_bit (option_copied (c.in-Some.is i)) f s)
    (with_unformed c.in-Some.tree.now f s c.formed.new.self c.formed.new.self c.formed.new.current c.formed.new.current c.from_residual.result c.in_err-layout-in-Some.field-0.0 c.from_residual.ensures.1 c.in_err-layout-in-Some.ensures.is)

pub returns-in_ok-layout-in-Some : goal.returns-in_ok-layout-in-Some
returns-in_ok-layout-in-Some c =
    let f = λ (x : layouts.Layout). m.walk_all (m.add_wire false x) c.args.words.now in
    let s = state_of c.args.self.now c.args.current.now in
    same_ends (state_of c.add_wires-added.new.self c.add_wires-added.new.current) (m.with_form_or_bit (option_copied c.args.tree) f s) (m.with_form c.in-Some.tree.now f s) c.add_wires-added.result (λ i. m.with_form_or_bit (option_copied (c.in-Some.is i)) f s)
    (with_formed c.in-Some.tree.now f s c.formed.new.self c.add_wires-added.new.self c.formed.new.current c.add_wires-added.new.current c.in_ok-layout-in-Some.layout c.add_wires-added.result c.in_ok-layout-in-Some.ensures.is c.add_wires-added.ensures)
