use Rattle.sv_meaning.specs.Layouts as layouts
use Rattle.sv_hierarchy.specs.Scopes as m
use Rattle.sv_walk.specs.Walks.{state_of}
use Rattle.sv_walk.proofs.DeclaringWires.{with_formed, with_unformed}
use Rattle.sv_walk.proofs.walker.Walker.add_typedef.Goals as goal

pub returns-in_err-layout : goal.returns-in_err-layout
returns-in_err-layout c =
    with_unformed c.args.tree.now.form (λ x. m.add_constant (c.args.tree.now.name, layouts.type_is x)) (state_of c.args.self.now c.args.current.now) c.formed.new.self c.formed.new.self c.formed.new.current c.formed.new.current c.from_residual.result c.in_err-layout.field-0.0 c.from_residual.ensures.1 c.in_err-layout.ensures.is

pub returns : goal.returns
returns c =
    with_formed c.args.tree.now.form (λ x. m.add_constant (c.args.tree.now.name, layouts.type_is x)) (state_of c.args.self.now c.args.current.now) c.formed.new.self c.add_constant.new.self c.formed.new.current c.add_constant.new.current c.in_ok-layout.layout c.add_constant.result c.in_ok-layout.ensures.is
    c.add_constant.ensures
