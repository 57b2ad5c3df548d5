use Rattle.std.proofs.Common.{refl, ap}
use Rattle.sv_hierarchy.specs.Scopes as m
use Rattle.sv_scope.proofs.Filed.{part_module, part_typedef, part_param}
use Rattle.sv_scope.proofs.file.add_part.Goals as goal
use Rattle.sv_walk.specs.Walks.{state_of}

pub returns-in-Module : goal.returns-in-Module
returns-in-Module c = λ all h.
    let st = state_of c.args.walker.now c.args.current.now in
    part_module c.args.part.now c.in-Module.module c.add.new.self all st st c.here-seen.result.consts c.add.result c.in-Module.is refl (ap (λ (f : m.Front). f.consts) c.here-seen.ensures) (c.add.ensures all h)

pub returns-in-Typedef : goal.returns-in-Typedef
returns-in-Typedef c = λ all h.
    part_typedef c.args.part.now c.in-Typedef.tree c.args.listed.now all (state_of c.args.walker.now c.args.current.now) (state_of c.add_typedef.new.self c.add_typedef.new.current) c.add_typedef.result c.in-Typedef.is h c.add_typedef.ensures

pub returns-in-Param : goal.returns-in-Param
returns-in-Param c = λ all h.
    part_param c.args.part.now c.in-Param.tree c.args.listed.now all (state_of c.args.walker.now c.args.current.now) (state_of c.add_params.new.self c.add_params.new.current) c.add_params.result c.in-Param.is h c.add_params.ensures
