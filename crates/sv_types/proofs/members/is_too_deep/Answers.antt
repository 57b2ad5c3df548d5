use Rattle.sv_meaning.specs.Layouts.{depth}
use Rattle.sv_names.specs.Kinds.{layout_is}
use Rattle.sv_names.proofs.Sound.{sound_depth}
use Rattle.sv_types.proofs.Nested.{deep_is}
use Rattle.sv_types.proofs.members.is_too_deep.Goals as goal

pub returns : goal.returns
returns c = deep_is c.args.layout.now.depth (depth (layout_is c.args.layout.now)) (sound_depth c.args.layout.now c.requires)
