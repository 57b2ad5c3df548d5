use Rattle.sv_scope.specs.Scoped.{design_is}
use Rattle.sv_elab.proofs.Wholes.{found_sound, flat_found}
use Rattle.sv_elab.proofs.whole.elaborate.Goals as goal

pub flattened-requires : goal.flattened-requires
flattened-requires c = found_sound _ _ c.in_ok-found.found c.in_ok-found.ensures

pub returns-clause-sound : goal.returns-clause-sound
returns-clause-sound c = flat_found (design_is c.in_ok-found.found) c.flattened.result c.flattened.ensures.ok
