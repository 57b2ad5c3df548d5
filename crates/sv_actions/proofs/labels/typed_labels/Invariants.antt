use Rattle.std.proofs.Common.{map, take}
use Rattle.sv_meaning.specs.Values.{mean}
use Rattle.sv_names.specs.Names.{names_are}
use Rattle.sv_actions.specs.Listing.{AreLabels}
use Rattle.sv_actions.proofs.labels.typed_labels.Given as goal

abbrev pub invariant-labels : goal.invariant-labels
invariant-labels l = AreLabels (map (mean (names_are l.names)) (take l.label-index l.labels)) (record { all = l.all; width = l.width; signed = l.signed })
