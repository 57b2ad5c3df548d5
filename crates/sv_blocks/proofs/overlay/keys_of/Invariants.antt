use Rattle.std.proofs.Common.{◌≡◌, ◌++◌}
use Rattle.std.specs.BTreeMap.{keys}
use Rattle.sv_blocks.proofs.overlay.keys_of.Given as goal

abbrev pub invariant-keys : goal.invariant-keys
invariant-keys l = l.all ++ l.key-iterator ≡ keys l.nodes
