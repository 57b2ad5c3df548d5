-- Designs that are the same but for their nodes.
use Rattle.std.specs.Prelude.{◌≡◌}
use Rattle.std.specs.List.{AllZip}
use Rattle.flat_net.specs.declared.flat.Flat.{Flat}
use Rattle.flat_text.specs.FlatTexts.{SameDriver}

-- equal wires, joins and targets, and equal expressions, whatever the numbers of their nodes
pub record SameDesign (f g : Flat) : Type 0 where
  pub wires : f.wires ≡ g.wires
  pub joins : f.joins ≡ g.joins
  pub drivers : AllZip (SameDriver f.arena g.arena) f.drivers g.drivers
