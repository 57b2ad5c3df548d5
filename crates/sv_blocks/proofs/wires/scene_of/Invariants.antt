use Rattle.std.proofs.Common.{All, List, take}
use Rattle.sv_meaning.specs.Layouts.{NamedSignal}
use Rattle.sv_blocks.specs.Declaring.{IsAmong, IsThere, ArePlaces}
use Rattle.sv_blocks.proofs.wires.scene_of.Given as goal

abbrev pub invariant-found : goal.invariant-found
invariant-found l = record {
  are : (named : List NamedSignal) → All (IsAmong named) l.found → ArePlaces named l.all;
  there : All (IsThere l.all.places) (take l.wire-index l.found);
}
