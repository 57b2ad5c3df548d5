use Rattle.std.proofs.Common.{◌≡◌, ◌++◌, ◌^◌, length, map}
use Rattle.std.specs.Prelude.{All}
use Rattle.lhs_alias.specs.Segs.{lhs_bits, AreSegs}
use Rattle.lhs_alias.specs.Joined.{HasPlace, place_in}
use Rattle.event_nets.proofs.lay.put_places.Given as goal

abbrev pub invariant-segs : goal.invariant-segs
invariant-segs l = record {
  places : l.places.items ++ map (place_in l.starts) (lhs_bits l.rest) ≡ l.initial.places.items ++ map (place_in l.starts) (lhs_bits l.segs);
  segs : AreSegs l.rest;
  there : All (HasPlace l.starts (2 ^ 64)) (lhs_bits l.rest);
}

abbrev pub decreases-segs : goal.decreases-segs
decreases-segs l = length l.rest
