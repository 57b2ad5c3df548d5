use Rattle.std.proofs.Common.{◌≡◌, take}
use Rattle.lhs_alias.specs.Joined.{Stands, widths_of}
use Rattle.flat_net.specs.Flats.{links_of}
use Rattle.event_nets.proofs.lay.join_all.Given as goal

abbrev pub invariant-loop-join : goal.invariant-loop-join
invariant-loop-join l = record {
  widths : widths_of l.made ≡ l.widths;
  stands : Stands l.made (links_of (take l.join-index l.joins));
}
