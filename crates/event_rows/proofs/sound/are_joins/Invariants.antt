use Rattle.std.proofs.Common.{◌≡◌, take}
use Rattle.std.specs.Prelude.{All}
use Rattle.lhs_alias.specs.Joined.{Stands, widths_of}
use Rattle.flat_net.specs.Flats.{IsJoin, links_of}
use Rattle.event_rows.proofs.sound.are_joins.Given as goal

abbrev pub invariant-loop-join : goal.invariant-loop-join
invariant-loop-join l = record {
  widths : widths_of l.made ≡ l.widths;
  joins : All (IsJoin l.widths) (take l.join-index l.joins);
  stands : Stands l.made (links_of (take l.join-index l.joins));
}
