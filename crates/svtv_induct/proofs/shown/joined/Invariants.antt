use Rattle.std.proofs.Common.{◌≡◌, take}
use Rattle.event_nets.specs.Tables.{store_of}
use Rattle.lhs_alias.specs.Segs.{lhs_bits}
use Rattle.svtv_induct.specs.States.{bits_in}
use Rattle.svtv_induct.proofs.shown.joined.Given as goal

abbrev pub invariant-segs : goal.invariant-segs
invariant-segs l = l.all ≡ bits_in (store_of l.own) (lhs_bits (take l.at l.segs))
