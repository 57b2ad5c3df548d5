use Rattle.std.proofs.Common.{◌≡◌, ℕ, ◌<◌, length, get_or}
use Rattle.event_nets.specs.declared.gift.Gift.{Gift}
use Rattle.net_resolve.specs.Pieces.{IsMoved}
use Rattle.net_resolve.proofs.pieces.are_moved.Given as goal

abbrev pub invariant-loop-at : goal.invariant-loop-at
invariant-loop-at l = record {
  as_many : length l.a ≡ length l.b;
  each : (i : ℕ) (c d : Gift) → i < l.at → IsMoved l.by (get_or l.a i c) (get_or l.b i d);
}
