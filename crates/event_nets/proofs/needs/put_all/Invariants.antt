use Rattle.std.proofs.Common.{◌≡◌, ℕ, ◌<◌, [], length, get_or, take}
use Rattle.event_nets.specs.Needs.{gift_rows, given_to}
use Rattle.event_nets.proofs.needs.put_all.Given as goal

abbrev pub invariant-loop-gift : goal.invariant-loop-gift
invariant-loop-gift l = record {
  len : length l.given ≡ length l.lows;
  given : (k : ℕ) → k < length l.lows → get_or (gift_rows l.given) k [] ≡ given_to l.lows (take l.gift-index l.gifts) k;
}
