use Rattle.std.proofs.Common.{◌≡◌, ℕ, ◌<◌, eqb, [], length, get_or, take}
use Rattle.std.specs.Prelude.{filter}
use Rattle.event_nets.specs.Needs.{gift_rows}
use Rattle.net_resolve.proofs.classes.put_all.Given as goal

abbrev pub invariant-loop-gift : goal.invariant-loop-gift
invariant-loop-gift l = record {
  len : length l.rows ≡ length l.initial.rows;
  rows : (k : ℕ) → k < length l.initial.rows → get_or (gift_rows l.rows) k [] ≡ filter (λ g. eqb g.to k) (take l.gift-index l.gifts);
}
