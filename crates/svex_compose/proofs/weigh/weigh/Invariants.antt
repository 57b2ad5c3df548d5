use Rattle.std.proofs.Common.{◌≡◌, ◌≤◌, length, map, drop}
use Rattle.net_equations.specs.Groups.{bits_in}
use Rattle.svex_compose.proofs.weigh.weigh.Given as goal

abbrev pub invariant-members : goal.invariant-members
invariant-members l = record {
  most : l.at ≤ length l.members;
  bits : length l.bits.items ≡ bits_in (map (λ e. e.seg) l.eqs) (drop l.at l.members);
}

abbrev pub decreases-members : goal.decreases-members
decreases-members l = l.at
