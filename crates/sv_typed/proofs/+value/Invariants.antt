use Rattle.std.proofs.Common.{◌≡◌, ◌+◌, suc, length, take, drop}
use Rattle.sv_meaning.specs.Meanings.{nowhere}
use Rattle.sv_typed.specs.Typed.{together, width_together, picked, picked_width, bits_of}
use Rattle.sv_typed.proofs.Below.{size, size_together, picks_size, pick_size}
use Rattle.sv_typed.proofs.+value.Given as goal

abbrev pub decreases-tree::Typed::value : goal.decreases-tree::Typed::value
decreases-tree::Typed::value l = size l.self.now

abbrev pub decreases-tree::Typed::own : goal.decreases-tree::Typed::own
decreases-tree::Typed::own l = suc (size l.self.now)

abbrev pub decreases-value::compare : goal.decreases-value::compare
decreases-value::compare l = suc (size l.a.now + size l.b.now)

abbrev pub decreases-value::combine : goal.decreases-value::combine
decreases-value::combine l = suc (size l.a.now + size l.b.now)

abbrev pub decreases-value::choose : goal.decreases-value::choose
decreases-value::choose l = suc (size l.condition.now + size l.a.now + size l.b.now)

abbrev pub decreases-value::together : goal.decreases-value::together
decreases-value::together l = size_together l.parts.now

abbrev pub decreases-value::picked : goal.decreases-value::picked
decreases-value::picked l = picks_size l.picks.now

abbrev pub decreases-value::part : goal.decreases-value::part
decreases-value::part l = pick_size l.pick.now

abbrev pub invariant-value::together-parts : goal.invariant-value::together-parts
invariant-value::together-parts l = record {
  is : bits_of l.bits ≡ together (take l.part-index l.parts) nowhere;
  width : length (bits_of l.bits) + width_together (drop l.part-index l.parts) ≡ width_together l.parts;
}

abbrev pub invariant-value::picked-picks : goal.invariant-value::picked-picks
invariant-value::picked-picks l = record {
  is : picked nowhere (drop l.pick-index l.picks) l.bits ≡ picked nowhere l.picks l.fn.bits;
  width : picked_width (drop l.pick-index l.picks) (length l.bits) ≡ picked_width l.picks (length l.fn.bits);
}
