use Rattle.std.proofs.Common.{suc, ◌+◌, ◌*◌, take}
use Rattle.svex_arena.specs.Arenas.{Extends}
use Rattle.sv_lower.specs.Lowering.{LowersParts, LowersPicks}
use Rattle.sv_typed.proofs.Below.{size, size_together, picks_size, pick_size}
use Rattle.sv_lower.proofs.expressions.+lower.Given as goal

abbrev pub decreases-lower_in : goal.decreases-lower_in
decreases-lower_in l = 2 * size l.typed.now

abbrev pub decreases-lower_named : goal.decreases-lower_named
decreases-lower_named l = suc (2 * picks_size l.picks.now)

abbrev pub decreases-lower_turned : goal.decreases-lower_turned
decreases-lower_turned l = suc (2 * size l.a.now)

abbrev pub decreases-lower_reduced : goal.decreases-lower_reduced
decreases-lower_reduced l = suc (2 * size l.a.now)

abbrev pub decreases-lower_standing : goal.decreases-lower_standing
decreases-lower_standing l = suc (2 * size l.a.now)

abbrev pub decreases-lower_fitted : goal.decreases-lower_fitted
decreases-lower_fitted l = suc (2 * size l.a.now)

abbrev pub decreases-lower_computed : goal.decreases-lower_computed
decreases-lower_computed l = suc (2 * (size l.a.now + size l.b.now))

abbrev pub decreases-lower_moved : goal.decreases-lower_moved
decreases-lower_moved l = suc (2 * (size l.a.now + size l.b.now))

abbrev pub decreases-lower_compared : goal.decreases-lower_compared
decreases-lower_compared l = suc (2 * (size l.a.now + size l.b.now))

abbrev pub decreases-lower_combined : goal.decreases-lower_combined
decreases-lower_combined l = suc (2 * (size l.a.now + size l.b.now))

abbrev pub decreases-lower_chosen : goal.decreases-lower_chosen
decreases-lower_chosen l = suc (2 * (size l.condition.now + size l.a.now + size l.b.now))

abbrev pub decreases-lower_concat : goal.decreases-lower_concat
decreases-lower_concat l = suc (2 * size_together l.parts.now)

abbrev pub decreases-lower_repeat : goal.decreases-lower_repeat
decreases-lower_repeat l = suc (2 * size_together l.parts.now)

abbrev pub decreases-lower_parts : goal.decreases-lower_parts
decreases-lower_parts l = 2 * size_together l.parts.now

abbrev pub decreases-lower_picks : goal.decreases-lower_picks
decreases-lower_picks l = 2 * picks_size l.picks.now

abbrev pub decreases-lower_pick : goal.decreases-lower_pick
decreases-lower_pick l = 2 * pick_size l.pick.now

abbrev pub invariant-lower_parts-parts : goal.invariant-lower_parts-parts
invariant-lower_parts-parts l = record {
  stays : Extends l.fn.arena l.arena;
  made : LowersParts l.look l.fn.arena l.arena (take l.i l.parts) l.whole;
}

abbrev pub invariant-lower_picks-picks : goal.invariant-lower_picks-picks
invariant-lower_picks-picks l = record {
  stays : Extends l.fn.arena l.arena;
  made : LowersPicks l.look l.fn.arena l.arena (take l.pick-index l.picks) l.fn.of l.part;
}
