use Rattle.std.proofs.Common.{◌≡◌, map, drop}
use Rattle.svex_arena.specs.Arenas.{Extends}
use Rattle.net_equations.specs.Groups.{first_wide}
use Rattle.compose_rounds.specs.Turns.{IsReady}
use Rattle.svex_compose.specs.Grouping.{AreOrdered, IsRest}
use Rattle.svex_compose.proofs.grouping.settle_all.Given as goal

abbrev pub invariant-groups : goal.invariant-groups
invariant-groups l = record {
  ready : IsReady l.joins l.arena l.scene l.replacer;
  ordered : AreOrdered l.joins l.arena l.set (map (λ g. g.members) l.groups);
  rest : IsRest l.joins l.arena l.set l.scene (map (λ g. g.members) l.groups) l.at;
  wide : first_wide (map (λ e. e.seg) l.set.eqs) (map (λ g. g.members) l.groups) ≡ first_wide (map (λ e. e.seg) l.set.eqs) (drop l.at (map (λ g. g.members) l.groups));
  extends : Extends l.fn.arena l.arena;
}
