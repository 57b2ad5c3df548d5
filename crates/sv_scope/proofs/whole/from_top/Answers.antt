use Rattle.std.proofs.Common.{[], map, ap, refl, sym, subst}
use Rattle.sv_meaning.specs.Faults.{Judged}
use Rattle.sv_hierarchy.specs.Scopes as m
use Rattle.sv_loops.specs.Answers.{Answers}
use Rattle.sv_levels.specs.Levels.{front_is}
use Rattle.sv_levels.specs.Library.{known_is}
use Rattle.sv_levels.specs.Tasks.{given_is}
use Rattle.sv_scope.specs.Scoped.{IsWalked}
use Rattle.sv_walk.specs.Walks.{state_of}
use Rattle.sv_scope.proofs.WholeDesign.{top_begun, top_walk}
use Rattle.sv_scope.proofs.whole.from_top.Goals as goal

pub returns : goal.returns
returns c = λ all h.
    let k = known_is c.args.top in
    let st = state_of c.args.walker.now c.args.file.now in
    let first = state_of c.begin_instance.new.self c.in_ok-own.own in
    subst (λ (j : Judged m.State). Answers (λ (s : m.State) (u : Unit {0}). IsWalked s c.walk_top.new.walker) j c.walk_top.result)
    (sym (top_walk all k st first (front_is c.here-at.result) []
    (top_begun k st first c.in_ok-path.path (map given_is c.new-given.result.items) c.in_ok-path.ensures (ap (map given_is) c.new-given.ensures.items) (c.in_ok-own.ensures c.args.file.now)) c.here-at.ensures refl))
    (c.walk_top.ensures all h)
