use Rattle.std.proofs.Common.{◌≡◌, [], true, sym, ap, subst}
use Rattle.sv_meaning.specs.Faults.{Judged, ◌>>=◌}
use Rattle.sv_hierarchy.specs.Scopes as m
use Rattle.sv_loops.specs.Answers.{Answers}
use Rattle.sv_levels.specs.Levels.{front_is}
use Rattle.sv_levels.proofs.Wired.{passed_on, refused_first}
use Rattle.sv_scope.specs.Scoped.{IsWalked}
use Rattle.sv_walk.specs.Walks.{state_of}
use Rattle.sv_walk.proofs.Opening.{Reached, walked_to}
use Rattle.sv_scope.proofs.WholeDesign.{walked_answers}
use Rattle.sv_scope.proofs.whole.walk_top.Goals as goal

pub returns-in_err-instance : goal.returns-in_err-instance
returns-in_err-instance c = λ all h.
    let walk = m.instance_walk true c.args.tree.now (front_is c.args.at) [] (state_of c.args.walker.now c.args.own.now) in
    let e = c.in_err-instance.field-0.0 in
    passed_on Reached _ (walk >>= m.below (m.child m.deepest all)) c.from_residual.result e c.from_residual.ensures.1
    (refused_first (λ (s : m.State) (u : Unit {0}). s ≡ state_of c.instance.new.self c.instance.new.current) Reached walk (m.below (m.child m.deepest all)) e c.in_err-instance.ensures)

pub returns : goal.returns
returns c = λ all h.
    let walk = m.instance_walk true c.args.tree.now (front_is c.args.at) [] (state_of c.args.walker.now c.args.own.now) in
    let own = state_of c.instance.new.self c.instance.new.current in
    subst (λ (j : Judged m.State). Answers (λ (s : m.State) (u : Unit {0}). IsWalked s c.below.new.self) j c.below.result)
    (sym (ap (λ (j : Judged m.State). j >>= m.below (m.child m.deepest all)) (walked_to walk own c.in_ok-instance.field-0 c.in_ok-instance.ensures)))
    (walked_answers (m.below (m.child m.deepest all) own) c.below.new.self c.instance.new.current c.below.result (c.below.ensures all h))
