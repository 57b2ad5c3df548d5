use Rattle.std.proofs.Common.{◌≡◌, ◌+◌, List, [], ◌∷◌, ◌++◌, get_or, map, take, sym, ◌∙◌, ap, subst, arith}
use Rattle.goal_text.specs.declared.goal.Goal.{Goal}
use Rattle.goal_text.specs.Nodes.{IsGoal}
use Rattle.svex_shape.specs.declared.shape.Shape.{Shape}
use Rattle.svtv_decide.specs.Posing.{IsThere, bench}
use Rattle.svtv_decide.specs.Passed.{AreLeastNodes}
use Rattle.svtv_report.specs.Seen.{verdict_is}
use Rattle.svtv_texts.specs.Rights.{AreRight, names_of}
use Rattle.svtv_texts.proofs.Verdicts.{map_more, no_goal, right_next, take_more, take_whole, zip_at, zip_long, one_longer}
use Rattle.svtv_decide.specs.Passed.{AreSampleNodes}
use Rattle.svtv_texts.proofs.judging.decide_all.Goals as goal

pub decide-requires-clause-samples : goal.decide-requires-clause-samples
decide-requires-clause-samples c =
    let b = c.args.problem.now.bound.now in
    subst (λ (shapes : List Shape). AreSampleNodes b.vars b.samples shapes c.args.problem.now.samples.now) (sym c.goals.invariant.same) c.requires.samples

pub decide-requires-clause-there : goal.decide-requires-clause-there
decide-requires-clause-there c =
    subst (λ (shapes : List Shape). IsThere shapes c.goal-item.result) (sym c.goals.invariant.same)
    (subst (λ (g : Goal). IsThere c.args.arena.now g) (sym c.goal-item.is) (c.requires.there c.goals.goal-index c.goal-item.result c.goals-test.true))

pub goals-preserved : goal.goals-preserved
goals-preserved c =
    let i = c.goals.goal-index in
    let goals = c.args.goals.now in
    let item = c.goal-item.result in
    let b = c.args.problem.now.bound.now in
    let nodes = c.args.problem.now.samples.now in
    let budget = c.args.problem.now.budget in
    let vars = b.vars in
    let samples = b.samples in
    let shapes = c.args.arena.now in
    let more : names_of (take (i + 1) goals) ≡ names_of (take i goals) ++ item.name ∷ [] =
    ap names_of (take_more goals i item c.goals-test.true) ∙ (map_more (λ (g : Goal). g.name) (take i goals) (get_or goals i item) ∙ ap (λ (g : Goal). names_of (take i goals) ++ g.name ∷ []) (sym c.goal-item.is)) in
    let names : c.push.new.self ≡ c.goals.found.names ++ item.name ∷ [] = c.in_ok-push.ensures.ok ∙ ap (λ n. c.goals.found.names ++ n ∷ []) c.in_ok-copy.ensures in
    record {
      same = c.decide.ensures.same ∙ c.goals.invariant.same;
      names = names ∙ (ap (λ ns. ns ++ item.name ∷ []) c.goals.invariant.names ∙ sym more);
      verdicts = one_longer c.goals.found.verdicts c.goals.found.names _ _ _ _ c.in_ok-push-2.ensures.ok c.in_ok-push.ensures.ok c.goals.invariant.verdicts;
      shown = one_longer c.goals.found.shown c.goals.found.names _ _ _ _ c.in_ok-push-3.ensures.ok c.in_ok-push.ensures.ok c.goals.invariant.shown;
      right = λ d asked trees p least z.
          let here = subst (λ (g : Goal). IsGoal vars samples shapes (get_or trees i no_goal) g) (sym c.goal-item.is) (zip_at (IsGoal vars samples shapes) trees goals i no_goal item z c.goals-test.true) in
          let own = subst (λ (now : List Shape). IsGoal vars samples now (get_or trees i no_goal) item) (sym c.goals.invariant.same) here in
          let nodes_now = subst (λ (now : List Shape). AreLeastNodes d b now nodes) (sym c.goals.invariant.same) least in
          right_next (bench d asked b) trees budget i no_goal (map verdict_is c.goals.found.verdicts) (map verdict_is c.push-in-goals.new.self) c.goals.found.shown c.push-in-goals-2.new.self
          (verdict_is c.in_ok-verdict.field-0.verdict) c.in_ok-verdict.field-0.shown
          (omega (arith, zip_long (IsGoal vars samples shapes) trees goals z, c.goals-test.true)) (ap (map verdict_is) c.in_ok-push-2.ensures.ok ∙ map_more verdict_is c.goals.found.verdicts c.in_ok-verdict.field-0.verdict) c.in_ok-push-3.ensures.ok
          (c.goals.invariant.right d asked trees p least z)
          (c.in_ok-verdict.ensures.right d asked (get_or trees i no_goal) p nodes_now own);
    }

pub returns-clause-right : goal.returns-clause-right
returns-clause-right c d asked trees p least z =
    let b = c.args.problem.now.bound.now in
    let goals = c.args.goals.now in
    let long = zip_long (IsGoal b.vars b.samples c.args.arena.now) trees goals z in
    subst (λ ts. AreRight (bench d asked b) ts c.args.problem.now.budget (map verdict_is c.goals.found.verdicts) c.goals.found.shown) (take_whole trees c.goals.goal-index (omega (arith, long, c.goals-test.false)))
    (c.goals.invariant.right d asked trees p least z)
