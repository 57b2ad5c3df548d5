use Rattle.std.proofs.Common.{[], get_or, sym, ◌∙◌, subst, arith}
use Rattle.goal_text.specs.Nodes.{IsGoal}
use Rattle.goal_text.specs.declared.goal.Goal.{Goal}
use Rattle.svtv_induct.specs.Halves.{AreHalves, IsHalf}
use Rattle.svtv_induct.specs.declared.half.Half.{Half}
use Rattle.svtv_invariants.specs.Deciding.{AreClaimsOf, IsAskedBy, IsDecided, course_over}
use Rattle.svtv_invariants.specs.Finding.{AreDecided, IsOneMore}
use Rattle.svtv_invariants.proofs.Halving.{claims_of}
use Rattle.svtv_invariants.proofs.Keeping.{more_decided, more_long, more_names, no_tree, take_whole, zip_at, zip_long}
use Rattle.svtv_invariants.proofs.finding.decide_all.Goals as goal

pub decide_invariant-requires-clause-base : goal.decide_invariant-requires-clause-base
decide_invariant-requires-clause-base c =
    subst (λ (h : Half). IsHalf h c.invariants.at) (sym c.invariants.invariant.base) (c.requires.halves.is_base c.invariants.at c.invariants-test.true)

pub decide_invariant-requires-clause-step : goal.decide_invariant-requires-clause-step
decide_invariant-requires-clause-step c =
    subst (λ (h : Half). IsHalf h c.invariants.at) (sym c.invariants.invariant.step) (c.requires.halves.is_step c.invariants.at c.invariants-test.true)

pub decide_invariant-requires-clause-halves : goal.decide_invariant-requires-clause-halves
decide_invariant-requires-clause-halves c =
    subst (λ (h : Half). AreHalves h c.invariants.step c.invariants.at) (sym c.invariants.invariant.base)
    (subst (λ (h : Half). AreHalves c.args.base.now h c.invariants.at) (sym c.invariants.invariant.step) (c.requires.halves.both c.invariants.at c.invariants-test.true))

pub invariants-preserved : goal.invariants-preserved
invariants-preserved c =
    let inv = c.invariants.invariant in
    let i = c.invariants.at in
    let goals = c.args.goals.now in
    let item = c.index-goals-at.result in
    let flat = c.args.flat.now in
    let base = c.args.base.now in
    let step = c.args.step.now in
    let budget = c.args.budget in
    let found = c.in_ok-decided.decided in
    let more : IsOneMore c.invariants.found item.name found c.keep.new.found = subst (λ (g : Goal). IsOneMore c.invariants.found g.name found c.keep.new.found) (sym c.index-goals-at.is) c.in_ok-keep.ensures in
    record {
      base = c.decide_invariant.ensures.base_same ∙ inv.base;
      step = c.decide_invariant.ensures.step_same ∙ inv.step;
      names = more_names (λ (g : Goal). g.name) goals i item c.invariants.found c.keep.new.found found c.invariants-test.true c.index-goals-at.is inv.names more;
      long = more_long c.invariants.found c.keep.new.found item.name found inv.long more;
      right = λ d reset period trees elaborated reset_asks period_asks z.
          let tree = get_or trees i no_tree in
          let here = subst (λ (g : Goal). IsGoal [] step.bound.samples flat.arena tree g) (sym c.index-goals-at.is) (zip_at (IsGoal [] step.bound.samples flat.arena) trees goals i no_tree item z c.invariants-test.true) in
          let claims : AreClaimsOf tree step i = claims_of flat goals base step tree item i c.requires.halves c.invariants-test.true c.index-goals-at.is here in
          let said = c.in_ok-decided.ensures.right d reset period tree elaborated in
          let over_base = subst (λ (h : Half). IsAskedBy reset h.bound → IsAskedBy period c.invariants.step.bound → AreClaimsOf tree c.invariants.step i → IsDecided (course_over d reset period h.bound c.invariants.step.bound) tree budget found)
          inv.base said in
          let over_both = subst (λ (h : Half). IsAskedBy reset base.bound → IsAskedBy period h.bound → AreClaimsOf tree h i → IsDecided (course_over d reset period base.bound h.bound) tree budget found) inv.step over_base in
          let long = zip_long (IsGoal [] step.bound.samples flat.arena) trees goals z in
          more_decided (course_over d reset period base.bound step.bound) trees budget i c.invariants.found c.keep.new.found item.name found (omega (arith, long, c.invariants-test.true))
          (inv.right d reset period trees elaborated reset_asks period_asks z) (over_both reset_asks period_asks claims) more;
    }

pub returns-clause-right : goal.returns-clause-right
returns-clause-right c d reset period trees elaborated reset_asks period_asks z =
    let long = zip_long (IsGoal [] c.args.step.now.bound.samples c.args.flat.now.arena) trees c.args.goals.now z in
    subst (λ ts. AreDecided (course_over d reset period c.args.base.now.bound c.args.step.now.bound) ts c.args.budget c.invariants.found)
    (take_whole trees c.invariants.at (omega (arith, long, c.invariants-test.false))) (c.invariants.invariant.right d reset period trees elaborated reset_asks period_asks z)
