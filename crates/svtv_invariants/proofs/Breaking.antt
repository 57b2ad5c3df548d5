-- What breaks the claims' nodes breaks the claims, and the other way round.
use Rattle.std.proofs.Common.{◌↔◌, ℕ, Bool, List, get_or, refl, sym, ◌∙◌, subst}
use Rattle.std.specs.List.{AllZip}
use Rattle.cnf.specs.Clauses.{AllBelow, Solves}
use Rattle.cnf.specs.Formula.{Formula}
use Rattle.fourvec.specs.declared.Bit.{Bit}
use Rattle.goal_tree.specs.declared.tree.GoalTree.{GoalTree}
use Rattle.settling.specs.Settling.{Store}
use Rattle.sv_meaning.specs.Designs.{Design}
use Rattle.svex_arena.specs.Arenas.{IsArena}
use Rattle.svtv_induct.specs.Halves.{AreHalves, claims_at}
use Rattle.svtv_induct.specs.Inducting as nodes
use Rattle.svtv_induct.specs.declared.half.Half.{Half}
use Rattle.svtv_invariants.specs.Deciding.{AreClaimsOf, IsAskedBy, course_over}
use Rattle.svtv_invariants.proofs.Reading.{Tells, claim_alike, claim_tells, holds_at, holds_in, ones_at, ones_in, vectors_by, zip_over}
use Rattle.svtv_periods.specs.Invariants as of_design
use Rattle.svtv_periods.specs.Periods.{Course}
use Rattle.svtv_runs.specs.Runs.{Asked, IsLeastRun, IsLeastRunFrom}

module _ (d : Design) (reset period : List (List Bit) → Asked) (base step : Half) (at : ℕ) (tree : GoalTree) (arena : IsArena step.fsm.flat.arena)
    (reset_asks : IsAskedBy reset base.bound) (period_asks : IsAskedBy period step.bound) (halves : AreHalves base step at) (claims : AreClaimsOf tree step at) where
  abbrev pub course : Course
  course = course_over d reset period base.bound step.bound

  -- ---- claims

  pub step_tells : AllZip (Tells step.fsm.flat.arena step.bound.samples) tree.claims (claims_at step at)
  step_tells = zip_over _ (Tells step.fsm.flat.arena step.bound.samples) tree.claims (claims_at step at) (claims_at step at) refl
      (λ k x l t. claim_tells step.fsm.flat.arena step.bound.samples x (get_or (claims_at step at) k 0) arena t) claims

  pub base_tells : AllZip (Tells base.fsm.flat.arena base.bound.samples) tree.claims (claims_at base at)
  base_tells = zip_over _ (Tells base.fsm.flat.arena base.bound.samples) tree.claims (claims_at step at) (claims_at base at) halves.many
      (λ k x l t f.
      sym (halves.same k l (vectors_by f base.bound.samples))
      ∙ claim_tells step.fsm.flat.arena base.bound.samples x (get_or (claims_at step at) k 0) arena (claim_alike step.bound.samples base.bound.samples step.fsm.flat.arena x (get_or (claims_at step at) k 0) (sym halves.alike) t) f) claims

  -- ---- the base

  unfoldable pub base_breaks : (choice : List (List Bit)) → nodes.BreaksBase d base at choice → of_design.BreaksBase course tree choice
  base_breaks choice b = record {
    is = b.is;
    run = b.run;
    least = subst (λ asks. IsLeastRun d asks base.bound.phases b.run) (reset_asks choice b.is) b.least;
    breaks = λ h. b.breaks (ones_in base.fsm.flat.arena base.bound.samples b.run tree.claims (claims_at base at) base_tells h);
  }

  pub base_back : (choice : List (List Bit)) → of_design.BreaksBase course tree choice → nodes.BreaksBase d base at choice
  base_back choice b = record {
    is = b.is;
    run = b.run;
    least = subst (λ asks. IsLeastRun d asks base.bound.phases b.run) (sym (reset_asks choice b.is)) b.least;
    breaks = λ h. b.breaks (holds_in base.fsm.flat.arena base.bound.samples b.run tree.claims (claims_at base at) base_tells h);
  }

  -- ---- the step

  unfoldable pub step_breaks : (choice : List (List Bit)) (state : Store) → nodes.BreaksStep d step at choice state → of_design.BreaksStep course tree choice state
  step_breaks choice state b = record {
    is = b.is;
    even = b.even;
    before = holds_at step.fsm.flat.arena step.bound.samples state tree.claims (claims_at step at) step_tells b.before;
    run = b.run;
    least = subst (λ asks. IsLeastRunFrom d asks step.bound.phases state b.run) (period_asks choice b.is) b.least;
    breaks = λ h. b.breaks (ones_in step.fsm.flat.arena step.bound.samples b.run tree.claims (claims_at step at) step_tells h);
  }

  pub step_back : (choice : List (List Bit)) (state : Store) → of_design.BreaksStep course tree choice state → nodes.BreaksStep d step at choice state
  step_back choice state b = record {
    is = b.is;
    even = b.even;
    before = ones_at step.fsm.flat.arena step.bound.samples state tree.claims (claims_at step at) step_tells b.before;
    run = b.run;
    least = subst (λ asks. IsLeastRunFrom d asks step.bound.phases state b.run) (sym (period_asks choice b.is)) b.least;
    breaks = λ h. b.breaks (holds_in step.fsm.flat.arena step.bound.samples b.run tree.claims (claims_at step at) step_tells h);
  }

  -- ---- questions

  abbrev pub as_asked : nodes.Question → of_design.Question
  as_asked nodes.of_base = of_design.base
  as_asked nodes.of_step = of_design.step

  answered : (question : nodes.Question) → nodes.HasAnswer d base step at question → of_design.HasAnswer course tree (as_asked question)
  answered nodes.of_base a = (a.0, base_breaks a.0 a.1)
  answered nodes.of_step a = (a.0, a.1, step_breaks a.0 a.1 a.2)

  answered_back : (question : nodes.Question) → of_design.HasAnswer course tree (as_asked question) → nodes.HasAnswer d base step at question
  answered_back nodes.of_base a = (a.0, base_back a.0 a.1)
  answered_back nodes.of_step a = (a.0, a.1, step_back a.0 a.1 a.2)

  pub asks : (question : nodes.Question) (f : Formula) → AllBelow f.vars f.clauses → ((v : ℕ → Bool) × Solves v f.clauses) ↔ nodes.HasAnswer d base step at question → of_design.Asks course tree (as_asked question) f
  asks question f below asked = record {
    below = below;
    asked = (λ found. answered question (asked.0 found), λ found. asked.1 (answered_back question found));
  }
