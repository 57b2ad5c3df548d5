-- What is said of the design, for what was found of the nodes.
use Rattle.std.proofs.Common.{◌≡◌, ℕ, List, sym, ap, ◌∙◌, subst, Option, Some, Result, Ok, Err, IfOk}
use Rattle.driver_resolve.specs.Drivers.{widths_of}
use Rattle.event_nets.specs.Tables.{store_of}
use Rattle.flat_net.specs.declared.flat.Flat.{Flat}
use Rattle.fourvec.specs.declared.Bit.{Bit}
use Rattle.fourvec.specs.declared.Bit.TheVariants.{Unknown}
use Rattle.goal_tree.specs.declared.tree.GoalTree.{GoalTree}
use Rattle.refute_check.specs.Fresh.{IsFresh}
use Rattle.settling.specs.Settling.{Store}
use Rattle.sv_meaning.specs.Designs.{Design}
use Rattle.sv_outside.specs.declared.text.Signal.{Signal}
use Rattle.svex_arena.specs.Arenas.{IsArena}
use Rattle.svtv_induct.specs.Halves.{AreHalves}
use Rattle.svtv_induct.specs.Inducting as nodes
use Rattle.svtv_induct.specs.declared.half.Half.{Half}
use Rattle.svtv_induct.specs.declared.half.Inducted.{Inducted}
use Rattle.svtv_induct.specs.declared.half.Inducted.TheVariants as found
use Rattle.svtv_invariants.specs.Deciding.{AreClaimsOf, AreShown, Fits, IsAskedBy, IsDecided, Shows, course_over, held_of, verdict_from}
use Rattle.svtv_invariants.specs.declared.deciding.Decided.{Decided}
use Rattle.svtv_invariants.proofs.Breaking.{asks, base_back, base_breaks, step_back, step_breaks, as_asked}
use Rattle.svtv_least.specs.Passed.{IsElaborated}
use Rattle.svtv_periods.specs.Invariants.{IsRight}
use Rattle.svtv_periods.specs.Periods.{Course}
use Rattle.svtv_report.specs.declared.held.Held.{Held}
use Rattle.svtv_runs.specs.Runs.{Asked}

-- the vectors of a failure are as wide as the variables and the wires
pub found_fits : (flat : Flat) (base step : Half) (f : Inducted) → flat.wires ≡ step.fsm.flat.wires → nodes.HasVectors base step f → Fits flat base.bound step.bound f
found_fits flat base step found.Invariant wires h = tt
found_fits flat base step (found.BaseFails choice) wires h = h.widths
found_fits flat base step (found.StepFails choice state) wires h = (h.0.widths, h.1 ∙ ap (λ (ws : List Signal). widths_of ws) (sym wires))
found_fits flat base step (found.Undecided formula log) wires h = tt

-- X at every bit
abbrev no_state : Store
no_state n k = Unknown

-- the valuation with which a period that fails begins
abbrev state_in : Inducted → Store
state_in found.Invariant = no_state
state_in (found.BaseFails choice) = no_state
state_in (found.StepFails choice state) = store_of state.values
state_in (found.Undecided formula log) = no_state

module _ (d : Design) (reset period : List (List Bit) → Asked) (flat : Flat) (base step : Half) (at : ℕ) (tree : GoalTree) (arena : IsArena step.fsm.flat.arena) (elaborated : IsElaborated d flat)
    (reset_asks : IsAskedBy reset base.bound) (period_asks : IsAskedBy period step.bound) (halves : AreHalves base step at) (claims : AreClaimsOf tree step at) where
  abbrev c : Course
  c = course_over d reset period base.bound step.bound

  right : (budget : Option ℕ) (f : Inducted) → nodes.IsRight d base step at budget f → IsRight c tree budget (verdict_from (state_in f) (held_of f))
  right budget found.Invariant h = record {
    base = λ choice b. h.0 choice (base_back d reset period base step at tree arena reset_asks period_asks halves claims choice b);
    step = λ choice state b. h.1 choice state (step_back d reset period base step at tree arena reset_asks period_asks halves claims choice state b);
  }
  right budget (found.BaseFails choice) h = base_breaks d reset period base step at tree arena reset_asks period_asks halves claims choice h
  right budget (found.StepFails choice state) h = step_breaks d reset period base step at tree arena reset_asks period_asks halves claims choice (store_of state.values) h.1
  right budget (found.Undecided formula log) h = record {
    given = h.left.given ∙ ap Some (sym h.left.fresh.count);
    question = as_asked d reset period base step at tree arena reset_asks period_asks halves claims h.question;
    formula = formula;
    asks = asks d reset period base step at tree arena reset_asks period_asks halves claims h.question formula h.left.below h.left.asked;
    log = log;
    fresh = subst (λ n. IsFresh formula log n) (sym h.left.fresh.count) h.left.fresh;
  }

  shows : (budget : Option ℕ) (f : Inducted) (x : Decided) → nodes.IsRight d base step at budget f → AreShown flat base.bound step.bound f x → Shows c tree (verdict_from (state_in f) (held_of f)) x.before x.shown
  unfolding base_breaks step_breaks
  shows budget found.Invariant x h s = tt
  shows budget (found.BaseFails choice) x h s = record {
    is = base_breaks d reset period base step at tree arena reset_asks period_asks halves claims choice h;
    after = s d elaborated h.run h.least;
  }
  shows budget (found.StepFails choice state) x h s = record {
    is = step_breaks d reset period base step at tree arena reset_asks period_asks halves claims choice (store_of state.values) h.1;
    before = s.0;
    after = s.1 d elaborated h.1.run h.1.least;
  }
  shows budget (found.Undecided formula log) x h s = tt

  pub is_decided : {E : Type 0} (budget : Option ℕ) (f : Inducted) (r : Result Decided E) → nodes.IsRight d base step at budget f → IfOk r (λ x. x.verdict ≡ held_of f) → IfOk r (AreShown flat base.bound step.bound f)
      → IfOk r (IsDecided c tree budget)
  is_decided budget f (Ok x) h e s = record {
    state = state_in f;
    right = subst (λ (v : Held). IsRight c tree budget (verdict_from (state_in f) v)) (sym e) (right budget f h);
    shows = subst (λ (v : Held). Shows c tree (verdict_from (state_in f) v) x.before x.shown) (sym e) (shows budget f x h s);
  }
  is_decided budget f (Err y) h e s = tt
