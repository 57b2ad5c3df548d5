use Rattle.std.proofs.Common.{◌≡◌, ◌-◌, ◌^◌, ◌<◌, ◌≤◌, take, get_or, arith, false}
use Rattle.std.specs.List.{All}
use Rattle.std.proofs.lemmas.List.{take_more, take_all}
use Rattle.std.proofs.lemmas.List.Elements.{All-push, All-map, All-more}
use Rattle.refute_check.proofs.Widths.{Below, wider, wider_each, clause_below}
use Rattle.refute_check.proofs.checker.width_of.Goals as goal
use Rattle.refute_check.proofs.checker.width_of.Goals.{then-d-width, else-d-width}

pub loop-d-preserved : goal.loop-d-preserved
loop-d-preserved c =
    let w0 = c.loop-d.width in
    let le : w0 ≤ c.if-d-width.width = elim c.if-d-width.branch [ then-d-width w ↦ omega arith | else-d-width w ↦ omega arith ] in
    let d = get_or c.deref-d-items.result.now c.loop-d.d-index (record { var = 0; negated = false }) in
    let above : c.if-d-width.width < 2 ^ 64 - 1 → d.var < c.if-d-width.width = λ h. elim c.if-d-width.branch [ then-d-width w ↦ omega arith | else-d-width w ↦ omega arith ] in
    record {
      least = λ bound all.
          let here : d.var < bound = clause_below bound c.args.clauses.now c.loop-clause.clause-index c.clause-item.result c.deref-d-items.result.now c.loop-d.d-index (record { var = 0; negated = false }) all c.loop-clause-test.true c.clause-item.is c.deref-d-items.ensures.value c.loop-d-test.true in
          let before : w0 ≤ bound = c.loop-d.invariant.least bound all in
          elim c.if-d-width.branch [ then-d-width w ↦ omega arith | else-d-width w ↦ omega arith ];
      before = λ h. wider_each _ _ _ le (c.loop-d.invariant.before (omega arith));
      here = λ h. All-more (Below c.if-d-width.width) c.deref-d-items.result.now c.loop-d.d-index (record { var = 0; negated = false }) c.loop-d-test.true (wider _ _ _ le (c.loop-d.invariant.here (omega arith))) (above h);
    }

pub loop-clause-preserved : goal.loop-clause-preserved
loop-clause-preserved c =
    let v = c.clause-item.result in
    let whole : take c.loop-d.d-index c.deref-d-items.result.now ≡ c.deref-d-items.result.now = take_all _ _ c.loop-d-test.false in
    let here : c.loop-d.width < 2 ^ 64 - 1 → All (Below c.loop-d.width) v.items = λ h. rw (← c.deref-d-items.ensures.value) (rw whole at (c.loop-d.invariant.here h)) in
    record {
      least = c.loop-d.invariant.least;
      before = λ h. rw (take_more c.args.clauses.now c.loop-clause.clause-index v c.loop-clause-test.true)
          (All-push (λ v. All (Below c.loop-d.width) v.items) (take c.loop-clause.clause-index c.args.clauses.now) (get_or c.args.clauses.now c.loop-clause.clause-index v) (c.loop-d.invariant.before h)
          (rw (← c.clause-item.is) (here h)));
    }

pub returns-clause-above : goal.returns-clause-above
returns-clause-above c = λ h.
    All-map (All (Below c.loop-clause.width)) (λ v. v.items) c.args.clauses.now
    (let all : take c.loop-clause.clause-index c.args.clauses.now ≡ c.args.clauses.now = take_all _ _ c.loop-clause-test.false in rw all at (c.loop-clause.invariant.before h))
