use Rattle.std.proofs.Common.{IfOk, sym, subst}
use Rattle.svtv_induct.specs.declared.half.Half.{Half}
use Rattle.svtv_invariants.specs.Deciding.{AreShown, Fits}
use Rattle.svtv_invariants.proofs.Saying.{found_fits, is_decided}
use Rattle.svtv_invariants.proofs.deciding.decide_invariant.Goals as goal

pub said-requires-clause-fits : goal.said-requires-clause-fits
said-requires-clause-fits c =
    let flat = c.args.flat.now in
    let f = c.in_ok-found.found in
    subst (λ (h : Half). Fits flat h.bound c.induct.new.step.bound f) (sym c.induct.ensures.base_same)
    (subst (λ (h : Half). Fits flat c.args.base.now.bound h.bound f) (sym c.induct.ensures.step_same) (found_fits flat c.args.base.now c.args.step.now f c.requires.step_of.wires c.in_ok-found.ensures.vectors))

pub returns-clause-right : goal.returns-clause-right
returns-clause-right c d reset period tree elaborated reset_asks period_asks claims =
    let flat = c.args.flat.now in
    let base = c.args.base.now in
    let step = c.args.step.now in
    let f = c.in_ok-found.found in
    let shown = subst (λ (h : Half). IfOk c.said.result (AreShown flat base.bound h.bound f)) c.induct.ensures.step_same
    (subst (λ (h : Half). IfOk c.said.result (AreShown flat h.bound c.induct.new.step.bound f)) c.induct.ensures.base_same c.said.ensures.shown) in
    is_decided d reset period flat base step c.args.at tree c.len-2.ensures.arena elaborated reset_asks period_asks c.requires.halves claims c.args.budget f c.said.result
    (c.in_ok-found.ensures.right d flat flat elaborated elaborated c.requires.base_of c.requires.step_of) c.said.ensures.verdict shown
