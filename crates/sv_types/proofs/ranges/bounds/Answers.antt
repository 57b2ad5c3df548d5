use Rattle.std.proofs.Common.{◌∙◌, ℤ, IsTrue, Ok, subst, sym}
use Rattle.std.proofs.lemmas.Result.{err_from_is_err_and}
use Rattle.sv_meaning.specs.Forms.{bound}
use Rattle.sv_meaning.specs.Meanings.{is_bound}
use Rattle.sv_names.specs.Names.{constants_are}
use Rattle.sv_names.proofs.Sound.{same_bound}
use Rattle.sv_types.proofs.Judging.{both_left, both_ok, both_right}
use Rattle.sv_types.proofs.Ranging.{bound_refused}
use Rattle.sv_types.proofs.ranges.bounds.Goals as goal

pub returns-in_err-left : goal.returns-in_err-left
returns-in_err-left c =
    let p = err_from_is_err_and c.from_residual.result c.from_residual.ensures.1 in
    let at = constants_are c.args.names.now in
    let r = c.args.range.now in
    rw (p.1, p.2) (both_left (bound at r.place r.left) (bound at r.place r.right) c.in_err-left.field-0.0 (bound_refused (bound at r.place r.left) c.bound.result c.in_err-left.field-0.0 c.in_err-left.was c.bound.ensures))

pub returns-in_err-right : goal.returns-in_err-right
returns-in_err-right c =
    let p = err_from_is_err_and c.from_residual-in_err-right.result c.from_residual-in_err-right.ensures.1 in
    let at = constants_are c.args.names.now in
    let r = c.args.range.now in
    rw (p.1, p.2) (both_right (bound at r.place r.left) (bound at r.place r.right) c.in_err-right.field-0.0 (bound_refused (bound at r.place r.right) c.bound-2.result c.in_err-right.field-0.0 c.in_err-right.was c.bound-2.ensures))

pub new-requires-clause-left : goal.new-requires-clause-left
new-requires-clause-left c = subst (λ (n : ℤ). IsTrue (is_bound n)) (sym (same_bound c.in_ok-left.left c.in_ok-left.ensures.bound)) c.in_ok-left.ensures.bound

pub new-requires-clause-right : goal.new-requires-clause-right
new-requires-clause-right c = subst (λ (n : ℤ). IsTrue (is_bound n)) (sym (same_bound c.in_ok-right.right c.in_ok-right.ensures.bound)) c.in_ok-right.ensures.bound

pub returns : goal.returns
returns c =
    let at = constants_are c.args.names.now in
    let r = c.args.range.now in
    let left = sym (c.new.ensures.left ∙ same_bound c.in_ok-left.left c.in_ok-left.ensures.bound) in
    let right = sym (c.new.ensures.right ∙ same_bound c.in_ok-right.right c.in_ok-right.ensures.bound) in
    both_ok (bound at r.place r.left) (bound at r.place r.right) c.in_ok-left.left c.in_ok-right.right c.in_ok-left.ensures.is c.in_ok-right.ensures.is ∙ λ i. Ok (left i, right i)
