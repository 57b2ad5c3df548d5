use Rattle.std.proofs.Common.{Result, Ok, refl, sym, subst}
use Rattle.sv_outside.specs.declared.refusal.TextErr.{TextErr}
use Rattle.std.specs.Option.{option_copied}
use Rattle.sv_hierarchy.specs.Scopes as m
use Rattle.sv_loops.specs.Answers.{Answers}
use Rattle.sv_scope.specs.Scoped.{IsWalked}
use Rattle.sv_walk.specs.declared.walker.Walker.{Walker}
use Rattle.sv_levels.proofs.Wired.{passed_on}
use Rattle.sv_scope.proofs.WholeDesign.{ok_walked, scoped_ok}
use Rattle.sv_scope.proofs.whole.scopes.Goals as goal

pub returns-in_err-walker : goal.returns-in_err-walker
returns-in_err-walker c =
    let judged = m.scopes c.args.source.now (option_copied c.args.top) in
    let walks = λ (s : m.State) (u : Unit {0}). IsWalked s c.walk-done.new.walker in
    passed_on walks _ judged c.from_residual.result c.in_err-walker.field-0.0 c.from_residual.ensures.1
    (subst (λ (r : Result (Unit {0}) TextErr). Answers walks judged r) c.in_err-walker.ensures.failed c.walk-done.ensures)

pub returns : goal.returns
returns c =
    let judged = m.scopes c.args.source.now (option_copied c.args.top) in
    let walks = λ (s : m.State) (u : Unit {0}). IsWalked s c.walk-done.new.walker in
    let pair = c.in_ok-walker.ensures.pair in
    let found = subst (λ (w : Walker). Answers (λ (st : m.State) (v : Walker). IsWalked st v) judged (Ok w)) (sym pair.0)
    (ok_walked judged c.walk-done.new.walker _ (subst (λ (r : Result (Unit {0}) TextErr). Answers walks judged r) pair.1 c.walk-done.ensures)) in
    scoped_ok judged c.in_ok-walker.walker _ found refl refl refl refl
