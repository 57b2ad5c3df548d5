use Rattle.std.proofs.Common.{◌≡◌, ℕ, sym, ap, subst}
use Rattle.std.specs.Option.{option_copied}
use Rattle.sv_meaning.specs.Faults.{Judged, ◌>>=◌}
use Rattle.sv_hierarchy.specs.Scopes as m
use Rattle.sv_loops.specs.Answers.{Answers}
use Rattle.sv_modules.specs.Listed.{modules_of}
use Rattle.sv_levels.specs.Library.{known_is}
use Rattle.sv_scope.specs.Scoped.{IsWalked}
use Rattle.sv_walk.specs.Walks.{state_of}
use Rattle.sv_walk.proofs.Opening.{Reached}
use Rattle.sv_levels.proofs.Wired.{passed_on, refused_first}
use Rattle.sv_scope.proofs.WholeDesign.{top_at, top_is_there}
use Rattle.sv_scope.proofs.whole.topped.Goals as goal

pub returns-in_err-number : goal.returns-in_err-number
returns-in_err-number c = λ all h.
    let st = state_of c.args.walker.now c.args.file.now in
    let judged = m.top_module all (option_copied c.args.top) in
    let e = c.in_err-number.field-0.0 in
    passed_on Reached _ (judged >>= λ k. m.from_top all k st) c.from_residual.result e c.from_residual.ensures.1
    (refused_first (λ (x : m.Known) (n : ℕ). x.number ≡ n) Reached judged (λ k. m.from_top all k st) e (c.in_err-number.ensures all h.modules))

pub returns-in-Some : goal.returns-in-Some
returns-in-Some c = λ all h.
    let st = state_of c.args.walker.now c.args.file.now in
    let top = option_copied c.args.top in
    let k = known_is c.in-Some.known in
    let named = top_at (modules_of c.args.library.now.modules) all top c.in_ok-number.number k h.modules (c.in_ok-number.ensures all h.modules) (sym (c.in-Some.ensures all h)) in
    subst (λ (j : Judged m.State). Answers (λ (s : m.State) (u : Unit {0}). IsWalked s c.from_top.new.walker) j c.from_top.result) (sym (ap (λ (j : Judged m.Known). j >>= λ x. m.from_top all x st) named)) (c.from_top.ensures all h)

pub returns-in-None : goal.returns-in-None
returns-in-None c = λ all h.
    absurd (top_is_there (modules_of c.args.library.now.modules) all (option_copied c.args.top) c.in_ok-number.number h.modules (c.in_ok-number.ensures all h.modules) (c.in-None.ensures all h))
