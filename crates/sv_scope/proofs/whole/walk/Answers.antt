use Rattle.std.proofs.Common.{sym, ap, subst}
use Rattle.std.specs.Option.{option_copied}
use Rattle.sv_meaning.specs.Faults.{Judged, ◌>>=◌}
use Rattle.sv_hierarchy.specs.Scopes as m
use Rattle.sv_loops.specs.Answers.{Answers}
use Rattle.sv_scope.specs.Scoped.{IsWalked}
use Rattle.sv_walk.proofs.Opening.{Reached}
use Rattle.sv_levels.proofs.Wired.{passed_on}
use Rattle.sv_scope.proofs.whole.walk.Goals as goal

pub returns-in_err-file : goal.returns-in_err-file
returns-in_err-file c =
    let top = option_copied c.args.top in
    passed_on Reached _ (m.scopes c.args.source.now top) c.from_residual.result c.in_err-file.field-0.0 c.from_residual.ensures.1 (c.in_err-file.ensures top)

pub returns : goal.returns
returns c =
    let top = option_copied c.args.top in
    let read = c.in_ok-file.ensures in
    subst (λ (j : Judged m.State). Answers (λ (s : m.State) (u : Unit {0}). IsWalked s c.topped.new.walker) j c.topped.result)
    (sym (ap (λ (j : Judged (m.Library × m.State)). j >>= λ file. m.top_module file.0 top >>= λ k. m.from_top file.0 k file.1) read.read)) (c.topped.ensures read.all read.listed)
