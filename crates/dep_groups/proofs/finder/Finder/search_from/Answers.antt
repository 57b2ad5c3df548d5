use Rattle.std.proofs.lemmas.Result.{IfOk-from_err}
use Rattle.std.proofs.Common.{refl}
use Rattle.dep_groups.specs.Searches.{state_of, stage_at}
use Rattle.dep_groups.proofs.Searching.{begins}
use Rattle.dep_groups.proofs.finder.Finder.search_from.Goals as goal

pub steps-init : goal.steps-init
steps-init c =
    let s = state_of c.args.self.now in
    let b = begins c.args.all.now s (state_of c.begin.new.self) c.args.place (stage_at s c.args.place) c.requires.search c.requires.none c.requires.within refl c.in_ok-begin.ensures in
    record { search = b.search; seen = b.seen; kept = b.kept }

pub returns-in_err-advance-clause-kept : goal.returns-in_err-advance-clause-kept
returns-in_err-advance-clause-kept c = IfOk-from_err _ _ c.from_residual-in_err-advance.ensures.0

pub returns-in_err-advance-clause-none : goal.returns-in_err-advance-clause-none
returns-in_err-advance-clause-none c = IfOk-from_err _ _ c.from_residual-in_err-advance.ensures.0

pub returns-in_err-advance-clause-search : goal.returns-in_err-advance-clause-search
returns-in_err-advance-clause-search c = IfOk-from_err _ _ c.from_residual-in_err-advance.ensures.0

pub returns-in_err-advance-clause-seen : goal.returns-in_err-advance-clause-seen
returns-in_err-advance-clause-seen c = IfOk-from_err _ _ c.from_residual-in_err-advance.ensures.0

pub returns-in_err-begin-clause-kept : goal.returns-in_err-begin-clause-kept
returns-in_err-begin-clause-kept c = IfOk-from_err _ _ c.from_residual.ensures.0

pub returns-in_err-begin-clause-none : goal.returns-in_err-begin-clause-none
returns-in_err-begin-clause-none c = IfOk-from_err _ _ c.from_residual.ensures.0

pub returns-in_err-begin-clause-search : goal.returns-in_err-begin-clause-search
returns-in_err-begin-clause-search c = IfOk-from_err _ _ c.from_residual.ensures.0

pub returns-in_err-begin-clause-seen : goal.returns-in_err-begin-clause-seen
returns-in_err-begin-clause-seen c = IfOk-from_err _ _ c.from_residual.ensures.0
