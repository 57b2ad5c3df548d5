use Rattle.std.proofs.lemmas.Result.{IfOk-from_err}
use Rattle.std.proofs.Common.{subst, sym, arith}
use Rattle.dep_groups.specs.Groups.{IsGrouping}
use Rattle.dep_groups.specs.Searches.{state_of}
use Rattle.dep_groups.proofs.Searching.{ended}
use Rattle.dep_groups.proofs.finder.grouping.Goals as goal

pub returns : goal.returns
returns c =
    let e = ended c.args.all.now (state_of c.places.finder) c.places.invariant.search c.places.invariant.none (λ k lt. c.places.invariant.seen k (omega (arith, lt, c.places-test.false))) in
    subst (λ v. IsGrouping c.args.all.now v.items) (sym c.into_groups.ensures) e

pub returns-in_err-finder : goal.returns-in_err-finder
returns-in_err-finder c = IfOk-from_err _ _ c.from_residual.ensures.0

pub returns-in_err-search_from : goal.returns-in_err-search_from
returns-in_err-search_from c = IfOk-from_err _ _ c.from_residual-in_err-search_from.ensures.0
