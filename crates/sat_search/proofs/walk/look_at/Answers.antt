use Rattle.std.proofs.Common.{◌≡◌, ◌<◌, ◌∙◌, List, length, sym, subst, arith}
use Rattle.std.specs.List.{Contains}
use Rattle.std.proofs.lemmas.List.{get_or_default}
use Rattle.cnf.specs.declared.Dim.{Dim}
use Rattle.sat_state.specs.declared.watch.Pair.{Pair}
use Rattle.sat_state.specs.Watch.{Watches, no_pair, pair_at}
use Rattle.sat_search.proofs.walk.look_at.Goals as goal

pub look_again-requires-clause-inside : goal.look_again-requires-clause-inside
look_again-requires-clause-inside c = λ x watches.
    let k = c.args.watch.now.clause in
    let p : Pair = c.index-pairs-watch.result in
    let lt : k < length c.args.pairs.now = (let e = c.requires.pairs.count in omega (arith, c.requires.good.0, e)) in
    let at : p ≡ pair_at c.args.pairs.now k = c.index-pairs-watch.is ∙ get_or_default c.args.pairs.now k p no_pair lt in
    subst (λ (cl : List Dim). Contains cl x) (sym c.clause-clause.ensures) (c.requires.pairs.inside k x c.requires.good.0 (subst (λ (q : Pair). Watches q x) at watches))
