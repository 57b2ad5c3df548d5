use Rattle.std.proofs.Common.{◌≡◌, ◌-◌, ℕ, length, List, Option, None, drop, take, arith, subst, Some, ◌<◌}
use Rattle.std.proofs.lemmas.List.{take_all, length-drop}
use Rattle.cnf.specs.declared.Dim.{Dim}
use Rattle.cnf.specs.Clauses.{valuation}
use Rattle.sat_state.specs.Visited.{IsFreeAt}
use Rattle.sat_state.proofs.Places.{free_rest, free_later}
use Rattle.std.proofs.lemmas.List.Elements.{All-take, All-drop}
use Rattle.sat_state.proofs.watch.other_free.Goals as goal

pub returns-in-None : goal.returns-in-None
returns-in-None c =
    let a = valuation c.args.values.now in
    let clause : List Dim = c.args.clause.now in
    let start = c.within-start.result in
    let whole : take (length clause - start) (drop start clause) ≡ drop start clause = take_all (length clause - start) (drop start clause) (let e = length-drop start clause in omega arith) in
    let later : IsFreeAt a (drop start clause) c.args.other None = subst (λ (l : List Dim). IsFreeAt a l c.args.other None) whole
    (subst (λ (o : Option ℕ). IsFreeAt a (take (length clause - start) (drop start clause)) c.args.other o) c.in-None.is c.first_free.ensures) in
    free_rest a clause c.args.other start c.first_free-in-None.result c.within-start.ensures later c.first_free-in-None.ensures

pub returns-in-Some : goal.returns-in-Some
returns-in-Some c =
    let a = valuation c.args.values.now in
    let clause : List Dim = c.args.clause.now in
    let start = c.within-start.result in
    let whole : take (length clause - start) (drop start clause) ≡ drop start clause = take_all (length clause - start) (drop start clause) (let e = length-drop start clause in omega arith) in
    free_later a clause c.args.other start c.in-Some.i c.within-start.ensures (subst (λ (l : List Dim). IsFreeAt a l c.args.other (Some c.in-Some.i)) whole c.in-Some.ensures)

pub first_free-requires : goal.first_free-requires
first_free-requires c =
    let start = c.within-start.result in
    All-take (λ (d : Dim). d.var < length c.args.values.now) (length c.args.clause.now - start) (drop start c.args.clause.now)
    (All-drop (λ (d : Dim). d.var < length c.args.values.now) start c.args.clause.now c.requires)

pub first_free-requires-in-None : goal.first_free-requires-in-None
first_free-requires-in-None c = All-take (λ (d : Dim). d.var < length c.args.values.now) c.within-start.result c.args.clause.now c.requires
