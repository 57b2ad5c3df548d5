use Rattle.std.proofs.Common.{◌≡◌, List, get_or, take, false, sym, ◌∙◌, subst, arith}
use Rattle.std.specs.List.{All}
use Rattle.std.proofs.lemmas.List.{take_all, take_more, get_or_default}
use Rattle.std.proofs.lemmas.List.Elements.{All-push}
use Rattle.cnf.specs.declared.Dim.{Dim}
use Rattle.sat_search.proofs.start.two_of.Goals as goal

pub loop-b-init : goal.loop-b-init
loop-b-init c = λ k d h. absurd (omega arith)

pub loop-b-preserved : goal.loop-b-preserved
loop-b-preserved c =
    let clause : List Dim = c.args.clause.now in
    let a = c.first_of-a.result in
    let i = c.loop-b.b-index in
    let none : Dim = record { var = 0; negated = false } in
    let item : c.dim.result ≡ get_or clause i none = c.dim.ensures.same ∙ c.b-item.is ∙ get_or_default clause i c.b-item.result none (omega arith) in
    let same : get_or clause i none ≡ a = sym item ∙ c.if-differ.ensures ∙ c.dim-in-loop-b.ensures.same in
    subst (All (λ b. b ≡ a)) (sym (take_more clause i none (omega arith))) (All-push (λ b. b ≡ a) (take i clause) (get_or clause i none) c.loop-b.invariant same)

pub returns : goal.returns
returns c =
    subst (λ (a : Dim). All (λ b. b ≡ a) c.args.clause.now) c.first_of-a.ensures
    (subst (All (λ b. b ≡ c.first_of-a.result)) (take_all c.loop-b.b-index c.args.clause.now (omega arith)) c.loop-b.invariant)
