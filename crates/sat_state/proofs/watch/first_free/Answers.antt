use Rattle.std.proofs.Common.{◌≡◌, ◌⊎◌, subst, arith, List, get_or, take, sym, rules}
use Rattle.std.specs.List.{All}
use Rattle.std.proofs.lemmas.List.{take_all, take_more}
use Rattle.cnf.specs.Clauses.{IsFalsified, valuation}
use Rattle.std.proofs.lemmas.List.Elements.{All-push}
use Rattle.cnf.specs.declared.Dim.{Dim}
use Rattle.sat_state.proofs.watch.first_free.Goals as goal
use Rattle.sat_state.proofs.watch.first_free.Goals.{else-not-is_false-via-then-not-is_false+else-ne, else-not-is_false-via-else-not-is_false}

pub loop-i-init : goal.loop-i-init
loop-i-init c = λ k d h. absurd (omega arith)

pub returns : goal.returns
returns c = subst (All (λ e. (e ≡ c.args.other) ⊎ IsFalsified (valuation c.args.values.now) e)) (take_all c.loop-i.i c.args.clause.now c.loop-i-test.false) c.loop-i.invariant

pub is_false-requires : goal.is_false-requires
is_false-requires c = rw c.index-clause-i.is (c.requires c.loop-i.i c.index-clause-i.result c.loop-i-test.true)

pub loop-i-preserved : goal.loop-i-preserved
loop-i-preserved c =
    let P : Dim → Type 0 = λ e. (e ≡ c.args.other) ⊎ IsFalsified (valuation c.args.values.now) e in
    let clause : List Dim = c.args.clause.now in
    let i = c.loop-i.i in
    let d : Dim = c.index-clause-i.result in
    let here : P d = elim c.else-not-is_false.branch [
      | else-not-is_false-via-then-not-is_false+else-ne w ↦ search rules
      | else-not-is_false-via-else-not-is_false w ↦ search rules
    ] in
    subst (All P) (sym (take_more clause i d c.loop-i-test.true)) (All-push P (take i clause) (get_or clause i d) c.loop-i.invariant (subst P c.index-clause-i.is here))
