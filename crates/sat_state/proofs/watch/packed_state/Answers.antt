use Rattle.std.proofs.Common.{◌≡◌, ℕ, ◌<◌, ◌+◌, ◌++◌, ◌∷◌, [], List, length, get_or, take, drop, ◌∙◌, subst}
use Rattle.std.proofs.lemmas.List.{take_all, get_or_default}
use Rattle.cnf.specs.declared.Dim.{Dim}
use Rattle.cnf.specs.Clauses.{valuation}
use Rattle.cnf.specs.State.{IsNeither, Looked}
use Rattle.cnf.proofs.Walks.{no_dim, looked_more, looked_over}
use Rattle.sat_state.proofs.watch.packed_state.Goals as goal

-- the literal that was looked at
at_place : (clause : List Dim) (i : ℕ) (d item : Dim) → i < length clause → d ≡ item → item ≡ get_or clause i item → d ≡ get_or clause i no_dim
at_place clause i d item lt e is = e ∙ is ∙ get_or_default clause i item no_dim lt

pub loop-d-preserved : goal.loop-d-preserved
loop-d-preserved c =
    let i : ℕ = c.loop-d.d-index in
    let clause : List Dim = c.args.clause.now in
    let seen : Looked (valuation c.args.values.now) (take i clause ++ c.dim.result ∷ []) c.look.new.found = c.if-not-look.ensures.on _ c.loop-d.invariant in
    looked_more (valuation c.args.values.now) clause i _ c.loop-d-test.true
    (subst (λ (d : Dim). Looked (valuation c.args.values.now) (take i clause ++ d ∷ []) c.look.new.found) (at_place clause i _ _ c.loop-d-test.true c.dim.ensures.same c.d-item.is) seen)

pub returns-then-not-look : goal.returns-then-not-look
returns-then-not-look c =
    let i : ℕ = c.loop-d.d-index in
    let clause : List Dim = c.args.clause.now in
    let over : IsNeither (valuation c.args.values.now) (take i clause ++ c.dim.result ∷ drop (i + 1) clause) = c.if-not-look.ensures.over _ (drop (i + 1) clause) c.loop-d.invariant in
    looked_over (valuation c.args.values.now) clause i c.loop-d-test.true
    (subst (λ (d : Dim). IsNeither (valuation c.args.values.now) (take i clause ++ d ∷ drop (i + 1) clause)) (at_place clause i _ _ c.loop-d-test.true c.dim.ensures.same c.d-item.is) over)

pub returns : goal.returns
returns c = c.looked.ensures (valuation c.args.values.now) c.args.clause.now
    (subst (λ (xs : List Dim). Looked (valuation c.args.values.now) xs c.loop-d.found) (take_all _ _ c.loop-d-test.false) c.loop-d.invariant)
