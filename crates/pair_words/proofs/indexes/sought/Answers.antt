use Rattle.std.proofs.Common.{◌≡◌, ℕ, ◌*◌, ◌<◌, List, length, ap, sym, subst, ◌∙◌, arith}
use Rattle.std.proofs.lemmas.List.{length-map}
use Rattle.std.proofs.lemmas.Result.{IfOk-from_err}
use Rattle.aig.specs.declared.gate.Lit.{Lit}
use Rattle.aig.specs.Graph.{holds, IsIn}
use Rattle.aig.proofs.Growth.{Obeys-older}
use Rattle.aig_words.proofs.Grown.{Grew-then, Grew-wider, IsIn-later, if_ok}
use Rattle.pair_words.specs.declared.pairs.Pair.{Pair}
use Rattle.pair_words.specs.Truths.{truths}
use Rattle.pair_words.specs.Starts.{back_of, far_of}
use Rattle.pair_words.proofs.Growing.{wired-later}
use Rattle.pair_words.proofs.Truths.{uppers_in}
use Rattle.pair_words.proofs.indexes.sought.Goals as goal

pub index_of-requires-clause-at_in : goal.index_of-requires-clause-at_in
index_of-requires-clause-at_in c =
    rw (c.deref.ensures.value, c.in_ok-x.ensures) (uppers_in _ c.args.at.now (wired-later c.args.aig.now _ c.args.at.now c.in_ok-fine.ensures.grew.grows c.requires.at_in))

pub returns-in_err-x-clause-grew : goal.returns-in_err-x-clause-grew
returns-in_err-x-clause-grew c = let t : ℕ = length c.args.at.now in Grew-wider (4 * t) (14 * t) _ _ (omega arith) c.in_ok-fine.ensures.grew

pub returns-in_err-fine-clause-grew : goal.returns-in_err-fine-clause-grew
returns-in_err-fine-clause-grew c = let t : ℕ = length c.args.at.now in Grew-wider (4 * t) (14 * t) _ _ (omega arith) c.in_err-fine.ensures.grew

pub returns-in_err-fine-clause-fine_in : goal.returns-in_err-fine-clause-fine_in
returns-in_err-fine-clause-fine_in c = IfOk-from_err _ _ c.from_residual.ensures.0

pub returns-in_err-fine-clause-back_in : goal.returns-in_err-fine-clause-back_in
returns-in_err-fine-clause-back_in c = IfOk-from_err _ _ c.from_residual.ensures.0

pub returns-in_err-fine-clause-word : goal.returns-in_err-fine-clause-word
returns-in_err-fine-clause-word c = IfOk-from_err _ _ c.from_residual.ensures.0

pub returns-in_err-fine-clause-fine : goal.returns-in_err-fine-clause-fine
returns-in_err-fine-clause-fine c = IfOk-from_err _ _ c.from_residual.ensures.0

pub returns-in_err-fine-clause-back : goal.returns-in_err-fine-clause-back
returns-in_err-fine-clause-back c = IfOk-from_err _ _ c.from_residual.ensures.0

pub returns-in_err-fine-clause-far : goal.returns-in_err-fine-clause-far
returns-in_err-fine-clause-far c = IfOk-from_err _ _ c.from_residual.ensures.0

pub returns-in_err-x-clause-fine_in : goal.returns-in_err-x-clause-fine_in
returns-in_err-x-clause-fine_in c = IfOk-from_err _ _ c.from_residual-in_err-x.ensures.0

pub returns-in_err-x-clause-back_in : goal.returns-in_err-x-clause-back_in
returns-in_err-x-clause-back_in c = IfOk-from_err _ _ c.from_residual-in_err-x.ensures.0

pub returns-in_err-x-clause-word : goal.returns-in_err-x-clause-word
returns-in_err-x-clause-word c = IfOk-from_err _ _ c.from_residual-in_err-x.ensures.0

pub returns-in_err-x-clause-fine : goal.returns-in_err-x-clause-fine
returns-in_err-x-clause-fine c = IfOk-from_err _ _ c.from_residual-in_err-x.ensures.0

pub returns-in_err-x-clause-back : goal.returns-in_err-x-clause-back
returns-in_err-x-clause-back c = IfOk-from_err _ _ c.from_residual-in_err-x.ensures.0

pub returns-in_err-x-clause-far : goal.returns-in_err-x-clause-far
returns-in_err-x-clause-far c = IfOk-from_err _ _ c.from_residual-in_err-x.ensures.0

pub returns-clause-grew : goal.returns-clause-grew
returns-clause-grew c =
    let t : ℕ = length c.args.at.now in
    let x1 : length c.deref.result.now ≡ t = ap (λ (xs : List Lit). length xs) (c.deref.ensures.value ∙ c.in_ok-x.ensures) ∙ length-map c.args.at.now (λ (p : Pair). p.up) in
    Grew-then (4 * t) (10 * length c.deref.result.now) (14 * t) c.args.aig.now _ _ (omega (arith, x1)) c.in_ok-fine.ensures.grew c.index_of.ensures.grew

pub returns-clause-fine_in : goal.returns-clause-fine_in
returns-clause-fine_in c = if_ok c.index_of.result _ _ c.index_of.ensures.fine (λ x e. subst (λ l. IsIn c.index_of.new.aig l) (sym e) (IsIn-later _ _ c.in_ok-fine.fine c.index_of.ensures.grew.grows c.in_ok-fine.ensures.within))

pub returns-clause-word : goal.returns-clause-word
returns-clause-word c = if_ok c.index_of.result _ _ c.index_of.ensures.word (λ x h. record {
  long = h.long ∙ ap (λ (xs : List Lit). length xs) (c.deref.ensures.value ∙ c.in_ok-x.ensures) ∙ length-map c.args.at.now (λ (p : Pair). p.up);
  inside = h.inside;
})

pub returns-clause-fine : goal.returns-clause-fine
returns-clause-fine c = if_ok c.index_of.result _ _ c.index_of.ensures.fine (λ x e v o. ap (λ l. holds v l) e ∙ c.in_ok-fine.ensures.value v (Obeys-older v _ _ c.index_of.ensures.grew.grows o))

pub returns-clause-back : goal.returns-clause-back
returns-clause-back c = if_ok c.index_of.result _ _ c.index_of.ensures.back (λ x h v o. h v o ∙ ap (λ (xs : List Lit). back_of c.args.spot.now (truths v xs)) (c.deref.ensures.value ∙ c.in_ok-x.ensures))

pub returns-clause-far : goal.returns-clause-far
returns-clause-far c = if_ok c.index_of.result _ _ c.index_of.ensures.far (λ x h v o. h v o ∙ ap (λ (xs : List Lit). far_of c.args.spot.now (truths v xs)) (c.deref.ensures.value ∙ c.in_ok-x.ensures))

pub known-requires-clause-node : goal.known-requires-clause-node
known-requires-clause-node c = c.requires.node

pub known-requires-clause-a_in : goal.known-requires-clause-a_in
known-requires-clause-a_in c = c.requires.at_in

pub returns-clause-back_in : goal.returns-clause-back_in
returns-clause-back_in c = c.index_of.ensures.back_in

pub index_of-requires-clause-some : goal.index_of-requires-clause-some
index_of-requires-clause-some c =
    let long = ap (λ (xs : List Lit). length xs) (c.deref.ensures.value ∙ c.in_ok-x.ensures) ∙ length-map c.args.at.now (λ (p : Pair). p.up) in
    subst (λ n. 0 < n) (sym long) c.requires.some
