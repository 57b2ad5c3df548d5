use Rattle.std.proofs.Common.{◌<◌, Bool, not, ◌&&◌, length, ap, sym, subst, ◌∙◌, arith}
use Rattle.std.proofs.lemmas.Result.{IfOk-from_err}
use Rattle.aig.specs.declared.gate.Lit.{Lit}
use Rattle.aig.specs.Graph.{holds}
use Rattle.aig.proofs.Growth.{Obeys-older}
use Rattle.aig.proofs.Values.{always_from}
use Rattle.aig_words.proofs.Grown.{Grew-then, Grew-wider, IsIn-later, if_ok}
use Rattle.aig_words.proofs.Tables.{holds-negation}
use Rattle.aig_words.proofs.divides.goes_in.Goals as goal

pub and-requires-clause-a_in : goal.and-requires-clause-a_in
and-requires-clause-a_in c = IsIn-later c.args.aig.now c.any.new.aig c.args.carry c.in_ok-larger.ensures.grew.grows c.requires.carry_in

pub and-requires-clause-b_in : goal.and-requires-clause-b_in
and-requires-clause-b_in c = subst (λ (l : Lit). l.node < length c.any.new.aig) (sym c.not.ensures) c.in_ok-larger.ensures.within

pub returns-clause-grew : goal.returns-clause-grew
returns-clause-grew c = Grew-then (length c.args.above.now) 1 _ c.args.aig.now c.any.new.aig _ (omega arith) c.in_ok-larger.ensures.grew
    (record { grows = c.and.ensures.grows; nodes = c.and.ensures.nodes; flat = c.and.ensures.flat })

pub returns-clause-within : goal.returns-clause-within
returns-clause-within c = c.and.ensures.within

pub returns-clause-value : goal.returns-clause-value
returns-clause-value c = if_ok _ _ _ c.and.ensures.value (λ r h. always_from _ _ h.graph (λ v o. h.obeyed v o ∙
    ap (λ (t : Bool). holds v c.args.carry && t) (holds-negation v c.in_ok-larger.larger _ c.not.ensures ∙
    ap (λ (t : Bool). not t) (c.in_ok-larger.ensures.value v (Obeys-older v _ _ c.and.ensures.grows o)))))

pub returns-in_err-larger-clause-grew : goal.returns-in_err-larger-clause-grew
returns-in_err-larger-clause-grew c = Grew-wider _ _ c.args.aig.now _ (omega arith) c.in_err-larger.ensures.grew

pub returns-in_err-larger-clause-within : goal.returns-in_err-larger-clause-within
returns-in_err-larger-clause-within c = IfOk-from_err _ _ c.from_residual.ensures.0

pub returns-in_err-larger-clause-value : goal.returns-in_err-larger-clause-value
returns-in_err-larger-clause-value c = IfOk-from_err _ _ c.from_residual.ensures.0
