use Rattle.std.proofs.Common.{◌≡◌, List, [], ◌∷◌, ◌++◌, sym, ap, ◌∙◌, subst}
use Rattle.std.proofs.lemmas.Result.{IfOk-weaker}
use Rattle.lhs_alias.specs.Joined.{widths_of}
use Rattle.lhs_alias.specs.Lies.{LieIn}
use Rattle.lhs_alias.specs.declared.segs.Seg.{Seg}
use Rattle.phase_fsm.proofs.Standing.{canon-firsts, whole-of}
use Rattle.phase_fsm.proofs.firsts.firsts_in.Goals as goal

pub canon-requires : goal.canon-requires
canon-requires c =
    let s = whole-of c.args.wire c.args.width in
    subst (LieIn (widths_of c.args.joins.now)) (sym (c.from_vec-whole.ensures ∙ c.in_ok-push.ensures.items ∙ ap (λ (l : List Seg). l ++ s ∷ []) c.new-whole.ensures.items)) c.requires.whole

pub returns-clause-bits : goal.returns-clause-bits
returns-clause-bits c =
    let s = whole-of c.args.wire c.args.width in
    let is : c.from_vec-whole.result ≡ s ∷ [] = c.from_vec-whole.ensures ∙ c.in_ok-push.ensures.items ∙ ap (λ (l : List Seg). l ++ s ∷ []) c.new-whole.ensures.items in
    IfOk-weaker c.canon.result _ _
    (λ firsts e. canon-firsts c.args.joins.now c.from_vec-whole.result firsts c.args.wire c.args.width is (subst (LieIn (widths_of c.args.joins.now)) (sym is) c.requires.whole) e) c.canon.ensures.firsts
