use Rattle.std.proofs.lemmas.Result.{IfOk-from_err}
use Rattle.std.proofs.Common.{◌++◌, ◌∷◌, [], append_assoc, sym, ap, ◌∙◌}
use Rattle.lhs_alias.specs.Segs.{seg_bits, bit}
use Rattle.lhs_alias.proofs.SegBits.{seg_bits-more}
use Rattle.lhs_alias.proofs.joins.add_wire.Goals as goal

pub loop-at-preserved : goal.loop-at-preserved
loop-at-preserved c =
    let wire = c.len-wire.result in
    let at = c.loop-at.at in
    let old = c.args.bits.now.items in
    c.in_ok-push-2.ensures.items
    ∙ ap (λ s. s ++ bit wire at ∷ []) c.loop-at.invariant
    ∙ append_assoc old (seg_bits (record { wire = wire; lo = 0; width = at })) (bit wire at ∷ [])
    ∙ ap (λ s. old ++ s) (sym (seg_bits-more wire at))

pub returns-in_err-push-2-clause-bits : goal.returns-in_err-push-2-clause-bits
returns-in_err-push-2-clause-bits c = IfOk-from_err _ _ c.from_residual-in_err-push-2.ensures.0

pub returns-in_err-push-2-clause-starts : goal.returns-in_err-push-2-clause-starts
returns-in_err-push-2-clause-starts c = IfOk-from_err _ _ c.from_residual-in_err-push-2.ensures.0

pub returns-in_err-push-clause-bits : goal.returns-in_err-push-clause-bits
returns-in_err-push-clause-bits c = IfOk-from_err _ _ c.from_residual.ensures.0

pub returns-in_err-push-clause-starts : goal.returns-in_err-push-clause-starts
returns-in_err-push-clause-starts c = IfOk-from_err _ _ c.from_residual.ensures.0
