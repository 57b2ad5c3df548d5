use Rattle.std.proofs.lemmas.Result.{IfOk-from_err}
use Rattle.std.proofs.Common.{◌∷◌, [], ◌++◌, sym, ap, ◌∙◌, append_assoc}
use Rattle.lhs_alias.specs.Segs.{bit, seg_bits}
use Rattle.lhs_alias.proofs.SegBits.{seg_bits-more}
use Rattle.net_resolve.proofs.runs.put_wire.Goals as goal

pub loop-at-preserved : goal.loop-at-preserved
loop-at-preserved c =
    let wire = c.args.wire in
    let at = c.loop-at.at in
    let old = c.args.bits.now.items in
    c.in_ok-push.ensures.items
    ∙ ap (λ l. l ++ bit wire at ∷ []) c.loop-at.invariant
    ∙ append_assoc old (seg_bits (record { wire = wire; lo = 0; width = at })) (bit wire at ∷ [])
    ∙ ap (λ l. old ++ l) (sym (seg_bits-more wire at))

pub returns-in_err-push : goal.returns-in_err-push
returns-in_err-push c = IfOk-from_err _ _ c.from_residual.ensures.0
