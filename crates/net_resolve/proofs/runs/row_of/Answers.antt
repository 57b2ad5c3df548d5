use Rattle.std.proofs.lemmas.Result.{IfOk-from_err}
use Rattle.std.proofs.Common.{◌++◌, get_or, sym, ap, ◌∙◌, arith}
use Rattle.lhs_alias.specs.Segs.{seg_bits}
use Rattle.lhs_alias.specs.Joined.{all_bits, bits_from}
use Rattle.lhs_alias.proofs.Row.{all_bits-take_more}
use Rattle.net_resolve.proofs.runs.row_of.Goals as goal

pub loop-wire-init : goal.loop-wire-init
unfolding all_bits bits_from
loop-wire-init c = c.new-bits.ensures.items

pub loop-wire-preserved : goal.loop-wire-preserved
loop-wire-preserved c =
    let widths = c.args.widths.now in
    let i = c.loop-wire.wire in
    c.in_ok-put_wire.ensures
    ∙ ap (λ l. l ++ seg_bits (record { wire = i; lo = 0; width = get_or widths i 0 })) c.loop-wire.invariant
    ∙ sym (all_bits-take_more widths i 0 (omega arith))

pub returns-in_err-put_wire : goal.returns-in_err-put_wire
returns-in_err-put_wire c = IfOk-from_err _ _ c.from_residual.ensures.0
