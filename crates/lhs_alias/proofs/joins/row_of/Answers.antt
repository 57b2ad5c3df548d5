use Rattle.std.proofs.Common.{◌≡◌, ◌++◌, ◌∷◌, ◌<◌, [], length, get_or, take, sym, ap, ◌∙◌, arith}
use Rattle.std.proofs.lemmas.List.{length-take, take_all}
use Rattle.std.proofs.lemmas.Result.{IfOk-from_err}
use Rattle.lhs_alias.specs.Segs.{seg_bits}
use Rattle.lhs_alias.specs.Joined.{starts_of, starts_from, all_bits, bits_from}
use Rattle.lhs_alias.proofs.Row.{all_bits-take_more, starts_of-take_more, length-starts_of}
use Rattle.lhs_alias.proofs.joins.row_of.Goals as goal

pub loop-width-init : goal.loop-width-init
unfolding starts_of starts_from all_bits bits_from
loop-width-init c = record { starts = c.new-starts.ensures.items; bits = c.new-bits.ensures.items }

pub loop-width-preserved : goal.loop-width-preserved
loop-width-preserved c =
    let widths = c.args.widths.now in
    let i = c.loop-width.width-index in
    let within : i < length widths = omega arith in
    let so_far = c.loop-width.invariant in
    let wire : length c.loop-width.starts.items ≡ i = omega (arith, ap length so_far.starts, length-starts_of (take i widths), length-take i widths) in
    record {
      starts = c.in_ok-add_wire.ensures.starts
          ∙ ap (λ s. s ++ length c.loop-width.bits.items ∷ []) so_far.starts
          ∙ ap (λ bits. starts_of (take i widths) ++ length bits ∷ []) so_far.bits
          ∙ sym (starts_of-take_more widths i 0 within);
      bits = c.in_ok-add_wire.ensures.bits
          ∙ ap (λ bits. bits ++ seg_bits (record { wire = length c.loop-width.starts.items; lo = 0; width = get_or widths i 0 })) so_far.bits
          ∙ ap (λ w. all_bits (take i widths) ++ seg_bits (record { wire = w; lo = 0; width = get_or widths i 0 })) wire
          ∙ sym (all_bits-take_more widths i 0 within);
    }

pub returns-clause-starts : goal.returns-clause-starts
returns-clause-starts c = c.loop-width.invariant.starts ∙ ap starts_of (take_all c.loop-width.width-index c.args.widths.now (omega arith))

pub returns-clause-bits : goal.returns-clause-bits
returns-clause-bits c = c.loop-width.invariant.bits ∙ ap all_bits (take_all c.loop-width.width-index c.args.widths.now (omega arith))

pub returns-in_err-add_wire-clause-starts : goal.returns-in_err-add_wire-clause-starts
returns-in_err-add_wire-clause-starts c = IfOk-from_err _ _ c.from_residual.ensures.0

pub returns-in_err-add_wire-clause-bits : goal.returns-in_err-add_wire-clause-bits
returns-in_err-add_wire-clause-bits c = IfOk-from_err _ _ c.from_residual.ensures.0
