use Rattle.std.proofs.lemmas.Result.{IfOk-from_err}
use Rattle.std.proofs.Common.{◌<◌, ◌++◌, ◌∷◌, [], length, get_or, take, sym, ap, ◌∙◌, arith, length-append}
use Rattle.lhs_alias.specs.Segs.{seg_bits}
use Rattle.lhs_alias.specs.Joined.{starts_of, starts_from, all_bits, bits_from}
use Rattle.lhs_alias.proofs.Row.{all_bits-take_more, starts_of-take_more}
use Rattle.lhs_alias.proofs.SegBits.{length-seg_bits}
use Rattle.std.proofs.lemmas.List.{take_all}
use Rattle.event_nets.proofs.lay.lay.Goals as goal

pub loop-width-init : goal.loop-width-init
unfolding starts_of starts_from all_bits bits_from
loop-width-init c = record { starts = c.requires.starts; told = ap (λ l. length l) c.requires.told }

pub loop-width-preserved : goal.loop-width-preserved
loop-width-preserved c =
    let widths = c.args.widths.now in
    let i = c.loop-width.width-index in
    let within : i < length widths = omega arith in
    let so_far = c.loop-width.invariant in
    record {
      starts = c.in_ok-add_wire.ensures.starts
          ∙ ap (λ s. s ++ length c.loop-width.told.items ∷ []) so_far.starts
          ∙ ap (λ n. starts_of (take i widths) ++ n ∷ []) so_far.told
          ∙ sym (starts_of-take_more widths i 0 within);
      told = omega (
        arith,
        c.in_ok-add_wire.ensures.told,
        so_far.told,
        ap (λ l. length l) (all_bits-take_more widths i 0 within),
        length-append (all_bits (take i widths)) (seg_bits (record { wire = i; lo = 0; width = get_or widths i 0 })),
        length-seg_bits (record { wire = i; lo = 0; width = get_or widths i 0 }),
      );
    }

pub returns-in_err-add_wire-clause-starts : goal.returns-in_err-add_wire-clause-starts
returns-in_err-add_wire-clause-starts c = IfOk-from_err _ _ c.from_residual.ensures.0

pub returns-in_err-add_wire-clause-told : goal.returns-in_err-add_wire-clause-told
returns-in_err-add_wire-clause-told c = IfOk-from_err _ _ c.from_residual.ensures.0

pub bounds-widths-width-index : goal.bounds-widths-width-index
bounds-widths-width-index c = c.loop-width-test.true

pub returns-clause-starts : goal.returns-clause-starts
returns-clause-starts c = c.loop-width.invariant.starts ∙ ap (λ ws. starts_of ws) (take_all c.loop-width.width-index c.args.widths.now (omega arith))

pub returns-clause-told : goal.returns-clause-told
returns-clause-told c = c.loop-width.invariant.told ∙ ap (λ ws. length (all_bits ws)) (take_all c.loop-width.width-index c.args.widths.now (omega arith))
