use Rattle.std.proofs.lemmas.Result.{IfOk-from_err}
use Rattle.std.proofs.Common.{rules, ◌*◌, refl, sym, ap, ◌∙◌, arith}
use Rattle.svex_arena.proofs.Keeping.{extends_self, extends_on}
use Rattle.svex_arena.proofs.Steps.{width-extends}
use Rattle.sv_typed.specs.Ops.{compared}
use Rattle.sv_typed.specs.Typed.{picked_width, IsSound, PickIsSound}
use Rattle.sv_typed.specs.declared.tree.TypedForm.TheVariants as f
use Rattle.sv_typed.proofs.Sound.{some_bits}
use Rattle.sv_typed.proofs.Below as below
use Rattle.sv_lower.proofs.Falling.{inward, inward_more, onward, onward_more, computed_less, moved_less, compared_less, combined_less, chosen_less, form_one, form_two, form_three}
use Rattle.sv_lower.proofs.Reading.{in_later}
use Rattle.sv_lower.proofs.Lowered.{if_ok, fits_own, fits_part, fits_left, fits_right, some_room, some_parts, element, same_element, lowers_own, lowers_common, common_sign, lowers_turned, lowers_reduced, lowers_computed, lowers_moved, lowers_compared, lowers_combined, lowers_chosen, lowers_standing, lowers_fitted, lowers_concat, lowers_repeat, lowers_named, lowers_literal, lowers_power, lowers_nameless}
use Rattle.sv_lower.proofs.Chains.{first_part, part_more, room_for, no_picks, pick_more, picks_end, pick_fixed, pick_known, pick_moving}
use Rattle.sv_lower.proofs.expressions.+lower.Goals as goal

-- ---- each form by its own function

pub lower_in-returns-then-is_nameless-clause-ok : goal.lower_in-returns-then-is_nameless-clause-ok
lower_in-returns-then-is_nameless-clause-ok t c =
    if_ok _ _ _ c.valued-then-is_nameless.ensures.ok (λ n h. lowers_nameless _ _ _ _ _ _ _ (c.is_nameless.ensures c.if-is_nameless.true) c.valued-then-is_nameless.ensures.long h)

pub lower_in-returns-in-Literal-clause-ok : goal.lower_in-returns-in-Literal-clause-ok
lower_in-returns-in-Literal-clause-ok t c =
    if_ok _ _ _ c.valued.ensures.ok (λ n h. lowers_literal _ _ _ _ _ _ _ _ c.in-Literal.is c.valued.ensures.long h)

pub lower_in-returns-in-Power-clause-ok : goal.lower_in-returns-in-Power-clause-ok
lower_in-returns-in-Power-clause-ok t c =
    if_ok _ _ _ c.valued-in-Power.ensures.ok (λ n h. lowers_power _ _ _ _ _ _ _ _ _ c.in-Power.is c.valued-in-Power.ensures.long h)

pub lower_in-lower_named-requires : goal.lower_in-lower_named-requires
lower_in-lower_named-requires t c = (
  inward _ _ t (below.named_less _ _ _ _ _ c.in-Named.is c.as_slice.ensures refl) c.decreases,
  (below.named_root _ _ _ c.in-Named.is c.requires.fits.sound, (below.named_picks _ _ _ _ c.in-Named.is c.as_slice.ensures c.requires.fits.sound, ((let w = below.named_width _ _ _ _ c.in-Named.is c.as_slice.ensures c.requires.fits.sound in let k = c.requires.fits.wide in omega arith), (c.requires.fits.most, c.requires.look)))),
)

pub lower_in-lower_turned-requires : goal.lower_in-lower_turned-requires
lower_in-lower_turned-requires t c =
    (inward _ _ t (below.turned_less _ _ _ _ _ c.in-Turned.is c.get.ensures refl) c.decreases, (fits_part _ _ _ c.requires.fits (below.turned _ _ _ _ c.in-Turned.is c.get.ensures c.requires.fits.sound) (below.turned_fits _ _ _ _ _ c.in-Turned.is c.get.ensures c.requires.fits.sound c.requires.fits.wide), c.requires.look))

pub lower_in-returns-in-Turned-clause-stays : goal.lower_in-returns-in-Turned-clause-stays
lower_in-returns-in-Turned-clause-stays t c =
    c.lower_turned.ensures.stays

pub lower_in-returns-in-Turned-clause-ok : goal.lower_in-returns-in-Turned-clause-ok
lower_in-returns-in-Turned-clause-ok t c =
    c.lower_turned.ensures.ok c.args.typed.now (form_one _ _ _ (f.Turned c.in-Turned.op) c.in-Turned.is c.get.ensures)

pub lower_in-lower_reduced-requires : goal.lower_in-lower_reduced-requires
lower_in-lower_reduced-requires t c =
    (inward_more _ _ t (below.reduced_less _ _ _ _ _ c.in-Reduced.is c.get-in-Reduced.ensures refl) c.decreases, (below.reduced _ _ _ _ c.in-Reduced.is c.get-in-Reduced.ensures c.requires.fits.sound, (some_room _ _ c.requires.fits, (c.requires.fits.most, c.requires.look))))

pub lower_in-returns-in-Reduced-clause-stays : goal.lower_in-returns-in-Reduced-clause-stays
lower_in-returns-in-Reduced-clause-stays t c =
    c.lower_reduced.ensures.stays

pub lower_in-returns-in-Reduced-clause-ok : goal.lower_in-returns-in-Reduced-clause-ok
lower_in-returns-in-Reduced-clause-ok t c =
    c.lower_reduced.ensures.ok c.args.typed.now (form_one _ _ _ (f.Reduced c.in-Reduced.op) c.in-Reduced.is c.get-in-Reduced.ensures)

pub lower_in-lower_computed-requires : goal.lower_in-lower_computed-requires
lower_in-lower_computed-requires t c =
    (inward _ _ t (computed_less _ _ _ _ _ _ c.in-Computed.is c.get-in-Computed.ensures c.get-in-Computed-2.ensures) c.decreases, (fits_part _ _ _ c.requires.fits (below.computed_left _ _ _ _ _ c.in-Computed.is c.get-in-Computed.ensures c.requires.fits.sound) (below.computed_left_fits _ _ _ _ _ _ c.in-Computed.is c.get-in-Computed.ensures c.requires.fits.sound c.requires.fits.wide), (fits_part _ _ _ c.requires.fits (below.computed_right _ _ _ _ _ c.in-Computed.is c.get-in-Computed-2.ensures c.requires.fits.sound) (below.computed_right_fits _ _ _ _ _ _ c.in-Computed.is c.get-in-Computed-2.ensures c.requires.fits.sound c.requires.fits.wide), c.requires.look)))

pub lower_in-returns-in-Computed-clause-stays : goal.lower_in-returns-in-Computed-clause-stays
lower_in-returns-in-Computed-clause-stays t c =
    c.lower_computed.ensures.stays

pub lower_in-returns-in-Computed-clause-ok : goal.lower_in-returns-in-Computed-clause-ok
lower_in-returns-in-Computed-clause-ok t c =
    c.lower_computed.ensures.ok c.args.typed.now (form_two _ _ _ _ _ (f.Computed c.in-Computed.op) c.in-Computed.is c.get-in-Computed.ensures c.get-in-Computed-2.ensures)

pub lower_in-lower_moved-requires : goal.lower_in-lower_moved-requires
lower_in-lower_moved-requires t c =
    (inward _ _ t (moved_less _ _ _ _ _ _ c.in-Moved.is c.get-in-Moved.ensures c.get-in-Moved-2.ensures) c.decreases, (fits_part _ _ _ c.requires.fits (below.moved_left _ _ _ _ _ c.in-Moved.is c.get-in-Moved.ensures c.requires.fits.sound) (below.moved_left_fits _ _ _ _ _ _ c.in-Moved.is c.get-in-Moved.ensures c.requires.fits.sound c.requires.fits.wide), (below.moved_right _ _ _ _ _ c.in-Moved.is c.get-in-Moved-2.ensures c.requires.fits.sound, c.requires.look)))

pub lower_in-returns-in-Moved-clause-stays : goal.lower_in-returns-in-Moved-clause-stays
lower_in-returns-in-Moved-clause-stays t c =
    c.lower_moved.ensures.stays

pub lower_in-returns-in-Moved-clause-ok : goal.lower_in-returns-in-Moved-clause-ok
lower_in-returns-in-Moved-clause-ok t c =
    c.lower_moved.ensures.ok c.args.typed.now (form_two _ _ _ _ _ (f.Moved c.in-Moved.op) c.in-Moved.is c.get-in-Moved.ensures c.get-in-Moved-2.ensures)

pub lower_in-lower_compared-requires : goal.lower_in-lower_compared-requires
lower_in-lower_compared-requires t c =
    (inward _ _ t (compared_less _ _ _ _ _ _ c.in-Compared.is c.get-in-Compared.ensures c.get-in-Compared-2.ensures) c.decreases, (below.compared_left _ _ _ _ _ c.in-Compared.is c.get-in-Compared.ensures c.requires.fits.sound, (below.compared_right _ _ _ _ _ c.in-Compared.is c.get-in-Compared-2.ensures c.requires.fits.sound, (some_room _ _ c.requires.fits, (c.requires.fits.most, c.requires.look)))))

pub lower_in-returns-in-Compared-clause-stays : goal.lower_in-returns-in-Compared-clause-stays
lower_in-returns-in-Compared-clause-stays t c =
    c.lower_compared.ensures.stays

pub lower_in-returns-in-Compared-clause-ok : goal.lower_in-returns-in-Compared-clause-ok
lower_in-returns-in-Compared-clause-ok t c =
    c.lower_compared.ensures.ok c.args.typed.now (form_two _ _ _ _ _ (f.Compared c.in-Compared.op) c.in-Compared.is c.get-in-Compared.ensures c.get-in-Compared-2.ensures)

pub lower_in-lower_combined-requires : goal.lower_in-lower_combined-requires
lower_in-lower_combined-requires t c =
    (inward _ _ t (combined_less _ _ _ _ _ _ c.in-Combined.is c.get-in-Combined.ensures c.get-in-Combined-2.ensures) c.decreases, (below.combined_left _ _ _ _ _ c.in-Combined.is c.get-in-Combined.ensures c.requires.fits.sound, (below.combined_right _ _ _ _ _ c.in-Combined.is c.get-in-Combined-2.ensures c.requires.fits.sound, (some_room _ _ c.requires.fits, (c.requires.fits.most, c.requires.look)))))

pub lower_in-returns-in-Combined-clause-stays : goal.lower_in-returns-in-Combined-clause-stays
lower_in-returns-in-Combined-clause-stays t c =
    c.lower_combined.ensures.stays

pub lower_in-returns-in-Combined-clause-ok : goal.lower_in-returns-in-Combined-clause-ok
lower_in-returns-in-Combined-clause-ok t c =
    c.lower_combined.ensures.ok c.args.typed.now (form_two _ _ _ _ _ (f.Combined c.in-Combined.op) c.in-Combined.is c.get-in-Combined.ensures c.get-in-Combined-2.ensures)

pub lower_in-lower_chosen-requires : goal.lower_in-lower_chosen-requires
lower_in-lower_chosen-requires t c =
    (inward _ _ t (chosen_less _ _ _ _ _ _ _ c.in-Chosen.is c.get-in-Chosen.ensures c.get-in-Chosen-2.ensures c.get-in-Chosen-3.ensures) c.decreases, (below.condition _ _ _ _ _ c.in-Chosen.is c.get-in-Chosen.ensures c.requires.fits.sound, (fits_part _ _ _ c.requires.fits (below.chosen_left _ _ _ _ _ c.in-Chosen.is c.get-in-Chosen-2.ensures c.requires.fits.sound) (below.chosen_left_fits _ _ _ _ _ _ c.in-Chosen.is c.get-in-Chosen-2.ensures c.requires.fits.sound c.requires.fits.wide), (fits_part _ _ _ c.requires.fits (below.chosen_right _ _ _ _ _ c.in-Chosen.is c.get-in-Chosen-3.ensures c.requires.fits.sound) (below.chosen_right_fits _ _ _ _ _ _ c.in-Chosen.is c.get-in-Chosen-3.ensures c.requires.fits.sound c.requires.fits.wide), c.requires.look))))

pub lower_in-returns-in-Chosen-clause-stays : goal.lower_in-returns-in-Chosen-clause-stays
lower_in-returns-in-Chosen-clause-stays t c =
    c.lower_chosen.ensures.stays

pub lower_in-returns-in-Chosen-clause-ok : goal.lower_in-returns-in-Chosen-clause-ok
lower_in-returns-in-Chosen-clause-ok t c =
    c.lower_chosen.ensures.ok c.args.typed.now (form_three _ _ _ _ _ _ _ f.Chosen c.in-Chosen.is c.get-in-Chosen.ensures c.get-in-Chosen-2.ensures c.get-in-Chosen-3.ensures)

pub lower_in-lower_concat-requires : goal.lower_in-lower_concat-requires
lower_in-lower_concat-requires t c =
    let w = below.concat_width _ _ _ c.in-Concat.is c.as_slice-in-Concat.ensures c.requires.fits.sound in
    let s = some_bits _ c.requires.fits.sound in
    let k = c.requires.fits.wide in
    (inward _ _ t (below.concat_less _ _ _ _ c.in-Concat.is c.as_slice-in-Concat.ensures refl) c.decreases, (some_parts _ (omega arith), (below.concat_parts _ _ _ c.in-Concat.is c.as_slice-in-Concat.ensures c.requires.fits.sound, (omega arith, (c.requires.fits.most, c.requires.look)))))

pub lower_in-returns-in-Concat-clause-stays : goal.lower_in-returns-in-Concat-clause-stays
lower_in-returns-in-Concat-clause-stays t c =
    c.lower_concat.ensures.stays

pub lower_in-returns-in-Concat-clause-ok : goal.lower_in-returns-in-Concat-clause-ok
lower_in-returns-in-Concat-clause-ok t c =
    c.lower_concat.ensures.ok c.args.typed.now (form_one _ _ _ f.Concat c.in-Concat.is c.as_slice-in-Concat.ensures)

pub lower_in-lower_repeat-requires : goal.lower_in-lower_repeat-requires
lower_in-lower_repeat-requires t c =
    let s = below.repeat_some _ _ _ _ c.in-Repeat.is c.as_slice-in-Repeat.ensures c.requires.fits.sound in
    let w = below.repeat_width _ _ _ _ c.in-Repeat.is c.as_slice-in-Repeat.ensures c.requires.fits.sound in
    let k = c.requires.fits.wide in (
      inward _ _ t (below.repeat_less _ _ _ _ _ c.in-Repeat.is c.as_slice-in-Repeat.ensures refl) c.decreases,
      (
        (let h = below.some_copies _ _ _ c.in-Repeat.is c.requires.fits.sound in omega arith),
        (some_parts _ s, (below.repeat_parts _ _ _ _ c.in-Repeat.is c.as_slice-in-Repeat.ensures c.requires.fits.sound, (below.repeat_most _ _ _ _ c.in-Repeat.is c.as_slice-in-Repeat.ensures c.requires.fits.sound, (omega arith, (c.requires.fits.most, c.requires.look))))),
      ),
    )

pub lower_in-returns-in-Repeat-clause-stays : goal.lower_in-returns-in-Repeat-clause-stays
lower_in-returns-in-Repeat-clause-stays t c =
    c.lower_repeat.ensures.stays

pub lower_in-returns-in-Repeat-clause-ok : goal.lower_in-returns-in-Repeat-clause-ok
lower_in-returns-in-Repeat-clause-ok t c =
    c.lower_repeat.ensures.ok c.args.typed.now (form_one _ _ _ (f.Repeat c.in-Repeat.count) c.in-Repeat.is c.as_slice-in-Repeat.ensures)

pub lower_in-lower_standing-requires : goal.lower_in-lower_standing-requires
lower_in-lower_standing-requires t c =
    (inward_more _ _ t (below.standing_less _ _ _ _ c.in-Standing.is c.get-in-Standing.ensures refl) c.decreases, (below.standing _ _ _ c.in-Standing.is c.get-in-Standing.ensures c.requires.fits.sound, ((let w = below.standing_width _ _ _ c.in-Standing.is c.get-in-Standing.ensures c.requires.fits.sound in let k = c.requires.fits.wide in omega arith), (c.requires.fits.most, c.requires.look))))

pub lower_in-returns-in-Standing-clause-stays : goal.lower_in-returns-in-Standing-clause-stays
lower_in-returns-in-Standing-clause-stays t c =
    c.lower_standing.ensures.stays

pub lower_in-returns-in-Standing-clause-ok : goal.lower_in-returns-in-Standing-clause-ok
lower_in-returns-in-Standing-clause-ok t c =
    c.lower_standing.ensures.ok c.args.typed.now (form_one _ _ _ f.Standing c.in-Standing.is c.get-in-Standing.ensures)

pub lower_in-lower_fitted-requires : goal.lower_in-lower_fitted-requires
lower_in-lower_fitted-requires t c =
    (inward_more _ _ t (below.fitted_less _ _ _ _ c.in-Fitted.is c.get-in-Fitted.ensures refl) c.decreases, (below.fitted _ _ _ c.in-Fitted.is c.get-in-Fitted.ensures c.requires.fits.sound, ((let s = some_bits _ c.requires.fits.sound in omega arith), (c.requires.fits.wide, (c.requires.fits.most, c.requires.look)))))

pub lower_in-returns-in-Fitted-clause-stays : goal.lower_in-returns-in-Fitted-clause-stays
lower_in-returns-in-Fitted-clause-stays t c =
    c.lower_fitted.ensures.stays

pub lower_in-returns-in-Fitted-clause-ok : goal.lower_in-returns-in-Fitted-clause-ok
lower_in-returns-in-Fitted-clause-ok t c =
    c.lower_fitted.ensures.ok c.args.typed.now refl (form_one _ _ _ f.Fitted c.in-Fitted.is c.get-in-Fitted.ensures)

-- ---- a name

pub lower_named-lower_picks-requires : goal.lower_named-lower_picks-requires
lower_named-lower_picks-requires t c =
    ((let d = c.decreases in omega arith), (c.requires.sound, (c.in_ok-whole.ensures.ok.within, in_later _ _ _ c.requires.look c.in_ok-whole.ensures.stays)))

pub lower_named-extended-requires-clause-grows : goal.lower_named-extended-requires-clause-grows
lower_named-extended-requires-clause-grows t c =
    let e = c.in_ok-part.ensures.ok.width ∙ ap (picked_width c.args.picks.now) c.in_ok-whole.ensures.ok.width in let k = c.requires.fits in omega arith

pub lower_named-returns-in_err-whole-clause-stays : goal.lower_named-returns-in_err-whole-clause-stays
lower_named-returns-in_err-whole-clause-stays t c =
    c.in_err-whole.ensures.stays

pub lower_named-returns-in_err-whole-clause-ok : goal.lower_named-returns-in_err-whole-clause-ok
lower_named-returns-in_err-whole-clause-ok t c =
    λ x e. IfOk-from_err _ _ c.from_residual.ensures.0

pub lower_named-returns-in_err-part-clause-stays : goal.lower_named-returns-in_err-part-clause-stays
lower_named-returns-in_err-part-clause-stays t c =
    extends_on _ _ _ c.in_ok-whole.ensures.stays c.in_err-part.ensures.stays

pub lower_named-returns-in_err-part-clause-ok : goal.lower_named-returns-in_err-part-clause-ok
lower_named-returns-in_err-part-clause-ok t c =
    λ x e. IfOk-from_err _ _ c.from_residual-in_err-part.ensures.0

pub lower_named-returns-clause-stays : goal.lower_named-returns-clause-stays
lower_named-returns-clause-stays t c =
    extends_on _ _ _ (extends_on _ _ _ c.in_ok-whole.ensures.stays c.in_ok-part.ensures.stays) c.extended.ensures.stays

pub lower_named-returns-clause-ok : goal.lower_named-returns-clause-ok
lower_named-returns-clause-ok t c =
    λ x e. if_ok _ _ _ c.extended.ensures.ok (λ n h. lowers_named _ _ _ _ _ _ _ _ _ _ _ _ _ _ e refl c.requires.look c.in_ok-whole.ensures.stays c.in_ok-whole.ensures.ok c.in_ok-part.ensures.ok h)

-- ---- operators

pub lower_turned-lower_in-requires : goal.lower_turned-lower_in-requires
lower_turned-lower_in-requires t c =
    ((let d = c.decreases in omega arith), (c.requires.fits, c.requires.look))

pub lower_turned-returns-in_err-a-clause-stays : goal.lower_turned-returns-in_err-a-clause-stays
lower_turned-returns-in_err-a-clause-stays t c =
    c.in_err-a.ensures.stays

pub lower_turned-returns-in_err-a-clause-ok : goal.lower_turned-returns-in_err-a-clause-ok
lower_turned-returns-in_err-a-clause-ok t c =
    λ x e. IfOk-from_err _ _ c.from_residual.ensures.0

pub lower_turned-returns-clause-stays : goal.lower_turned-returns-clause-stays
lower_turned-returns-clause-stays t c =
    extends_on _ _ _ c.in_ok-a.ensures.stays c.turned.ensures.stays

pub lower_turned-returns-clause-ok : goal.lower_turned-returns-clause-ok
lower_turned-returns-clause-ok t c =
    λ x e. if_ok _ _ _ c.turned.ensures.ok (λ n h. lowers_turned _ _ _ _ _ _ _ _ _ _ _ e c.in_ok-a.ensures.ok h)

pub lower_reduced-lower_in-requires : goal.lower_reduced-lower_in-requires
lower_reduced-lower_in-requires t c =
    ((let d = c.decreases in omega arith), (fits_own _ _ _ c.requires.sound refl c.own.ensures.width, c.requires.look))

pub lower_reduced-extended-requires-clause-grows : goal.lower_reduced-extended-requires-clause-grows
lower_reduced-extended-requires-clause-grows t c =
    let e = c.in_ok-bit.ensures.ok.width in let m = c.requires.some in omega arith

pub lower_reduced-returns-in_err-a-clause-stays : goal.lower_reduced-returns-in_err-a-clause-stays
lower_reduced-returns-in_err-a-clause-stays t c =
    c.in_err-a.ensures.stays

pub lower_reduced-returns-in_err-a-clause-ok : goal.lower_reduced-returns-in_err-a-clause-ok
lower_reduced-returns-in_err-a-clause-ok t c =
    λ x e. IfOk-from_err _ _ c.from_residual.ensures.0

pub lower_reduced-returns-in_err-bit-clause-stays : goal.lower_reduced-returns-in_err-bit-clause-stays
lower_reduced-returns-in_err-bit-clause-stays t c =
    extends_on _ _ _ c.in_ok-a.ensures.stays c.in_err-bit.ensures.stays

pub lower_reduced-returns-in_err-bit-clause-ok : goal.lower_reduced-returns-in_err-bit-clause-ok
lower_reduced-returns-in_err-bit-clause-ok t c =
    λ x e. IfOk-from_err _ _ c.from_residual-in_err-bit.ensures.0

pub lower_reduced-returns-clause-stays : goal.lower_reduced-returns-clause-stays
lower_reduced-returns-clause-stays t c =
    extends_on _ _ _ (extends_on _ _ _ c.in_ok-a.ensures.stays c.in_ok-bit.ensures.stays) c.extended.ensures.stays

pub lower_reduced-returns-clause-ok : goal.lower_reduced-returns-clause-ok
lower_reduced-returns-clause-ok t c =
    λ x e. if_ok _ _ _ c.extended.ensures.ok (λ n h. lowers_reduced _ _ _ _ _ _ _ _ _ _ _ _ _ e (lowers_own _ _ _ _ _ _ _ _ _ refl refl c.own.ensures.width c.own.ensures.signed c.in_ok-a.ensures.ok) c.in_ok-bit.ensures.ok h)

pub lower_computed-lower_in-requires : goal.lower_computed-lower_in-requires
lower_computed-lower_in-requires t c =
    ((let d = c.decreases in omega arith), (c.requires.left, c.requires.look))

pub lower_computed-lower_in-requires-2 : goal.lower_computed-lower_in-requires-2
lower_computed-lower_in-requires-2 t c =
    ((let d = c.decreases in omega arith), (c.requires.right, in_later _ _ _ c.requires.look c.in_ok-a.ensures.stays))

pub lower_computed-computed-requires-clause-fits : goal.lower_computed-computed-requires-clause-fits
lower_computed-computed-requires-clause-fits t c =
    width-extends _ _ _ c.in_ok-b.ensures.stays c.in_ok-a.ensures.ok.within ∙ c.in_ok-a.ensures.ok.width ∙ sym c.in_ok-b.ensures.ok.width

pub lower_computed-returns-in_err-a-clause-stays : goal.lower_computed-returns-in_err-a-clause-stays
lower_computed-returns-in_err-a-clause-stays t c =
    c.in_err-a.ensures.stays

pub lower_computed-returns-in_err-a-clause-ok : goal.lower_computed-returns-in_err-a-clause-ok
lower_computed-returns-in_err-a-clause-ok t c =
    λ x e. IfOk-from_err _ _ c.from_residual.ensures.0

pub lower_computed-returns-in_err-b-clause-stays : goal.lower_computed-returns-in_err-b-clause-stays
lower_computed-returns-in_err-b-clause-stays t c =
    extends_on _ _ _ c.in_ok-a.ensures.stays c.in_err-b.ensures.stays

pub lower_computed-returns-in_err-b-clause-ok : goal.lower_computed-returns-in_err-b-clause-ok
lower_computed-returns-in_err-b-clause-ok t c =
    λ x e. IfOk-from_err _ _ c.from_residual-in_err-b.ensures.0

pub lower_computed-returns-clause-stays : goal.lower_computed-returns-clause-stays
lower_computed-returns-clause-stays t c =
    extends_on _ _ _ (extends_on _ _ _ c.in_ok-a.ensures.stays c.in_ok-b.ensures.stays) c.computed.ensures.stays

pub lower_computed-returns-clause-ok : goal.lower_computed-returns-clause-ok
lower_computed-returns-clause-ok t c =
    λ x e. if_ok _ _ _ c.computed.ensures.ok (λ n h. lowers_computed _ _ _ _ _ _ _ _ _ _ _ _ _ _ e c.requires.look c.in_ok-a.ensures.stays c.in_ok-b.ensures.stays c.in_ok-a.ensures.ok c.in_ok-b.ensures.ok h)

pub lower_moved-lower_in-requires : goal.lower_moved-lower_in-requires
lower_moved-lower_in-requires t c =
    ((let d = c.decreases in omega arith), (c.requires.left, c.requires.look))

pub lower_moved-lower_in-requires-2 : goal.lower_moved-lower_in-requires-2
lower_moved-lower_in-requires-2 t c =
    ((let d = c.decreases in omega arith), (fits_own _ _ _ c.requires.amount refl c.own-by.ensures.width, in_later _ _ _ c.requires.look c.in_ok-a.ensures.stays))

pub lower_moved-returns-in_err-a-clause-stays : goal.lower_moved-returns-in_err-a-clause-stays
lower_moved-returns-in_err-a-clause-stays t c =
    c.in_err-a.ensures.stays

pub lower_moved-returns-in_err-a-clause-ok : goal.lower_moved-returns-in_err-a-clause-ok
lower_moved-returns-in_err-a-clause-ok t c =
    λ x e. IfOk-from_err _ _ c.from_residual.ensures.0

pub lower_moved-returns-in_err-b-clause-stays : goal.lower_moved-returns-in_err-b-clause-stays
lower_moved-returns-in_err-b-clause-stays t c =
    extends_on _ _ _ c.in_ok-a.ensures.stays c.in_err-b.ensures.stays

pub lower_moved-returns-in_err-b-clause-ok : goal.lower_moved-returns-in_err-b-clause-ok
lower_moved-returns-in_err-b-clause-ok t c =
    λ x e. IfOk-from_err _ _ c.from_residual-in_err-b.ensures.0

pub lower_moved-returns-clause-stays : goal.lower_moved-returns-clause-stays
lower_moved-returns-clause-stays t c =
    extends_on _ _ _ (extends_on _ _ _ c.in_ok-a.ensures.stays c.in_ok-b.ensures.stays) c.moved.ensures.stays

pub lower_moved-returns-clause-ok : goal.lower_moved-returns-clause-ok
lower_moved-returns-clause-ok t c =
    λ x e. if_ok _ _ _ c.moved.ensures.ok (λ n h. lowers_moved _ _ _ _ _ _ _ _ _ _ _ _ _ _ e c.requires.look c.in_ok-a.ensures.stays c.in_ok-b.ensures.stays c.in_ok-a.ensures.ok (lowers_own _ _ _ _ _ _ _ _ _ refl refl c.own-by.ensures.width c.own-by.ensures.signed c.in_ok-b.ensures.ok) h)

pub lower_compared-lower_in-requires : goal.lower_compared-lower_in-requires
lower_compared-lower_in-requires t c =
    ((let d = c.decreases in omega arith), (fits_left _ _ _ _ _ c.requires.left c.requires.right refl refl c.common-size.ensures.width, c.requires.look))

pub lower_compared-lower_in-requires-2 : goal.lower_compared-lower_in-requires-2
lower_compared-lower_in-requires-2 t c =
    ((let d = c.decreases in omega arith), (fits_right _ _ _ _ _ c.requires.left c.requires.right refl refl c.common-size.ensures.width, in_later _ _ _ c.requires.look c.in_ok-a.ensures.stays))

pub lower_compared-compared-requires-clause-fits : goal.lower_compared-compared-requires-clause-fits
lower_compared-compared-requires-clause-fits t c =
    width-extends _ _ _ c.in_ok-b.ensures.stays c.in_ok-a.ensures.ok.within ∙ c.in_ok-a.ensures.ok.width ∙ sym c.in_ok-b.ensures.ok.width

pub lower_compared-extended-requires-clause-grows : goal.lower_compared-extended-requires-clause-grows
lower_compared-extended-requires-clause-grows t c =
    let e = c.in_ok-bit.ensures.ok.width in let m = c.requires.some in omega arith

pub lower_compared-returns-in_err-a-clause-stays : goal.lower_compared-returns-in_err-a-clause-stays
lower_compared-returns-in_err-a-clause-stays t c =
    c.in_err-a.ensures.stays

pub lower_compared-returns-in_err-a-clause-ok : goal.lower_compared-returns-in_err-a-clause-ok
lower_compared-returns-in_err-a-clause-ok t c =
    λ x e. IfOk-from_err _ _ c.from_residual.ensures.0

pub lower_compared-returns-in_err-b-clause-stays : goal.lower_compared-returns-in_err-b-clause-stays
lower_compared-returns-in_err-b-clause-stays t c =
    extends_on _ _ _ c.in_ok-a.ensures.stays c.in_err-b.ensures.stays

pub lower_compared-returns-in_err-b-clause-ok : goal.lower_compared-returns-in_err-b-clause-ok
lower_compared-returns-in_err-b-clause-ok t c =
    λ x e. IfOk-from_err _ _ c.from_residual-in_err-b.ensures.0

pub lower_compared-returns-in_err-bit-clause-stays : goal.lower_compared-returns-in_err-bit-clause-stays
lower_compared-returns-in_err-bit-clause-stays t c =
    extends_on _ _ _ (extends_on _ _ _ c.in_ok-a.ensures.stays c.in_ok-b.ensures.stays) c.in_err-bit.ensures.stays

pub lower_compared-returns-in_err-bit-clause-ok : goal.lower_compared-returns-in_err-bit-clause-ok
lower_compared-returns-in_err-bit-clause-ok t c =
    λ x e. IfOk-from_err _ _ c.from_residual-in_err-bit.ensures.0

pub lower_compared-returns-clause-stays : goal.lower_compared-returns-clause-stays
lower_compared-returns-clause-stays t c =
    extends_on _ _ _ (extends_on _ _ _ (extends_on _ _ _ c.in_ok-a.ensures.stays c.in_ok-b.ensures.stays) c.in_ok-bit.ensures.stays) c.extended.ensures.stays

pub lower_compared-returns-clause-ok : goal.lower_compared-returns-clause-ok
lower_compared-returns-clause-ok t c =
    λ x e. if_ok _ _ _ c.extended.ensures.ok (λ n h. lowers_compared _ _ _ _ _ _ _ _ _ _ _ _ _ _ _ _ e c.requires.look c.in_ok-a.ensures.stays c.in_ok-b.ensures.stays
    (lowers_common _ _ _ c.args.a.now c.args.b.now _ c.args.a.now c.args.b.now _ _ _ _ refl refl refl c.common-size.ensures.width c.common-size.ensures.signed c.in_ok-a.ensures.ok)
    (lowers_common _ _ _ c.args.a.now c.args.b.now _ c.args.a.now c.args.b.now _ _ _ _ refl refl refl c.common-size.ensures.width c.common-size.ensures.signed c.in_ok-b.ensures.ok)
    (common_sign (compared c.args.op) _ _ c.args.a.now c.args.b.now c.args.a.now c.args.b.now _ _ _ _ _ refl refl c.common-size.ensures.signed c.in_ok-bit.ensures.ok) h)

pub lower_combined-lower_in-requires : goal.lower_combined-lower_in-requires
lower_combined-lower_in-requires t c =
    ((let d = c.decreases in omega arith), (fits_own _ _ _ c.requires.left refl c.own.ensures.width, c.requires.look))

pub lower_combined-lower_in-requires-2 : goal.lower_combined-lower_in-requires-2
lower_combined-lower_in-requires-2 t c =
    ((let d = c.decreases in omega arith), (fits_own _ _ _ c.requires.right refl c.own-2.ensures.width, in_later _ _ _ c.requires.look c.in_ok-a.ensures.stays))

pub lower_combined-extended-requires-clause-grows : goal.lower_combined-extended-requires-clause-grows
lower_combined-extended-requires-clause-grows t c =
    let e = c.in_ok-bit.ensures.ok.width in let m = c.requires.some in omega arith

pub lower_combined-returns-in_err-a-clause-stays : goal.lower_combined-returns-in_err-a-clause-stays
lower_combined-returns-in_err-a-clause-stays t c =
    c.in_err-a.ensures.stays

pub lower_combined-returns-in_err-a-clause-ok : goal.lower_combined-returns-in_err-a-clause-ok
lower_combined-returns-in_err-a-clause-ok t c =
    λ x e. IfOk-from_err _ _ c.from_residual.ensures.0

pub lower_combined-returns-in_err-b-clause-stays : goal.lower_combined-returns-in_err-b-clause-stays
lower_combined-returns-in_err-b-clause-stays t c =
    extends_on _ _ _ c.in_ok-a.ensures.stays c.in_err-b.ensures.stays

pub lower_combined-returns-in_err-b-clause-ok : goal.lower_combined-returns-in_err-b-clause-ok
lower_combined-returns-in_err-b-clause-ok t c =
    λ x e. IfOk-from_err _ _ c.from_residual-in_err-b.ensures.0

pub lower_combined-returns-in_err-bit-clause-stays : goal.lower_combined-returns-in_err-bit-clause-stays
lower_combined-returns-in_err-bit-clause-stays t c =
    extends_on _ _ _ (extends_on _ _ _ c.in_ok-a.ensures.stays c.in_ok-b.ensures.stays) c.in_err-bit.ensures.stays

pub lower_combined-returns-in_err-bit-clause-ok : goal.lower_combined-returns-in_err-bit-clause-ok
lower_combined-returns-in_err-bit-clause-ok t c =
    λ x e. IfOk-from_err _ _ c.from_residual-in_err-bit.ensures.0

pub lower_combined-returns-clause-stays : goal.lower_combined-returns-clause-stays
lower_combined-returns-clause-stays t c =
    extends_on _ _ _ (extends_on _ _ _ (extends_on _ _ _ c.in_ok-a.ensures.stays c.in_ok-b.ensures.stays) c.in_ok-bit.ensures.stays) c.extended.ensures.stays

pub lower_combined-returns-clause-ok : goal.lower_combined-returns-clause-ok
lower_combined-returns-clause-ok t c =
    λ x e. if_ok _ _ _ c.extended.ensures.ok (λ n h. lowers_combined _ _ _ _ _ _ _ _ _ _ _ _ _ _ _ _ e c.requires.look c.in_ok-a.ensures.stays c.in_ok-b.ensures.stays
    (lowers_own _ _ _ _ _ _ _ _ _ refl refl c.own.ensures.width c.own.ensures.signed c.in_ok-a.ensures.ok)
    (lowers_own _ _ _ _ _ _ _ _ _ refl refl c.own-2.ensures.width c.own-2.ensures.signed c.in_ok-b.ensures.ok)
    c.in_ok-bit.ensures.ok h)

pub lower_chosen-lower_in-requires : goal.lower_chosen-lower_in-requires
lower_chosen-lower_in-requires t c =
    ((let d = c.decreases in omega arith), (fits_own _ _ _ c.requires.condition refl c.own.ensures.width, c.requires.look))

pub lower_chosen-lower_in-requires-2 : goal.lower_chosen-lower_in-requires-2
lower_chosen-lower_in-requires-2 t c =
    ((let d = c.decreases in omega arith), (c.requires.left, in_later _ _ _ c.requires.look c.in_ok-c.ensures.stays))

pub lower_chosen-lower_in-requires-3 : goal.lower_chosen-lower_in-requires-3
lower_chosen-lower_in-requires-3 t c =
    ((let d = c.decreases in omega arith), (c.requires.right, in_later _ _ _ c.requires.look (extends_on _ _ _ c.in_ok-c.ensures.stays c.in_ok-a.ensures.stays)))

pub lower_chosen-chosen-requires-clause-fits : goal.lower_chosen-chosen-requires-clause-fits
lower_chosen-chosen-requires-clause-fits t c =
    width-extends _ _ _ c.in_ok-b.ensures.stays c.in_ok-a.ensures.ok.within ∙ c.in_ok-a.ensures.ok.width ∙ sym c.in_ok-b.ensures.ok.width

pub lower_chosen-returns-in_err-c-clause-stays : goal.lower_chosen-returns-in_err-c-clause-stays
lower_chosen-returns-in_err-c-clause-stays t c =
    c.in_err-c.ensures.stays

pub lower_chosen-returns-in_err-c-clause-ok : goal.lower_chosen-returns-in_err-c-clause-ok
lower_chosen-returns-in_err-c-clause-ok t c =
    λ x e. IfOk-from_err _ _ c.from_residual.ensures.0

pub lower_chosen-returns-in_err-a-clause-stays : goal.lower_chosen-returns-in_err-a-clause-stays
lower_chosen-returns-in_err-a-clause-stays t c =
    extends_on _ _ _ c.in_ok-c.ensures.stays c.in_err-a.ensures.stays

pub lower_chosen-returns-in_err-a-clause-ok : goal.lower_chosen-returns-in_err-a-clause-ok
lower_chosen-returns-in_err-a-clause-ok t c =
    λ x e. IfOk-from_err _ _ c.from_residual-in_err-a.ensures.0

pub lower_chosen-returns-in_err-b-clause-stays : goal.lower_chosen-returns-in_err-b-clause-stays
lower_chosen-returns-in_err-b-clause-stays t c =
    extends_on _ _ _ (extends_on _ _ _ c.in_ok-c.ensures.stays c.in_ok-a.ensures.stays) c.in_err-b.ensures.stays

pub lower_chosen-returns-in_err-b-clause-ok : goal.lower_chosen-returns-in_err-b-clause-ok
lower_chosen-returns-in_err-b-clause-ok t c =
    λ x e. IfOk-from_err _ _ c.from_residual-in_err-b.ensures.0

pub lower_chosen-returns-clause-stays : goal.lower_chosen-returns-clause-stays
lower_chosen-returns-clause-stays t c =
    extends_on _ _ _ (extends_on _ _ _ (extends_on _ _ _ c.in_ok-c.ensures.stays c.in_ok-a.ensures.stays) c.in_ok-b.ensures.stays) c.chosen.ensures.stays

pub lower_chosen-returns-clause-ok : goal.lower_chosen-returns-clause-ok
lower_chosen-returns-clause-ok t c =
    λ x e. if_ok _ _ _ c.chosen.ensures.ok (λ n h. lowers_chosen _ _ _ _ _ _ _ _ _ _ _ _ _ _ _ _ e c.requires.look c.in_ok-c.ensures.stays c.in_ok-a.ensures.stays c.in_ok-b.ensures.stays
    (lowers_own _ _ _ _ _ _ _ _ _ refl refl c.own.ensures.width c.own.ensures.signed c.in_ok-c.ensures.ok) c.in_ok-a.ensures.ok c.in_ok-b.ensures.ok h)

-- ---- parts side by side

pub lower_concat-lower_parts-requires : goal.lower_concat-lower_parts-requires
lower_concat-lower_parts-requires t c =
    ((let d = c.decreases in omega arith), (c.requires.some, (c.requires.sound, ((let k = c.requires.fits in let m = c.requires.most in omega arith), c.requires.look))))

pub lower_concat-extended-requires-clause-grows : goal.lower_concat-extended-requires-clause-grows
lower_concat-extended-requires-clause-grows t c =
    let e = c.in_ok-whole.ensures.ok.width in let k = c.requires.fits in omega arith

pub lower_concat-returns-in_err-whole-clause-stays : goal.lower_concat-returns-in_err-whole-clause-stays
lower_concat-returns-in_err-whole-clause-stays t c =
    c.in_err-whole.ensures.stays

pub lower_concat-returns-in_err-whole-clause-ok : goal.lower_concat-returns-in_err-whole-clause-ok
lower_concat-returns-in_err-whole-clause-ok t c =
    λ x e. IfOk-from_err _ _ c.from_residual.ensures.0

pub lower_concat-returns-clause-stays : goal.lower_concat-returns-clause-stays
lower_concat-returns-clause-stays t c =
    extends_on _ _ _ c.in_ok-whole.ensures.stays c.extended.ensures.stays

pub lower_concat-returns-clause-ok : goal.lower_concat-returns-clause-ok
lower_concat-returns-clause-ok t c =
    λ x e. if_ok _ _ _ c.extended.ensures.ok (λ n h. lowers_concat _ _ _ _ _ _ _ _ _ _ _ e refl c.in_ok-whole.ensures.ok h)

pub lower_repeat-lower_parts-requires : goal.lower_repeat-lower_parts-requires
lower_repeat-lower_parts-requires t c =
    ((let d = c.decreases in omega arith), (c.requires.some, (c.requires.sound, (c.requires.each, c.requires.look))))

pub lower_repeat-repeated-requires-clause-most : goal.lower_repeat-repeated-requires-clause-most
lower_repeat-repeated-requires-clause-most t c =
    let e = ap (λ n. c.args.count * n) c.in_ok-whole.ensures.ok.width in let k = c.requires.fits in let m = c.requires.most in omega arith

pub lower_repeat-extended-requires-clause-grows : goal.lower_repeat-extended-requires-clause-grows
lower_repeat-extended-requires-clause-grows t c =
    let e = ap (λ n. c.args.count * n) c.in_ok-whole.ensures.ok.width in let w = c.in_ok-copies.ensures.ok.width in let k = c.requires.fits in omega arith

pub lower_repeat-returns-in_err-whole-clause-stays : goal.lower_repeat-returns-in_err-whole-clause-stays
lower_repeat-returns-in_err-whole-clause-stays t c =
    c.in_err-whole.ensures.stays

pub lower_repeat-returns-in_err-whole-clause-ok : goal.lower_repeat-returns-in_err-whole-clause-ok
lower_repeat-returns-in_err-whole-clause-ok t c =
    λ x e. IfOk-from_err _ _ c.from_residual.ensures.0

pub lower_repeat-returns-in_err-copies-clause-stays : goal.lower_repeat-returns-in_err-copies-clause-stays
lower_repeat-returns-in_err-copies-clause-stays t c =
    extends_on _ _ _ c.in_ok-whole.ensures.stays c.in_err-copies.ensures.stays

pub lower_repeat-returns-in_err-copies-clause-ok : goal.lower_repeat-returns-in_err-copies-clause-ok
lower_repeat-returns-in_err-copies-clause-ok t c =
    λ x e. IfOk-from_err _ _ c.from_residual-in_err-copies.ensures.0

pub lower_repeat-returns-clause-stays : goal.lower_repeat-returns-clause-stays
lower_repeat-returns-clause-stays t c =
    extends_on _ _ _ (extends_on _ _ _ c.in_ok-whole.ensures.stays c.in_ok-copies.ensures.stays) c.extended.ensures.stays

pub lower_repeat-returns-clause-ok : goal.lower_repeat-returns-clause-ok
lower_repeat-returns-clause-ok t c =
    λ x e. if_ok _ _ _ c.extended.ensures.ok (λ n h. lowers_repeat _ _ _ _ _ _ _ _ _ _ _ _ _ _ _ e refl c.in_ok-whole.ensures.ok c.in_ok-copies.ensures.ok h)

-- ---- casts

pub lower_standing-lower_in-requires : goal.lower_standing-lower_in-requires
lower_standing-lower_in-requires t c =
    ((let d = c.decreases in omega arith), (fits_own _ _ _ c.requires.sound refl c.own.ensures.width, c.requires.look))

pub lower_standing-extended-requires-clause-grows : goal.lower_standing-extended-requires-clause-grows
lower_standing-extended-requires-clause-grows t c =
    let e = c.in_ok-a.ensures.ok.width in let o = c.own.ensures.width in let k = c.requires.fits in omega arith

pub lower_standing-returns-in_err-a-clause-stays : goal.lower_standing-returns-in_err-a-clause-stays
lower_standing-returns-in_err-a-clause-stays t c =
    c.in_err-a.ensures.stays

pub lower_standing-returns-in_err-a-clause-ok : goal.lower_standing-returns-in_err-a-clause-ok
lower_standing-returns-in_err-a-clause-ok t c =
    λ x e. IfOk-from_err _ _ c.from_residual.ensures.0

pub lower_standing-returns-clause-stays : goal.lower_standing-returns-clause-stays
lower_standing-returns-clause-stays t c =
    extends_on _ _ _ c.in_ok-a.ensures.stays c.extended.ensures.stays

pub lower_standing-returns-clause-ok : goal.lower_standing-returns-clause-ok
lower_standing-returns-clause-ok t c =
    λ x e. if_ok _ _ _ c.extended.ensures.ok (λ n h. lowers_standing _ _ _ _ _ _ _ _ _ _ e (lowers_own _ _ _ _ _ _ _ _ _ refl refl c.own.ensures.width c.own.ensures.signed c.in_ok-a.ensures.ok) h)

pub lower_fitted-lower_in-requires : goal.lower_fitted-lower_in-requires
lower_fitted-lower_in-requires t c =
    ((let d = c.decreases in omega arith), (fits_own _ _ _ c.requires.sound refl c.own.ensures.width, c.requires.look))

pub lower_fitted-extended-requires-clause-grows : goal.lower_fitted-extended-requires-clause-grows
lower_fitted-extended-requires-clause-grows t c =
    let e = c.in_ok-part.ensures.ok.width in let k = c.requires.fits in omega arith

pub lower_fitted-returns-in_err-a-clause-stays : goal.lower_fitted-returns-in_err-a-clause-stays
lower_fitted-returns-in_err-a-clause-stays t c =
    c.in_err-a.ensures.stays

pub lower_fitted-returns-in_err-a-clause-ok : goal.lower_fitted-returns-in_err-a-clause-ok
lower_fitted-returns-in_err-a-clause-ok t c =
    λ x k e. IfOk-from_err _ _ c.from_residual.ensures.0

pub lower_fitted-returns-in_err-part-clause-stays : goal.lower_fitted-returns-in_err-part-clause-stays
lower_fitted-returns-in_err-part-clause-stays t c =
    extends_on _ _ _ c.in_ok-a.ensures.stays c.in_err-part.ensures.stays

pub lower_fitted-returns-in_err-part-clause-ok : goal.lower_fitted-returns-in_err-part-clause-ok
lower_fitted-returns-in_err-part-clause-ok t c =
    λ x k e. IfOk-from_err _ _ c.from_residual-in_err-part.ensures.0

pub lower_fitted-returns-clause-stays : goal.lower_fitted-returns-clause-stays
lower_fitted-returns-clause-stays t c =
    extends_on _ _ _ (extends_on _ _ _ c.in_ok-a.ensures.stays c.in_ok-part.ensures.stays) c.extended.ensures.stays

pub lower_fitted-returns-clause-ok : goal.lower_fitted-returns-clause-ok
lower_fitted-returns-clause-ok t c =
    λ x k e. if_ok _ _ _ c.extended.ensures.ok (λ n h. lowers_fitted _ _ _ _ _ _ _ _ _ _ _ _ _ _ _ k e refl refl
    (lowers_own _ _ _ _ _ _ _ _ _ refl refl c.own.ensures.width c.own.ensures.signed c.in_ok-a.ensures.ok) c.in_ok-part.ensures.ok h)

-- ---- lists of parts and of selects

pub lower_parts-lower_in-requires : goal.lower_parts-lower_in-requires
lower_parts-lower_in-requires t c =
    (onward_more _ _ t (below.element_less _ _ _ _ c.requires.some c.index-parts-0.is refl) c.decreases, (fits_own _ _ _ (element IsSound _ _ _ c.requires.sound c.requires.some c.index-parts-0.is) (same_element _ _ _ _ c.requires.some c.index-parts-0.is c.index-parts-0-2.is) c.own.ensures.width, c.requires.look))

pub lower_parts-parts-init : goal.lower_parts-parts-init
lower_parts-parts-init t c =
    record { stays = c.in_ok-whole.ensures.stays; made = first_part _ _ _ _ _ _ c.requires.some c.index-parts-0.is (lowers_own _ _ _ _ _ _ _ _ _ refl (same_element _ _ _ _ c.requires.some c.index-parts-0.is c.index-parts-0-2.is) c.own.ensures.width c.own.ensures.signed c.in_ok-whole.ensures.ok) }

pub lower_parts-lower_in-requires-in-parts : goal.lower_parts-lower_in-requires-in-parts
lower_parts-lower_in-requires-in-parts t c = (
  onward_more _ _ t (below.element_less _ _ _ _ c.parts-test.true c.index-parts-i.is refl) c.decreases,
  (
    fits_own _ _ _ (element IsSound _ _ _ c.requires.sound c.parts-test.true c.index-parts-i.is) (same_element _ _ _ _ c.parts-test.true c.index-parts-i.is c.index-parts-i-in-parts.is) c.own-in-parts.ensures.width,
    in_later _ _ _ c.requires.look c.parts.invariant.stays,
  ),
)

pub lower_parts-beside-requires-clause-most : goal.lower_parts-beside-requires-clause-most
lower_parts-beside-requires-clause-most t c =
    let i = c.parts.invariant.made in
    let whole = width-extends _ _ _ c.in_ok-part.ensures.stays i.within ∙ i.width in
    let part = c.in_ok-part.ensures.ok.width ∙ c.own-in-parts.ensures.width ∙ ap (λ x. x.width) (same_element _ _ _ _ c.parts-test.true c.index-parts-i.is c.index-parts-i-in-parts.is) in
    let room = room_for _ _ _ c.parts-test.true c.index-parts-i.is in
    let most = c.requires.most in
    omega arith

pub lower_parts-parts-preserved : goal.lower_parts-parts-preserved
lower_parts-parts-preserved t c =
    let i = c.parts.invariant in
    record {
      stays = extends_on _ _ _ (extends_on _ _ _ i.stays c.in_ok-part.ensures.stays) c.beside.ensures.stays;
      made = part_more _ _ _ _ _ _ _ _ _ _ _ _ c.parts-test.true c.index-parts-i.is c.requires.look i.stays c.in_ok-part.ensures.stays i.made
          (lowers_own _ _ _ _ _ _ _ _ _ refl (same_element _ _ _ _ c.parts-test.true c.index-parts-i.is c.index-parts-i-in-parts.is) c.own-in-parts.ensures.width c.own-in-parts.ensures.signed c.in_ok-part.ensures.ok)
          c.in_ok-whole-2.ensures.ok refl;
    }

pub lower_pick-windowed-requires-clause-some : goal.lower_pick-windowed-requires-clause-some
lower_pick-windowed-requires-clause-some t c =
    let h = below.some_picked _ c.requires.sound in omega arith

pub lower_pick-windowed-requires-clause-most : goal.lower_pick-windowed-requires-clause-most
lower_pick-windowed-requires-clause-most t c =
    below.most_picked _ c.requires.sound

pub lower_pick-part_at_constant-requires-clause-some : goal.lower_pick-part_at_constant-requires-clause-some
lower_pick-part_at_constant-requires-clause-some t c =
    let h = below.some_picked _ c.requires.sound in let e = below.spot_width _ _ _ c.in-Moving.is c.requires.sound in omega arith

pub lower_pick-part_at_constant-requires-clause-most : goal.lower_pick-part_at_constant-requires-clause-most
lower_pick-part_at_constant-requires-clause-most t c =
    let h = below.most_picked _ c.requires.sound in let e = below.spot_width _ _ _ c.in-Moving.is c.requires.sound in omega arith

pub lower_pick-part_at-requires-clause-some : goal.lower_pick-part_at-requires-clause-some
lower_pick-part_at-requires-clause-some t c =
    let h = below.some_picked _ c.requires.sound in let e = below.spot_width _ _ _ c.in-Moving.is c.requires.sound in omega arith

pub lower_pick-part_at-requires-clause-most : goal.lower_pick-part_at-requires-clause-most
lower_pick-part_at-requires-clause-most t c =
    let h = below.most_picked _ c.requires.sound in let e = below.spot_width _ _ _ c.in-Moving.is c.requires.sound in omega arith

pub lower_pick-own-requires : goal.lower_pick-own-requires
lower_pick-own-requires t c =
    below.index_sound _ _ _ _ c.in-Moving.is c.get-index.ensures c.requires.sound

pub lower_pick-returns-then-is_nameless-clause-ok : goal.lower_pick-returns-then-is_nameless-clause-ok
lower_pick-returns-then-is_nameless-clause-ok t c =
    if_ok _ _ _ c.part_at_constant.ensures.ok (λ n h. pick_known _ _ _ _ _ _ _ _ _ _ c.in-Moving.is c.get-index.ensures (below.spot_width _ _ _ c.in-Moving.is c.requires.sound) (c.is_nameless.ensures c.if-is_nameless.true) c.own.ensures.is h)

pub lower_pick-lower_in-requires : goal.lower_pick-lower_in-requires
lower_pick-lower_in-requires t c =
    (onward_more _ _ t (below.index_less _ _ _ _ _ c.in-Moving.is c.get-index.ensures refl) c.decreases, (fits_own _ _ _ (below.index_sound _ _ _ _ c.in-Moving.is c.get-index.ensures c.requires.sound) refl c.own-in-Moving.ensures.width, c.requires.look))

pub lower_pick-returns-in-Fixed-clause-ok : goal.lower_pick-returns-in-Fixed-clause-ok
lower_pick-returns-in-Fixed-clause-ok t c =
    if_ok _ _ _ c.windowed.ensures.ok (λ n h. pick_fixed _ _ _ _ _ _ _ _ c.in-Fixed.is (search rules) h)

pub lower_pick-returns-in_ok-at-in-Moving-clause-ok : goal.lower_pick-returns-in_ok-at-in-Moving-clause-ok
lower_pick-returns-in_ok-at-in-Moving-clause-ok t c =
    if_ok _ _ _ c.part_at.ensures.ok (λ n h. pick_moving _ _ _ _ _ _ _ _ _ _ c.in-Moving.is (below.spot_width _ _ _ c.in-Moving.is c.requires.sound) c.requires.of c.in_ok-at-in-Moving.ensures.stays
    (lowers_own _ _ _ _ _ _ _ _ _ c.get-index.ensures c.get-index.ensures c.own-in-Moving.ensures.width c.own-in-Moving.ensures.signed c.in_ok-at-in-Moving.ensures.ok) h)

pub lower_picks-lower_pick-requires : goal.lower_picks-lower_pick-requires
lower_picks-lower_pick-requires t c =
    (onward _ _ t (below.pick_less _ _ _ _ c.picks-test.true c.pick-item.is refl) c.decreases, (element PickIsSound _ _ _ c.requires.sound c.picks-test.true c.pick-item.is, (c.picks.invariant.made.within, in_later _ _ _ c.requires.look c.picks.invariant.stays)))

pub lower_picks-picks-init : goal.lower_picks-picks-init
lower_picks-picks-init t c =
    record { stays = extends_self _; made = no_picks _ _ _ c.requires.of }

pub lower_picks-returns-in_err-part-clause-stays : goal.lower_picks-returns-in_err-part-clause-stays
lower_picks-returns-in_err-part-clause-stays t c =
    extends_on _ _ _ c.picks.invariant.stays c.lower_pick.ensures.stays

pub lower_picks-picks-preserved : goal.lower_picks-picks-preserved
lower_picks-picks-preserved t c =
    let i = c.picks.invariant in
    record {
      stays = extends_on _ _ _ i.stays c.lower_pick.ensures.stays;
      made = pick_more _ _ _ _ _ _ _ _ _ _ c.picks-test.true c.pick-item.is c.requires.look i.stays i.made c.in_ok-part.ensures.ok;
    }

pub lower_picks-returns-clause-stays : goal.lower_picks-returns-clause-stays
lower_picks-returns-clause-stays t c =
    c.picks.invariant.stays

pub lower_picks-returns-clause-ok : goal.lower_picks-returns-clause-ok
lower_picks-returns-clause-ok t c =
    picks_end _ _ _ _ _ _ _ c.picks-test.false c.picks.invariant.made

pub lower_parts-returns-in_err-part-clause-ok : goal.lower_parts-returns-in_err-part-clause-ok
lower_parts-returns-in_err-part-clause-ok t c = IfOk-from_err _ _ c.from_residual-in_err-part.ensures.0

pub lower_parts-returns-in_err-whole-2-clause-ok : goal.lower_parts-returns-in_err-whole-2-clause-ok
lower_parts-returns-in_err-whole-2-clause-ok t c = IfOk-from_err _ _ c.from_residual-in_err-whole-2.ensures.0

pub lower_parts-returns-in_err-whole-clause-ok : goal.lower_parts-returns-in_err-whole-clause-ok
lower_parts-returns-in_err-whole-clause-ok t c = IfOk-from_err _ _ c.from_residual.ensures.0

pub lower_pick-returns-in_err-at-in-Moving-clause-ok : goal.lower_pick-returns-in_err-at-in-Moving-clause-ok
lower_pick-returns-in_err-at-in-Moving-clause-ok t c = IfOk-from_err _ _ c.from_residual.ensures.0

pub lower_picks-returns-in_err-part-clause-ok : goal.lower_picks-returns-in_err-part-clause-ok
lower_picks-returns-in_err-part-clause-ok t c = IfOk-from_err _ _ c.from_residual.ensures.0
