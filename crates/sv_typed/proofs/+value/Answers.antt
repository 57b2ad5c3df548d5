use Rattle.std.proofs.Common.{ℕ, ◌*◌, List, ◌++◌, length, max, ◌&&◌, sym, ap, ◌∙◌, subst, arith}
use Rattle.std.proofs.lemmas.List.{length-append}
use Rattle.fourvec.specs.declared.Bit.{Bit}
use Rattle.fourvec.specs.Bits.{cond_of, truth_of}
use Rattle.sv_meaning.specs.Meanings as meant
use Rattle.sv_meaning.specs.Meanings.{nowhere, extend, copies}
use Rattle.sv_typed.specs.declared.tree.Typed.{Typed}
use Rattle.sv_typed.specs.declared.tree.Pick.{Pick}
use Rattle.sv_typed.specs.declared.tree.TypedForm.TheVariants as f
use Rattle.sv_typed.specs.Ops as ops
use Rattle.sv_typed.proofs.Worth.{together_more, as_form, worth_literal, worth_named, worth_turned, worth_reduced, worth_computed, worth_moved, worth_compared, worth_combined, worth_chosen, worth_power, worth_concat, worth_repeat, worth_standing, worth_fitted}
use Rattle.sv_typed.specs.Typed.{worth, together, picked, raised, picked_width, IsSound, PickIsSound, own, bits_of}
use Rattle.sv_typed.proofs.Sound.{some_bits, most_bits}
use Rattle.sv_typed.proofs.Lists.{width_more}
use Rattle.sv_typed.proofs.Below.{turned, turned_less, turned_fits, reduced, reduced_less, computed_left, computed_left_less, computed_left_fits, computed_right, computed_right_less, computed_right_fits, moved_left, moved_left_less, moved_left_fits, moved_right, moved_right_less, compared_left, compared_right, compared_less, combined_left, combined_right, combined_less, condition, chosen_left, chosen_left_fits, chosen_right, chosen_right_fits, chosen_less, power, power_less, power_fits, standing, standing_less, standing_width, fitted, fitted_less, literal_sound, literal_width, named_root, named_less, named_picks, named_width, concat_width, concat_less, concat_parts, repeat_width, repeat_some, repeat_most, repeat_less, repeat_parts, some_copies, pick_less, element_less, index_less, index_sound}
use Rattle.sv_typed.proofs.+value.Goals as goal

pub tree::Typed::value-literal_bits-requires-clause-sound : goal.tree::Typed::value-literal_bits-requires-clause-sound
tree::Typed::value-literal_bits-requires-clause-sound t c = literal_sound _ _ c.in-Literal.is c.requires.sound

pub tree::Typed::value-root_bits-requires : goal.tree::Typed::value-root_bits-requires
tree::Typed::value-root_bits-requires t c = named_root _ _ _ c.in-Named.is c.requires.sound

pub tree::Typed::value-picked-requires : goal.tree::Typed::value-picked-requires
tree::Typed::value-picked-requires t c = (
  named_less c.args.self.now c.in-Named.root c.in-Named.picks c.as_slice.result.now t c.in-Named.is c.as_slice.ensures c.decreases,
  named_picks c.args.self.now c.in-Named.root c.in-Named.picks c.as_slice.result.now c.in-Named.is c.as_slice.ensures c.requires.sound,
)

pub tree::Typed::value-value-requires : goal.tree::Typed::value-value-requires
tree::Typed::value-value-requires t c = (turned_less _ _ _ _ t c.in-Turned.is c.get.ensures c.decreases, (turned _ _ _ _ c.in-Turned.is c.get.ensures c.requires.sound, (turned_fits _ _ _ _ _ c.in-Turned.is c.get.ensures c.requires.sound c.requires.fits, c.requires.most)))

pub tree::Typed::value-own-requires : goal.tree::Typed::value-own-requires
tree::Typed::value-own-requires t c = (reduced_less _ _ _ _ t c.in-Reduced.is c.get-in-Reduced.ensures c.decreases, reduced _ _ _ _ c.in-Reduced.is c.get-in-Reduced.ensures c.requires.sound)

pub tree::Typed::value-value-a-requires : goal.tree::Typed::value-value-a-requires
tree::Typed::value-value-a-requires t c = (computed_left_less _ _ _ _ _ t c.in-Computed.is c.get-in-Computed.ensures c.decreases, (computed_left _ _ _ _ _ c.in-Computed.is c.get-in-Computed.ensures c.requires.sound, (computed_left_fits _ _ _ _ _ _ c.in-Computed.is c.get-in-Computed.ensures c.requires.sound c.requires.fits, c.requires.most)))

pub tree::Typed::value-value-requires-in-Computed : goal.tree::Typed::value-value-requires-in-Computed
tree::Typed::value-value-requires-in-Computed t c = (computed_right_less _ _ _ _ _ t c.in-Computed.is c.get-in-Computed-2.ensures c.decreases, (computed_right _ _ _ _ _ c.in-Computed.is c.get-in-Computed-2.ensures c.requires.sound, (computed_right_fits _ _ _ _ _ _ c.in-Computed.is c.get-in-Computed-2.ensures c.requires.sound c.requires.fits, c.requires.most)))

pub tree::Typed::value-value-requires-in-Moved : goal.tree::Typed::value-value-requires-in-Moved
tree::Typed::value-value-requires-in-Moved t c = (moved_left_less _ _ _ _ _ t c.in-Moved.is c.get-in-Moved.ensures c.decreases, (moved_left _ _ _ _ _ c.in-Moved.is c.get-in-Moved.ensures c.requires.sound, (moved_left_fits _ _ _ _ _ _ c.in-Moved.is c.get-in-Moved.ensures c.requires.sound c.requires.fits, c.requires.most)))

pub tree::Typed::value-own-requires-in-Moved : goal.tree::Typed::value-own-requires-in-Moved
tree::Typed::value-own-requires-in-Moved t c = (moved_right_less _ _ _ _ _ t c.in-Moved.is c.get-in-Moved-2.ensures c.decreases, moved_right _ _ _ _ _ c.in-Moved.is c.get-in-Moved-2.ensures c.requires.sound)

pub tree::Typed::value-compare-requires : goal.tree::Typed::value-compare-requires
tree::Typed::value-compare-requires t c = (compared_less _ _ _ _ _ _ t c.in-Compared.is c.get-in-Compared.ensures c.get-in-Compared-2.ensures c.decreases, (compared_left _ _ _ _ _ c.in-Compared.is c.get-in-Compared.ensures c.requires.sound, compared_right _ _ _ _ _ c.in-Compared.is c.get-in-Compared-2.ensures c.requires.sound))

pub tree::Typed::value-value-requires-in-Power : goal.tree::Typed::value-value-requires-in-Power
tree::Typed::value-value-requires-in-Power t c = (power_less _ _ _ _ t c.in-Power.is c.get-in-Power.ensures c.decreases, (power _ _ _ _ c.in-Power.is c.get-in-Power.ensures c.requires.sound, (power_fits _ _ _ _ _ c.in-Power.is c.get-in-Power.ensures c.requires.sound c.requires.fits, c.requires.most)))

pub tree::Typed::value-together-requires : goal.tree::Typed::value-together-requires
tree::Typed::value-together-requires t c =
    let w = concat_width c.args.self.now c.in-Concat.parts c.as_slice-in-Concat.result.now c.in-Concat.is c.as_slice-in-Concat.ensures c.requires.sound in
    let o = some_bits c.args.self.now c.requires.sound in let m = most_bits c.args.self.now c.requires.sound in (
      concat_less c.args.self.now c.in-Concat.parts c.as_slice-in-Concat.result.now t c.in-Concat.is c.as_slice-in-Concat.ensures c.decreases,
      (concat_parts c.args.self.now c.in-Concat.parts c.as_slice-in-Concat.result.now c.in-Concat.is c.as_slice-in-Concat.ensures c.requires.sound, (omega arith, omega arith)),
    )

pub tree::Typed::value-together-requires-in-Repeat : goal.tree::Typed::value-together-requires-in-Repeat
tree::Typed::value-together-requires-in-Repeat t c = (
  repeat_less c.args.self.now c.in-Repeat.parts c.in-Repeat.count c.as_slice-in-Repeat.result.now t c.in-Repeat.is c.as_slice-in-Repeat.ensures c.decreases,
  (
    repeat_parts c.args.self.now c.in-Repeat.parts c.in-Repeat.count c.as_slice-in-Repeat.result.now c.in-Repeat.is c.as_slice-in-Repeat.ensures c.requires.sound,
    (repeat_some c.args.self.now c.in-Repeat.parts c.in-Repeat.count c.as_slice-in-Repeat.result.now c.in-Repeat.is c.as_slice-in-Repeat.ensures c.requires.sound, repeat_most c.args.self.now c.in-Repeat.parts c.in-Repeat.count c.as_slice-in-Repeat.result.now c.in-Repeat.is c.as_slice-in-Repeat.ensures c.requires.sound),
  ),
)

pub tree::Typed::value-copied-requires-clause-some : goal.tree::Typed::value-copied-requires-clause-some
tree::Typed::value-copied-requires-clause-some t c = some_copies c.args.self.now c.in-Repeat.parts c.in-Repeat.count c.in-Repeat.is c.requires.sound

pub tree::Typed::value-own-requires-in-Standing : goal.tree::Typed::value-own-requires-in-Standing
tree::Typed::value-own-requires-in-Standing t c = (standing_less _ _ _ t c.in-Standing.is c.get-in-Standing.ensures c.decreases, standing _ _ _ c.in-Standing.is c.get-in-Standing.ensures c.requires.sound)

pub tree::Typed::value-extended-requires-in-Standing-clause-grows : goal.tree::Typed::value-extended-requires-in-Standing-clause-grows
tree::Typed::value-extended-requires-in-Standing-clause-grows t c = let w = standing_width c.args.self.now c.get-in-Standing.result.now c.in-Standing.a c.in-Standing.is c.get-in-Standing.ensures c.requires.sound in omega arith

pub tree::Typed::value-own-requires-in-Fitted : goal.tree::Typed::value-own-requires-in-Fitted
tree::Typed::value-own-requires-in-Fitted t c = (fitted_less _ _ _ t c.in-Fitted.is c.get-a.ensures c.decreases, fitted _ _ _ c.in-Fitted.is c.get-a.ensures c.requires.sound)

pub value::compare-value-requires-2 : goal.value::compare-value-requires-2
value::compare-value-requires-2 t c = let a' = most_bits _ c.requires.left in let b' = most_bits _ c.requires.right in let w = c.max-width.ensures in let d = c.decreases in (omega arith, (c.requires.right, (omega arith, omega arith)))

pub value::part-own-requires : goal.value::part-own-requires
value::part-own-requires t c = (index_less _ _ _ _ t c.in-Moving.is c.get.ensures c.decreases, index_sound _ _ _ _ c.in-Moving.is c.get.ensures c.requires)

pub value::together-beside-requires : goal.value::together-beside-requires
value::together-beside-requires t c = let w = width_more c.args.parts.now c.parts.part-index c.part-item.result c.parts-test.true c.part-item.is in omega arith

pub value::picked-part-bits-requires : goal.value::picked-part-bits-requires
value::picked-part-bits-requires t c = (
  pick_less c.args.picks.now c.picks.pick-index c.pick-item.result t c.picks-test.true c.pick-item.is c.decreases,
  subst PickIsSound (sym c.pick-item.is) (c.requires c.picks.pick-index c.pick-item.result c.picks-test.true),
)

pub value::together-own-requires : goal.value::together-own-requires
value::together-own-requires t c = (
  element_less c.args.parts.now c.parts.part-index c.part-item.result t c.parts-test.true c.part-item.is c.decreases,
  subst IsSound (sym c.part-item.is) (c.requires.sound c.parts.part-index c.part-item.result c.parts-test.true),
)

pub value::together-parts-preserved : goal.value::together-parts-preserved
value::together-parts-preserved t c =
    let x = c.part-item.result in
    let m = together_more c.args.parts.now c.parts.part-index x nowhere c.parts-test.true c.part-item.is in
    let w = width_more c.args.parts.now c.parts.part-index x c.parts-test.true c.part-item.is in
    let l = ap length c.beside.ensures ∙ length-append c.own.result (bits_of c.parts.bits) in
    record {
      is =
          c.beside.ensures ∙ ap (λ y. y ++ bits_of c.parts.bits) c.own.ensures.is ∙ ap (λ y. own x nowhere ++ y) c.parts.invariant.is ∙ sym m;
      width = omega arith;
    }

pub tree::Typed::value-returns-in-Literal-clause-is : goal.tree::Typed::value-returns-in-Literal-clause-is
tree::Typed::value-returns-in-Literal-clause-is t c =
    as_form c.args.self.now (f.Literal c.in-Literal.literal) c.args.width c.args.signed _ c.in-Literal.is
    (c.literal_bits.ensures.is ∙ sym (worth_literal _ _ _ _ _))

pub tree::Typed::value-returns-in-Named-clause-is : goal.tree::Typed::value-returns-in-Named-clause-is
tree::Typed::value-returns-in-Named-clause-is t c =
    as_form c.args.self.now (f.Named c.in-Named.root c.in-Named.picks) c.args.width c.args.signed _ c.in-Named.is
    (c.extended.ensures.is ∙ ap (extend c.args.signed c.args.width) (c.picked.ensures.is ∙ ap (λ (all : List Pick). picked nowhere all c.root_bits.result) c.as_slice.ensures ∙ ap (picked nowhere c.in-Named.picks) c.root_bits.ensures.is) ∙ sym (worth_named _ _ _ _ _ _))

pub tree::Typed::value-returns-in-Turned-clause-is : goal.tree::Typed::value-returns-in-Turned-clause-is
tree::Typed::value-returns-in-Turned-clause-is t c =
    as_form c.args.self.now (f.Turned c.in-Turned.op c.in-Turned.a) c.args.width c.args.signed _ c.in-Turned.is
    (c.turned.ensures.is ∙ ap (ops.turned c.in-Turned.op) (c.value.ensures.is ∙ ap (λ (x : Typed). worth x nowhere c.args.width c.args.signed) c.get.ensures) ∙ sym (worth_turned _ _ _ _ _ _))

pub tree::Typed::value-returns-in-Reduced-clause-is : goal.tree::Typed::value-returns-in-Reduced-clause-is
tree::Typed::value-returns-in-Reduced-clause-is t c =
    as_form c.args.self.now (f.Reduced c.in-Reduced.op c.in-Reduced.a) c.args.width c.args.signed _ c.in-Reduced.is
    (c.extended-in-Reduced.ensures.is ∙ ap (extend c.args.signed c.args.width) (c.reduced.ensures.is ∙ ap (ops.reduced c.in-Reduced.op) (c.own.ensures.is ∙ ap (λ (x : Typed). own x nowhere) c.get-in-Reduced.ensures)) ∙ sym (worth_reduced _ _ _ _ _ _))

pub tree::Typed::value-returns-in-Computed-clause-is : goal.tree::Typed::value-returns-in-Computed-clause-is
tree::Typed::value-returns-in-Computed-clause-is t c =
    let left = c.value-a.ensures.is ∙ ap (λ (x : Typed). worth x nowhere c.args.width c.args.signed) c.get-in-Computed.ensures in
    let right = c.value-in-Computed.ensures.is ∙ ap (λ (x : Typed). worth x nowhere c.args.width c.args.signed) c.get-in-Computed-2.ensures in
    as_form c.args.self.now (f.Computed c.in-Computed.op c.in-Computed.a c.in-Computed.b) c.args.width c.args.signed _ c.in-Computed.is
    (c.computed.ensures.is ∙ ap (λ x. ops.computed c.in-Computed.op c.args.signed x c.value-in-Computed.result) left ∙ ap (ops.computed c.in-Computed.op c.args.signed (worth c.in-Computed.a nowhere c.args.width c.args.signed)) right ∙ sym (worth_computed _ _ _ _ _ _ _))

pub tree::Typed::value-returns-in-Moved-clause-is : goal.tree::Typed::value-returns-in-Moved-clause-is
tree::Typed::value-returns-in-Moved-clause-is t c =
    let left = c.value-in-Moved.ensures.is ∙ ap (λ (x : Typed). worth x nowhere c.args.width c.args.signed) c.get-in-Moved.ensures in
    let right = c.own-in-Moved.ensures.is ∙ ap (λ (x : Typed). own x nowhere) c.get-in-Moved-2.ensures in
    as_form c.args.self.now (f.Moved c.in-Moved.op c.in-Moved.a c.in-Moved.b) c.args.width c.args.signed _ c.in-Moved.is
    (c.moved.ensures.is ∙ ap (λ x. ops.moved c.in-Moved.op c.args.signed x c.own-in-Moved.result) left ∙ ap (ops.moved c.in-Moved.op c.args.signed (worth c.in-Moved.a nowhere c.args.width c.args.signed)) right ∙ sym (worth_moved _ _ _ _ _ _ _))

pub tree::Typed::value-returns-in-Compared-clause-is : goal.tree::Typed::value-returns-in-Compared-clause-is
tree::Typed::value-returns-in-Compared-clause-is t c =
    let both : Typed → Typed → List Bit = λ x y. ops.compared c.in-Compared.op (x.signed && y.signed) (worth x nowhere (max x.width y.width) (x.signed && y.signed)) (worth y nowhere (max x.width y.width) (x.signed && y.signed)) in
    as_form c.args.self.now (f.Compared c.in-Compared.op c.in-Compared.a c.in-Compared.b) c.args.width c.args.signed _ c.in-Compared.is
    (c.extended-in-Compared.ensures.is ∙ ap (extend c.args.signed c.args.width) (c.compare.ensures.is ∙ ap (λ (x : Typed). both x c.get-in-Compared-2.result.now) c.get-in-Compared.ensures ∙ ap (both c.in-Compared.a) c.get-in-Compared-2.ensures) ∙ sym (worth_compared _ _ _ _ _ _ _))

pub tree::Typed::value-returns-in-Combined-clause-is : goal.tree::Typed::value-returns-in-Combined-clause-is
tree::Typed::value-returns-in-Combined-clause-is t c =
    as_form c.args.self.now (f.Combined c.in-Combined.op c.in-Combined.a c.in-Combined.b) c.args.width c.args.signed _ c.in-Combined.is
    (c.extended-in-Combined.ensures.is ∙ ap (extend c.args.signed c.args.width) (c.combine.ensures.is ∙ ap (λ (x : Typed). ops.combined c.in-Combined.op (own x nowhere) (own c.get-in-Combined-2.result.now nowhere)) c.get-in-Combined.ensures ∙ ap (λ (x : Typed). ops.combined c.in-Combined.op (own c.in-Combined.a nowhere) (own x nowhere)) c.get-in-Combined-2.ensures) ∙ sym (worth_combined _ _ _ _ _ _ _))

pub tree::Typed::value-returns-in-Chosen-clause-is : goal.tree::Typed::value-returns-in-Chosen-clause-is
tree::Typed::value-returns-in-Chosen-clause-is t c =
    let each : Typed → Typed → Typed → List Bit = λ l x y. cond_of (truth_of (own l nowhere)) (worth x nowhere c.args.width c.args.signed) (worth y nowhere c.args.width c.args.signed) in
    as_form c.args.self.now (f.Chosen c.in-Chosen.condition c.in-Chosen.a c.in-Chosen.b) c.args.width c.args.signed _ c.in-Chosen.is
    (c.choose.ensures.is ∙ ap (λ (l : Typed). each l c.get-in-Chosen-2.result.now c.get-in-Chosen-3.result.now) c.get-in-Chosen.ensures ∙ ap (λ (x : Typed). each c.in-Chosen.condition x c.get-in-Chosen-3.result.now) c.get-in-Chosen-2.ensures ∙ ap (each c.in-Chosen.condition c.in-Chosen.a) c.get-in-Chosen-3.ensures ∙ sym (worth_chosen _ _ _ _ _ _ _))

pub tree::Typed::value-returns-in-Power-clause-is : goal.tree::Typed::value-returns-in-Power-clause-is
tree::Typed::value-returns-in-Power-clause-is t c =
    as_form c.args.self.now (f.Power c.in-Power.a c.in-Power.exponent) c.args.width c.args.signed _ c.in-Power.is
    (c.raised.ensures.is ∙ ap (λ (n : ℕ). raised n c.value-in-Power.result c.in-Power.exponent) c.value-in-Power.ensures.width ∙ ap (λ x. raised c.args.width x c.in-Power.exponent) (c.value-in-Power.ensures.is ∙ ap (λ (x : Typed). worth x nowhere c.args.width c.args.signed) c.get-in-Power.ensures) ∙ sym (worth_power _ _ _ _ _ _))

pub tree::Typed::value-returns-in-Concat-clause-is : goal.tree::Typed::value-returns-in-Concat-clause-is
tree::Typed::value-returns-in-Concat-clause-is t c =
    as_form c.args.self.now (f.Concat c.in-Concat.parts) c.args.width c.args.signed _ c.in-Concat.is
    (c.extended-in-Concat.ensures.is ∙ ap (extend c.args.signed c.args.width) (c.together.ensures.is ∙ ap (λ (all : List Typed). together all nowhere) c.as_slice-in-Concat.ensures) ∙ sym (worth_concat _ _ _ _ _))

pub tree::Typed::value-returns-in-Repeat-clause-is : goal.tree::Typed::value-returns-in-Repeat-clause-is
tree::Typed::value-returns-in-Repeat-clause-is t c =
    as_form c.args.self.now (f.Repeat c.in-Repeat.count c.in-Repeat.parts) c.args.width c.args.signed _ c.in-Repeat.is
    (c.extended-in-Repeat.ensures.is ∙ ap (extend c.args.signed c.args.width) (c.copied.ensures.is ∙ ap (copies c.in-Repeat.count) (c.together-in-Repeat.ensures.is ∙ ap (λ (all : List Typed). together all nowhere) c.as_slice-in-Repeat.ensures)) ∙ sym (worth_repeat _ _ _ _ _ _))

pub tree::Typed::value-returns-in-Standing-clause-is : goal.tree::Typed::value-returns-in-Standing-clause-is
tree::Typed::value-returns-in-Standing-clause-is t c =
    as_form c.args.self.now (f.Standing c.in-Standing.a) c.args.width c.args.signed _ c.in-Standing.is
    (c.extended-in-Standing.ensures.is ∙ ap (extend c.args.signed c.args.width) (c.own-in-Standing.ensures.is ∙ ap (λ (x : Typed). own x nowhere) c.get-in-Standing.ensures) ∙ sym (worth_standing _ _ _ _ _))

pub tree::Typed::value-returns-in-Fitted-clause-is : goal.tree::Typed::value-returns-in-Fitted-clause-is
tree::Typed::value-returns-in-Fitted-clause-is t c =
    as_form c.args.self.now (f.Fitted c.in-Fitted.a) c.args.width c.args.signed _ c.in-Fitted.is
    (c.extended-in-Fitted.ensures.is ∙ ap (extend c.args.signed c.args.width) (c.fitted.ensures.is ∙ ap (meant.fitted c.get-a.result.now.signed c.args.self.now.width) c.own-in-Fitted.ensures.is ∙ ap (λ (x : Typed). meant.fitted x.signed c.args.self.now.width (own x nowhere)) c.get-a.ensures) ∙ sym (worth_fitted _ _ _ _ _))

pub tree::Typed::value-returns-in-Named-clause-width : goal.tree::Typed::value-returns-in-Named-clause-width
tree::Typed::value-returns-in-Named-clause-width t c = c.extended.ensures.width

pub tree::Typed::value-returns-in-Reduced-clause-width : goal.tree::Typed::value-returns-in-Reduced-clause-width
tree::Typed::value-returns-in-Reduced-clause-width t c = c.extended-in-Reduced.ensures.width

pub tree::Typed::value-returns-in-Compared-clause-width : goal.tree::Typed::value-returns-in-Compared-clause-width
tree::Typed::value-returns-in-Compared-clause-width t c = c.extended-in-Compared.ensures.width

pub tree::Typed::value-returns-in-Combined-clause-width : goal.tree::Typed::value-returns-in-Combined-clause-width
tree::Typed::value-returns-in-Combined-clause-width t c = c.extended-in-Combined.ensures.width

pub tree::Typed::value-returns-in-Concat-clause-width : goal.tree::Typed::value-returns-in-Concat-clause-width
tree::Typed::value-returns-in-Concat-clause-width t c = c.extended-in-Concat.ensures.width

pub tree::Typed::value-returns-in-Repeat-clause-width : goal.tree::Typed::value-returns-in-Repeat-clause-width
tree::Typed::value-returns-in-Repeat-clause-width t c = c.extended-in-Repeat.ensures.width

pub tree::Typed::value-returns-in-Standing-clause-width : goal.tree::Typed::value-returns-in-Standing-clause-width
tree::Typed::value-returns-in-Standing-clause-width t c = c.extended-in-Standing.ensures.width

pub tree::Typed::value-returns-in-Fitted-clause-width : goal.tree::Typed::value-returns-in-Fitted-clause-width
tree::Typed::value-returns-in-Fitted-clause-width t c = c.extended-in-Fitted.ensures.width

pub tree::Typed::value-literal_bits-requires-clause-fits : goal.tree::Typed::value-literal_bits-requires-clause-fits
tree::Typed::value-literal_bits-requires-clause-fits t c = let e = literal_width _ _ c.in-Literal.is c.requires.sound in let k = c.requires.fits in omega arith

pub tree::Typed::value-literal_bits-requires-clause-most : goal.tree::Typed::value-literal_bits-requires-clause-most
tree::Typed::value-literal_bits-requires-clause-most t c = c.requires.most

pub tree::Typed::value-combine-requires : goal.tree::Typed::value-combine-requires
tree::Typed::value-combine-requires t c = (combined_less _ _ _ _ _ _ t c.in-Combined.is c.get-in-Combined.ensures c.get-in-Combined-2.ensures c.decreases, (combined_left _ _ _ _ _ c.in-Combined.is c.get-in-Combined.ensures c.requires.sound, combined_right _ _ _ _ _ c.in-Combined.is c.get-in-Combined-2.ensures c.requires.sound))

pub tree::Typed::value-choose-requires : goal.tree::Typed::value-choose-requires
tree::Typed::value-choose-requires t c = (
  chosen_less _ _ _ _ _ _ _ t c.in-Chosen.is c.get-in-Chosen.ensures c.get-in-Chosen-2.ensures c.get-in-Chosen-3.ensures c.decreases,
  (
    condition _ _ _ _ _ c.in-Chosen.is c.get-in-Chosen.ensures c.requires.sound,
    (chosen_left _ _ _ _ _ c.in-Chosen.is c.get-in-Chosen-2.ensures c.requires.sound, (chosen_left_fits _ _ _ _ _ _ c.in-Chosen.is c.get-in-Chosen-2.ensures c.requires.sound c.requires.fits, (chosen_right _ _ _ _ _ c.in-Chosen.is c.get-in-Chosen-3.ensures c.requires.sound, (chosen_right_fits _ _ _ _ _ _ c.in-Chosen.is c.get-in-Chosen-3.ensures c.requires.sound c.requires.fits, c.requires.most)))),
  ),
)

pub tree::Typed::value-extended-requires-clause-grows : goal.tree::Typed::value-extended-requires-clause-grows
tree::Typed::value-extended-requires-clause-grows t c = let e = c.picked.ensures.width ∙ ap (picked_width c.as_slice.result.now) c.root_bits.ensures.width ∙ named_width _ _ _ _ c.in-Named.is c.as_slice.ensures c.requires.sound in let s = some_bits _ c.requires.sound in let k = c.requires.fits in omega arith

pub tree::Typed::value-extended-requires-clause-most : goal.tree::Typed::value-extended-requires-clause-most
tree::Typed::value-extended-requires-clause-most t c = c.requires.most

pub tree::Typed::value-extended-requires-in-Reduced-clause-grows : goal.tree::Typed::value-extended-requires-in-Reduced-clause-grows
tree::Typed::value-extended-requires-in-Reduced-clause-grows t c = let e = c.reduced.ensures.width in let s = some_bits _ c.requires.sound in let k = c.requires.fits in omega arith

pub tree::Typed::value-extended-requires-in-Reduced-clause-most : goal.tree::Typed::value-extended-requires-in-Reduced-clause-most
tree::Typed::value-extended-requires-in-Reduced-clause-most t c = c.requires.most

pub tree::Typed::value-extended-requires-in-Compared-clause-grows : goal.tree::Typed::value-extended-requires-in-Compared-clause-grows
tree::Typed::value-extended-requires-in-Compared-clause-grows t c = let e = c.compare.ensures.width in let s = some_bits _ c.requires.sound in let k = c.requires.fits in omega arith

pub tree::Typed::value-extended-requires-in-Compared-clause-most : goal.tree::Typed::value-extended-requires-in-Compared-clause-most
tree::Typed::value-extended-requires-in-Compared-clause-most t c = c.requires.most

pub tree::Typed::value-extended-requires-in-Combined-clause-grows : goal.tree::Typed::value-extended-requires-in-Combined-clause-grows
tree::Typed::value-extended-requires-in-Combined-clause-grows t c = let e = c.combine.ensures.width in let s = some_bits _ c.requires.sound in let k = c.requires.fits in omega arith

pub tree::Typed::value-extended-requires-in-Combined-clause-most : goal.tree::Typed::value-extended-requires-in-Combined-clause-most
tree::Typed::value-extended-requires-in-Combined-clause-most t c = c.requires.most

pub tree::Typed::value-extended-requires-in-Concat-clause-grows : goal.tree::Typed::value-extended-requires-in-Concat-clause-grows
tree::Typed::value-extended-requires-in-Concat-clause-grows t c = let e = c.together.ensures.width ∙ concat_width _ _ _ c.in-Concat.is c.as_slice-in-Concat.ensures c.requires.sound in let s = some_bits _ c.requires.sound in let k = c.requires.fits in omega arith

pub tree::Typed::value-extended-requires-in-Concat-clause-most : goal.tree::Typed::value-extended-requires-in-Concat-clause-most
tree::Typed::value-extended-requires-in-Concat-clause-most t c = c.requires.most

pub tree::Typed::value-extended-requires-in-Repeat-clause-grows : goal.tree::Typed::value-extended-requires-in-Repeat-clause-grows
tree::Typed::value-extended-requires-in-Repeat-clause-grows t c = let e = c.copied.ensures.width ∙ ap (λ n. c.in-Repeat.count * n) c.together-in-Repeat.ensures.width ∙ repeat_width _ _ _ _ c.in-Repeat.is c.as_slice-in-Repeat.ensures c.requires.sound in let s = some_bits _ c.requires.sound in let k = c.requires.fits in omega arith

pub tree::Typed::value-extended-requires-in-Repeat-clause-most : goal.tree::Typed::value-extended-requires-in-Repeat-clause-most
tree::Typed::value-extended-requires-in-Repeat-clause-most t c = c.requires.most

pub tree::Typed::value-extended-requires-in-Fitted-clause-grows : goal.tree::Typed::value-extended-requires-in-Fitted-clause-grows
tree::Typed::value-extended-requires-in-Fitted-clause-grows t c = let e = c.fitted.ensures.width in let s = some_bits _ c.requires.sound in let k = c.requires.fits in omega arith

pub tree::Typed::value-extended-requires-in-Fitted-clause-most : goal.tree::Typed::value-extended-requires-in-Fitted-clause-most
tree::Typed::value-extended-requires-in-Fitted-clause-most t c = c.requires.most

pub tree::Typed::value-extended-requires-in-Standing-clause-most : goal.tree::Typed::value-extended-requires-in-Standing-clause-most
tree::Typed::value-extended-requires-in-Standing-clause-most t c = c.requires.most

pub tree::Typed::value-copied-requires-clause-most : goal.tree::Typed::value-copied-requires-clause-most
tree::Typed::value-copied-requires-clause-most t c = let e = ap (λ n. c.in-Repeat.count * n) c.together-in-Repeat.ensures.width ∙ repeat_width _ _ _ _ c.in-Repeat.is c.as_slice-in-Repeat.ensures c.requires.sound in let m = most_bits _ c.requires.sound in omega arith

pub value::compare-value-requires : goal.value::compare-value-requires
value::compare-value-requires t c = let a' = most_bits _ c.requires.left in let b' = most_bits _ c.requires.right in let w = c.max-width.ensures in let d = c.decreases in (omega arith, (c.requires.left, (omega arith, omega arith)))

pub value::combine-value-a-requires : goal.value::combine-value-a-requires
value::combine-value-a-requires t c = ((let d = c.decreases in omega arith), (c.requires.left, ((let e = most_bits _ c.requires.left in omega arith), most_bits _ c.requires.left)))

pub value::combine-value-b-requires : goal.value::combine-value-b-requires
value::combine-value-b-requires t c = ((let d = c.decreases in omega arith), (c.requires.right, ((let e = most_bits _ c.requires.right in omega arith), most_bits _ c.requires.right)))

pub value::choose-value-truth-requires : goal.value::choose-value-truth-requires
value::choose-value-truth-requires t c = ((let d = c.decreases in omega arith), (c.requires.condition, ((let e = most_bits _ c.requires.condition in omega arith), most_bits _ c.requires.condition)))

pub value::choose-value-a-requires : goal.value::choose-value-a-requires
value::choose-value-a-requires t c = ((let d = c.decreases in omega arith), (c.requires.left, (c.requires.left_fits, c.requires.most)))

pub value::choose-value-b-requires : goal.value::choose-value-b-requires
value::choose-value-b-requires t c = ((let d = c.decreases in omega arith), (c.requires.right, (c.requires.right_fits, c.requires.most)))

pub tree::Typed::value-fitted-requires-clause-some : goal.tree::Typed::value-fitted-requires-clause-some
tree::Typed::value-fitted-requires-clause-some t c = let s = some_bits _ c.requires.sound in omega arith
