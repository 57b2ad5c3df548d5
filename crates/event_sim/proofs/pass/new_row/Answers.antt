use Rattle.std.proofs.Common.{◌≡◌, ℕ, ◌+◌, [], ◌∷◌, ◌++◌, length, get_or, map, sym, ap, ◌∙◌, arith, add-zero, zero-add}
use Rattle.std.specs.List.{range_with_len}
use Rattle.std.proofs.lemmas.Option.{get_or_from_slice_get}
use Rattle.std.proofs.lemmas.List.FromFn.{map-range_with_len_more, length-map-range_with_len}
use Rattle.fourvec.specs.declared.Bit.TheVariants.{Unknown}
use Rattle.event_sim.specs.Rows.{passed_bit}
use Rattle.event_sim.proofs.pass.new_row.Goals as goal

pub loop-at-init : goal.loop-at-init
loop-at-init c =
    let homes = c.args.homes.now in
    let lows = c.args.lows.now in
    let told = c.args.told.now in
    c.one-new.ensures
    ∙ ap (λ b. b ∷ [])
    (c.new_bit.ensures
    ∙ ap (λ s. passed_bit homes lows c.args.low told s c.bit.result) (sym (add-zero c.args.start))
    ∙ ap (λ o. passed_bit homes lows c.args.low told (c.args.start + 0) o) (sym (get_or_from_slice_get c.args.old.now 0 c.bit.result Unknown c.bit.ensures)))

pub concat-new-requires : goal.concat-new-requires
concat-new-requires c =
    let f = λ (k : ℕ). passed_bit c.args.homes.now c.args.lows.now c.args.low c.args.told.now (c.args.start + k) (get_or c.args.old.now k Unknown) in
    omega (arith, ap (λ l. length l) c.one.ensures, ap (λ l. length l) c.loop-at.invariant, length-map-range_with_len f 0 c.loop-at.at, c.width-width.ensures.most, c.loop-at-test.true)

pub loop-at-preserved : goal.loop-at-preserved
loop-at-preserved c =
    let homes = c.args.homes.now in
    let lows = c.args.lows.now in
    let told = c.args.told.now in
    let at = c.loop-at.at in
    let f = λ (k : ℕ). passed_bit homes lows c.args.low told (c.args.start + k) (get_or c.args.old.now k Unknown) in
    let bit : c.new_bit-bit.result ≡ f at =
    c.new_bit-bit.ensures
    ∙ ap (λ s. passed_bit homes lows c.args.low told (c.args.start + s) c.bit-in-loop-at.result) c.from.ensures
    ∙ ap (λ o. passed_bit homes lows c.args.low told (c.args.start + at) o) (sym (get_or_from_slice_get c.args.old.now at c.bit-in-loop-at.result Unknown c.bit-in-loop-at.ensures)) in
    c.concat-new.ensures
    ∙ ap (λ l. l ++ c.one.result) c.loop-at.invariant
    ∙ ap (λ l. map f (range_with_len 0 at) ++ l) (c.one.ensures ∙ ap (λ b. b ∷ []) bit)
    ∙ sym (map-range_with_len_more f 0 at at (zero-add at))
