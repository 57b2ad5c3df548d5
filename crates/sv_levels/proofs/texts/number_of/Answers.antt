use Rattle.std.proofs.Common.{◌≡◌, ◌∙◌, sym, ap}
use Rattle.fourvec.specs.Bits.{low_plane, number}
use Rattle.sv_levels.proofs.Signs.{low_is, number_in_mask, distance_is, distance_fits, number_fits, shown_below, shown_from_zero}
use Rattle.sv_levels.proofs.texts.number_of.Goals as goal

pub overflow_sub-width-then-is_negative : goal.overflow_sub-width-then-is_negative
overflow_sub-width-then-is_negative c =
    let a = c.args.bits.now in
    let p : c.low-number.result ≡ number a = c.low-number.ensures ∙ ap low_plane c.unfloat.ensures ∙ low_is a in
    number_in_mask a c.low-number.result c.width.result p c.width.ensures.is c.width.ensures.most

pub below_zero-requires : goal.below_zero-requires
below_zero-requires c =
    let a = c.args.bits.now in
    let p : c.low-number.result ≡ number a = c.low-number.ensures ∙ ap low_plane c.unfloat.ensures ∙ low_is a in
    distance_fits a c.low-number.result c.width.result p c.width.ensures.is c.width.ensures.most (sym c.is_negative.ensures.is ∙ c.if-is_negative.true)

pub overflow_cast-result : goal.overflow_cast-result
overflow_cast-result c =
    let a = c.args.bits.now in
    let p : c.low-number.result ≡ number a = c.low-number.ensures ∙ ap low_plane c.unfloat.ensures ∙ low_is a in
    record { sfits = number_fits a c.low-number.result p c.is_negative.ensures.most (sym c.is_negative.ensures.is ∙ c.if-is_negative.false) }

pub returns-then-is_negative : goal.returns-then-is_negative
returns-then-is_negative c =
    let a = c.args.bits.now in
    let p : c.low-number.result ≡ number a = c.low-number.ensures ∙ ap low_plane c.unfloat.ensures ∙ low_is a in
    let e = sym c.is_negative.ensures.is ∙ c.if-is_negative.true in
    shown_below a _ c.below_zero.result e (distance_is a c.low-number.result c.width.result p c.width.ensures.is c.width.ensures.most)
    (distance_fits a c.low-number.result c.width.result p c.width.ensures.is c.width.ensures.most e) c.below_zero.ensures

pub returns-else-is_negative : goal.returns-else-is_negative
returns-else-is_negative c =
    let a = c.args.bits.now in
    let p : c.low-number.result ≡ number a = c.low-number.ensures ∙ ap low_plane c.unfloat.ensures ∙ low_is a in
    let e = sym c.is_negative.ensures.is ∙ c.if-is_negative.false in
    shown_from_zero a c.low-number.result e p (number_fits a c.low-number.result p c.is_negative.ensures.most e)
