use Rattle.std.proofs.Common.{◌≡◌, ℕ, ◌-◌, ◌/◌, ◌^◌, length, sym, ap, ◌∙◌, arith, pos, negsuc}
use Rattle.fourvec.specs.Bits.{number}
use Rattle.fourvec.proofs.Planes.{mask_is}
use Rattle.fourvec.proofs.Basic.{low_plane-lt}
use Rattle.sv_typing.proofs.Vectors.{whole_negative, whole_positive, whole_unsigned, number_is}
use Rattle.sv_types.proofs.whole.Whole.of.Goals.{else-known-via-then-known+else-is_negative, else-known-via-else-known}
use Rattle.sv_types.proofs.whole.Whole.of.Goals as goal

pub overflow_sub-result-then-is_negative : goal.overflow_sub-result-then-is_negative
overflow_sub-result-then-is_negative c =
    let m = mask_is c.width.result c.width.ensures.most in
    let l = low_plane-lt c.args.known.now.value in
    let e = ap (λ (k : ℕ). 2 ^ k) c.width.ensures.is in
    let n = c.low-number.ensures in
    omega arith

pub returns-then-is_negative : goal.returns-then-is_negative
returns-then-is_negative c =
    let v = c.args.known.now.value in
    let m = mask_is c.width.result c.width.ensures.most in
    let e = ap (λ (k : ℕ). 2 ^ k) c.width.ensures.is in
    let n = c.low-number.ensures ∙ number_is v c.requires in
    let d : 340282366920938463463374607431768211455 / 2 ^ (128 - c.width.result) - c.low-number.result ≡ 2 ^ length v - 1 - number v = omega arith in
    ap negsuc d ∙ sym (whole_negative c.args.known.now.signed v c.if-known.true (sym c.is_negative.ensures ∙ c.if-is_negative.true))

pub returns-else-known : goal.returns-else-known
returns-else-known c =
    let v = c.args.known.now.value in
    let n = ap pos (c.low-number.ensures ∙ number_is v c.requires) in
    elim c.else-known.branch [
      | else-known-via-then-known+else-is_negative w ↦ n ∙ sym (whole_positive c.args.known.now.signed v (sym w.is_negative.ensures ∙ w.if-is_negative.false))
      | else-known-via-else-known w ↦ n ∙ sym (whole_unsigned c.args.known.now.signed v w.if-known.false)
    ]
