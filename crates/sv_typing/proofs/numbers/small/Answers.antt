use Rattle.std.proofs.Common.{◌^◌, ℕ, sym, ap, ◌∙◌, arith}
use Rattle.std.proofs.lemmas.Int.{ints}
use Rattle.fourvec.proofs.Planes.{mask_is}
use Rattle.fourvec.proofs.Basic.{low_plane-lt}
use Rattle.sv_typing.proofs.Vectors.{whole_negative, number_is, far_below}
use Rattle.sv_typing.proofs.numbers.small.Goals as goal

pub overflow_sub-below-then-is_negative : goal.overflow_sub-below-then-is_negative
overflow_sub-below-then-is_negative c =
    let m = mask_is c.width.result c.width.ensures.most in
    let l = low_plane-lt c.args.a.now in
    let e = ap (λ (k : ℕ). 2 ^ k) c.width.ensures.is in
    omega arith

pub returns-then-below-clause-some : goal.returns-then-below-clause-some
returns-then-below-clause-some c =
    let m = mask_is c.width.result c.width.ensures.most in
    let l = low_plane-lt c.args.a.now in
    let e = ap (λ (k : ℕ). 2 ^ k) c.width.ensures.is in
    let n = number_is c.args.a.now c.requires in
    let w = whole_negative c.args.signed c.args.a.now c.if-signed.true (sym c.is_negative.ensures ∙ c.if-is_negative.true) in
    let z = c.if-below.true in
    omega (arith, ints)

pub returns-else-below-clause-none : goal.returns-else-below-clause-none
returns-else-below-clause-none c =
    let m = mask_is c.width.result c.width.ensures.most in
    let e = ap (λ (k : ℕ). 2 ^ k) c.width.ensures.is in
    let n = number_is c.args.a.now c.requires in
    let w = whole_negative c.args.signed c.args.a.now c.if-signed.true (sym c.is_negative.ensures ∙ c.if-is_negative.true) in
    far_below _ _ w (let z = c.if-below.false in omega arith)
