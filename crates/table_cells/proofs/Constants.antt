-- Constants of a width.
use Rattle.std.proofs.Common.{◌≡◌, ◌<◌, ◌≤◌, ◌+◌, ◌-◌, ℕ, suc, List, [], ◌∷◌, ◌++◌, length, take, drop, replicate, true, sym, ◌∙◌, ap, arith}
use Rattle.fourvec.specs.declared.Bit.{Bit}
use Rattle.fourvec.specs.declared.Bit.TheVariants.{Zero}
use Rattle.fourvec.specs.Bits.{all_zero, first, top}
use Rattle.sv_literal.specs.Value.{fitted}
use Rattle.std.proofs.Math.Seq.{take-append-add}
use Rattle.std.proofs.Common.{subst}
use Rattle.std.proofs.lemmas.List.{drop_all, take_all, length-drop, take-append-le, take-replicate}

pub fits_short : (value : List Bit) (width : ℕ) → length value ≤ width → all_zero (drop width value) ≡ true
unfolding all_zero
fits_short value width h = ap all_zero (drop_all width value h)

pub fits_long : (value : List Bit) (width : ℕ) → take (length value - width) (drop width value) ≡ drop width value
fits_long value width = take_all (length value - width) (drop width value) (omega (arith, length-drop width value))

pub filled : (value : List Bit) (width : ℕ) → 0 < length value → 0 < width → take 1 (drop 0 value) ++ replicate (width - length (take 1 (drop 0 value))) (top (take 1 (drop 0 value))) ≡ replicate width (first value)
filled [] width h w = absurd (omega (arith, h))
filled (b ∷ bs) width h w = let e : width ≡ suc (width - 1) = omega arith in subst (λ n. b ∷ replicate (n - 1) b ≡ replicate n b) (sym e) (let f : suc (width - 1) - 1 ≡ width - 1 = omega arith in ap (λ n. b ∷ replicate n b) f)

pub extended : (value : List Bit) (width : ℕ) → length value ≤ width → value ++ replicate (width - length value) Zero ≡ fitted width Zero value
unfolding fitted
extended value width h =
    let e : length value + (width - length value) ≡ width = omega arith in
    sym (ap (λ n. take n (value ++ replicate width Zero)) (sym e) ∙ (take-append-add value (replicate width Zero) (width - length value)
    ∙ ap (λ zs. value ++ zs) (take-replicate (width - length value) width Zero (omega arith))))

pub cut : (value : List Bit) (width : ℕ) → width ≤ length value → take width (drop 0 value) ≡ fitted width Zero value
unfolding fitted
cut value width h = sym (take-append-le width value (replicate width Zero) h)
