use Rattle.std.proofs.Common.{◌≡◌, ◌-◌, ◌≤◌, ◌<◌, List, length, reverse, sym, ap, ◌∙◌, arith}
use Rattle.std.proofs.lemmas.List.{length-reverse}
use Rattle.fourvec.specs.declared.Bit.{Bit}
use Rattle.fourvec.specs.Bits.{top, zext_of}
use Rattle.vcd_text.specs.Said.{bits_said, widened}
use Rattle.vcd_text.proofs.Fitting.{top_kept, kept_long, fits, fits_empty, kept_said, first_said, long_as, made_below}
use Rattle.vcd_text.proofs.values.fitted.Goals as goal

pub widened-requires-clause-within : goal.widened-requires-clause-within
widened-requires-clause-within c =
    let kept : List Bit = bits_said c.split_at.result.1.now in
    let made : c.bits_below.result ≡ reverse kept = made_below c.split_at.result.1.now c.said-highest.result c.one_bit-in-len1-up.result c.bits_below.result c.in-len1-up.len_at_least c.said-highest.ensures
    c.one_bit-in-len1-up.ensures c.bits_below.ensures in
    let by : c.saturating_sub.result ≡ length (bits_said c.args.bits.now) - c.args.width = omega (arith, c.saturating_sub.ensures, c.from.ensures, long_as c.args.bits.now) in
    omega (
      arith,
      ap length made,
      length-reverse kept,
      ap length (kept_said c.saturating_sub.result c.args.bits.now c.split_at.result.1.now c.split_at.ensures.back),
      kept_long (bits_said c.args.bits.now) c.saturating_sub.result c.args.width by,
    )

pub widened-requires-clause-highest : goal.widened-requires-clause-highest
widened-requires-clause-highest c =
    let kept : List Bit = bits_said c.split_at.result.1.now in
    let made : c.bits_below.result ≡ reverse kept = made_below c.split_at.result.1.now c.said-highest.result c.one_bit-in-len1-up.result c.bits_below.result c.in-len1-up.len_at_least c.said-highest.ensures
    c.one_bit-in-len1-up.ensures c.bits_below.ensures in
    let some : 1 ≤ length kept = omega (arith, c.in-len1-up.len_at_least, long_as c.split_at.result.1.now) in
    ap top made ∙ top_kept kept some ∙ sym (c.said-highest.ensures ∙ first_said c.split_at.result.1.now)

pub returns-in-len1-up : goal.returns-in-len1-up
returns-in-len1-up c =
    let kept : List Bit = bits_said c.split_at.result.1.now in
    let made : c.bits_below.result ≡ reverse kept = made_below c.split_at.result.1.now c.said-highest.result c.one_bit-in-len1-up.result c.bits_below.result c.in-len1-up.len_at_least c.said-highest.ensures
    c.one_bit-in-len1-up.ensures c.bits_below.ensures in
    let some : 1 ≤ length kept = omega (arith, c.in-len1-up.len_at_least, long_as c.split_at.result.1.now) in
    let by : c.saturating_sub.result ≡ length (bits_said c.args.bits.now) - c.args.width = omega (arith, c.saturating_sub.ensures, c.from.ensures, long_as c.args.bits.now) in
    c.widened.ensures ∙ ap (λ v. widened v c.said-highest.result c.args.width) made ∙ ap (λ b. widened (reverse kept) b c.args.width) (c.said-highest.ensures ∙ first_said c.split_at.result.1.now)
    ∙ fits c.args.width (bits_said c.args.bits.now) kept c.saturating_sub.result by (kept_said c.saturating_sub.result c.args.bits.now c.split_at.result.1.now c.split_at.ensures.back) some

pub returns-in-empty : goal.returns-in-empty
returns-in-empty c =
    let by : c.saturating_sub.result ≡ length (bits_said c.args.bits.now) - c.args.width = omega (arith, c.saturating_sub.ensures, c.from.ensures, long_as c.args.bits.now) in
    let none : length (bits_said c.split_at.result.1.now) < 1 = omega (arith, c.in-empty.len_below, long_as c.split_at.result.1.now) in
    c.zext.ensures ∙ ap (λ v. zext_of v c.args.width) c.one_bit.ensures
    ∙ fits_empty c.args.width (bits_said c.args.bits.now) (bits_said c.split_at.result.1.now) c.saturating_sub.result c.requires.some by
    (kept_said c.saturating_sub.result c.args.bits.now c.split_at.result.1.now c.split_at.ensures.back) none
