use Rattle.std.proofs.Common.{sym, ◌∙◌}
use Rattle.sv_literal.proofs.Vectors.{vector_of-digits, vector_of-unknown}
use Rattle.sv_literal.proofs.value.vector_of.Goals as goal

pub returns-then-not-is_decimal_base : goal.returns-then-not-is_decimal_base
returns-then-not-is_decimal_base c =
    vector_of-digits c.args.width c.base_of-base.result c.leftmost-leftmost.result c.digit_width.result c.args.text.now c.behind_first-digits.result.now c.fill_bit.result c.last_bits.result c.slice.result
    c.base_of-base.ensures c.leftmost-leftmost.ensures c.behind_first-digits.ensures (sym c.is_decimal_base.ensures ∙ c.if-not-is_decimal_base.true)
    c.digit_width.ensures.width c.fill_bit.ensures c.last_bits.ensures c.requires.most c.slice.ensures

pub returns-then-is_unknown : goal.returns-then-is_unknown
returns-then-is_unknown c =
    vector_of-unknown c.args.width c.base_of-base.result c.leftmost-leftmost.result c.args.text.now c.fill_bit-then-is_unknown.result c.filled.result
    c.base_of-base.ensures c.leftmost-leftmost.ensures (sym c.is_decimal_base.ensures ∙ c.if-not-is_decimal_base.false)
    (sym c.is_unknown.ensures ∙ c.if-is_unknown.true) c.fill_bit-then-is_unknown.ensures c.filled.ensures
