-- What an answer unfolds to compute the meaning of a tree that is written out.
use Rattle.std.specs.Prelude.{⊤}
use Rattle.fourvec.specs.Bits as bits
use Rattle.fourvec.specs.Spots as spots
use Rattle.sv_literal.specs.Meaning as literals
use Rattle.sv_literal.specs.Value as values_of_literals
use Rattle.sv_meaning.specs.Layouts as layouts
use Rattle.sv_meaning.specs.Names as names
use Rattle.sv_meaning.specs.Meanings as meanings
use Rattle.sv_meaning.specs.Values as values
use Rattle.sv_meaning.specs.Forms as forms

unfoldable pub vectors : ⊤
unfolding bits.each bits.each_pair bits.over bits.some_one bits.all_zero bits.truth_of bits.is_known bits.some_clash bits.eq_of bits.number bits.vector bits.add_of bits.sub_of bits.mul_of bits.div_of bits.rem_of bits.neg_of bits.lt_of bits.slt_of bits.sdiv_of bits.srem_of bits.shl_of bits.shr_of bits.sar_of bits.cond_of spots.window spots.overlaid spots.all_are spots.kept_bit literals.is_wide literals.is_large_number literals.is_large_value literals.number_of literals.based_of literals.fill_of literals.meaning_of values_of_literals.decimal values_of_literals.digit_bits values_of_literals.bits_of values_of_literals.given_bits values_of_literals.fitted values_of_literals.vector_of values_of_literals.exceeds_word
vectors = tt

unfoldable pub expressions : ⊤
unfolding vectors layouts.member_in layouts.depth layouts.last_of names.has_name meanings.all_loose meanings.parts meanings.copies meanings.log_from meanings.chain_bits meanings.chain_layout meanings.chain_faults meanings.all_indices meanings.bits_from values.mean forms.over_ranges forms.labels forms.member_faults forms.members_of forms.bits_of forms.form
expressions = tt
