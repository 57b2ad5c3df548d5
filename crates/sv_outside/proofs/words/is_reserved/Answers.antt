use Rattle.std.proofs.Common.{refl, ◌∙◌, arith}
use Rattle.sv_outside.specs.Words.{grammar_words, out_of_scope_words, reserved_words, words_from}
use Rattle.sv_outside.proofs.Reserved.{among_row, none_reserved}
use Rattle.sv_outside.proofs.words.is_reserved.Goals as goal

pub reserved_from-requires : goal.reserved_from-requires
unfolding words_from reserved_words grammar_words out_of_scope_words
reserved_from-requires c = refl

pub returns-in-empty : goal.returns-in-empty
returns-in-empty c = none_reserved c.args.text.now c.in-empty.len_below

pub returns-in-len1-up : goal.returns-in-len1-up
returns-in-len1-up c = c.is_among.ensures ∙ among_row c.args.text.now c.reserved_from.result.now (omega arith) c.reserved_from.ensures
