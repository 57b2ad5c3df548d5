use Rattle.std.proofs.Common.{◌∙◌, arith}
use Rattle.aig_words.specs.Words.{number}
use Rattle.aig_words.proofs.Grown.{if_ok}
use Rattle.aig_words.proofs.Numbers.{holds-zero}
use Rattle.pair_words.proofs.Starting.{product_apart, product_is}
use Rattle.pair_words.proofs.indexes.is_product.Goals as goal

pub returns-then-n-each-ne0-clause-value : goal.returns-then-n-each-ne0-clause-value
returns-then-n-each-ne0-clause-value c = λ v o.
    holds-zero v _ c.constant-then-n-each-ne0.ensures o.bottom ∙ product_apart (number v c.args.word.now) c.args.each c.args.n (omega arith) c.if-n-each-ne0.true

pub returns-clause-value : goal.returns-clause-value
returns-clause-value c = if_ok c.is_number.result _ _ c.is_number.ensures.value (λ r h v o. h v o ∙ product_is (number v c.args.word.now) c.args.each c.args.n (omega arith) c.if-n-each-ne0.false)

pub is_number-requires-clause-node : goal.is_number-requires-clause-node
is_number-requires-clause-node c = c.requires.node

pub is_number-requires-clause-word_in : goal.is_number-requires-clause-word_in
is_number-requires-clause-word_in c = c.requires.word_in

pub returns-clause-grew : goal.returns-clause-grew
returns-clause-grew c = c.is_number.ensures.grew

pub returns-clause-within : goal.returns-clause-within
returns-clause-within c = c.is_number.ensures.within
