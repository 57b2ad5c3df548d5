use Rattle.aig_words.proofs.Numbers.{holds-zero}
use Rattle.aig_words.proofs.Grown.{Grew-refl}
use Rattle.pair_words.proofs.indexes.goes_as_far.Goals as goal

pub returns-in-None-clause-value : goal.returns-in-None-clause-value
returns-in-None-clause-value c = rw c.in-None.is (λ v o. holds-zero v _ c.constant.ensures o.bottom)

pub is_product-requires-clause-node : goal.is_product-requires-clause-node
is_product-requires-clause-node c = c.requires.node

pub is_product-requires-clause-word_in : goal.is_product-requires-clause-word_in
is_product-requires-clause-word_in c = c.requires.word_in

pub returns-in-Some-clause-grew : goal.returns-in-Some-clause-grew
returns-in-Some-clause-grew c = c.is_product.ensures.grew

pub returns-in-Some-clause-within : goal.returns-in-Some-clause-within
returns-in-Some-clause-within c = c.is_product.ensures.within

pub returns-in-Some-clause-value : goal.returns-in-Some-clause-value
returns-in-Some-clause-value c = rw c.in-Some.is c.is_product.ensures.value

pub returns-in-None-clause-grew : goal.returns-in-None-clause-grew
returns-in-None-clause-grew c = Grew-refl _ c.args.aig.now
