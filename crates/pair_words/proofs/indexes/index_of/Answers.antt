use Rattle.pair_words.proofs.indexes.index_of.Goals as goal

pub returns-then-spot-clause-grew : goal.returns-then-spot-clause-grew
returns-then-spot-clause-grew c = c.signed_index.ensures.grew

pub returns-then-spot-clause-fine : goal.returns-then-spot-clause-fine
returns-then-spot-clause-fine c = c.signed_index.ensures.fine

pub returns-then-spot-clause-back_in : goal.returns-then-spot-clause-back_in
returns-then-spot-clause-back_in c = c.signed_index.ensures.back_in

pub returns-then-spot-clause-word : goal.returns-then-spot-clause-word
returns-then-spot-clause-word c = c.signed_index.ensures.word

pub returns-then-spot-clause-back : goal.returns-then-spot-clause-back
returns-then-spot-clause-back c = c.signed_index.ensures.back

pub returns-then-spot-clause-far : goal.returns-then-spot-clause-far
returns-then-spot-clause-far c = c.signed_index.ensures.far

pub signed_index-requires-clause-some : goal.signed_index-requires-clause-some
signed_index-requires-clause-some c = c.requires.some

pub signed_index-requires-clause-at_in : goal.signed_index-requires-clause-at_in
signed_index-requires-clause-at_in c = c.requires.at_in

pub returns-else-spot-clause-grew : goal.returns-else-spot-clause-grew
returns-else-spot-clause-grew c = c.plain_index.ensures.grew

pub returns-else-spot-clause-fine : goal.returns-else-spot-clause-fine
returns-else-spot-clause-fine c = c.plain_index.ensures.fine

pub returns-else-spot-clause-back_in : goal.returns-else-spot-clause-back_in
returns-else-spot-clause-back_in c = c.plain_index.ensures.back_in

pub returns-else-spot-clause-word : goal.returns-else-spot-clause-word
returns-else-spot-clause-word c = c.plain_index.ensures.word

pub returns-else-spot-clause-back : goal.returns-else-spot-clause-back
returns-else-spot-clause-back c = c.plain_index.ensures.back

pub returns-else-spot-clause-far : goal.returns-else-spot-clause-far
returns-else-spot-clause-far c = c.plain_index.ensures.far

pub plain_index-requires-clause-some : goal.plain_index-requires-clause-some
plain_index-requires-clause-some c = c.requires.some

pub plain_index-requires-clause-at_in : goal.plain_index-requires-clause-at_in
plain_index-requires-clause-at_in c = c.requires.at_in
