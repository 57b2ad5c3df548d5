use Rattle.pair_words.proofs.pairs.unfloat.Goals as goal

pub or_and-requires-clause-w_in : goal.or_and-requires-clause-w_in
or_and-requires-clause-w_in c = c.requires.a_in.up

pub or_and-requires-clause-x_in : goal.or_and-requires-clause-x_in
or_and-requires-clause-x_in c = c.requires.a_in.low

pub or_and-requires-clause-y_in : goal.or_and-requires-clause-y_in
or_and-requires-clause-y_in c = c.requires.a_in.up

pub or_and-requires-clause-z_in : goal.or_and-requires-clause-z_in
or_and-requires-clause-z_in c = c.requires.a_in.low

pub returns-clause-grew : goal.returns-clause-grew
returns-clause-grew c = c.or_and.ensures.grew

pub returns-clause-within : goal.returns-clause-within
returns-clause-within c = c.or_and.ensures.within

pub returns-clause-value : goal.returns-clause-value
returns-clause-value c = c.or_and.ensures.value
