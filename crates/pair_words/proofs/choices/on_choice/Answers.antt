use Rattle.pair_words.proofs.choices.on_choice.Goals as goal

pub returns-then-eq-clause-word : goal.returns-then-eq-clause-word
returns-then-eq-clause-word c = c.pick_vector.ensures.word

pub pick_vector-requires-clause-same : goal.pick_vector-requires-clause-same
pick_vector-requires-clause-same c = c.requires.same

pub pick_vector-requires-clause-a_in : goal.pick_vector-requires-clause-a_in
pick_vector-requires-clause-a_in c = c.requires.a_in

pub pick_vector-requires-clause-b_in : goal.pick_vector-requires-clause-b_in
pick_vector-requires-clause-b_in c = c.requires.b_in

pub returns-else-eq-clause-grew : goal.returns-else-eq-clause-grew
returns-else-eq-clause-grew c = c.joined_choice.ensures.grew

pub returns-else-eq-clause-word : goal.returns-else-eq-clause-word
returns-else-eq-clause-word c = c.joined_choice.ensures.word

pub returns-else-eq-clause-value : goal.returns-else-eq-clause-value
returns-else-eq-clause-value c = c.joined_choice.ensures.value

pub joined_choice-requires-clause-same : goal.joined_choice-requires-clause-same
joined_choice-requires-clause-same c = c.requires.same

pub joined_choice-requires-clause-a_in : goal.joined_choice-requires-clause-a_in
joined_choice-requires-clause-a_in c = c.requires.a_in

pub joined_choice-requires-clause-b_in : goal.joined_choice-requires-clause-b_in
joined_choice-requires-clause-b_in c = c.requires.b_in

pub joined_choice-requires-clause-some : goal.joined_choice-requires-clause-some
joined_choice-requires-clause-some c = c.requires.some

pub joined_choice-requires-clause-c_in : goal.joined_choice-requires-clause-c_in
joined_choice-requires-clause-c_in c = c.requires.c_in

pub pick_vector-requires-clause-c_in : goal.pick_vector-requires-clause-c_in
pick_vector-requires-clause-c_in c = c.requires.c_in.up
