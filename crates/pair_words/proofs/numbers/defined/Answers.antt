use Rattle.pair_words.proofs.numbers.defined.Goals as goal

pub returns-in-Div-clause-grew : goal.returns-in-Div-clause-grew
returns-in-Div-clause-grew c = c.some.ensures.grew

pub returns-in-Div-clause-within : goal.returns-in-Div-clause-within
returns-in-Div-clause-within c = c.some.ensures.within

pub returns-in-Div-clause-value : goal.returns-in-Div-clause-value
returns-in-Div-clause-value c = rw c.in-Div.is c.some.ensures.value

pub some-requires-clause-some : goal.some-requires-clause-some
some-requires-clause-some c = c.requires.some

pub some-requires-clause-b_in : goal.some-requires-clause-b_in
some-requires-clause-b_in c = c.requires.b_in

pub returns-in-Rem-clause-grew : goal.returns-in-Rem-clause-grew
returns-in-Rem-clause-grew c = c.some-in-Rem.ensures.grew

pub returns-in-Rem-clause-within : goal.returns-in-Rem-clause-within
returns-in-Rem-clause-within c = c.some-in-Rem.ensures.within

pub returns-in-Rem-clause-value : goal.returns-in-Rem-clause-value
returns-in-Rem-clause-value c = rw c.in-Rem.is c.some-in-Rem.ensures.value

pub some-requires-in-Rem-clause-some : goal.some-requires-in-Rem-clause-some
some-requires-in-Rem-clause-some c = c.requires.some

pub some-requires-in-Rem-clause-b_in : goal.some-requires-in-Rem-clause-b_in
some-requires-in-Rem-clause-b_in c = c.requires.b_in

pub returns-in-Sdiv-clause-grew : goal.returns-in-Sdiv-clause-grew
returns-in-Sdiv-clause-grew c = c.some-in-Sdiv.ensures.grew

pub returns-in-Sdiv-clause-within : goal.returns-in-Sdiv-clause-within
returns-in-Sdiv-clause-within c = c.some-in-Sdiv.ensures.within

pub returns-in-Sdiv-clause-value : goal.returns-in-Sdiv-clause-value
returns-in-Sdiv-clause-value c = rw c.in-Sdiv.is c.some-in-Sdiv.ensures.value

pub some-requires-in-Sdiv-clause-some : goal.some-requires-in-Sdiv-clause-some
some-requires-in-Sdiv-clause-some c = c.requires.some

pub some-requires-in-Sdiv-clause-b_in : goal.some-requires-in-Sdiv-clause-b_in
some-requires-in-Sdiv-clause-b_in c = c.requires.b_in

pub returns-in-Srem-clause-grew : goal.returns-in-Srem-clause-grew
returns-in-Srem-clause-grew c = c.some-in-Srem.ensures.grew

pub returns-in-Srem-clause-within : goal.returns-in-Srem-clause-within
returns-in-Srem-clause-within c = c.some-in-Srem.ensures.within

pub returns-in-Srem-clause-value : goal.returns-in-Srem-clause-value
returns-in-Srem-clause-value c = rw c.in-Srem.is c.some-in-Srem.ensures.value

pub some-requires-in-Srem-clause-some : goal.some-requires-in-Srem-clause-some
some-requires-in-Srem-clause-some c = c.requires.some

pub some-requires-in-Srem-clause-b_in : goal.some-requires-in-Srem-clause-b_in
some-requires-in-Srem-clause-b_in c = c.requires.b_in
