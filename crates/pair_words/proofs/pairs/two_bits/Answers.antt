use Rattle.pair_words.proofs.pairs.two_bits.Goals as goal

pub returns-in-And-clause-grew : goal.returns-in-And-clause-grew
returns-in-And-clause-grew c = rw c.in-And.is c.both.ensures.grew

pub returns-in-And-clause-within : goal.returns-in-And-clause-within
returns-in-And-clause-within c = c.both.ensures.within

pub returns-in-And-clause-value : goal.returns-in-And-clause-value
returns-in-And-clause-value c = rw c.in-And.is c.both.ensures.value

pub both-requires-clause-a_in : goal.both-requires-clause-a_in
both-requires-clause-a_in c = c.requires.a_in

pub both-requires-clause-b_in : goal.both-requires-clause-b_in
both-requires-clause-b_in c = c.requires.b_in

pub returns-in-Or-clause-grew : goal.returns-in-Or-clause-grew
returns-in-Or-clause-grew c = rw c.in-Or.is c.either.ensures.grew

pub returns-in-Or-clause-within : goal.returns-in-Or-clause-within
returns-in-Or-clause-within c = c.either.ensures.within

pub returns-in-Or-clause-value : goal.returns-in-Or-clause-value
returns-in-Or-clause-value c = rw c.in-Or.is c.either.ensures.value

pub either-requires-clause-a_in : goal.either-requires-clause-a_in
either-requires-clause-a_in c = c.requires.a_in

pub either-requires-clause-b_in : goal.either-requires-clause-b_in
either-requires-clause-b_in c = c.requires.b_in

pub returns-in-Xor-clause-grew : goal.returns-in-Xor-clause-grew
returns-in-Xor-clause-grew c = rw c.in-Xor.is c.differ.ensures.grew

pub returns-in-Xor-clause-within : goal.returns-in-Xor-clause-within
returns-in-Xor-clause-within c = c.differ.ensures.within

pub returns-in-Xor-clause-value : goal.returns-in-Xor-clause-value
returns-in-Xor-clause-value c = rw c.in-Xor.is c.differ.ensures.value

pub differ-requires-clause-a_in : goal.differ-requires-clause-a_in
differ-requires-clause-a_in c = c.requires.a_in

pub differ-requires-clause-b_in : goal.differ-requires-clause-b_in
differ-requires-clause-b_in c = c.requires.b_in

pub returns-in-Res-clause-grew : goal.returns-in-Res-clause-grew
returns-in-Res-clause-grew c = rw c.in-Res.is c.resolved.ensures.grew

pub returns-in-Res-clause-within : goal.returns-in-Res-clause-within
returns-in-Res-clause-within c = c.resolved.ensures.within

pub returns-in-Res-clause-value : goal.returns-in-Res-clause-value
returns-in-Res-clause-value c = rw c.in-Res.is c.resolved.ensures.value

pub resolved-requires-clause-a_in : goal.resolved-requires-clause-a_in
resolved-requires-clause-a_in c = c.requires.a_in

pub resolved-requires-clause-b_in : goal.resolved-requires-clause-b_in
resolved-requires-clause-b_in c = c.requires.b_in

pub returns-in-Merge-clause-grew : goal.returns-in-Merge-clause-grew
returns-in-Merge-clause-grew c = rw c.in-Merge.is c.merged.ensures.grew

pub returns-in-Merge-clause-within : goal.returns-in-Merge-clause-within
returns-in-Merge-clause-within c = c.merged.ensures.within

pub returns-in-Merge-clause-value : goal.returns-in-Merge-clause-value
returns-in-Merge-clause-value c = rw c.in-Merge.is c.merged.ensures.value

pub merged-requires-clause-a_in : goal.merged-requires-clause-a_in
merged-requires-clause-a_in c = c.requires.a_in

pub merged-requires-clause-b_in : goal.merged-requires-clause-b_in
merged-requires-clause-b_in c = c.requires.b_in

pub returns-in-Keep-clause-grew : goal.returns-in-Keep-clause-grew
returns-in-Keep-clause-grew c = rw c.in-Keep.is c.kept.ensures.grew

pub returns-in-Keep-clause-within : goal.returns-in-Keep-clause-within
returns-in-Keep-clause-within c = c.kept.ensures.within

pub returns-in-Keep-clause-value : goal.returns-in-Keep-clause-value
returns-in-Keep-clause-value c = rw c.in-Keep.is c.kept.ensures.value

pub kept-requires-clause-a_in : goal.kept-requires-clause-a_in
kept-requires-clause-a_in c = c.requires.a_in

pub kept-requires-clause-b_in : goal.kept-requires-clause-b_in
kept-requires-clause-b_in c = c.requires.b_in
