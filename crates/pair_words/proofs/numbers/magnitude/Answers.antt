use Rattle.std.proofs.Common.{false}
use Rattle.aig.specs.Graph.{constant_lit}
use Rattle.aig_words.proofs.Grown.{if_ok}
use Rattle.pair_words.proofs.Truths.{negative_is, magnitude_is}
use Rattle.pair_words.proofs.numbers.magnitude.Goals as goal

pub turned-requires-clause-some : goal.turned-requires-clause-some
turned-requires-clause-some c = c.requires.some

pub turned-requires-clause-a_in : goal.turned-requires-clause-a_in
turned-requires-clause-a_in c = c.requires.a_in

pub returns-clause-grew : goal.returns-clause-grew
returns-clause-grew c = c.turned.ensures.grew

pub returns-clause-word : goal.returns-clause-word
returns-clause-word c = c.turned.ensures.word

pub returns-clause-value : goal.returns-clause-value
returns-clause-value c = if_ok c.turned.result _ _ c.turned.ensures.value (λ r h v o.
    let a = c.args.a.now in
    magnitude_is v a r.items _ (negative_is v a (constant_lit false) c.requires.some) (h v o))
