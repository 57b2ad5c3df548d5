use Rattle.refute_check.proofs.Packs.{numbers_made}
use Rattle.refute_check.proofs.packing.numbers_of.Goals as goal

pub returns-clause-numbers : goal.returns-clause-numbers
returns-clause-numbers c = numbers_made _ _ _ _ _ _ _ _ c.in_ok-numbers.ensures.items c.in_ok-push.ensures.items c.in_ok-put_literals.ensures.put c.in_ok-put_hints.ensures.put c.of.ensures.is

pub returns-clause-count : goal.returns-clause-count
returns-clause-count c = c.of.ensures.back

pub returns-clause-literals : goal.returns-clause-literals
returns-clause-literals c = c.in_ok-put_literals.ensures.back

pub returns-clause-hints : goal.returns-clause-hints
returns-clause-hints c = c.in_ok-put_hints.ensures.back
