use Rattle.sv_typed.proofs.Sound.{most_bits}
use Rattle.goal_text.proofs.Truths.{truth_made}
use Rattle.goal_text.proofs.lowering.truth_of.Goals as goal

pub lower-requires-clause-most : goal.lower-requires-clause-most
lower-requires-clause-most c = most_bits c.args.typed.now c.requires

pub returns-clause-ok : goal.returns-clause-ok
returns-clause-ok c =
    truth_made c.args.arena.now c.lower.new.arena c.intern.new.self c.args.typed.now c.in_ok-whole.whole c.in_ok-bit.bit c.in_ok-bit.ensures.arena c.in_ok-bit.ensures.extends
    c.in_ok-whole.ensures.within c.in_ok-whole.ensures.value c.in_ok-whole.ensures.mentions c.in_ok-bit.ensures.is
