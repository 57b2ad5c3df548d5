use Rattle.std.proofs.Common.{subst}
use Rattle.std.proofs.lemmas.Result.{err_from_is_err_and}
use Rattle.sv_names.specs.Cursors.{cursor_is}
use Rattle.sv_typing.specs.declared.chain.IndexRule.TheVariants.{Read}
use Rattle.sv_typing.specs.Picks.{rule_faults}
use Rattle.sv_typing.specs.Positions.{is_constant}
use Rattle.sv_typing.specs.Roots.{JudgesChain}
use Rattle.sv_typing.proofs.Naming.{name_ok, name_cause}
use Rattle.sv_typing.proofs.roots.named_by.Goals as goal

pub returns-in_err-chain : goal.returns-in_err-chain
returns-in_err-chain c = λ w what d at all h k.
    let p = err_from_is_err_and c.from_residual.result c.from_residual.ensures.1 in
    rw (p.1, p.2) (name_cause w what (is_constant d) at c.args.root all c.in_err-chain.field-0.0 h (subst (JudgesChain (rule_faults (Read d)) (cursor_is at) all) c.in_err-chain.was k))

pub returns : goal.returns
returns c = λ w what d at all h k.
    name_ok w what (is_constant d) at c.args.root all c.in_ok-chain.chain c.named.result h (subst (JudgesChain (rule_faults (Read d)) (cursor_is at) all) c.in_ok-chain.was k) c.named.ensures.stands c.named.ensures.sound
