use Rattle.std.proofs.lemmas.Result.{IfOk-from_err}
use Rattle.std.proofs.Common.{◌≡◌, true, eqb, sym, ◌∙◌, arith}
use Rattle.std.proofs.lemmas.Bool.Decides.{nat_tests}
use Rattle.sv_blocks.proofs.Merging.{chosen_same, chosen_pick}
use Rattle.sv_blocks.proofs.choices.chosen.Goals as goal

pub returns-then-eq-clause-ok : goal.returns-then-eq-clause-ok
returns-then-eq-clause-ok c =
    let t : eqb c.args.a c.args.b ≡ true = sym c.eq.ensures ∙ c.if-eq.true in
    let e : c.args.a ≡ c.args.b = grind (arith, nat_tests, t) in
    chosen_same _ _ _ _ c.requires.a e

pub returns-clause-ok : goal.returns-clause-ok
returns-clause-ok c = chosen_pick _ _ _ _ _ _ c.in_ok-node.ensures.ok

pub returns-in_err-node-clause-ok : goal.returns-in_err-node-clause-ok
returns-in_err-node-clause-ok c = IfOk-from_err _ _ c.from_residual.ensures.0
