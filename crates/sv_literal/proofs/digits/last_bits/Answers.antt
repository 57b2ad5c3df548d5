use Rattle.std.proofs.Common.{List, ℕ, sym, ap, ◌∙◌, arith}
use Rattle.std.proofs.lemmas.List.{take_all}
use Rattle.sv_literal.specs.Value.{given_bits, fitted}
use Rattle.sv_literal.proofs.Vectors.{fitted_none}
use Rattle.sv_literal.proofs.digits.last_bits.Goals as goal

pub loop-b-init : goal.loop-b-init
loop-b-init c = c.filled-last.ensures ∙ sym (fitted_none 128 c.args.each c.args.fill)

pub returns : goal.returns
returns c =
    c.loop-b.invariant ∙ ap (λ (t : List ℕ). fitted 128 c.args.fill (given_bits c.args.each t)) (take_all c.loop-b.b-index c.args.digits.now (omega arith))
