use Rattle.std.proofs.Common.{List, ◌++◌, ◌∷◌, [], ap, ◌∙◌}
use Rattle.aig.specs.declared.gate.Gate.{Gate}
use Rattle.aig.specs.declared.gate.Gate.TheVariants.{False}
use Rattle.std.proofs.lemmas.Result.{IfOk-from_err}
use Rattle.aig.proofs.Linked.{kept_start}
use Rattle.aig.proofs.graph.Aig.new.Goals as goal

pub invariant_of-result : goal.invariant_of-result
invariant_of-result c =
    rw c.new.ensures (kept_start c.push_gate.new.gates.items c.push_gate.new.index (c.in_ok-push_gate.ensures.gates ∙ ap (λ (g : List Gate). g ++ False ∷ []) c.new-gates.ensures.items) c.push_gate.ensures.indexed)

pub returns-in_err-push_gate : goal.returns-in_err-push_gate
returns-in_err-push_gate c = IfOk-from_err _ _ c.from_residual.ensures.0
