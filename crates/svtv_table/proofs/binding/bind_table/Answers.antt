use Rattle.std.proofs.lemmas.Result.{IfOk-from_err}
use Rattle.std.proofs.Common.{◌≡◌, [], List, subst}
use Rattle.std.specs.Prelude.{IfOk, OnOk, IfErr}
use Rattle.sv_outside.specs.declared.text.Signal.{Signal}
use Rattle.svtv_table.specs.Binding.{bind_faults, bound_of}
use Rattle.svtv_table.specs.Faults.{Stops}
use Rattle.svtv_table.proofs.binding.bind_table.Goals as goal

pub returns-clause-bound : goal.returns-clause-bound
returns-clause-bound c = subst (λ (ws : List Signal). IfOk c.bind_wires.result (λ bound. bound ≡ bound_of ws c.args.table.now)) c.in_ok-wires.ensures c.bind_wires.ensures.bound

pub returns-clause-fine : goal.returns-clause-fine
returns-clause-fine c = subst (λ (ws : List Signal). OnOk c.bind_wires.result (bind_faults ws c.args.table.now ≡ [])) c.in_ok-wires.ensures c.bind_wires.ensures.fine

pub returns-clause-err : goal.returns-clause-err
returns-clause-err c = subst (λ (ws : List Signal). IfErr c.bind_wires.result (Stops (bind_faults ws c.args.table.now))) c.in_ok-wires.ensures c.bind_wires.ensures.err

pub returns-in_err-wires-clause-bound : goal.returns-in_err-wires-clause-bound
returns-in_err-wires-clause-bound c = IfOk-from_err _ _ c.from_residual.ensures.0

pub returns-in_err-wires-clause-fine : goal.returns-in_err-wires-clause-fine
returns-in_err-wires-clause-fine c = IfOk-from_err _ _ c.from_residual.ensures.0
