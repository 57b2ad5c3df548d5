use Rattle.sv_levels.proofs.Wired.{no_params, no_pins, wired}
use Rattle.sv_levels.proofs.library.wiring_of.Goals as goal
use Rattle.sv_levels.specs.Library.{IsWiring}
use Rattle.sv_levels.specs.Tasks.{child_is}

pub returns-in_err-params : goal.returns-in_err-params
returns-in_err-params c = λ at.
    no_params IsWiring at c.args.tree.now (child_is c.args.child.now) c.from_residual.result c.in_err-params.field-0.0 c.from_residual.ensures.1 (c.in_err-params.ensures at)

pub returns-in_err-pins : goal.returns-in_err-pins
returns-in_err-pins c = λ at.
    no_pins IsWiring at c.args.tree.now (child_is c.args.child.now) c.in_ok-params.params c.from_residual-in_err-pins.result c.in_err-pins.field-0.0 c.from_residual-in_err-pins.ensures.1 (c.in_ok-params.ensures at) (c.in_err-pins.ensures at)

pub returns : goal.returns
returns c = λ at.
    wired at c.args.tree.now (child_is c.args.child.now) (record { params = c.in_ok-params.params; pins = c.in_ok-pins.pins }) (c.in_ok-params.ensures at) (c.in_ok-pins.ensures at)
