use Rattle.svtv_least.proofs.Fitting.{samples_wide}
use Rattle.svtv_least.proofs.runner.Runner.new.Goals as goal

pub blank_values-requires : goal.blank_values-requires
blank_values-requires c = samples_wide c.args.flat.now.wires c.args.bound.now c.as_slice-4.result.now c.requires.flat.wires c.requires.bound c.as_slice-4.ensures

pub blank_values-requires-2 : goal.blank_values-requires-2
blank_values-requires-2 c = samples_wide c.args.flat.now.wires c.args.bound.now c.as_slice-5.result.now c.requires.flat.wires c.requires.bound c.as_slice-5.ensures
