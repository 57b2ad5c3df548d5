use Rattle.std.proofs.Common.{◌-◌, arith}
use Rattle.sv_names.specs.Kinds.{what_is}
use Rattle.sv_names.proofs.Lookups.{found_frame_above, passed_frame_above, no_frame_above}
use Rattle.sv_names.proofs.names.found_above_in.Goals as goal

pub returns-in-Some-clause-is : goal.returns-in-Some-clause-is
returns-in-Some-clause-is c =
    found_frame_above c.args.name.now c.args.frames.now c.frames.at (c.frames.at - 1) c.index-frames-at.result (what_is c.in-Some.what.now) _ (omega arith) (omega arith) c.index-frames-at.is c.in-Some.ensures.is c.frames.invariant.rest

pub frames-preserved : goal.frames-preserved
frames-preserved c = record {
  within = omega arith;
  rest = passed_frame_above c.args.name.now c.args.frames.now c.frames.at (c.frames.at - 1) c.index-frames-at.result _ (omega arith) (omega arith) c.index-frames-at.is c.in-None.ensures.is c.frames.invariant.rest;
}

pub returns-clause-is : goal.returns-clause-is
returns-clause-is c = no_frame_above c.args.name.now c.args.frames.now c.frames.at _ (omega arith) c.frames.invariant.rest
