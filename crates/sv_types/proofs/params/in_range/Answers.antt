use Rattle.sv_meaning.specs.Forms.{bounds}
use Rattle.sv_names.specs.Names.{constants_are}
use Rattle.sv_types.specs.Values.{width_in}
use Rattle.sv_types.proofs.Valuing.{width_of_result, width_refused, in_range, not_in_range}
use Rattle.sv_types.proofs.params.in_range.Goals as goal

pub returns-in-Ok : goal.returns-in-Ok
returns-in-Ok c =
    let k = bounds (constants_are c.args.names.now) c.args.range.now in
    in_range (width_in c.args.range.now.place k) c.args.signed c.in-Ok.width
    (width_of_result (width_in c.args.range.now.place k) c.range_width.result c.in-Ok.width c.in-Ok.is (c.range_width.ensures k c.bounds.ensures))

pub returns-in-Err : goal.returns-in-Err
returns-in-Err c =
    let k = bounds (constants_are c.args.names.now) c.args.range.now in
    not_in_range (width_in c.args.range.now.place k) c.args.signed c.in-Err.why
    (width_refused (width_in c.args.range.now.place k) c.range_width.result c.in-Err.why c.in-Err.is (c.range_width.ensures k c.bounds.ensures))

pub invariant_of-result : goal.invariant_of-result
invariant_of-result c =
    let k = bounds (constants_are c.args.names.now) c.args.range.now in
    let is = width_of_result (width_in c.args.range.now.place k) c.range_width.result c.in-Ok.width c.in-Ok.is (c.range_width.ensures k c.bounds.ensures) in
    record { some = is.some; most = is.most }
