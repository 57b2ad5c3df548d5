use Rattle.std.proofs.Common.{◌+◌, arith}
use Rattle.sv_types.proofs.Nested.{member_more, deepest_is}
use Rattle.sv_types.proofs.depth.depth_over.Goals as goal

pub fields-preserved : goal.fields-preserved
fields-preserved c = member_more c.args.fields.now c.fields.field-index (c.fields.field-index + 1) c.fields.found c.max-found.result c.field-item.result c.fields-test.true (omega arith) c.field-item.is c.requires c.max-found.ensures c.fields.invariant

pub returns : goal.returns
returns c = deepest_is c.args.fields.now c.fields.field-index c.fields.found c.min.result c.fields-test.false c.fields.invariant c.min.ensures
