use Rattle.std.proofs.Common.{◌∙◌}
use Rattle.event_nets.proofs.Gathering.{gift_row}
use Rattle.event_nets.proofs.tables.Tables.given_to.Goals as goal

pub returns : goal.returns
returns c = c.as_slice.ensures.value ∙ gift_row c.args.self.now.given.items c.args.low c.index.result.now c.requires c.index.ensures
