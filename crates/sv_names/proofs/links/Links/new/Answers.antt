use Rattle.sv_names.proofs.Latest.{linked_none}
use Rattle.sv_names.proofs.links.Links.new.Goals as goal

pub returns : goal.returns
returns c = linked_none (record { latest = c.new.result; earlier = c.new-2.result }) c.new.ensures c.new-2.ensures.items
