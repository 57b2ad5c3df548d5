use Rattle.name_index.proofs.Placing.{under_none}
use Rattle.name_index.proofs.map.NameMap.new.Goals as goal

pub returns : goal.returns
returns c = under_none (record { alloc = c.args.alloc; values = c.with_hasher.result }) c.with_hasher.ensures.empty
