use Rattle.std.proofs.Common.{None}
use Rattle.name_index.specs.declared.map.NameMap.{NameMap}
use Rattle.name_index.proofs.Placing.{puts}
use Rattle.name_index.proofs.map.NameMap.remove.Goals as goal

pub returns : goal.returns
returns c =
    let now : NameMap = record { alloc = c.args.self.now.alloc; values = c.swap_remove.new.self } in
    puts c.args.self.now now c.args.name.now None c.swap_remove.ensures.updates
