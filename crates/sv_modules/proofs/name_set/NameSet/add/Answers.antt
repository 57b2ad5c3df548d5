use Rattle.sv_modules.specs.declared.name_set.NameSet.{NameSet}
use Rattle.sv_modules.proofs.Sets.{added}
use Rattle.sv_modules.proofs.name_set.NameSet.add.Goals as goal

pub returns : goal.returns
returns c =
    let now : NameSet = record { names = c.put.new.self } in
    added c.put.result c.args.self.now now c.args.name.now c.put.ensures.ok
