use Rattle.std.proofs.Common.{None}
use Rattle.sv_preproc.specs.declared.macros.Macros.{Macros}
use Rattle.sv_preproc.proofs.Texts.{updated}
use Rattle.sv_preproc.proofs.macros.Macros.forget.Goals as goal

pub returns : goal.returns
returns c =
    let now : Macros = record { alloc = c.args.self.now.alloc; texts = c.remove.new.self } in
    updated c.args.self.now now c.args.name.now None c.remove.ensures.updates
