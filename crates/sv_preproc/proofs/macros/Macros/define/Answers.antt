use Rattle.std.proofs.Common.{◌≡◌, ◌∙◌, ap, arith, Some}
use Rattle.std.specs.Map.{update}
use Rattle.std.specs.Str.{bytes_eq}
use Rattle.std.proofs.lemmas.Grind.{common_steps}
use Rattle.sv_preproc.specs.declared.macros.Macros.{Macros}
use Rattle.sv_preproc.specs.Seen.{texts}
use Rattle.sv_preproc.proofs.Texts.{updated}
use Rattle.sv_preproc.proofs.macros.Macros.define.Goals as goal

pub returns : goal.returns
returns c =
    let key : c.in_ok-key.key.items ≡ c.args.name.now = grind (arith, common_steps) in
    let now : Macros = record { alloc = c.args.self.now.alloc; texts = c.insert.new.self } in
    updated c.args.self.now now c.in_ok-key.key.items (Some c.args.text) c.in_ok-insert.ensures.updates
    ∙ ap (λ name. update bytes_eq (texts c.args.self.now) name (Some c.args.text.items)) key
