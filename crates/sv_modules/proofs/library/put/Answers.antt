use Rattle.std.proofs.Common.{◌∙◌, sym}
use Rattle.sv_modules.proofs.Named.{none_from, put_new}
use Rattle.sv_modules.proofs.library.put.Goals as goal

pub returns : goal.returns
returns c =
    put_new c.args.numbers.now c.note.new.self c.args.trees.now.items c.push.new.self.items c.args.tree c.bytes-name.result.now c.len.result
    (sym c.number.ensures ∙ none_from c.number.result (sym c.is_some.ensures ∙ c.if-is_some.false)) c.bytes-name.ensures (c.len.ensures ∙ c.args.trees.now.ok.0) c.in_ok-push.ensures.items c.in_ok-note.ensures
