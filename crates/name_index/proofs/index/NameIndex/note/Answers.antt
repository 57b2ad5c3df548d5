use Rattle.std.proofs.Common.{◌∙◌, sym}
use Rattle.name_index.specs.declared.index.NameIndex.{NameIndex}
use Rattle.name_index.proofs.Indexes.{noted_ok, noted_before, none_from, some_from}
use Rattle.name_index.proofs.index.NameIndex.note.Goals as goal

pub returns : goal.returns
returns c =
    let now : NameIndex = record { numbers = c.put.new.self } in
    noted_ok c.put.result c.args.self.now now c.args.name.now c.args.number
    (sym c.number.ensures ∙ none_from c.number.result (sym c.is_some.ensures ∙ c.if-is_some.false)) c.put.ensures.ok

pub returns-then-is_some : goal.returns-then-is_some
returns-then-is_some c = λ names indexed count.
    let found = some_from c.number.result (sym c.is_some.ensures ∙ c.if-is_some.true) in
    noted_before c.args.self.now c.args.name.now names found.0 (sym c.number.ensures ∙ found.1) indexed
