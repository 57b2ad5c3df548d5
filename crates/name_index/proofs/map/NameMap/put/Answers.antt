use Rattle.std.proofs.Common.{◌≡◌, Some, arith}
use Rattle.std.proofs.lemmas.Grind.{common_steps}
use Rattle.name_index.specs.declared.map.NameMap.{NameMap}
use Rattle.name_index.proofs.Placing.{puts_at, keeps, on_err}
use Rattle.name_index.proofs.map.NameMap.put.Goals as goal

pub returns-clause-ok : goal.returns-clause-ok
returns-clause-ok c =
    let now : NameMap = record { alloc = c.args.self.now.alloc; values = c.insert.new.self } in
    let key : c.in_ok-key.key.items ≡ c.args.name.now = grind (arith, common_steps) in
    puts_at c.args.self.now now c.in_ok-key.key.items c.args.name.now (Some c.args.value) key c.in_ok-insert.ensures.updates

pub returns-in_err-insert-clause-err : goal.returns-in_err-insert-clause-err
returns-in_err-insert-clause-err c =
    let now : NameMap = record { alloc = c.args.self.now.alloc; values = c.insert.new.self } in
    on_err c.from_residual-in_err-insert.result _ (keeps c.args.self.now now c.in_err-insert.ensures.err)
