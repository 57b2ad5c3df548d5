use Rattle.std.proofs.Common.{◌≡◌, ◌∷◌, ◌++◌, [], List, false, is_some, sym, ap, ◌∙◌, length}
use Rattle.std.proofs.lemmas.Result.{IfOk-from_err}
use Rattle.svtv_table.specs.Indexing.{listed}
use Rattle.svtv_table.specs.Names.{number_of}
use Rattle.svtv_table.specs.declared.variables.Variable.{Variable}
use Rattle.svtv_table.proofs.Listed.{numbered_new, var_new, var_there}
use Rattle.svtv_table.proofs.names.add.Goals as goal

pub returns-then-is_some : goal.returns-then-is_some
returns-then-is_some c = var_there (listed c.args.variables.now) c.args.name.now c.args.width (sym (ap is_some c.number_of.ensures.is) ∙ sym c.is_some.ensures ∙ c.if-is_some.true)

pub invariant_of-variables-2 : goal.invariant_of-variables-2
invariant_of-variables-2 c =
    let old = c.args.variables.now in
    let v : Variable = record { name = c.bytes-name.result; width = c.args.width } in
    record {
      numbered = numbered_new old c.put.new.self v c.len.result c.push_reserved.new.self.items
          (ap (λ text. is_some (number_of (listed old) text)) c.bytes-name.ensures ∙ sym (ap is_some c.number_of.ensures.is) ∙ sym c.is_some.ensures ∙ c.if-is_some.false)
          c.in_ok-put.ensures.ok (c.len.ensures ∙ c.reserve.new.self.ok.0 ∙ ap length c.reserve.ensures.items)
          (c.push_reserved.ensures.items ∙ ap (λ (items : List Variable). items ++ v ∷ []) c.reserve.ensures.items);
    }

pub returns : goal.returns
returns c =
    let v : Variable = record { name = c.bytes-name.result; width = c.args.width } in
    var_new c.args.variables.now _ v c.args.name.now (c.push_reserved.ensures.items ∙ ap (λ (items : List Variable). items ++ v ∷ []) c.reserve.ensures.items) c.bytes-name.ensures
    (sym (ap is_some c.number_of.ensures.is) ∙ sym c.is_some.ensures ∙ c.if-is_some.false)

pub returns-in_err-reserve : goal.returns-in_err-reserve
returns-in_err-reserve c = IfOk-from_err _ _ c.from_residual.ensures.0

pub returns-in_err-put : goal.returns-in_err-put
returns-in_err-put c = IfOk-from_err _ _ c.from_residual-in_err-put.ensures.0
