use Rattle.std.proofs.Common.{◌≡◌, Some, false, true, ◌∙◌, ap}
use Rattle.std.specs.Option.{IsSome, is_some}
use Rattle.name_index.specs.Under.{under}
use Rattle.name_index.specs.declared.map.NameMap.{NameMap}
use Rattle.name_index.proofs.Placing.{puts}
use Rattle.name_index.proofs.map.NameMap.set.Goals as goal

pub returns-in-Some : goal.returns-in-Some
unfolding under
returns-in-Some c = λ some.
    let now : NameMap = record { alloc = c.args.self.now.alloc; values = c.get_mut.follows.lender c.args.value } in
    let there : IsSome (under c.args.self.now c.args.name.now) = some in
    puts c.args.self.now now c.args.name.now (Some c.args.value) ((c.get_mut.follows.holds c.args.value).3 there)

pub returns-in_default : goal.returns-in_default
unfolding under
returns-in_default c = λ some. let n : false ≡ true = ap is_some c.in_default.ensures.value ∙ some in cc
