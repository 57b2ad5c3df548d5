use Rattle.std.proofs.Common.{◌<◌, ◌∙◌, sym, subst, arith}
use Rattle.svtv_table.proofs.Listed.{listed_long, width_there}
use Rattle.svtv_table.proofs.names.width_under.Goals as goal

pub index-requires : goal.index-requires
index-requires c = omega (arith, c.in-Some.ensures.within, listed_long c.args.variables.now, c.args.variables.now.list.ok.0)

pub returns-in-Some : goal.returns-in-Some
returns-in-Some c =
    let all = c.args.variables.now in
    width_there all c.args.name.now c.in-Some.number c.index.result.now (sym c.number_of.ensures.is ∙ c.in-Some.is)
    (subst (λ long. c.in-Some.number < long) (listed_long all) c.in-Some.ensures.within) c.index.ensures
