use Rattle.std.proofs.Common.{◌≡◌, get_or, arith}
use Rattle.std.proofs.lemmas.List.{get_or-map}
use Rattle.svtv_table.specs.declared.bound.VarDecl.{VarDecl}
use Rattle.svtv_induct.specs.States.{width_of_var}
use Rattle.svtv_induct.proofs.Nodes.{bit_is, variable_wide}
use Rattle.svtv_induct.proofs.state.bit_of_variable.Goals as goal

pub intern-requires-2-clause-fits : goal.intern-requires-2-clause-fits
intern-requires-2-clause-fits c =
    let wide : width_of_var c.args.vars.now c.args.number ≡ (get_or c.args.vars.now c.args.number c.index-vars-number.result).width =
    get_or-map (λ (v : VarDecl). v.width) c.args.vars.now c.args.number c.index-vars-number.result 0 c.requires.there in
    let sized = variable_wide c.args.arena.now c.intern.new.self c.args.number _ c.in_ok-whole.whole c.intern.ensures.arena c.in_ok-whole.ensures.is in
    (omega arith, let s = c.requires.some in omega (arith, s, wide, sized))

pub returns-clause-is : goal.returns-clause-is
returns-clause-is c =
    let wide : width_of_var c.args.vars.now c.args.number ≡ (get_or c.args.vars.now c.args.number c.index-vars-number.result).width =
    get_or-map (λ (v : VarDecl). v.width) c.args.vars.now c.args.number c.index-vars-number.result 0 c.requires.there in
    bit_is c.args.arena.now c.intern.new.self c.intern-2.new.self c.args.vars.now c.args.number _ c.args.at c.in_ok-whole.whole c.intern-2.result c.intern.ensures.arena c.intern-2.ensures.arena c.intern-2.ensures.extends c.in_ok-whole.ensures.is
    c.requires.there wide (let s = c.requires.some in omega (arith, s, wide)) c.intern-2.ensures.is
