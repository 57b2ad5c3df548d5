use Rattle.std.proofs.Common.{◌≡◌, List, [], ◌∷◌, arith, subst}
use Rattle.std.proofs.lemmas.List.{get_or-map}
use Rattle.fourvec.specs.declared.Bit.{Bit}
use Rattle.svex_arena.proofs.Keeping.{extends_on}
use Rattle.svtv_table.specs.declared.bound.VarDecl.{VarDecl}
use Rattle.svtv_unroll.specs.Unrolled.{vector_of}
use Rattle.svtv_induct.specs.States.{HasValue, own_bits, width_of_var}
use Rattle.svtv_induct.proofs.Nodes.{own_more, value_kept, wide_in}
use Rattle.svtv_induct.proofs.state.own_node.Goals as goal

pub above-requires-clause-fits : goal.above-requires-clause-fits
above-requires-clause-fits c =
    let one = c.in_ok-bit.ensures.is.over.wide in
    let made = wide_in c.made_bit-in-bits.ensures.extends c.bits.invariant.made in
    let wide = get_or-map (λ (v : VarDecl). v.width) c.args.vars.now c.args.first c.index-vars-first.result 0 c.requires.first in
    let test = c.bits-test.true in
    omega (arith, one, made, wide, test, c.requires.width.1)

pub bits-preserved : goal.bits-preserved
bits-preserved c =
    let vars = c.args.vars.now in
    let first = c.args.first in
    let second = c.args.second in
    let at = c.bits.at in
    let i = c.bits.invariant in
    let front : List (List Bit) → List Bit = λ choice. vector_of (own_bits first second choice) at in
    let one : List (List Bit) → List Bit = λ choice. own_bits first second choice at ∷ [] in
    let made = value_kept vars c.bits.arena c.made_bit-in-bits.new.arena at c.bits.made front c.made_bit-in-bits.ensures.extends i.made in
    record {
      made = own_more vars c.above.new.arena first second at c.in_ok-made-2.made (c.in_ok-made-2.ensures.is vars 1 at one front c.in_ok-bit.ensures.is made);
      extends = extends_on c.args.arena.now c.bits.arena c.above.new.arena i.extends (extends_on c.bits.arena c.made_bit-in-bits.new.arena c.above.new.arena c.made_bit-in-bits.ensures.extends c.above.ensures.extends);
      arena = c.above.ensures.arena;
    }

pub returns-clause-is : goal.returns-clause-is
returns-clause-is c =
    let vars = c.args.vars.now in
    let first = c.args.first in
    let wide = get_or-map (λ (v : VarDecl). v.width) vars first c.index-vars-first.result 0 c.requires.first in
    let past = c.bits-test.false in
    let within = c.bits.auto.at-end (omega (arith, wide, c.requires.width.0)) in
    let same : c.bits.at ≡ width_of_var vars first = omega (arith, past, within, wide) in
    subst (λ k. HasValue vars c.bits.arena k (λ choice. vector_of (own_bits first c.args.second choice) k) c.bits.made) same c.bits.invariant.made
