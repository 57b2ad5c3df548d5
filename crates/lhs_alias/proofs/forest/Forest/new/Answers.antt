use Rattle.std.proofs.Common.{◌≡◌, ◌∙◌, ap, replicate, arith}
use Rattle.std.specs.List.{range_with_len}
use Rattle.std.proofs.lemmas.Grind.{common_steps}
use Rattle.lhs_alias.specs.Roots.{firsts_of}
use Rattle.lhs_alias.proofs.Trees.{forest-new, firsts_of-new}
use Rattle.lhs_alias.proofs.forest.Forest.new.Goals as goal

pub invariant_of-result : goal.invariant_of-result
invariant_of-result c =
    let sizes : c.in_ok-vec.field-0.items ≡ replicate c.args.count 1 = grind (arith, common_steps) in
    rw (c.in_ok-numbers_below.ensures, sizes, c.in_ok-numbers_below-2.ensures) (forest-new c.args.count)

pub returns : goal.returns
returns c =
    let links = c.in_ok-numbers_below.field-0.items in
    let firsts = c.in_ok-numbers_below-2.field-0.items in
    ap (λ s. firsts_of s firsts) c.in_ok-numbers_below.ensures
    ∙ ap (λ s. firsts_of (range_with_len 0 c.args.count) s) c.in_ok-numbers_below-2.ensures
    ∙ firsts_of-new c.args.count
