use Rattle.std.proofs.Common.{◌≡◌, sym, ap, inl, inr, get_or, arith}
use Rattle.lhs_alias.specs.Roots.{root_of, IsLinkable}
use Rattle.lhs_alias.proofs.Trees.{sized-ends, firsts_of-same, firsts_of-hung, linkable_high, linkable_low}
use Rattle.lhs_alias.proofs.forest.unite_trees.Goals as goal

pub root-from-requires-clause-end : goal.root-from-requires-clause-end
root-from-requires-clause-end c = sized-ends _ _ c.requires.forest.sized

pub root-to-requires-clause-end : goal.root-to-requires-clause-end
root-to-requires-clause-end c = sized-ends _ _ c.requires.forest.sized

pub returns-then-from-to-clause-firsts : goal.returns-then-from-to-clause-firsts
returns-then-from-to-clause-firsts c = firsts_of-same c.args.links.now c.args.firsts.now c.args.from c.args.to c.requires.from c.requires.to cc

pub returns-then-sizes-from-clause-firsts : goal.returns-then-sizes-from-clause-firsts
returns-then-sizes-from-clause-firsts c =
    let links = c.args.links.now in
    let firsts = c.args.firsts.now in
    let low = c.root-from.result in
    let high = c.root-to.result in
    let at_from : low ≡ root_of links c.args.from = c.root-from.ensures.value in
    let at_to : high ≡ root_of links c.args.to = c.root-to.ensures.value in
    let linkable : IsLinkable links c.args.sizes.now low high (get_or firsts high 0) =
    linkable_high links c.args.sizes.now firsts low high c.requires.forest c.root-from.ensures.within c.root-to.ensures.within c.root-from.ensures.root c.root-to.ensures.root c.if-from-to.false c.if-sizes-from.true in
    firsts_of-hung links _ firsts _ _ low high (get_or firsts high 0) c.args.from c.args.to
    c.requires.forest c.requires.from c.requires.to linkable (ap (λ r. get_or firsts r 0) at_to) (inl (at_from, at_to))
    c.hang.ensures.links c.hang.ensures.firsts

pub returns-else-sizes-from-clause-firsts : goal.returns-else-sizes-from-clause-firsts
returns-else-sizes-from-clause-firsts c =
    let links = c.args.links.now in
    let firsts = c.args.firsts.now in
    let low = c.root-to.result in
    let high = c.root-from.result in
    let at_from : high ≡ root_of links c.args.from = c.root-from.ensures.value in
    let at_to : low ≡ root_of links c.args.to = c.root-to.ensures.value in
    let linkable : IsLinkable links c.args.sizes.now low high (get_or firsts low 0) =
    linkable_low links c.args.sizes.now firsts low high c.requires.forest c.root-to.ensures.within c.root-from.ensures.within c.root-to.ensures.root c.root-from.ensures.root (λ e. c.if-from-to.false (sym e)) (omega (arith, c.if-sizes-from.false)) in
    firsts_of-hung links _ firsts _ _ low high (get_or firsts low 0) c.args.from c.args.to
    c.requires.forest c.requires.from c.requires.to linkable (ap (λ r. get_or firsts r 0) at_to) (inr (at_to, at_from))
    c.hang-else-sizes-from.ensures.links c.hang-else-sizes-from.ensures.firsts

pub hang-requires : goal.hang-requires
hang-requires c = record {
  forest = c.requires.forest;
  linkable = linkable_high c.args.links.now c.args.sizes.now c.args.firsts.now _ _ c.requires.forest c.root-from.ensures.within c.root-to.ensures.within c.root-from.ensures.root c.root-to.ensures.root c.if-from-to.false c.if-sizes-from.true;
}

pub hang-requires-else-sizes-from : goal.hang-requires-else-sizes-from
hang-requires-else-sizes-from c = record {
  forest = c.requires.forest;
  linkable = linkable_low c.args.links.now c.args.sizes.now c.args.firsts.now _ _ c.requires.forest c.root-to.ensures.within c.root-from.ensures.within c.root-to.ensures.root c.root-from.ensures.root (λ e. c.if-from-to.false (sym e)) (omega (arith, c.if-sizes-from.false));
}
