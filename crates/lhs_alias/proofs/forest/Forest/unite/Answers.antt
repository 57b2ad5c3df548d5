use Rattle.std.proofs.Common.{◌≡◌, ℕ, List, length, sym, ap, ◌∙◌, subst, arith}
use Rattle.std.specs.Vec.{with_items}
use Rattle.std.proofs.lemmas.List.{with_items_is}
use Rattle.lhs_alias.specs.Roots.{IsForest, firsts_of, merged}
use Rattle.lhs_alias.proofs.Trees.{length-firsts_of, forest-same}
use Rattle.lhs_alias.proofs.forest.Forest.unite.Goals as goal

pub unite_trees-requires-clause-from : goal.unite_trees-requires-clause-from
unite_trees-requires-clause-from c =
    omega (arith, c.requires.from, ap length c.self.view_is, length-firsts_of c.self.inside.links.items c.self.inside.firsts.items, ap length c.deref_mut.ensures.value)

pub unite_trees-requires-clause-to : goal.unite_trees-requires-clause-to
unite_trees-requires-clause-to c =
    omega (arith, c.requires.to, ap length c.self.view_is, length-firsts_of c.self.inside.links.items c.self.inside.firsts.items, ap length c.deref_mut.ensures.value)

pub unite_trees-requires-clause-forest : goal.unite_trees-requires-clause-forest
unite_trees-requires-clause-forest c =
    let inside = c.self.inside in
    forest-same inside.links.items c.deref_mut.result.now inside.sizes.items c.deref_mut-2.result.now inside.firsts.items c.deref_mut-3.result.now
    c.deref_mut.ensures.value c.deref_mut-2.ensures.value c.deref_mut-3.ensures.value c.self.invariant

pub invariant_of-self : goal.invariant_of-self
invariant_of-self c =
    let inside = c.self.inside in
    let new = c.unite_trees.new in
    forest-same new.links (with_items inside.links new.links).items new.sizes (with_items inside.sizes new.sizes).items new.firsts (with_items inside.firsts new.firsts).items
    (with_items_is inside.links new.links (c.unite_trees.auto.links ∙ c.deref_mut.ensures.len))
    (with_items_is inside.sizes new.sizes (c.unite_trees.auto.sizes ∙ c.deref_mut-2.ensures.len))
    (with_items_is inside.firsts new.firsts (c.unite_trees.auto.firsts ∙ c.deref_mut-3.ensures.len))
    c.unite_trees.ensures.forest

pub returns : goal.returns
returns c =
    let inside = c.self.inside in
    let new = c.unite_trees.new in
    let kept : firsts_of inside.links.items inside.firsts.items ≡ c.args.self.now = c.self.view_is in
    ap (λ (links : List ℕ). firsts_of links (with_items inside.firsts new.firsts).items) (with_items_is inside.links new.links (c.unite_trees.auto.links ∙ c.deref_mut.ensures.len))
    ∙ ap (λ (firsts : List ℕ). firsts_of new.links firsts) (with_items_is inside.firsts new.firsts (c.unite_trees.auto.firsts ∙ c.deref_mut-3.ensures.len))
    ∙ c.unite_trees.ensures.firsts
    ∙ ap (λ (links : List ℕ). merged (firsts_of links c.deref_mut-3.result.now) c.args.from c.args.to) c.deref_mut.ensures.value
    ∙ ap (λ (firsts : List ℕ). merged (firsts_of inside.links.items firsts) c.args.from c.args.to) c.deref_mut-3.ensures.value
    ∙ ap (λ (all : List ℕ). merged all c.args.from c.args.to) kept
