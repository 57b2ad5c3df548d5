use Rattle.std.proofs.Common.{length, sym, ap, subst, arith}
use Rattle.std.specs.Prelude.{Contains}
use Rattle.idx_list.specs.Order.{Order}
use Rattle.idx_list.specs.Ring.{items_of}
use Rattle.idx_list.proofs.Rings.{item-within, prev-answers}
use Rattle.idx_list.proofs.Chains.{Has-from_Contains}
use Rattle.idx_list.proofs.list.IdxList.prev.Goals as goal

pub number_before-requires : goal.number_before-requires
number_before-requires c =
    let links = c.self.inside.links.items in
    let P : Order → Type 0 = λ order. Contains order.items c.args.x in
    let there = Has-from_Contains (items_of links) c.args.x (subst P (sym c.self.view_is) c.requires) in
    omega (arith, item-within links (items_of links) c.args.x c.self.invariant there, ap length c.deref.ensures.value)

pub returns-clause-first : goal.returns-clause-first
returns-clause-first c =
    (prev-answers c.self.inside.links.items c.deref.result.now c.args.self.now c.args.x c.number_before.result c.self.view_is c.deref.ensures.value c.self.invariant c.requires c.number_before.ensures.none c.number_before.ensures.some).0

pub returns-clause-before : goal.returns-clause-before
returns-clause-before c =
    (prev-answers c.self.inside.links.items c.deref.result.now c.args.self.now c.args.x c.number_before.result c.self.view_is c.deref.ensures.value c.self.invariant c.requires c.number_before.ensures.none c.number_before.ensures.some).1
