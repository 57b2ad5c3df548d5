use Rattle.std.proofs.Common.{length, sym, ap, subst, arith}
use Rattle.std.specs.Prelude.{Contains}
use Rattle.idx_list.specs.Order.{Order}
use Rattle.idx_list.specs.Ring.{items_of}
use Rattle.idx_list.proofs.Rings.{item-within, next-answers}
use Rattle.idx_list.proofs.Chains.{Has-from_Contains}
use Rattle.idx_list.proofs.list.IdxList.next.Goals as goal

pub number_after-requires : goal.number_after-requires
number_after-requires c =
    let links = c.self.inside.links.items in
    let P : Order → Type 0 = λ order. Contains order.items c.args.x in
    let there = Has-from_Contains (items_of links) c.args.x (subst P (sym c.self.view_is) c.requires) in
    omega (arith, item-within links (items_of links) c.args.x c.self.invariant there, ap length c.deref.ensures.value)

pub returns-clause-last : goal.returns-clause-last
returns-clause-last c =
    (next-answers c.self.inside.links.items c.deref.result.now c.args.self.now c.args.x c.number_after.result c.self.view_is c.deref.ensures.value c.self.invariant c.requires c.number_after.ensures.none c.number_after.ensures.some).0

pub returns-clause-after : goal.returns-clause-after
returns-clause-after c =
    (next-answers c.self.inside.links.items c.deref.result.now c.args.self.now c.args.x c.number_after.result c.self.view_is c.deref.ensures.value c.self.invariant c.requires c.number_after.ensures.none c.number_after.ensures.some).1
