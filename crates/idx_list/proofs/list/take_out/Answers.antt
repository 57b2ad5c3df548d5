use Rattle.std.proofs.Common.{◌≡◌, List, length, sym, ap, subst, ◌∙◌, arith, rules}
use Rattle.idx_list.specs.declared.list.Link.{Link}
use Rattle.idx_list.specs.Order.{without}
use Rattle.idx_list.specs.Ring.{next_of, prev_of, items_of, linked, IsRing}
use Rattle.idx_list.proofs.Chains.{Has-from_Contains}
use Rattle.idx_list.proofs.Rings.{length-linked, item-within, prev-within, next-within, ring-without}
use Rattle.idx_list.proofs.list.take_out.Goals as goal

pub offset_bounds-links-x : goal.offset_bounds-links-x
offset_bounds-links-x c =
    let items = items_of c.args.links.now in
    let within = item-within c.args.links.now items c.args.x c.requires.ring (Has-from_Contains items c.args.x c.requires.there) in
    search rules

pub bounds-links-x-2 : goal.bounds-links-x-2
bounds-links-x-2 c =
    let items = items_of c.args.links.now in
    omega (arith, item-within c.args.links.now items c.args.x c.requires.ring (Has-from_Contains items c.args.x c.requires.there))

pub connect-requires-2-clause-after : goal.connect-requires-2-clause-after
connect-requires-2-clause-after c =
    let items = items_of c.args.links.now in
    let long : length c.connect.new.links ≡ length c.args.links.now = ap length c.connect.ensures ∙ length-linked c.args.links.now _ _ in
    omega (arith, long, item-within c.args.links.now items c.args.x c.requires.ring (Has-from_Contains items c.args.x c.requires.there))

pub bounds-links-x : goal.bounds-links-x
bounds-links-x c =
    let items = items_of c.args.links.now in
    omega (arith, item-within c.args.links.now items c.args.x c.requires.ring (Has-from_Contains items c.args.x c.requires.there))

pub connect-requires-clause-before : goal.connect-requires-clause-before
unfolding prev_of
connect-requires-clause-before c =
    let items = items_of c.args.links.now in
    prev-within c.args.links.now items c.args.x c.requires.ring (Has-from_Contains items c.args.x c.requires.there)

pub connect-requires-clause-after : goal.connect-requires-clause-after
unfolding next_of
connect-requires-clause-after c =
    let items = items_of c.args.links.now in
    next-within c.args.links.now items c.args.x c.requires.ring (Has-from_Contains items c.args.x c.requires.there)

pub connect-requires-2-clause-before : goal.connect-requires-2-clause-before
connect-requires-2-clause-before c =
    let items = items_of c.args.links.now in
    let long : length c.connect.new.links ≡ length c.args.links.now = ap length c.connect.ensures ∙ length-linked c.args.links.now _ _ in
    omega (arith, long, item-within c.args.links.now items c.args.x c.requires.ring (Has-from_Contains items c.args.x c.requires.there))

pub returns : goal.returns
unfolding prev_of next_of
returns c =
    let links = c.args.links.now in
    let x = c.args.x in
    let items = items_of links in
    let ring = ring-without links items x c.requires.ring (Has-from_Contains items x c.requires.there) in
    let P : List Link → Type 0 = λ l. IsRing l (without x items) in
    subst P (sym (c.connect-2.ensures ∙ ap (λ l. linked l x x) c.connect.ensures)) ring
