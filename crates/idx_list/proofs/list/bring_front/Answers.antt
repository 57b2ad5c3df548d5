use Rattle.std.proofs.Common.{◌∷◌, List, ℕ, subst, arith}
use Rattle.idx_list.specs.Ring.{Has, items_of, IsRing}
use Rattle.idx_list.proofs.Chains.{Has-from_Contains, without-has_not}
use Rattle.idx_list.proofs.Rings.{ring-own, items-of_ring, item-within}
use Rattle.idx_list.proofs.list.bring_front.Goals as goal

pub put_front-requires-clause-ring : goal.put_front-requires-clause-ring
put_front-requires-clause-ring c = ring-own c.take_out.new.links _ c.take_out.ensures

pub put_front-requires-clause-below : goal.put_front-requires-clause-below
put_front-requires-clause-below c =
    let links = c.args.links.now in
    let items = items_of links in
    omega (arith, c.take_out.auto.links, item-within links items c.args.x c.requires.ring (Has-from_Contains items c.args.x c.requires.there))

pub put_front-requires-clause-absent : goal.put_front-requires-clause-absent
put_front-requires-clause-absent c = λ there.
    let out = items-of_ring c.take_out.new.links _ c.take_out.ensures in
    let P : List ℕ → Type 0 = λ s. Has s c.args.x in
    without-has_not c.args.x (items_of c.args.links.now) (subst P out (Has-from_Contains _ c.args.x there))

pub returns : goal.returns
returns c =
    let out = items-of_ring c.take_out.new.links _ c.take_out.ensures in
    let P : List ℕ → Type 0 = λ s. IsRing c.put_front.new.links (c.args.x ∷ s) in
    subst P out c.put_front.ensures
