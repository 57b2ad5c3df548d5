use Rattle.std.proofs.Common.{◌≡◌, ◌∷◌, List, length, sym, ap, subst, ◌∙◌, arith}
use Rattle.idx_list.specs.declared.list.Link.{Link}
use Rattle.idx_list.specs.Ring.{next_of, end_of, items_of, linked, IsRing}
use Rattle.idx_list.proofs.Chains.{Contains-from_Has}
use Rattle.idx_list.proofs.Rings.{length-linked, first-within, ring-front}
use Rattle.idx_list.proofs.list.put_front.Goals as goal

pub connect-requires-2-clause-before : goal.connect-requires-2-clause-before
connect-requires-2-clause-before c =
    let long : length c.connect.new.links ≡ length c.args.links.now = ap length c.connect.ensures ∙ length-linked c.args.links.now _ _ in
    omega (arith, long, c.requires.below)

pub connect-requires-2-clause-after : goal.connect-requires-2-clause-after
unfolding next_of
connect-requires-2-clause-after c =
    let long : length c.connect.new.links ≡ length c.args.links.now = ap length c.connect.ensures ∙ length-linked c.args.links.now _ _ in
    omega (arith, long, first-within c.args.links.now (items_of c.args.links.now) c.requires.ring)

pub returns : goal.returns
unfolding next_of
returns c =
    let links = c.args.links.now in
    let x = c.args.x in
    let ring = ring-front links (items_of links) x c.requires.ring c.requires.below (λ h. c.requires.absent (Contains-from_Has (items_of links) x h)) in
    let P : List Link → Type 0 = λ l. IsRing l (x ∷ items_of links) in
    subst P (sym (c.connect-2.ensures ∙ ap (λ l. linked l x (next_of links (end_of links))) c.connect.ensures)) ring
