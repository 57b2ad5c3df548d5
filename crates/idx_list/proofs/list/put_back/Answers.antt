use Rattle.std.proofs.Common.{◌≡◌, ◌++◌, ◌∷◌, [], List, length, sym, ap, subst, ◌∙◌, arith}
use Rattle.idx_list.specs.declared.list.Link.{Link}
use Rattle.idx_list.specs.Ring.{prev_of, end_of, items_of, linked, IsRing}
use Rattle.idx_list.proofs.Chains.{Contains-from_Has}
use Rattle.idx_list.proofs.Rings.{length-linked, last-within, ring-back}
use Rattle.idx_list.proofs.list.put_back.Goals as goal

pub connect-requires-clause-before : goal.connect-requires-clause-before
unfolding prev_of
connect-requires-clause-before c = last-within c.args.links.now (items_of c.args.links.now) c.requires.ring

pub connect-requires-2-clause-before : goal.connect-requires-2-clause-before
connect-requires-2-clause-before c =
    let long : length c.connect.new.links ≡ length c.args.links.now = ap length c.connect.ensures ∙ length-linked c.args.links.now _ _ in
    omega (arith, long, c.requires.below)

pub returns : goal.returns
unfolding prev_of
returns c =
    let links = c.args.links.now in
    let x = c.args.x in
    let ring = ring-back links (items_of links) x c.requires.ring c.requires.below (λ h. c.requires.absent (Contains-from_Has (items_of links) x h)) in
    let P : List Link → Type 0 = λ l. IsRing l (items_of links ++ x ∷ []) in
    subst P (sym (c.connect-2.ensures ∙ ap (λ l. linked l x (end_of links)) c.connect.ensures)) ring
