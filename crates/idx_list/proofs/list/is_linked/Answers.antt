use Rattle.std.proofs.Common.{not, ap, inl, inr, arith}
use Rattle.std.proofs.lemmas.Bool.{ne_eqb, eq-eqb, ltb-true, both_ways}
use Rattle.idx_list.specs.Ring.{next_of, end_of, items_of}
use Rattle.idx_list.proofs.Chains.{Has-from_Contains, Contains-from_Has, has-or_not}
use Rattle.idx_list.proofs.Rings.{item-within, linked-apart}
use Rattle.idx_list.proofs.list.is_linked.Goals as goal

pub returns-then-x-links : goal.returns-then-x-links
unfolding next_of
returns-then-x-links c =
    let links = c.args.links.now in
    let items = items_of links in
    let x = c.args.x in (
      λ apart. elim (has-or_not items x) [
        | inl h ↦ Contains-from_Has items x h
        | inr none ↦ absurd (both_ways _ (ap not (eq-eqb (next_of links x) x (c.requires.alone x (omega arith) none))) apart)
      ],
      λ there. ap not (ne_eqb (next_of links x) x (linked-apart links items x c.requires (Has-from_Contains items x there))),
    )

pub returns-else-x-links : goal.returns-else-x-links
returns-else-x-links c =
    let links = c.args.links.now in
    let items = items_of links in
    let x = c.args.x in (
      λ below. absurd (omega (arith, ltb-true x (end_of links) below)),
      λ there. absurd (omega (arith, item-within links items x c.requires (Has-from_Contains items x there))),
    )
