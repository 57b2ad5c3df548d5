use Rattle.std.proofs.Common.{◌∷◌, ℕ, ap, sym, refl, subst, ◌∙◌}
use Rattle.std.proofs.lemmas.Bool.{true≢false}
use Rattle.std.specs.Prelude.{Option, IsNone}
use Rattle.idx_list.specs.Ring.{items_of}
use Rattle.idx_list.proofs.Rings.{ring-own, items-of_ring, none-first, some-first}
use Rattle.idx_list.proofs.list.take_first.Goals as goal

pub returns-in_err-first-clause-none : goal.returns-in_err-first-clause-none
returns-in_err-first-clause-none c =
    let links = c.args.links.now in
    (λ _. none-first links (items_of links) c.requires (c.in_err-first.ensures.none.0 refl), λ _. (let P : Option ℕ → Type 0 = IsNone in subst P (sym c.from_residual.ensures) refl))

pub returns-clause-first : goal.returns-clause-first
returns-clause-first c =
    let links = c.args.links.now in
    let out = items-of_ring c.take_out.new.links _ c.take_out.ensures in
    some-first links (items_of links) c.in_ok-first.first c.requires c.in_ok-first.ensures.some (λ is. true≢false (c.in_ok-first.ensures.none.1 (c.in_ok-first.ensures.some ∙ is)))
    ∙ ap (λ s. c.in_ok-first.first ∷ s) (sym out)

pub returns-clause-ring : goal.returns-clause-ring
returns-clause-ring c = ring-own c.take_out.new.links _ c.take_out.ensures
