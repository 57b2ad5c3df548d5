use Rattle.std.proofs.lemmas.Result.{IfOk-from_err}
use Rattle.std.proofs.Common.{◌<◌, ℕ, List, Bool, length, sym, ap, subst, ◌∙◌}
use Rattle.std.specs.List.{All}
use Rattle.event_nets.specs.declared.gift.Gift.{Gift}
use Rattle.event_nets.proofs.Backs.{slice_back}
use Rattle.event_nets.proofs.nets.driven_places.Goals as goal

pub returns-in_err-driven-clause-driven : goal.returns-in_err-driven-clause-driven
returns-in_err-driven-clause-driven c = IfOk-from_err _ _ c.from_residual.ensures.0

pub returns-in_err-driven-clause-len : goal.returns-in_err-driven-clause-len
returns-in_err-driven-clause-len c = IfOk-from_err _ _ c.from_residual.ensures.0

pub mark_driven-requires-clause-gifts : goal.mark_driven-requires-clause-gifts
mark_driven-requires-clause-gifts c = subst (λ (n : ℕ). All (λ (g : Gift). g.to < n) c.args.gifts.now)
    (sym (ap (λ (l : List Bool). length l) c.deref_mut.ensures.value ∙ sym c.in_ok-driven.driven.ok.0 ∙ c.in_ok-driven.ensures.len)) c.requires

pub returns-clause-driven : goal.returns-clause-driven
returns-clause-driven c = λ place lt.
    rw (slice_back c.in_ok-driven.driven.len c.mark_driven.new.driven c.in_ok-driven.driven.items c.deref_mut.result.now c.in_ok-driven.driven.ok.0 c.mark_driven.auto.driven c.deref_mut.ensures.value) (c.mark_driven.ensures place)

pub returns-clause-len : goal.returns-clause-len
returns-clause-len c = ap (λ (l : List Bool). length l) (slice_back c.in_ok-driven.driven.len c.mark_driven.new.driven c.in_ok-driven.driven.items c.deref_mut.result.now c.in_ok-driven.driven.ok.0 c.mark_driven.auto.driven c.deref_mut.ensures.value) ∙ c.mark_driven.auto.driven
    ∙ ap (λ (l : List Bool). length l) c.deref_mut.ensures.value ∙ sym c.in_ok-driven.driven.ok.0 ∙ c.in_ok-driven.ensures.len
