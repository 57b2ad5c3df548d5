use Rattle.std.proofs.lemmas.Result.{IfOk-from_err}
use Rattle.std.proofs.Common.{◌≡◌, [], List, Vec, Global, length, sym, ap, subst, ◌∙◌}
use Rattle.std.specs.List.{All}
use Rattle.event_nets.specs.declared.gift.Gift.{Gift}
use Rattle.event_nets.specs.Needs.{gift_rows}
use Rattle.event_nets.proofs.Backs.{slice_back}
use Rattle.event_nets.proofs.needs.given_by_net.Goals as goal

pub returns-in_err-given-clause-given : goal.returns-in_err-given-clause-given
returns-in_err-given-clause-given c = IfOk-from_err _ _ c.from_residual.ensures.0

pub returns-in_err-given-clause-len : goal.returns-in_err-given-clause-len
returns-in_err-given-clause-len c = IfOk-from_err _ _ c.from_residual.ensures.0

pub returns-in_err-put_all-clause-given : goal.returns-in_err-put_all-clause-given
returns-in_err-put_all-clause-given c = IfOk-from_err _ _ c.from_residual-in_err-put_all.ensures.0

pub returns-in_err-put_all-clause-len : goal.returns-in_err-put_all-clause-len
returns-in_err-put_all-clause-len c = IfOk-from_err _ _ c.from_residual-in_err-put_all.ensures.0

pub put_all-requires-clause-gifts : goal.put_all-requires-clause-gifts
put_all-requires-clause-gifts c = c.requires.gifts

pub put_all-requires-clause-len : goal.put_all-requires-clause-len
put_all-requires-clause-len c = ap (λ (l : List (Vec Gift Global)). length l) c.deref_mut.ensures.value ∙ c.in_ok-given.ensures.len

pub put_all-requires-clause-lows : goal.put_all-requires-clause-lows
put_all-requires-clause-lows c = c.requires.lows

pub put_all-requires-clause-none : goal.put_all-requires-clause-none
put_all-requires-clause-none c = subst (λ (l : List (Vec Gift Global)). All (λ row. row ≡ []) (gift_rows l)) (sym c.deref_mut.ensures.value) c.in_ok-given.ensures.none

pub returns-clause-given : goal.returns-clause-given
returns-clause-given c = λ k lt.
    rw (slice_back c.in_ok-given.given.len c.put_all.new.given c.in_ok-given.given.items c.deref_mut.result.now c.in_ok-given.given.ok.0 c.put_all.auto.given c.deref_mut.ensures.value) (c.in_ok-put_all.ensures.given k lt)

pub returns-clause-len : goal.returns-clause-len
returns-clause-len c = ap (λ (l : List (Vec Gift Global)). length l) (slice_back c.in_ok-given.given.len c.put_all.new.given c.in_ok-given.given.items c.deref_mut.result.now c.in_ok-given.given.ok.0 c.put_all.auto.given c.deref_mut.ensures.value)
    ∙ c.in_ok-put_all.ensures.len
