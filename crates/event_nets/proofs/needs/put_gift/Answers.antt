use Rattle.std.proofs.lemmas.Result.{IfOk-from_err}
use Rattle.std.proofs.Common.{ℕ, ◌<◌, List, length, subst, ◌++◌, ◌∷◌, [], cond, get_or, sym, ap, ◌∙◌, Vec, Global}
use Rattle.std.specs.Prelude.{Option, IfSome}
use Rattle.std.proofs.lemmas.List.{append-nil, get_or-map}
use Rattle.event_nets.specs.declared.gift.Gift.{Gift}
use Rattle.event_nets.specs.Runs.{is_at}
use Rattle.event_nets.specs.Needs.{gift_rows}
use Rattle.event_nets.proofs.Gathering.{gifts_set}
use Rattle.event_nets.proofs.needs.put_gift.Goals as goal

pub returns-in-None-clause-more : goal.returns-in-None-clause-more
returns-in-None-clause-more c = λ k lt.
    let row = get_or (gift_rows c.args.given.now) k [] in
    sym (append-nil row) ∙ ap (λ (o : Option ℕ). row ++ cond (is_at o k) (c.args.gift.now ∷ []) []) (sym c.in-None.is)

pub returns-in_ok-push-in-Some-clause-more : goal.returns-in_ok-push-in-Some-clause-more
returns-in_ok-push-in-Some-clause-more c = λ k kl.
    let given = c.args.given.now in
    let low = c.in-Some.low in
    let own : List Gift = c.args.gift.now ∷ [] in
    let lt : low < length given = subst (λ (o : Option ℕ). IfSome o (λ j. j < length given)) c.in-Some.is c.requires in
    let is = c.in_ok-push-in-Some.ensures.items ∙ ap (λ (l : List Gift). l ++ own) (sym (get_or-map (λ (w : Vec Gift Global). w.items) given low c.index-given-low.result [] lt)) in
    gifts_set given low c.push.new.self own lt is k kl
    ∙ ap (λ (o : Option ℕ). get_or (gift_rows given) k [] ++ cond (is_at o k) own []) (sym c.in-Some.is)

pub returns-in_err-push-in-Some-clause-len : goal.returns-in_err-push-in-Some-clause-len
returns-in_err-push-in-Some-clause-len c = IfOk-from_err _ _ c.from_residual.ensures.0

pub returns-in_err-push-in-Some-clause-more : goal.returns-in_err-push-in-Some-clause-more
returns-in_err-push-in-Some-clause-more c = IfOk-from_err _ _ c.from_residual.ensures.0
