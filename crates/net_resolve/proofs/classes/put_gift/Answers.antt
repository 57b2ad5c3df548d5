use Rattle.std.proofs.lemmas.Result.{IfOk-from_err}
use Rattle.std.proofs.Common.{◌∷◌, [], ◌++◌, List, sym, ap, ◌∙◌, Vec, Global}
use Rattle.std.proofs.lemmas.List.{get_or-map}
use Rattle.event_nets.specs.declared.gift.Gift.{Gift}
use Rattle.event_nets.proofs.Gathering.{gifts_set}
use Rattle.net_resolve.proofs.classes.put_gift.Goals as goal

pub returns-clause-more : goal.returns-clause-more
returns-clause-more c = λ k kl.
    let rows = c.args.rows.now in
    let low = c.args.gift.now.to in
    let own : List Gift = c.args.gift.now ∷ [] in
    let is = c.in_ok-push.ensures.items ∙ ap (λ (l : List Gift). l ++ own) (sym (get_or-map (λ (w : Vec Gift Global). w.items) rows low c.index-rows-to.result [] c.requires)) in
    gifts_set rows low c.push.new.self own c.requires is k kl

pub returns-in_err-push-clause-len : goal.returns-in_err-push-clause-len
returns-in_err-push-clause-len c = IfOk-from_err _ _ c.from_residual.ensures.0

pub returns-in_err-push-clause-more : goal.returns-in_err-push-clause-more
returns-in_err-push-clause-more c = IfOk-from_err _ _ c.from_residual.ensures.0
