use Rattle.std.proofs.lemmas.Result.{IfOk-from_err}
use Rattle.std.proofs.Common.{◌≡◌, ◌+◌, List, [], ◌∷◌, ◌++◌, length, Vec, Global, refl, sym, ap, subst, ◌∙◌, arith}
use Rattle.std.specs.List.{All}
use Rattle.std.proofs.lemmas.List.{length_push}
use Rattle.std.proofs.lemmas.List.Elements.{All-push}
use Rattle.event_nets.specs.declared.gift.Gift.{Gift}
use Rattle.event_nets.specs.Needs.{gift_rows}
use Rattle.net_resolve.proofs.Rows.{gift_rows-push}
use Rattle.net_resolve.proofs.classes.no_gifts.Goals as goal

pub returns-in_err-push-clause-len : goal.returns-in_err-push-clause-len
returns-in_err-push-clause-len c = IfOk-from_err _ _ c.from_residual.ensures.0

pub returns-in_err-push-clause-none : goal.returns-in_err-push-clause-none
returns-in_err-push-clause-none c = IfOk-from_err _ _ c.from_residual.ensures.0

pub loop-init : goal.loop-init
loop-init c = rw c.new-rows.ensures.items (record { len = refl; none = λ k d h. absurd (omega arith) })

pub loop-preserved : goal.loop-preserved
loop-preserved c =
    let old = c.loop.rows.items in
    let is : gift_rows c.push.new.self.items ≡ gift_rows old ++ [] ∷ [] = ap (λ (l : List (Vec Gift Global)). gift_rows l) c.in_ok-push.ensures.items ∙ gift_rows-push old c.new.result c.new.ensures.items in
    record {
      len = ap (λ (l : List (Vec Gift Global)). length l) c.in_ok-push.ensures.items ∙ length_push old c.new.result ∙ ap (λ n. n + 1) c.loop.invariant.len;
      none = subst (λ (rs : List (List Gift)). All (λ row. row ≡ []) rs) (sym is) (All-push (λ row. row ≡ []) (gift_rows old) [] c.loop.invariant.none refl);
    }

pub returns-clause-len : goal.returns-clause-len
returns-clause-len c = let end : c.loop.counter ≡ c.args.places = omega arith in c.loop.invariant.len ∙ end

pub returns-clause-none : goal.returns-clause-none
returns-clause-none c = c.loop.invariant.none
