use Rattle.std.proofs.lemmas.Result.{IfOk-from_err}
use Rattle.std.proofs.Common.{◌≡◌, ◌+◌, List, [], ◌∷◌, ◌++◌, length, Vec, Global, refl, sym, ap, subst, ◌∙◌, arith}
use Rattle.std.specs.List.{All}
use Rattle.std.proofs.lemmas.List.{length_push}
use Rattle.std.proofs.lemmas.List.Elements.{All-push}
use Rattle.sat_state.specs.declared.watch.Watch.{Watch}
use Rattle.sat_state.specs.Watch.{rows}
use Rattle.sat_state.proofs.RowSets.{rows_push}
use Rattle.sat_state.proofs.lists.empty_lists.Goals as goal

pub returns-in_err-push : goal.returns-in_err-push
returns-in_err-push c =
    let e = c.from_residual.ensures.0 in
    record {
      count = IfOk-from_err _ _ e;
      empty = IfOk-from_err _ _ e;
    }

pub loop-init : goal.loop-init
loop-init c = rw c.new-lists.ensures.items (record { count = refl; empty = λ k d h. absurd (omega arith) })

pub loop-preserved : goal.loop-preserved
loop-preserved c =
    let old = c.loop.lists.items in
    let is : rows c.push.new.self.items ≡ rows old ++ [] ∷ [] = ap (λ (ls : List (Vec Watch Global)). rows ls) c.in_ok-push.ensures.items ∙ rows_push old c.new.result c.new.ensures.items in
    record {
      count = ap (λ (rs : List (List Watch)). length rs) is ∙ length_push (rows old) [] ∙ ap (λ n. n + 1) c.loop.invariant.count;
      empty = subst (λ (rs : List (List Watch)). All (λ row. row ≡ []) rs) (sym is) (All-push (λ row. row ≡ []) (rows old) [] c.loop.invariant.empty refl);
    }

pub returns-clause-count : goal.returns-clause-count
returns-clause-count c = let end : c.loop.counter ≡ c.args.count = omega arith in c.loop.invariant.count ∙ end

pub returns-clause-empty : goal.returns-clause-empty
returns-clause-empty c = c.loop.invariant.empty
