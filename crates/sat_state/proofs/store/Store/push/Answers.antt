use Rattle.std.proofs.lemmas.Result.{IfOk-from_err}
use Rattle.std.proofs.Common.{rules, ◌∙◌, ap, ◌++◌, ◌∷◌, []}
use Rattle.sat_state.proofs.Stores.{added, inside_more}
use Rattle.sat_state.proofs.store.Store.push.Goals as goal

pub returns-clause-added : goal.returns-clause-added
returns-clause-added c =
    added c.self.inside.lits.items c.args.clause.now c.write.new.lits.items c.self.inside.spans.items c.push.new.self.items _ c.self.invariant c.in_ok-write.ensures.all (search rules) (search rules) c.in_ok-push.ensures.items
    ∙ ap (λ cs. cs ++ c.args.clause.now ∷ []) c.self.view_is

pub returns-in_err-push-clause-added : goal.returns-in_err-push-clause-added
returns-in_err-push-clause-added c = IfOk-from_err _ _ c.from_residual-in_err-push.ensures.0

pub returns-in_err-write-clause-added : goal.returns-in_err-write-clause-added
returns-in_err-write-clause-added c = IfOk-from_err _ _ c.from_residual.ensures.0

pub invariant_of-self : goal.invariant_of-self
invariant_of-self c = inside_more _ _ c.self.inside.spans.items c.self.invariant c.in_err-write.ensures.longer

pub invariant_of-self-in_err-push : goal.invariant_of-self-in_err-push
invariant_of-self-in_err-push c = rw c.in_err-push.ensures.items (inside_more _ _ c.self.inside.spans.items c.self.invariant c.in_ok-write.ensures.longer)

pub returns-clause-unchanged : goal.returns-clause-unchanged
returns-clause-unchanged c = tt
