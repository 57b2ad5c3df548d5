use Rattle.std.proofs.lemmas.Result.{IfOk-from_err}
use Rattle.std.proofs.Common.{◌≡◌, ◌∙◌, ◌++◌, ◌∷◌, [], refl, ap, length, List, Option, Some, ℕ, subst}
use Rattle.name_index.specs.Under.{Puts}
use Rattle.sv_names.specs.Linked.{latest_of}
use Rattle.sv_names.specs.declared.links.Links.{Links}
use Rattle.sv_names.proofs.Latest.{noted, linked_along, on_err}
use Rattle.sv_names.proofs.links.Links.note.Goals as goal

pub returns-in_err-reserve-clause-err : goal.returns-in_err-reserve-clause-err
returns-in_err-reserve-clause-err c =
    let old = c.args.self.now in
    let now : Links = record { latest = old.latest; earlier = c.reserve.new.self } in
    on_err c.from_residual.result _ (λ names linked. linked_along old now names (λ o. refl) c.reserve.ensures.items linked)

pub returns-in_err-put-clause-err : goal.returns-in_err-put-clause-err
returns-in_err-put-clause-err c =
    let old = c.args.self.now in
    let now : Links = record { latest = c.put.new.self; earlier = c.reserve.new.self } in
    on_err c.from_residual-in_err-put.result _ (λ names linked. linked_along old now names c.in_err-put.ensures.err c.reserve.ensures.items linked)

pub returns-clause-ok : goal.returns-clause-ok
unfolding latest_of
returns-clause-ok c = λ names linked.
    let old = c.args.self.now in
    let now : Links = record { latest = c.put.new.self; earlier = c.push_reserved.new.self } in
    let place : c.len.result ≡ length old.earlier.items = c.len.ensures ∙ (c.reserve.new.self.ok.0 ∙ ap length c.reserve.ensures.items) in
    let updates : Puts old.latest c.args.name.now (Some (length old.earlier.items)) c.put.new.self = subst (λ (n : ℕ). Puts old.latest c.args.name.now (Some n) c.put.new.self) place c.in_ok-put.ensures.ok in
    noted old now c.args.name.now c.get-before.result names updates
    (c.push_reserved.ensures.items ∙ ap (λ (x : List (Option ℕ)). x ++ c.get-before.result ∷ []) c.reserve.ensures.items) c.get-before.ensures linked

pub returns-in_err-put-clause-ok : goal.returns-in_err-put-clause-ok
returns-in_err-put-clause-ok c = IfOk-from_err _ _ c.from_residual-in_err-put.ensures.0

pub returns-in_err-reserve-clause-ok : goal.returns-in_err-reserve-clause-ok
returns-in_err-reserve-clause-ok c = IfOk-from_err _ _ c.from_residual.ensures.0
