use Rattle.std.proofs.Common.{◌∙◌, take, List, [], ◌∷◌, ◌++◌, sym, ap, arith, append_assoc, get_or, false}
use Rattle.std.proofs.lemmas.Result.{IfOk-from_err}
use Rattle.sat_state.proofs.Stores.{front_of, longer_than}
use Rattle.std.proofs.lemmas.List.{append-nil, take_more, take_all}
use Rattle.cnf.specs.declared.Dim.{Dim}
use Rattle.sat_state.proofs.store.write.Goals as goal

pub returns-in_err-write_one : goal.returns-in_err-write_one
returns-in_err-write_one c =
    let is = c.in_err-write_one.ensures.unchanged ∙ c.loop-d.invariant in
    record {
      all = IfOk-from_err _ _ c.from_residual.ensures.0;
      front = front_of _ _ (take c.loop-d.d-index c.args.clause.now) is;
      longer = longer_than _ _ (take c.loop-d.d-index c.args.clause.now) is;
    }

pub returns-clause-front : goal.returns-clause-front
returns-clause-front c = front_of _ _ (take c.loop-d.d-index c.args.clause.now) c.loop-d.invariant

pub returns-clause-longer : goal.returns-clause-longer
returns-clause-longer c = longer_than _ _ (take c.loop-d.d-index c.args.clause.now) c.loop-d.invariant

pub loop-d-init : goal.loop-d-init
loop-d-init c = sym (append-nil c.args.lits.now.items)

pub loop-d-preserved : goal.loop-d-preserved
loop-d-preserved c =
    let old = c.args.lits.now.items in
    let clause = c.args.clause.now in
    let i = c.loop-d.d-index in
    let none : Dim = record { var = 0; negated = false } in
    let d : Dim = get_or clause i none in
    c.in_ok-write_one.ensures.added ∙ ap (λ (l : List Dim). l ++ d ∷ []) c.loop-d.invariant ∙ append_assoc old (take i clause) (d ∷ [])
    ∙ ap (λ (l : List Dim). old ++ l) (sym (take_more clause i none (omega arith)))

pub returns-clause-all : goal.returns-clause-all
returns-clause-all c = c.loop-d.invariant ∙ ap (λ (l : List Dim). c.args.lits.now.items ++ l) (take_all c.loop-d.d-index c.args.clause.now (omega arith))
