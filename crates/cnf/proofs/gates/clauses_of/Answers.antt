use Rattle.std.proofs.Common.{List, subst, sym}
use Rattle.cnf.specs.declared.Dim.{Dim}
use Rattle.cnf.specs.Gates.{AsksFor, AnswersAll}
use Rattle.cnf.proofs.Solutions.{asks_for, answers_all}
use Rattle.cnf.proofs.gates.clauses_of.Goals as goal

pub returns-clause-solutions : goal.returns-clause-solutions
returns-clause-solutions c =
    let P : List (List Dim) → Type 0 = λ clauses. AsksFor c.args.aig.now c.args.root clauses in
    subst P (sym c.in_ok-clause_list.ensures) (asks_for c.args.aig.now c.args.root c.len.ensures.graph)

pub returns-clause-inputs : goal.returns-clause-inputs
returns-clause-inputs c =
    let P : List (List Dim) → Type 0 = λ clauses. AnswersAll c.args.aig.now c.args.root clauses in
    subst P (sym c.in_ok-clause_list.ensures) (answers_all c.args.aig.now c.args.root c.len.ensures.graph c.requires)
