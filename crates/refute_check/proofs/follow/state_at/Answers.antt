use Rattle.std.proofs.Common.{List, map, length, ◌∙◌, subst}
use Rattle.cnf.specs.declared.Dim.{Dim}
use Rattle.cnf.specs.Clauses.{valuation}
use Rattle.cnf.specs.State.{IsState}
use Rattle.refute_check.specs.Accepted.{known_of}
use Rattle.refute_check.proofs.Known.{below_at}
use Rattle.refute_check.proofs.follow.state_at.Goals as goal

pub state_of-requires : goal.state_of-requires
state_of-requires c = below_at (length c.args.marks.now) (known_of (map (λ v. v.items) c.args.clauses.now) c.args.steps.now c.args.k) c.args.hint _ c.requires.width (c.given.ensures c.args.steps.now c.args.k)

pub state_in-requires : goal.state_in-requires
state_in-requires c = below_at (length c.args.marks.now) (known_of (map (λ v. v.items) c.args.clauses.now) c.args.steps.now c.args.k) c.args.hint _ c.requires.width (c.literals-literals.ensures ∙ c.cited.ensures)

pub returns-then-hint-clauses : goal.returns-then-hint-clauses
returns-then-hint-clauses c = subst (λ (cl : List Dim). IsState (valuation c.args.marks.now) cl c.state_of.result) (c.given.ensures c.args.steps.now c.args.k) c.state_of.ensures

pub returns-else-hint-clauses : goal.returns-else-hint-clauses
returns-else-hint-clauses c = subst (λ (cl : List Dim). IsState (valuation c.args.marks.now) cl c.state_in.result) (c.literals-literals.ensures ∙ c.cited.ensures) c.state_in.ensures
