use Rattle.std.proofs.Common.{arith}
use Rattle.sv_names.specs.declared.layout.What.TheVariants as what
use Rattle.sv_meaning.specs.Layouts.{of_choice, signal_is}
use Rattle.goal_text.specs.Scopes.{var_vector, variable_entries}
use Rattle.goal_text.proofs.Scoped.{vectors_next, vectors_end}
use Rattle.goal_text.proofs.scopes.variables.Goals as goal

pub vars-preserved : goal.vars-preserved
vars-preserved c =
    vectors_next var_vector of_choice (variable_entries c.args.vars.now) c.args.vars.now c.vars.number c.index-vars-number.result c.vars.scope c.push.new.self
    (c.in_ok-name.name, what.Chosen c.vars.number c.in_ok-layout.layout) c.vars-test.true c.index-vars-number.is
    (λ i. (c.in_ok-name.ensures i, signal_is of_choice c.vars.number (c.in_ok-layout.ensures.is i))) c.in_ok-push.ensures.ok c.vars.invariant

pub returns : goal.returns
returns c = vectors_end var_vector of_choice (variable_entries c.args.vars.now) c.args.vars.now c.vars.number c.vars.scope (omega (arith, c.vars-test.false)) c.vars.invariant
