use Rattle.std.proofs.Common.{◌∙◌, sym, ap, subst}
use Rattle.sv_tree.specs.declared.stmts.Step.TheVariants as step
use Rattle.sv_meaning.specs.Deeds.{next_value}
use Rattle.sv_names.specs.Names.{constants_are}
use Rattle.sv_loops.specs.Answers.{Gives}
use Rattle.sv_loops.proofs.steps.next_value.Goals as goal

pub returns-in-Add-clause-is : goal.returns-in-Add-clause-is
returns-in-Add-clause-is c =
    subst (λ s. Gives (next_value (constants_are c.args.names.now) c.args.bits.now s) c.moved_value.result)
    (sym (c.in-Assign.is ∙ ap (λ z. step.Assign c.in-Assign.field-0 z c.in-Assign.expr) c.in-Add.is)) (c.moved_value.ensures.is c.in-Assign.field-0)

pub returns-in-Sub-clause-is : goal.returns-in-Sub-clause-is
returns-in-Sub-clause-is c =
    subst (λ s. Gives (next_value (constants_are c.args.names.now) c.args.bits.now s) c.moved_value-in-Sub.result)
    (sym (c.in-Assign.is ∙ ap (λ z. step.Assign c.in-Assign.field-0 z c.in-Assign.expr) c.in-Sub.is)) (c.moved_value-in-Sub.ensures.is c.in-Assign.field-0)
