use Rattle.std.proofs.Common.{refl}
use Rattle.sv_write.specs.Stmts.{write_step}
use Rattle.sv_write.specs.Writing.{mark}
use Rattle.sv_write.proofs.Adding.{◌▷◌, made, under}
use Rattle.sv_write.proofs.stmts.step.Goals as goal

pub returns-in-After : goal.returns-in-After
unfolding write_step
returns-in-After c = made (write_step c.args.variable.now) c.in-After.is (λ l. refl) (c.name.ensures ▷ under mark c.step_text.ensures c.mark.ensures)

pub returns-in-Before : goal.returns-in-Before
unfolding write_step
returns-in-Before c = made (write_step c.args.variable.now) c.in-Before.is (λ l. refl) (under mark c.step_text-in-Before.ensures c.mark-in-Before.ensures ▷ c.name-in-Before.ensures)

pub returns-in-Assign : goal.returns-in-Assign
unfolding write_step
returns-in-Assign c = made (write_step c.args.variable.now) c.in-Assign.is (λ l. refl) (c.name-in-Assign.ensures ▷ under mark c.sign_text.ensures c.mark-in-Assign.ensures ▷ c.expr.ensures)
