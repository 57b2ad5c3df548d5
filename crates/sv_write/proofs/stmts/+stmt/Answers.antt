use Rattle.std.proofs.Common.{refl}
use Rattle.sv_write.specs.Stmts.{labels, write_arm, write_else_part, write_stmt}
use Rattle.sv_write.specs.Writing.{each, maybe}
use Rattle.sv_write.proofs.Adding.{◌▷◌, made, nothing_added, under}
use Rattle.sv_write.proofs.StmtsMade.{made_assign, made_block, made_case, made_default, made_empty, made_for, made_if, made_labels}
use Rattle.sv_write.proofs.Loops.{left_next, left_last}
use Rattle.sv_write.proofs.stmts.+stmt.Goals as goal

pub stmts-parts-preserved : goal.stmts-parts-preserved
stmts-parts-preserved t c = left_next c.parts-test.true c.part-item.is c.parts.invariant c.statement.ensures

pub stmts-returns : goal.stmts-returns
stmts-returns t c = left_last c.parts-test.false c.parts.invariant

pub arms-parts-preserved : goal.arms-parts-preserved
arms-parts-preserved t c = left_next c.parts-test.true c.part-item.is c.parts.invariant c.arm.ensures

pub arms-returns : goal.arms-returns
arms-returns t c = left_last c.parts-test.false c.parts.invariant

pub arm-returns-in-Labels : goal.arm-returns-in-Labels
arm-returns-in-Labels t c = made write_arm c.in-Labels.is (made_labels _ _) (under labels c.as_slice.ensures c.labels.ensures ▷ under write_stmt c.get.ensures c.statement.ensures)

pub arm-returns-in-Default : goal.arm-returns-in-Default
arm-returns-in-Default t c = made write_arm c.in-Default.is (made_default _ _) (c.default_label.ensures ▷ under write_stmt c.get-in-Default.ensures c.statement-in-Default.ensures)

pub maybe_else-returns-in-Some : goal.maybe_else-returns-in-Some
maybe_else-returns-in-Some t c = made (maybe write_else_part) c.in-Some.is (λ l. refl) (c.key.ensures ▷ under write_stmt c.get.ensures c.statement.ensures)

pub maybe_else-returns-in-None : goal.maybe_else-returns-in-None
maybe_else-returns-in-None t c = made (maybe write_else_part) c.in-None.is (λ l. refl) nothing_added

pub statement-returns-in-Empty : goal.statement-returns-in-Empty
statement-returns-in-Empty t c = made write_stmt c.in-Empty.is made_empty (c.mark.ensures)

pub statement-returns-in-Block : goal.statement-returns-in-Block
statement-returns-in-Block t c = made write_stmt c.in-Block.is (made_block _ _ _ _) (c.begin.ensures ▷ under (each write_stmt) c.as_slice.ensures c.stmts.ensures ▷ c.end.ensures)

pub statement-returns-in-If : goal.statement-returns-in-If
statement-returns-in-If t c = made write_stmt c.in-If.is (made_if _ _ _ _) (c.if_head.ensures ▷ under write_stmt c.get.ensures c.statement.ensures ▷ c.maybe_else.ensures)

pub statement-returns-in-Case : goal.statement-returns-in-Case
statement-returns-in-Case t c = made write_stmt c.in-Case.is (made_case _ _ _ _) (c.case_head.ensures ▷ under (each write_arm) c.as_slice-in-Case.ensures c.arms.ensures ▷ c.key.ensures)

pub statement-returns-in-For : goal.statement-returns-in-For
statement-returns-in-For t c = made write_stmt c.in-For.is (made_for _ _ _ _ _ _ _) (c.for_word.ensures ▷ c.turns.ensures ▷ under write_stmt c.get-in-For.ensures c.statement-in-For.ensures)

pub statement-returns-in-Assign : goal.statement-returns-in-Assign
statement-returns-in-Assign t c = made write_stmt c.in-Assign.is (made_assign _ _ _ _) (c.assignment.ensures)
