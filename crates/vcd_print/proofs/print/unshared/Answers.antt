use Rattle.std.proofs.Common.{sym, ◌∙◌}
use Rattle.vcd_print.proofs.Paths.{cut_name}
use Rattle.vcd_print.proofs.Printing.{moved_same, moved_other, moved_no_path, moved_no_open}
use Rattle.vcd_print.proofs.print.unshared.Goals as goal

pub scopes-preserved : goal.scopes-preserved
scopes-preserved c = record {
  moved_is = sym (moved_same c.scopes.held.now c.scopes.path.now c.in-Some.scope.now c.in-Some-cut.other.now c.in-Some.more.now c.in-Some-cut.rest.now c.in-Some.ensures c.in-Some-cut.ensures
      (sym c.is_same_text.ensures ∙ c.if-not-is_same_text.false)) ∙ c.scopes.invariant.moved_is;
  name = sym (cut_name c.scopes.path.now c.in-Some-cut.other.now c.in-Some-cut.rest.now c.in-Some-cut.ensures) ∙ c.scopes.invariant.name;
}

pub returns-in_default-cut-clause-moved : goal.returns-in_default-cut-clause-moved
returns-in_default-cut-clause-moved c = sym c.scopes.invariant.moved_is ∙ moved_no_path c.scopes.held.now c.scopes.path.now c.in_default-cut.ensures

pub returns-then-not-is_same_text-clause-moved : goal.returns-then-not-is_same_text-clause-moved
returns-then-not-is_same_text-clause-moved c =
    sym c.scopes.invariant.moved_is
    ∙ moved_other c.scopes.held.now c.scopes.path.now c.in-Some.scope.now c.in-Some-cut.other.now c.in-Some.more.now c.in-Some-cut.rest.now c.in-Some.ensures c.in-Some-cut.ensures
    (sym c.is_same_text.ensures ∙ c.if-not-is_same_text.true)

pub returns-clause-moved : goal.returns-clause-moved
returns-clause-moved c = sym c.scopes.invariant.moved_is ∙ moved_no_open c.scopes.held.now c.scopes.path.now c.in_default.ensures
