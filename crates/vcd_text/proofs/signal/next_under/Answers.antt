use Rattle.std.proofs.Common.{sym, ◌∙◌}
use Rattle.vcd_text.proofs.Fitting.{first_own, first_other}
use Rattle.vcd_text.proofs.signal.next_under.Goals as goal

pub changes-preserved : goal.changes-preserved
changes-preserved c width =
    sym (first_other c.args.code.now width c.in-Some.change c.in-Some.ensures.0 c.changes.changes c.next.new.self c.in-Some.ensures.2 c.in-Some.ensures.1 (sym c.is_same.ensures ∙ c.if-is_same.false))
    ∙ c.changes.invariant width

pub returns-then-is_same : goal.returns-then-is_same
returns-then-is_same c width =
    sym (c.changes.invariant width)
    ∙ first_own c.args.code.now width c.in-Some.change c.in-Some.ensures.0 c.changes.changes c.next.new.self c.in-Some.ensures.2 c.in-Some.ensures.1 (sym c.is_same.ensures ∙ c.if-is_same.true)
