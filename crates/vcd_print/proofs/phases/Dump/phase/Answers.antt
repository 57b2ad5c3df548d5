use Rattle.std.proofs.Common.{◌≡◌, ◌+◌, ◌++◌, ap, ◌∙◌}
use Rattle.vcd_print.specs.Printed.{phase_text}
use Rattle.vcd_print.specs.Dumps.{Printed}
use Rattle.vcd_print.proofs.Adding.{phase_added}
use Rattle.vcd_print.proofs.phases.Dump.phase.Goals as goal

pub returns-clause-dump : goal.returns-clause-dump
returns-clause-dump c wires phases is d =
    let old : Printed = record { text = c.self.inside.text.items; phases = c.self.inside.phases } in
    let new : Printed = record { text = c.push_phase.new.text.items; phases = c.self.inside.phases + 1 } in
    let same : old ≡ c.args.self.now = c.self.view_is in
    phase_added wires phases c.args.self.now new c.args.before.now c.args.values.now is d
    (c.in_default.ensures.text ∙ ap (λ (p : Printed). p.text ++ phase_text p.phases c.args.before.now c.args.values.now) same) (ap (λ (p : Printed). p.phases + 1) same) c.in_default.ensures.bits
