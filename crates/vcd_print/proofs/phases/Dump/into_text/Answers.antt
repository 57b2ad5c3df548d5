use Rattle.std.proofs.Common.{◌≡◌, ◌<◌, ◌^◌, length, sym, subst, arith}
use Rattle.vcd_print.specs.Dumps.{Printed, IsDump}
use Rattle.vcd_print.proofs.Standing.{dump_stands}
use Rattle.vcd_print.proofs.phases.Dump.into_text.Goals as goal

pub returns-clause-stands : goal.returns-clause-stands
returns-clause-stands c wires phases d parts each =
    let here : Printed = record { text = c.self.inside.text.items; phases = c.self.inside.phases } in
    let same : here ≡ c.args.self = c.self.view_is in
    let e : IsDump wires phases here = subst (IsDump wires phases) (sym same) d in
    let few : length phases < 2 ^ 64 = omega (arith, e.count_is, c.self.invariant, c.self.inside.text.small) in
    dump_stands wires phases here few e parts each
