use Rattle.std.proofs.Common.{sym, ap, ◌∙◌}
use Rattle.vcd_text.specs.Steps.{lead_step}
use Rattle.vcd_text.specs.Scans.{told_of}
use Rattle.vcd_text.proofs.Scanning.{scalar_put, scalar_bits, bits_some}
use Rattle.vcd_text.proofs.scan.Scan.led.Goals as goal

pub put-requires : goal.put-requires
put-requires c = scalar_bits c.args.first.now c.requires.0 c.in-Scalar.field-0 c.requires.1 (c.requires.2 ∙ c.in-Scalar.is)

pub wait-requires : goal.wait-requires
wait-requires c all = bits_some c.args.rest.now (sym c.are_bits.ensures ∙ all)

pub returns-in-Scalar : goal.returns-in-Scalar
returns-in-Scalar c =
    c.put.ensures ∙ scalar_put (told_of c.args.self.now) c.args.first.now c.args.rest.now c.requires.0 c.in-Scalar.field-0 c.requires.1 (c.requires.2 ∙ c.in-Scalar.is)
    ∙ ap (lead_step (told_of c.args.self.now) c.args.rest.now) (sym c.in-Scalar.is)
