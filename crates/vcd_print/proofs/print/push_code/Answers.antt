use Rattle.std.proofs.Common.{◌++◌, ◌/◌, refl}
use Rattle.vcd_print.specs.Printed.{code_of}
use Rattle.vcd_print.proofs.Printing.{code_begun, code_on}
use Rattle.vcd_print.proofs.print.push_code.Goals as goal

pub digits-init : goal.digits-init
digits-init c = code_begun c.args.text.now.items c.push.new.self.items c.args.number c.digit_of.result (c.args.number / 94) c.in_ok-push.ensures.items c.digit_of.ensures refl

pub digits-preserved : goal.digits-preserved
digits-preserved c =
    code_on c.digits.text.items c.push-in-digits.new.self.items (c.args.text.now.items ++ code_of c.args.number) c.digits.rest c.digit_of-in-digits.result (c.digits.rest / 94) c.digits-test.true
    c.in_ok-push-2.ensures.items c.digit_of-in-digits.ensures refl c.digits.invariant
