use Rattle.std.proofs.Common.{sym, ◌∙◌}
use Rattle.sv_outside.specs.declared.text.Signal.{Signal}
use Rattle.flat_net.specs.Flats.{IsSignal}
use Rattle.flat_lines.specs.Fits.{wire_words}
use Rattle.flat_lines.specs.Items.{a_wire, wire}
use Rattle.flat_lines.proofs.WholeLines.{wire_form}
use Rattle.flat_read.proofs.Refusing.{none_refused, added_judged}
use Rattle.flat_read.proofs.reader.Reader.wire.Goals as goal

pub add_wire-requires-clause-wire : goal.add_wire-requires-clause-wire
add_wire-requires-clause-wire c = (wire_form.gives c.args.words.now.rest.now c.in-Some.wire (sym c.in_ok-wire.ensures ∙ c.in-Some.is)).1

pub returns-in-Some-clause-judged : goal.returns-in-Some-clause-judged
returns-in-Some-clause-judged c shown h =
    added_judged c.add_wire.result Signal a_wire IsSignal wire_words wire shown c.args.words.now.rest.now c.add_wire.new.self c.in-Some.wire wire_form (sym c.in-Some.is ∙ c.in_ok-wire.ensures) (c.add_wire.ensures.judged shown h)

pub returns-in-None-clause-judged : goal.returns-in-None-clause-judged
returns-in-None-clause-judged c shown h = none_refused Signal a_wire IsSignal wire_words wire shown c.args.words.now.rest.now wire_form (sym c.in-None.is ∙ c.in_ok-wire.ensures)
