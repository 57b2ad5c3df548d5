use Rattle.std.proofs.Common.{[], ◌∙◌, subst}
use Rattle.sv_outside.specs.declared.text.Signal.{Signal}
use Rattle.std.proofs.Common.{List}
use Rattle.svtv_texts.specs.Phases.{phases_in}
use Rattle.vcd_print.specs.Dumps.{IsDump}
use Rattle.svtv_texts.proofs.Dumping.{are_phases}
use Rattle.svtv_texts.proofs.dumps.dumped.Goals as goal

pub put_phases-requires-clause-dump : goal.put_phases-requires-clause-dump
put_phases-requires-clause-dump c = subst (λ (wires : List Signal). IsDump wires [] c.in_ok-dump.dump) c.as_slice.ensures c.in_ok-dump.ensures

pub returns-clause-text : goal.returns-clause-text
returns-clause-text c d e r h = c.into_text.ensures.text ∙ (c.in_ok-put_phases.ensures d e r h).text_is

pub returns-clause-stands : goal.returns-clause-stands
returns-clause-stands c d e r h =
    let wires = c.args.flat.now.wires in
    let phases = phases_in wires c.args.bound.now.phases r in
    c.into_text.ensures.stands wires phases (c.in_ok-put_phases.ensures d e r h) c.requires.parts (are_phases wires r c.args.bound.now.phases)
