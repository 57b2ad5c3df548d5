use Rattle.std.proofs.Common.{◌≡◌, false, Err, sym, subst}
use Rattle.std.specs.List.{Contains}
use Rattle.sv_tree.specs.declared.design.Way.{Way}
use Rattle.sv_tree.specs.declared.design.Way.TheVariants as ways
use Rattle.sv_names.specs.Names.{names_are}
use Rattle.sv_typing.specs.Judging.{IsCause}
use Rattle.sv_meaning.specs.Designs as d
use Rattle.sv_meaning.specs.Designs.{actual_faults, as_targets, is_joined, index_scope}
use Rattle.sv_targets.specs.Slots.{JudgesParts}
use Rattle.sv_elab.specs.Working.{JudgesWork}
use Rattle.sv_elab.proofs.Working.{no_target_apart, refused_port, supplied_port}
use Rattle.sv_elab.proofs.ports.connected.Goals as goal

pub returns-in-Input-clause-is : goal.returns-in-Input-clause-is
returns-in-Input-clause-is c = λ wires x s k g.
    let at = names_are c.args.names.now in
    let actual = c.args.actual.now in
    let cause : Contains (actual_faults (index_scope ways.Input at) at actual) c.in-Err-No.why =
    subst (λ (z : Way). Contains (actual_faults (index_scope z at) at actual) c.in-Err-No.why) c.in-Input.is (subst (IsCause (actual_faults (index_scope c.args.port.way at) at actual)) c.in-Err-No.field-0-is c.in-Err-No.ensures) in
    let apart : is_joined (index_scope ways.Input at) at x actual ≡ false = no_target_apart (index_scope ways.Input at) at x actual c.in-Err-No.why cause in
    subst (λ (z : Way). JudgesWork wires (d.port at z c.args.port.wire x actual) c.args.made c.input.new.arena c.given.result) (sym c.in-Input.is)
    (supplied_port at ways.Input c.args.port.wire x actual wires c.args.widths.now c.args.made c.input.new.arena c.input.result c.given.result apart s c.given.ensures.ok c.given.ensures.err (c.input.ensures.is x k))

pub to_target-requires-clause-target : goal.to_target-requires-clause-target
to_target-requires-clause-target c =
    let at = names_are c.args.names.now in
    let actual = c.args.actual.now in
    subst (JudgesParts (actual_faults (index_scope c.args.port.way at) at actual) (as_targets (index_scope c.args.port.way at) at actual)) c.in-Ok.is c.target_of_actual.ensures

pub returns-in-Inout-clause-is : goal.returns-in-Inout-clause-is
returns-in-Inout-clause-is c = λ wires x s k g.
    let at = names_are c.args.names.now in
    let actual = c.args.actual.now in
    let cause : Contains (actual_faults (index_scope ways.Inout at) at actual) c.in-Err-No.why =
    subst (λ (z : Way). Contains (actual_faults (index_scope z at) at actual) c.in-Err-No.why) c.in-Inout.is (subst (IsCause (actual_faults (index_scope c.args.port.way at) at actual)) c.in-Err-No.field-0-is c.in-Err-No.ensures) in
    let apart : is_joined (index_scope ways.Inout at) at x actual ≡ false = no_target_apart (index_scope ways.Inout at) at x actual c.in-Err-No.why cause in
    subst (λ (z : Way). JudgesWork wires (d.port at z c.args.port.wire x actual) c.args.made c.args.arena.now (Err c.not_joined.result)) (sym c.in-Inout.is)
    (refused_port at ways.Inout c.args.port.wire x actual wires c.args.made c.args.arena.now c.not_joined.result apart c.not_joined.ensures)
