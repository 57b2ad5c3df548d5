use Rattle.std.proofs.Common.{◌≡◌, ◌<◌, true, false, List, All, length, Some, Ok, Err, sym, ap, ◌∙◌, subst}
use Rattle.lhs_alias.specs.declared.segs.WireBit.{WireBit}
use Rattle.lhs_alias.specs.Lies.{LieIn}
use Rattle.driver_resolve.specs.declared.driver.Driver.{Driver}
use Rattle.sv_tree.specs.declared.design.Way.{Way}
use Rattle.sv_tree.specs.declared.design.Way.TheVariants as ways
use Rattle.sv_names.specs.Names.{names_are}
use Rattle.sv_meaning.specs.Designs as d
use Rattle.sv_meaning.specs.Designs.{actual_faults, as_targets, is_joined, index_scope}
use Rattle.sv_targets.specs.declared.parts.Part.{Part}
use Rattle.sv_targets.specs.Slots.{IsLowered}
use Rattle.sv_elab.specs.Working.{JoinsTo, IsWorked, JudgesWork, parts_bits}
use Rattle.sv_elab.proofs.Ending.{actual_within}
use Rattle.sv_elab.proofs.Reaching.{actual_lies, actual_below}
use Rattle.sv_elab.proofs.Working.{joined_by, joined_port, refused_port, supplied_port}
use Rattle.sv_elab.proofs.ports.to_target.Goals as goal

pub returns-then-is_joined-clause-is : goal.returns-then-is_joined-clause-is
returns-then-is_joined-clause-is c = λ wires x s k g.
    let at = names_are c.args.names.now in
    let actual = c.args.actual.now in
    let h = c.requires.target in
    let joined : is_joined (index_scope c.args.port.way at) at x actual ≡ true = joined_by (index_scope c.args.port.way at) at x actual c.args.target.now c.args.port.width c.is_joined.result h k (c.is_joined.ensures.is (actual_faults (index_scope c.args.port.way at) at actual) (as_targets (index_scope c.args.port.way at) at actual) h) ∙ c.if-is_joined.true in
    subst (λ (z : List Driver). IsWorked wires (d.port at c.args.port.way c.args.port.wire x actual) c.args.made c.args.arena.now (record { drivers = z; join = Some c.in_ok-join.join; made = c.args.made })) (sym c.new.ensures)
    (joined_port at c.args.port.way c.args.port.wire c.args.port.width x actual c.args.target.now wires c.args.widths.now c.args.made c.args.arena.now c.in_ok-join.join joined s k h
    (subst (λ (z : List Part). JoinsTo c.args.widths.now c.args.port.wire c.args.port.width z c.in_ok-join.join) c.as_slice.ensures
    (c.in_ok-join.ensures c.args.widths.now c.requires.wire c.requires.some c.requires.most (subst (λ (z : List Part). All (λ (p : Part). LieIn c.args.widths.now p.to) z) (sym c.as_slice.ensures) (actual_lies (index_scope c.args.port.way at) at actual c.args.target.now c.args.widths.now c.requires.names h))
    (subst (λ (z : List Part). All (λ (b : WireBit). b.wire < c.args.port.wire) (parts_bits z)) (sym c.as_slice.ensures) (actual_below (index_scope c.args.port.way at) at actual c.args.target.now c.args.port.wire c.requires.below h)))))

pub join_of-requires : goal.join_of-requires
join_of-requires c = ap (λ (z : List Part). length (parts_bits z)) c.as_slice.ensures ∙ c.is_joined.ensures.long c.if-is_joined.true

pub returns-in-Input-clause-is : goal.returns-in-Input-clause-is
returns-in-Input-clause-is c = λ wires x s k g.
    let at = names_are c.args.names.now in
    let actual = c.args.actual.now in
    let h = subst (λ (z : Way). IsLowered (actual_faults (index_scope z at) at actual) (as_targets (index_scope z at) at actual) c.args.target.now) c.in-Input.is c.requires.target in
    let apart : is_joined (index_scope ways.Input at) at x actual ≡ false = joined_by (index_scope ways.Input at) at x actual c.args.target.now c.args.port.width c.is_joined.result h k (c.is_joined.ensures.is (actual_faults (index_scope ways.Input at) at actual) (as_targets (index_scope ways.Input at) at actual) h) ∙ c.if-is_joined.false in
    subst (λ (z : Way). JudgesWork wires (d.port at z c.args.port.wire x actual) c.args.made c.input.new.arena c.given.result) (sym c.in-Input.is)
    (supplied_port at ways.Input c.args.port.wire x actual wires c.args.widths.now c.args.made c.input.new.arena c.input.result c.given.result apart s c.given.ensures.ok c.given.ensures.err (c.input.ensures.is x k))

pub returns-in_ok-all-in-Output-clause-is : goal.returns-in_ok-all-in-Output-clause-is
returns-in_ok-all-in-Output-clause-is c = λ wires x s k g.
    let at = names_are c.args.names.now in
    let actual = c.args.actual.now in
    let h = subst (λ (z : Way). IsLowered (actual_faults (index_scope z at) at actual) (as_targets (index_scope z at) at actual) c.args.target.now) c.in-Output.is c.requires.target in
    let apart : is_joined (index_scope ways.Output at) at x actual ≡ false = joined_by (index_scope ways.Output at) at x actual c.args.target.now c.args.port.width c.is_joined.result h k (c.is_joined.ensures.is (actual_faults (index_scope ways.Output at) at actual) (as_targets (index_scope ways.Output at) at actual) h) ∙ c.if-is_joined.false in
    subst (λ (z : Way). JudgesWork wires (d.port at z c.args.port.wire x actual) c.args.made c.output.new.arena c.given-in-Output.result) (sym c.in-Output.is)
    (supplied_port at ways.Output c.args.port.wire x actual wires c.args.widths.now c.args.made c.output.new.arena (Ok c.in_ok-all-in-Output.all) c.given-in-Output.result apart s c.given-in-Output.ensures.ok c.given-in-Output.ensures.err
    (h.clear, c.in_ok-all-in-Output.ensures.is (actual_faults (index_scope ways.Output at) at actual) (as_targets (index_scope ways.Output at) at actual) x h k g))

pub returns-in-Inout-clause-is : goal.returns-in-Inout-clause-is
returns-in-Inout-clause-is c = λ wires x s k g.
    let at = names_are c.args.names.now in
    let actual = c.args.actual.now in
    let h = subst (λ (z : Way). IsLowered (actual_faults (index_scope z at) at actual) (as_targets (index_scope z at) at actual) c.args.target.now) c.in-Inout.is c.requires.target in
    let apart : is_joined (index_scope ways.Inout at) at x actual ≡ false = joined_by (index_scope ways.Inout at) at x actual c.args.target.now c.args.port.width c.is_joined.result h k (c.is_joined.ensures.is (actual_faults (index_scope ways.Inout at) at actual) (as_targets (index_scope ways.Inout at) at actual) h) ∙ c.if-is_joined.false in
    subst (λ (z : Way). JudgesWork wires (d.port at z c.args.port.wire x actual) c.args.made c.args.arena.now (Err c.not_joined.result)) (sym c.in-Inout.is)
    (refused_port at ways.Inout c.args.port.wire x actual wires c.args.made c.args.arena.now c.not_joined.result apart c.not_joined.ensures)

pub output-requires-clause-parts : goal.output-requires-clause-parts
output-requires-clause-parts c = let at = names_are c.args.names.now in actual_within (index_scope c.args.port.way at) at c.args.actual.now c.args.target.now c.requires.target

pub output-requires-clause-lie : goal.output-requires-clause-lie
output-requires-clause-lie c = let at = names_are c.args.names.now in actual_lies (index_scope c.args.port.way at) at c.args.actual.now c.args.target.now c.args.widths.now c.requires.names c.requires.target
