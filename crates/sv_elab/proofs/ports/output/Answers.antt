use Rattle.std.proofs.Common.{ℕ, List, refl, sym, subst}
use Rattle.std.specs.List.{All}
use Rattle.lhs_alias.specs.Lies.{LieIn}
use Rattle.svex_shape.specs.Shapes.{width_at}
use Rattle.sv_typed.specs.declared.tree.Pick.{Pick}
use Rattle.sv_typed.specs.Typed.{IsNamed}
use Rattle.sv_meaning.specs.Meanings.{Meaning}
use Rattle.sv_targets.specs.declared.parts.Part.{Part}
use Rattle.sv_targets.specs.Slots.{Slots, AreParts}
use Rattle.sv_elab.specs.Working.{Fills, IsWithin}
use Rattle.sv_elab.proofs.Supplying.{wire_root, supply_port}
use Rattle.sv_elab.proofs.ports.output.Goals as goal

pub part_drivers-requires-clause-parts : goal.part_drivers-requires-clause-parts
part_drivers-requires-clause-parts c =
    subst (λ (z : List Part). All (IsWithin (width_at c.lower_assigned.new.arena c.in_ok-node.node)) z) (sym c.as_slice.ensures) (subst (λ (w : ℕ). All (IsWithin w) c.args.target.now.parts) (sym c.in_ok-node.ensures.width) c.requires.parts)

pub returns-clause-is : goal.returns-clause-is
returns-clause-is c = λ f ts x l e g.
    let n = c.args.port.wire in
    let w = c.args.port.width in
    let s = c.args.port.signed in
    let widths = c.args.widths.now in
    let filled = subst (λ (z : List Part). (slots : Slots) → All (λ p. LieIn widths p.to) z → AreParts slots z → Fills widths c.lower_assigned.new.arena c.part_drivers.new.arena c.in_ok-node.node slots c.in_ok-all.all) c.as_slice.ensures (c.in_ok-all.ensures.ok widths) in
    supply_port ts c.args.target.now f widths c.args.arena.now c.lower_assigned.new.arena c.part_drivers.new.arena n w c.args.target.now.width c.in_ok-node.node s x c.named-typed.result c.in_ok-all.all c.requires.wire e g l refl
    (λ (m : Meaning) h. c.named-typed.ensures.stands m (subst (λ (z : List Pick). IsNamed (wire_root n w) z s m) (sym c.new.ensures) h)) c.in_ok-node.ensures.value c.in_ok-node.ensures.mentions (λ slots a. filled slots c.requires.lie a)
