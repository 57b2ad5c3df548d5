use Rattle.std.proofs.Common.{◌∙◌, ℕ, ◌+◌, refl, sym, ap}
use Rattle.sv_names.specs.Kinds.{layout_is}
use Rattle.sv_names.proofs.Sound.{sound_is}
use Rattle.sv_hierarchy.specs.Scopes as m
use Rattle.sv_walk.specs.Walks.{state_of}
use Rattle.sv_walk.proofs.Declaring.{handed, ran_out}
use Rattle.sv_walk.proofs.DeclaringWires.{counted, wire_added, wire_taken, wire_too_large}
use Rattle.sv_walk.proofs.walker.Walker.add_wire.Goals as goal

pub returns-in_err-declare_at : goal.returns-in_err-declare_at
returns-in_err-declare_at c =
    handed (m.add_wire c.args.input (layout_is c.args.layout.now) c.args.word.now (state_of c.args.self.now c.args.current.now)) c.args.self.now c.args.self.now c.declare_at.new.self c.declare_at.new.self c.from_residual.result c.in_err-declare_at.field-0.0 c.from_residual.ensures.1
    (wire_taken c.args.self.now c.args.self.now c.args.current.now c.declare_at.new.self c.declare_at.new.self c.args.input (layout_is c.args.layout.now) c.args.word.now c.bytes.result.now c.in_err-declare_at.field-0.0 c.bytes.ensures (c.in_err-declare_at.ensures c.args.self.now))

pub returns-in_err-tally : goal.returns-in_err-tally
returns-in_err-tally c =
    handed (m.add_wire c.args.input (layout_is c.args.layout.now) c.args.word.now (state_of c.args.self.now c.args.current.now)) c.args.self.now c.args.self.now c.declare_at.new.self c.declare_at.new.self c.from_residual-in_err-tally.result c.in_err-tally.field-0.0 c.from_residual-in_err-tally.ensures.1
    (wire_too_large c.args.self.now c.args.self.now c.args.current.now c.declare_at.new.self c.declare_at.new.self c.args.input (layout_is c.args.layout.now) c.args.word.now c.bytes.result.now c.args.layout.now.width c.args.self.now.tally.turns c.in_ok-declare_at.field-0 c.in_err-tally.field-0.0
    c.bytes.ensures (sound_is c.args.layout.now c.requires) (c.in_ok-declare_at.ensures c.args.self.now) c.in_err-tally.ensures)

pub returns : goal.returns
returns c =
    let counts = counted (m.size_faults c.args.word.now.place (c.args.self.now.tally.bits + c.args.layout.now.width)) (c.args.self.now.tally.bits + c.args.layout.now.width) c.args.layout.now.width c.in_ok-tally.tally c.args.self.now.tally.turns c.in_ok-tally.ensures in
    let bits = ap (λ (x : ℕ). c.args.self.now.tally.bits + x) (sound_is c.args.layout.now c.requires) in
    wire_added c.args.self.now (record c.args.self.now { levels = c.put_wire.new.levels; wires = c.put_wire.new.wires; tally = c.in_ok-tally.tally }) c.args.current.now c.declare_at.new.self c.args.input (layout_is c.args.layout.now) c.args.word.now c.args.word.now.place c.bytes.result.now
    c.in_ok-declare_at.field-0 c.bytes.ensures refl (c.in_ok-declare_at.ensures c.args.self.now)
    (ap (λ (x : ℕ). m.size_faults c.args.word.now.place (c.args.self.now.tally.bits + x)) (sym (sound_is c.args.layout.now c.requires)) ∙ counts.0)
    (c.in_ok-put_wire.ensures c.args.self.now c.declare_at.new.self c.in_ok-tally.tally refl (counts.1.0 ∙ bits) counts.1.1)

pub returns-in_err-put_wire : goal.returns-in_err-put_wire
returns-in_err-put_wire c = ran_out _ (m.add_wire c.args.input (layout_is c.args.layout.now) c.args.word.now (state_of c.args.self.now c.args.current.now)) c.from_residual-in_err-put_wire.result c.from_residual-in_err-put_wire.ensures.1
