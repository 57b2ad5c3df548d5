use Rattle.std.proofs.Common.{◌≡◌, ◌∙◌, map, refl}
use Rattle.sv_hierarchy.specs.Scopes as m
use Rattle.sv_levels.specs.Library.{child_alone, known_is}
use Rattle.sv_levels.specs.Tasks.{child_is}
use Rattle.sv_modules.specs.Connections.{connection_is}
use Rattle.sv_walk.proofs.Declaring.{ran_out}
use Rattle.sv_walk.proofs.Opening.{alone_wired, counted_err, counted_ok, no_room, no_wiring, wired_ends}
use Rattle.sv_walk.proofs.walker.Walker.open_child.Goals as goal
use Rattle.sv_walk.specs.Walks.{state_of}

pub returns-in_err-wiring : goal.returns-in_err-wiring
returns-in_err-wiring c = λ current.
    let st = state_of c.args.self.now current in
    no_wiring _ (known_is c.args.known) (child_is c.args.child.now) st c.from_residual.result c.in_err-wiring.field-0.0 c.from_residual.ensures.1 (c.in_err-wiring.ensures (m.seen_at st.levels (child_is c.args.child.now).at))

pub returns-in_err-self : goal.returns-in_err-self
returns-in_err-self c = λ current.
    let st = state_of c.args.self.now current in
    let ch = child_is c.args.child.now in
    let e = c.in_err-self.field-0.0 in
    let r = λ (x : m.State) (u : Unit {0}). x ≡ st in
    let w = c.in_ok-wiring.wiring in
    alone_wired (state_of c.args.self.now) (known_is c.args.known) ch st w w.params.items w.pins.items c.from_residual-in_err-self.result (c.in_ok-wiring.ensures (m.seen_at st.levels ch.at)) refl refl
    (no_room r _ (known_is c.args.known) ch st (map connection_is w.params.items, map connection_is w.pins.items) c.from_residual-in_err-self.result e c.from_residual-in_err-self.ensures.1 (counted_err r ch st e c.in_err-self.ensures))

pub returns : goal.returns
returns c = λ current.
    let st = state_of c.args.self.now current in
    let ch = child_is c.args.child.now in
    let more = state_of (record c.args.self.now { tally = c.in_ok-self.field-0 }) current in
    alone_wired (state_of c.instance-done.new.self) (known_is c.args.known) ch st c.in_ok-wiring.wiring c.deref.result.now c.deref-2.result.now c.after.result (c.in_ok-wiring.ensures (m.seen_at st.levels ch.at)) c.deref.ensures.value c.deref-2.ensures.value
    (wired_ends (state_of c.instance-done.new.self) (known_is c.args.known) ch st more (state_of c.begin_instance.new.self c.in_ok-own.own) (map connection_is c.deref.result.now, map connection_is c.deref-2.result.now) c.instance-done.new.current c.instance-done.result c.after.result
    (counted_ok ch st c.in_ok-self.field-0 c.in_ok-self.ensures) (c.in_ok-own.ensures current ∙ λ i. m.begun (known_is c.args.known) (c.in_ok-path.ensures i) c.args.child.now.at.level (c.in_ok-given.ensures i) more) c.instance-done.ensures c.after.ensures.ok c.after.ensures.err)

pub returns-in_err-path : goal.returns-in_err-path
returns-in_err-path c = λ current.
    let j = child_alone (known_is c.args.known) (child_is c.args.child.now) (state_of c.args.self.now current) in
    ran_out _ j c.from_residual-in_err-path.result c.from_residual-in_err-path.ensures.1

pub returns-in_err-given : goal.returns-in_err-given
returns-in_err-given c = λ current.
    let j = child_alone (known_is c.args.known) (child_is c.args.child.now) (state_of c.args.self.now current) in
    ran_out _ j c.from_residual-in_err-given.result c.from_residual-in_err-given.ensures.1

pub returns-in_err-own : goal.returns-in_err-own
returns-in_err-own c = λ current.
    let j = child_alone (known_is c.args.known) (child_is c.args.child.now) (state_of c.args.self.now current) in
    ran_out _ j c.from_residual-in_err-own.result c.from_residual-in_err-own.ensures.1
