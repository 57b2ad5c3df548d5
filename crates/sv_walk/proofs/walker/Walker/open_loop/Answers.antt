use Rattle.std.proofs.Common.{◌∙◌, ℕ, Ok, ap}
use Rattle.std.specs.Option.{option_copied}
use Rattle.sv_hierarchy.specs.Scopes.{block_name, next_construct}
use Rattle.sv_loops.proofs.Chains.{gives_ok}
use Rattle.sv_walk.proofs.WalkingTrees.{for_begun, for_unvalued}
use Rattle.sv_walk.proofs.walker.Walker.open_loop.Goals as goal
use Rattle.sv_walk.proofs.Walking.{ended}
use Rattle.sv_walk.proofs.WalkingBlocks.{loop_begun, loop_counted, loop_memory, loop_undeclared}
use Rattle.sv_walk.specs.Items.{declare_turns}
use Rattle.sv_walk.specs.Looping.{loop_judged}
use Rattle.sv_walk.specs.Walks.{state_of}

pub returns-in_err-values : goal.returns-in_err-values
returns-in_err-values c = λ item i.
    for_unvalued c.args.place c.args.header c.args.variable.now c.args.start.now c.args.test.now c.args.next.now c.args.body.now item c.args.self.now c.args.current.now c.args.current.now c.in_err-values.field-0.0 c.from_residual.result i
    c.in_err-values.ensures c.from_residual.ensures.1

pub returns-in_err-next_construct : goal.returns-in_err-next_construct
returns-in_err-next_construct c = λ item i.
    for_begun c.args.place c.args.header c.args.variable.now c.args.start.now c.args.test.now c.args.next.now c.args.body.now item c.args.self.now c.args.current.now c.next_construct.new.self c.in_ok-values.values c.from_residual-in_err-next_construct.result i
    (gives_ok (loop_judged c.args.place c.args.header c.args.variable.now c.args.start.now c.args.test.now c.args.next.now (state_of c.args.self.now c.args.current.now)) c.in_ok-values.values c.in_ok-values.ensures)
    (loop_counted c.args.body.now c.in_ok-values.values c.args.self.now c.args.current.now c.next_construct.new.self (state_of c.args.self.now c.next_construct.new.self) c.next_construct.result c.in_err-next_construct.field-0.0
    c.from_residual-in_err-next_construct.result c.in_err-next_construct.was (c.next_construct.ensures c.args.self.now) c.from_residual-in_err-next_construct.ensures.1)

pub returns-in_err-name : goal.returns-in_err-name
returns-in_err-name c = λ item i.
    for_begun c.args.place c.args.header c.args.variable.now c.args.start.now c.args.test.now c.args.next.now c.args.body.now item c.args.self.now c.args.current.now c.next_construct.new.self c.in_ok-values.values c.from_residual-in_err-name.result i
    (gives_ok (loop_judged c.args.place c.args.header c.args.variable.now c.args.start.now c.args.test.now c.args.next.now (state_of c.args.self.now c.args.current.now)) c.in_ok-values.values c.in_ok-values.ensures)
    (loop_memory c.args.body.now c.in_ok-values.values c.args.self.now c.args.current.now c.next_construct.new.self c.from_residual-in_err-name.result c.from_residual-in_err-name.ensures.1)

pub returns-in_err-declare_turns : goal.returns-in_err-declare_turns
returns-in_err-declare_turns c = λ item i.
    for_begun c.args.place c.args.header c.args.variable.now c.args.start.now c.args.test.now c.args.next.now c.args.body.now item c.args.self.now c.args.current.now c.declare_turns.new.current c.in_ok-values.values c.from_residual-in_err-declare_turns.result i
    (gives_ok (loop_judged c.args.place c.args.header c.args.variable.now c.args.start.now c.args.test.now c.args.next.now (state_of c.args.self.now c.args.current.now)) c.in_ok-values.values c.in_ok-values.ensures)
    (loop_undeclared c.args.body.now c.in_ok-values.values c.args.self.now c.args.current.now c.next_construct.new.self c.declare_turns.new.current (state_of c.args.self.now c.declare_turns.new.current) (option_copied c.head_of.result.0) c.head_of.result.1
    c.block_place.result c.bytes.result.now c.declare_turns.result c.in_err-declare_turns.field-0.0 c.from_residual-in_err-declare_turns.result c.head_of.ensures.0 c.head_of.ensures.1 c.block_place.ensures
    (c.bytes.ensures ∙ c.in_ok-name.ensures ∙ ap (λ (n : ℕ). block_name (option_copied c.head_of.result.0) n) (c.len.ensures ∙ c.next_construct.new.self.constructs.ok.0))
    (ended (state_of c.args.self.now c.next_construct.new.self) (next_construct (state_of c.args.self.now c.args.current.now)) (tt {0}) (c.in_ok-next_construct.ensures c.args.self.now)) c.in_err-declare_turns.was (c.declare_turns.ensures c.args.self.now)
    c.from_residual-in_err-declare_turns.ensures.1)

pub returns : goal.returns
returns c = λ item i.
    for_begun c.args.place c.args.header c.args.variable.now c.args.start.now c.args.test.now c.args.next.now c.args.body.now item c.args.self.now c.args.current.now c.declare_turns.new.current c.in_ok-values.values (Ok (record { name = c.in_ok-name.name; values = c.in_ok-values.values })) i
    (gives_ok (loop_judged c.args.place c.args.header c.args.variable.now c.args.start.now c.args.test.now c.args.next.now (state_of c.args.self.now c.args.current.now)) c.in_ok-values.values c.in_ok-values.ensures)
    (loop_begun c.args.body.now c.in_ok-values.values c.args.self.now c.args.current.now c.next_construct.new.self c.declare_turns.new.current (option_copied c.head_of.result.0) c.head_of.result.1
    c.block_place.result c.bytes.result.now c.in_ok-name.name c.head_of.ensures.0 c.head_of.ensures.1 c.block_place.ensures c.bytes.ensures
    (c.in_ok-name.ensures ∙ ap (λ (n : ℕ). block_name (option_copied c.head_of.result.0) n) (c.len.ensures ∙ c.next_construct.new.self.constructs.ok.0))
    (ended (state_of c.args.self.now c.next_construct.new.self) (next_construct (state_of c.args.self.now c.args.current.now)) (tt {0}) (c.in_ok-next_construct.ensures c.args.self.now))
    (ended (state_of c.args.self.now c.declare_turns.new.current) (declare_turns c.block_place.result c.bytes.result.now c.in_ok-values.values (state_of c.args.self.now c.next_construct.new.self)) (tt {0}) (c.in_ok-declare_turns.ensures c.args.self.now)))
