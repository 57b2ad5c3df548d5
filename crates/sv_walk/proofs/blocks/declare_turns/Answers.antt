use Rattle.std.proofs.Common.{◌≡◌, ◌∙◌, true, false, sym}
use Rattle.sv_hierarchy.specs.Scopes.{declare_at}
use Rattle.sv_walk.specs.Items.{declare_turns}
use Rattle.sv_walk.specs.Walks.{state_of}
use Rattle.sv_walk.proofs.Walking.{ends, same_ends}
use Rattle.sv_walk.proofs.WalkingBlocks.{none_declared, some_declared}
use Rattle.sv_walk.proofs.blocks.declare_turns.Goals as goal

pub returns-then-is_empty : goal.returns-then-is_empty
returns-then-is_empty c =
    λ w. let s = state_of w c.args.current.now in
    ends s (declare_turns c.args.place c.args.name.now c.args.values.now s) tt (none_declared c.args.place c.args.name.now c.args.values.now s (c.is_empty.ensures.0 c.if-is_empty.true))

pub returns-else-is_empty : goal.returns-else-is_empty
returns-else-is_empty c = λ w.
    let s = state_of w c.args.current.now in
    let f : c.is_empty.result ≡ false = c.if-is_empty.false in
    same_ends (state_of w c.declare_at.new.self) (declare_turns c.args.place c.args.name.now c.args.values.now s) (declare_at c.args.place c.args.name.now s) c.declare_at.result
    (some_declared c.args.place c.args.name.now c.args.values.now s (λ e. let t : c.is_empty.result ≡ true = c.is_empty.ensures.1 e in let b : true ≡ false = sym t ∙ f in cc)) (c.declare_at.ensures w)
