use Rattle.std.proofs.Common.{◌∙◌}
use Rattle.std.specs.Option.{option_copied}
use Rattle.sv_names.specs.Kinds.{entries_are}
use Rattle.sv_hierarchy.specs.Scopes.{block_name, block_place, declare_at, inner}
use Rattle.sv_walk.specs.Walks.{state_of}
use Rattle.sv_walk.proofs.Walking.{ended}
use Rattle.sv_walk.proofs.WalkingBlocks.{begins_memory, begins_refused, declared_as}
use Rattle.sv_walk.proofs.walker.Walker.block.Goals as goal

pub returns-in_err-name : goal.returns-in_err-name
returns-in_err-name c =
    begins_memory (option_copied c.args.label) c.args.place c.args.number c.args.self.now c.args.current.now c.args.self.now c.args.current.now c.from_residual.result c.from_residual.ensures.1

pub returns-in_err-declare_at : goal.returns-in_err-declare_at
returns-in_err-declare_at c =
    begins_refused (option_copied c.args.label) c.args.place c.args.number c.args.self.now c.args.current.now c.args.self.now c.declare_at.new.self (state_of c.args.self.now c.declare_at.new.self) c.block_place.result c.bytes.result.now
    c.declare_at.result c.in_err-declare_at.field-0.0 c.from_residual-in_err-declare_at.result c.block_place.ensures (c.bytes.ensures ∙ c.in_ok-name.ensures) c.in_err-declare_at.was (c.declare_at.ensures c.args.self.now)
    c.from_residual-in_err-declare_at.ensures.1

pub returns-in_err-block : goal.returns-in_err-block
returns-in_err-block c =
    begins_memory (option_copied c.args.label) c.args.place c.args.number c.args.self.now c.args.current.now c.begin.new.self c.declare_at.new.self c.from_residual-in_err-block.result c.from_residual-in_err-block.ensures.1

pub returns : goal.returns
returns c =
    let s = state_of c.args.self.now c.args.current.now in
    let q = state_of c.args.self.now c.declare_at.new.self in
    record {
      declared = declared_as c.block_place.result (block_place (option_copied c.args.label) c.args.place) c.bytes.result.now (block_name (option_copied c.args.label) c.args.number) s q c.block_place.ensures (c.bytes.ensures ∙ c.in_ok-name.ensures)
          (ended q (declare_at c.block_place.result c.bytes.result.now s) (tt {0}) (c.in_ok-declare_at.ensures c.args.self.now));
      begun = c.in_ok-block.ensures ∙ λ i. inner ((c.bytes-2.ensures ∙ c.in_ok-name.ensures) i) (entries_are (c.new-nets.ensures i)) q;
    }
