use Rattle.std.proofs.Common.{◌≡◌, [], ℕ, List, map, refl, arith}
use Rattle.sv_hierarchy.specs.Scopes as m
use Rattle.sv_loops.proofs.Chains.{answers_ok}
use Rattle.sv_scope.proofs.Filed.{Parts, filed_none, filed_next, filed_refused, filed_end}
use Rattle.sv_scope.proofs.file.file_level.Goals as goal
use Rattle.sv_walk.proofs.Opening.{Found}
use Rattle.sv_levels.proofs.Wired.{passed_on}
use Rattle.sv_walk.specs.Walks.{state_of}

pub parts-init : goal.parts-init
parts-init c = filed_none c.args.parts.now (state_of c.args.walker.now c.args.current.now) c.new-listed.result c.new-listed.ensures

pub returns-in_err-add_part : goal.returns-in_err-add_part
returns-in_err-add_part c =
    let e = c.in_err-add_part.field-0.0 in
    let start = state_of c.args.walker.now c.args.current.now in
    passed_on Found _ (m.library c.args.parts.now [] start) c.from_residual.result e c.from_residual.ensures.1
    (filed_refused (Parts c.add_part.new.listed (state_of c.add_part.new.walker c.add_part.new.current)) Found c.args.parts.now c.parts.part-index start (state_of c.parts.walker c.parts.current) c.parts.listed c.part-item.result e
    c.parts.invariant c.parts-test.true c.part-item.is c.in_err-add_part.ensures)

pub parts-preserved : goal.parts-preserved
parts-preserved c =
    filed_next c.args.parts.now c.parts.part-index (state_of c.args.walker.now c.args.current.now) (state_of c.parts.walker c.parts.current) (state_of c.add_part.new.walker c.add_part.new.current) c.parts.listed c.add_part.new.listed c.part-item.result
    c.in_ok-add_part.field-0 c.parts.invariant c.parts-test.true c.part-item.is c.in_ok-add_part.ensures

pub returns : goal.returns
returns c =
    let last = state_of c.parts.walker c.parts.current in
    let start = state_of c.args.walker.now c.args.current.now in
    answers_ok (λ (found : m.Library × m.State) (x : List ℕ). (map (λ (k : m.Known). k.above) found.0 ≡ x) × (found.1 ≡ last)) (m.library c.args.parts.now [] start) (c.parts.invariant.all, last) c.parts.listed.above
    (filed_end c.args.parts.now c.parts.part-index start last c.parts.listed c.parts.invariant (omega (arith, c.parts-test.false))) (c.parts.invariant.lists.above, refl)
