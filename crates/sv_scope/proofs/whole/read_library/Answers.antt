use Rattle.std.proofs.Common.{◌≡◌, List, ℕ, [], map, refl, sym, subst}
use Rattle.sv_tree.specs.declared.design.Module.{Module}
use Rattle.sv_hierarchy.specs.Scopes as m
use Rattle.sv_loops.specs.Answers.{Answers}
use Rattle.sv_modules.specs.Libraries.{modules_once}
use Rattle.sv_modules.specs.Listed.{modules_of}
use Rattle.sv_modules.specs.declared.numbered.Modules.{Modules}
use Rattle.sv_scope.specs.Scoped.{IsRead}
use Rattle.sv_walk.specs.Walks.{state_of}
use Rattle.sv_walk.proofs.Opening.{Reached}
use Rattle.sv_scope.proofs.WholeDesign.{library_at, library_refused, modules_refused, parts_refused, reads_all}
use Rattle.sv_scope.proofs.whole.read_library.Goals as goal

pub returns-in_err-above : goal.returns-in_err-above
returns-in_err-above c =
    let st = state_of c.file_level.new.walker c.file_level.new.current in
    let reads = λ (found : m.Library × m.State) (x : List ℕ). (map (λ (k : m.Known). k.above) found.0 ≡ x) × (found.1 ≡ st) in
    let e = c.in_err-above.field-0.0 in
    library_refused c.args.source.now c.file_level.new.walker c.file_level.new.current c.from_residual.result e c.from_residual.ensures.1
    (parts_refused reads c.args.source.now c.as_slice.result.now (state_of c.args.walker.now c.args.file.now) c.file_level.result e c.as_slice.ensures c.requires c.in_err-above.was c.file_level.ensures)

pub returns-in_err-above-2 : goal.returns-in_err-above-2
returns-in_err-above-2 c =
    let source = c.args.source.now in
    let start = state_of c.args.walker.now c.args.file.now in
    let st = state_of c.file_level.new.walker c.file_level.new.current in
    let lists = λ (x : List Module) (y : Modules). modules_of y ≡ x in
    let e = c.in_err-above-2.field-0.0 in
    let found = library_at source.parts c.as_slice.result.now start st c.in_ok-above.above c.as_slice.ensures c.requires c.in_ok-above.ensures in
    library_refused source c.file_level.new.walker c.file_level.new.current c.from_residual-in_err-above-2.result e c.from_residual-in_err-above-2.ensures.1
    (λ top. modules_refused lists Reached (m.scopes source top) source.parts m.file_state st found.0 e found.1 (subst (Answers lists (modules_once source.parts)) c.in_err-above-2.ensures.failed c.new-modules.ensures))

pub returns : goal.returns
returns c =
    let source = c.args.source.now in
    let walker = c.file_level.new.walker in
    let file = c.file_level.new.current in
    let modules = c.in_ok-above-2.modules in
    let lists = λ (x : List Module) (y : Modules). modules_of y ≡ x in
    subst (λ (x : List ℕ). IsRead source walker file (record { modules = modules; above = x })) (sym c.in_ok-above-2.ensures.pair.0)
    (reads_all source walker c.as_slice.result.now (state_of c.args.walker.now c.args.file.now) file c.in_ok-above.above modules c.as_slice.ensures c.requires c.in_ok-above.ensures
    (subst (Answers lists (modules_once source.parts)) c.in_ok-above-2.ensures.pair.1 c.new-modules.ensures))
