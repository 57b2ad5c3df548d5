use Rattle.std.proofs.lemmas.Result.{IfOk-from_err}
use Rattle.std.proofs.Common.{◌<◌, length, get_or, sym, ap, ◌∙◌, subst, All, arith, rules}
use Rattle.std.proofs.lemmas.List.{get_or_read}
use Rattle.svex_shape.specs.Shapes.{width_at}
use Rattle.sv_stores.proofs.Stores.{state_kept, inside}
use Rattle.sv_blocks.specs.Fitting.{PickSits}
use Rattle.sv_blocks.proofs.Writing.{target_wide, wrote}
use Rattle.sv_blocks.proofs.assigns.write_target.Goals as goal

pub place_of-at-requires : goal.place_of-at-requires
place_of-at-requires c = c.requires.sits.place.there

pub bounds-as_slice-at : goal.bounds-as_slice-at
bounds-as_slice-at c =
    let l = inside c.args.scene.now c.args.arena.now c.args.state.now.nodes c.args.target.now.wire c.place_of-at.result c.requires.scene c.requires.state.nodes c.place_of-at.ensures in
    let same = ap length c.as_slice.ensures in
    omega arith

pub written-requires-clause-wide : goal.written-requires-clause-wide
written-requires-clause-wide c =
    let at = c.place_of-at.result in
    let l = inside c.args.scene.now c.args.arena.now c.args.state.now.nodes c.args.target.now.wire at c.requires.scene c.requires.state.nodes c.place_of-at.ensures in
    let m : at < length c.as_slice.result.now = let a = ap length c.as_slice.ensures in omega arith in
    target_wide c.args.scene.now _ c.args.state.now.nodes c.args.target.now _ at _ _ c.requires.state.nodes c.requires.target l c.as_slice-2.ensures
    (get_or_read _ _ _ m c.index-as_slice-at.is 0 ∙ ap (λ xs. get_or xs at 0) c.as_slice.ensures) (c.requires.sits.place.width at c.place_of-at.ensures) c.requires.wide

pub written-requires-clause-narrow : goal.written-requires-clause-narrow
written-requires-clause-narrow c = subst (All (PickSits c.args.scene.now)) (sym c.as_slice-2.ensures) c.requires.sits.picks

pub put_node-requires-clause-state : goal.put_node-requires-clause-state
put_node-requires-clause-state c = state_kept _ _ _ _ c.in_ok-node.ensures.stays c.requires.state

pub put_node-requires-clause-at : goal.put_node-requires-clause-at
put_node-requires-clause-at c = inside c.args.scene.now c.args.arena.now c.args.state.now.nodes c.args.target.now.wire c.place_of-at.result c.requires.scene c.requires.state.nodes c.place_of-at.ensures

pub put_node-requires-clause-width : goal.put_node-requires-clause-width
put_node-requires-clause-width c =
    let at = c.place_of-at.result in
    let l = inside c.args.scene.now c.args.arena.now c.args.state.now.nodes c.args.target.now.wire at c.requires.scene c.requires.state.nodes c.place_of-at.ensures in
    let m : at < length c.as_slice.result.now = let a = ap length c.as_slice.ensures in omega arith in
    c.in_ok-node.ensures.ok.width ∙ ap (width_at c.args.arena.now) (get_or_read _ _ _ m c.index-as_slice-at.is 0 ∙ ap (λ xs. get_or xs at 0) c.as_slice.ensures) ∙ c.requires.state.nodes.width at l

pub returns-clause-wrote : goal.returns-clause-wrote
returns-clause-wrote c =
    let at = c.place_of-at.result in
    let l = inside c.args.scene.now c.args.arena.now c.args.state.now.nodes c.args.target.now.wire at c.requires.scene c.requires.state.nodes c.place_of-at.ensures in
    let m : at < length c.as_slice.result.now = let a = ap length c.as_slice.ensures in omega arith in
    wrote _ _ _ _ _ _ _ _ _ _ _ _ c.requires.scene c.len.ensures.arena c.len-2.ensures.arena c.requires.state.nodes c.in_ok-node.ensures.stays c.in_ok-put_node.ensures.stays c.place_of-at.ensures l c.as_slice-2.ensures
    (get_or_read _ _ _ m c.index-as_slice-at.is 0 ∙ ap (λ xs. get_or xs at 0) c.as_slice.ensures) (c.requires.sits.place.width at c.place_of-at.ensures)
    c.in_ok-node.ensures.ok c.in_ok-put_node.ensures.nodes

pub offset_bounds-as_slice-at : goal.offset_bounds-as_slice-at
offset_bounds-as_slice-at c =
    let l = inside c.args.scene.now c.args.arena.now c.args.state.now.nodes c.args.target.now.wire c.place_of-at.result c.requires.scene c.requires.state.nodes c.place_of-at.ensures in
    let same = ap length c.as_slice.ensures in
    search rules

pub written-requires-clause-of : goal.written-requires-clause-of
written-requires-clause-of c =
    let at = c.place_of-at.result in
    let l = inside c.args.scene.now c.args.arena.now c.args.state.now.nodes c.args.target.now.wire at c.requires.scene c.requires.state.nodes c.place_of-at.ensures in
    let m : at < length c.as_slice.result.now = let a = ap length c.as_slice.ensures in omega arith in
    subst (λ n. n < length c.args.arena.now) (sym (get_or_read _ _ _ m c.index-as_slice-at.is 0 ∙ ap (λ xs. get_or xs at 0) c.as_slice.ensures)) (c.requires.state.nodes.within at l)

pub returns-in_err-node-clause-state : goal.returns-in_err-node-clause-state
returns-in_err-node-clause-state c = IfOk-from_err _ _ c.from_residual.ensures.0

pub returns-in_err-node-clause-wrote : goal.returns-in_err-node-clause-wrote
returns-in_err-node-clause-wrote c = IfOk-from_err _ _ c.from_residual.ensures.0

pub returns-in_err-put_node-clause-state : goal.returns-in_err-put_node-clause-state
returns-in_err-put_node-clause-state c = IfOk-from_err _ _ c.from_residual-in_err-put_node.ensures.0

pub returns-in_err-put_node-clause-wrote : goal.returns-in_err-put_node-clause-wrote
returns-in_err-put_node-clause-wrote c = IfOk-from_err _ _ c.from_residual-in_err-put_node.ensures.0

pub returns-in_err-node-clause-kept : goal.returns-in_err-node-clause-kept
returns-in_err-node-clause-kept c = IfOk-from_err _ _ c.from_residual.ensures.0

pub returns-in_err-put_node-clause-kept : goal.returns-in_err-put_node-clause-kept
returns-in_err-put_node-clause-kept c = IfOk-from_err _ _ c.from_residual-in_err-put_node.ensures.0

pub returns-clause-kept : goal.returns-clause-kept
returns-clause-kept c = c.in_ok-put_node.ensures.kept
