use Rattle.std.proofs.lemmas.Result.{IfOk-from_err}
use Rattle.std.proofs.Common.{List, [], ◌∷◌, ◌++◌, ◌≡◌, ◌<◌, length, get_or, sym, ap, ◌∙◌, subst, arith, rules}
use Rattle.std.proofs.lemmas.List.{get_or_default}
use Rattle.svex_shape.specs.Shapes.{width_at}
use Rattle.fourvec.specs.Bits.{slice_of}
use Rattle.lhs_alias.specs.declared.segs.Seg.{Seg}
use Rattle.sv_lower.specs.Nodes.{FromOne}
use Rattle.sv_blocks.specs.Driving.{run_seg}
use Rattle.sv_stores.proofs.Stores.{inside}
use Rattle.sv_blocks.proofs.Driving.{drives}
use Rattle.sv_blocks.proofs.drivers.driver_of.Goals as goal

pub place_of-place-requires : goal.place_of-place-requires
place_of-place-requires c = c.requires.run.there

pub bounds-nodes-place : goal.bounds-nodes-place
bounds-nodes-place c = inside c.args.scene.now c.args.arena.now c.args.nodes.now c.args.first.wire c.place_of-place.result c.requires.scene c.requires.nodes c.place_of-place.ensures

pub sliced-requires-clause-within : goal.sliced-requires-clause-within
sliced-requires-clause-within c =
    let place = c.place_of-place.result in
    let l = inside c.args.scene.now c.args.arena.now c.args.nodes.now c.args.first.wire place c.requires.scene c.requires.nodes c.place_of-place.ensures in
    let node = c.index-nodes-place.result in
    let same : node ≡ get_or c.args.nodes.now place 0 = c.index-nodes-place.is ∙ get_or_default c.args.nodes.now place node 0 l in
    let wide = ap (width_at c.args.arena.now) same ∙ c.requires.nodes.width place l in
    let room = c.requires.run.room place c.place_of-place.ensures in
    omega arith

pub returns-clause-ok : goal.returns-clause-ok
returns-clause-ok c =
    let place = c.place_of-place.result in
    let l = inside c.args.scene.now c.args.arena.now c.args.nodes.now c.args.first.wire place c.requires.scene c.requires.nodes c.place_of-place.ensures in
    let node = c.index-nodes-place.result in
    let same : node ≡ get_or c.args.nodes.now place 0 = c.index-nodes-place.is ∙ get_or_default c.args.nodes.now place node 0 l in
    drives c.args.scene.now c.args.arena.now c.sliced.new.arena c.args.nodes.now c.args.first c.args.count place c.in_ok-value.value c.from_vec.result c.requires.scene c.len.ensures.arena c.requires.nodes c.place_of-place.ensures c.requires.some
    (c.requires.run.room place c.place_of-place.ensures)
    (subst (λ n. FromOne c.args.arena.now c.sliced.new.arena (λ v. slice_of v c.args.first.at c.args.count) n c.args.count c.in_ok-value.value) same c.in_ok-value.ensures.ok)
    (c.from_vec.ensures ∙ c.in_ok-push.ensures.items ∙ ap (λ (z : List Seg). z ++ run_seg c.args.first c.args.count ∷ []) c.new-segs.ensures.items)

pub offset_bounds-nodes-place : goal.offset_bounds-nodes-place
offset_bounds-nodes-place c =
    let l = inside c.args.scene.now c.args.arena.now c.args.nodes.now c.args.first.wire c.place_of-place.result c.requires.scene c.requires.nodes c.place_of-place.ensures in
    search rules

pub sliced-requires-clause-a : goal.sliced-requires-clause-a
sliced-requires-clause-a c =
    let place = c.place_of-place.result in
    let l = inside c.args.scene.now c.args.arena.now c.args.nodes.now c.args.first.wire place c.requires.scene c.requires.nodes c.place_of-place.ensures in
    let node = c.index-nodes-place.result in
    let same : node ≡ get_or c.args.nodes.now place 0 = c.index-nodes-place.is ∙ get_or_default c.args.nodes.now place node 0 l in
    subst (λ n. n < length c.args.arena.now) (sym same) (c.requires.nodes.within place l)

pub returns-in_err-push-clause-ok : goal.returns-in_err-push-clause-ok
returns-in_err-push-clause-ok c = IfOk-from_err _ _ c.from_residual-in_err-push.ensures.0

pub returns-in_err-value-clause-ok : goal.returns-in_err-value-clause-ok
returns-in_err-value-clause-ok c = IfOk-from_err _ _ c.from_residual.ensures.0
