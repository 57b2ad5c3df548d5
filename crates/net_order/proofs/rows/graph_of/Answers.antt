use Rattle.std.proofs.lemmas.Result.{IfOk-from_err}
use Rattle.std.proofs.Common.{◌≡◌, ◌<◌, ◌++◌, ◌∷◌, ℕ, Bool, List, [], length, map, get_or, sym, ap, ◌∙◌, subst, arith}
use Rattle.std.specs.Prelude.{slice_index}
use Rattle.lhs_alias.specs.declared.segs.Seg.{Seg}
use Rattle.lhs_alias.specs.Segs.{IsSeg}
use Rattle.driver_resolve.specs.declared.driver.NetEq.{NetEq}
use Rattle.svex_shape.specs.Shapes.{shape_at}
use Rattle.svex_arena.specs.Marks.{HasRoots, OnlyReached}
use Rattle.net_order.specs.Rows.{values_in, segs_in, IsNodeRow, AreRows, AreMarked}
use Rattle.net_order.proofs.Listing.{root-there, segs-good, used-there, used-variables, rows-all}
use Rattle.net_order.proofs.rows.graph_of.Goals as goal

pub reached-requires : goal.reached-requires
reached-requires c =
    let values : c.deref.result.now ≡ values_in c.args.set.now.eqs = c.deref.ensures.value ∙ c.in_ok-values.ensures ∙ ap values_in c.as_slice-eqs.ensures in
    subst (λ (l : List ℕ). (i : ℕ) → i < length l → slice_index l i < length c.args.arena.now) (sym values)
    (root-there c.args.joins.now c.args.arena.now c.args.set.now c.len.ensures.arena c.requires)

pub new-requires : goal.new-requires
new-requires c =
    subst (λ (l : List NetEq). (k : ℕ) (d : Seg) → k < length (segs_in l) → IsSeg (get_or (segs_in l) k d)) (sym c.as_slice-eqs.ensures)
    (segs-good c.args.joins.now c.args.arena.now c.args.set.now c.len.ensures.arena c.requires)

pub node_rows-requires-clause-can : goal.node_rows-requires-clause-can
node_rows-requires-clause-can c = c.in_ok-tellers.ensures.can (length c.in_ok-used.used.nodes.items)
    (let v = c.in_ok-used.used.nodes in omega (arith, v.ok.0, v.ok.1, v.small, c.as_slice-eqs.type_inv))

pub node_rows-requires-clause-nodes : goal.node_rows-requires-clause-nodes
node_rows-requires-clause-nodes c =
    let used = c.in_ok-used.used in
    let are : AreMarked c.in_ok-marks.marks.items used.nodes.items used.places.items (length c.in_ok-marks.marks.items) =
    subst (λ (l : List Bool). AreMarked l used.nodes.items used.places.items (length l)) c.deref-2.ensures.value c.in_ok-used.ensures in
    used-there c.args.joins.now c.args.arena.now c.args.set.now c.len.ensures.arena c.requires c.in_ok-marks.marks.items used.nodes.items used.places.items c.in_ok-marks.ensures.len are

pub node_rows-requires-clause-variables : goal.node_rows-requires-clause-variables
node_rows-requires-clause-variables c =
    let values : c.deref.result.now ≡ values_in c.args.set.now.eqs = c.deref.ensures.value ∙ c.in_ok-values.ensures ∙ ap values_in c.as_slice-eqs.ensures in
    let marks = c.in_ok-marks.marks.items in
    let used = c.in_ok-used.used in
    let are : AreMarked marks used.nodes.items used.places.items (length marks) =
    subst (λ (l : List Bool). AreMarked l used.nodes.items used.places.items (length l)) c.deref-2.ensures.value c.in_ok-used.ensures in
    used-variables c.args.joins.now c.args.arena.now c.args.set.now c.len.ensures.arena c.requires marks used.nodes.items used.places.items
    (subst (λ (l : List ℕ). OnlyReached c.args.arena.now l marks) values c.in_ok-marks.ensures.only) are

pub returns : goal.returns
returns c =
    let shapes = c.args.arena.now in
    let eqs = c.args.set.now.eqs in
    let values : c.deref.result.now ≡ values_in eqs = c.deref.ensures.value ∙ c.in_ok-values.ensures ∙ ap values_in c.as_slice-eqs.ensures in
    let segs : c.in_ok-tellers.tellers.segs.items ≡ segs_in eqs = c.in_ok-tellers.ensures.segs ∙ ap segs_in c.as_slice-eqs.ensures in
    let marks = c.in_ok-marks.marks.items in
    let used = c.in_ok-used.used.nodes.items in
    let places = c.in_ok-used.used.places.items in
    let nodes = c.in_ok-rows.rows.items in
    let many : length used ≡ c.len-2.result = omega (arith, c.len-2.ensures, c.in_ok-used.used.nodes.ok.0) in
    let are : AreMarked marks used places (length marks) = subst (λ (l : List Bool). AreMarked l used places (length l)) c.deref-2.ensures.value c.in_ok-used.ensures in
    subst (λ n. AreRows c.args.joins.now shapes eqs n c.put_eqs.new.rows.items) many
    (rows-all c.args.joins.now shapes c.args.set.now c.len.ensures.arena c.requires marks used places nodes c.put_eqs.new.rows.items c.in_ok-marks.ensures.len
    (subst (λ (l : List ℕ). HasRoots l marks (length l)) values c.in_ok-marks.ensures.roots) c.in_ok-marks.ensures.closed are c.in_ok-rows.ensures.size
    (subst (λ (l : List Seg). (p : ℕ) → p < length used → IsNodeRow c.args.joins.now l (length used) (slice_index places) (shape_at shapes (slice_index used p)) (get_or nodes p [])) segs c.in_ok-rows.ensures.rows)
    (c.in_ok-put_eqs.ensures
    ∙ ap (λ (l : List NetEq). nodes ++ map (λ (v : ℕ). slice_index c.deref-3.result.now v ∷ []) (values_in l)) c.as_slice-eqs.ensures
    ∙ ap (λ (l : List ℕ). nodes ++ map (λ (v : ℕ). slice_index l v ∷ []) (values_in eqs)) c.deref-3.ensures.value))

pub returns-in_err-marks : goal.returns-in_err-marks
returns-in_err-marks c = IfOk-from_err _ _ c.from_residual-in_err-marks.ensures.0

pub returns-in_err-put_eqs : goal.returns-in_err-put_eqs
returns-in_err-put_eqs c = IfOk-from_err _ _ c.from_residual-in_err-put_eqs.ensures.0

pub returns-in_err-rows : goal.returns-in_err-rows
returns-in_err-rows c = IfOk-from_err _ _ c.from_residual-in_err-rows.ensures.0

pub returns-in_err-tellers : goal.returns-in_err-tellers
returns-in_err-tellers c = IfOk-from_err _ _ c.from_residual.ensures.0

pub returns-in_err-used : goal.returns-in_err-used
returns-in_err-used c = IfOk-from_err _ _ c.from_residual-in_err-used.ensures.0

pub returns-in_err-values : goal.returns-in_err-values
returns-in_err-values c = IfOk-from_err _ _ c.from_residual-in_err-values.ensures.0
