use Rattle.std.proofs.Common.{◌≡◌, ◌+◌, length, List, get_or, set, sym, ◌∙◌, subst, ap, arith, false, None, []}
use Rattle.std.specs.List.{All}
use Rattle.std.proofs.lemmas.List.Elements.{All-nil}
use Rattle.std.proofs.lemmas.Result.{IfOk-from_err}
use Rattle.cnf.specs.Clauses.{valuation}
use Rattle.sat_state.specs.declared.watch.Watch.{Watch}
use Rattle.sat_state.specs.declared.trail.Assigned.{Assigned}
use Rattle.sat_state.specs.Watch.{IsGood, AreLists, Listed, ListedBut, Rest, numbers, rows, code}
use Rattle.sat_state.proofs.RowSets.{code_below}
use Rattle.sat_search.specs.Walk.{before, left_of}
use Rattle.sat_search.proofs.Rows.{dim_near, dim_stands, has_list, good_left, lists_set, listed_take, listed_put, rest_start, slice_back}
use Rattle.sat_search.proofs.search.look_through.Goals as goal

abbrev no_assigned : Assigned
no_assigned = record { dim = record { var = 0; negated = false }; reason = None }

pub take_list-list-requires : goal.take_list-list-requires
take_list-list-requires c = has_list c.args.lists.now _ (length c.args.trail.now.values) c.requires.ready.filed.count
    (dim_near (length c.args.trail.now.values) c.args.at c.args.trail.now.entries c.entries.result.now _ c.entries.ensures c.requires.ready.sound.tracks.apart c.requires.at)

pub work_off-requires-clause-out : goal.work_off-requires-clause-out
work_off-requires-clause-out c =
    let db = c.args.store.now in
    let ready = c.requires.ready in
    let d = (get_or c.entries.result.now c.args.at no_assigned).dim in
    let list = sym (c.as_mut_slice.ensures.value ∙ c.take_list-list.ensures.list) in
    record {
      below = ready.below;
      sound = ready.sound;
      width = ready.width;
      paired = ready.paired;
      filed = subst (λ (r : List (List Watch)). AreLists (length c.args.trail.now.values) db r) (sym c.take_list-list.ensures.rest)
          (lists_set (length c.args.trail.now.values) db (rows c.args.lists.now) _ [] (All-nil (IsGood db)) ready.filed);
      listed = subst (λ (r : List (List Watch)). ListedBut c.args.pairs.now r d (numbers c.as_mut_slice.result.now)) (sym c.take_list-list.ensures.rest)
          (subst (λ (r : List Watch). ListedBut c.args.pairs.now (set (rows c.args.lists.now) (code d) []) d (numbers r)) list
          (listed_take c.args.pairs.now (rows c.args.lists.now) d ready.listed));
      was = ready.was;
    }

pub work_off-requires-clause-stands : goal.work_off-requires-clause-stands
work_off-requires-clause-stands c = dim_stands c.args.at c.args.trail.now.entries c.entries.result.now no_assigned c.entries.ensures c.requires.at

pub work_off-requires-clause-good : goal.work_off-requires-clause-good
work_off-requires-clause-good c =
    let db = c.args.store.now in
    let lt = code_below _ (length (rows c.args.lists.now)) (let n = dim_near (length c.args.trail.now.values) c.args.at c.args.trail.now.entries c.entries.result.now no_assigned c.entries.ensures c.requires.ready.sound.tracks.apart c.requires.at in let e = c.requires.ready.filed.count in omega arith) in
    subst (λ (r : List Watch). All (IsGood db) r) (sym (c.as_mut_slice.ensures.value ∙ c.take_list-list.ensures.list))
    (c.requires.ready.filed.good (code (get_or c.entries.result.now c.args.at no_assigned).dim) [] lt)

pub work_off-requires-clause-rest : goal.work_off-requires-clause-rest
work_off-requires-clause-rest c =
    let db = c.args.store.now in
    let entries = c.args.trail.now.entries in
    let d = (get_or c.entries.result.now c.args.at no_assigned).dim in
    subst (λ (r : List Watch). Rest db c.args.pairs.now (before entries c.args.at) (before entries (c.args.at + 1)) (valuation c.args.trail.now.values) (numbers r)) (sym (c.as_mut_slice.ensures.value ∙ c.take_list-list.ensures.list))
    (rest_start db c.args.pairs.now (rows c.args.lists.now) (before entries c.args.at) (before entries (c.args.at + 1)) (valuation c.args.trail.now.values) d
    (dim_stands c.args.at entries c.entries.result.now no_assigned c.entries.ensures c.requires.at) c.requires.ready.listed c.requires.ready.paired.count c.requires.half.half)

pub put_list-requires : goal.put_list-requires
put_list-requires c = has_list c.work_off.new.lists _ (length c.args.trail.now.values) c.in_ok-walk.ensures.out.filed.count
    (dim_near (length c.args.trail.now.values) c.args.at c.args.trail.now.entries c.entries.result.now _ c.entries.ensures c.requires.ready.sound.tracks.apart c.requires.at)

pub returns-clause-ready : goal.returns-clause-ready
returns-clause-ready c =
    let db = c.args.store.now in
    let vars = length c.args.trail.now.values in
    let out = c.in_ok-walk.ensures.out in
    let d = (get_or c.entries.result.now c.args.at no_assigned).dim in
    let lt = code_below d (length (rows c.work_off.new.lists)) (let n = dim_near vars c.args.at c.args.trail.now.entries c.entries.result.now no_assigned c.entries.ensures c.requires.ready.sound.tracks.apart c.requires.at in let e = out.filed.count in omega arith) in
    let back = slice_back c.take_list-list.result.len c.work_off.new.list c.take_list-list.result.items c.as_mut_slice.result.now c.take_list-list.result.ok.0 c.work_off.auto.list c.as_mut_slice.ensures.value in
    let row : c.close_gap.new.list.items ≡ left_of c.work_off.new.list c.in_ok-walk.walk.kept c.in_ok-walk.walk.read =
    c.close_gap.ensures ∙ ap (λ (l : List Watch). left_of l c.in_ok-walk.walk.kept c.in_ok-walk.walk.read) back in
    let good : All (IsGood db) c.close_gap.new.list.items = subst (λ (r : List Watch). All (IsGood db) r) (sym row)
    (good_left db c.work_off.new.list c.in_ok-walk.walk.kept c.in_ok-walk.walk.read c.in_ok-walk.ensures.good) in
    record {
      below = out.below;
      sound = out.sound;
      width = out.width;
      paired = out.paired;
      filed = subst (λ (r : List (List Watch)). AreLists vars db r) (sym c.put_list.ensures)
          (lists_set vars db (rows c.work_off.new.lists) _ c.close_gap.new.list.items good out.filed);
      listed = subst (λ (r : List (List Watch)). Listed c.work_off.new.pairs r) (sym c.put_list.ensures)
          (listed_put c.work_off.new.pairs (rows c.work_off.new.lists) d c.close_gap.new.list.items lt
          (subst (λ (l : List Watch). ListedBut c.work_off.new.pairs (rows c.work_off.new.lists) d (numbers l)) (sym row) out.listed));
      was = out.was;
    }

pub returns-in_err-walk : goal.returns-in_err-walk
returns-in_err-walk c =
    let e = c.from_residual.ensures.0 in
    record {
      ready = IfOk-from_err _ _ e;
      fuller = IfOk-from_err _ _ e;
      found = IfOk-from_err _ _ e;
    }
