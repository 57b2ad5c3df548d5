use Rattle.std.proofs.Common.{◌≡◌, ◌<◌, ◌≤◌, ◌+◌, ◌⊎◌, ℕ, length, List, get_or, set, take, drop, reverse, sym, ◌∙◌, refl, subst, ap, ⊎_elim, arith, ◌∷◌, [], ◌++◌}
use Rattle.std.proofs.lemmas.List.{get_or_default}
use Rattle.std.proofs.lemmas.List.Elements.{All-set, All-contains}
use Rattle.std.proofs.lemmas.Result.{IfOk-from_err}
use Rattle.cnf.specs.declared.Dim.{Dim}
use Rattle.cnf.specs.Clauses.{AllBelow, Valuation, valuation, denied, IsConflict, IsUnit}
use Rattle.refute_check.specs.Accepted.{clause_at}
use Rattle.sat_state.specs.declared.trail.Assigned.{Assigned}
use Rattle.sat_state.specs.declared.watch.Watch.{Watch}
use Rattle.sat_state.specs.Trail.{falses}
use Rattle.sat_state.specs.Watch.{AllHalf, HasTrue, AreFree, IsMove, IsGood, AreLists, ListedBut, Rest, pair_at, no_watch, numbers, rows, row_at, code}
use Rattle.sat_state.proofs.RowSets.{code_below}
use Rattle.sat_search.specs.Walk.{before, left_of}
use Rattle.sat_search.specs.Lesson.{IsOut}
use Rattle.sat_search.proofs.Kept.{rest_end}
use Rattle.sat_search.proofs.Steps.{sound_unit}
use Rattle.sat_search.proofs.Rests.{rest_keep, rest_move, rest_unit, was_moved, below_high, below_self, below_assigned, now_assigned, was_assigned, front_assigned, one_longer}
use Rattle.sat_search.proofs.Rows.{left_first, left_set, own_first, own_rest, own_keep, has_list, lists_grow, listed_move, moved_away, pairs_move}
use Rattle.sat_search.proofs.walk.work_off.Goals as goal
use Rattle.sat_search.proofs.walk.work_off.Goals.{in-Keep, in-Move+in_ok-add_to-in-Move, in-Unit+in_ok-assign-in-Unit}

pub loop-i-init : goal.loop-i-init
loop-i-init c = record {
  out = c.requires.out;
  fuller = record { longer = omega arith; filled = refl };
  front = refl;
  order = omega arith;
  good = c.requires.good;
  rest = c.requires.rest;
}

pub look_at-requires-clause-width : goal.look_at-requires-clause-width
look_at-requires-clause-width c = subst (λ (n : ℕ). AllBelow n c.args.store.now) (sym (ap length c.values.ensures ∙ c.loop-i.invariant.out.width)) c.loop-i.invariant.out.below

pub look_at-requires-clause-pairs : goal.look_at-requires-clause-pairs
look_at-requires-clause-pairs c = c.loop-i.invariant.out.paired

pub look_at-requires-clause-good : goal.look_at-requires-clause-good
look_at-requires-clause-good c =
    let w0 : Watch = c.index-list-i.result in
    let li : c.loop-i.i < length c.loop-i.list = let e = c.loop-i.auto.list in omega (arith, c.loop-i-test.true) in
    subst (λ (w : Watch). IsGood c.args.store.now w) (sym (c.index-list-i.is ∙ get_or_default c.loop-i.list c.loop-i.i w0 no_watch li)) (c.loop-i.invariant.good c.loop-i.i no_watch li)

pub look_at-requires-clause-half : goal.look_at-requires-clause-half
look_at-requires-clause-half c =
    let w0 : Watch = c.index-list-i.result in
    let k0 : ℕ = w0.clause in
    let low = before c.args.trail.now.entries c.args.at in
    let next = before c.args.trail.now.entries (c.args.at + 1) in
    let li : c.loop-i.i < length c.loop-i.list = let e = c.loop-i.auto.list in omega (arith, c.loop-i-test.true) in
    let at : w0 ≡ get_or c.loop-i.list c.loop-i.i no_watch = c.index-list-i.is ∙ get_or_default c.loop-i.list c.loop-i.i w0 no_watch li in
    let good : IsGood c.args.store.now w0 = subst (λ (w : Watch). IsGood c.args.store.now w) (sym at) (c.loop-i.invariant.good c.loop-i.i no_watch li) in
    let lt = good.0 in
    subst (λ (a : Valuation). (x : Valuation) × (HasTrue a (clause_at c.args.store.now k0) ⊎ AreFree x (clause_at c.args.store.now k0) (pair_at c.loop-i.pairs k0)))
    (ap valuation (sym c.values.ensures))
    (⊎_elim (λ h. (next, h)) (λ p. (low, p.0)) (c.loop-i.invariant.rest k0 lt))

pub add_to-requires : goal.add_to-requires
add_to-requires c =
    let db = c.args.store.now in
    let list = c.loop-i.list in
    let i = c.loop-i.i in
    let w0 : Watch = c.index-list-i.result in
    let k0 : ℕ = w0.clause in
    let q = c.in-Move.pair in
    let inv = c.loop-i.invariant in
    let li : i < length list = let e = c.loop-i.auto.list in omega (arith, c.loop-i-test.true) in
    let g0 : IsGood db w0 = subst (λ (w : Watch). IsGood db w) (sym (c.index-list-i.is ∙ get_or_default list i w0 no_watch li)) (inv.good i no_watch li) in
    let near : q.b.var < length c.args.trail.now.values = All-contains (λ (x : Dim). x.var < length c.args.trail.now.values) (clause_at db k0) q.b (c.requires.out.below k0 [] g0.0) c.in-Move.ensures.has in
    has_list c.loop-i.lists q.b.var (length c.args.trail.now.values) inv.out.filed.count near

pub assign-requires : goal.assign-requires
assign-requires c =
    let db = c.args.store.now in
    let list = c.loop-i.list in
    let i = c.loop-i.i in
    let w0 : Watch = c.index-list-i.result in
    let k0 : ℕ = w0.clause in
    let o = c.in-Unit.open in
    let inv = c.loop-i.invariant in
    let li : i < length list = let e = c.loop-i.auto.list in omega (arith, c.loop-i-test.true) in
    let g0 : IsGood db w0 = subst (λ (w : Watch). IsGood db w) (sym (c.index-list-i.is ∙ get_or_default list i w0 no_watch li)) (inv.good i no_watch li) in
    let u : IsUnit (valuation c.loop-i.trail.values) (clause_at db k0) o = subst (λ (a : Valuation). IsUnit a (clause_at db k0) o) (ap valuation c.values.ensures) c.in-Unit.ensures in
    let near : o.var < length c.args.trail.now.values = All-contains (λ (x : Dim). x.var < length c.args.trail.now.values) (clause_at db k0) o (c.requires.out.below k0 [] g0.0) u.inside in
    record { range = omega (arith, near, inv.out.width); tracks = inv.out.sound.tracks; «open» = u.opened }

pub loop-i-preserved : goal.loop-i-preserved
loop-i-preserved c =
    let db = c.args.store.now in
    let vars = length c.args.trail.now.values in
    let list = c.loop-i.list in
    let pairs = c.loop-i.pairs in
    let kept = c.loop-i.kept in
    let i = c.loop-i.i in
    let d = c.args.d in
    let w0 : Watch = c.index-list-i.result in
    let k0 : ℕ = w0.clause in
    let high = valuation c.loop-i.trail.values in
    let low = before c.args.trail.now.entries c.args.at in
    let next = before c.args.trail.now.entries (c.args.at + 1) in
    let left = numbers (drop (i + 1) list) in
    let inv = c.loop-i.invariant in
    let out = inv.out in
    let li : i < length list = let e = c.loop-i.auto.list in omega (arith, c.loop-i-test.true) in
    let lk : kept ≤ i = inv.order in
    let is0 : w0 ≡ get_or list i w0 = c.index-list-i.is in
    let g0 : IsGood db w0 = subst (λ (w : Watch). IsGood db w) (sym (is0 ∙ get_or_default list i w0 no_watch li)) (inv.good i no_watch li) in
    let lt : k0 < length db = g0.0 in
    let rest : Rest db pairs low next high (k0 ∷ left) = subst (λ (l : List ℕ). Rest db pairs low next high l) (left_first list i w0 li is0) inv.rest in
    let below = below_high (c.args.at + 1) c.loop-i.trail.values c.loop-i.trail.entries c.args.trail.now.entries out.sound.tracks inv.front in
    let lp : k0 < length pairs = (let e = out.paired.count in omega arith) in
    let see : valuation c.values.result.now ≡ high = ap valuation c.values.ensures in
    elim c.match-look_at.branch [
      | in-Keep w ↦
          let w2 : Watch = record { clause = k0; blocker = w.in-Keep.blocker } in
          rw (w.trail-is, w.pairs-is, w.lists-is, w.list-is, w.kept-is) (record {
            out = record {
              below = out.below;
              sound = out.sound;
              width = out.width;
              paired = out.paired;
              filed = out.filed;
              listed = subst (λ (l : List ℕ). ListedBut pairs (rows c.loop-i.lists) d l) (sym (own_keep list kept i w0 w2 lk li is0 refl)) out.listed;
              was = out.was;
            };
            fuller = inv.fuller;
            front = inv.front;
            order = omega arith;
            good = All-set (IsGood db) list kept w2 (lt, w.in-Keep.ensures.0) inv.good;
            rest = subst (λ (l : List ℕ). Rest db pairs low next high l) (sym (left_set list kept i w2 lk))
                (rest_keep db pairs low next high d k0 left c.requires.stands lt rest
                (subst (λ (a : Valuation). HasTrue a (clause_at db k0) ⊎ (((pair_at pairs k0).a ≡ d → ⊥) × ((pair_at pairs k0).b ≡ d → ⊥))) see w.in-Keep.ensures.1));
          })
      | in-Move+in_ok-add_to-in-Move w ↦
          let q = w.in-Move.pair in
          let m : IsMove high (clause_at db k0) (pair_at pairs k0) d q = subst (λ (a : Valuation). IsMove a (clause_at db k0) (pair_at pairs k0) d q) see w.in-Move.ensures in
          let w3 : Watch = record { clause = k0; blocker = q.a } in
          let near : q.b.var < vars = All-contains (λ (x : Dim). x.var < vars) (clause_at db k0) q.b (c.requires.out.below k0 [] lt) m.has in
          let lr : code q.b < length (rows c.loop-i.lists) = code_below q.b (length (rows c.loop-i.lists)) (let e = out.filed.count in omega arith) in
          let rows2 = set (rows c.loop-i.lists) (code q.b) (row_at (rows c.loop-i.lists) q.b ++ w3 ∷ []) in
          let grown = w.in_ok-add_to-in-Move.ensures in
          rw (w.trail-is ∙ w.set_place.ensures, w.pairs-is, w.lists-is, w.list-is, w.kept-is) (record {
            out = record {
              below = out.below;
              sound = out.sound;
              width = out.width;
              paired = pairs_move db pairs d high q k0 lt m out.paired;
              filed = subst (λ (r : List (List Watch)). AreLists vars db r) (sym grown) (lists_grow vars db (rows c.loop-i.lists) q.b w3 lr (lt, m.stays) out.filed);
              listed = subst (λ (r : List (List Watch)). ListedBut (set pairs k0 q) r d (numbers (left_of list kept (i + 1)))) (sym grown)
                  (subst (λ (l : List ℕ). ListedBut (set pairs k0 q) rows2 d l) (sym (own_rest list kept i))
                  (listed_move pairs (rows c.loop-i.lists) d high (clause_at db k0) q w3 (numbers (take kept list)) left lp lr (moved_away low next high d q.b c.requires.stands below m.free) m
                  (subst (λ (l : List ℕ). ListedBut pairs (rows c.loop-i.lists) d l) (own_first list kept i w0 li is0) out.listed)));
              was = was_moved (length c.loop-i.trail.values) db pairs high d k0 q (reverse c.loop-i.trail.entries) lp m out.sound.tracks.apart (below_self c.loop-i.trail.values c.loop-i.trail.entries out.sound.tracks) out.was;
            };
            fuller = inv.fuller;
            front = inv.front;
            order = omega arith;
            good = inv.good;
            rest = rest_move db pairs low next high d k0 q left c.requires.stands below lt lp m rest;
          })
      | in-Unit+in_ok-assign-in-Unit w ↦
          let o = w.in-Unit.open in
          let u : IsUnit high (clause_at db k0) o = subst (λ (a : Valuation). IsUnit a (clause_at db k0) o) see w.in-Unit.ensures in
          let more = w.in_ok-assign-in-Unit.ensures.entries in
          let tracks2 = w.in_ok-assign-in-Unit.ensures.tracks in
          let one_more = one_longer c.loop-i.trail.entries _ _ more in
          rw (w.trail-is, w.pairs-is, w.lists-is, w.list-is, w.kept-is) (record {
            out = record {
              below = out.below;
              sound = sound_unit db c.loop-i.trail.values _ c.loop-i.trail.entries _ k0 o _ out.sound lt u refl tracks2 more;
              width = w.in_ok-assign-in-Unit.ensures.width ∙ out.width;
              paired = out.paired;
              filed = out.filed;
              listed = subst (λ (l : List ℕ). ListedBut pairs (rows c.loop-i.lists) d l) (sym (own_keep list kept i w0 w0 lk li is0 refl)) out.listed;
              was = was_assigned db pairs c.loop-i.trail.entries _ _ k0 more refl out.was;
            };
            fuller = record { longer = omega (arith, one_more, inv.fuller.longer); filled = omega (arith, one_more, w.in_ok-assign-in-Unit.ensures.fewer, inv.fuller.filled) };
            front = front_assigned (c.args.at + 1) c.loop-i.trail.entries _ c.args.trail.now.entries _ more (omega (arith, c.requires.at, inv.fuller.longer)) inv.front;
            order = omega arith;
            good = All-set (IsGood db) list kept w0 g0 inv.good;
            rest = subst (λ (l : List ℕ). Rest db pairs low next (valuation w.assign.new.self.values) l) (sym (left_set list kept i w0 lk))
                (rest_unit db pairs low next high _ o k0 left (below_assigned c.loop-i.trail.values _ c.loop-i.trail.entries _ _ out.sound.tracks tracks2 more) u
                (now_assigned _ c.loop-i.trail.entries _ _ tracks2 more) rest);
          })
    ]

pub returns-in-Conflict : goal.returns-in-Conflict
returns-in-Conflict c =
    let db = c.args.store.now in
    let list = c.loop-i.list in
    let i = c.loop-i.i in
    let w0 : Watch = c.index-list-i.result in
    let inv = c.loop-i.invariant in
    let li : i < length list = let e = c.loop-i.auto.list in omega (arith, c.loop-i-test.true) in
    let g0 : IsGood db w0 = subst (λ (w : Watch). IsGood db w) (sym (c.index-list-i.is ∙ get_or_default list i w0 no_watch li)) (inv.good i no_watch li) in
    record {
      out = inv.out;
      fuller = inv.fuller;
      good = inv.good;
      order = inv.order;
      read = omega (arith, li, c.loop-i.auto.list);
      found = (g0.0, subst (λ (a : Valuation). IsConflict a (clause_at db w0.clause)) (ap valuation c.values.ensures) c.in-Conflict.ensures);
    }

pub returns : goal.returns
returns c =
    let db = c.args.store.now in
    let list = c.loop-i.list in
    let inv = c.loop-i.invariant in
    let trail = c.loop-i.trail in
    let high = valuation trail.values in
    let end : c.loop-i.i ≡ length list = omega arith in
    record {
      out = subst (λ (n : ℕ). IsOut (length c.args.trail.now.values) db c.loop-i.pairs (rows c.loop-i.lists) trail c.args.d (numbers (left_of list c.loop-i.kept n))) end inv.out;
      fuller = inv.fuller;
      good = inv.good;
      order = omega (arith, inv.order, end);
      read = omega (arith, c.loop-i.auto.list);
      found = record {
        range = omega (arith, c.requires.at, inv.fuller.longer);
        half = subst (λ (t : List Assigned). AllHalf db c.loop-i.pairs (denied (falses t)) high) (sym inv.front)
            (rest_end db c.loop-i.pairs (before c.args.trail.now.entries c.args.at) (before c.args.trail.now.entries (c.args.at + 1)) high list c.loop-i.i (omega (arith, end)) inv.rest);
      };
    }

pub returns-in_err-add_to-in-Move : goal.returns-in_err-add_to-in-Move
returns-in_err-add_to-in-Move c =
    let e = c.from_residual.ensures.0 in
    record {
      out = IfOk-from_err _ _ e;
      fuller = IfOk-from_err _ _ e;
      good = IfOk-from_err _ _ e;
      order = IfOk-from_err _ _ e;
      read = IfOk-from_err _ _ e;
      found = IfOk-from_err _ _ e;
    }

pub returns-in_err-assign-in-Unit : goal.returns-in_err-assign-in-Unit
returns-in_err-assign-in-Unit c =
    let e = c.from_residual-in_err-assign-in-Unit.ensures.0 in
    record {
      out = IfOk-from_err _ _ e;
      fuller = IfOk-from_err _ _ e;
      good = IfOk-from_err _ _ e;
      order = IfOk-from_err _ _ e;
      read = IfOk-from_err _ _ e;
      found = IfOk-from_err _ _ e;
    }
