use Rattle.std.proofs.Common.{◌≡◌, ◌≤◌, ℕ, ◌<◌, List, [], ◌∷◌, length, get_or, refl, sym, ap, ◌∙◌, subst, arith, Vec, Global}
use Rattle.std.specs.Prelude.{All, Contains, vec_capacity}
use Rattle.std.proofs.lemmas.List.{get_or_default}
use Rattle.svex_shape.specs.Values.{Vector}
use Rattle.node_memo.specs.Memos.{rows_in, AreParents}
use Rattle.node_memo.specs.Walks.{AreDropped}
use Rattle.node_memo.proofs.Rows.{row-of}
use Rattle.node_memo.proofs.Ups.{up-begins, up-more, up-ends}
use Rattle.node_memo.proofs.memo.Memo.forget.Goals as goal

pub up-init : goal.up-init
up-init c =
    let old = c.args.self.now.fresh.items in
    let node = c.args.node in
    let fresh = c.drop_one.new.fresh.items in
    let stale = c.drop_one.new.stale.items in
    record {
      values = refl;
      parents = refl;
      path = refl;
      room = c.drop_one.ensures.room ∙ c.clear.ensures.capacity;
      up = up-begins c.args.arena.now old node fresh stale c.requires.memo.closed c.requires.node
          (subst (λ (l : List ℕ). AreDropped (node ∷ []) old l fresh stale) c.clear.ensures.items c.drop_one.ensures.dropped);
    }

pub drop_all-requires-clause-within : goal.drop_all-requires-clause-within
drop_all-requires-clause-within c =
    let u = c.up.invariant.up in
    let m = c.requires.memo in
    let parents = c.up.self.parents.items in
    let stale = c.up.self.stale.items in
    let fresh = c.up.self.fresh.items in
    let child = c.index-child.result.now in
    let at : c.up.at < length stale = omega arith in
    let here : child < length c.args.arena.now = subst (λ (k : ℕ). k < length c.args.arena.now) (sym c.index-child.ensures) (u.inside c.up.at child at) in
    let each : length parents ≡ length c.args.arena.now = ap (λ (v : Vec (Vec ℕ Global) Global). length v.items) c.up.invariant.parents ∙ m.parents_each in
    let list : c.deref.result.now ≡ get_or (rows_in parents) child [] = c.deref.ensures.value ∙ row-of parents child c.index.result.now (omega (arith, here, each)) c.index.ensures in
    let own : get_or (rows_in parents) child [] ≡ get_or (rows_in c.args.self.now.parents.items) child [] = ap (λ (v : Vec (Vec ℕ Global) Global). get_or (rows_in v.items) child []) c.up.invariant.parents in
    subst (λ (l : List ℕ). All (λ k. k < length fresh) l) (sym (list ∙ own))
    (λ i d lt.
    let row = get_or (rows_in c.args.self.now.parents.items) child [] in
    omega (arith, m.parents_inside child (get_or row i d) (i, lt, get_or_default row i (get_or row i d) d lt), u.marks, m.marks))

pub up-preserved : goal.up-preserved
up-preserved c =
    let u = c.up.invariant.up in
    let m = c.requires.memo in
    let parents = c.up.self.parents.items in
    let stale = c.up.self.stale.items in
    let fresh = c.up.self.fresh.items in
    let child = c.index-child.result.now in
    let at : c.up.at < length stale = omega arith in
    let here : child < length c.args.arena.now = subst (λ (k : ℕ). k < length c.args.arena.now) (sym c.index-child.ensures) (u.inside c.up.at child at) in
    let each : length parents ≡ length c.args.arena.now = ap (λ (v : Vec (Vec ℕ Global) Global). length v.items) c.up.invariant.parents ∙ m.parents_each in
    let list : c.deref.result.now ≡ get_or (rows_in parents) child [] = c.deref.ensures.value ∙ row-of parents child c.index.result.now (omega (arith, here, each)) c.index.ensures in
    let own : get_or (rows_in parents) child [] ≡ get_or (rows_in c.args.self.now.parents.items) child [] = ap (λ (v : Vec (Vec ℕ Global) Global). get_or (rows_in v.items) child []) c.up.invariant.parents in
    record {
      values = c.up.invariant.values;
      parents = c.up.invariant.parents;
      path = c.up.invariant.path;
      room = c.drop_all.ensures.room ∙ c.up.invariant.room;
      up = up-more c.args.arena.now (rows_in c.args.self.now.parents.items) c.args.self.now.fresh.items c.args.node fresh stale c.up.at child c.drop_all.new.fresh.items c.drop_all.new.stale.items
          m.parents m.parents_inside u at (c.index-child.ensures ∙ get_or_default stale c.up.at child 0 at)
          (subst (λ (l : List ℕ). AreDropped l fresh stale c.drop_all.new.fresh.items c.drop_all.new.stale.items) (list ∙ own) c.drop_all.ensures.dropped);
    }

pub returns-clause-memo : goal.returns-clause-memo
returns-clause-memo c =
    let kept = c.up.invariant in
    let m = c.requires.memo in
    let shapes = c.args.arena.now in
    let end : length c.up.self.stale.items ≤ c.up.at = omega arith in
    record {
      values = ap (λ (v : Vec Vector Global). length v.items) kept.values ∙ m.values;
      marks = kept.up.marks ∙ m.marks;
      closed = up-ends shapes c.args.self.now.fresh.items c.args.node c.up.self.fresh.items c.up.self.stale.items c.up.at kept.up end;
      parents_each = ap (λ (v : Vec (Vec ℕ Global) Global). length v.items) kept.parents ∙ m.parents_each;
      parents_inside = subst (λ (v : Vec (Vec ℕ Global) Global). (c j : ℕ) → Contains (get_or (rows_in v.items) c []) j → j < length shapes) (sym kept.parents) m.parents_inside;
      parents = subst (λ (v : Vec (Vec ℕ Global) Global). AreParents shapes (rows_in v.items)) (sym kept.parents) m.parents;
      path = ap (λ (v : Vec ℕ Global). v.items) kept.path ∙ m.path;
      path_room = subst (λ (v : Vec ℕ Global). length shapes ≤ vec_capacity v) (sym kept.path) m.path_room;
      stale_room = omega (arith, kept.room, m.stale_room);
    }
