use Rattle.std.proofs.Common.{◌≡◌, ◌-◌, ℕ, List, [], length, get_or, set, sym, ap, ◌∙◌, subst, arith}
use Rattle.std.proofs.lemmas.List.{get_or_read}
use Rattle.std.proofs.lemmas.Result.{IfOk-from_err}
use Rattle.dep_groups.specs.Groups.{row, item}
use Rattle.dep_groups.specs.Searches.{state_of, Advances, FollowsAny}
use Rattle.dep_groups.proofs.Searching.{looked-any, is-at, left-at, has-first, follows-left}
use Rattle.dep_groups.proofs.finder.Finder.look.Goals as goal

pub index-requires : goal.index-requires
index-requires c =
    let p = is-at c.args.all.now (state_of c.args.self.now) c.args.at c.index-place.result.now c.requires.search c.requires.at c.index-place.ensures in
    omega (arith, p.in_left, c.args.self.now.left.ok.0)

pub overflow_sub-left : goal.overflow_sub-left
overflow_sub-left c =
    let s = state_of c.args.self.now in
    let p = is-at c.args.all.now s c.args.at c.index-place.result.now c.requires.search c.requires.at c.index-place.ensures in
    let l = left-at c.args.all.now s c.args.at c.index-place.result.now c.index.result.now p c.index.ensures in
    omega (arith, l, c.requires.some)

pub bounds-all-place : goal.bounds-all-place
bounds-all-place c = (is-at c.args.all.now (state_of c.args.self.now) c.args.at c.index-place.result.now c.requires.search c.requires.at c.index-place.ensures).in_all

pub bounds-as_slice-left : goal.bounds-as_slice-left
bounds-as_slice-left c =
    let all = c.args.all.now in
    let s = state_of c.args.self.now in
    let v = c.index-place.result.now in
    let p = is-at all s c.args.at v c.requires.search c.requires.at c.index-place.ensures in
    let l = left-at all s c.args.at v c.index.result.now p c.index.ensures in
    let line : c.as_slice.result.now ≡ row all v = c.as_slice.ensures ∙ get_or_read all v c.index-all-place.result p.in_all c.index-all-place.is [] in
    let most = c.requires.search.rows.fits (get_or s.waiting c.args.at 0) in
    let long : length c.as_slice.result.now ≡ length (row all (get_or s.waiting c.args.at 0)) = ap (λ (r : List ℕ). length r) line ∙ ap (λ x. length (row all x)) p.is in
    omega (arith, l, c.requires.some, most, long)

pub follow_any-requires : goal.follow_any-requires
follow_any-requires c = record { starts = has-first c.args.all.now (state_of c.args.self.now) c.requires.search (omega (arith, c.requires.at)) }

pub index_mut-requires : goal.index_mut-requires
index_mut-requires c =
    let s = state_of c.args.self.now in
    let p = is-at c.args.all.now s c.args.at c.index-place.result.now c.requires.search c.requires.at c.index-place.ensures in
    omega (arith, p.in_left, follows-left s (state_of c.follow_any.new.self) _ c.in_ok-follow_any.ensures, c.follow_any.new.self.left.ok.0)

pub returns-in_err-follow_any : goal.returns-in_err-follow_any
returns-in_err-follow_any c = IfOk-from_err _ _ c.from_residual.ensures.0

pub returns : goal.returns
returns c =
    let all = c.args.all.now in
    let s = state_of c.args.self.now in
    let t = state_of c.follow_any.new.self in
    let v = c.index-place.result.now in
    let l = c.index.result.now in
    let p = is-at all s c.args.at v c.requires.search c.requires.at c.index-place.ensures in
    let left = left-at all s c.args.at v l p c.index.ensures in
    let line : c.as_slice.result.now ≡ row all (get_or s.waiting c.args.at 0) = c.as_slice.ensures ∙ get_or_read all v c.index-all-place.result p.in_all c.index-all-place.is [] ∙ ap (row all) p.is in
    let f : FollowsAny s (item all (get_or s.waiting c.args.at 0) (l - 1)) t = subst (λ (r : List ℕ). FollowsAny s (get_or r (l - 1) 0) t) line c.in_ok-follow_any.ensures in
    subst (λ x. Advances all s (record t { left = set t.left x (l - 1) })) (sym p.is)
    (looked-any all s t c.args.at (l - 1) c.requires.search c.requires.at c.requires.last (omega (arith, left, c.requires.some)) f)
