-- The beginning of a search, its steps and its end.
use Rattle.std.proofs.Common.{◌≡◌, ◌≢◌, ℕ, zero, suc, ◌+◌, ◌-◌, ◌<◌, ◌≤◌, cond, List, [], ◌∷◌, ◌++◌, length, map, get_or, set, take, drop, sum, refl, sym, ap, ◌∙◌, subst, inl, inr, arith}
use Rattle.std.specs.Prelude.{replicate}
use Rattle.std.specs.List.{count_by}
use Rattle.std.proofs.lemmas.Bool.{cases_eq, cases_lt}
use Rattle.std.proofs.lemmas.List.{length-map, length-replicate, length-take-le, length_push, get_or-take, get_or-replicate, get_or_past, set_past, get_or_default, get_or_read}
use Rattle.std.proofs.lemmas.List.Sums.{sum_by-set}
use Rattle.dep_groups.specs.declared.finder.Stage.{Stage}
use Rattle.dep_groups.specs.declared.finder.Stage.TheVariants.{Unseen, Waits, Grouped}
use Rattle.dep_groups.specs.Groups.{row, item, Chain, IsGrouping}
use Rattle.dep_groups.specs.Searches.{State, stage_at, LeadsOn, Rise, IsSearch, Follows, FollowsAny, Advances, HasFirst, Begins, meeting, closing, grouping_from, is_unseen, work_left}
use Rattle.dep_groups.proofs.Chaining.{chains, chain-one, changed, unseen-waits, unseen-grouped, grouped-same, pushed-old}
use Rattle.dep_groups.proofs.Meeting.{met}
use Rattle.dep_groups.proofs.Uniting.{front-at, united, looked-on}
use Rattle.dep_groups.proofs.Closing.{b-inside, closed, closed-kept}

-- ---- the beginning

unseen-at : (n k : ℕ) → get_or (replicate n Unseen) k Unseen ≡ Unseen
unseen-at n k = elim (cases_lt k n) [
  | inl lt ↦ get_or-replicate n k Unseen Unseen lt
  | inr past ↦ get_or_past (replicate n Unseen) k Unseen (omega (arith, past, length-replicate n Unseen))
]

lengths-at : (all : List (List ℕ)) (k : ℕ) → get_or (map length all) k 0 ≡ length (row all k)
lengths-at [] k = refl
lengths-at (r ∷ all) zero = refl
lengths-at (r ∷ all) (suc k) = lengths-at all k

rise-none : (n : ℕ) → Rise [] n
rise-none n = record { below = λ a lt. absurd (omega (arith, lt)); rising = λ a b less lt. absurd (omega (arith, lt)) }

pub begun : (all : List (List ℕ)) → IsSearch all (record { stages = replicate (length all) Unseen; left = map length all; waiting = []; starts = []; pending = []; groups = [] })
begun all = record {
  rows = record {
    stages = length-replicate (length all) Unseen;
    lefts = length-map all length;
    fits = λ k. omega (arith, lengths-at all k);
    fresh = λ k e. lengths-at all k;
  };
  waits = record {
    stage = λ p lt. absurd (omega (arith, lt));
    place = λ k p e. unseen-waits _ _ (unseen-at (length all) k) e;
    ahead = λ p q le lt. absurd (omega (arith, lt));
    back = λ p q le lt one. absurd (omega (arith, lt));
    looked = λ p k lt le kl there. absurd (omega (arith, lt));
    done = λ p lt. absurd (omega (arith, lt));
    first = λ lt. absurd (omega (arith, lt));
    starts = rise-none 0;
    pending = rise-none 0;
  };
  found = record {
    some = λ g gl. absurd (omega (arith, gl));
    members = λ g k gl kl. absurd (omega (arith, gl));
    grouped = λ i g e. unseen-grouped _ _ (unseen-at (length all) i) e;
    distinct = λ g k l gl kl ll e. absurd (omega (arith, gl));
    loops = λ g k l gl kl ll. absurd (omega (arith, gl));
    earlier = λ i g e is el there. unseen-grouped _ _ (unseen-at (length all) i) is;
  };
}

-- ---- the end

module _ (all : List (List ℕ)) (s : State) (h : IsSearch all s) where
  pub stage-below : (k : ℕ) → stage_at s k ≢ Unseen → k < length all
  stage-below k seen = elim (cases_lt k (length s.stages)) [
    | inl lt ↦ omega (arith, lt, h.rows.stages)
    | inr past ↦ absurd (seen (get_or_past s.stages k Unseen past))
  ]

  pub ended : s.waiting ≡ [] → ((k : ℕ) → k < length all → stage_at s k ≢ Unseen) → IsGrouping all s.groups
  ended none seen = record {
    some = h.found.some;
    there = λ g k gl kl. stage-below (item s.groups g k) (λ e. unseen-grouped _ _ e (h.found.members g k gl kl));
    covers = λ i lt. let g = in-group i lt (stage_at s i) refl in let m = h.found.grouped i g.0 g.1 in (g.0, (m.1.0, (m.0, (m.1.1.0, m.1.1.1))));
    once = λ g k j l gl kl jl ll e.
        let same : g ≡ j = grouped-same _ _ _ (h.found.members g k gl kl) (ap (stage_at s) e ∙ h.found.members j l jl ll) in
        (same, h.found.distinct g k l gl kl (subst (λ x. l < length (row s.groups x)) (sym same) ll) (e ∙ ap (λ x. item s.groups x l) (sym same)));
    loops = h.found.loops;
    earlier = λ g k j l e gl kl jl ll el is.
        let to = h.found.members j l jl ll in
        let there : item all (item s.groups g k) e < length all = stage-below _ (λ un. unseen-grouped _ _ (ap (stage_at s) (sym is) ∙ un) to) in
        let down = h.found.earlier (item s.groups g k) g e (h.found.members g k gl kl) el there in
        omega (arith, down.1.1, grouped-same _ _ _ down.1.0 (ap (stage_at s) is ∙ to));
  }
    where
      in-group : (i : ℕ) → i < length all → (at : Stage) → stage_at s i ≡ at → (g : ℕ) × (stage_at s i ≡ Grouped g)
      in-group i lt Unseen e = absurd (seen i lt e)
      in-group i lt (Waits p) e = absurd (omega (arith, (h.waits.place i p e).0, ap (λ l. length l) none))
      in-group i lt (Grouped g) e = (g, e)

  -- ---- nothing of the last pending place is left to look at

  pub finished : (at : ℕ) → 0 < length s.pending → get_or s.pending (length s.pending - 1) 0 ≡ at → get_or s.left (get_or s.waiting at 0) 0 ≡ 0
      → IsSearch all (record s { pending = take (length s.pending - 1) s.pending })
  finished at some is none = record {
    rows = record { stages = h.rows.stages; lefts = h.rows.lefts; fits = h.rows.fits; fresh = h.rows.fresh };
    waits = record {
      stage = h.waits.stage;
      place = h.waits.place;
      ahead = h.waits.ahead;
      back = h.waits.back;
      looked = h.waits.looked;
      done = λ p lt. elim (h.waits.done p lt) [
        | inl has ↦ elim (cases_eq has.0 (length s.pending - 1)) [
          | inl last ↦ let same : at ≡ p = sym is ∙ ap (λ a. get_or s.pending a 0) (sym last) ∙ has.1.1 in inr (ap (λ q. get_or s.left (get_or s.waiting q 0) 0) (sym same) ∙ none)
          | inr ne ↦ let l : has.0 < length s.pending - 1 = omega (arith, has.1.0, ne) in inl (has.0, (omega (arith, l, fewer), at-front has.0 l ∙ has.1.1))
        ]
        | inr z ↦ inr z
      ];
      first = h.waits.first;
      starts = h.waits.starts;
      pending = record {
        below = λ a lt. omega (arith, at-front a (omega (arith, lt, fewer)), h.waits.pending.below a (omega (arith, lt, fewer)));
        rising = λ a b less lt. omega (arith, at-front a (omega (arith, less, lt, fewer)), at-front b (omega (arith, lt, fewer)), h.waits.pending.rising a b less (omega (arith, lt, fewer)));
      };
    };
    found = record { some = h.found.some; members = h.found.members; grouped = h.found.grouped; distinct = h.found.distinct; loops = h.found.loops; earlier = h.found.earlier };
  }
    where
      fewer : length (take (length s.pending - 1) s.pending) ≡ length s.pending - 1
      fewer = length-take-le (length s.pending - 1) s.pending (omega arith)

      at-front : (a : ℕ) → a < length s.pending - 1 → get_or (take (length s.pending - 1) s.pending) a 0 ≡ get_or s.pending a 0
      at-front a lt = get_or-take (length s.pending - 1) s.pending a 0 lt

  -- ---- a dependence of the last knot

  pub last-most : (at : ℕ) → get_or s.starts (length s.starts - 1) 0 ≤ at → (c : ℕ) → c < length s.starts → get_or s.starts c 0 ≤ at
  last-most at le c lt = elim (cases_eq c (length s.starts - 1)) [
    | inl last ↦ let e : get_or s.starts c 0 ≡ get_or s.starts (length s.starts - 1) 0 = ap (λ i. get_or s.starts i 0) last in omega (arith, e, le)
    | inr ne ↦ omega (arith, h.waits.starts.rising c (length s.starts - 1) (omega (arith, lt, ne)) (omega (arith, lt)), le)
  ]

  -- all that wait reach a place of the last knot
  pub reach-last : (at : ℕ) → at < length s.waiting → get_or s.starts (length s.starts - 1) 0 ≤ at → (p : ℕ) → p < length s.waiting → Chain all (get_or s.waiting p 0) (get_or s.waiting at 0)
  reach-last at within le p lt = elim (cases_lt at p) [
    | inl behind ↦ h.waits.back at p (omega (arith, behind)) lt (λ c cl less. absurd (omega (arith, last-most at le c cl, less)))
    | inr before ↦ h.waits.ahead p at before within
  ]

-- what is known of a search after a dependence was followed
pub record IsFollowed (all : List (List ℕ)) (s t : State) (at place : ℕ) : Type 0 where
  pub search : IsSearch all t
  pub left : t.left ≡ s.left
  pub longer : length s.waiting ≤ length t.waiting
  pub same : get_or t.waiting at 0 ≡ get_or s.waiting at 0
  pub leads : LeadsOn t.starts at (stage_at t place)
  pub less : work_left t ≤ work_left s
  pub kept : (k : ℕ) → stage_at s k ≢ Unseen → stage_at t k ≢ Unseen

met-less : (s : State) (k : ℕ) → k < length s.stages → stage_at s k ≡ Unseen → work_left (meeting s k) < work_left s
met-less s k within e =
    let count : Stage → ℕ = λ x. cond (is_unseen x) 1 0 in
    let one : count (stage_at s k) ≡ 1 = ap count e in
    omega (arith, one, sum_by-set count s.stages k (Waits (length s.waiting)) Unseen within, length_push s.waiting k, length_push s.pending (length s.waiting))

pub met-kept : (s : State) (k : ℕ) → k < length s.stages → (j : ℕ) → stage_at s j ≢ Unseen → stage_at (meeting s k) j ≢ Unseen
met-kept s k within j seen e = elim (changed s.stages k (Waits (length s.waiting)) j within) [
  | inl new ↦ unseen-waits _ _ e new.1
  | inr ne ↦ seen (sym ne.1 ∙ e)
]

pub met-seen : (s : State) (k : ℕ) → k < length s.stages → stage_at (meeting s k) k ≢ Unseen
met-seen s k within e = elim (changed s.stages k (Waits (length s.waiting)) k within) [
  | inl new ↦ unseen-waits _ _ e new.1
  | inr ne ↦ ne.0 refl
]

module _ (all : List (List ℕ)) (s t : State) (at e : ℕ) (h : IsSearch all s) (within : at < length s.waiting) (last : get_or s.starts (length s.starts - 1) 0 ≤ at)
    (el : e < length (row all (get_or s.waiting at 0))) (there : item all (get_or s.waiting at 0) e < length all) where
  abbrev next : ℕ
  next = item all (get_or s.waiting at 0) e

  step : Chain all (get_or s.waiting at 0) next
  step = chain-one all (get_or s.waiting at 0) e el

  pub followed : (stage : Stage) → stage_at s next ≡ stage → Follows s next stage t → IsFollowed all s t at next
  followed Unseen is f = subst (λ (x : State). IsFollowed all s x at next) (sym f) (record {
    search = met all s next h there is (λ p lt. chains all (get_or s.waiting p 0) (get_or s.waiting at 0) next (reach-last all s h at within last p lt) step);
    left = refl;
    longer = omega (arith, length_push s.waiting next);
    same = pushed-old s.waiting next at within;
    leads = elim (changed s.stages next (Waits (length s.waiting)) next inside) [
      | inl new ↦ subst (LeadsOn (s.starts ++ length s.waiting ∷ []) at) (sym new.1) (λ c cl le. omega (arith, le, within))
      | inr ne ↦ absurd (ne.0 refl)
    ];
    less = omega (arith, met-less s next inside is);
    kept = met-kept s next inside;
  })
    where
      inside : next < length s.stages
      inside = omega (arith, there, h.rows.stages)
  followed (Waits q) is f =
      let place = h.waits.place next q is in
      subst (λ (x : State). IsFollowed all s x at next) (sym f.0) (record {
        search = united all s t.starts at q h f.1 within place.0 (last-most all s h at last) (subst (Chain all (get_or s.waiting at 0)) (sym place.1) step);
        left = refl;
        longer = omega arith;
        same = refl;
        leads = subst (LeadsOn t.starts at) (sym is) (λ c cl le. omega (arith, f.1.kept c cl, front-at s.starts t.starts c f.1.front cl));
        less = omega arith;
        kept = λ k seen. seen;
      })
  followed (Grouped g) is f = subst (λ (x : State). IsFollowed all s x at next) (sym f) (record {
    search = h;
    left = refl;
    longer = omega arith;
    same = refl;
    leads = subst (LeadsOn s.starts at) (sym is) tt;
    less = omega arith;
    kept = λ k seen. seen;
  })

-- ---- less is left to do

sum-set : (l : List ℕ) (i v : ℕ) → i < length l → sum (set l i v) + get_or l i 0 ≡ sum l + v
sum-set l i v lt = sum_by-set (λ x. x) l i v 0 lt

pub has-first : (all : List (List ℕ)) (s : State) → IsSearch all s → 0 < length s.waiting → HasFirst s.starts
has-first all s h some = record { some = (h.waits.first some).0; first = (h.waits.first some).1; rising = h.waits.starts.rising }

pub some-inside : (l : List ℕ) (i : ℕ) → 0 < get_or l i 0 → i < length l
some-inside l i some = elim (cases_lt i (length l)) [
  | inl lt ↦ lt
  | inr past ↦ absurd (omega (arith, some, get_or_past l i 0 past))
]

-- the dependence that was looked at, by itself
looked-less : (all : List (List ℕ)) (s t : State) (at e : ℕ) → IsFollowed all s t at (item all (get_or s.waiting at 0) e) → IsSearch all s → at < length s.waiting → get_or s.left (get_or s.waiting at 0) 0 ≡ e + 1
    → Advances all s (record t { left = set t.left (get_or s.waiting at 0) e })
looked-less all s t at e f h within left =
    let within2 : at < length t.waiting = omega (arith, within, f.longer) in
    let left2 : get_or t.left (get_or t.waiting at 0) 0 ≡ e + 1 = ap (λ l. get_or l (get_or t.waiting at 0) 0) f.left ∙ ap (λ x. get_or s.left x 0) f.same ∙ left in
    let inside : get_or t.waiting at 0 < length t.left = some-inside t.left (get_or t.waiting at 0) (omega (arith, left2)) in
    let count = sum-set t.left (get_or t.waiting at 0) e inside in
    subst (λ x. Advances all s (record t { left = set t.left x e })) f.same (record {
      search = looked-on all t at e f.search within2 left2 (λ lt. subst (λ x. LeadsOn t.starts at (stage_at t (item all x e))) (sym f.same) f.leads);
      less = omega (arith, count, left2, f.less);
      kept = f.kept;
    })

pub looked-past : (all : List (List ℕ)) (s : State) (at e : ℕ) → IsSearch all s → at < length s.waiting → get_or s.left (get_or s.waiting at 0) 0 ≡ e + 1 → length all ≤ item all (get_or s.waiting at 0) e
    → Advances all s (record s { left = set s.left (get_or s.waiting at 0) e })
looked-past all s at e h within left past =
    let inside : get_or s.waiting at 0 < length s.left = some-inside s.left (get_or s.waiting at 0) (omega (arith, left)) in
    let count = sum-set s.left (get_or s.waiting at 0) e inside in
    record {
      search = looked-on all s at e h within left (λ lt. absurd (omega (arith, lt, past)));
      less = omega (arith, count, left);
      kept = λ k seen. seen;
    }

pub looked-any : (all : List (List ℕ)) (s t : State) (at e : ℕ) → IsSearch all s → at < length s.waiting → get_or s.starts (length s.starts - 1) 0 ≤ at → get_or s.left (get_or s.waiting at 0) 0 ≡ e + 1
    → FollowsAny s (item all (get_or s.waiting at 0) e) t → Advances all s (record t { left = set t.left (get_or s.waiting at 0) e })
looked-any all s t at e h within last left f = elim (cases_lt (item all (get_or s.waiting at 0) e) (length s.stages)) [
  | inl lt ↦
      looked-less all s t at e
      (followed all s t at e h within last (omega (arith, left, h.rows.fits (get_or s.waiting at 0))) (omega (arith, lt, h.rows.stages)) (stage_at s (item all (get_or s.waiting at 0) e)) refl (f.within lt))
      h within left
  | inr past ↦
      subst (λ (x : State). Advances all s (record x { left = set x.left (get_or s.waiting at 0) e })) (sym (f.past past)) (looked-past all s at e h within left (omega (arith, past, h.rows.stages)))
]

pub finished-less : (all : List (List ℕ)) (s : State) (at : ℕ) → IsSearch all s → 0 < length s.pending → get_or s.pending (length s.pending - 1) 0 ≡ at → get_or s.left (get_or s.waiting at 0) 0 ≡ 0
    → Advances all s (record s { pending = take (length s.pending - 1) s.pending })
finished-less all s at h some is none = record {
  search = finished all s h at some is none;
  less = omega (arith, some, length-take-le (length s.pending - 1) s.pending (omega arith));
  kept = λ k seen. seen;
}

grouped-fewer : (g : ℕ) (ms : List ℕ) (stages : List Stage) → count_by is_unseen (grouping_from g ms stages) ≤ count_by is_unseen stages
grouped-fewer g [] stages = omega arith
grouped-fewer g (m ∷ more) stages = elim (cases_lt m (length stages)) [
  | inl lt ↦ omega (arith, grouped-fewer g more (set stages m (Grouped g)), sum_by-set (λ x. cond (is_unseen x) 1 0) stages m (Grouped g) Unseen lt)
  | inr past ↦
      let same : set stages m (Grouped g) ≡ stages = set_past stages m (Grouped g) past in
      subst (λ l. count_by is_unseen (grouping_from g more l) ≤ count_by is_unseen stages) (sym same) (grouped-fewer g more stages)
]

pub closed-less : (all : List (List ℕ)) (s : State) (b : ℕ) → IsSearch all s → 0 < length s.waiting → get_or s.starts (length s.starts - 1) 0 ≡ b → ((a : ℕ) → a < length s.pending → get_or s.pending a 0 < b)
    → Advances all s (closing s b)
closed-less all s b h some is looked =
    let inside = b-inside all s b h some is looked in
    record {
      search = closed all s b h some is looked;
      less = omega (arith, inside, length-take-le b s.waiting (omega (arith, inside)), grouped-fewer (length s.groups) (drop b s.waiting) s.stages);
      kept = closed-kept all s b h some is looked;
    }

pub waiting-below : (all : List (List ℕ)) (s : State) → IsSearch all s → (k : ℕ) (d : ℕ) → k < length s.waiting → get_or s.waiting k d < length s.stages
waiting-below all s h k d lt = elim (cases_lt (get_or s.waiting k d) (length s.stages)) [
  | inl l ↦ l
  | inr past ↦ unseen-waits _ _ (get_or_past s.stages (get_or s.waiting k d) Unseen past) (ap (stage_at s) (get_or_default s.waiting k d 0 lt) ∙ h.waits.stage k lt)
]

-- what is known of a search once it began at a place
pub record IsBegun (all : List (List ℕ)) (s t : State) (place : ℕ) : Type 0 where
  pub search : IsSearch all t
  pub seen : stage_at t place ≢ Unseen
  pub kept : (k : ℕ) → stage_at s k ≢ Unseen → stage_at t k ≢ Unseen

pub begins : (all : List (List ℕ)) (s t : State) (k : ℕ) (at : Stage) → IsSearch all s → s.waiting ≡ [] → k < length all → stage_at s k ≡ at → Begins s k at t → IsBegun all s t k
begins all s t k Unseen h none lt is f =
    let within : k < length s.stages = omega (arith, lt, h.rows.stages) in
    subst (λ (x : State). IsBegun all s x k) (sym f) (record {
      search = met all s k h lt is (λ p pl. absurd (omega (arith, pl, ap (λ l. length l) none)));
      seen = met-seen s k within;
      kept = met-kept s k within;
    })
begins all s t k (Waits p) h none lt is f = subst (λ (x : State). IsBegun all s x k) (sym f) (record { search = h; seen = λ e. unseen-waits _ _ e is; kept = λ j seen. seen })
begins all s t k (Grouped g) h none lt is f = subst (λ (x : State). IsBegun all s x k) (sym f) (record { search = h; seen = λ e. unseen-grouped _ _ e is; kept = λ j seen. seen })

-- the last pending position is there
pub last-inside : (all : List (List ℕ)) (s : State) (at : ℕ) → IsSearch all s → 0 < length s.pending → get_or s.pending (length s.pending - 1) 0 ≡ at → at < length s.waiting
last-inside all s at h some is = omega (arith, h.waits.pending.below (length s.pending - 1) (omega (arith, some)), is)

-- a place that waits at a position, as it was read
pub record IsAt (all : List (List ℕ)) (s : State) (at v : ℕ) : Type 0 where
  pub is : v ≡ get_or s.waiting at 0
  pub in_left : v < length s.left
  pub in_all : v < length all

pub is-at : (all : List (List ℕ)) (s : State) (at v : ℕ) → IsSearch all s → at < length s.waiting → v ≡ get_or s.waiting at v → IsAt all s at v
is-at all s at v h lt read =
    let below : get_or s.waiting at 0 < length s.stages = waiting-below all s h at 0 lt in
    let is : v ≡ get_or s.waiting at 0 = get_or_read s.waiting at v lt read 0 in
    record { is = is; in_left = omega (arith, is, below, h.rows.stages, h.rows.lefts); in_all = omega (arith, is, below, h.rows.stages) }

-- how many dependences it has left, as it was read
pub left-at : (all : List (List ℕ)) (s : State) (at v l : ℕ) → IsAt all s at v → l ≡ get_or s.left v l → l ≡ get_or s.left (get_or s.waiting at 0) 0
left-at all s at v l h read = get_or_read s.left v l h.in_left read 0 ∙ ap (λ x. get_or s.left x 0) h.is

pub follows-left : (s t : State) (k : ℕ) → FollowsAny s k t → length t.left ≡ length s.left
follows-left s t k f = elim (cases_lt k (length s.stages)) [
  | inl lt ↦ by-stage (stage_at s k) (f.within lt)
  | inr past ↦ ap (λ (x : State). length x.left) (f.past past)
]
  where
    by-stage : (at : Stage) → Follows s k at t → length t.left ≡ length s.left
    by-stage Unseen e = ap (λ (x : State). length x.left) e
    by-stage (Waits p) e = ap (λ (x : State). length x.left) e.0
    by-stage (Grouped g) e = ap (λ (x : State). length x.left) e

-- where the last knot starts, as it was read
pub last-start : (all : List (List ℕ)) (s : State) (n x : ℕ) → IsSearch all s → 0 < length s.waiting → n ≡ length s.starts → x ≡ get_or s.starts (n - 1) x
    → (x ≡ get_or s.starts (length s.starts - 1) 0) × (x < length s.waiting)
last-start all s n x h some long read =
    let first = (h.waits.first some).0 in
    let is : x ≡ get_or s.starts (length s.starts - 1) 0 = get_or_read s.starts (n - 1) x (omega (arith, first, long)) read 0 ∙ ap (λ k. get_or s.starts (k - 1) 0) long in
    (is, omega (arith, is, h.waits.starts.below (length s.starts - 1) (omega (arith, first))))
