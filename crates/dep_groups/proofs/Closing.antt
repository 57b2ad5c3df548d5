-- The last knot becomes a group.
use Rattle.std.proofs.Common.{◌≡◌, ◌≢◌, ◌⊎◌, ℕ, zero, suc, ◌+◌, ◌-◌, ◌<◌, ◌≤◌, List, [], ◌∷◌, ◌++◌, length, get_or, set, take, drop, refl, sym, ap, ◌∙◌, subst, inl, inr, arith}
use Rattle.std.proofs.lemmas.Bool.{cases_eq, cases_lt}
use Rattle.std.proofs.lemmas.List.{length-set, length-drop, length-take-le, length_push, get_or-take, get_or-drop, get_or-set_same, get_or-set_other, get_or_append_left, get_or_push, get_or_past}
use Rattle.dep_groups.specs.declared.finder.Stage.{Stage}
use Rattle.dep_groups.specs.declared.finder.Stage.TheVariants.{Unseen, Waits, Grouped}
use Rattle.dep_groups.specs.Groups.{row, item, Chain}
use Rattle.dep_groups.specs.Searches.{State, stage_at, Together, LeadsOn, HasItem, AreLeft, AreWaiting, IsSearch, closing, grouping_from}
use Rattle.dep_groups.proofs.Chaining.{changed, unseen-waits, unseen-grouped, waits-grouped, waits-same, grouped-same}
use Rattle.dep_groups.proofs.Uniting.{leads-fewer}

-- ---- members take the number of their group

grouped-length : (g : ℕ) (ms : List ℕ) (stages : List Stage) → length (grouping_from g ms stages) ≡ length stages
grouped-length g [] stages = refl
grouped-length g (m ∷ more) stages = grouped-length g more (set stages m (Grouped g)) ∙ length-set stages m (Grouped g)

grouped-stays : (g : ℕ) (ms : List ℕ) (stages : List Stage) (k : ℕ) → get_or stages k Unseen ≡ Grouped g → get_or (grouping_from g ms stages) k Unseen ≡ Grouped g
grouped-stays g [] stages k is = is
grouped-stays g (m ∷ more) stages k is = grouped-stays g more (set stages m (Grouped g)) k (elim (cases_lt m (length stages)) [
  | inl lt ↦ elim (changed stages m (Grouped g) k lt) [
    | inl same ↦ same.1
    | inr ne ↦ ne.1 ∙ is
  ]
  | inr past ↦ get_or-set_other stages m k (Grouped g) Unseen (λ same. unseen-grouped _ _ (get_or_past stages k Unseen (omega (arith, past, same))) is) ∙ is
])

grouped-other : (g : ℕ) (ms : List ℕ) (stages : List Stage) (k : ℕ) → ((r : ℕ) → r < length ms → get_or ms r 0 ≢ k) → get_or (grouping_from g ms stages) k Unseen ≡ get_or stages k Unseen
grouped-other g [] stages k none = refl
grouped-other g (m ∷ more) stages k none =
    grouped-other g more (set stages m (Grouped g)) k (λ r lt. none (suc r) (omega (arith, lt)))
    ∙ get_or-set_other stages m k (Grouped g) Unseen (λ same. none 0 (omega arith) (sym same))

grouped-member : (g : ℕ) (ms : List ℕ) (stages : List Stage) (r : ℕ) → r < length ms → get_or ms r 0 < length stages → get_or (grouping_from g ms stages) (get_or ms r 0) Unseen ≡ Grouped g
grouped-member g [] stages r lt within = absurd (omega (arith, lt))
grouped-member g (m ∷ more) stages zero lt within = grouped-stays g more (set stages m (Grouped g)) m (get_or-set_same stages m (Grouped g) Unseen within)
grouped-member g (m ∷ more) stages (suc r) lt within = grouped-member g more (set stages m (Grouped g)) r (omega (arith, lt)) (omega (arith, within, length-set stages m (Grouped g)))

-- ---- one group more

row-old : (groups : List (List ℕ)) (new : List ℕ) (g : ℕ) → g < length groups → row (groups ++ new ∷ []) g ≡ row groups g
row-old groups new g lt = get_or_append_left groups (new ∷ []) [] g lt

row-new : (groups : List (List ℕ)) (new : List ℕ) → row (groups ++ new ∷ []) (length groups) ≡ new
row-new groups new = get_or_push groups new [] (length groups) refl

module _ (all : List (List ℕ)) (s : State) (b : ℕ) (h : IsSearch all s) (some : 0 < length s.waiting) (is : get_or s.starts (length s.starts - 1) 0 ≡ b)
    (looked : (a : ℕ) → a < length s.pending → get_or s.pending a 0 < b) where
  abbrev w : ℕ → ℕ
  w p = get_or s.waiting p 0

  abbrev t : State
  t = closing s b

  starts-some : 0 < length s.starts
  starts-some = (h.waits.first some).0

  pub b-inside : b < length s.waiting
  b-inside = omega (arith, h.waits.starts.below (length s.starts - 1) (omega (arith, starts-some)), is)

  starts-most : (c : ℕ) → c < length s.starts → get_or s.starts c 0 ≤ b
  starts-most c lt = elim (cases_eq c (length s.starts - 1)) [
    | inl last ↦ let e : get_or s.starts c 0 ≡ b = ap (λ i. get_or s.starts i 0) last ∙ is in omega (arith, e)
    | inr ne ↦ omega (arith, h.waits.starts.rising c (length s.starts - 1) (omega (arith, lt, ne)) (omega (arith, starts-some)), is)
  ]

  w-below : (p : ℕ) → p < length s.waiting → w p < length s.stages
  w-below p lt = elim (cases_lt (w p) (length s.stages)) [
    | inl l ↦ l
    | inr past ↦ unseen-waits _ _ (get_or_past s.stages (w p) Unseen past) (h.waits.stage p lt)
  ]

  size : length (drop b s.waiting) ≡ length s.waiting - b
  size = length-drop b s.waiting

  member : (r : ℕ) → get_or (drop b s.waiting) r 0 ≡ w (b + r)
  member r = get_or-drop b s.waiting r 0

  member-at : (p : ℕ) → b ≤ p → get_or (drop b s.waiting) (p - b) 0 ≡ w p
  member-at p le = let e : b + (p - b) ≡ p = omega (arith, le) in member (p - b) ∙ ap (λ i. get_or s.waiting i 0) e

  now-grouped : (p : ℕ) → b ≤ p → p < length s.waiting → stage_at t (w p) ≡ Grouped (length s.groups)
  now-grouped p le lt =
      subst (λ k. stage_at t k ≡ Grouped (length s.groups)) (member-at p le)
      (grouped-member (length s.groups) (drop b s.waiting) s.stages (p - b) (omega (arith, le, lt, size)) (subst (λ k. k < length s.stages) (sym (member-at p le)) (w-below p lt)))

  -- a place that is no member stays where it stands
  stays : (k : ℕ) → ((p : ℕ) → b ≤ p → p < length s.waiting → w p ≢ k) → stage_at t k ≡ stage_at s k
  stays k none = grouped-other (length s.groups) (drop b s.waiting) s.stages k (λ r lt e. none (b + r) (omega arith) (omega (arith, lt, size)) (sym (member r) ∙ e))

  waits-before : (k p : ℕ) → stage_at s k ≡ Waits p → p < b → stage_at t k ≡ stage_at s k
  waits-before k p e lt = stays k (λ q le ql same. absurd (omega (arith, lt, le, waits-same _ _ _ e (ap (λ j. get_or s.stages j Unseen) (sym same) ∙ h.waits.stage q ql))))

  grouped-before : (k g : ℕ) → stage_at s k ≡ Grouped g → stage_at t k ≡ Grouped g
  grouped-before k g e = stays k (λ q le ql same. waits-grouped _ _ _ (ap (λ j. get_or s.stages j Unseen) (sym same) ∙ h.waits.stage q ql) e) ∙ e

  -- where a place stands now
  cases : (k : ℕ) (at : Stage) → stage_at s k ≡ at → ((p : ℕ) × ((b ≤ p) × ((p < length s.waiting) × (w p ≡ k)))) ⊎ (stage_at t k ≡ stage_at s k)
  cases k Unseen e = inr (stays k (λ q le ql same. unseen-waits _ _ e (ap (λ j. get_or s.stages j Unseen) (sym same) ∙ h.waits.stage q ql)))
  cases k (Waits p) e = elim (cases_lt p b) [
    | inl before ↦ inr (waits-before k p e before)
    | inr le ↦ let there = h.waits.place k p e in inl (p, (le, (there.0, there.1)))
  ]
  cases k (Grouped g) e = inr (grouped-before k g e ∙ sym e)

  or : (k : ℕ) → ((p : ℕ) × ((b ≤ p) × ((p < length s.waiting) × (w p ≡ k)))) ⊎ (stage_at t k ≡ stage_at s k)
  or k = cases k (stage_at s k) refl

  grouped-now : (k p : ℕ) → b ≤ p → p < length s.waiting → w p ≡ k → stage_at t k ≡ Grouped (length s.groups)
  grouped-now k p le lt e = subst (λ j. stage_at t j ≡ Grouped (length s.groups)) e (now-grouped p le lt)

  long : length (take b s.waiting) ≡ b
  long = length-take-le b s.waiting (omega (arith, b-inside))

  at-front : (p : ℕ) → p < b → get_or (take b s.waiting) p 0 ≡ w p
  at-front p lt = get_or-take b s.waiting p 0 lt

  fewer : length (take (length s.starts - 1) s.starts) ≡ length s.starts - 1
  fewer = length-take-le (length s.starts - 1) s.starts (omega arith)

  front : take (length s.starts - 1) s.starts ≡ take (length (take (length s.starts - 1) s.starts)) s.starts
  front = ap (λ i. take i s.starts) (sym fewer)

  start-front : (c : ℕ) → c < length s.starts - 1 → get_or (take (length s.starts - 1) s.starts) c 0 ≡ get_or s.starts c 0
  start-front c lt = get_or-take (length s.starts - 1) s.starts c 0 lt

  left-closed : AreLeft all t
  left-closed = record {
    stages = grouped-length (length s.groups) (drop b s.waiting) s.stages ∙ h.rows.stages;
    lefts = h.rows.lefts;
    fits = h.rows.fits;
    fresh = λ k e. elim (or k) [
      | inl now ↦ unseen-grouped _ _ e (grouped-now k now.0 now.1.0 now.1.1.0 now.1.1.1)
      | inr same ↦ h.rows.fresh k (sym same ∙ e)
    ];
  }

  together-closed : (p q : ℕ) → q < b → Together (take (length s.starts - 1) s.starts) p q → Together s.starts p q
  together-closed p q lt one c cl less = elim (cases_eq c (length s.starts - 1)) [
    | inl last ↦ let e : get_or s.starts c 0 ≡ b = ap (λ i. get_or s.starts i 0) last ∙ is in omega (arith, e, lt)
    | inr ne ↦
        let kept : c < length s.starts - 1 = omega (arith, cl, ne) in
        let e = start-front c kept in
        omega (arith, e, one c (omega (arith, kept, fewer)) (omega (arith, e, less)))
  ]

  first-closed : 0 < b → (0 < length (take (length s.starts - 1) s.starts)) × (get_or (take (length s.starts - 1) s.starts) 0 0 ≡ 0)
  first-closed lt =
      let f = h.waits.first some in
      let two : 0 < length s.starts - 1 = elim (cases_eq (length s.starts) 1) [
        | inl one ↦
            let e : length s.starts - 1 ≡ 0 = omega (arith, one) in
            let z : b ≡ 0 = sym is ∙ ap (λ i. get_or s.starts i 0) e ∙ f.1 in
            absurd (omega (arith, z, lt))
        | inr ne ↦ omega (arith, ne, f.0)
      ] in
      (omega (arith, two, fewer), start-front 0 two ∙ f.1)

  waits-closed : AreWaiting all t
  waits-closed = record {
    stage = λ p lt.
        let l : p < b = omega (arith, lt, long) in
        let was : stage_at s (w p) ≡ Waits p = h.waits.stage p (omega (arith, l, b-inside)) in
        ap (stage_at t) (at-front p l) ∙ waits-before (w p) p was l ∙ was;
    place = λ k p e. elim (or k) [
      | inl now ↦ waits-grouped _ _ _ e (grouped-now k now.0 now.1.0 now.1.1.0 now.1.1.1)
      | inr same ↦
          let was = h.waits.place k p (sym same ∙ e) in
          elim (cases_lt p b) [
            | inl lt ↦ (omega (arith, lt, long), at-front p lt ∙ was.1)
            | inr le ↦ waits-grouped _ _ _ e (grouped-now k p le was.0 was.1)
          ]
    ];
    ahead = λ p q le lt.
        let ql : q < b = omega (arith, lt, long) in
        subst (λ x. Chain all x (get_or (take b s.waiting) q 0)) (sym (at-front p (omega (arith, le, ql)))) (subst (Chain all (w p)) (sym (at-front q ql)) (h.waits.ahead p q le (omega (arith, ql, b-inside))));
    back = λ p q le lt one.
        let ql : q < b = omega (arith, lt, long) in
        subst (λ x. Chain all x (get_or (take b s.waiting) p 0)) (sym (at-front q ql))
        (subst (Chain all (w q)) (sym (at-front p (omega (arith, le, ql)))) (h.waits.back p q le (omega (arith, ql, b-inside)) (together-closed p q ql one)));
    looked = λ p k lt le kl there.
        let l : p < b = omega (arith, lt, long) in
        let e = at-front p l in
        subst (λ x. LeadsOn (take (length s.starts - 1) s.starts) p (stage_at t (item all x k))) (sym e)
        (leads-closed p (item all (w p) k)
        (h.waits.looked p k (omega (arith, l, b-inside)) (subst (λ x. get_or s.left x 0 ≤ k) e le) (subst (λ x. k < length (row all x)) e kl) (subst (λ x. item all x k < length all) e there)));
    done = λ p lt. let l : p < b = omega (arith, lt, long) in
        subst (λ x. HasItem s.pending p ⊎ (get_or s.left x 0 ≡ 0)) (sym (at-front p l)) (h.waits.done p (omega (arith, l, b-inside)));
    first = λ lt. first-closed (omega (arith, lt, long));
    starts = record {
      below = λ c lt. let l : c < length s.starts - 1 = omega (arith, lt, fewer) in
          omega (arith, start-front c l, long, h.waits.starts.rising c (length s.starts - 1) l (omega (arith, starts-some)), is);
      rising = λ c d less lt. let l : d < length s.starts - 1 = omega (arith, lt, fewer) in
          omega (arith, start-front c (omega (arith, less, l)), start-front d l, h.waits.starts.rising c d less (omega (arith, l)));
    };
    pending = record { below = λ a lt. omega (arith, looked a lt, long); rising = h.waits.pending.rising };
  }
    where
      leads-closed : (p i : ℕ) → LeadsOn s.starts p (stage_at s i) → LeadsOn (take (length s.starts - 1) s.starts) p (stage_at t i)
      leads-closed p i on = elim (or i) [
        | inl now ↦ subst (LeadsOn (take (length s.starts - 1) s.starts) p) (sym (grouped-now i now.0 now.1.0 now.1.1.0 now.1.1.1)) tt
        | inr same ↦ subst (LeadsOn (take (length s.starts - 1) s.starts) p) (sym same) (leads-fewer s.starts (take (length s.starts - 1) s.starts) p (stage_at s i) front (omega (arith, fewer)) on)
      ]

  -- ---- groups

  group-or : (g : ℕ) → g < length (s.groups ++ drop b s.waiting ∷ [])
      → ((g < length s.groups) × (row t.groups g ≡ row s.groups g)) ⊎ ((g ≡ length s.groups) × (row t.groups g ≡ drop b s.waiting))
  group-or g lt = elim (cases_lt g (length s.groups)) [
    | inl old ↦ inl (old, row-old s.groups (drop b s.waiting) g old)
    | inr past ↦
        let e : g ≡ length s.groups = omega (arith, past, lt, length_push s.groups (drop b s.waiting)) in
        inr (e, ap (row t.groups) e ∙ row-new s.groups (drop b s.waiting))
  ]

  -- members of the new group reach each other
  knot : (p q : ℕ) → b ≤ p → b ≤ q → p < length s.waiting → q < length s.waiting → Chain all (w p) (w q)
  knot p q bp bq pl ql = elim (cases_lt q p) [
    | inl less ↦ h.waits.back q p (omega (arith, less)) pl (λ c lt above. absurd (omega (arith, starts-most c lt, bq, above)))
    | inr le ↦ h.waits.ahead p q le ql
  ]

  -- nothing of the new group is left to look at
  none-left : (p : ℕ) → b ≤ p → p < length s.waiting → get_or s.left (w p) 0 ≡ 0
  none-left p le lt = elim (h.waits.done p lt) [
    | inl has ↦ absurd (omega (arith, looked has.0 has.1.0, has.1.1, le))
    | inr z ↦ z
  ]

  leads-in : (p i : ℕ) (at : Stage) → b ≤ p → stage_at s i ≡ at → LeadsOn s.starts p at → (g : ℕ) × ((stage_at t i ≡ Grouped g) × (g ≤ length s.groups))
  leads-in p i Unseen le e on = absurd on
  leads-in p i (Waits q) le e on =
      let there = h.waits.place i q e in
      let last = on (length s.starts - 1) (omega (arith, starts-some)) (omega (arith, is, le)) in
      (length s.groups, (grouped-now i q (omega (arith, is, last)) there.0 there.1, omega arith))
  leads-in p i (Grouped g) le e on = (g, (grouped-before i g e, omega (arith, (h.found.grouped i g e).0)))

  earlier-closed : (i g e : ℕ) → stage_at t i ≡ Grouped g → e < length (row all i) → item all i e < length all → (k : ℕ) × ((stage_at t (item all i e) ≡ Grouped k) × (k ≤ g))
  earlier-closed i g e now el there = elim (or i) [
    | inl m ↦
        let last : length s.groups ≡ g = grouped-same _ _ _ (grouped-now i m.0 m.1.0 m.1.1.0 m.1.1.1) now in
        let on = h.waits.looked m.0 e m.1.1.0 (omega (arith, none-left m.0 m.1.0 m.1.1.0)) (subst (λ x. e < length (row all x)) (sym m.1.1.1) el) (subst (λ x. item all x e < length all) (sym m.1.1.1) there) in
        let found = leads-in m.0 (item all (w m.0) e) (stage_at s (item all (w m.0) e)) m.1.0 refl on in
        (found.0, (subst (λ x. stage_at t (item all x e) ≡ Grouped found.0) m.1.1.1 found.1.0, omega (arith, found.1.1, last)))
    | inr same ↦
        let old = h.found.earlier i g e (sym same ∙ now) el there in
        (old.0, (grouped-before (item all i e) old.0 old.1.0, old.1.1))
  ]

  some-closed : (g : ℕ) → g < length t.groups → 0 < length (row t.groups g)
  some-closed g gl = elim (group-or g gl) [
    | inl old ↦ subst (λ r. 0 < length r) (sym old.1) (h.found.some g old.0)
    | inr new ↦ subst (λ r. 0 < length r) (sym new.1) (omega (arith, size, b-inside))
  ]

  members-closed : (g k : ℕ) → g < length t.groups → k < length (row t.groups g) → stage_at t (item t.groups g k) ≡ Grouped g
  members-closed g k gl kl = elim (group-or g gl) [
    | inl old ↦
        subst (λ r. stage_at t (get_or r k 0) ≡ Grouped g) (sym old.1)
        (grouped-before (item s.groups g k) g (h.found.members g k old.0 (subst (λ r. k < length r) old.1 kl)))
    | inr new ↦
        let l : k < length (drop b s.waiting) = subst (λ r. k < length r) new.1 kl in
        subst (λ r. stage_at t (get_or r k 0) ≡ Grouped g) (sym new.1)
        (subst (λ j. stage_at t j ≡ Grouped g) (sym (member k)) (now-grouped (b + k) (omega arith) (omega (arith, l, size)) ∙ ap Grouped (sym new.0)))
  ]

  grouped-closed : (i g : ℕ) → stage_at t i ≡ Grouped g → (g < length t.groups) × ((k : ℕ) × ((k < length (row t.groups g)) × (item t.groups g k ≡ i)))
  grouped-closed i g now = elim (or i) [
    | inl m ↦
        let last : length s.groups ≡ g = grouped-same _ _ _ (grouped-now i m.0 m.1.0 m.1.1.0 m.1.1.1) now in
        let r : row t.groups g ≡ drop b s.waiting = ap (row t.groups) (sym last) ∙ row-new s.groups (drop b s.waiting) in (
          omega (arith, last, length_push s.groups (drop b s.waiting)),
          (m.0 - b, (subst (λ l. m.0 - b < length l) (sym r) (omega (arith, m.1.0, m.1.1.0, size)), ap (λ l. get_or l (m.0 - b) 0) r ∙ member-at m.0 m.1.0 ∙ m.1.1.1)),
        )
    | inr same ↦
        let old = h.found.grouped i g (sym same ∙ now) in
        let r : row t.groups g ≡ row s.groups g = row-old s.groups (drop b s.waiting) g old.0 in (
          omega (arith, old.0, length_push s.groups (drop b s.waiting)),
          (old.1.0, (subst (λ l. old.1.0 < length l) (sym r) old.1.1.0, ap (λ l. get_or l old.1.0 0) r ∙ old.1.1.1)),
        )
  ]

  distinct-closed : (g k l : ℕ) → g < length t.groups → k < length (row t.groups g) → l < length (row t.groups g) → item t.groups g k ≡ item t.groups g l → k ≡ l
  distinct-closed g k l gl kl ll e = elim (group-or g gl) [
    | inl old ↦
        h.found.distinct g k l old.0 (subst (λ r. k < length r) old.1 kl) (subst (λ r. l < length r) old.1 ll) (subst (λ r. get_or r k 0 ≡ get_or r l 0) old.1 e)
    | inr new ↦
        let ks : k < length (drop b s.waiting) = subst (λ r. k < length r) new.1 kl in
        let ls : l < length (drop b s.waiting) = subst (λ r. l < length r) new.1 ll in
        let same : w (b + k) ≡ w (b + l) = sym (member k) ∙ subst (λ r. get_or r k 0 ≡ get_or r l 0) new.1 e ∙ member l in
        let position : b + k ≡ b + l = waits-same _ _ _ (h.waits.stage (b + k) (omega (arith, ks, size))) (ap (stage_at s) same ∙ h.waits.stage (b + l) (omega (arith, ls, size))) in
        omega (arith, position)
  ]

  loops-closed : (g k l : ℕ) → g < length t.groups → k < length (row t.groups g) → l < length (row t.groups g) → Chain all (item t.groups g k) (item t.groups g l)
  loops-closed g k l gl kl ll = elim (group-or g gl) [
    | inl old ↦
        subst (λ r. Chain all (get_or r k 0) (get_or r l 0)) (sym old.1) (h.found.loops g k l old.0 (subst (λ r. k < length r) old.1 kl) (subst (λ r. l < length r) old.1 ll))
    | inr new ↦
        let ks : k < length (drop b s.waiting) = subst (λ r. k < length r) new.1 kl in
        let ls : l < length (drop b s.waiting) = subst (λ r. l < length r) new.1 ll in
        subst (λ r. Chain all (get_or r k 0) (get_or r l 0)) (sym new.1)
        (subst (λ x. Chain all x (get_or (drop b s.waiting) l 0)) (sym (member k))
        (subst (Chain all (w (b + k))) (sym (member l)) (knot (b + k) (b + l) (omega arith) (omega arith) (omega (arith, ks, size)) (omega (arith, ls, size)))))
  ]

  pub closed : IsSearch all (closing s b)
  closed = record {
    rows = left-closed;
    waits = waits-closed;
    found = record { some = some-closed; members = members-closed; grouped = grouped-closed; distinct = distinct-closed; loops = loops-closed; earlier = earlier-closed };
  }

  pub closed-kept : (k : ℕ) → stage_at s k ≢ Unseen → stage_at (closing s b) k ≢ Unseen
  closed-kept k seen e = elim (or k) [
    | inl now ↦ unseen-grouped _ _ e (grouped-now k now.0 now.1.0 now.1.1.0 now.1.1.1)
    | inr same ↦ seen (sym same ∙ e)
  ]
