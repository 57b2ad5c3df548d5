-- The forest when the root of one tree is linked to that of another.
use Rattle.std.proofs.Common.{◌≡◌, ◌≢◌, ℕ, zero, suc, ◌+◌, ◌<◌, ◌≤◌, ◌⊎◌, cond, eqb, List, length, get_or, set, replicate, refl, sym, ◌∙◌, ap, subst, inl, inr, arith, zero-add, Bool, true, false}
use Rattle.std.specs.List.{range_with_len}
use Rattle.std.proofs.lemmas.List.{length-set, get_or-set_same, get_or-set_other, ext_get_or, get_or-map, length-map, length-replicate, get_or-replicate}
use Rattle.std.proofs.lemmas.List.FromFn.{length-map-range_with_len, get_or-map-range_with_len, length-range_with_len, get_or-range_with_len}
use Rattle.std.proofs.lemmas.Bool.{cases_eq, cond-true, cond-false, eq-eqb, ne_eqb}
use Rattle.lhs_alias.specs.Roots.{climb, root_of, EndAtRoots, sum_below, tree_size, IsSized, IsForest, IsLinkable, firsts_of, merged}
use Rattle.lhs_alias.proofs.Climbing.{climb-within, climb-suc, root_of-root, root_of-within, root_of-link}
use Rattle.lhs_alias.proofs.SumsBelow.{two-le-sum, sum_below-move, sum_below-same, sum_below-ones}

-- ---- sizes show that all links end

climb-grow : (links sizes : List ℕ) → IsSized links sizes → (m at : ℕ) → at < length links → (get_or links (climb m links at) 0 ≡ climb m links at) ⊎ (get_or sizes at 0 + m ≤ get_or sizes (climb m links at) 0)
unfolding climb
climb-grow links sizes f zero at h = inr (omega arith)
climb-grow links sizes f (suc m) at h =
    let here = climb m links at in
    let next : climb (suc m) links at ≡ get_or links here 0 = climb-suc m links at in
    let stays = λ (is : get_or links here 0 ≡ here). ap (λ k. get_or links k 0) (next ∙ is) ∙ is ∙ sym (next ∙ is) in
    elim (climb-grow links sizes f m at h) [
      | inl is ↦ inl (stays is)
      | inr far ↦ elim (f.grow here (climb-within m links at f.within h)) [
        | inl is ↦ inl (stays is)
        | inr more ↦ inr (rw (next) (omega arith))
      ]
    ]

pub sized-ends : (links sizes : List ℕ) → IsSized links sizes → EndAtRoots links
unfolding root_of
sized-ends links sizes f = record {
  within = f.within;
  ends = λ k h. elim (climb-grow links sizes f (length links) k h) [
    | inl is ↦ is
    | inr far ↦ absurd (omega (arith, f.some k h, f.most (climb (length links) links k) (climb-within (length links) links k f.within h)))
  ];
}

-- ---- where the links end after one root is linked to another

module _ (links : List ℕ) (low high : ℕ) (end : EndAtRoots links) (end' : EndAtRoots (set links low high)) (low_within : low < length links) (high_within : high < length links) (low_root : get_or links low 0 ≡ low) (high_root : get_or links high 0 ≡ high) (apart : low ≢ high) where
  other-link : (k : ℕ) → k ≢ low → get_or (set links low high) k 0 ≡ get_or links k 0
  other-link k other = get_or-set_other links low k high 0 other

  linked-low : root_of (set links low high) low ≡ high
  linked-low =
      let new = set links low high in
      let within : low < length new = omega (arith, length-set links low high) in
      let next : get_or new low 0 ≡ high = get_or-set_same links low high 0 low_within in
      let high_stays : get_or new high 0 ≡ high = other-link high (λ e. apart (sym e)) ∙ high_root in
      sym (root_of-link new low end' within) ∙ ap (λ k. root_of new k) next ∙ root_of-root new high high_stays

  linked-root : (k : ℕ) → k < length links → get_or links k 0 ≡ k → root_of (set links low high) k ≡ cond (eqb (root_of links k) low) high (root_of links k)
  linked-root k h is =
      let new = set links low high in
      let root : root_of links k ≡ k = root_of-root links k is in
      elim (cases_eq k low) [
        | inl at_low ↦
            ap (λ j. root_of new j) at_low ∙ linked-low ∙ sym (cond-true (eqb (root_of links k) low) high (root_of links k) (eq-eqb (root_of links k) low (root ∙ at_low)))
        | inr other ↦
            root_of-root new k (other-link k other ∙ is) ∙ sym root ∙ sym (cond-false (eqb (root_of links k) low) high (root_of links k) (ne_eqb (root_of links k) low (λ e. other (sym root ∙ e))))
      ]

  linked-from : (m k : ℕ) → k < length links → get_or links (climb m links k) 0 ≡ climb m links k → root_of (set links low high) k ≡ cond (eqb (root_of links k) low) high (root_of links k)
  unfolding climb
  linked-from zero k h is = linked-root k h is
  linked-from (suc m) k h is =
      let new = set links low high in
      let next = get_or links k 0 in
      elim (cases_eq k low) [
        | inl at_low ↦ linked-root k h (ap (λ j. get_or links j 0) at_low ∙ low_root ∙ sym at_low)
        | inr other ↦
            let within : k < length new = omega (arith, length-set links low high) in
            let same_root : root_of links next ≡ root_of links k = root_of-link links k end h in
            sym (root_of-link new k end' within)
            ∙ ap (λ j. root_of new j) (other-link k other)
            ∙ linked-from m next (end.within k h) is
            ∙ ap (λ r. cond (eqb r low) high r) same_root
      ]

  pub root_of-linked : (k : ℕ) → k < length links → root_of (set links low high) k ≡ cond (eqb (root_of links k) low) high (root_of links k)
  unfolding root_of
  root_of-linked k h = linked-from (length links) k h (end.ends k h)

-- ---- the sizes after that

pub linked-fits : (links sizes : List ℕ) (low high first : ℕ) → IsSized links sizes → IsLinkable links sizes low high first → get_or sizes low 0 + get_or sizes high 0 ≤ length links
unfolding tree_size
linked-fits links sizes low high first f l =
    let at_low = cond-true (eqb (get_or links low 0) low) (get_or sizes low 0) 0 (eq-eqb (get_or links low 0) low l.low_root) in
    let at_high = cond-true (eqb (get_or links high 0) high) (get_or sizes high 0) 0 (eq-eqb (get_or links high 0) high l.high_root) in
    omega (arith, at_low, at_high, f.total, two-le-sum (length links) (tree_size links sizes) low high l.low_within l.high_within l.apart)

pub sized-linked : (links sizes : List ℕ) (low high first : ℕ) → IsSized links sizes → IsLinkable links sizes low high first → IsSized (set links low high) (set sizes high (get_or sizes high 0 + get_or sizes low 0))
unfolding tree_size
sized-linked links sizes low high first f l =
    let links' = set links low high in
    let both = get_or sizes high 0 + get_or sizes low 0 in
    let sizes' = set sizes high both in
    let long : length links' ≡ length links = length-set links low high in
    let fits = linked-fits links sizes low high first f l in
    let low_link : get_or links' low 0 ≡ high = get_or-set_same links low high 0 l.low_within in
    let link : (k : ℕ) → k ≢ low → get_or links' k 0 ≡ get_or links k 0 = λ k other. get_or-set_other links low k high 0 other in
    let high_size : get_or sizes' high 0 ≡ both = get_or-set_same sizes high both 0 (omega (arith, f.as_many, l.high_within)) in
    let size : (k : ℕ) → k ≢ high → get_or sizes' k 0 ≡ get_or sizes k 0 = λ k other. get_or-set_other sizes high k both 0 other in
    let low_size : get_or sizes' low 0 ≡ get_or sizes low 0 = size low l.apart in
    let high_link : get_or links' high 0 ≡ high = link high (λ e. l.apart (sym e)) ∙ l.high_root in
    let no_smaller : (k : ℕ) → get_or sizes k 0 ≤ get_or sizes' k 0 = λ k. elim (cases_eq k high) [
      | inl is ↦ omega (arith, ap (λ j. get_or sizes j 0) is, ap (λ j. get_or sizes' j 0) is, high_size)
      | inr other ↦ omega (arith, size k other)
    ] in
    record {
      as_many = length-set sizes high both ∙ f.as_many ∙ sym long;
      within = λ k h. elim (cases_eq k low) [
        | inl is ↦ omega (arith, ap (λ j. get_or links' j 0) is, low_link, long, l.high_within)
        | inr other ↦ omega (arith, link k other, f.within k (omega arith), long)
      ];
      some = λ k h. omega (arith, f.some k (omega arith), no_smaller k);
      most = λ k h. elim (cases_eq k high) [
        | inl is ↦ omega (arith, ap (λ j. get_or sizes' j 0) is, high_size, fits, long)
        | inr other ↦ omega (arith, size k other, f.most k (omega arith), long)
      ];
      grow = λ k h. elim (cases_eq k low) [
        | inl is ↦
            let up : get_or links' k 0 ≡ high = ap (λ j. get_or links' j 0) is ∙ low_link in
            inr (omega (arith, low_size, high_size, f.some high l.high_within, ap (λ j. get_or sizes' j 0) is, ap (λ j. get_or sizes' j 0) up))
        | inr other ↦ elim (f.grow k (omega arith)) [
          | inl root ↦ inl (link k other ∙ root)
          | inr more ↦ elim (cases_eq k high) [
            | inl is ↦
                let stays : get_or links k 0 ≡ k = ap (λ j. get_or links j 0) is ∙ l.high_root ∙ sym is in
                absurd (omega (arith, more, ap (λ j. get_or sizes j 0) stays))
            | inr inner ↦ inr (omega (arith, size k inner, no_smaller (get_or links k 0), ap (λ j. get_or sizes' j 0) (link k other)))
          ]
        ]
      ];
      total =
          let old_low = cond-true (eqb (get_or links low 0) low) (get_or sizes low 0) 0 (eq-eqb (get_or links low 0) low l.low_root) in
          let old_high = cond-true (eqb (get_or links high 0) high) (get_or sizes high 0) 0 (eq-eqb (get_or links high 0) high l.high_root) in
          let new_low = cond-false (eqb (get_or links' low 0) low) (get_or sizes' low 0) 0 (ne_eqb (get_or links' low 0) low (λ e. l.apart (sym (sym low_link ∙ e)))) in
          let new_high = cond-true (eqb (get_or links' high 0) high) (get_or sizes' high 0) 0 (eq-eqb (get_or links' high 0) high high_link) in
          let same = λ (k : ℕ) (h : k < length links) (not_low : k ≢ low) (not_high : k ≢ high).
          ap (λ j. cond (eqb j k) (get_or sizes k 0) 0) (sym (link k not_low)) ∙ ap (λ s. cond (eqb (get_or links' k 0) k) s 0) (sym (size k not_high)) in
          ap (λ n. sum_below (tree_size links' sizes') n) long
          ∙ sum_below-move (length links) (tree_size links sizes) (tree_size links' sizes') low high l.low_within l.high_within l.apart same (omega (arith, old_low, old_high, new_low, new_high, high_size))
          ∙ f.total ∙ sym long;
    }

pub forest-linked : (links sizes firsts : List ℕ) (low high first : ℕ) → IsForest links sizes firsts → IsLinkable links sizes low high first → IsForest (set links low high) (set sizes high (get_or sizes high 0 + get_or sizes low 0)) (set firsts high first)
forest-linked links sizes firsts low high first f l =
    let links' = set links low high in
    let long : length links' ≡ length links = length-set links low high in
    let sized = sized-linked links sizes low high first f.sized l in
    let end = sized-ends links sizes f.sized in
    let end' = sized-ends links' _ sized in
    let root' = root_of-linked links low high end end' l.low_within l.high_within l.low_root l.high_root l.apart in
    let low_link : get_or links' low 0 ≡ high = get_or-set_same links low high 0 l.low_within in
    let not_low : (k : ℕ) → get_or links' k 0 ≡ k → k ≢ low = λ k root is. l.apart (sym (sym low_link ∙ ap (λ j. get_or links' j 0) (sym is) ∙ root ∙ is)) in
    let link : (k : ℕ) → k ≢ low → get_or links' k 0 ≡ get_or links k 0 = λ k other. get_or-set_other links low k high 0 other in
    let old_root : (k : ℕ) → get_or links' k 0 ≡ k → get_or links k 0 ≡ k = λ k root. sym (link k (not_low k root)) ∙ root in
    let firsts' = set firsts high first in
    let at_high : get_or firsts' high 0 ≡ first = get_or-set_same firsts high first 0 (omega (arith, f.as_many, l.high_within)) in
    let at_other : (k : ℕ) → k ≢ high → get_or firsts' k 0 ≡ get_or firsts k 0 = λ k other. get_or-set_other firsts high k first 0 other in
    record {
      sized = sized;
      as_many = length-set firsts high first ∙ f.as_many ∙ sym long;
      within = λ k h root. elim (cases_eq k high) [
        | inl is ↦ omega (arith, ap (λ j. get_or firsts' j 0) is, at_high, l.first_within, long)
        | inr other ↦ omega (arith, at_other k other, f.within k (omega arith) (old_root k root), long)
      ];
      first = λ k h root. elim (cases_eq k high) [
        | inl is ↦
            ap (λ j. root_of links' j) (ap (λ j. get_or firsts' j 0) is ∙ at_high)
            ∙ root' first l.first_within
            ∙ elim l.first_root [
              | inl at_low ↦ cond-true (eqb (root_of links first) low) high (root_of links first) (eq-eqb (root_of links first) low at_low)
              | inr there ↦ cond-false (eqb (root_of links first) low) high (root_of links first) (ne_eqb (root_of links first) low (λ e. l.apart (sym e ∙ there))) ∙ there
            ]
            ∙ sym is
        | inr other ↦
            let kept = get_or firsts k 0 in
            let there : root_of links kept ≡ k = f.first k (omega arith) (old_root k root) in
            ap (λ j. root_of links' j) (at_other k other)
            ∙ root' kept (f.within k (omega arith) (old_root k root))
            ∙ cond-false (eqb (root_of links kept) low) high (root_of links kept) (ne_eqb (root_of links kept) low (λ e. not_low k root (sym there ∙ e)))
            ∙ there
      ];
    }

-- ---- the first numbers

pub get_or-firsts_of : (links firsts : List ℕ) (k : ℕ) → k < length links → get_or (firsts_of links firsts) k 0 ≡ get_or firsts (root_of links k) 0
unfolding firsts_of
get_or-firsts_of links firsts k h = get_or-map-range_with_len (λ j. get_or firsts (root_of links j) 0) 0 (length links) k k 0 h (omega arith)

pub length-firsts_of : (links firsts : List ℕ) → length (firsts_of links firsts) ≡ length links
unfolding firsts_of
length-firsts_of links firsts = length-map-range_with_len (λ j. get_or firsts (root_of links j) 0) 0 (length links)

pub length-merged : (firsts : List ℕ) (a b : ℕ) → length (merged firsts a b) ≡ length firsts
unfolding merged
length-merged firsts a b = length-map firsts (λ x. cond (eqb x (get_or firsts a 0)) (get_or firsts b 0) x)

pub get_or-merged : (firsts : List ℕ) (a b k : ℕ) → k < length firsts → get_or (merged firsts a b) k 0 ≡ cond (eqb (get_or firsts k 0) (get_or firsts a 0)) (get_or firsts b 0) (get_or firsts k 0)
unfolding merged
get_or-merged firsts a b k h = get_or-map (λ x. cond (eqb x (get_or firsts a 0)) (get_or firsts b 0) x) firsts k 0 0 h

-- one class with itself
pub merged-same : (firsts : List ℕ) (a b : ℕ) → get_or firsts a 0 ≡ get_or firsts b 0 → merged firsts a b ≡ firsts
merged-same firsts a b is =
    ext_get_or 0 (merged firsts a b) firsts (length-merged firsts a b)
    (λ k h.
    let within : k < length firsts = omega (arith, length-merged firsts a b) in
    get_or-merged firsts a b k within ∙ elim (cases_eq (get_or firsts k 0) (get_or firsts a 0)) [
      | inl in_class ↦ cond-true (eqb (get_or firsts k 0) (get_or firsts a 0)) (get_or firsts b 0) (get_or firsts k 0) (eq-eqb _ _ in_class) ∙ sym is ∙ sym in_class
      | inr other ↦ cond-false (eqb (get_or firsts k 0) (get_or firsts a 0)) (get_or firsts b 0) (get_or firsts k 0) (ne_eqb _ _ other)
    ])

-- one tree with itself
pub firsts_of-same : (links firsts : List ℕ) (a b : ℕ) → a < length links → b < length links → root_of links a ≡ root_of links b → firsts_of links firsts ≡ merged (firsts_of links firsts) a b
firsts_of-same links firsts a b ha hb is =
    sym (merged-same (firsts_of links firsts) a b (get_or-firsts_of links firsts a ha ∙ ap (λ r. get_or firsts r 0) is ∙ sym (get_or-firsts_of links firsts b hb)))

cond-hung : (r low high : ℕ) → (r ≡ low) ⊎ (r ≡ high) → cond (eqb r low) high r ≡ high
cond-hung r low high which = elim (cases_eq r low) [
  | inl is ↦ cond-true (eqb r low) high r (eq-eqb r low is)
  | inr other ↦ cond-false (eqb r low) high r (ne_eqb r low other) ∙ elim which [ inl is ↦ absurd (other is) | inr is ↦ is ]
]

cond-same : (b : Bool) (x y z : ℕ) → x ≡ z → y ≡ z → cond b x y ≡ z
cond-same true x y z ex ey = ex
cond-same false x y z ex ey = ey

pub firsts_of-linked : (links sizes firsts : List ℕ) (low high a b : ℕ) → IsForest links sizes firsts → a < length links → b < length links → IsLinkable links sizes low high (get_or firsts (root_of links b) 0) → ((low ≡ root_of links a) × (high ≡ root_of links b)) ⊎ ((low ≡ root_of links b) × (high ≡ root_of links a)) → firsts_of (set links low high) (set firsts high (get_or firsts (root_of links b) 0)) ≡ merged (firsts_of links firsts) a b
firsts_of-linked links sizes firsts low high a b f ha hb l ends =
    let end = sized-ends links sizes f.sized in
    let links' = set links low high in
    let end' = sized-ends links' _ (sized-linked links sizes low high (get_or firsts (root_of links b) 0) f.sized l) in
    let long : length links' ≡ length links = length-set links low high in
    let ra = root_of links a in
    let rb = root_of links b in
    let first = get_or firsts rb 0 in
    let firsts' = set firsts high first in
    let old = firsts_of links firsts in
    let old_long : length old ≡ length links = length-firsts_of links firsts in
    let at_high : get_or firsts' high 0 ≡ first = get_or-set_same firsts high first 0 (omega (arith, f.as_many, l.high_within)) in
    ext_get_or 0 (firsts_of links' firsts') (merged old a b)
    (length-firsts_of links' firsts' ∙ long ∙ sym old_long ∙ sym (length-merged old a b))
    (λ k h.
    let within : k < length links = omega (arith, length-firsts_of links' firsts', long) in
    let rk = root_of links k in
    let here : get_or old k 0 ≡ get_or firsts rk 0 = get_or-firsts_of links firsts k within in
    let from_a : get_or old a 0 ≡ get_or firsts ra 0 = get_or-firsts_of links firsts a ha in
    let from_b : get_or old b 0 ≡ first = get_or-firsts_of links firsts b hb in
    let root' = root_of-linked links low high end end' l.low_within l.high_within l.low_root l.high_root l.apart k within in
    let left : get_or (firsts_of links' firsts') k 0 ≡ get_or firsts' (cond (eqb rk low) high rk) 0 =
    get_or-firsts_of links' firsts' k (omega (arith, within, long)) ∙ ap (λ r. get_or firsts' r 0) root' in
    let right : get_or (merged old a b) k 0 ≡ cond (eqb (get_or old k 0) (get_or old a 0)) (get_or old b 0) (get_or old k 0) =
    get_or-merged old a b k (omega (arith, within, old_long)) in
    let hung : (rk ≡ low) ⊎ (rk ≡ high) → get_or firsts' (cond (eqb rk low) high rk) 0 ≡ first =
    λ which. ap (λ r. get_or firsts' r 0) (cond-hung rk low high which) ∙ at_high in
    let one_class : rk ≡ ra → cond (eqb (get_or old k 0) (get_or old a 0)) (get_or old b 0) (get_or old k 0) ≡ first =
    λ is. cond-true (eqb (get_or old k 0) (get_or old a 0)) (get_or old b 0) (get_or old k 0) (eq-eqb _ _ (here ∙ ap (λ r. get_or firsts r 0) is ∙ sym from_a)) ∙ from_b in
    let to_class : rk ≡ rb → cond (eqb (get_or old k 0) (get_or old a 0)) (get_or old b 0) (get_or old k 0) ≡ first =
    λ is. cond-same (eqb (get_or old k 0) (get_or old a 0)) (get_or old b 0) (get_or old k 0) first from_b (here ∙ ap (λ r. get_or firsts r 0) is) in
    let middle : get_or firsts' (cond (eqb rk low) high rk) 0 ≡ cond (eqb (get_or old k 0) (get_or old a 0)) (get_or old b 0) (get_or old k 0) =
    elim (cases_eq rk ra) [
      | inl is ↦ hung (elim ends [ inl e ↦ inl (is ∙ sym e.0) | inr e ↦ inr (is ∙ sym e.1) ]) ∙ sym (one_class is)
      | inr not_a ↦ elim (cases_eq rk rb) [
        | inl is ↦ hung (elim ends [ inl e ↦ inr (is ∙ sym e.1) | inr e ↦ inl (is ∙ sym e.0) ]) ∙ sym (to_class is)
        | inr not_b ↦
            let not_low : rk ≢ low = λ is. elim ends [ inl e ↦ not_a (is ∙ e.0) | inr e ↦ not_b (is ∙ e.0) ] in
            let not_high : rk ≢ high = λ is. elim ends [ inl e ↦ not_b (is ∙ e.1) | inr e ↦ not_a (is ∙ e.1) ] in
            let apart : get_or old k 0 ≢ get_or old a 0 = λ e.
            not_a (sym (f.first rk (root_of-within links k end within) (end.ends k within))
            ∙ ap (λ x. root_of links x) (sym here ∙ e ∙ from_a)
            ∙ f.first ra (root_of-within links a end ha) (end.ends a ha)) in
            ap (λ r. get_or firsts' r 0) (cond-false (eqb rk low) high rk (ne_eqb rk low not_low))
            ∙ get_or-set_other firsts high rk first 0 not_high
            ∙ sym here
            ∙ sym (cond-false (eqb (get_or old k 0) (get_or old a 0)) (get_or old b 0) (get_or old k 0) (ne_eqb _ _ apart))
      ]
    ] in
    left ∙ middle ∙ sym right)

-- the same, of what is there afterwards
pub firsts_of-hung : (links sizes firsts links' firsts' : List ℕ) (low high first a b : ℕ) → IsForest links sizes firsts → a < length links → b < length links → IsLinkable links sizes low high first → first ≡ get_or firsts (root_of links b) 0 → ((low ≡ root_of links a) × (high ≡ root_of links b)) ⊎ ((low ≡ root_of links b) × (high ≡ root_of links a)) → links' ≡ set links low high → firsts' ≡ set firsts high first → firsts_of links' firsts' ≡ merged (firsts_of links firsts) a b
firsts_of-hung links sizes firsts links' firsts' low high first a b f ha hb l is ends linked kept =
    let P : ℕ → Type 0 = λ x. IsLinkable links sizes low high x in
    ap (λ r. firsts_of r firsts') linked
    ∙ ap (λ r. firsts_of (set links low high) r) (kept ∙ ap (λ x. set firsts high x) is)
    ∙ firsts_of-linked links sizes firsts low high a b f ha hb (subst P is l) ends

-- ---- each number by itself

pub forest-new : (n : ℕ) → IsForest (range_with_len 0 n) (replicate n 1) (range_with_len 0 n)
unfolding tree_size
forest-new n =
    let numbers = range_with_len 0 n in
    let long : length numbers ≡ n = length-range_with_len 0 n in
    let link : (k : ℕ) → k < n → get_or numbers k 0 ≡ k = λ k h. get_or-range_with_len 0 n k 0 h ∙ zero-add k in
    let size : (k : ℕ) → k < n → get_or (replicate {A = ℕ} n 1) k 0 ≡ 1 = λ k h. get_or-replicate n k 1 0 h in
    record {
      sized = record {
        as_many = length-replicate n 1 ∙ sym long;
        within = λ k h. omega (arith, link k (omega arith), long);
        some = λ k h. omega (arith, size k (omega arith), long);
        most = λ k h. omega (arith, size k (omega arith), long);
        grow = λ k h. inl (link k (omega arith));
        total =
            ap (λ m. sum_below (tree_size numbers (replicate n 1)) m) long
            ∙ sum_below-same n (tree_size numbers (replicate n 1)) (λ _. 1)
            (λ k h. cond-true (eqb (get_or numbers k 0) k) (get_or (replicate n 1) k 0) 0 (eq-eqb (get_or numbers k 0) k (link k h)) ∙ size k h)
            ∙ sum_below-ones n ∙ sym long;
      };
      as_many = refl;
      within = λ k h root. omega (arith, link k (omega arith), long);
      first = λ k h root. ap (λ j. root_of numbers j) root ∙ root_of-root numbers k root;
    }

pub firsts_of-new : (n : ℕ) → firsts_of (range_with_len 0 n) (range_with_len 0 n) ≡ range_with_len 0 n
firsts_of-new n =
    let numbers = range_with_len 0 n in
    let long : length numbers ≡ n = length-range_with_len 0 n in
    let link : (k : ℕ) → k < n → get_or numbers k 0 ≡ k = λ k h. get_or-range_with_len 0 n k 0 h ∙ zero-add k in
    ext_get_or 0 (firsts_of numbers numbers) numbers (length-firsts_of numbers numbers)
    (λ k h.
    let within : k < length numbers = omega (arith, length-firsts_of numbers numbers) in
    get_or-firsts_of numbers numbers k within ∙ ap (λ r. get_or numbers r 0) (root_of-root numbers k (link k (omega arith))))

pub ruleset merges = (length-merged)

-- a root may be linked to another, and the first number of either tree stays

pub linkable_high : (links sizes firsts : List ℕ) (low high : ℕ) → IsForest links sizes firsts → low < length links → high < length links → get_or links low 0 ≡ low → get_or links high 0 ≡ high → low ≢ high → get_or sizes low 0 ≤ get_or sizes high 0 → IsLinkable links sizes low high (get_or firsts high 0)
linkable_high links sizes firsts low high f low_within high_within low_root high_root apart smaller = record {
  low_within = low_within;
  high_within = high_within;
  low_root = low_root;
  high_root = high_root;
  apart = apart;
  smaller = smaller;
  first_within = f.within high high_within high_root;
  first_root = inr (f.first high high_within high_root);
}

pub linkable_low : (links sizes firsts : List ℕ) (low high : ℕ) → IsForest links sizes firsts → low < length links → high < length links → get_or links low 0 ≡ low → get_or links high 0 ≡ high → low ≢ high → get_or sizes low 0 ≤ get_or sizes high 0 → IsLinkable links sizes low high (get_or firsts low 0)
linkable_low links sizes firsts low high f low_within high_within low_root high_root apart smaller = record {
  low_within = low_within;
  high_within = high_within;
  low_root = low_root;
  high_root = high_root;
  apart = apart;
  smaller = smaller;
  first_within = f.within low low_within low_root;
  first_root = inl (f.first low low_within low_root);
}

-- ---- the same forest

pub forest-same : (links links' sizes sizes' firsts firsts' : List ℕ) → links' ≡ links → sizes' ≡ sizes → firsts' ≡ firsts → IsForest links sizes firsts → IsForest links' sizes' firsts'
forest-same links links' sizes sizes' firsts firsts' l s f is =
    subst (λ xs. IsForest xs sizes' firsts') (sym l) (subst (λ xs. IsForest links xs firsts') (sym s) (subst (λ xs. IsForest links sizes xs) (sym f) is))
