-- Chains of the segments of a wire.
use Rattle.std.proofs.Common.{◌≡◌, ℕ, suc, ◌+◌, ◌-◌, ◌<◌, ◌≤◌, true, false, List, [], ◌∷◌, ◌++◌, length, get_or, set, refl, sym, ap, ◌∙◌, subst, inl, inr, arith}
use Rattle.std.specs.Prelude.{slice_index}
use Rattle.std.proofs.lemmas.Bool.{cases_eq, cases_lt}
use Rattle.std.proofs.lemmas.List.{append-nil, get_or_append_left, get_or_push, get_or_past, length-append, get_or-append-add, get_or-set_same, get_or-set_other}
use Rattle.lhs_alias.specs.declared.segs.Seg.{Seg}
use Rattle.lhs_alias.specs.declared.segs.WireBit.{WireBit}
use Rattle.net_equations.specs.Equations.{has_bit, seg_at}
use Rattle.compose_rounds.specs.Sources.{HasSource, IsLinked, ReadsAs}
use Rattle.compose_rounds.proofs.Found.{in-seg}

pub reads_self : (old : List ℕ) → ReadsAs old old
reads_self old = record { same = λ w. refl }

pub reads_more : (old mid : List ℕ) → ReadsAs old mid → ReadsAs old (mid ++ 0 ∷ [])
reads_more old mid h = record {
  same = λ w. elim (cases_lt w (length mid)) [
    | inl lt ↦ get_or_append_left mid (0 ∷ []) 0 w lt ∙ h.same w
    | inr past ↦ elim (cases_eq w (length mid)) [
      | inl is ↦ get_or_push mid 0 0 w (sym is) ∙ sym (get_or_past mid w 0 past) ∙ h.same w
      | inr ne ↦ get_or_past (mid ++ 0 ∷ []) w 0 (let l = length-append mid (0 ∷ []) in omega (arith, l, past, ne)) ∙ sym (get_or_past mid w 0 past) ∙ h.same w
    ]
  ];
}

pub linked_none : (segs : List Seg) (newest older : List ℕ) → newest ≡ [] → older ≡ [] → IsLinked segs newest older 0
linked_none segs newest older n o =
    let none : (w : ℕ) → slice_index newest w ≡ 0 = λ w. ap (λ l. get_or l w 0) n in
    record {
      size = ap length o;
      newest_within = λ w. omega (arith, none w);
      newest_above = λ j lt. absurd (omega (arith, lt));
      newest_own = λ w k e. absurd (omega (arith, e, none w));
      older_within = λ k lt. absurd (omega (arith, lt));
      older_above = λ j k l lt. absurd (omega (arith, lt));
      older_own = λ j k lt. absurd (omega (arith, lt));
    }

-- one segment more at the front of its wire's chain
pub link_more : (segs : List Seg) (wire n front : ℕ) (newest room older newest' older' : List ℕ) → IsLinked segs newest older n → ReadsAs newest room → wire < length room
    → (seg_at segs n).wire ≡ wire → front ≡ slice_index room wire → older' ≡ older ++ front ∷ [] → newest' ≡ set room wire (n + 1) → IsLinked segs newest' older' (n + 1)
link_more segs wire n front newest room older newest' older' h r lt is f o e =
    let here : slice_index newest' wire ≡ n + 1 = ap (λ l. get_or l wire 0) e ∙ get_or-set_same room wire (n + 1) 0 lt in
    let there : (w : ℕ) → (w ≡ wire → ⊥) → slice_index newest' w ≡ slice_index newest w = λ w ne. ap (λ l. get_or l w 0) e ∙ get_or-set_other room wire w (n + 1) 0 ne ∙ r.same w in
    let last : slice_index older' n ≡ slice_index newest wire = ap (λ l. get_or l n 0) o ∙ get_or_push older front 0 n h.size ∙ f ∙ r.same wire in
    let rest : (k : ℕ) → k < n → slice_index older' k ≡ slice_index older k = λ k l. ap (λ x. get_or x k 0) o ∙ get_or_append_left older (front ∷ []) 0 k (omega (arith, l, h.size)) in
    record {
      size = let l = length-append older (front ∷ []) in omega (arith, ap length o, l, h.size);
      newest_within = λ w. elim (cases_eq w wire) [
        | inl same ↦ let k : slice_index newest' w ≡ n + 1 = ap (slice_index newest') same ∙ here in omega (arith, k)
        | inr ne ↦ let k = h.newest_within w in omega (arith, k, there w ne)
      ];
      newest_above = λ j l. elim (cases_eq (seg_at segs j).wire wire) [
        | inl same ↦ let k : slice_index newest' (seg_at segs j).wire ≡ n + 1 = ap (slice_index newest') same ∙ here in omega (arith, k, l)
        | inr ne ↦ elim (cases_eq j n) [
          | inl last_one ↦ absurd (ne (ap (λ x. (seg_at segs x).wire) last_one ∙ is))
          | inr other ↦ let k = h.newest_above j (omega (arith, l, other)) in omega (arith, k, there (seg_at segs j).wire ne)
        ]
      ];
      newest_own = λ w k same. elim (cases_eq w wire) [
        | inl at ↦
            let t : suc k ≡ n + 1 = sym same ∙ ap (slice_index newest') at ∙ here in
            ap (λ x. (seg_at segs x).wire) (let q : k ≡ n = omega (arith, t) in q) ∙ is ∙ sym at
        | inr ne ↦ h.newest_own w k (sym (there w ne) ∙ same)
      ];
      older_within = λ k l. elim (cases_eq k n) [
        | inl at ↦ let q = h.newest_within wire in let p : slice_index older' k ≡ slice_index newest wire = ap (slice_index older') at ∙ last in omega (arith, p, q, at)
        | inr ne ↦ let q = h.older_within k (omega (arith, l, ne)) in let p = rest k (omega (arith, l, ne)) in omega (arith, p, q)
      ];
      older_above = λ j k l m same. elim (cases_eq k n) [
        | inl at ↦
            let p : slice_index older' k ≡ slice_index newest wire = ap (slice_index older') at ∙ last in
            let w : (seg_at segs j).wire ≡ wire = same ∙ ap (λ x. (seg_at segs x).wire) at ∙ is in
            let q : j < slice_index newest wire = subst (λ x. j < slice_index newest x) w (h.newest_above j (omega (arith, l, at))) in
            omega (arith, p, q)
        | inr ne ↦ let q = h.older_above j k l (omega (arith, m, ne)) same in let p = rest k (omega (arith, m, ne)) in omega (arith, p, q)
      ];
      older_own = λ j k m same. elim (cases_eq k n) [
        | inl at ↦
            h.newest_own wire j (sym last ∙ ap (slice_index older') (sym at) ∙ same) ∙ sym is ∙ ap (λ x. (seg_at segs x).wire) (sym at)
        | inr ne ↦ h.older_own j k (omega (arith, m, ne)) (sym (rest k (omega (arith, m, ne))) ∙ same)
      ];
    }

-- ---- along a chain

-- the search stands at a segment of the bit's wire, and no later segment has the bit
pub record IsAt (segs : List Seg) (b : WireBit) (at : ℕ) : Type 0 where
  pub within : at < length segs
  pub wire : (seg_at segs at).wire ≡ b.wire
  pub behind : (j : ℕ) → j < length segs → has_bit (seg_at segs j) b ≡ true → j ≤ at

pub front_some : (segs : List Seg) (newest older : List ℕ) (b : WireBit) → IsLinked segs newest older (length segs) → HasSource segs b → 0 < slice_index newest b.wire
front_some segs newest older b h s =
    let w : (seg_at segs s.0).wire ≡ b.wire = (in-seg (seg_at segs s.0) b s.1.1).wire in
    let q : s.0 < slice_index newest b.wire = subst (λ x. s.0 < slice_index newest x) w (h.newest_above s.0 s.1.0) in
    omega (arith, q)

pub front_within : (segs : List Seg) (newest older : List ℕ) (b : WireBit) → IsLinked segs newest older (length segs) → HasSource segs b → b.wire < length newest
front_within segs newest older b h s = elim (cases_lt b.wire (length newest)) [
  | inl lt ↦ lt
  | inr past ↦ absurd (let some = front_some segs newest older b h s in omega (arith, some, get_or_past newest b.wire 0 past))
]

pub at_front : (segs : List Seg) (newest older : List ℕ) (b : WireBit) (at : ℕ) → IsLinked segs newest older (length segs) → HasSource segs b → at ≡ slice_index newest b.wire - 1 → IsAt segs b at
at_front segs newest older b at h s is =
    let some = front_some segs newest older b h s in
    let next : slice_index newest b.wire ≡ suc at = omega (arith, some, is) in
    let within = h.newest_within b.wire in
    record {
      within = omega (arith, within, next);
      wire = h.newest_own b.wire at next;
      behind = λ j lt has.
          let w : (seg_at segs j).wire ≡ b.wire = (in-seg (seg_at segs j) b has).wire in
          let q : j < slice_index newest b.wire = subst (λ x. j < slice_index newest x) w (h.newest_above j lt) in
          omega (arith, q, next);
    }

pub older_some : (segs : List Seg) (newest older : List ℕ) (b : WireBit) (at : ℕ) → IsLinked segs newest older (length segs) → HasSource segs b → IsAt segs b at → has_bit (seg_at segs at) b ≡ false
    → 0 < slice_index older at
older_some segs newest older b at h s here not =
    let before = h.older_above s.0 at (before-at s here not) here.within ((in-seg (seg_at segs s.0) b s.1.1).wire ∙ sym here.wire) in
    omega (arith, before)
  where
    before-at : (s : HasSource segs b) → IsAt segs b at → has_bit (seg_at segs at) b ≡ false → s.0 < at
    before-at s here not = elim (cases_eq s.0 at) [
      | inl same ↦ absurd (let t : true ≡ false = sym s.1.1 ∙ ap (λ x. has_bit (seg_at segs x) b) same ∙ not in cc)
      | inr ne ↦ let le = here.behind s.0 s.1.0 s.1.1 in omega (arith, le, ne)
    ]

pub at_older : (segs : List Seg) (newest older : List ℕ) (b : WireBit) (at next : ℕ) → IsLinked segs newest older (length segs) → HasSource segs b → IsAt segs b at → has_bit (seg_at segs at) b ≡ false
    → next ≡ slice_index older at - 1 → IsAt segs b next
at_older segs newest older b at next h s here not is =
    let some = older_some segs newest older b at h s here not in
    let then : slice_index older at ≡ suc next = omega (arith, some, is) in
    let within = h.older_within at here.within in
    record {
      within = let lt = here.within in omega (arith, within, then, lt);
      wire = h.older_own next at here.within then ∙ here.wire;
      behind = λ j lt has. elim (cases_eq j at) [
        | inl same ↦ absurd (let t : true ≡ false = sym has ∙ ap (λ x. has_bit (seg_at segs x) b) same ∙ not in cc)
        | inr ne ↦
            let le = here.behind j lt has in
            let q = h.older_above j at (omega (arith, le, ne)) here.within ((in-seg (seg_at segs j) b has).wire ∙ sym here.wire) in
            omega (arith, q, then)
      ];
    }

pub older_falls : (segs : List Seg) (newest older : List ℕ) (b : WireBit) (at next : ℕ) → IsLinked segs newest older (length segs) → HasSource segs b → IsAt segs b at → has_bit (seg_at segs at) b ≡ false
    → next ≡ slice_index older at - 1 → next < at
older_falls segs newest older b at next h s here not is =
    let some = older_some segs newest older b at h s here not in
    let within = h.older_within at here.within in
    omega (arith, some, is, within)

-- ---- one list of segments behind others

pub seg_here : (before segs behind : List Seg) (i n : ℕ) (s : Seg) → i < length segs → n ≡ length before + i → s ≡ get_or segs i (record { wire = 0; lo = 0; width = 0 }) → (seg_at (before ++ segs ++ behind) n).wire ≡ s.wire
seg_here before segs behind i n s lt at is =
    let none : Seg = record { wire = 0; lo = 0; width = 0 } in
    ap (λ k. (seg_at (before ++ segs ++ behind) k).wire) at
    ∙ ap (λ (x : Seg). x.wire) (get_or_append_left (before ++ segs) behind none (length before + i) (let l = length-append before segs in omega (arith, l, lt)) ∙ get_or-append-add before segs i none ∙ sym is)

pub link_next : (segs : List Seg) (wire n m : ℕ) (newest older newest' older' : List ℕ) → n ≡ length older → m ≡ length older' → IsLinked segs newest older n → IsLinked segs newest' older' (length older')
    → IsLinked segs newest' older' m
link_next segs wire n m newest older newest' older' a b h k = subst (IsLinked segs newest' older') (sym b) k

abbrev Links : List Seg → List ℕ → List ℕ → List ℕ → List ℕ → Type 0
Links part newest older newest' older' = (before behind : List Seg) → length before ≡ length older → IsLinked (before ++ part ++ behind) newest older (length older) → IsLinked (before ++ part ++ behind) newest' older' (length older')

-- those of equations and then the free ones
pub both_linked : (eqs free seen seen-2 : List Seg) (n0 o0 n1 o1 n2 o2 : List ℕ) → n0 ≡ [] → o0 ≡ [] → seen ≡ eqs → seen-2 ≡ free → length o1 ≡ length o0 + length seen → Links seen n0 o0 n1 o1
    → length o2 ≡ length o1 + length seen-2 → Links seen-2 n1 o1 n2 o2 → IsLinked (eqs ++ free) n2 o2 (length (eqs ++ free))
both_linked eqs free seen seen-2 n0 o0 n1 o1 n2 o2 n o is is-2 long h long-2 k =
    let none : length o0 ≡ 0 = ap length o in
    let same = ap length is in
    let same-2 = ap length is-2 in
    let as-many : length eqs ≡ length o1 = omega (arith, long, none, same) in
    let total = length-append eqs free in
    let start : IsLinked (eqs ++ free) n0 o0 (length o0) = subst (IsLinked (eqs ++ free) n0 o0) (sym none) (linked_none (eqs ++ free) n0 o0 n o) in
    let first : IsLinked (eqs ++ free) n1 o1 (length o1) = subst (λ s. IsLinked (s ++ free) n0 o0 (length o0) → IsLinked (s ++ free) n1 o1 (length o1)) is (h [] free (sym none)) start in
    let second : IsLinked (eqs ++ free) n2 o2 (length o2) =
    subst (λ s. IsLinked s n1 o1 (length o1) → IsLinked s n2 o2 (length o2)) (append-nil (eqs ++ free))
    (subst (λ s. IsLinked (eqs ++ s ++ []) n1 o1 (length o1) → IsLinked (eqs ++ s ++ []) n2 o2 (length o2)) is-2 (k eqs [] as-many)) first in
    subst (IsLinked (eqs ++ free) n2 o2) (omega (arith, long-2, as-many, same-2, total)) second
