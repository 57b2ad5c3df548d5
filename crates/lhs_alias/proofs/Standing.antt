-- The joins that stand, and one more.
use Rattle.std.proofs.Common.{◌≡◌, ◌≢◌, ℕ, ◌<◌, ◌≤◌, ◌↔◌, true, false, not, cond, eqb, List, [], ◌∷◌, ◌++◌, length, get_or, set, map, replicate, refl, sym, ◌∙◌, ap, subst, inl, inr, arith, append_assoc, zero-add}
use Rattle.std.specs.Prelude.{All, Contains, IsTrue}
use Rattle.std.specs.List.{range_with_len}
use Rattle.std.proofs.lemmas.Bool.{cases_eq, cond-true, cond-false, eq-eqb, ne_eqb, both_ways, and_parts, not-true}
use Rattle.std.proofs.lemmas.List.{length-set, get_or-set_same, get_or-set_other, map_push, length-map, append-nil, get_or-replicate, get_or_default}
use Rattle.std.proofs.lemmas.List.FromFn.{get_or-range_with_len}
use Rattle.std.proofs.lemmas.List.Elements.{All-head, All-tail, All-nil, All-push, All-contains, Contains-push, Contains-push_cases, Contains-append_left}
use Rattle.std.proofs.lemmas.List.Quantifiers.{all_pairs_push}
use Rattle.lhs_alias.specs.declared.segs.WireBit.{WireBit}
use Rattle.lhs_alias.specs.Segs.{bit}
use Rattle.lhs_alias.specs.Lies.{IsBitOf}
use Rattle.lhs_alias.specs.Roots.{merged}
use Rattle.lhs_alias.specs.Pairs.{Linked, itself, up, IsFirst, IsChild, Falls, AreDistinct}
use Rattle.lhs_alias.specs.Joined.{Kept, all_bits, place_of, first_place, first_of, is_joined, Stands, starts_of, place_in, is_marked, marked, are_free, all_merged}
use Rattle.lhs_alias.proofs.Chains.{linked-trans, linked-sym, linked-more, linked-same, linked-keeps, stands-child}
use Rattle.lhs_alias.proofs.Row.{place-below, bit-at_place, place-own, place_in-starts_of}
use Rattle.lhs_alias.proofs.Trees.{length-merged, get_or-merged}

-- what is kept after one more join
pub step : Kept → WireBit → WireBit → Kept
step kept c p = record {
  widths = kept.widths;
  firsts = merged kept.firsts (place_of kept.widths c) (place_of kept.widths p);
  joined = set kept.joined (place_of kept.widths c) true;
}

pub record IsWide (kept : Kept) : Type 0 where
  pub firsts : length kept.firsts ≡ length (all_bits kept.widths)
  pub joined : length kept.joined ≡ length (all_bits kept.widths)

module _ (kept : Kept) (pairs : List (WireBit × WireBit)) (wide : IsWide kept) (stands : Stands kept pairs) (c p : WireBit) (child : IsBitOf kept.widths c) (parent : IsBitOf kept.widths p) (falls : p.wire < c.wire) (free : is_joined kept c ≡ false) where
  new_pairs : List (WireBit × WireBit)
  new_pairs = pairs ++ (c, p) ∷ []

  lift : {x y : WireBit} → Linked pairs x y → Linked new_pairs x y
  unfolding new_pairs
  lift = linked-more pairs ((c, p) ∷ [])

  climbs : Linked new_pairs c p
  unfolding new_pairs
  climbs = up (Contains-push pairs (c, p)) itself

  not_child : ¬ IsChild pairs c
  not_child is = both_ways (is_joined kept c) free ((stands.joined c child).1 is)

  -- where a bit's first bit is afterwards
  place-after : (b : WireBit) → IsBitOf kept.widths b → first_place (step kept c p) b ≡ cond (eqb (first_place kept b) (first_place kept c)) (first_place kept p) (first_place kept b)
  unfolding first_place step
  place-after b is = get_or-merged kept.firsts (place_of kept.widths c) (place_of kept.widths p) (place_of kept.widths b) (omega (arith, place-below kept.widths b is, wide.firsts))

  moved : (b : WireBit) → IsBitOf kept.widths b → first_place kept b ≡ first_place kept c → first_place (step kept c p) b ≡ first_place kept p
  moved b is in_class = place-after b is ∙ cond-true (eqb (first_place kept b) (first_place kept c)) _ _ (eq-eqb _ _ in_class)

  stayed : (b : WireBit) → IsBitOf kept.widths b → first_place kept b ≢ first_place kept c → first_place (step kept c p) b ≡ first_place kept b
  stayed b is apart = place-after b is ∙ cond-false (eqb (first_place kept b) (first_place kept c)) _ _ (ne_eqb _ _ apart)

  pairs-lie : (x y : WireBit) → Contains new_pairs (x, y) → IsBitOf kept.widths x × IsBitOf kept.widths y
  unfolding new_pairs
  pairs-lie x y h = elim (Contains-push_cases pairs (c, p) (x, y) h) [
    | inl old ↦ (All-contains (λ pair. IsBitOf kept.widths pair.0) pairs (x, y) stands.child_bits old, All-contains (λ pair. IsBitOf kept.widths pair.1) pairs (x, y) stands.parent_bits old)
    | inr is ↦
        let P : WireBit → Type 0 = IsBitOf kept.widths in
        (subst P (ap (λ (q : WireBit × WireBit). q.0) is) child, subst P (ap (λ (q : WireBit × WireBit). q.1) is) parent)
  ]

  -- a bit whose old first place is the new one of b
  reached : (b : WireBit) → IsBitOf kept.widths b → (r : WireBit) × IsBitOf kept.widths r × Linked new_pairs b r × (first_place kept r ≡ first_place (step kept c p) b)
  reached b is = elim (cases_eq (first_place kept b) (first_place kept c)) [
    | inl in_class ↦ (p, parent, linked-trans new_pairs (lift ((stands.classes b c is child).0 in_class)) climbs, sym (moved b is in_class))
    | inr apart ↦ (b, is, itself, sym (stayed b is apart))
  ]

  -- the bits of a pair are of one class afterwards
  agree : (x y : WireBit) → Contains new_pairs (x, y) → first_place (step kept c p) x ≡ first_place (step kept c p) y
  unfolding new_pairs
  agree x y h = elim (Contains-push_cases pairs (c, p) (x, y) h) [
    | inl old ↦
        let lie = pairs-lie x y h in
        place-after x lie.0
        ∙ ap (λ z. cond (eqb z (first_place kept c)) (first_place kept p) z) ((stands.classes x y lie.0 lie.1).1 (up old itself))
        ∙ sym (place-after y lie.1)
    | inr is ↦
        let after = first_place (step kept c p) in
        let parent_stays : after p ≡ first_place kept p = elim (cases_eq (first_place kept p) (first_place kept c)) [
          | inl in_class ↦ moved p parent in_class
          | inr apart ↦ stayed p parent apart
        ] in
        ap (λ z. after z) (sym (ap (λ (q : WireBit × WireBit). q.0) is))
        ∙ moved c child refl ∙ sym parent_stays
        ∙ ap (λ z. after z) (ap (λ (q : WireBit × WireBit). q.1) is)
  ]

  classes-after : (b d : WireBit) → IsBitOf kept.widths b → IsBitOf kept.widths d → (first_place (step kept c p) b ≡ first_place (step kept c p) d) ↔ Linked new_pairs b d
  classes-after b d hb hd =
      let at_b = reached b hb in
      let at_d = reached d hd in (
        λ same.
            let within = (stands.classes at_b.0 at_d.0 at_b.1 at_d.1).0 (at_b.3 ∙ same ∙ sym at_d.3) in
            linked-trans new_pairs at_b.2 (linked-trans new_pairs (lift within) (linked-sym new_pairs at_d.2)),
        linked-same (first_place (step kept c p)) new_pairs agree,
      )

  child_first : first_of kept c ≡ c
  unfolding first_of
  child_first = ap (λ k. get_or (all_bits kept.widths) k (bit 0 0)) (stands.alone c child not_child) ∙ bit-at_place kept.widths c (bit 0 0) child

  first-after : (b : WireBit) → IsBitOf kept.widths b → IsFirst new_pairs b (first_of (step kept c p) b)
  unfolding first_of step
  first-after b is =
      let at_b = reached b is in
      let r = at_b.0 in
      let row = λ (k : ℕ). get_or (all_bits kept.widths) k (bit 0 0) in
      let first_r = stands.first r at_b.1 in
      let P : WireBit → Type 0 = IsFirst new_pairs b in
      subst P (ap row at_b.3) (record {
        linked = linked-trans new_pairs at_b.2 (lift first_r.linked);
        least = λ x link.
            let lies = linked-keeps (IsBitOf kept.widths) new_pairs pairs-lie link is in
            let same : first_place kept r ≡ first_place (step kept c p) x = at_b.3 ∙ linked-same (first_place (step kept c p)) new_pairs agree link in
            elim (cases_eq (first_place kept x) (first_place kept c)) [
              | inl in_class ↦
                  let to_parent : row (first_place kept r) ≡ row (first_place kept p) = ap row (same ∙ moved x lies in_class) in
                  let below_parent : (row (first_place kept p)).wire ≤ p.wire = (stands.first p parent).least p itself in
                  let above_child : (first_of kept c).wire ≤ x.wire = (stands.first c child).least x ((stands.classes c x child lies).0 (sym in_class)) in
                  omega (arith, ap (λ y. y.wire) to_parent, below_parent, above_child, ap (λ y. y.wire) child_first)
              | inr apart ↦ first_r.least x ((stands.classes r x at_b.1 lies).0 (same ∙ stayed x lies apart))
            ];
      })

  joined-after : (b : WireBit) → IsBitOf kept.widths b → IsTrue (is_joined (step kept c p) b) ↔ IsChild new_pairs b
  unfolding is_joined step new_pairs
  joined-after b is =
      let at = place_of kept.widths in
      elim (cases_eq (at b) (at c)) [
        | inl same ↦
            let marks : get_or (set kept.joined (at c) true) (at b) false ≡ true =
            ap (λ k. get_or (set kept.joined (at c) true) k false) same ∙ get_or-set_same kept.joined (at c) true false (omega (arith, place-below kept.widths c child, wide.joined)) in
            let P : WireBit → Type 0 = IsChild (pairs ++ (c, p) ∷ []) in
            (λ _. subst P (sym (place-own kept.widths b c is child same)) (p, Contains-push pairs (c, p)), λ _. marks)
        | inr other ↦
            let stays : get_or (set kept.joined (at c) true) (at b) false ≡ get_or kept.joined (at b) false = get_or-set_other kept.joined (at c) (at b) true false other in
            let old = stands.joined b is in (
              λ marks. let was = old.0 (sym stays ∙ marks) in (was.0, Contains-append_left pairs ((c, p) ∷ []) (b, was.0) was.1),
              λ now. stays ∙ elim (Contains-push_cases pairs (c, p) (b, now.0) now.1) [
                | inl before ↦ old.1 (now.0, before)
                | inr new ↦ absurd (other (ap at (sym (ap (λ (q : WireBit × WireBit). q.0) new))))
              ],
            )
      ]

  alone-after : (b : WireBit) → IsBitOf kept.widths b → ¬ IsChild new_pairs b → first_place (step kept c p) b ≡ place_of kept.widths b
  unfolding new_pairs
  alone-after b is alone =
      let at = place_of kept.widths in
      let before : first_place kept b ≡ at b = stands.alone b is (λ was. alone (was.0, Contains-append_left pairs ((c, p) ∷ []) (b, was.0) was.1)) in
      let apart : first_place kept b ≢ first_place kept c = λ same.
      let one : b ≡ c = place-own kept.widths b c is child (sym before ∙ same ∙ stands.alone c child not_child) in
      let P : WireBit → Type 0 = IsChild (pairs ++ (c, p) ∷ []) in
      alone (subst P (sym one) (p, Contains-push pairs (c, p))) in
      stayed b is apart ∙ before

  pub stands-one : Stands (step kept c p) (pairs ++ (c, p) ∷ [])
  unfolding step new_pairs
  stands-one = record {
    child_bits = All-push (λ pair. IsBitOf kept.widths pair.0) pairs (c, p) stands.child_bits child;
    parent_bits = All-push (λ pair. IsBitOf kept.widths pair.1) pairs (c, p) stands.parent_bits parent;
    falls = All-push Falls pairs (c, p) stands.falls falls;
    own_children =
        let children = map (λ (pair : WireBit × WireBit). pair.0) pairs in
        let P : List WireBit → Type 0 = AreDistinct in
        subst P (sym (map_push (λ (pair : WireBit × WireBit). pair.0) pairs (c, p)))
        (all_pairs_push ◌≢◌ children c stands.own_children
        (λ k d h is.
        let within : k < length pairs = omega (arith, length-map pairs (λ (pair : WireBit × WireBit). pair.0)) in
        not_child (stands-child pairs c k within (get_or_default children k c d h ∙ is))));
    classes = classes-after;
    first = first-after;
    joined = joined-after;
    alone = alone-after;
  }

-- no joins
pub stands-none : (kept : Kept) → kept.firsts ≡ range_with_len 0 (length (all_bits kept.widths)) → kept.joined ≡ replicate (length (all_bits kept.widths)) false → Stands kept []
unfolding first_place first_of is_joined
stands-none kept firsts joined =
    let row = all_bits kept.widths in
    let at = place_of kept.widths in
    let none : (x : WireBit × WireBit) → ¬ Contains [] x = λ x h. absurd (omega (arith, h.1)) in
    let itself_first : (b : WireBit) → IsBitOf kept.widths b → get_or kept.firsts (at b) 0 ≡ at b = λ b is.
    ap (λ s. get_or s (at b) 0) firsts ∙ get_or-range_with_len 0 (length row) (at b) 0 (place-below kept.widths b is) ∙ zero-add (at b) in
    record {
      child_bits = All-nil (λ pair. IsBitOf kept.widths pair.0);
      parent_bits = All-nil (λ pair. IsBitOf kept.widths pair.1);
      falls = All-nil Falls;
      own_children = λ i j d lt h. absurd (omega arith);
      classes = λ b d hb hd. (
        λ same.
            let P : WireBit → Type 0 = Linked [] b in
            subst P (place-own kept.widths b d hb hd (sym (itself_first b hb) ∙ same ∙ itself_first d hd)) itself,
        linked-same (λ x. get_or kept.firsts (at x) 0) [] (λ x y h. absurd (none (x, y) h)),
      );
      first = λ b is.
          let is_b : get_or row (get_or kept.firsts (at b) 0) (bit 0 0) ≡ b = ap (λ k. get_or row k (bit 0 0)) (itself_first b is) ∙ bit-at_place kept.widths b (bit 0 0) is in
          let P : WireBit → Type 0 = IsFirst [] b in
          subst P (sym is_b) (record {
            linked = itself;
            least = λ x link. let same = linked-same (λ y. y.wire) [] (λ y z h. absurd (none (y, z) h)) link in omega (arith, same);
          });
      joined = λ b is.
          let unmarked : get_or kept.joined (at b) false ≡ false = ap (λ s. get_or s (at b) false) joined ∙ get_or-replicate (length row) (at b) false false (place-below kept.widths b is) in
          (λ marks. absurd (both_ways _ unmarked marks), λ child. absurd (none (b, child.0) child.1));
      alone = λ b is alone. itself_first b is;
    }

pub is_marked-joined : (kept : Kept) (b : WireBit) → IsBitOf kept.widths b → is_marked (starts_of kept.widths) kept.joined b ≡ is_joined kept b
unfolding is_marked is_joined
is_marked-joined kept b is = ap (λ k. get_or kept.joined k false) (place_in-starts_of kept.widths b is.wire)

-- many more joins
pub stands-all : (kept : Kept) (pairs more : List (WireBit × WireBit)) → IsWide kept → Stands kept pairs → All (λ pair. IsBitOf kept.widths pair.0) more → All (λ pair. IsBitOf kept.widths pair.1) more → All Falls more → are_free (starts_of kept.widths) kept.joined (map (λ pair. pair.0) more) ≡ true → Stands (record { widths = kept.widths; firsts = all_merged (starts_of kept.widths) kept.firsts more; joined = marked (starts_of kept.widths) true kept.joined (map (λ pair. pair.0) more) }) (pairs ++ more)
unfolding all_merged marked are_free step
stands-all kept pairs [] wide stands children parents falls free =
    let P : List (WireBit × WireBit) → Type 0 = Stands kept in
    subst P (sym (append-nil pairs)) stands
stands-all kept pairs (pair ∷ more) wide stands children parents falls free =
    let widths = kept.widths in
    let starts = starts_of widths in
    let lies = λ (q : WireBit × WireBit). IsBitOf widths q.0 in
    let lies' = λ (q : WireBit × WireBit). IsBitOf widths q.1 in
    let child = All-head lies pair more children in
    let parent = All-head lies' pair more parents in
    let at_child = place_in-starts_of widths pair.0 child.wire in
    let at_parent = place_in-starts_of widths pair.1 parent.wire in
    let parts = and_parts (not (is_marked starts kept.joined pair.0)) _ free in
    let unjoined : is_joined kept pair.0 ≡ false = sym (is_marked-joined kept pair.0 child) ∙ not-true _ parts.0 in
    let kept' = step kept pair.0 pair.1 in
    let stands' = stands-one kept pairs wide stands pair.0 pair.1 child parent (All-head Falls pair more falls) unjoined in
    let wide' : IsWide kept' = record {
      firsts = length-merged kept.firsts (place_of widths pair.0) (place_of widths pair.1) ∙ wide.firsts;
      joined = length-set kept.joined (place_of widths pair.0) true ∙ wide.joined;
    } in
    let free' = ap (λ i. are_free starts (set kept.joined i true) (map (λ (q : WireBit × WireBit). q.0) more)) (sym at_child) ∙ parts.1 in
    let rest = stands-all kept' (pairs ++ pair ∷ []) more wide' stands' (All-tail lies pair more children) (All-tail lies' pair more parents) (All-tail Falls pair more falls) free' in
    let P : ℕ → ℕ → List (WireBit × WireBit) → Type 0 = λ i j all. Stands (record { widths = widths; firsts = all_merged starts (merged kept.firsts i j) more; joined = marked starts true (set kept.joined i true) (map (λ (q : WireBit × WireBit). q.0) more) }) all in
    subst (λ i. P i (place_in starts pair.1) (pairs ++ pair ∷ more)) (sym at_child)
    (subst (λ j. P (place_of widths pair.0) j (pairs ++ pair ∷ more)) (sym at_parent)
    (subst (λ all. P (place_of widths pair.0) (place_of widths pair.1) all) (append_assoc pairs (pair ∷ []) more) rest))
