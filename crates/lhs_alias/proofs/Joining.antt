-- What one call of `join` or `canon` leaves and answers, over the row in vectors.
use Rattle.std.proofs.Common.{◌≡◌, ℕ, ◌<◌, ◌≤◌, ◌⊎◌, Bool, true, false, ◌&&◌, not, List, [], ◌∷◌, ◌++◌, length, get_or, map, replicate, refl, sym, ◌∙◌, ap, subst, inl, inr, arith}
use Rattle.std.specs.Prelude.{All, Any, Contains}
use Rattle.std.specs.List.{list_any, zip, range_with_len, AllZip}
use Rattle.std.proofs.lemmas.Bool.{cases_Bool, both_ways}
use Rattle.std.proofs.lemmas.List.{length-replicate}
use Rattle.std.proofs.lemmas.List.FromFn.{length-range_with_len}
use Rattle.std.proofs.lemmas.List.Elements.{All-head, All-tail, All-cons, All-nil, All-contains}
use Rattle.std.proofs.lemmas.Slice.Zip.{firsts-zip, seconds-zip}
use Rattle.lhs_alias.specs.declared.segs.Seg.{Seg}
use Rattle.lhs_alias.specs.declared.segs.WireBit.{WireBit}
use Rattle.lhs_alias.specs.Segs.{bit, lhs_bits}
use Rattle.lhs_alias.specs.Lies.{IsBitOf, LieIn}
use Rattle.lhs_alias.specs.Roots.{merged}
use Rattle.lhs_alias.specs.Pairs.{IsFirst, IsChild, Falls, AreDistinct}
use Rattle.lhs_alias.specs.Joined.{Kept, widths_of, all_bits, first_place, first_of, first_bit, is_joined, Stands, starts_of, place_in, HasPlace, IsLaid, is_marked, marked, are_free, all_merged}
use Rattle.lhs_alias.proofs.Lying.{lhs_bits-lie}
use Rattle.lhs_alias.proofs.Marks.{none-marked, some-marked, free-distinct, distinct-free, length-marked}
use Rattle.lhs_alias.proofs.Row.{places-of_bits, place_in-starts_of, all_bits-lie, place-own}
use Rattle.lhs_alias.proofs.Standing.{IsWide, stands-all, stands-none, is_marked-joined}
use Rattle.lhs_alias.proofs.Trees.{length-merged}

-- all of the first or of the second bits of pairs
All-firsts : (P : WireBit → Type 0) (pairs : List (WireBit × WireBit)) → All P (map (λ (pair : WireBit × WireBit). pair.0) pairs) → All (λ pair. P pair.0) pairs
All-firsts P [] all = All-nil (λ pair. P pair.0)
All-firsts P (pair ∷ pairs) all =
    let children = map (λ (q : WireBit × WireBit). q.0) pairs in
    All-cons (λ q. P q.0) pair pairs (All-head P pair.0 children all) (All-firsts P pairs (All-tail P pair.0 children all))

All-seconds : (P : WireBit → Type 0) (pairs : List (WireBit × WireBit)) → All P (map (λ (pair : WireBit × WireBit). pair.1) pairs) → All (λ pair. P pair.1) pairs
All-seconds P [] all = All-nil (λ pair. P pair.1)
All-seconds P (pair ∷ pairs) all =
    let parents = map (λ (q : WireBit × WireBit). q.1) pairs in
    All-cons (λ q. P q.1) pair pairs (All-head P pair.1 parents all) (All-seconds P pairs (All-tail P pair.1 parents all))

map-same : (f g : WireBit → WireBit) (bits : List WireBit) → All (λ b. f b ≡ g b) bits → map f bits ≡ map g bits
map-same f g [] all = refl
map-same f g (b ∷ bits) all =
    ap (λ x. x ∷ map f bits) (All-head (λ c. f c ≡ g c) b bits all) ∙ ap (λ xs. g b ∷ xs) (map-same f g bits (All-tail (λ c. f c ≡ g c) b bits all))

AllZip-mapped : (R : WireBit → WireBit → Type 0) (f : WireBit → WireBit) (bits : List WireBit) → All (λ b. R b (f b)) bits → AllZip R bits (map f bits)
AllZip-mapped R f [] all = tt
AllZip-mapped R f (b ∷ bits) all = (All-head (λ c. R c (f c)) b bits all, AllZip-mapped R f bits (All-tail (λ c. R c (f c)) b bits all))

length-all_merged : (starts : List ℕ) (pairs : List (WireBit × WireBit)) (firsts : List ℕ) → length (all_merged starts firsts pairs) ≡ length firsts
unfolding all_merged
length-all_merged starts [] firsts = refl
length-all_merged starts (pair ∷ pairs) firsts = length-all_merged starts pairs (merged firsts (place_in starts pair.0) (place_in starts pair.1)) ∙ length-merged firsts (place_in starts pair.0) (place_in starts pair.1)

pub laid-wide : (kept : Kept) (starts : List ℕ) (bits : List WireBit) → IsLaid kept.widths starts bits kept.firsts kept.joined → IsWide kept
laid-wide kept starts bits laid = record {
  firsts = laid.as_many_firsts ∙ ap length laid.row;
  joined = laid.as_many_joined ∙ ap length laid.row;
}

pub laid-after : (kept : Kept) (starts : List ℕ) (bits children : List WireBit) (pairs : List (WireBit × WireBit)) → IsLaid kept.widths starts bits kept.firsts kept.joined → IsLaid kept.widths starts bits (all_merged starts kept.firsts pairs) (marked starts true kept.joined children)
laid-after kept starts bits children pairs laid = record {
  narrow = laid.narrow;
  lowest = laid.lowest;
  row = laid.row;
  as_many_firsts = length-all_merged starts pairs kept.firsts ∙ laid.as_many_firsts;
  as_many_joined = length-marked starts true kept.joined children ∙ laid.as_many_joined;
}

pub laid-places : (kept : Kept) (starts : List ℕ) (bits : List WireBit) (segs : List Seg) (n : ℕ) → IsLaid kept.widths starts bits kept.firsts kept.joined → LieIn kept.widths segs → n ≡ length bits → All (HasPlace starts n) (lhs_bits segs)
laid-places kept starts bits segs n laid lie long =
    places-of_bits kept.widths starts (lhs_bits segs) n laid.lowest (long ∙ ap length laid.row) (lhs_bits-lie kept.widths segs lie)

-- the same, of what equals these
pub places-at : (kept now : Kept) (starts starts' : List ℕ) (bits : List WireBit) (segs segs' : List Seg) (n : ℕ) → kept ≡ now → IsLaid kept.widths starts bits kept.firsts kept.joined → LieIn (widths_of now) segs → segs' ≡ segs → starts' ≡ starts → n ≡ length bits → All (HasPlace starts' n) (lhs_bits segs')
places-at kept now starts starts' bits segs segs' n is laid lie same_segs same_starts long =
    let Lie : Kept → Type 0 = λ q. LieIn (widths_of q) segs in
    let P : List ℕ → List Seg → Type 0 = λ s t. All (HasPlace s n) (lhs_bits t) in
    subst (λ t. P starts' t) (sym same_segs) (subst (λ s. P s segs) (sym same_starts) (laid-places kept starts bits segs n laid (subst Lie (sym is) lie) long))

module _ (kept : Kept) (starts : List ℕ) (bits : List WireBit) (laid : IsLaid kept.widths starts bits kept.firsts kept.joined) (child : List Seg) (lie : LieIn kept.widths child) where
  children-lie : All (IsBitOf kept.widths) (lhs_bits child)
  children-lie = lhs_bits-lie kept.widths child lie

  children-places : All (HasPlace starts (length kept.joined)) (lhs_bits child)
  children-places = laid-places kept starts bits child (length kept.joined) laid lie laid.as_many_joined

  marked-joined : (b : WireBit) → IsBitOf kept.widths b → is_marked starts kept.joined b ≡ is_joined kept b
  marked-joined b is = ap (λ s. is_marked s kept.joined b) laid.lowest ∙ is_marked-joined kept b is

  pub joined-stands : (parent : List Seg) → LieIn kept.widths parent → length (lhs_bits child) ≡ length (lhs_bits parent) → All Falls (zip (lhs_bits child) (lhs_bits parent)) → are_free starts kept.joined (lhs_bits child) ≡ true → (pairs : List (WireBit × WireBit)) → Stands kept pairs → Stands (record { widths = kept.widths; firsts = all_merged starts kept.firsts (zip (lhs_bits child) (lhs_bits parent)); joined = marked starts true kept.joined (lhs_bits child) }) (pairs ++ zip (lhs_bits child) (lhs_bits parent))
  joined-stands parent lie' as_many falls free pairs stands =
      let widths = kept.widths in
      let children = lhs_bits child in
      let more = zip children (lhs_bits parent) in
      let firsts = firsts-zip children (lhs_bits parent) (sym as_many) in
      let seconds = seconds-zip children (lhs_bits parent) (sym as_many) in
      let Lie : List WireBit → Type 0 = All (IsBitOf widths) in
      let child_bits = All-firsts (IsBitOf widths) more (subst Lie (sym firsts) children-lie) in
      let parent_bits = All-seconds (IsBitOf widths) more (subst Lie (sym seconds) (lhs_bits-lie widths parent lie')) in
      let free' = ap (λ s. are_free s kept.joined (map (λ (q : WireBit × WireBit). q.0) more)) (sym laid.lowest) ∙ ap (λ bs. are_free starts kept.joined bs) firsts ∙ free in
      let P : List ℕ → List WireBit → Type 0 = λ s bs. Stands (record { widths = widths; firsts = all_merged s kept.firsts more; joined = marked s true kept.joined bs }) (pairs ++ more) in
      subst (λ s. P s children) (sym laid.lowest)
      (subst (λ bs. P (starts_of widths) bs) firsts
      (stands-all kept pairs more (laid-wide kept starts bits laid) stands child_bits parent_bits falls free'))

  pub joined-free : list_any (is_marked starts kept.joined) (lhs_bits child) ≡ false → (pairs : List (WireBit × WireBit)) → Stands kept pairs → All (λ b. ¬ IsChild pairs b) (lhs_bits child)
  joined-free none pairs stands k d h is =
      let b = get_or (lhs_bits child) k d in
      let lies = children-lie k d h in
      let unmarked = none-marked starts kept.joined (lhs_bits child) none k d h in
      both_ways (is_joined kept b) (sym (marked-joined b lies) ∙ unmarked) ((stands.joined b lies).1 is)

  pub joined-distinct : are_free starts kept.joined (lhs_bits child) ≡ true → AreDistinct (lhs_bits child)
  joined-distinct free = free-distinct starts kept.joined (lhs_bits child) children-places free

  pub joined-taken : (not (list_any (is_marked starts kept.joined) (lhs_bits child)) && are_free starts kept.joined (lhs_bits child)) ≡ false → (pairs : List (WireBit × WireBit)) → Stands kept pairs → Any (IsChild pairs) (lhs_bits child) ⊎ (¬ AreDistinct (lhs_bits child))
  joined-taken taken pairs stands =
      let children = lhs_bits child in
      let some = list_any (is_marked starts kept.joined) children in
      let P : WireBit → Type 0 = IsBitOf kept.widths in
      elim (cases_Bool some) [
        | inl is ↦
            let found = some-marked starts kept.joined children is in
            let lies = subst P found.3 (children-lie found.0 found.1 found.2) in
            inl (found.0, found.1, found.2, found.3, (stands.joined found.1 lies).0 (sym (marked-joined found.1 lies) ∙ found.4))
        | inr none ↦
            let not_free : are_free starts kept.joined children ≡ false = ap (λ t. not t && are_free starts kept.joined children) (sym none) ∙ taken in
            let place = λ (b : WireBit) (lies : IsBitOf kept.widths b). ap (λ s. place_in s b) laid.lowest ∙ place_in-starts_of kept.widths b lies.wire in
            let own = λ (b d : WireBit) (hb : Contains children b) (hd : Contains children d) (same : place_in starts b ≡ place_in starts d).
            let lies_b = All-contains P children b children-lie hb in
            let lies_d = All-contains P children d children-lie hd in
            place-own kept.widths b d lies_b lies_d (sym (place b lies_b) ∙ same ∙ place d lies_d) in
            inr (λ distinct. both_ways _ not_free (distinct-free starts kept.joined children own (none-marked starts kept.joined children none) distinct))
      ]

  -- ---- `canon`

  pub first_bit-of : (b : WireBit) → IsBitOf kept.widths b → first_bit bits starts kept.firsts b ≡ first_of kept b
  unfolding first_bit first_of first_place
  first_bit-of b is =
      ap (λ row. get_or row (get_or kept.firsts (place_in starts b) 0) (bit 0 0)) laid.row
      ∙ ap (λ p. get_or (all_bits kept.widths) (get_or kept.firsts p 0) (bit 0 0)) (ap (λ s. place_in s b) laid.lowest ∙ place_in-starts_of kept.widths b is.wire)

  pub firsts-of : map (first_bit bits starts kept.firsts) (lhs_bits child) ≡ map (first_of kept) (lhs_bits child)
  firsts-of = map-same (first_bit bits starts kept.firsts) (first_of kept) (lhs_bits child) (λ k d h. first_bit-of (get_or (lhs_bits child) k d) (children-lie k d h))

  pub firsts-stand : (pairs : List (WireBit × WireBit)) → Stands kept pairs → AllZip (IsFirst pairs) (lhs_bits child) (map (first_of kept) (lhs_bits child))
  firsts-stand pairs stands = AllZip-mapped (IsFirst pairs) (first_of kept) (lhs_bits child) (λ k d h. stands.first (get_or (lhs_bits child) k d) (children-lie k d h))

  pub known-lie : (firsts : List WireBit) → All (Contains bits) firsts → All (IsBitOf kept.widths) firsts
  known-lie firsts known k d h =
      let P : List WireBit → Type 0 = λ row. Contains row (get_or firsts k d) in
      All-contains (IsBitOf kept.widths) (all_bits kept.widths) (get_or firsts k d) (all_bits-lie kept.widths) (subst P laid.row (known k d h))

  pub known-narrow : (firsts : List WireBit) → All (Contains bits) firsts → All (λ b. b.at < 128) firsts
  known-narrow firsts known k d h =
      let lies = known-lie firsts known k d h in
      omega (arith, lies.place, laid.narrow (get_or firsts k d).wire 0 lies.wire)

-- ---- `new`

pub laid-new : (widths starts : List ℕ) (bits : List WireBit) (firsts : List ℕ) (joined : List Bool) → All (λ width. (1 ≤ width) × (width ≤ 128)) widths → starts ≡ starts_of widths → bits ≡ all_bits widths → firsts ≡ range_with_len 0 (length bits) → joined ≡ replicate (length bits) false → IsLaid widths starts bits firsts joined
laid-new widths starts bits firsts joined narrow lowest row first none = record {
  narrow = λ k d h. (narrow k d h).1;
  lowest = lowest;
  row = row;
  as_many_firsts = ap length first ∙ length-range_with_len 0 (length bits);
  as_many_joined = ap length none ∙ length-replicate (length bits) false;
}

pub stands-new : (widths : List ℕ) (bits : List WireBit) (firsts : List ℕ) (joined : List Bool) → bits ≡ all_bits widths → firsts ≡ range_with_len 0 (length bits) → joined ≡ replicate (length bits) false → Stands (record { widths = widths; firsts = firsts; joined = joined }) []
stands-new widths bits firsts joined row first none =
    stands-none (record { widths = widths; firsts = firsts; joined = joined })
    (first ∙ ap (λ r. range_with_len 0 (length r)) row) (none ∙ ap (λ (r : List WireBit). replicate (length r) false) row)
