-- What an index keeps as its lists grow and shrink.
use Rattle.std.proofs.Common.{◌≡◌, ℕ, Result, Ok, Err, zero, suc, ◌<◌, ◌≤◌, inl, inr, List, [], ◌∷◌, ◌++◌, take, drop, length, replicate, refl, sym, ap, ◌∙◌, subst, arith}
use Rattle.std.proofs.lemmas.Bool.{cases_lt}
use Rattle.std.proofs.lemmas.List.{append-nil, drop_all, take_all, length_push, get_or_append_left, get_or_past, get_or-take, length-take-le}
use Rattle.std.specs.Prelude.{slice_index, OnErr}
use Rattle.hash_index.specs.declared.tree.Place.{Place}
use Rattle.hash_index.specs.declared.tree.Place.TheVariants.{Root, Low, High}
use Rattle.hash_index.specs.Tree.{link_at, IsRising, IsTree, IsLinked, IsKept}
use Rattle.hash_index.proofs.Trees.{tree_none, tree_same}

pub kept_linked : (hashes low high roots : List ℕ) → IsKept hashes low high roots → IsLinked (length hashes) hashes low high roots
kept_linked hashes low high roots k = record { low_room = omega (arith, k.low_len); high_room = omega (arith, k.high_len); tree = k.tree }

pub linked_kept : (n : ℕ) (hashes low high roots : List ℕ) → length hashes ≡ n → length low ≡ n → length high ≡ n → IsLinked n hashes low high roots → IsKept hashes low high roots
linked_kept n hashes low high roots is low_is high_is l = record {
  low_len = low_is ∙ sym is;
  high_len = high_is ∙ sym is;
  tree = subst (λ m. IsTree m (length roots) hashes (link_at low high roots)) (sym is) l.tree;
}

-- ---- no entry

none_at : (n k : ℕ) → slice_index (replicate n 0) k ≡ 0
none_at zero k = refl
none_at (suc n) zero = refl
none_at (suc n) (suc k) = none_at n k

pub linked_none : (hashes low high roots : List ℕ) (n m b : ℕ) → low ≡ replicate n 0 → high ≡ replicate m 0 → roots ≡ replicate b 0 → IsLinked 0 hashes low high roots
linked_none hashes low high roots n m b l h r = record {
  low_room = omega arith;
  high_room = omega arith;
  tree = tree_none (length roots) hashes (link_at low high roots) none;
}
  where
    none : (p : Place) → link_at low high roots p ≡ 0
    none (Root k) = ap (λ (xs : List ℕ). slice_index xs k) r ∙ none_at b k
    none (Low k) = ap (λ (xs : List ℕ). slice_index xs k) l ∙ none_at n k
    none (High k) = ap (λ (xs : List ℕ). slice_index xs k) h ∙ none_at m k

-- what stays where a call fails
pub on_err : {T E : Type 0} (r : Result T E) (P : Type 0) → P → OnErr r P
on_err (Ok x) P h = tt
on_err (Err y) P h = h

-- ---- a list that was changed as a slice

pub slice_back : {A : Type 0} → (n : ℕ) (new items was : List A) → n ≡ length items → length new ≡ length was → was ≡ items → take n (new ++ drop (length new) items) ≡ new
slice_back n new items was e same is =
    let l : length new ≡ length items = same ∙ ap length is in
    ap (λ r. take n (new ++ r)) (drop_all (length new) items (omega arith)) ∙ ap (take n) (append-nil new) ∙ take_all n new (omega arith)

-- ---- a place for one entry more

none_pushed : (xs : List ℕ) (k : ℕ) → slice_index (xs ++ 0 ∷ []) k ≡ slice_index xs k
none_pushed [] zero = refl
none_pushed [] (suc k) = refl
none_pushed (x ∷ xs) zero = refl
none_pushed (x ∷ xs) (suc k) = none_pushed xs k

links_pushed : (low high roots : List ℕ) (p : Place) → link_at (low ++ 0 ∷ []) (high ++ 0 ∷ []) roots p ≡ link_at low high roots p
links_pushed low high roots (Root b) = refl
links_pushed low high roots (Low k) = none_pushed low k
links_pushed low high roots (High k) = none_pushed high k

pub linked_pushed : (hashes low high roots : List ℕ) (hash : ℕ) → IsKept hashes low high roots → IsLinked (length hashes) (hashes ++ hash ∷ []) (low ++ 0 ∷ []) (high ++ 0 ∷ []) roots
linked_pushed hashes low high roots hash k = record {
  low_room = omega (arith, length_push low 0, k.low_len);
  high_room = omega (arith, length_push high 0, k.high_len);
  tree = tree_same (length hashes) (length roots) hashes (hashes ++ hash ∷ []) (link_at low high roots) (link_at (low ++ 0 ∷ []) (high ++ 0 ∷ []) roots)
      (links_pushed low high roots) (λ j l. get_or_append_left hashes (hash ∷ []) 0 j l) k.tree;
}

-- ---- places that no entry has

link_taken : (n : ℕ) (xs : List ℕ) (k : ℕ) → n ≤ length xs → slice_index xs k ≤ n → (0 < slice_index xs k → suc k < slice_index xs k) → slice_index (take n xs) k ≡ slice_index xs k
link_taken n xs k w within above = elim (cases_lt k n) [
  | inl l ↦ get_or-take n xs k 0 l
  | inr past ↦ elim (cases_lt 0 (slice_index xs k)) [
    | inl some ↦ absurd (omega (arith, above some))
    | inr none ↦ omega (arith, get_or_past (take n xs) k 0 (omega (arith, length-take-le n xs w)))
  ]
]

links_taken : (n : ℕ) (low high roots : List ℕ) → n ≤ length low → n ≤ length high → IsRising n (link_at low high roots) → (p : Place) → link_at (take n low) (take n high) roots p ≡ link_at low high roots p
links_taken n low high roots w v r (Root b) = refl
links_taken n low high roots w v r (Low k) = link_taken n low k w (r.within (Low k)) (r.above (Low k))
links_taken n low high roots w v r (High k) = link_taken n high k v (r.within (High k)) (r.above (High k))

pub kept_taken : (n : ℕ) (hashes low high roots : List ℕ) → n ≤ length hashes → IsLinked n hashes low high roots → IsKept (take n hashes) (take n low) (take n high) roots
kept_taken n hashes low high roots w l =
    let long : length (take n hashes) ≡ n = length-take-le n hashes w in
    record {
      low_len = length-take-le n low l.low_room ∙ sym long;
      high_len = length-take-le n high l.high_room ∙ sym long;
      tree = subst (λ m. IsTree m (length roots) (take n hashes) (link_at (take n low) (take n high) roots)) (sym long)
          (tree_same n (length roots) hashes (take n hashes) (link_at low high roots) (link_at (take n low) (take n high) roots)
          (links_taken n low high roots l.low_room l.high_room l.tree.rising) (λ k h. get_or-take n hashes k 0 h) l.tree);
    }
