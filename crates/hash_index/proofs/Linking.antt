-- Trees in lists.
use Rattle.std.proofs.Common.{◌≡◌, ℕ, suc, ◌+◌, ◌%◌, ◌<◌, inl, inr, List, length, refl, sym, ap, subst, arith}
use Rattle.std.proofs.lemmas.Bool.{cases_lt}
use Rattle.std.proofs.lemmas.List.{get_or-set_same, get_or-set_other, get_or_past}
use Rattle.std.specs.Prelude.{slice_index, slice_set}
use Rattle.hash_index.specs.declared.tree.Place.{Place}
use Rattle.hash_index.specs.declared.tree.Place.TheVariants.{Root, Low, High}
use Rattle.hash_index.specs.Tree.{link_at, Reaches, IsRising, IsTree, IsLinked, Puts, IsEnd}
use Rattle.hash_index.proofs.Ways.{none_reached, rising_wider, way_ends}
use Rattle.hash_index.proofs.Trees.{tree_more, tree_less}

-- ---- one link written

pub root_put : (low high roots : List ℕ) (b link : ℕ) → b < length roots → Puts (link_at low high roots) (link_at low high (slice_set roots b link)) (Root b) link
root_put low high roots b link l = record { here = get_or-set_same roots b link 0 l; others = stay }
  where
    stay : (p : Place) → (p ≡ Root b → ⊥) → link_at low high (slice_set roots b link) p ≡ link_at low high roots p
    stay (Root a) ne = get_or-set_other roots b a link 0 (λ (e : a ≡ b). ne (ap (λ (k : ℕ). Root k) e))
    stay (Low k) ne = refl
    stay (High k) ne = refl

pub low_put : (low high roots : List ℕ) (k link : ℕ) → k < length low → Puts (link_at low high roots) (link_at (slice_set low k link) high roots) (Low k) link
low_put low high roots k link l = record { here = get_or-set_same low k link 0 l; others = stay }
  where
    stay : (p : Place) → (p ≡ Low k → ⊥) → link_at (slice_set low k link) high roots p ≡ link_at low high roots p
    stay (Root b) ne = refl
    stay (Low j) ne = get_or-set_other low k j link 0 (λ (e : j ≡ k). ne (ap (λ (i : ℕ). Low i) e))
    stay (High j) ne = refl

pub high_put : (low high roots : List ℕ) (k link : ℕ) → k < length high → Puts (link_at low high roots) (link_at low (slice_set high k link) roots) (High k) link
high_put low high roots k link l = record { here = get_or-set_same high k link 0 l; others = stay }
  where
    stay : (p : Place) → (p ≡ High k → ⊥) → link_at low (slice_set high k link) roots p ≡ link_at low high roots p
    stay (Root b) ne = refl
    stay (Low j) ne = refl
    stay (High j) ne = get_or-set_other high k j link 0 (λ (e : j ≡ k). ne (ap (λ (i : ℕ). High i) e))

-- ---- entries that come and go

pub linked_rising : (n : ℕ) (hashes low high roots : List ℕ) → IsLinked n hashes low high roots → IsRising (length low) (link_at low high roots)
linked_rising n hashes low high roots l = rising_wider n (length low) (link_at low high roots) l.low_room l.tree.rising

pub linked_ends : (n : ℕ) (hashes low high roots : List ℕ) (hash : ℕ) → IsLinked n hashes low high roots → Reaches (link_at low high roots) hash (slice_index roots (hash % length roots)) 0
linked_ends n hashes low high roots hash l =
    let links = link_at low high roots in
    way_ends n links l.tree.rising (suc n) hash (links (Root (hash % length roots))) (l.tree.rising.within (Root (hash % length roots))) (omega arith)

pub linked_more : (n : ℕ) (hashes low high roots low' high' roots' : List ℕ) (hash : ℕ) (place : Place) → hash ≡ slice_index hashes n → n < length low → length high ≡ length low →
    length low' ≡ length low → length high' ≡ length high → length roots' ≡ length roots →
    IsEnd (length low) (link_at low high roots) hash (Root (hash % length roots)) 0 place → Puts (link_at low high roots) (link_at low' high' roots') place (n + 1) →
    IsLinked n hashes low high roots → IsLinked (n + 1) hashes low' high' roots'
linked_more n hashes low high roots low' high' roots' hash place is room pairs low_same high_same roots_same end puts l = record {
  low_room = omega arith;
  high_room = omega arith;
  tree = subst (λ m. IsTree (n + 1) m hashes (link_at low' high' roots')) (sym roots_same)
      (tree_more n (length low) (length roots) hashes (link_at low high roots) (link_at low' high' roots') hash place is end puts l.tree);
}

pub linked_less : (n : ℕ) (hashes low high roots low' high' roots' : List ℕ) (hash : ℕ) (place : Place) → length low' ≡ length low → length high' ≡ length high → length roots' ≡ length roots →
    IsEnd (length low) (link_at low high roots) hash (Root (hash % length roots)) (n + 1) place → Puts (link_at low high roots) (link_at low' high' roots') place 0 →
    IsLinked (n + 1) hashes low high roots → IsLinked n hashes low' high' roots'
linked_less n hashes low high roots low' high' roots' hash place low_same high_same roots_same end puts l = record {
  low_room = omega (arith, l.low_room);
  high_room = omega (arith, l.high_room);
  tree = subst (λ m. IsTree n m hashes (link_at low' high' roots')) (sym roots_same)
      (tree_less n (length roots) hashes (link_at low high roots) (link_at low' high' roots') place end.link puts l.tree);
}

-- where an entry is linked there is a bucket
pub some_bucket : (n : ℕ) (hashes low high roots : List ℕ) → IsLinked (n + 1) hashes low high roots → 0 < length roots
some_bucket n hashes low high roots l = elim (cases_lt 0 (length roots)) [
  | inl some ↦ some
  | inr none ↦
      let hash = slice_index hashes n in
      absurd (none_reached (link_at low high roots) hash (slice_index roots (hash % length roots)) n (get_or_past roots (hash % length roots) 0 (omega arith)) (l.tree.reached n (omega arith)))
]
