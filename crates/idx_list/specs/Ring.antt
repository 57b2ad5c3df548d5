-- A ring of links through the numbers of a list and one more, the end.
use Rattle.std.specs.Prelude.{◌≡◌, ℕ, ◌-◌, ◌<◌, ◌≤◌, ◌⊎◌, ◌==◌, if◌then◌else◌, List, [], ◌∷◌, length, slice_index_or, slice_set}
use Rattle.std.proofs.Common.{zero, suc}
use Rattle.idx_list.specs.declared.list.Link.{Link}

abbrev pub to_zero : Link
to_zero = record { prev = 0; next = 0 }

unfoldable pub next_of : List Link → ℕ → ℕ
next_of links x = (slice_index_or links x to_zero).next

unfoldable pub prev_of : List Link → ℕ → ℕ
prev_of links x = (slice_index_or links x to_zero).prev

-- the numbers from one on to the end, by at most so many links
unfoldable pub walk : ℕ → List Link → ℕ → ℕ → List ℕ
walk zero links end at = []
walk (suc n) links end at = if at == end then [] else at ∷ walk n links end (next_of links at)

-- the number behind all others, at which the ring ends
abbrev pub end_of : List Link → ℕ
end_of links = length links - 1

-- the numbers in the ring
unfoldable pub items_of : List Link → List ℕ
items_of links = walk (end_of links) links (end_of links) (next_of links (end_of links))

-- ---- the ring as a relation

abbrev pub Has : List ℕ → ℕ → Type 0
Has [] x = ⊥
Has (y ∷ ys) x = (y ≡ x) ⊎ Has ys x

abbrev pub AreDistinct : List ℕ → Type 0
AreDistinct [] = Unit {0}
AreDistinct (x ∷ xs) = (¬ Has xs x) × AreDistinct xs

abbrev pub AreBelow : ℕ → List ℕ → Type 0
AreBelow n [] = Unit {0}
AreBelow n (x ∷ xs) = (x < n) × AreBelow n xs

-- links both ways from a through the numbers to b
abbrev pub Chain : (ℕ → ℕ) → (ℕ → ℕ) → ℕ → List ℕ → ℕ → Type 0
Chain next prev a [] b = (next a ≡ b) × (prev b ≡ a)
Chain next prev a (x ∷ xs) b = (next a ≡ x) × (prev x ≡ a) × Chain next prev x xs b

pub record IsRing (links : List Link) (items : List ℕ) : Type 0 where
  pub some : 1 ≤ length links
  pub chain : Chain (next_of links) (prev_of links) (end_of links) items (end_of links)
  pub distinct : AreDistinct items
  pub below : AreBelow (end_of links) items
  pub alone : (x : ℕ) → x < end_of links → ¬ Has items x → next_of links x ≡ x

-- with these two as neighbours
unfoldable pub linked : List Link → ℕ → ℕ → List Link
linked links before after =
    let half = slice_set links before (record { prev = prev_of links before; next = after }) in
    slice_set half after (record { prev = before; next = next_of half after })
