-- Fields without the spaces and tabs at their ends.
use Rattle.std.proofs.Common.{◌≡◌, ℕ, List, [], ◌∷◌, ◌++◌, Some, None, get_or, refl, ap, true, false, map, zero, suc}
use Rattle.csv.specs.Records as csv
use Rattle.svtv_table.specs.Fields.{is_edge, before_edges, without_end, trimmed}

before_pushed : (b c : ℕ) (bs : List ℕ) → before_edges b (bs ++ c ∷ []) ≡ b ∷ (bs ++ c ∷ [])
before_pushed b c [] = refl
before_pushed b c (d ∷ ds) = refl

pub end_kept : (bs : List ℕ) (b : ℕ) → is_edge b ≡ false → without_end (bs ++ b ∷ []) ≡ bs ++ b ∷ []
end_kept [] b h = rw h refl
end_kept (c ∷ cs) b h = rw (end_kept cs b h) (before_pushed c b cs)

pub end_dropped : (bs : List ℕ) (b : ℕ) → is_edge b ≡ true → without_end (bs ++ b ∷ []) ≡ without_end bs
end_dropped [] b h = rw h refl
end_dropped (c ∷ cs) b h = rw (end_dropped cs b h) refl

-- a field of a record that was read
pub field_found : (fields : List (List ℕ)) (at : ℕ) (field : List ℕ) → csv.field_at fields at ≡ Some field → get_or (map trimmed fields) at [] ≡ trimmed field
unfolding csv.field_at
field_found [] at field h = cc
field_found (f ∷ fs) zero field h = ap trimmed (let e : f ≡ field = cc in e)
field_found (f ∷ fs) (suc at) field h = field_found fs at field h

pub field_past : (fields : List (List ℕ)) (at : ℕ) → csv.field_at fields at ≡ None → get_or (map trimmed fields) at [] ≡ []
unfolding csv.field_at
field_past [] at h = refl
field_past (f ∷ fs) zero h = cc
field_past (f ∷ fs) (suc at) h = field_past fs at h
