-- A table of which the front entries are read, whose first entry and rest are read by a pattern.
use Rattle.std.proofs.Common.{◌≡◌, ℕ, ◌-◌, ◌≤◌, ◌<◌, List, [], ◌∷◌, true, false, Option, Some, None, refl, sym, ◌∙◌, ap, arith, length, map, take, drop, get_or}
use denote.Ref.{Bor}
use Rattle.std.specs.Str.{bytes_eq}
use Rattle.std.proofs.lemmas.List.{take_all}
use Rattle.sv_cursor.specs.Sorts.{entry}

module _ {K : Type 0} (d : Bor (List ℕ) × K) (text : List ℕ) (found : Option K) where
  abbrev pub shown : List (Bor (List ℕ) × K) → List (List ℕ × K)
  shown table = map (λ e. (e.0.now, e.1)) table

  pub entry_more : (table : List (Bor (List ℕ) × K)) → 1 ≤ length table → bytes_eq (get_or table 0 d).0.now text ≡ false → entry (shown table) text ≡ found
      → entry (shown (take (length table - 1) (drop 1 table))) text ≡ found
  entry_more [] l e h = absurd (omega (arith, l))
  entry_more (k ∷ ks) l e h =
      let rest : take (length (k ∷ ks) - 1) ks ≡ ks = take_all (length (k ∷ ks) - 1) ks (omega arith) in
      let goes : entry (shown (k ∷ ks)) text ≡ entry (shown ks) text = rw e refl in
      ap (λ t. entry (shown t) text) rest ∙ sym goes ∙ h

  pub entry_found : (table : List (Bor (List ℕ) × K)) → 1 ≤ length table → bytes_eq (get_or table 0 d).0.now text ≡ true → entry (shown table) text ≡ found → Some (get_or table 0 d).1 ≡ found
  entry_found [] l e h = absurd (omega (arith, l))
  entry_found (k ∷ ks) l e h = let here : entry (shown (k ∷ ks)) text ≡ Some k.1 = rw e refl in sym here ∙ h

pub entry_none : {K : Type 0} (text : List ℕ) (found : Option K) (table : List (Bor (List ℕ) × K)) → length table < 1 → entry (map (λ e. (e.0.now, e.1)) table) text ≡ found → None ≡ found
entry_none text found [] l h = h
entry_none text found (k ∷ ks) l h = absurd (omega (arith, l))
