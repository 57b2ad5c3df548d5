-- The records of a text are one list.
use Rattle.std.proofs.Common.{◌≡◌, ℕ, List, [], ◌∷◌, map, Option, Some, None, refl, sym, ◌∙◌, ap, subst}
use Rattle.csv.specs.Machine.{Read, next_record}
use Rattle.csv.specs.Reading.{Reached, default_config, strip_bom}
use Rattle.csv.specs.declared.parser.Config.{Config}
use Rattle.csv.specs.declared.parser.State.{State}
use Rattle.csv.specs.declared.parser.State.TheVariants as start
use Rattle.svtv_table.specs.Fields.{IsRecords, trimmed}

abbrev Fields : Type 0
Fields = List (List ℕ)

-- where no record is left, none is read
ended : (cfg : Config) (s t : State) (xs ys : List ℕ) (p : Read) → s ≡ t → xs ≡ ys → next_record cfg t [] [] ys ≡ None → next_record cfg s [] [] xs ≡ Some p → ⊥
ended cfg s t xs ys p e f none some = let bad : Some p ≡ None = sym some ∙ (λ i. next_record cfg (e i) [] [] (f i)) ∙ none in cc

one_next : (o : Option Read) (p q : Read) → o ≡ Some p → o ≡ Some q → p ≡ q
one_next o p q e f = let same : Some p ≡ Some q = sym e ∙ f in cc

one_reading : (cfg : Config) (rs os : List Fields) (s t u : State) (xs ys zs : List ℕ) → Reached cfg s xs rs t ys → next_record cfg t [] [] ys ≡ None
    → Reached cfg s xs os u zs → next_record cfg u [] [] zs ≡ None → rs ≡ os
unfolding Reached
one_reading cfg [] [] s t u xs ys zs h m k n = refl
one_reading cfg [] (o ∷ os) s t u xs ys zs h m k n = absurd (ended cfg s t xs ys k.0 h.0 h.1 m k.1)
one_reading cfg (r ∷ rs) [] s t u xs ys zs h m k n = absurd (ended cfg s u xs zs h.0 k.0 k.1 n h.1)
one_reading cfg (r ∷ rs) (o ∷ os) s t u xs ys zs h m k n =
    let e : h.0 ≡ k.0 = one_next (next_record cfg s [] [] xs) h.0 k.0 h.1 k.1 in
    let first : r ≡ o = h.2 ∙ ap (λ (x : Read). x.0) e ∙ sym k.2 in
    let others = subst (λ (x : Read). Reached cfg x.1 x.2 os u zs) (sym e) k.3 in
    let rest = one_reading cfg rs os h.0.1 t u h.0.2 ys zs h.3 m others n in
    λ i. first i ∷ rest i

pub one_records : (text : List ℕ) (a b : List Fields) → IsRecords text a → IsRecords text b → a ≡ b
one_records text a b h k =
    let e : h.0 ≡ k.0 = one_reading default_config h.0 k.0 start.StartRecord h.1.0 k.1.0 (strip_bom text) h.1.1 k.1.1 h.1.2 h.1.3 k.1.2 k.1.3 in
    h.2 ∙ ap (λ (rows : List Fields). map (map trimmed) rows) e ∙ sym k.2
