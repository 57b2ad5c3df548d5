-- Places of wires as a list by the numbers of the wires.
use Rattle.std.proofs.Common.{◌≡◌, ◌≢◌, ℕ, zero, suc, List, [], ◌∷◌, Option, Some, None, true, false, cond, get_or, refl, sym, ap, ◌∙◌, ◌⊎◌, inl, inr, arith}
use Rattle.std.proofs.lemmas.Bool.{cases_eq}
use Rattle.std.specs.Map.{lookup}
use Rattle.std.specs.Ordering.{nat_cmp, is_eq}
use Rattle.std.specs.BTreeMap.{is_at}
use Rattle.wire_places.specs.Laying.{with_place, laid}

put_here : (n p : ℕ) (xs : List (Option ℕ)) → get_or (with_place n p xs) n None ≡ Some p
unfolding with_place
put_here zero p [] = refl
put_here zero p (x ∷ xs) = refl
put_here (suc n) p [] = put_here n p []
put_here (suc n) p (x ∷ xs) = put_here n p xs

put_apart : (n p : ℕ) (xs : List (Option ℕ)) (q : ℕ) → q ≢ n → get_or (with_place n p xs) q None ≡ get_or xs q None
unfolding with_place
put_apart zero p xs zero h = absurd (h refl)
put_apart zero p [] (suc q) h = refl
put_apart zero p (x ∷ xs) (suc q) h = refl
put_apart (suc n) p [] zero h = refl
put_apart (suc n) p [] (suc q) h = put_apart n p [] q (λ e. h (ap suc e))
put_apart (suc n) p (x ∷ xs) zero h = refl
put_apart (suc n) p (x ∷ xs) (suc q) h = put_apart n p xs q (λ e. h (ap suc e))

same_number : (q : ℕ) → is_eq (nat_cmp q q) ≡ true
same_number q = grind (arith)

other_number : (q n : ℕ) → q ≢ n → is_eq (nat_cmp q n) ≡ false
other_number q n h = grind (arith)

-- what the list has at a number is what the pairs have
pub laid_at : (es : List (ℕ × ℕ)) (q : ℕ) → get_or (laid es) q None ≡ lookup (is_at (nat_cmp q)) es
unfolding laid
laid_at [] q = refl
laid_at (e ∷ es) q = by_case (laid_at es q) (cases_eq q e.0)
  where
    by_case : get_or (laid es) q None ≡ lookup (is_at (nat_cmp q)) es → ((q ≡ e.0) ⊎ (q ≢ e.0)) → get_or (with_place e.0 e.1 (laid es)) q None ≡ lookup (is_at (nat_cmp q)) (e ∷ es)
    by_case h (inl s) = ap (λ k. get_or (with_place e.0 e.1 (laid es)) k None) s ∙ put_here e.0 e.1 (laid es)
        ∙ sym (ap (λ b. cond b (Some e.1) (lookup (is_at (nat_cmp q)) es)) (ap (λ k. is_eq (nat_cmp q k)) (sym s) ∙ same_number q))
    by_case h (inr a) = put_apart e.0 e.1 (laid es) q a ∙ h
        ∙ sym (ap (λ b. cond b (Some e.1) (lookup (is_at (nat_cmp q)) es)) (other_number q e.0 a))

module _ (old new : List (ℕ × ℕ)) (n p : ℕ) where
  pub placed_here : lookup (is_at (nat_cmp n)) new ≡ Some p → get_or (laid new) n None ≡ Some p
  placed_here h = laid_at new n ∙ h

  pub placed_apart : ((q : ℕ) → is_at (nat_cmp n) q ≡ false → lookup (is_at (nat_cmp q)) new ≡ lookup (is_at (nat_cmp q)) old) → (q : ℕ) → q ≢ n → get_or (laid new) q None ≡ get_or (laid old) q None
  placed_apart h q a = laid_at new q ∙ h q (other_number n q (λ e. a (sym e))) ∙ sym (laid_at old q)
