-- One name more in the array that holds them.
use Rattle.std.proofs.Common.{◌≡◌, ℕ, ◌+◌, ◌<◌, ◌≤◌, zero, suc, cond, List, [], ◌∷◌, ◌++◌, length, map, take, set, Some, None, refl, sym, ap, ◌∙◌, arith, add-one}
use Rattle.std.proofs.lemmas.Bool.{lt-ltb}
use Rattle.svtv_words.specs.Commands.{Text}
use Rattle.svtv_words.specs.Reading.{most_positionals, one_more}

held_count : {A : Type 0} (g : A → Text) (xs : List A) (n : ℕ) → n ≤ length xs → length (take n (map g xs)) ≡ n
held_count g xs zero h = refl
held_count g [] (suc n) h = absurd (omega arith)
held_count g (x ∷ xs) (suc n) h = ap suc (held_count g xs n (omega arith))

next_set : {A : Type 0} (g : A → Text) (xs : List A) (n : ℕ) (x : A) → n < length xs → take (suc n) (map g (set xs n x)) ≡ take n (map g xs) ++ g x ∷ []
next_set g [] n x h = absurd (omega arith)
next_set g (y ∷ xs) zero x h = refl
next_set g (y ∷ xs) (suc n) x h = ap (λ l. g y ∷ l) (next_set g xs n x (omega arith))

pub one_more_set : {A : Type 0} (g : A → Text) (xs : List A) (n : ℕ) (x : A) → n < length xs → n < most_positionals → Some (take (n + 1) (map g (set xs n x))) ≡ one_more (take n (map g xs)) (g x)
one_more_set g xs n x h few =
    let count = held_count g xs n (omega arith) in
    ap (λ k. Some (take k (map g (set xs n x)))) (add-one n) ∙ ap (λ l. Some l) (next_set g xs n x h)
    ∙ sym (ap (λ b. cond b (Some (take n (map g xs) ++ g x ∷ [])) None) (lt-ltb (length (take n (map g xs))) most_positionals (omega arith)))
