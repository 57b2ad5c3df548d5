-- The number that a text is.
use Rattle.std.proofs.Common.{◌≡◌, ℕ, ◌≤◌, cond, leb, ◌&&◌, length, Some, None, refl, sym, ap, ◌∙◌}
use Rattle.std.specs.Prelude.{IfSome, IsTrue, Decides}
use Rattle.std.specs.List.{All, list_all}
use Rattle.std.proofs.lemmas.Bool.{leb-true, le-leb, and_parts, and_from}
use Rattle.std.proofs.lemmas.Bool.Decides.{Decides-by_and}
use Rattle.svtv_words.specs.Commands.{Text, IsNumber, IsBudget, IsCount, is_digit, number_behind, most_budget, most_count}
use Rattle.svtv_words.specs.Reading.{budget_of, count_of, number_in, in_bounds}
use Rattle.svtv_words.proofs.OneWord.{on_if}

digits_decide : (text : Text) → Decides (list_all is_digit text) (All (λ b. IsTrue (is_digit b)) text)
digits_decide text = Decides-by_and is_digit (λ b. IsTrue (is_digit b)) (list_all is_digit) (λ b. (λ e. e, λ h. h)) refl (λ _ _. refl) text

pub number_is : (d g : ℕ) (text : Text) → IfSome (number_in d g text) (λ n. IsNumber d g text n)
unfolding number_in
number_is d g text = on_if (λ o. IfSome o (λ n. IsNumber d g text n)) (leb 1 (length text) && leb (length text) d && list_all is_digit text) (in_bounds g (number_behind 0 text)) None
    (λ e. let p = and_parts (leb 1 (length text) && leb (length text) d) (list_all is_digit text) e in
    let q = and_parts (leb 1 (length text)) (leb (length text) d) p.0 in
    on_if (λ o. IfSome o (λ n. IsNumber d g text n)) (leb 1 (number_behind 0 text) && leb (number_behind 0 text) g) (Some (number_behind 0 text)) None
    (λ f. let b = and_parts (leb 1 (number_behind 0 text)) (leb (number_behind 0 text) g) f in
    record { digits = (digits_decide text).0 p.1; some = leb-true 1 (length text) q.0; most = leb-true (length text) d q.1; is = refl; low = leb-true 1 (number_behind 0 text) b.0; high = leb-true (number_behind 0 text) g b.1 })
    (λ _. tt))
    (λ _. tt)

in_bounds_of : (g n : ℕ) → 1 ≤ n → n ≤ g → in_bounds g n ≡ Some n
in_bounds_of g n low high = ap (λ t. cond t (Some n) None) (and_from (leb 1 n) (leb n g) (le-leb 1 n low) (le-leb n g high))

pub number_found : (d g : ℕ) (text : Text) (n : ℕ) → IsNumber d g text n → number_in d g text ≡ Some n
unfolding number_in
number_found d g text n h =
    let digits = (digits_decide text).1 h.digits in
    let short = and_from (leb 1 (length text)) (leb (length text) d) (le-leb 1 (length text) h.some) (le-leb (length text) d h.most) in
    ap (λ t. cond t (in_bounds g (number_behind 0 text)) None) (and_from (leb 1 (length text) && leb (length text) d) (list_all is_digit text) short digits)
    ∙ ap (in_bounds g) (sym h.is) ∙ in_bounds_of g n h.low h.high

pub budget_is : (text : Text) → IfSome (budget_of text) (λ n. IsBudget text n)
budget_is text = number_is 8 most_budget text

pub budget_found : (text : Text) (n : ℕ) → IsBudget text n → budget_of text ≡ Some n
budget_found text n h = number_found 8 most_budget text n h

pub count_is : (text : Text) → IfSome (count_of text) (λ n. IsCount text n)
count_is text = number_is 2 most_count text

pub count_found : (text : Text) (n : ℕ) → IsCount text n → count_of text ≡ Some n
count_found text n h = number_found 2 most_count text n h
