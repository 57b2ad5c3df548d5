-- Turns of the loops over words and over digits.
use Rattle.std.proofs.Common.{◌≡◌, ℕ, ◌+◌, ◌-◌, ◌*◌, ◌^◌, ◌<◌, ◌≤◌, true, leb, List, [], ◌∷◌, ◌++◌, length, map, take, drop, get_or, Option, Some, None, refl, sym, ap, ◌∙◌, arith, add-one}
use Rattle.std.specs.Prelude.{option_and_then}
use Rattle.std.specs.List.{list_all}
use Rattle.std.proofs.lemmas.Bool.{leb-true, and_parts}
use Rattle.std.proofs.lemmas.List.{drop_more, drop_all, take_rest, take_more, get_or-map, length-map}
use Rattle.std.proofs.lemmas.List.Sums.{AllPass-from_list_all}
use Rattle.std.proofs.Math.Nat.{pow-suc}
use Rattle.svtv_words.specs.Commands.{Text, is_digit, number_behind, Form, Verb', form_of}
use Rattle.svtv_words.specs.Reading.{Found, nothing_found, found_in, with_word, every_verb, verb_among, command_found, command_in}

-- ---- words

drop_next : {A : Type 0} (g : A → Text) (xs : List A) (x : A) (i : ℕ) → i < length xs → x ≡ get_or xs i x → drop i (map g xs) ≡ g x ∷ drop (i + 1) (map g xs)
drop_next g xs x i h q =
    let l : length (map g xs) ≡ length xs = length-map xs g in
    drop_more (map g xs) i (g x) (omega arith) ∙ ap (λ y. y ∷ drop (i + 1) (map g xs)) (get_or-map g xs i x (g x) h ∙ ap g (sym q))

pub turn : {A : Type 0} (g : A → Text) (form : Form) (xs : List A) (x : A) (i : ℕ) (f : Found) (text : Text) (whole o : Option Found) → i < length xs → x ≡ get_or xs i x → text ≡ g x
    → found_in form (drop i (map g xs)) f ≡ whole → o ≡ with_word form f text → option_and_then (found_in form (drop (i + 1) (map g xs))) o ≡ whole
unfolding found_in
turn g form xs x i f text whole o h q e led is =
    ap (λ r. option_and_then (found_in form (drop (i + 1) (map g xs))) r) (is ∙ ap (with_word form f) e) ∙ ap (λ y. found_in form y f) (sym (drop_next g xs x i h q)) ∙ led

pub ended : {A : Type 0} (g : A → Text) (form : Form) (xs : List A) (i : ℕ) (f : Found) (whole : Option Found) → length xs ≤ i → found_in form (drop i (map g xs)) f ≡ whole → Some f ≡ whole
unfolding found_in
ended g form xs i f whole h led =
    let l : length (map g xs) ≡ length xs = length-map xs g in
    ap (λ y. found_in form y f) (sym (drop_all i (map g xs) (omega arith))) ∙ led

-- ---- the verb

pub no_words : {A : Type 0} (g : A → Text) (xs : List A) → length xs < 1 → None ≡ command_in (map g xs)
unfolding command_in
no_words g [] h = refl
no_words g (x ∷ xs) h = absurd (omega arith)

pub by_verb : {A : Type 0} (g : A → Text) (xs : List A) (x : A) (text : Text) (v : Option Verb') → 1 ≤ length xs → x ≡ get_or xs 0 x → text ≡ g x → v ≡ verb_among every_verb text
    → option_and_then (λ w. option_and_then (command_found w) (found_in (form_of w) (map g (take (length xs - 1) (drop 1 xs))) nothing_found)) v ≡ command_in (map g xs)
unfolding command_in
by_verb g [] x text v h q e is = absurd (omega arith)
by_verb g (y ∷ xs) x text v h q e is = ap (λ l. option_and_then (λ w. option_and_then (command_found w) (found_in (form_of w) (map g l) nothing_found)) v) (take_rest (y ∷ xs) 1)
    ∙ ap (λ u. option_and_then (λ w. option_and_then (command_found w) (found_in (form_of w) (map g xs) nothing_found)) u) (is ∙ ap (verb_among every_verb) (e ∙ ap g q))

-- ---- digits

number_push : (n : ℕ) (xs : Text) (b : ℕ) → number_behind n (xs ++ b ∷ []) ≡ number_behind n xs * 10 + (b - 48)
unfolding number_behind
number_push n [] b = refl
number_push n (x ∷ xs) b = number_push (n * 10 + (x - 48)) xs b

pub no_digits : 0 ≡ number_behind 0 []
unfolding number_behind
no_digits = refl

pub is_digit_at : (text : Text) (i d : ℕ) → i < length text → list_all is_digit text ≡ true → (48 ≤ get_or text i d) × (get_or text i d ≤ 57)
is_digit_at text i d h e =
    let p = and_parts (leb 48 (get_or text i d)) (leb (get_or text i d) 57) (AllPass-from_list_all is_digit text e i d h) in
    (leb-true 48 (get_or text i d) p.0, leb-true (get_or text i d) 57 p.1)

pub digit_more : (text : Text) (i n d k : ℕ) → i < length text → list_all is_digit text ≡ true → k ≡ get_or text i d - 48 → (n ≡ number_behind 0 (take i text)) × (n < 10 ^ i)
    → (n * 10 + k ≡ number_behind 0 (take (i + 1) text)) × (n * 10 + k < 10 ^ (i + 1))
digit_more text i n d k h e f g =
    let digit = is_digit_at text i d h e in
    let p : 10 ^ (i + 1) ≡ 10 ^ i * 10 = ap (λ x. 10 ^ x) (add-one i) ∙ pow-suc 10 i in
    (ap (λ x. x * 10 + k) g.0 ∙ ap (λ x. number_behind 0 (take i text) * 10 + x) f ∙ sym (number_push 0 (take i text) (get_or text i d)) ∙ ap (number_behind 0) (sym (take_more text i d h)), omega arith)
