-- What stands at the front lies within the text, and is not empty.
use Rattle.std.proofs.Common.{◌≡◌, ℕ, zero, suc, ◌+◌, ◌<◌, ◌≤◌, List, [], ◌∷◌, length, take, drop, Bool, true, false, refl, sym, ◌∙◌, subst, arith, if◌then◌else◌, Option, Some, None, length-drop}
use Rattle.std.specs.Prelude.{◌==◌, ◌&&◌, not}
use Rattle.std.proofs.lemmas.Bool.{cond_both, eqb-true}
use Rattle.sv_outside.specs.declared.text.Kind.{Kind}
use Rattle.sv_token.specs.declared.front.Front.{Front}
use Rattle.sv_token.specs.declared.front.Front.TheVariants.{Nothing, Gap, Piece}
use Rattle.sv_token.specs.Forms.{kind_of, is_blank, is_continue}
use Rattle.sv_token.specs.Cut.{longest, longest_up_to, is_token, named, run, behind, front, opens, gap_of, comment_length, is_end_of_line}
use Rattle.sv_token.proofs.Longest.{run_within}

abbrev IsInside : List ℕ → ℕ → Type 0
IsInside text n = (0 < n) × (n ≤ length text)

abbrev Fits : List ℕ → Front → Type 0
Fits text Nothing = Unit {0}
Fits text (Gap n) = IsInside text n
Fits text (Piece k n) = IsInside text n

up_to_within : (test : List ℕ → Bool) (text : List ℕ) (n : ℕ) → longest_up_to test text n ≤ n
unfolding longest_up_to
up_to_within test text zero = omega arith
up_to_within test text (suc n) = cond_both (test (take (suc n) text)) (suc n) (longest_up_to test text n) (λ m. m ≤ suc n) (λ e. omega arith) (λ e. omega (arith, up_to_within test text n))

longest_within : (test : List ℕ → Bool) (text : List ℕ) → longest test text ≤ length text
unfolding longest
longest_within test text = up_to_within test text (length text)

no_kind : kind_of [] ≡ None
unfolding kind_of
no_kind = refl

named_fits : (text : List ℕ) (n : ℕ) (r : Option Kind) → kind_of (take n text) ≡ r → n ≤ length text → Fits text (named r n)
named_fits text n None e w = tt
named_fits text zero (Some k) e w = let bad : Some k ≡ None = sym e ∙ no_kind in absurd (cc)
named_fits text (suc n) (Some k) e w = (omega arith, w)

comment_within : (bs : List ℕ) → comment_length bs ≤ length bs
unfolding comment_length
comment_within [] = omega arith
comment_within (b ∷ []) = omega arith
comment_within (b ∷ c ∷ bs) = by (comment_length (c ∷ bs)) (comment_within (c ∷ bs)) ((b == 42) && (c == 47))
  where
    less : (n : ℕ) → n ≤ suc (length bs) → behind 1 n ≤ suc (suc (length bs))
    less zero h = omega arith
    less (suc n) h = omega (arith, h)

    by : (n : ℕ) → n ≤ suc (length bs) → (v : Bool) → (if v then 2 else behind 1 n) ≤ suc (suc (length bs))
    by n h true = omega arith
    by n h false = less n h

gap_fits : (text : List ℕ) (n : ℕ) → 2 ≤ length text → n ≤ length (drop 2 text) → Fits text (gap_of (behind 2 n))
gap_fits text zero h w = tt
gap_fits text (suc n) h w = by (2 + suc n) (omega arith) (omega (arith, h, w, length-drop 2 text))
  where
    by : (m : ℕ) → 0 < m → m ≤ length text → Fits text (gap_of m)
    by zero h w = tt
    by (suc m) h w = (h, w)

two_there : (a b : ℕ) (text : List ℕ) → opens a b text ≡ true → 2 ≤ length text
two_there a b [] e = absurd (let bad : false ≡ true = e in cc)
two_there a b (c ∷ []) e = absurd (let bad : false ≡ true = e in cc)
two_there a b (c ∷ d ∷ bs) e = omega arith

line_fits : (b : ℕ) (bs : List ℕ) → opens 47 47 (b ∷ bs) ≡ true → 0 < run (λ c. not (is_end_of_line c)) (b ∷ bs)
unfolding run
line_fits b [] e = absurd (let bad : false ≡ true = e in cc)
line_fits b (c ∷ bs) e = by (b == 47) refl e
  where
    by : (v : Bool) → (b == 47) ≡ v → (v && (c == 47)) ≡ true → 0 < (if not (b == 10) then suc (run (λ c. not (is_end_of_line c)) (c ∷ bs)) else 0)
    by true f h = rw (eqb-true b 47 f) (omega arith)
    by false f h = absurd (let bad : false ≡ true = h in cc)

front_fits : (text : List ℕ) → Fits text (front text)
unfolding front
front_fits [] = tt
front_fits (b ∷ bs) = cond_both (is_blank b) _ _ (Fits (b ∷ bs)) (λ e. (omega arith, omega arith))
    (λ e. cond_both (opens 47 47 (b ∷ bs)) _ _ (Fits (b ∷ bs)) (λ f. (line_fits b bs f, run_within (λ c. not (is_end_of_line c)) (b ∷ bs)))
    (λ f. cond_both (opens 47 42 (b ∷ bs)) _ _ (Fits (b ∷ bs)) (λ g. gap_fits (b ∷ bs) _ (two_there 47 42 (b ∷ bs) g) (comment_within (drop 2 (b ∷ bs))))
    (λ g. cond_both (is_continue (b ∷ bs)) _ _ (Fits (b ∷ bs)) (λ h. (omega arith, omega arith))
    (λ h. named_fits (b ∷ bs) (longest is_token (b ∷ bs)) _ refl (longest_within is_token (b ∷ bs))))))

pub gap_within : (n : ℕ) (text : List ℕ) → front text ≡ Gap n → (0 < n) × (n ≤ length text)
gap_within n text e = subst (Fits text) e (front_fits text)

pub piece_within : (k : Kind) (n : ℕ) (text : List ℕ) → front text ≡ Piece k n → (0 < n) × (n ≤ length text)
piece_within k n text e = subst (Fits text) e (front_fits text)
