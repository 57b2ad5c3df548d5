-- The longest match of a literal.
use Rattle.std.proofs.Common.{◌≡◌, ℕ, zero, suc, ◌+◌, ◌<◌, ◌≤◌, List, [], ◌∷◌, length, take, drop, Bool, true, false, refl, ap, subst, arith, if◌then◌else◌, length-drop}
use Rattle.std.specs.Prelude.{◌==◌, ◌||◌}
use Rattle.std.proofs.lemmas.Bool.{eqb-true}
use Rattle.sv_token.specs.Cut.{run, behind}
use Rattle.sv_outside.specs.Words.{is_digit}
use Rattle.sv_outside.specs.Literals.{goes_decimal, is_number, is_unsized, is_based, is_literal, is_fill, drop_run, without_size, starts_value, goes_value, is_sign}
use Rattle.sv_token.specs.Scan.{IsLongest, headed_scan, number_scan, unsized_scan, mark_scan_behind, value_scan, signed_scan, fill_scan, literal_scan, or_else}
use Rattle.sv_token.proofs.Longest.{both_ways, longest_same, headed_is, marked_is, signed_is, is_signed_value, fill_is, shifted}

-- ---- the size before the rest

none_taken : (m : ℕ) → ◌≡◌ {A = List ℕ} (take m []) []
none_taken zero = refl
none_taken (suc m) = refl

drop_run_take : (goes : ℕ → Bool) (bs : List ℕ) (j m : ℕ) → j ≡ run goes bs + m → drop_run goes (take j bs) ≡ take m (drop (run goes bs) bs)
unfolding run
drop_run_take goes [] j m e = rw (none_taken j, none_taken m) refl
drop_run_take goes (b ∷ bs) j m e = by (drop_run_take goes bs) (goes b) refl j e
  where
    by : ((j m : ℕ) → j ≡ run goes bs + m → drop_run goes (take j bs) ≡ take m (drop (run goes bs) bs)) → (v : Bool) → goes b ≡ v → (j : ℕ)
        → j ≡ (if v then suc (run goes bs) else 0) + m → drop_run goes (take j (b ∷ bs)) ≡ take m (drop (if v then suc (run goes bs) else 0) (b ∷ bs))
    by again true e zero f = absurd (omega (arith, f))
    by again true e (suc j) f = rw e (again j m (omega (arith, f)))
    by again false e zero f = let none : 0 ≡ m = omega (arith, f) in subst (λ i. [] ≡ take i (b ∷ bs)) none refl
    by again false e (suc j) f = rw e (let same : suc j ≡ m = omega (arith, f) in ap (λ i. take i (b ∷ bs)) same)

drop_run_low : (goes : ℕ → Bool) (bs : List ℕ) (j : ℕ) → j ≤ run goes bs → drop_run goes (take j bs) ≡ []
unfolding run
drop_run_low goes bs zero w = refl
drop_run_low goes [] (suc j) w = refl
drop_run_low goes (b ∷ bs) (suc j) w = by (drop_run_low goes bs j) (goes b) refl w
  where
    by : (j ≤ run goes bs → drop_run goes (take j bs) ≡ []) → (v : Bool) → goes b ≡ v → suc j ≤ (if v then suc (run goes bs) else 0)
        → (if goes b then drop_run goes (take j bs) else b ∷ take j bs) ≡ []
    by again true e h = rw e (again (omega (arith, h)))
    by again false e h = absurd (omega (arith, h))

size_take : (text : List ℕ) (j m : ℕ) → j ≡ number_scan text + m → without_size (take j text) ≡ take m (drop (number_scan text) text)
unfolding number_scan headed_scan
size_take [] j m e = rw (none_taken j, none_taken m) refl
size_take (b ∷ bs) j m e = by (is_digit b) refl j e
  where
    by : (v : Bool) → is_digit b ≡ v → (j : ℕ) → j ≡ (if v then suc (run goes_decimal bs) else 0) + m
        → without_size (take j (b ∷ bs)) ≡ take m (drop (if v then suc (run goes_decimal bs) else 0) (b ∷ bs))
    by true e zero f = absurd (omega (arith, f))
    by true e (suc j) f = rw e (drop_run_take goes_decimal bs j m (omega (arith, f)))
    by false e zero f = let none : 0 ≡ m = omega (arith, f) in subst (λ i. [] ≡ take i (b ∷ bs)) none refl
    by false e (suc j) f = rw e (let same : suc j ≡ m = omega (arith, f) in ap (λ i. take i (b ∷ bs)) same)

size_low : (text : List ℕ) (m : ℕ) → 0 < m → m ≤ number_scan text → is_based (take m text) ≡ false
unfolding number_scan headed_scan
size_low [] m h w = absurd (omega (arith, h, w))
size_low (b ∷ bs) zero h w = absurd (omega (arith, h))
size_low (b ∷ bs) (suc m) h w = by (is_digit b) refl w
  where
    by : (v : Bool) → is_digit b ≡ v → suc m ≤ (if v then suc (run goes_decimal bs) else 0) → is_unsized (if is_digit b then drop_run goes_decimal (take m bs) else b ∷ take m bs) ≡ false
    by true e f = rw (e, drop_run_low goes_decimal bs m (omega (arith, f))) refl
    by false e f = absurd (omega (arith, f))

number_is : (text : List ℕ) → IsLongest is_number text (number_scan text)
unfolding number_scan
number_is text = headed_is is_digit goes_decimal text

unsized_is : (text : List ℕ) → IsLongest is_unsized text (unsized_scan text)
unfolding unsized_scan
unsized_is text = marked_is 39 is_signed_value signed_scan refl signed_is text

based_is : (text : List ℕ) → IsLongest is_based text (behind (number_scan text) (unsized_scan (drop (number_scan text) text)))
based_is text = shifted is_based is_unsized (number_scan text) (unsized_scan (drop (number_scan text) text)) text (drop (number_scan text) text)
    (omega (arith, (number_is text).within, length-drop (number_scan text) text)) (λ j m e w. ap is_unsized (size_take text j m e)) (size_low text) (unsized_is (drop (number_scan text) text))

-- ---- one form or another

either : (P Q : List ℕ → Bool) (m n : ℕ) (text : List ℕ) → (0 < m → (k : ℕ) → m < k → k ≤ length text → Q (take k text) ≡ false) → IsLongest P text m → IsLongest Q text n
    → IsLongest (λ t. P t || Q t) text (or_else m n)
either P Q zero n text apart l r = record {
  within = r.within;
  fits = λ some. second (P (take n text)) (Q (take n text)) (r.fits some);
  longer = λ k h w. rw (l.longer k (omega (arith, h)) w, r.longer k h w) refl;
}
  where
    second : (u v : Bool) → v ≡ true → (u || v) ≡ true
    second true v e = refl
    second false v e = e
either P Q (suc m) n text apart l r = record {
  within = l.within;
  fits = λ some. rw (l.fits some) refl;
  longer = λ k h w. rw (l.longer k h w, apart (omega arith) k h w) refl;
}

pub no_fill : (b : ℕ) (bs : List ℕ) → (b == 39) ≡ false → is_fill (b ∷ bs) ≡ false
no_fill b [] e = refl
no_fill b (c ∷ []) e = rw e refl
no_fill b (c ∷ d ∷ bs) e = refl

fill_short : (t : List ℕ) → 2 < length t → is_fill t ≡ false
fill_short [] h = refl
fill_short (b ∷ []) h = refl
fill_short (b ∷ c ∷ []) h = absurd (omega (arith, h))
fill_short (b ∷ c ∷ d ∷ bs) h = refl

value_long : (text : List ℕ) → 0 < value_scan text → 1 < value_scan text
unfolding value_scan
value_long [] h = absurd (omega (arith, h))
value_long (base ∷ []) h = absurd (omega (arith, h))
value_long (base ∷ first ∷ bs) h = by (run (goes_value base first) bs) (starts_value base first) h
  where
    by : (n : ℕ) (v : Bool) → 0 < (if v then suc (suc n) else 0) → 1 < (if v then suc (suc n) else 0)
    by n true h = omega arith
    by n false h = absurd (omega (arith, h))

one_more : (n : ℕ) → (0 < n → 1 < n) → 0 < behind 1 n → 1 < behind 1 n
one_more zero h some = absurd (omega (arith, some))
one_more (suc n) h some = omega (arith, h)

signed_long : (text : List ℕ) → 0 < signed_scan text → 1 < signed_scan text
unfolding signed_scan
signed_long [] h = absurd (omega (arith, h))
signed_long (b ∷ bs) h = by (is_sign b) h
  where
    by : (v : Bool) → 0 < (if v then behind 1 (value_scan bs) else value_scan (b ∷ bs)) → 1 < (if v then behind 1 (value_scan bs) else value_scan (b ∷ bs))
    by true h = one_more (value_scan bs) (value_long bs) h
    by false h = value_long (b ∷ bs) h

two_more : (n : ℕ) → (0 < n → 1 < n) → 0 < behind 1 n → 2 < behind 1 n
two_more zero h some = absurd (omega (arith, some))
two_more (suc n) h some = omega (arith, h (omega arith))

unsized_long : (text : List ℕ) → 0 < unsized_scan text → 2 < unsized_scan text
unfolding unsized_scan mark_scan_behind
unsized_long [] h = absurd (omega (arith, h))
unsized_long (b ∷ bs) h = by (b == 39) h
  where
    by : (v : Bool) → 0 < (if v then behind 1 (signed_scan bs) else 0) → 2 < (if v then behind 1 (signed_scan bs) else 0)
    by true h = two_more (signed_scan bs) (signed_long bs) h
    by false h = absurd (omega (arith, h))

behind_long : (k n : ℕ) → (0 < n → 2 < n) → 0 < behind k n → (2 < behind k n) × (k ≤ behind k n)
behind_long k zero h some = absurd (omega (arith, some))
behind_long k (suc n) h some = (omega (arith, h (omega arith)), omega arith)

pub digit_of : (text : List ℕ) → 0 < number_scan text → (b : ℕ) × (bs : List ℕ) × (text ≡ b ∷ bs) × (is_digit b ≡ true)
unfolding number_scan headed_scan
digit_of [] h = absurd (omega (arith, h))
digit_of (b ∷ bs) h = (b, bs, refl, by (is_digit b) refl h)
  where
    by : (v : Bool) → is_digit b ≡ v → 0 < (if v then suc (run goes_decimal bs) else 0) → is_digit b ≡ true
    by true e h = e
    by false e h = absurd (omega (arith, h))

pub digit_no_tick : (b : ℕ) → is_digit b ≡ true → (b == 39) ≡ false
digit_no_tick b e = by (b == 39) refl
  where
    by : (v : Bool) → (b == 39) ≡ v → (b == 39) ≡ false
    by true f = both_ways (is_digit b) true e (rw (eqb-true b 39 f) refl)
    by false f = f

length_taken : (k : ℕ) (text : List ℕ) → k ≤ length text → length (take k text) ≡ k
length_taken zero text w = refl
length_taken (suc k) [] w = absurd (omega (arith, w))
length_taken (suc k) (b ∷ bs) w = ap suc (length_taken k bs (omega (arith, w)))

no_fill_then : (text : List ℕ) → 0 < number_scan text → (k : ℕ) → number_scan text < k → k ≤ length text → is_fill (take k text) ≡ false
no_fill_then text some zero h w = absurd (omega (arith, h))
no_fill_then text some (suc k) h w =
    let d = digit_of text some in
    rw d.2 (no_fill d.0 (take k d.1) (digit_no_tick d.0 d.3))

others_then : (text : List ℕ) → 0 < behind (number_scan text) (unsized_scan (drop (number_scan text) text)) → (k : ℕ)
    → behind (number_scan text) (unsized_scan (drop (number_scan text) text)) < k → k ≤ length text → (is_number (take k text) || is_fill (take k text)) ≡ false
others_then text some k h w =
    let long = behind_long (number_scan text) (unsized_scan (drop (number_scan text) text)) (unsized_long (drop (number_scan text) text)) some in
    rw ((number_is text).longer k (omega (arith, long.1, h)) w, fill_short (take k text) (rw (length_taken k text w) (omega (arith, long.0, h)))) refl

pub literal_is : (text : List ℕ) → IsLongest is_literal text (literal_scan text)
unfolding literal_scan
literal_is text = longest_same (λ t. is_based t || (is_number t || is_fill t)) is_literal text
    (or_else (behind (number_scan text) (unsized_scan (drop (number_scan text) text))) (or_else (number_scan text) (fill_scan text)))
    (λ m w. swapped (is_number (take m text)) (is_based (take m text)) (is_fill (take m text)))
    (either is_based (λ t. is_number t || is_fill t) (behind (number_scan text) (unsized_scan (drop (number_scan text) text))) (or_else (number_scan text) (fill_scan text)) text
    (others_then text) (based_is text) (either is_number is_fill (number_scan text) (fill_scan text) text (no_fill_then text) (number_is text) (fill_is text)))
  where
    swapped : (a b c : Bool) → (b || (a || c)) ≡ (a || b || c)
    swapped true true c = refl
    swapped true false c = refl
    swapped false true c = refl
    swapped false false c = refl
