-- The values that the changes of phases give: at each time those of the phase of this number, or of the last.
use Rattle.std.proofs.Common.{◌≡◌, ℕ, zero, suc, ◌+◌, ◌-◌, ◌<◌, ◌≤◌, min, nat_le, Bool, true, false, List, [], ◌∷◌, ◌++◌, length, map, reverse, take, replicate, Option, None, Some, bytes_eq, refl, sym, ap, ◌∙◌, arith}
use Rattle.std.specs.Prelude.{filter, if◌then◌else◌}
use Rattle.std.specs.List.{slice_get}
use Rattle.std.specs.Cmp.Lexicographic.{bytes_decides}
use Rattle.std.proofs.lemmas.Bool.{le-leb, leb-true, false_from_ne_true}
use Rattle.std.proofs.lemmas.List.{map-append, reverse-reverse, take-append-le, take_all}
use Rattle.std.proofs.lemmas.List.Elements.{filter-append}
use Rattle.fourvec.specs.declared.Bit.{Bit}
use Rattle.vcd_text.specs.Waves.{Change, fitted, filler, changes_under, last_at}
use Rattle.vcd_print.specs.Printed.{code_of, digits_of, is_same}
use Rattle.vcd_print.proofs.Printing.{same_values}
use Rattle.vcd_print.proofs.Declaring.{codes_apart}
use Rattle.vcd_print.proofs.Changing.{written, changed, changes_since, changes_from}

-- the value behind some changes, of what had this one before them
abbrev pub after : ℕ → ℕ → ℕ → List Bit → List Change → List Bit
after t m width x changes = last_at t x (changes_under (code_of m) width changes)

last_append : (t : ℕ) (x : List Bit) (xs ys : List (ℕ × List Bit)) → last_at t x (xs ++ ys) ≡ last_at t (last_at t x xs) ys
unfolding last_at
last_append t x [] ys = refl
last_append t x (c ∷ xs) ys = last_append t (if nat_le c.0 t then c.1 else x) xs ys

after_append : (t m width : ℕ) (x : List Bit) (xs ys : List Change) → after t m width x (xs ++ ys) ≡ after t m width (after t m width x xs) ys
after_append t m width x xs ys =
    ap (λ l. last_at t x (map (λ c. (c.time, fitted width c.bits)) l)) (filter-append (λ c. bytes_eq (code_of m) c.code) xs ys)
    ∙ ap (last_at t x) (map-append (λ c. (c.time, fitted width c.bits)) (filter (λ c. bytes_eq (code_of m) c.code) xs) (filter (λ c. bytes_eq (code_of m) c.code) ys))
    ∙ last_append t x (changes_under (code_of m) width xs) (changes_under (code_of m) width ys)

none_after : (t m width : ℕ) (x : List Bit) → after t m width x [] ≡ x
unfolding last_at
none_after t m width x = refl

-- ---- one change

one_after : (t m width : ℕ) (x : List Bit) (c : Change) → after t m width x (c ∷ []) ≡ (if bytes_eq (code_of m) c.code then (if nat_le c.time t then fitted width c.bits else x) else x)
unfolding last_at
one_after t m width x c = by_case (bytes_eq (code_of m) c.code)
  where
    by_case : (b : Bool) → last_at t x (map (λ k. (k.time, fitted width k.bits)) (if b then c ∷ [] else [])) ≡ (if b then (if nat_le c.time t then fitted width c.bits else x) else x)
    by_case true = refl
    by_case false = refl

-- a change later than the time
later_after : (t m width : ℕ) (x : List Bit) (c : Change) → t < c.time → after t m width x (c ∷ []) ≡ x
later_after t m width x c h =
    let no : nat_le c.time t ≡ false = false_from_ne_true (nat_le c.time t) (λ e. omega (arith, h, leb-true c.time t e)) in
    one_after t m width x c ∙ ap (λ b. if bytes_eq (code_of m) c.code then (if b then fitted width c.bits else x) else x) no ∙ either (bytes_eq (code_of m) c.code) x
  where
    either : (b : Bool) (x : List Bit) → (if b then x else x) ≡ x
    either true x = refl
    either false x = refl

-- a change of another wire
other_after : (t m n width : ℕ) (x : List Bit) (time : ℕ) (v : List Bit) → (m ≡ n → ⊥) → after t m width x (written time n v ∷ []) ≡ x
other_after t m n width x time v h =
    one_after t m width x (written time n v) ∙ ap (λ b. if b then (if nat_le time t then fitted width (reverse v) else x) else x) (codes_apart n m h)

fitted_same : (width : ℕ) (v : List Bit) → length v ≡ width → fitted width (reverse v) ≡ v
unfolding fitted
fitted_same width v e =
    ap (λ r. take width (r ++ replicate width (filler (reverse v)))) (reverse-reverse v) ∙ take-append-le width v (replicate width (filler (reverse v))) (omega (arith, e)) ∙ take_all width v (omega (arith, e))

-- a change of this wire, at or before the time
own_after : (t n width : ℕ) (x : List Bit) (time : ℕ) (v : List Bit) → time ≤ t → length v ≡ width → after t n width x (written time n v ∷ []) ≡ v
own_after t n width x time v h e =
    one_after t n width x (written time n v) ∙ ap (λ b. if b then (if nat_le time t then fitted width (reverse v) else x) else x) ((bytes_decides (code_of n) (code_of n)).1 refl)
    ∙ ap (λ b. if b then fitted width (reverse v) else x) (le-leb time t h) ∙ fitted_same width v e

-- ---- the changes of a phase

other_changed : (t m n width : ℕ) (x : List Bit) (time : ℕ) (o : Option (List Bit)) (v : List Bit) → (m ≡ n → ⊥) → after t m width x (changed time n o v) ≡ x
other_changed t m n width x time None v h = other_after t m n width x time v h
other_changed t m n width x time (Some u) v h = by_case (is_same u v)
  where
    by_case : (b : Bool) → after t m width x (if b then [] else written time n v ∷ []) ≡ x
    by_case true = none_after t m width x
    by_case false = other_after t m n width x time v h

-- a wire with the value before that changes are told from
own_changed : (t n width : ℕ) (x : List Bit) (time : ℕ) (o : Option (List Bit)) (v : List Bit) → time ≤ t → length v ≡ width → ((u : List Bit) → o ≡ Some u → x ≡ u) → after t n width x (changed time n o v) ≡ v
own_changed t n width x time None v h e held = own_after t n width x time v h e
own_changed t n width x time (Some u) v h e held = by_case (is_same u v) refl
  where
    by_case : (b : Bool) → is_same u v ≡ b → after t n width x (if b then [] else written time n v ∷ []) ≡ v
    by_case true s = none_after t n width x ∙ held u refl ∙ same_values u v ((bytes_decides (digits_of u) (digits_of v)).0 s)
    by_case false s = own_after t n width x time v h e

-- the changes of wires behind this one
rest_since : (t m n width : ℕ) (x : List Bit) (time : ℕ) (before values : List (List Bit)) → m < n → after t m width x (changes_since time n before values) ≡ x
unfolding changes_since
rest_since t m n width x time before [] h = none_after t m width x
rest_since t m n width x time [] (v ∷ more) h =
    after_append t m width x (changed time n None v) (changes_since time (n + 1) [] more)
    ∙ ap (λ y. after t m width y (changes_since time (n + 1) [] more)) (other_changed t m n width x time None v (λ e. omega (arith, h, e)))
    ∙ rest_since t m (n + 1) width x time [] more (omega (arith, h))
rest_since t m n width x time (u ∷ before) (v ∷ more) h =
    after_append t m width x (changed time n (Some u) v) (changes_since time (n + 1) before more)
    ∙ ap (λ y. after t m width y (changes_since time (n + 1) before more)) (other_changed t m n width x time (Some u) v (λ e. omega (arith, h, e)))
    ∙ rest_since t m (n + 1) width x time before more (omega (arith, h))

-- what had the value before, if there is one, has the value of the phase behind its changes
since_is : (t m n k width : ℕ) (x : List Bit) (time : ℕ) (before values : List (List Bit)) (v : List Bit) → m ≡ n + k → time ≤ t → slice_get values k ≡ Some v → length v ≡ width
    → ((u : List Bit) → slice_get before k ≡ Some u → x ≡ u) → after t m width x (changes_since time n before values) ≡ v
unfolding changes_since
since_is t m n k width x time before [] v at h is e held = cc
since_is t m n zero width x time [] (y ∷ more) v at h is e held =
    let here : m ≡ n = omega (arith, at) in
    let own : y ≡ v = cc in
    after_append t m width x (changed time n None y) (changes_since time (n + 1) [] more)
    ∙ ap (λ z. after t m width z (changes_since time (n + 1) [] more))
    (ap (λ i. after t i width x (changed time n None y)) here ∙ own_changed t n width x time None y h (ap length own ∙ e) (λ u no. cc))
    ∙ rest_since t m (n + 1) width y time [] more (omega (arith, here)) ∙ own
since_is t m n zero width x time (u ∷ before) (y ∷ more) v at h is e held =
    let here : m ≡ n = omega (arith, at) in
    let own : y ≡ v = cc in
    after_append t m width x (changed time n (Some u) y) (changes_since time (n + 1) before more)
    ∙ ap (λ z. after t m width z (changes_since time (n + 1) before more))
    (ap (λ i. after t i width x (changed time n (Some u) y)) here ∙ own_changed t n width x time (Some u) y h (ap length own ∙ e) (λ w some. held w some))
    ∙ rest_since t m (n + 1) width y time before more (omega (arith, here)) ∙ own
since_is t m n (suc k) width x time [] (y ∷ more) v at h is e held =
    after_append t m width x (changed time n None y) (changes_since time (n + 1) [] more)
    ∙ ap (λ z. after t m width z (changes_since time (n + 1) [] more)) (other_changed t m n width x time None y (λ same. omega (arith, at, same)))
    ∙ since_is t m (n + 1) k width x time [] more v (omega (arith, at)) h is e (λ u no. held u no)
since_is t m n (suc k) width x time (u ∷ before) (y ∷ more) v at h is e held =
    after_append t m width x (changed time n (Some u) y) (changes_since time (n + 1) before more)
    ∙ ap (λ z. after t m width z (changes_since time (n + 1) before more)) (other_changed t m n width x time (Some u) y (λ same. omega (arith, at, same)))
    ∙ since_is t m (n + 1) k width x time before more v (omega (arith, at)) h is e (λ w some. held w some)

-- a phase later than the time
later_changed : (t m n width : ℕ) (x : List Bit) (time : ℕ) (o : Option (List Bit)) (v : List Bit) → t < time → after t m width x (changed time n o v) ≡ x
later_changed t m n width x time None v h = later_after t m width x (written time n v) h
later_changed t m n width x time (Some u) v h = by_case (is_same u v)
  where
    by_case : (b : Bool) → after t m width x (if b then [] else written time n v ∷ []) ≡ x
    by_case true = none_after t m width x
    by_case false = later_after t m width x (written time n v) h

later_since : (t m n width : ℕ) (x : List Bit) (time : ℕ) (before values : List (List Bit)) → t < time → after t m width x (changes_since time n before values) ≡ x
unfolding changes_since
later_since t m n width x time before [] h = none_after t m width x
later_since t m n width x time [] (v ∷ more) h =
    after_append t m width x (changed time n None v) (changes_since time (n + 1) [] more)
    ∙ ap (λ y. after t m width y (changes_since time (n + 1) [] more)) (later_changed t m n width x time None v h) ∙ later_since t m (n + 1) width x time [] more h
later_since t m n width x time (u ∷ before) (v ∷ more) h =
    after_append t m width x (changed time n (Some u) v) (changes_since time (n + 1) before more)
    ∙ ap (λ y. after t m width y (changes_since time (n + 1) before more)) (later_changed t m n width x time (Some u) v h) ∙ later_since t m (n + 1) width x time before more h

-- ---- the changes of all phases

later_from : (t m width : ℕ) (x : List Bit) (time : ℕ) (before : List (List Bit)) (phases : List (List (List Bit))) → t < time → after t m width x (changes_from time before phases) ≡ x
unfolding changes_from
later_from t m width x time before [] h = none_after t m width x
later_from t m width x time before (values ∷ more) h =
    after_append t m width x (changes_since time 0 before values) (changes_from (time + 1) values more)
    ∙ ap (λ y. after t m width y (changes_from (time + 1) values more)) (later_since t m 0 width x time before values h) ∙ later_from t m width x (time + 1) values more (omega (arith, h))

-- each phase has a value for the wire, at its width
pub record HasValue (m width : ℕ) (values : List (List Bit)) : Type 0 where
  pub value : List Bit
  pub is : slice_get values m ≡ Some value
  pub wide : length value ≡ width

abbrev pub EachHas : ℕ → ℕ → List (List (List Bit)) → Type 0
EachHas m width [] = Unit {0}
EachHas m width (values ∷ more) = HasValue m width values × EachHas m width more

same_some : (a b : List Bit) (o : Option (List Bit)) → o ≡ Some a → o ≡ Some b → a ≡ b
same_some a b o e f = cc

pub from_is : (t m j width : ℕ) (x : List Bit) (time : ℕ) (before : List (List Bit)) (phases : List (List (List Bit))) (values : List (List Bit)) (v : List Bit)
    → time ≤ t → j ≡ min (t - time) (length phases - 1) → EachHas m width phases → slice_get phases j ≡ Some values → slice_get values m ≡ Some v
    → ((u : List Bit) → slice_get before m ≡ Some u → x ≡ u) → after t m width x (changes_from time before phases) ≡ v
unfolding changes_from
from_is t m j width x time before [] values v h at has is own held = cc
from_is t m j width x time before (p ∷ []) values v h at has is own held =
    let first : j ≡ 0 = omega (arith, at) in
    let here : p ≡ values = only (sym (ap (slice_get (p ∷ [])) first) ∙ is) in
    let same : has.0.value ≡ v = same_some has.0.value v (slice_get p m) has.0.is (ap (λ l. slice_get l m) here ∙ own) in
    after_append t m width x (changes_since time 0 before p) []
    ∙ none_after t m width (after t m width x (changes_since time 0 before p))
    ∙ since_is t m 0 m width x time before p has.0.value (omega arith) h has.0.is has.0.wide held ∙ same
  where
    only : Some p ≡ Some values → p ≡ values
    only e = cc
from_is t m zero width x time before (p ∷ q ∷ more) values v h at has is own held =
    let here : p ≡ values = only is in
    let same : has.0.value ≡ v = same_some has.0.value v (slice_get p m) has.0.is (ap (λ l. slice_get l m) here ∙ own) in
    let last : t ≡ time = omega (arith, at, h) in
    after_append t m width x (changes_since time 0 before p) (changes_from (time + 1) p (q ∷ more))
    ∙ ap (λ y. after t m width y (changes_from (time + 1) p (q ∷ more))) (since_is t m 0 m width x time before p has.0.value (omega arith) h has.0.is has.0.wide held)
    ∙ later_from t m width has.0.value (time + 1) p (q ∷ more) (omega (arith, last)) ∙ same
  where
    only : Some p ≡ Some values → p ≡ values
    only e = cc
from_is t m (suc j) width x time before (p ∷ q ∷ more) values v h at has is own held =
    after_append t m width x (changes_since time 0 before p) (changes_from (time + 1) p (q ∷ more))
    ∙ ap (λ y. after t m width y (changes_from (time + 1) p (q ∷ more))) (since_is t m 0 m width x time before p has.0.value (omega arith) h has.0.is has.0.wide held)
    ∙ from_is t m j width has.0.value (time + 1) p (q ∷ more) values v (omega (arith, at, h)) (omega (arith, at, h)) has.1 is own
    (λ u some. same_some has.0.value u (slice_get p m) has.0.is some)
