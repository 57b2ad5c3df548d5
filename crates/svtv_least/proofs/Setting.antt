-- Stimuli that are set row by row.
use Rattle.std.proofs.Common.{◌≡◌, ℕ, zero, suc, ◌+◌, ◌<◌, ◌≤◌, eqb, true, false, List, [], ◌∷◌, ◌++◌, length, map, take, drop, get_or, slice_set, Option, Some, None, refl, sym, ap, ◌∙◌, subst, arith, inl, inr}
use Rattle.std.specs.Prelude.{All, slice_get}
use Rattle.std.proofs.lemmas.List.{drop_all, get_or-set_same, get_or-set_other, get_or-map, map-append, length-map}
use Rattle.std.proofs.lemmas.Bool.{cases_Bool}
use Rattle.std.proofs.lemmas.Bool.Decides.{nat_tests}
use Rattle.fourvec.specs.declared.Bit.{Bit}
use Rattle.fourvec.specs.declared.Bit.TheVariants.{Unknown}
use Rattle.fourvec.specs.Bits.{all_x, each}
use Rattle.svex_shape.specs.Values.{Vector}
use Rattle.event_sim.specs.Sims.{store_of}
use Rattle.svtv_table.specs.declared.bound.Drive.{Drive}
use Rattle.settling.specs.Settling.{Store}
use Rattle.svtv_table.specs.Stimuli.{drive_value, setting_value}
use Rattle.sv_meaning.specs.Designs.{outside}
use Rattle.svtv_runs.specs.Runs.{Asked, Asks, overrides_in, set_if, stimuli_in}
use Rattle.svtv_runs.specs.Leasts.{all_unknown, bit_asked, least_overriding, least_stimulus, set_over}
use Rattle.svtv_runs.proofs.Stimuli.{outside_is, same, other}
use Rattle.svtv_table.specs.declared.bound.Sample.{Sample}
use Rattle.svtv_least.specs.Running.{IsGiven, IsOf, asked_vector, sample_widths}

-- ---- X at every bit

pub all_x_at : (w k : ℕ) → get_or (all_x w) k Unknown ≡ Unknown
all_x_at zero k = refl
all_x_at (suc w) zero = refl
all_x_at (suc w) (suc k) = all_x_at w k

pub pushed_unknown : (values : List Vector) (w : ℕ) → ((n k : ℕ) → store_of values n k ≡ Unknown) → (n k : ℕ) → store_of (values ++ all_x w ∷ []) n k ≡ Unknown
pushed_unknown [] w h zero k = all_x_at w k
pushed_unknown [] w h (suc n) k = refl
pushed_unknown (v ∷ values) w h zero k = h 0 k
pushed_unknown (v ∷ values) w h (suc n) k = pushed_unknown values w (λ m. h (suc m)) n k

pub all_x_long : (w : ℕ) → length (all_x w) ≡ w
all_x_long zero = refl
all_x_long (suc w) = ap suc (all_x_long w)

take_suc : {A : Type 0} (xs : List A) (i : ℕ) (x : A) → i < length xs → x ≡ get_or xs i x → take (suc i) xs ≡ take i xs ++ x ∷ []
take_suc [] i x l e = absurd (omega arith)
take_suc (y ∷ xs) zero x l e = ap (λ z. z ∷ []) (sym e)
take_suc (y ∷ xs) (suc i) x l e = ap (λ ys. y ∷ ys) (take_suc xs i x (omega arith) e)

pub take_next : {A : Type 0} (xs : List A) (i : ℕ) (x : A) → i < length xs → x ≡ get_or xs i x → take (i + 1) xs ≡ take i xs ++ x ∷ []
take_next xs i x l e = (let z : i + 1 ≡ suc i = omega arith in ap (λ n. take n xs) z) ∙ take_suc xs i x l e

-- ---- lengths

pub each_long : (f : Bit → Bit) (v : List Bit) → length (each f v) ≡ length v
unfolding each
each_long f [] = refl
each_long f (b ∷ bs) = ap suc (each_long f bs)

abbrev pub lengths : List Vector → List ℕ
lengths values = map (λ v. length v) values

pub lengths_more : {A : Type 0} (f : A → ℕ) (xs : List A) (i : ℕ) (x : A) (values next : List Vector) (v : List Bit) → i < length xs → x ≡ get_or xs i x → lengths values ≡ map f (take i xs) → length v ≡ f x → next ≡ values ++ v ∷ [] → lengths next ≡ map f (take (i + 1) xs)
lengths_more f xs i x values next v l is h e n =
    ap lengths n ∙ map-append (λ y. length y) values (v ∷ []) ∙ (λ k. h k ++ e k ∷ []) ∙ sym (ap (map f) (take_next xs i x l is) ∙ map-append f (take i xs) (x ∷ []))

pub set_lengths : (xs : List Vector) (n : ℕ) (v : List Bit) → n < length xs → length v ≡ length (get_or xs n []) → lengths (slice_set xs n v) ≡ lengths xs
set_lengths [] n v l e = absurd (omega arith)
set_lengths (x ∷ xs) zero v l e = ap (λ m. m ∷ lengths xs) e
set_lengths (x ∷ xs) (suc n) v l e = ap (λ ms. length x ∷ ms) (set_lengths xs n v (omega arith) e)

-- there is a value for each sample, as wide as it
pub at_below : (values : List Vector) (samples : List Sample) (at : ℕ) → lengths values ≡ sample_widths samples → at < length samples → at < length values
at_below values samples at e l =
    let long : length values ≡ length samples = sym (length-map values (λ (v : Vector). length v)) ∙ ap length e ∙ length-map samples (λ (s : Sample). s.width) in
    omega (arith, long, l)

pub width_of_sample : (values now : List Vector) (samples : List Sample) (at : ℕ) (s : Sample) → lengths values ≡ sample_widths samples → at < length samples → s ≡ get_or samples at s → IsOf (lengths now) s
    → length (get_or values at []) ≡ length (get_or now s.wire [])
width_of_sample values now samples at s e l is h =
    let wire : s.wire < length now = omega (arith, h.wire, length-map now (λ (v : Vector). length v)) in
    sym (get_or-map (λ (v : Vector). length v) values at [] 0 (at_below values samples at e l))
    ∙ ap (λ ws. get_or ws at 0) e
    ∙ get_or-map (λ (x : Sample). x.width) samples at s 0 l
    ∙ ap (λ (x : Sample). x.width) (sym is)
    ∙ h.width
    ∙ get_or-map (λ (v : Vector). length v) now s.wire [] 0 wire

pub got_at : {A : Type 0} (xs : List A) (n : ℕ) (x : A) → n < length xs → x ≡ get_or xs n x → slice_get xs n ≡ Some x
got_at [] n x l e = absurd (omega arith)
got_at (y ∷ xs) zero x l e = ap Some (sym e)
got_at (y ∷ xs) (suc n) x l e = got_at xs n x (omega arith) e

-- ---- a wire that is set

asked_at : (w k : ℕ) (o : Option (List Bit)) → get_or (asked_vector w o) k Unknown ≡ bit_asked o k
asked_at w k None = all_x_at w k
asked_at w k (Some v) = refl

-- the values have these bits, over what was there before
abbrev pub IsOver : List Vector → Asks → Store → Type 0
IsOver values asks before = (n k : ℕ) → store_of values n k ≡ set_over asks before n k

pub wire_set : (wire w : ℕ) (o : Option (List Bit)) (old : List Vector) (v : List Bit) (asks : Asks) (before : Store) → wire < length old → v ≡ asked_vector w o → IsOver old asks before → IsOver (slice_set old wire v) ((wire, o) ∷ asks) before
wire_set wire w o old v asks before l e h n k =
    elim (cases_Bool (eqb wire n)) as (λ _. store_of (slice_set old wire v) n k ≡ set_over ((wire, o) ∷ asks) before n k) [
      | inl t ↦ let q : wire ≡ n = grind (arith, nat_tests, t) in
          ap (λ i. get_or (get_or (slice_set old wire v) i []) k Unknown) (sym q)
          ∙ ap (λ (x : List Bit). get_or x k Unknown) (get_or-set_same old wire v [] l ∙ e)
          ∙ asked_at w k o
          ∙ sym (same (wire, o) asks before n k q)
      | inr t ↦ let q : wire ≡ n → ⊥ = (λ z. let y : eqb wire n ≡ true = grind (arith, nat_tests, z) in let x : true ≡ false = sym y ∙ t in cc) in
          ap (λ (x : List Bit). get_or x k Unknown) (get_or-set_other old wire n v [] (λ z. q (sym z)))
          ∙ h n k
          ∙ sym (other (wire, o) asks before n k q)
    ]

-- what a row drives its wire with in a phase
pub drive_set : (choice : List (List Bit)) (wire phase : ℕ) (drives : List Drive) (own : Drive) (old new : List Vector) → phase < length drives → own ≡ get_or drives phase own
    → ((asks : Asks) (before : Store) → IsOver old asks before → IsOver new ((wire, drive_value choice own) ∷ asks) before)
    → (asks : Asks) (before : Store) → IsOver old asks before → IsOver new ((wire, get_or (map (drive_value choice) drives) phase None) ∷ asks) before
drive_set choice wire phase drives own old new l is f asks before h =
    let e : get_or (map (drive_value choice) drives) phase None ≡ drive_value choice own = get_or-map (drive_value choice) drives phase own None l ∙ ap (drive_value choice) (sym is) in
    subst (λ o. IsOver new ((wire, o) ∷ asks) before) (sym e) (f asks before h)

-- what a row sets its wire to in a phase, if to anything
pub setting_set : (choice : List (List Bit)) (wire phase : ℕ) (settings : List (Option Drive)) (own : Option Drive) (old new : List Vector) → phase < length settings → own ≡ get_or settings phase own
    → ((asks : Asks) (before : Store) → IsOver old asks before → IsOver new (set_if wire (setting_value choice own) ++ asks) before)
    → (asks : Asks) (before : Store) → IsOver old asks before → IsOver new (set_if wire (get_or (map (setting_value choice) settings) phase None) ++ asks) before
setting_set choice wire phase settings own old new l is f asks before h =
    let e : get_or (map (setting_value choice) settings) phase None ≡ setting_value choice own = get_or-map (setting_value choice) settings phase own None l ∙ ap (setting_value choice) (sym is) in
    subst (λ o. IsOver new (set_if wire o ++ asks) before) (sym e) (f asks before h)

-- what comes from outside in a phase of the least run
abbrev pub least_outside : Asked → ℕ → Store
least_outside asked phase = outside (least_stimulus asked phase) (least_overriding asked phase)

-- ---- rows from the last one on

drop_suc : {A : Type 0} (xs : List A) (i : ℕ) (d : A) → i < length xs → drop i xs ≡ get_or xs i d ∷ drop (suc i) xs
drop_suc [] i d l = absurd (omega arith)
drop_suc (x ∷ xs) zero d l = refl
drop_suc (x ∷ xs) (suc i) d l = drop_suc xs i d (omega arith)

drop_next : {A : Type 0} (xs : List A) (i : ℕ) (d : A) → i < length xs → drop i xs ≡ get_or xs i d ∷ drop (i + 1) xs
drop_next xs i d l = drop_suc xs i d l ∙ (let z : suc i ≡ i + 1 = omega arith in ap (λ n. get_or xs i d ∷ drop n xs) z)

pub no_rows : {X : Type 0} (f : List X → Asks) → f [] ≡ [] → (rows : List X) (at : ℕ) (stim : List Vector) → length rows ≤ at → IsOver stim (f (drop at rows)) (store_of stim)
unfolding set_over
no_rows f e rows at stim l n k = sym (ap (λ (asks : Asks). set_over asks (store_of stim) n k) (ap f (drop_all at rows l) ∙ e))

-- a row more, in front of those behind it
pub row_more : {X : Type 0} (f : List X → Asks) (front : X → Asks) → ((x : X) (xs : List X) → f (x ∷ xs) ≡ front x ++ f xs) → (rows : List X) (at after : ℕ) (first : Store) (old new : List Vector) (row : X) → at < length rows → after ≡ at + 1 → row ≡ get_or rows at row
    → ((asks : Asks) (before : Store) → IsOver old asks before → IsOver new (front row ++ asks) before) → IsOver old (f (drop after rows)) first → IsOver new (f (drop at rows)) first
row_more {X} f front cons rows at after first old new row l e is step h n k =
    let rest : Asks = f (drop (at + 1) rows) in
    let before : IsOver old rest first = λ i j. h i j ∙ ap (λ m. set_over (f (drop m rows)) first i j) e in
    step rest first before n k
    ∙ ap (λ (asks : Asks). set_over asks first n k) (sym (ap f (drop_next rows at row l ∙ ap (λ (x : X). x ∷ drop (at + 1) rows) (sym is)) ∙ cons row (drop (at + 1) rows)))

-- what is set by the rows of both kinds, one after the other, is what comes from outside in the least run
pub outside_set : (asked : Asked) (phase : ℕ) (blank driven all : List Vector) → ((n k : ℕ) → store_of blank n k ≡ Unknown) → IsOver driven (stimuli_in asked phase) (store_of blank) → IsOver all (overrides_in asked phase) (store_of driven) → store_of all ≡ least_outside asked phase
outside_set asked phase blank driven all u d o =
    let none : store_of blank ≡ all_unknown = λ i n k. u n k i in
    let stimuli : store_of driven ≡ least_stimulus asked phase = (λ i n k. d n k i) ∙ ap (set_over (stimuli_in asked phase)) none in
    let settings : store_of all ≡ set_over (overrides_in asked phase) (least_stimulus asked phase) = (λ i n k. o n k i) ∙ ap (set_over (overrides_in asked phase)) stimuli in
    settings ∙ (λ i n k. sym (outside_is (overrides_in asked phase) (least_stimulus asked phase) n k) i)

-- ---- rows that give vectors as wide as the values

pub given_row : {D : Type 0} (gives : ℕ → D → Type 0) (first stim : List Vector) (phase : ℕ) (rows : List (ℕ × List D)) (i : ℕ) (row : ℕ × List D) → lengths stim ≡ lengths first → All (IsGiven gives (lengths first) phase) rows → i < length rows → row ≡ get_or rows i row
    → IsGiven gives (lengths stim) phase row
given_row gives first stim phase rows i row e h l is = subst (λ ws. IsGiven gives ws phase row) (sym e) (subst (IsGiven gives (lengths first) phase) (sym is) (h i row l))

pub row_wire : {D : Type 0} (gives : ℕ → D → Type 0) (stim : List Vector) (phase : ℕ) (row : ℕ × List D) → IsGiven gives (lengths stim) phase row → row.0 < length stim
row_wire gives stim phase row is = omega (arith, is.wire, length-map stim (λ (v : Vector). length v))

pub row_gives : {D : Type 0} (gives : ℕ → D → Type 0) (stim : List Vector) (phase : ℕ) (row : ℕ × List D) → IsGiven gives (lengths stim) phase row → All (gives (length (get_or stim row.0 []))) row.1
row_gives gives stim phase row is = subst (λ w. All (gives w) row.1) (get_or-map (λ (v : Vector). length v) stim row.0 [] 0 (row_wire gives stim phase row is)) is.gives
