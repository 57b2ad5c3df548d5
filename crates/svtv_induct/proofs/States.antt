-- Choices of two variables for each wire, and the valuations that they stand for.
use Rattle.std.proofs.Common.{◌≡◌, ℕ, zero, suc, ◌+◌, ◌<◌, true, cond, List, [], ◌∷◌, ◌++◌, length, map, take, get_or, refl, sym, ap, ◌∙◌, arith, Option, None, Some, IsTrue}
use Rattle.std.specs.List.{All, range_with_len, take-map}
use Rattle.std.proofs.lemmas.List.Elements.{All-nil, All-cons, All-head, All-tail, All-take, All-append}
use Rattle.std.proofs.lemmas.List.{append_assoc, get_or-take, get_or_append_left, get_or-append-add, length-map, length-append, map-append}
use Rattle.std.proofs.lemmas.List.FromFn.{length-map-range_with_len, get_or-map-range_with_len}
use Rattle.std.proofs.Math.Seq.{take-append_seam}
use Rattle.driver_resolve.specs.Drivers.{widths_of}
use Rattle.fourvec.specs.declared.Bit.{Bit}
use Rattle.fourvec.specs.declared.Bit.TheVariants.{Zero, One, Unknown, Floating}
use Rattle.fourvec.specs.Bits.{is_known, is_known_bit, not_of}
use Rattle.fourvec.proofs.Order.{both}
use Rattle.lhs_alias.specs.declared.segs.WireBit.{WireBit}
use Rattle.settling.specs.Settling.{Store, Link, Even, first_bit, value_at as value_in}
use Rattle.settling.proofs.Classes.{joined-first, first-joined}
use Rattle.sv_outside.specs.declared.text.Signal.{Signal}
use Rattle.svex_shape.specs.Values.{Vector}
use Rattle.svtv_runs.specs.Runs.{asks_of}
use Rattle.svtv_table.specs.Binding.{IsAsWide, IsBound, IsDriven, IsOverridden, IsSetAsWide}
use Rattle.svtv_table.specs.Stimuli.{IsChoice, given, drive_value, setting_value}
use Rattle.svtv_table.specs.declared.bound.Bound.{Bound}
use Rattle.svtv_table.specs.declared.bound.Drive.{Drive}
use Rattle.svtv_table.specs.declared.bound.Drive.TheVariants as drive
use Rattle.svtv_table.specs.declared.bound.VarDecl.{VarDecl}
use Rattle.svtv_unroll.specs.Unrolled.{vector_of}
use Rattle.svtv_induct.specs.States.{made_of, own_state, joined_state, state_vars, with_vars}

-- ---- the first variables of a choice

pub take_choice : (vars more : List VarDecl) (c : List Vector) → IsChoice (vars ++ more) c → IsChoice vars (take (length vars) c)
take_choice vars more c h =
    let wide : VarDecl → ℕ = λ v. v.width in
    record {
      widths = sym (take-map (λ (v : Vector). length v) (length vars) c) ∙ ap (take (length vars)) (h.widths ∙ map-append wide vars more)
          ∙ ap (λ k. take k (map wide vars ++ map wide more)) (sym (length-map vars wide)) ∙ take-append_seam (map wide vars) (map wide more);
      known = All-take (λ v. IsTrue (is_known v)) (length vars) c h.known;
    }

-- ---- what a table asks depends on its own variables alone

pub map_alike : {A B : Type 0} (P : A → Type 0) (f g : A → B) → ((x : A) → P x → f x ≡ g x) → (xs : List A) → All P xs → map f xs ≡ map g xs
map_alike P f g h [] a = refl
map_alike P f g h (x ∷ xs) a = let e = h x (All-head P x xs a) in let m = map_alike P f g h xs (All-tail P x xs a) in λ i. e i ∷ m i

drive_same : (vars : List VarDecl) (c e : List Vector) → ((n : ℕ) → n < length vars → given c n ≡ given e n) → (width : ℕ) (d : Drive) → IsAsWide vars width d → drive_value c d ≡ drive_value e d
drive_same vars c e same width (drive.Fixed v) w = refl
drive_same vars c e same width (drive.Chosen n flips) w = ap (λ (v : Vector). Some (cond flips (not_of v) v)) (same n w.0)
drive_same vars c e same width drive.Free w = refl

setting_same : (vars : List VarDecl) (c e : List Vector) → ((n : ℕ) → n < length vars → given c n ≡ given e n) → (width : ℕ) (d : Option Drive) → IsSetAsWide vars width d → setting_value c d ≡ setting_value e d
setting_same vars c e same width None w = refl
setting_same vars c e same width (Some d) w = ap Some (drive_same vars c e same width d w)

pub asks_same : (wires : List Signal) (bound : Bound) (c e : List Vector) → IsBound wires bound → ((n : ℕ) → n < length bound.vars → given c n ≡ given e n) → asks_of c bound ≡ asks_of e bound
asks_same wires bound c e b same =
    let stimuli = map_alike (IsDriven wires bound.vars bound.phases) (λ row. (row.0, map (drive_value c) row.1)) (λ row. (row.0, map (drive_value e) row.1))
    (λ row h. let m = map_alike _ (drive_value c) (drive_value e) (drive_same bound.vars c e same _) row.1 h.widths in λ i. (row.0, m i)) bound.drives b.drives in
    let settings = map_alike (IsOverridden wires bound.vars bound.phases) (λ row. (row.0, map (setting_value c) row.1)) (λ row. (row.0, map (setting_value e) row.1))
    (λ row h. let m = map_alike _ (setting_value c) (setting_value e) (setting_same bound.vars c e same _) row.1 h.widths in λ i. (row.0, m i)) bound.overs b.overs in
    λ i. record { stimuli = stimuli i; settings = settings i }

pub given_taken : (vars : List VarDecl) (c : List Vector) (n : ℕ) → n < length vars → given c n ≡ given (take (length vars) c) n
given_taken vars c n l = sym (get_or-take (length vars) c n [] l)

-- ---- the choice that a valuation gives

up_of : Bit → Bit
up_of Zero = Zero
up_of One = One
up_of Unknown = One
up_of Floating = Zero

low_of : Bit → Bit
low_of Zero = Zero
low_of One = One
low_of Unknown = Zero
low_of Floating = One

made_again : (b : Bit) → made_of (up_of b) (low_of b) ≡ b
unfolding up_of low_of
made_again Zero = refl
made_again One = refl
made_again Unknown = refl
made_again Floating = refl

up_known : (b : Bit) → is_known_bit (up_of b) ≡ true
unfolding up_of
up_known Zero = refl
up_known One = refl
up_known Unknown = refl
up_known Floating = refl

low_known : (b : Bit) → is_known_bit (low_of b) ≡ true
unfolding low_of
low_known Zero = refl
low_known One = refl
low_known Unknown = refl
low_known Floating = refl

-- vectors of the wires of these widths, from a wire on
rows_from : (ℕ → ℕ → Bit) → ℕ → List ℕ → List Vector
rows_from f n [] = []
rows_from f n (w ∷ ws) = vector_of (f n) w ∷ rows_from f (suc n) ws

rows_wide : (f : ℕ → ℕ → Bit) (n : ℕ) (ws : List ℕ) → map (λ v. length v) (rows_from f n ws) ≡ ws
unfolding rows_from
rows_wide f n [] = refl
rows_wide f n (w ∷ ws) = let e = length-map-range_with_len (f n) 0 w in let m = rows_wide f (suc n) ws in λ i. e i ∷ m i

rows_long : (f : ℕ → ℕ → Bit) (n : ℕ) (ws : List ℕ) → length (rows_from f n ws) ≡ length ws
rows_long f n ws = sym (length-map (rows_from f n ws) (λ (v : Vector). length v)) ∙ ap (λ (l : List ℕ). length l) (rows_wide f n ws)

rows_at : (f : ℕ → ℕ → Bit) (n k : ℕ) (ws : List ℕ) → k < length ws → get_or (rows_from f n ws) k [] ≡ vector_of (f (n + k)) (get_or ws k 0)
unfolding rows_from
rows_at f n k [] l = absurd (omega (arith, l))
rows_at f n zero (w ∷ ws) l = (let z : n ≡ n + 0 = omega arith in ap (λ m. vector_of (f m) w) z)
rows_at f n (suc k) (w ∷ ws) l = rows_at f (suc n) k ws (omega (arith, l)) ∙ (let z : suc n + k ≡ n + suc k = omega arith in ap (λ m. vector_of (f m) (get_or ws k 0)) z)

bits_known : (f : ℕ → Bit) → ((k : ℕ) → is_known_bit (f k) ≡ true) → (a w : ℕ) → is_known (map f (range_with_len a w)) ≡ true
unfolding is_known
bits_known f h a zero = refl
bits_known f h a (suc w) = both _ _ (h a) (bits_known f h (a + 1) w)

rows_known : (f : ℕ → ℕ → Bit) → ((n k : ℕ) → is_known_bit (f n k) ≡ true) → (n : ℕ) (ws : List ℕ) → All (λ v. IsTrue (is_known v)) (rows_from f n ws)
unfolding rows_from
rows_known f h n [] = All-nil (λ v. IsTrue (is_known v))
rows_known f h n (w ∷ ws) = All-cons (λ v. IsTrue (is_known v)) (vector_of (f n) w) (rows_from f (suc n) ws) (bits_known (f n) (h n) 0 w) (rows_known f h (suc n) ws)

-- a choice, and two vectors more for each wire, which make the bits of the valuation
pub state_choice : List Vector → List Signal → Store → List Vector
state_choice choice wires state = (choice ++ rows_from (λ n k. up_of (state n k)) 0 (widths_of wires)) ++ rows_from (λ n k. low_of (state n k)) 0 (widths_of wires)

pub state_wide : (wires : List Signal) → map (λ (v : VarDecl). v.width) (state_vars wires) ≡ widths_of wires
state_wide [] = refl
state_wide (w ∷ wires) = ap (λ (l : List ℕ). w.width ∷ l) (state_wide wires)

pub state_is_choice : (bound : Bound) (choice : List Vector) (wires : List Signal) (state : Store) → IsChoice bound.vars choice → IsChoice (with_vars bound wires).vars (state_choice choice wires state)
unfolding state_choice
state_is_choice bound choice wires state h =
    let len : Vector → ℕ = λ v. length v in
    let wide : VarDecl → ℕ = λ v. v.width in
    let ws : List ℕ = widths_of wires in
    let ups = rows_from (λ n k. up_of (state n k)) 0 ws in
    let lows = rows_from (λ n k. low_of (state n k)) 0 ws in
    let left : map len (choice ++ ups) ≡ map wide bound.vars ++ ws =
    map-append len choice ups ∙ ap (λ (l : List ℕ). l ++ map len ups) h.widths ∙ ap (λ (l : List ℕ). map wide bound.vars ++ l) (rows_wide (λ n k. up_of (state n k)) 0 ws) in
    let right : map wide (bound.vars ++ state_vars wires) ≡ map wide bound.vars ++ ws = map-append wide bound.vars (state_vars wires) ∙ ap (λ (l : List ℕ). map wide bound.vars ++ l) (state_wide wires) in
    record {
      widths = map-append len (choice ++ ups) lows ∙ ap (λ (l : List ℕ). l ++ map len lows) left ∙ ap (λ (l : List ℕ). (map wide bound.vars ++ ws) ++ l) (rows_wide (λ n k. low_of (state n k)) 0 ws)
          ∙ sym (map-append wide (bound.vars ++ state_vars wires) (state_vars wires) ∙ ap (λ (l : List ℕ). l ++ map wide (state_vars wires)) right ∙ ap (λ (l : List ℕ). (map wide bound.vars ++ ws) ++ l) (state_wide wires));
      known = All-append (λ v. IsTrue (is_known v)) (choice ++ ups) lows
          (All-append (λ v. IsTrue (is_known v)) choice ups h.known (rows_known (λ n k. up_of (state n k)) (λ n k. up_known (state n k)) 0 ws))
          (rows_known (λ n k. low_of (state n k)) (λ n k. low_known (state n k)) 0 ws);
    }

pub choice_long : (vars : List VarDecl) (choice : List Vector) → IsChoice vars choice → length choice ≡ length vars
choice_long vars choice h = sym (length-map choice (λ (v : Vector). length v)) ∙ ap (λ (l : List ℕ). length l) h.widths ∙ length-map vars (λ (v : VarDecl). v.width)

pub state_taken : (vars : List VarDecl) (choice : List Vector) (wires : List Signal) (state : Store) → IsChoice vars choice → take (length vars) (state_choice choice wires state) ≡ choice
unfolding state_choice
state_taken vars choice wires state h =
    let ups = rows_from (λ n k. up_of (state n k)) 0 (widths_of wires) in
    let lows = rows_from (λ n k. low_of (state n k)) 0 (widths_of wires) in
    ap (λ k. take k ((choice ++ ups) ++ lows)) (sym (choice_long vars choice h)) ∙ ap (take (length choice)) (append_assoc choice ups lows) ∙ take-append_seam choice (ups ++ lows)

-- in the wires the vectors make the valuation again
pub state_again : (vars : List VarDecl) (choice : List Vector) (wires : List Signal) (state : Store) → IsChoice vars choice → (n k : ℕ) → n < length wires → k < get_or (widths_of wires) n 0
    → own_state (state_choice choice wires state) (length vars) (length wires) n k ≡ state n k
unfolding state_choice
state_again vars choice wires state h n k l m =
    let ws : List ℕ = widths_of wires in
    let many : length ws ≡ length wires = length-map wires (λ (s : Signal). s.width) in
    let inside : n < length ws = omega (arith, l, many) in
    let up : ℕ → ℕ → Bit = λ a b. up_of (state a b) in
    let low : ℕ → ℕ → Bit = λ a b. low_of (state a b) in
    let ups = rows_from up 0 ws in
    let lows = rows_from low 0 ws in
    let long : length choice ≡ length vars = choice_long vars choice h in
    let from_zero : 0 + n ≡ n = omega arith in
    let first : given ((choice ++ ups) ++ lows) (length vars + n) ≡ vector_of (up n) (get_or ws n 0) =
    get_or_append_left (choice ++ ups) lows [] (length vars + n) (omega (arith, inside, long, length-append choice ups, rows_long up 0 ws))
    ∙ ap (λ j. get_or (choice ++ ups) j []) (omega (arith, long))
    ∙ get_or-append-add choice ups n [] ∙ rows_at up 0 n ws inside ∙ ap (λ j. vector_of (up j) (get_or ws n 0)) from_zero in
    let second : given ((choice ++ ups) ++ lows) (length vars + length wires + n) ≡ vector_of (low n) (get_or ws n 0) =
    ap (λ j. get_or ((choice ++ ups) ++ lows) j []) (omega (arith, long, many, length-append choice ups, rows_long up 0 ws))
    ∙ get_or-append-add (choice ++ ups) lows n [] ∙ rows_at low 0 n ws inside ∙ ap (λ j. vector_of (low j) (get_or ws n 0)) from_zero in
    let at : (f : ℕ → Bit) → get_or (vector_of f (get_or ws n 0)) k Unknown ≡ f k = (λ f. get_or-map-range_with_len f 0 (get_or ws n 0) k k Unknown m (omega arith)) in
    ap (λ (v : Vector). made_of (get_or v k Unknown) (get_or (given ((choice ++ ups) ++ lows) (length vars + length wires + n)) k Unknown)) first
    ∙ ap (λ (v : Vector). made_of (get_or (vector_of (up n) (get_or ws n 0)) k Unknown) (get_or v k Unknown)) second
    ∙ ap (λ b. made_of b (get_or (vector_of (low n) (get_or ws n 0)) k Unknown)) (at (up n)) ∙ ap (λ b. made_of (up n k) b) (at (low n)) ∙ made_again (state n k)

-- ---- joined bits

pub joined_even : (links : List Link) (own : Store) → Even links (joined_state (first_bit links) own)
joined_even links own b c l = ap (value_in own) (first-joined links b c l)

pub even_first : (links : List Link) (state : Store) → Even links state → (b : WireBit) → value_in state (first_bit links b) ≡ value_in state b
even_first links state e b = sym (e b (first_bit links b) (joined-first links b))
