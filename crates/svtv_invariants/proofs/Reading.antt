-- What the nodes of claims have over values of samples, and what their expressions have there. Samples of a run and signals in a valuation are
-- both values by the bits of each sample.
use Rattle.std.proofs.Common.{◌≡◌, ℕ, zero, suc, ◌+◌, ◌<◌, Bool, true, cond, List, [], ◌∷◌, ◌++◌, length, get_or, map, take, drop, refl, sym, ap, ◌∙◌, subst, arith}
use Rattle.std.specs.Prelude.{Option, Some, slice_get}
use Rattle.std.specs.List.{All, AllZip, range_with_len}
use Rattle.std.proofs.lemmas.Bool.{eqb-true, eq-eqb, ltb-true}
use Rattle.std.proofs.lemmas.List.{ext_get_or, get_or-map, get_or_default, length-map, map_more}
use Rattle.std.proofs.lemmas.List.Elements.{All-head, All-tail, All-cons, All-nil}
use Rattle.std.proofs.lemmas.List.FromFn.{get_or-map-range_with_len, length-map-range_with_len}
use Rattle.driver_resolve.specs.Drivers.{bitwise, is_wire}
use Rattle.event_nets.specs.Tables.{store_of}
use Rattle.fourvec.specs.declared.Bit.{Bit}
use Rattle.fourvec.specs.declared.Bit.TheVariants.{One, Unknown}
use Rattle.fourvec.specs.Bits.{all_x}
use Rattle.fourvec.proofs.Tables.{left_of, right_of}
use Rattle.goal_gates.specs.Goals.{rows_of}
use Rattle.goal_text.specs.Nodes.{IsTruth}
use Rattle.goal_text.specs.Scopes.{claims_scope, is_of_table, sample_vector, sampled_of, table_read, widths_in, Vector as Named}
use Rattle.settling.specs.Settling.{Store}
use Rattle.sv_meaning.specs.Layouts.{Origin, Read, Scope, of_choice, of_samples, of_wires}
use Rattle.sv_meaning.specs.Meanings.{truth}
use Rattle.sv_meaning.specs.Values.{mean}
use Rattle.sv_tree.specs.declared.exprs.Expr.{Expr}
use Rattle.svex_arena.specs.Arenas.{IsArena}
use Rattle.svex_arena.proofs.Lifted.{values_alike}
use Rattle.svex_shape.specs.declared.shape.Shape.{Shape}
use Rattle.svex_shape.specs.declared.shape.VarName.{VarName}
use Rattle.svex_shape.specs.declared.shape.VarName.TheVariants.{Now, Prev, Stim, Chosen, Sampled}
use Rattle.svex_shape.specs.Values.{AgreesWhere, Vector, fitted, read, value_at}
use Rattle.svtv_induct.specs.Halves.{IsOneOver}
use Rattle.svtv_least.specs.Running.{IsOf}
use Rattle.svtv_periods.specs.Claims.{signal_bit, signal_values}
use Rattle.svtv_periods.specs.Invariants.{samples_in, signals_in}
use Rattle.svtv_periods.specs.Periods.{AreAlike}
use Rattle.svtv_periods.proofs.Ends.{scopes_alike, vectors_alike}
use Rattle.svtv_runs.specs.Runs.{Run}
use Rattle.svtv_runs.specs.Truths.{sampled, table_values}
use Rattle.svtv_table.specs.declared.bound.Sample.{Sample}

-- ---- values by the bits of samples

abbrev pub Bits : Type 0
Bits = Option Sample → ℕ → Bit

abbrev pub vector_by : Bits → Sample → Vector
vector_by f x = map (f (Some x)) (range_with_len 0 x.width)

abbrev pub vectors_by : Bits → List Sample → List Vector
vectors_by f samples = map (vector_by f) samples

-- what variables read: the bits of samples, and nothing else
abbrev pub bits_by : Bits → List Sample → VarName → ℕ → Bit
bits_by f samples (Sampled n) k = f (slice_get samples n) k
bits_by f samples name k = Unknown

row_whole : (v : Vector) (w : ℕ) → length v ≡ w → map (λ k. get_or v k Unknown) (range_with_len 0 w) ≡ v
row_whole v w e =
    let f : ℕ → Bit = λ k. get_or v k Unknown in
    ext_get_or Unknown (map f (range_with_len 0 w)) v (length-map-range_with_len f 0 w ∙ sym e)
    (λ i lt. get_or-map-range_with_len f 0 w i i Unknown (omega (arith, lt, length-map-range_with_len f 0 w)) (omega arith))

fitted_same : (w : ℕ) (v : Vector) → length v ≡ w → fitted w v ≡ v
unfolding fitted
fitted_same w v e = ap (λ t. cond t v (all_x w)) (eq-eqb (length v) w e)

-- the vector of a sample
at_number : (f : Bits) (samples : List Sample) (n : ℕ) → n < length samples → get_or (vectors_by f samples) n [] ≡ map (f (slice_get samples n)) (range_with_len 0 (get_or (widths_in (sampled_of samples)) n 0))
at_number f [] n l = absurd (omega (arith, l))
at_number f (x ∷ samples) zero l = refl
at_number f (x ∷ samples) (suc n) l = at_number f samples n (omega (arith, l))

at_by : (f : Bits) (samples : List Sample) (n w : ℕ) → is_wire (widths_in (sampled_of samples)) n w ≡ true → get_or (vectors_by f samples) n [] ≡ map (f (slice_get samples n)) (range_with_len 0 w)
at_by f samples n w t =
    let widths = widths_in (sampled_of samples) in
    let there : n < length samples = omega (arith, ltb-true n (length widths) (left_of _ _ t), length-map (sampled_of samples) (λ (v : Named). v.1), length-map samples sample_vector) in
    let wide : get_or widths n 0 ≡ w = eqb-true (get_or widths n 0) w (right_of _ _ t) in
    at_number f samples n there ∙ ap (λ k. map (f (slice_get samples n)) (range_with_len 0 k)) wide

agrees : (f : Bits) (samples : List Sample) → AgreesWhere (is_of_table [] samples) (read (rows_of [] (vectors_by f samples))) (bitwise (bits_by f samples))
agrees f samples (Sampled n) w t =
    let is = at_by f samples n w t in
    ap (fitted w) is ∙ fitted_same w (map (f (slice_get samples n)) (range_with_len 0 w)) (length-map-range_with_len (f (slice_get samples n)) 0 w)
agrees f samples (Chosen n) w t = absurd (let l = ltb-true n 0 (left_of _ _ t) in omega (arith, l))
agrees f samples (Now n) w t = cc
agrees f samples (Prev n) w t = cc
agrees f samples (Stim n) w t = cc

-- ---- what claims have

-- over all values by bits the node has the truth of the claim
abbrev pub Tells : List Shape → List Sample → Expr → ℕ → Type 0
Tells shapes samples x node = (f : Bits) → value_at (read (rows_of [] (vectors_by f samples))) shapes node ≡ truth (mean (claims_scope [] samples) x) (table_read (bits_by f samples)) ∷ []

abbrev IsClaim : List Shape → List Sample → Expr → ℕ → Type 0
IsClaim shapes samples x node = IsTruth (claims_scope [] samples) (is_of_table [] samples) shapes x node

pub claim_tells : (shapes : List Shape) (samples : List Sample) (x : Expr) (node : ℕ) → IsArena shapes → IsClaim shapes samples x node → Tells shapes samples x node
claim_tells shapes samples x node a t f =
    values_alike (is_of_table [] samples) (read (rows_of [] (vectors_by f samples))) (bitwise (bits_by f samples)) shapes node a (agrees f samples) t.within t.mentions ∙ t.value (bits_by f samples)

-- ---- samples of the same signals

test_alike : (xs ys : List Sample) → map sample_vector xs ≡ map sample_vector ys → (name : VarName) (w : ℕ) → is_of_table [] xs name w ≡ is_of_table [] ys name w
test_alike xs ys e (Sampled n) w = ap (λ (vs : List Named). is_wire (widths_in vs) n w) e
test_alike xs ys e (Chosen n) w = refl
test_alike xs ys e (Now n) w = refl
test_alike xs ys e (Prev n) w = refl
test_alike xs ys e (Stim n) w = refl

-- a claim over the one is a claim over the others
pub claim_alike : (xs ys : List Sample) (shapes : List Shape) (x : Expr) (node : ℕ) → AreAlike xs ys → IsClaim shapes xs x node → IsClaim shapes ys x node
claim_alike xs ys shapes x node h t =
    let test : is_of_table [] xs ≡ is_of_table [] ys = λ i name w. test_alike xs ys (vectors_alike xs ys h) name w i in
    subst (λ (p : VarName → ℕ → Bool). IsTruth (claims_scope [] ys) p shapes x node) test
    (subst (λ (at : Scope). IsTruth at (is_of_table [] xs) shapes x node) (scopes_alike xs ys h) t)

-- ---- lists of claims

-- another list of nodes, each with what is wanted of the one in its place
pub zip_over : (R S : Expr → ℕ → Type 0) (xs : List Expr) (ys zs : List ℕ) → length ys ≡ length zs → ((k : ℕ) (x : Expr) → k < length zs → R x (get_or ys k 0) → S x (get_or zs k 0)) → AllZip R xs ys → AllZip S xs zs
zip_over R S [] [] [] e f z = tt
zip_over R S [] [] (w ∷ zs) e f z = absurd (omega (arith, e))
zip_over R S [] (y ∷ ys) zs e f z = absurd z
zip_over R S (x ∷ xs) [] zs e f z = absurd z
zip_over R S (x ∷ xs) (y ∷ ys) [] e f z = absurd (omega (arith, e))
zip_over R S (x ∷ xs) (y ∷ ys) (w ∷ zs) e f z = (f 0 x (omega arith) z.0, zip_over R S xs ys zs (omega (arith, e)) (λ k t l r. f (suc k) t (omega (arith, l)) r) z.1)

module _ (shapes : List Shape) (samples : List Sample) (f : Bits) (tell : Expr → Bit) (same : (x : Expr) → truth (mean (claims_scope [] samples) x) (table_read (bits_by f samples)) ≡ tell x) where
  -- the claims are true where their nodes have the value 1
  ones_true : (xs : List Expr) (ys : List ℕ) → AllZip (Tells shapes samples) xs ys → All (IsOneOver shapes (vectors_by f samples)) ys → All (λ x. tell x ≡ One) xs
  ones_true [] [] z h = All-nil (λ x. tell x ≡ One)
  ones_true [] (y ∷ ys) z h = absurd z
  ones_true (x ∷ xs) [] z h = absurd z
  ones_true (x ∷ xs) (y ∷ ys) z h =
      let one = All-head (IsOneOver shapes (vectors_by f samples)) y ys h in
      All-cons (λ x. tell x ≡ One) x xs (sym (same x) ∙ ap (λ (v : Vector). get_or v 0 Unknown) (sym (z.0 f) ∙ one)) (ones_true xs ys z.1 (All-tail (IsOneOver shapes (vectors_by f samples)) y ys h))

  -- and the other way round
  true_ones : (xs : List Expr) (ys : List ℕ) → AllZip (Tells shapes samples) xs ys → All (λ x. tell x ≡ One) xs → All (IsOneOver shapes (vectors_by f samples)) ys
  true_ones [] [] z h = All-nil (IsOneOver shapes (vectors_by f samples))
  true_ones [] (y ∷ ys) z h = absurd z
  true_ones (x ∷ xs) [] z h = absurd z
  true_ones (x ∷ xs) (y ∷ ys) z h =
      let one = All-head (λ x. tell x ≡ One) x xs h in
      All-cons (IsOneOver shapes (vectors_by f samples)) y ys (z.0 f ∙ ap (λ (b : Bit). b ∷ []) (same x ∙ one)) (true_ones xs ys z.1 (All-tail (λ x. tell x ≡ One) x xs h))

-- ---- in a run

run_reads : (samples : List Sample) (r : Run) (o : Origin) (n k : ℕ) → table_read (bits_by (sampled r) samples) o n k ≡ table_values samples [] r o n k
run_reads samples r of_wires n k = refl
run_reads samples r of_choice n k = refl
run_reads samples r of_samples n k = refl

run_same : (samples : List Sample) (r : Run) (x : Expr) → truth (mean (claims_scope [] samples) x) (table_read (bits_by (sampled r) samples)) ≡ truth (mean (claims_scope [] samples) x) (table_values samples [] r)
run_same samples r x =
    let same : table_read (bits_by (sampled r) samples) ≡ table_values samples [] r = λ i o n k. run_reads samples r o n k i in
    ap (λ (v : Read). truth (mean (claims_scope [] samples) x) v) same

pub holds_in : (shapes : List Shape) (samples : List Sample) (r : Run) (xs : List Expr) (ys : List ℕ) → AllZip (Tells shapes samples) xs ys → All (IsOneOver shapes (samples_in samples r)) ys
    → All (λ x. truth (mean (claims_scope [] samples) x) (table_values samples [] r) ≡ One) xs
holds_in shapes samples r = ones_true shapes samples (sampled r) (λ x. truth (mean (claims_scope [] samples) x) (table_values samples [] r)) (run_same samples r)

pub ones_in : (shapes : List Shape) (samples : List Sample) (r : Run) (xs : List Expr) (ys : List ℕ) → AllZip (Tells shapes samples) xs ys → All (λ x. truth (mean (claims_scope [] samples) x) (table_values samples [] r) ≡ One) xs
    → All (IsOneOver shapes (samples_in samples r)) ys
ones_in shapes samples r = true_ones shapes samples (sampled r) (λ x. truth (mean (claims_scope [] samples) x) (table_values samples [] r)) (run_same samples r)

-- ---- in a valuation

state_reads : (samples : List Sample) (v : Store) (o : Origin) (n k : ℕ) → table_read (bits_by (signal_bit v) samples) o n k ≡ signal_values samples v o n k
state_reads samples v of_wires n k = refl
state_reads samples v of_choice n k = refl
state_reads samples v of_samples n k = refl

state_same : (samples : List Sample) (v : Store) (x : Expr) → truth (mean (claims_scope [] samples) x) (table_read (bits_by (signal_bit v) samples)) ≡ truth (mean (claims_scope [] samples) x) (signal_values samples v)
state_same samples v x =
    let same : table_read (bits_by (signal_bit v) samples) ≡ signal_values samples v = λ i o n k. state_reads samples v o n k i in
    ap (λ (w : Read). truth (mean (claims_scope [] samples) x) w) same

pub holds_at : (shapes : List Shape) (samples : List Sample) (v : Store) (xs : List Expr) (ys : List ℕ) → AllZip (Tells shapes samples) xs ys → All (IsOneOver shapes (signals_in samples v)) ys
    → All (λ x. truth (mean (claims_scope [] samples) x) (signal_values samples v) ≡ One) xs
holds_at shapes samples v = ones_true shapes samples (signal_bit v) (λ x. truth (mean (claims_scope [] samples) x) (signal_values samples v)) (state_same samples v)

pub ones_at : (shapes : List Shape) (samples : List Sample) (v : Store) (xs : List Expr) (ys : List ℕ) → AllZip (Tells shapes samples) xs ys → All (λ x. truth (mean (claims_scope [] samples) x) (signal_values samples v) ≡ One) xs
    → All (IsOneOver shapes (signals_in samples v)) ys
ones_at shapes samples v = true_ones shapes samples (signal_bit v) (λ x. truth (mean (claims_scope [] samples) x) (signal_values samples v)) (state_same samples v)

-- ---- what is shown

-- values of these widths that have such bits are the vectors
pub shown_by : (f : Bits) (samples : List Sample) (values : List Vector) → map (λ v. length v) values ≡ map (λ s. s.width) samples → ((n k : ℕ) → store_of values n k ≡ f (slice_get samples n) k) → values ≡ vectors_by f samples
shown_by f [] [] w e = refl
shown_by f [] (v ∷ values) w e = absurd (let l = ap length w in omega (arith, l))
shown_by f (s ∷ samples) [] w e = absurd (let l = ap length w in omega (arith, l))
shown_by f (s ∷ samples) (v ∷ values) w e =
    let wide : length v ≡ s.width = ap (λ (xs : List ℕ). get_or xs 0 0) w in
    let bits : (λ k. get_or v k Unknown) ≡ f (Some s) = λ j k. e 0 k j in
    let one : v ≡ vector_by f s = sym (row_whole v s.width wide) ∙ ap (λ (g : ℕ → Bit). map g (range_with_len 0 s.width)) bits in
    let more = shown_by f samples values (ap (drop 1) w) (λ n k. e (suc n) k) in
    λ i. one i ∷ more i

-- the signal of a sample in vectors of wires
pub signal_is : (state : List Vector) (x : Sample) (v : Vector) → v ≡ get_or state x.wire v → IsOf (map (λ v. length v) state) x → v ≡ vector_by (signal_bit (store_of state)) x
signal_is state x v e h =
    let l : x.wire < length state = (let wire = h.wire in omega (arith, wire, length-map state (λ (v : Vector). length v))) in
    let wide : length (get_or state x.wire []) ≡ x.width = sym (get_or-map (λ (v : Vector). length v) state x.wire [] 0 l) ∙ sym h.width in
    e ∙ get_or_default state x.wire v [] l ∙ sym (row_whole (get_or state x.wire []) x.width wide)

pub signals_more : (samples : List Sample) (v : Store) (i : ℕ) (s : Sample) (values : List Vector) → i < length samples → s ≡ get_or samples i s → values ≡ signals_in (take i samples) v
    → values ++ vector_by (signal_bit v) s ∷ [] ≡ signals_in (take (i + 1) samples) v
signals_more samples v i s values l e h =
    ap (λ (vs : List Vector). vs ++ vector_by (signal_bit v) s ∷ []) h
    ∙ ap (λ (x : Sample). signals_in (take i samples) v ++ vector_by (signal_bit v) x ∷ []) e
    ∙ sym (map_more (vector_by (signal_bit v)) samples i s l)
