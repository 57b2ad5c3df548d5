-- What nodes have under a choice and the samples of a run.
use Rattle.std.proofs.Common.{◌≡◌, ℕ, zero, suc, ◌<◌, true, cond, List, [], ◌∷◌, length, get_or, map, refl, sym, ap, ◌∙◌, arith, IsTrue, Some, zero-add}
use Rattle.std.specs.Prelude.{slice_get}
use Rattle.std.specs.List.{All, range_with_len}
use Rattle.std.proofs.lemmas.Bool.{eqb-true, eq-eqb, ltb-true}
use Rattle.std.proofs.lemmas.List.Elements.{All-from_get_or}
use Rattle.std.proofs.lemmas.List.{get_or-map, ext_get_or, length-map}
use Rattle.std.proofs.lemmas.List.FromFn.{get_or-map-range_with_len, length-map-range_with_len}
use Rattle.driver_resolve.specs.Drivers.{is_wire}
use Rattle.fourvec.specs.declared.Bit.{Bit}
use Rattle.fourvec.specs.declared.Bit.TheVariants.{Unknown}
use Rattle.fourvec.specs.Bits.{all_x}
use Rattle.fourvec.proofs.Tables.{left_of, right_of}
use Rattle.goal_gates.specs.Goals.{rows_of, is_chosen, goal_of, sampled_under, IsOne}
use Rattle.goal_text.specs.Scopes.{is_of_vars, is_of_table, widths_in, vars_of}
use Rattle.svex_shape.specs.declared.shape.Shape.{Shape}
use Rattle.svex_shape.specs.declared.shape.VarName.{VarName}
use Rattle.svex_shape.specs.declared.shape.VarName.TheVariants.{Now, Prev, Stim, Chosen, Sampled}
use Rattle.svex_arena.specs.Arenas.{IsArena, Extends}
use Rattle.svex_shape.specs.Values.{Vector, fitted, read, value_at, each_variable, AgreesWhere}
use Rattle.svex_arena.proofs.Lifted.{values_alike, variables_weaker}
use Rattle.svex_arena.proofs.Steps.{value-extends}
use Rattle.svtv_periods.specs.Invariants.{samples_in}
use Rattle.svtv_runs.specs.Runs.{Run}
use Rattle.svtv_runs.specs.Truths.{sampled}
use Rattle.svtv_table.specs.declared.bound.Sample.{Sample}
use Rattle.svtv_table.specs.declared.bound.VarDecl.{VarDecl}
use Rattle.svtv_unroll.specs.Unrolled.{AreSampleNodes, HaveSamples, under_choice, vector_of, width_of_sample}
use Rattle.svtv_induct.specs.Halves.{IsClaim, IsOneOver}

-- ---- vectors by their bits

row_whole : (v : Vector) (w : ℕ) → length v ≡ w → map (λ k. get_or v k Unknown) (range_with_len 0 w) ≡ v
row_whole v w e =
    let f : ℕ → Bit = λ k. get_or v k Unknown in
    ext_get_or Unknown (map f (range_with_len 0 w)) v (length-map-range_with_len f 0 w ∙ sym e)
    (λ i lt. get_or-map-range_with_len f 0 w i i Unknown (omega (arith, lt, length-map-range_with_len f 0 w)) (zero-add i))

pub fitted_same : (w : ℕ) (v : Vector) → length v ≡ w → fitted w v ≡ v
unfolding fitted
fitted_same w v e = ap (λ t. cond t v (all_x w)) (eq-eqb (length v) w e)

width_there : (widths : List ℕ) (rows : List Vector) → map (λ r. length r) rows ≡ widths → (n : ℕ) → n < length widths → length (get_or rows n []) ≡ get_or widths n 0
width_there widths rows v n h =
    sym (get_or-map (λ row. length row) rows n [] 0 (omega (arith, ap length v, length-map rows (λ (row : Vector). length row), h))) ∙ ap (λ l. get_or l n 0) v

reads : (widths : List ℕ) (rows : List Vector) → map (λ r. length r) rows ≡ widths → (n w : ℕ) → is_wire widths n w ≡ true → fitted w (get_or rows n []) ≡ map (λ k. get_or (get_or rows n []) k Unknown) (range_with_len 0 w)
reads widths rows v n w t =
    let there : n < length widths = ltb-true n (length widths) (left_of _ _ t) in
    let wide : length (get_or rows n []) ≡ w = width_there widths rows v n there ∙ eqb-true (get_or widths n 0) w (right_of _ _ t) in
    fitted_same w (get_or rows n []) wide ∙ sym (row_whole (get_or rows n []) w wide)

var_widths : (vars : List VarDecl) → map (λ v. v.width) vars ≡ widths_in (vars_of vars)
var_widths [] = refl
var_widths (v ∷ vars) = ap (λ ws. v.width ∷ ws) (var_widths vars)

-- the values of samples are the bits of the run
sampled_at : (samples : List Sample) (r : Run) (n : ℕ) → n < length samples → get_or (samples_in samples r) n [] ≡ vector_of (sampled r (slice_get samples n)) (width_of_sample samples n)
sampled_at [] r n h = absurd (omega (arith, h))
sampled_at (s ∷ samples) r zero h = refl
sampled_at (s ∷ samples) r (suc n) h = sampled_at samples r n (omega (arith, h))

pub vars_agree : (vars : List VarDecl) (choice values : List Vector) → map (λ v. length v) choice ≡ map (λ v. v.width) vars → AgreesWhere (is_of_vars vars) (read (rows_of choice values)) (under_choice choice)
vars_agree vars choice values h (Chosen n) w t = reads (widths_in (vars_of vars)) choice (h ∙ var_widths vars) n w t
vars_agree vars choice values h (Now n) w t = cc
vars_agree vars choice values h (Prev n) w t = cc
vars_agree vars choice values h (Stim n) w t = cc
vars_agree vars choice values h (Sampled n) w t = cc

-- nodes of samples have what the samples have in the run
pub samples_are : (vars : List VarDecl) (samples : List Sample) (shapes : List Shape) (nodes : List ℕ) (choice : List Vector) (r : Run) → IsArena shapes → map (λ v. length v) choice ≡ map (λ v. v.width) vars
    → AreSampleNodes vars samples shapes nodes → HaveSamples choice samples (sampled r) shapes nodes → map (value_at (read (rows_of choice [])) shapes) nodes ≡ samples_in samples r
samples_are vars samples shapes nodes choice r i h there have =
    let value = value_at (read (rows_of choice [])) shapes in
    let long : length (samples_in samples r) ≡ length samples = length-map samples (λ (s : Sample). vector_of (sampled r (Some s)) s.width) in
    ext_get_or [] (map value nodes) (samples_in samples r) (length-map nodes value ∙ there.as_many ∙ sym long)
    (λ k l.
    let inside : k < length nodes = omega (arith, l, length-map nodes value) in
    let of : k < length samples = omega (arith, inside, there.as_many) in
    let node = there.each k of in
    get_or-map value nodes k 0 [] inside
    ∙ (values_alike (is_of_vars vars) (read (rows_of choice [])) (under_choice choice) shapes (get_or nodes k 0) i (vars_agree vars choice [] h) node.there node.mentions
    ∙ (have.values k of ∙ sym (sampled_at samples r k of))))

is_of_chosen : (vars : List VarDecl) (name : VarName) (w : ℕ) → IsTrue (is_of_vars vars name w) → IsTrue (is_chosen name w)
is_of_chosen vars (Chosen n) w t = refl
is_of_chosen vars (Now n) w t = cc
is_of_chosen vars (Prev n) w t = cc
is_of_chosen vars (Stim n) w t = cc
is_of_chosen vars (Sampled n) w t = cc

pub are_there : (vars : List VarDecl) (samples : List Sample) (shapes : List Shape) (nodes : List ℕ) → AreSampleNodes vars samples shapes nodes → All (λ node. node < length shapes) nodes
are_there vars samples shapes nodes there =
    All-from_get_or (λ node. node < length shapes) nodes 0 (λ k l. (there.each k (omega (arith, l, there.as_many))).there)

pub are_chosen : (vars : List VarDecl) (samples : List Sample) (shapes : List Shape) (nodes : List ℕ) → IsArena shapes → AreSampleNodes vars samples shapes nodes
    → All (λ node. IsTrue (each_variable is_chosen shapes node)) nodes
are_chosen vars samples shapes nodes i there =
    All-from_get_or (λ node. IsTrue (each_variable is_chosen shapes node)) nodes 0
    (λ k l. let node = there.each k (omega (arith, l, there.as_many)) in variables_weaker (is_of_vars vars) is_chosen shapes (get_or nodes k 0) i (is_of_chosen vars) node.there node.mentions)

-- ---- claims, which read samples alone

claims_agree : (samples : List Sample) (choice values : List Vector) → AgreesWhere (is_of_table [] samples) (read (rows_of choice values)) (read (rows_of [] values))
claims_agree samples choice values (Sampled n) w t = refl
claims_agree samples choice values (Chosen n) w t = absurd (let l : n < 0 = ltb-true n 0 (left_of _ _ t) in omega (arith, l))
claims_agree samples choice values (Now n) w t = cc
claims_agree samples choice values (Prev n) w t = cc
claims_agree samples choice values (Stim n) w t = cc

pub claim_value : (old new : List Shape) (samples : List Sample) (choice values : List Vector) (node : ℕ) → IsArena old → Extends old new → IsClaim old samples node
    → value_at (read (rows_of choice values)) new node ≡ value_at (read (rows_of [] values)) old node
claim_value old new samples choice values node a e c =
    value-extends (read (rows_of choice values)) old new node e c.there
    ∙ values_alike (is_of_table [] samples) (read (rows_of choice values)) (read (rows_of [] values)) old node a (claims_agree samples choice values) c.there c.mentions

-- the claims are 1 over the values that the samples' nodes have
pub ones_over : (old new : List Shape) (vars : List VarDecl) (own hyps claims : List ℕ) (samples : List Sample) (choice values : List Vector) → IsArena old → Extends old new → All (IsClaim old samples) claims
    → sampled_under (goal_of new vars own hyps claims) choice ≡ values → All (IsOne (goal_of new vars own hyps claims) choice) claims → All (IsOneOver old values) claims
ones_over old new vars own hyps claims samples choice values a e c same h = λ i d l.
    let node = get_or claims i d in
    sym (claim_value old new samples choice values node a e (c i d l)) ∙ ap (λ (v : List Vector). value_at (read (rows_of choice v)) new node) (sym same) ∙ h i d l

pub ones_under : (old new : List Shape) (vars : List VarDecl) (own hyps claims : List ℕ) (samples : List Sample) (choice values : List Vector) → IsArena old → Extends old new → All (IsClaim old samples) claims
    → sampled_under (goal_of new vars own hyps claims) choice ≡ values → All (IsOneOver old values) claims → All (IsOne (goal_of new vars own hyps claims) choice) claims
ones_under old new vars own hyps claims samples choice values a e c same h = λ i d l.
    let node = get_or claims i d in
    ap (λ (v : List Vector). value_at (read (rows_of choice v)) new node) same ∙ claim_value old new samples choice values node a e (c i d l) ∙ h i d l
