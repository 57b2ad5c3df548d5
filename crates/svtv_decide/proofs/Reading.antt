-- What nodes have under a choice and the samples of a run, and what their expressions have there.
use Rattle.std.proofs.Common.{◌≡◌, ℕ, zero, suc, ◌<◌, Bool, true, cond, List, [], ◌∷◌, length, get_or, map, drop, refl, sym, ap, ◌∙◌, arith, IsTrue, Some, zero-add}
use Rattle.std.specs.Prelude.{slice_get}
use Rattle.std.specs.List.{All, range_with_len}
use Rattle.std.proofs.lemmas.Bool.{eqb-true, eq-eqb, ltb-true}
use Rattle.std.proofs.lemmas.List.Elements.{All-from_get_or}
use Rattle.std.proofs.lemmas.List.{get_or-map, ext_get_or, length-map}
use Rattle.std.proofs.lemmas.List.FromFn.{get_or-map-range_with_len, length-map-range_with_len}
use Rattle.driver_resolve.specs.Drivers.{bitwise, is_wire}
use Rattle.event_nets.specs.Tables.{store_of}
use Rattle.fourvec.specs.declared.Bit.{Bit}
use Rattle.fourvec.specs.declared.Bit.TheVariants.{Unknown}
use Rattle.fourvec.specs.Bits.{all_x}
use Rattle.fourvec.proofs.Tables.{left_of, right_of}
use Rattle.goal_gates.specs.Goals.{rows_of, is_chosen}
use Rattle.goal_text.specs.Nodes.{IsTruth}
use Rattle.goal_text.specs.Scopes.{table_read, is_of_vars, is_of_table, widths_in, vars_of, sampled_of, variables_of, claims_scope}
use Rattle.sv_meaning.specs.Layouts.{Scope, Origin, of_wires, of_choice, of_samples}
use Rattle.sv_meaning.specs.Meanings.{truth}
use Rattle.sv_meaning.specs.Values.{mean}
use Rattle.sv_tree.specs.declared.exprs.Expr.{Expr}
use Rattle.svex_shape.specs.declared.shape.Shape.{Shape}
use Rattle.svex_shape.specs.declared.shape.VarName.{VarName}
use Rattle.svex_shape.specs.declared.shape.VarName.TheVariants.{Now, Prev, Stim, Chosen, Sampled}
use Rattle.svex_arena.specs.Arenas.{IsArena}
use Rattle.svex_shape.specs.Values.{Vector, Rows, fitted, read, value_at, each_variable, AgreesWhere}
use Rattle.svex_arena.proofs.Lifted.{values_alike, variables_weaker}
use Rattle.svtv_runs.specs.Runs.{Run}
use Rattle.svtv_runs.specs.Truths.{no_run, sampled, table_values, valuation}
use Rattle.svtv_table.specs.declared.bound.Sample.{Sample}
use Rattle.svtv_table.specs.declared.bound.VarDecl.{VarDecl}
use Rattle.svtv_machine.specs.Passed.{AreSampleNodes, HaveSamples, choice_bits, under_choice, vector_of, width_of_sample}
use Rattle.svtv_verdicts.specs.Benches.{sampled_in}

-- ---- vectors by their bits

row_whole : (v : Vector) (w : ℕ) → length v ≡ w → map (λ k. get_or v k Unknown) (range_with_len 0 w) ≡ v
row_whole v w e =
    let f : ℕ → Bit = λ k. get_or v k Unknown in
    ext_get_or Unknown (map f (range_with_len 0 w)) v (length-map-range_with_len f 0 w ∙ sym e)
    (λ i lt. get_or-map-range_with_len f 0 w i i Unknown (omega (arith, lt, length-map-range_with_len f 0 w)) (zero-add i))

fitted_same : (w : ℕ) (v : Vector) → length v ≡ w → fitted w v ≡ v
unfolding fitted
fitted_same w v e = ap (λ t. cond t v (all_x w)) (eq-eqb (length v) w e)

width_there : (widths : List ℕ) (rows : List Vector) → map (λ r. length r) rows ≡ widths → (n : ℕ) → n < length widths → length (get_or rows n []) ≡ get_or widths n 0
width_there widths rows v n h =
    sym (get_or-map (λ row. length row) rows n [] 0 (omega (arith, ap length v, length-map rows (λ (row : Vector). length row), h))) ∙ ap (λ l. get_or l n 0) v

-- ---- what variables and samples read

reads : (widths : List ℕ) (rows : List Vector) → map (λ r. length r) rows ≡ widths → (n w : ℕ) → is_wire widths n w ≡ true → fitted w (get_or rows n []) ≡ map (λ k. get_or (get_or rows n []) k Unknown) (range_with_len 0 w)
reads widths rows v n w t =
    let there : n < length widths = ltb-true n (length widths) (left_of _ _ t) in
    let wide : length (get_or rows n []) ≡ w = width_there widths rows v n there ∙ eqb-true (get_or widths n 0) w (right_of _ _ t) in
    fitted_same w (get_or rows n []) wide ∙ sym (row_whole (get_or rows n []) w wide)

var_widths : (vars : List VarDecl) → map (λ v. v.width) vars ≡ widths_in (vars_of vars)
var_widths [] = refl
var_widths (v ∷ vars) = ap (λ ws. v.width ∷ ws) (var_widths vars)

sampled_widths : (samples : List Sample) → map (λ s. s.width) samples ≡ widths_in (sampled_of samples)
sampled_widths [] = refl
sampled_widths (s ∷ samples) = ap (λ ws. s.width ∷ ws) (sampled_widths samples)

-- the values of samples are the bits of the run
sampled_at : (samples : List Sample) (r : Run) (n : ℕ) → n < length samples → get_or (sampled_in samples r) n [] ≡ vector_of (sampled r (slice_get samples n)) (width_of_sample samples n)
sampled_at [] r n h = absurd (omega (arith, h))
sampled_at (s ∷ samples) r zero h = refl
sampled_at (s ∷ samples) r (suc n) h = sampled_at samples r n (omega (arith, h))

sample_reads : (samples : List Sample) (r : Run) (n w : ℕ) → is_wire (widths_in (sampled_of samples)) n w ≡ true → fitted w (get_or (sampled_in samples r) n []) ≡ vector_of (sampled r (slice_get samples n)) w
sample_reads samples r n w t =
    let widths = map (λ s. s.width) samples in
    let own : is_wire widths n w ≡ true = ap (λ ws. is_wire ws n w) (sampled_widths samples) ∙ t in
    let there : n < length samples = omega (arith, ltb-true n (length widths) (left_of _ _ own), length-map samples (λ (s : Sample). s.width)) in
    let wide : width_of_sample samples n ≡ w = eqb-true (get_or widths n 0) w (right_of _ _ own) in
    let is : get_or (sampled_in samples r) n [] ≡ vector_of (sampled r (slice_get samples n)) w =
    sampled_at samples r n there ∙ ap (vector_of (sampled r (slice_get samples n))) wide in
    ap (fitted w) is ∙ fitted_same w (vector_of (sampled r (slice_get samples n)) w) (length-map-range_with_len (sampled r (slice_get samples n)) 0 w)

pub vars_agree : (vars : List VarDecl) (choice values : List Vector) → map (λ v. length v) choice ≡ map (λ v. v.width) vars → AgreesWhere (is_of_vars vars) (read (rows_of choice values)) (under_choice choice)
vars_agree vars choice values h (Chosen n) w t = reads (widths_in (vars_of vars)) choice (h ∙ var_widths vars) n w t
vars_agree vars choice values h (Now n) w t = cc
vars_agree vars choice values h (Prev n) w t = cc
vars_agree vars choice values h (Stim n) w t = cc
vars_agree vars choice values h (Sampled n) w t = cc

-- the bits of a choice, and of samples in a run
abbrev run_bits : List Sample → List Vector → Run → VarName → ℕ → Bit
run_bits samples choice r (Chosen n) k = get_or (get_or choice n []) k Unknown
run_bits samples choice r (Sampled n) k = sampled r (slice_get samples n) k
run_bits samples choice r name k = Unknown

table_agrees : (vars : List VarDecl) (samples : List Sample) (choice : List Vector) (r : Run) → map (λ v. length v) choice ≡ map (λ v. v.width) vars
    → AgreesWhere (is_of_table vars samples) (read (rows_of choice (sampled_in samples r))) (bitwise (run_bits samples choice r))
table_agrees vars samples choice r h (Chosen n) w t = reads (widths_in (vars_of vars)) choice (h ∙ var_widths vars) n w t
table_agrees vars samples choice r h (Sampled n) w t = sample_reads samples r n w t
table_agrees vars samples choice r h (Now n) w t = cc
table_agrees vars samples choice r h (Prev n) w t = cc
table_agrees vars samples choice r h (Stim n) w t = cc

-- ---- what nodes and expressions have

node_is : (at : Scope) (allowed : VarName → ℕ → Bool) (shapes : List Shape) (rows : Rows) (bits : VarName → ℕ → Bit) (x : Expr) (node : ℕ) → IsArena shapes → AgreesWhere allowed (read rows) (bitwise bits)
    → IsTruth at allowed shapes x node → value_at (read rows) shapes node ≡ truth (mean at x) (table_read bits) ∷ []
node_is at allowed shapes rows bits x node i agrees t = values_alike allowed (read rows) (bitwise bits) shapes node i agrees t.within t.mentions ∙ t.value bits

hyp_reads : (choice : List Vector) (o : Origin) (n k : ℕ) → table_read (choice_bits choice) o n k ≡ table_values [] choice no_run o n k
hyp_reads choice of_wires n k = refl
hyp_reads choice of_choice n k = refl
hyp_reads choice of_samples n k = refl

claim_reads : (samples : List Sample) (choice : List Vector) (r : Run) (o : Origin) (n k : ℕ) → table_read (run_bits samples choice r) o n k ≡ table_values samples choice r o n k
claim_reads samples choice r of_wires n k = refl
claim_reads samples choice r of_choice n k = refl
claim_reads samples choice r of_samples n k = refl

-- a node of a hypothesis has its truth under the choice, whatever samples have
pub hyp_is : (vars : List VarDecl) (shapes : List Shape) (choice values : List Vector) (x : Expr) (node : ℕ) → IsArena shapes → map (λ v. length v) choice ≡ map (λ v. v.width) vars
    → IsTruth (variables_of vars) (is_of_vars vars) shapes x node → value_at (read (rows_of choice values)) shapes node ≡ truth (mean (variables_of vars) x) (table_values [] choice no_run) ∷ []
hyp_is vars shapes choice values x node i h t =
    let same : table_read (choice_bits choice) ≡ table_values [] choice no_run = λ j o n k. hyp_reads choice o n k j in
    node_is (variables_of vars) (is_of_vars vars) shapes (rows_of choice values) (choice_bits choice) x node i (vars_agree vars choice values h) t
    ∙ ap (λ read. truth (mean (variables_of vars) x) read ∷ []) same

-- a node of a claim has its truth in the run
pub claim_is : (vars : List VarDecl) (samples : List Sample) (shapes : List Shape) (choice : List Vector) (r : Run) (x : Expr) (node : ℕ) → IsArena shapes → map (λ v. length v) choice ≡ map (λ v. v.width) vars
    → IsTruth (claims_scope vars samples) (is_of_table vars samples) shapes x node
    → value_at (read (rows_of choice (sampled_in samples r))) shapes node ≡ truth (mean (claims_scope vars samples) x) (table_values samples choice r) ∷ []
claim_is vars samples shapes choice r x node i h t =
    let same : table_read (run_bits samples choice r) ≡ table_values samples choice r = λ j o n k. claim_reads samples choice r o n k j in
    node_is (claims_scope vars samples) (is_of_table vars samples) shapes (rows_of choice (sampled_in samples r)) (run_bits samples choice r) x node i (table_agrees vars samples choice r h) t
    ∙ ap (λ read. truth (mean (claims_scope vars samples) x) read ∷ []) same

-- nodes of samples have what the samples have in the run
pub samples_are : (vars : List VarDecl) (samples : List Sample) (shapes : List Shape) (nodes : List ℕ) (choice : List Vector) (r : Run) → IsArena shapes → map (λ v. length v) choice ≡ map (λ v. v.width) vars
    → AreSampleNodes vars samples shapes nodes → HaveSamples choice samples (sampled r) shapes nodes → map (value_at (read (rows_of choice [])) shapes) nodes ≡ sampled_in samples r
samples_are vars samples shapes nodes choice r i h there have =
    let value = value_at (read (rows_of choice [])) shapes in
    let long : length (sampled_in samples r) ≡ length samples = length-map samples (λ (s : Sample). vector_of (sampled r (Some s)) s.width) in
    ext_get_or [] (map value nodes) (sampled_in samples r) (length-map nodes value ∙ there.as_many ∙ sym long)
    (λ k l.
    let inside : k < length nodes = omega (arith, l, length-map nodes value) in
    let of : k < length samples = omega (arith, inside, there.as_many) in
    let node = there.each k of in
    get_or-map value nodes k 0 [] inside
    ∙ (values_alike (is_of_vars vars) (read (rows_of choice [])) (under_choice choice) shapes (get_or nodes k 0) i (vars_agree vars choice [] h) node.there node.mentions
    ∙ (have.values k of ∙ sym (sampled_at samples r k of))))

-- values of these widths that have the bits of a run are its samples
pub shown_is : (samples : List Sample) (r : Run) (values : List Vector) → map (λ v. length v) values ≡ map (λ s. s.width) samples → ((n k : ℕ) → store_of values n k ≡ sampled r (slice_get samples n) k)
    → values ≡ sampled_in samples r
shown_is [] r [] w e = refl
shown_is [] r (v ∷ values) w e = absurd (let l = ap length w in omega (arith, l))
shown_is (s ∷ samples) r [] w e = absurd (let l = ap length w in omega (arith, l))
shown_is (s ∷ samples) r (v ∷ values) w e =
    let wide : length v ≡ s.width = ap (λ xs. get_or xs 0 0) w in
    let bits : (λ k. get_or v k Unknown) ≡ valuation r s.phase s.wire = λ j k. e 0 k j in
    let one : v ≡ map (valuation r s.phase s.wire) (range_with_len 0 s.width) = sym (row_whole v s.width wide) ∙ ap (λ f. map f (range_with_len 0 s.width)) bits in
    ap (λ x. x ∷ values) one ∙ ap (λ xs. map (valuation r s.phase s.wire) (range_with_len 0 s.width) ∷ xs) (shown_is samples r values (ap (drop 1) w) (λ n k. e (suc n) k))

-- ---- what is asked of nodes

is_of_chosen : (vars : List VarDecl) (name : VarName) (w : ℕ) → IsTrue (is_of_vars vars name w) → IsTrue (is_chosen name w)
is_of_chosen vars (Chosen n) w t = refl
is_of_chosen vars (Now n) w t = cc
is_of_chosen vars (Prev n) w t = cc
is_of_chosen vars (Stim n) w t = cc
is_of_chosen vars (Sampled n) w t = cc

pub are_there : (vars : List VarDecl) (samples : List Sample) (shapes : List Shape) (nodes : List ℕ) → AreSampleNodes vars samples shapes nodes → All (λ node. node < length shapes) nodes
are_there vars samples shapes nodes there =
    All-from_get_or (λ node. node < length shapes) nodes 0 (λ k l. (there.each k (omega (arith, l, there.as_many))).there)

-- nodes over the variables of a table mention nothing else
pub are_chosen : (vars : List VarDecl) (samples : List Sample) (shapes : List Shape) (nodes : List ℕ) → IsArena shapes → AreSampleNodes vars samples shapes nodes
    → All (λ node. IsTrue (each_variable is_chosen shapes node)) nodes
are_chosen vars samples shapes nodes i there =
    All-from_get_or (λ node. IsTrue (each_variable is_chosen shapes node)) nodes 0
    (λ k l. let node = there.each k (omega (arith, l, there.as_many)) in variables_weaker (is_of_vars vars) is_chosen shapes (get_or nodes k 0) i (is_of_chosen vars) node.there node.mentions)
