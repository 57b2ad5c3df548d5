-- What the literals of a goal tell, by the values of the nodes that the goal has.
use Rattle.std.proofs.Common.{◌≡◌, ℕ, zero, suc, ◌+◌, ◌<◌, ◌≤◌, ◌⊎◌, Bool, true, false, not, ◌&&◌, cond, eqb, List, [], ◌∷◌, ◌++◌, map, length, get_or, take, drop, Some, None, refl, sym, ap, ◌∙◌, subst, arith, inl, inr, ⊎_elim, All, IsTrue, get_or-take, get_or-drop, length-take-le, length-drop, length-append, slice_index, slice_index_or, get_or-append-add, lt-ltb, ne_eqb, drop_at}
use Rattle.std.specs.List.{list_all}
use lib.Seq.{take_at}
use Rattle.std.proofs.lemmas.Bool.{cases_lt, false≢true}
use Rattle.std.proofs.lemmas.List.Elements.{All-append}
use Rattle.std.proofs.lemmas.List.{get_or-map, get_or_past, length-map, get_or_append_left, get_or_default}
use Rattle.aig.specs.declared.gate.Gate.{Gate}
use Rattle.aig.specs.declared.gate.Lit.{Lit}
use Rattle.aig.specs.Graph.{value, count_inputs}
use Rattle.choice_inputs.specs.Questions.{inputs_of, Tells}
use Rattle.choice_inputs.proofs.Chosen.{bits_back, choice_long}
use Rattle.fourvec.specs.declared.Bit.TheVariants.{Zero, One, Unknown, Floating}
use Rattle.fourvec.specs.Bits.{all_x, is_known, is_one, first, truth_bit}
use Rattle.fourvec.proofs.Tables.{left_of, right_of}
use Rattle.svex_arena.specs.Arenas.{IsArena, Extends}
use Rattle.svex_arena.specs.Substs.{Replacements, AreAnswers, IsReplaced, replaced, given_or, fitting, entry_at}
use Rattle.svex_arena.proofs.Widths.{length-value_at}
use Rattle.svex_blast.specs.Chosen as b
use Rattle.svex_blast.specs.Chosen.{widths_of}
use Rattle.svex_blast.specs.Reads.{only_chosen, chosen_by}
use Rattle.svex_shape.specs.declared.shape.Shape.{Shape}
use Rattle.svex_shape.specs.declared.shape.VarName.{VarName}
use Rattle.svex_shape.specs.declared.shape.VarName.TheVariants.{Now, Prev, Stim, Chosen, Sampled}
use Rattle.svex_shape.specs.Shapes.{width_at}
use Rattle.svex_shape.specs.Values.{Vector, Reading, HasWidths, fitted, read, value_at, each_variable}
use Rattle.svex_shape.proofs.Readings.{read_has_widths}
use Rattle.svtv_choices.specs.Choices.{bits_of}
use Rattle.svtv_table.specs.Stimuli.{IsChoice}
use Rattle.svtv_table.specs.declared.bound.VarDecl.{VarDecl}
use Rattle.goal_gates.specs.Goals.{Goal, rows_of, sampled_under, value_under, IsOne, IsMeeting, IsBreaking, is_chosen}
use Rattle.goal_gates.specs.Gating.{is_true, all_true, AreTold}
use Rattle.goal_gates.proofs.Tops.{same_all}

-- ---- choices as inputs

pub bits_same : (vars : List VarDecl) → b.bits_of (widths_of vars) ≡ bits_of vars
unfolding b.bits_of bits_of
bits_same [] = refl
bits_same (x ∷ vars) = ap (λ n. x.width + n) (bits_same vars)

pub chosen_back : (vars : List VarDecl) (choice : List Vector) → map (λ v. length v) choice ≡ map (λ v. v.width) vars → All (λ v. IsTrue (is_known v)) choice → chosen_by (widths_of vars) (inputs_of choice) ≡ choice
unfolding chosen_by
chosen_back [] [] w k = refl
chosen_back [] (v ∷ choice) w k = absurd (let e = ap length w in omega (arith, e))
chosen_back (x ∷ vars) [] w k = absurd (let e = ap length w in omega (arith, e))
chosen_back (x ∷ vars) (v ∷ choice) w k =
    let e : length v ≡ x.width = ap (λ xs. get_or xs 0 0) w in
    let long : length (map is_one v) ≡ x.width = length-map v is_one ∙ e in
    let rest = chosen_back vars choice (ap (drop 1) w) (λ i d l. k (suc i) d (omega (arith, l))) in
    ap (λ bs. map truth_bit bs ∷ chosen_by (widths_of vars) (drop x.width (map is_one v ++ inputs_of choice))) (take_at (map is_one v) (inputs_of choice) x.width long)
    ∙ (ap (λ u. u ∷ chosen_by (widths_of vars) (drop x.width (map is_one v ++ inputs_of choice))) (bits_back v (k 0 v (omega arith)))
    ∙ ap (λ us. v ∷ us) (ap (chosen_by (widths_of vars)) (drop_at (map is_one v) (inputs_of choice) x.width long) ∙ rest))

-- ---- samples in place of their variables

abbrev pub by_of : List ℕ → Replacements
by_of samples = record { present = []; previous = []; stim = []; chosen = []; sampled = map Some samples }

fitted_none : (width : ℕ) → fitted width [] ≡ all_x width
unfolding fitted
fitted_none zero = refl
fitted_none (suc width) = ap (λ c. cond c [] (all_x (suc width))) (ne_eqb 0 (suc width) (λ e. absurd (omega (arith, e))))

sample_fits : (len : ℕ) (w : ℕ → ℕ) (f : ℕ → Vector) (x : Vector) (n width : ℕ) → n < len → length (f n) ≡ w n → x ≡ all_x width → given_or f x (fitting len w (Some n) width) ≡ fitted width (f n)
unfolding fitting fitted
sample_fits len w f x n width l e h =
    ap (λ c. given_or f x (cond (c && eqb (w n) width) (Some n) None)) (lt-ltb n len l)
    ∙ (either (eqb (w n) width) ∙ ap (λ m. cond (eqb m width) (f n) (all_x width)) (sym e))
  where
    either : (c : Bool) → given_or f x (cond (true && c) (Some n) None) ≡ cond c (f n) (all_x width)
    either true = refl
    either false = h

sample_read : (r : Reading) (shapes : List Shape) (samples : List ℕ) (k width : ℕ) → HasWidths r → IsArena shapes → All (λ n. n < length shapes) samples → r (Sampled k) width ≡ all_x width
    → replaced r (by_of samples) shapes (Sampled k) width ≡ fitted width (slice_index_or (map (value_at r shapes) samples) k [])
unfolding fitting
sample_read r shapes samples k width w a h x = ⊎_elim
    (λ l.
    let n : ℕ = get_or samples k 0 in
    let named : entry_at (map Some samples) k ≡ Some n = get_or-map Some samples k 0 None l in
    let valued : get_or (map (value_at r shapes) samples) k [] ≡ value_at r shapes n = get_or-map (value_at r shapes) samples k 0 [] l in
    let there : n < length shapes = h k 0 l in
    ap (λ o. given_or (value_at r shapes) (r (Sampled k) width) (fitting (length shapes) (width_at shapes) o width)) named
    ∙ (sample_fits (length shapes) (width_at shapes) (value_at r shapes) (r (Sampled k) width) n width there (length-value_at r shapes n w a there) x
    ∙ ap (fitted width) (sym valued)))
    (λ l.
    ap (λ o. given_or (value_at r shapes) (r (Sampled k) width) (fitting (length shapes) (width_at shapes) o width)) (get_or_past (map Some samples) k None (omega (arith, l, length-map samples (λ n. Some n))))
    ∙ (x ∙ (sym (fitted_none width) ∙ ap (fitted width) (sym (get_or_past (map (value_at r shapes) samples) k [] (omega (arith, l, length-map samples (value_at r shapes))))))))
    (cases_lt k (length samples))

reads_same : (shapes : List Shape) (samples : List ℕ) (choice : List Vector) → IsArena shapes → All (λ n. n < length shapes) samples → (name : VarName) (width : ℕ)
    → replaced (read (only_chosen choice)) (by_of samples) shapes name width ≡ read (rows_of choice (map (value_at (read (only_chosen choice)) shapes) samples)) name width
unfolding fitting
reads_same shapes samples choice a h (Now k) width = refl
reads_same shapes samples choice a h (Prev k) width = refl
reads_same shapes samples choice a h (Stim k) width = refl
reads_same shapes samples choice a h (Chosen k) width = refl
reads_same shapes samples choice a h (Sampled k) width =
    sample_read (read (only_chosen choice)) shapes samples k width (read_has_widths (only_chosen choice)) a h (fitted_none width)

-- ---- answers

abbrev pub roots_of : Goal → List ℕ
roots_of g = (g.hyps ++ g.claims) ++ g.samples

-- the nodes of a goal, with its samples in place of their variables
pub record IsPut (g : Goal) (new : List Shape) (answers : List ℕ) : Type 0 where
  pub arena : IsArena g.shapes
  pub grown : IsArena new
  pub extends : Extends g.shapes new
  pub samples : All (λ n. n < length g.shapes) g.samples
  pub chosen : All (λ n. IsTrue (each_variable is_chosen g.shapes n)) g.samples
  pub hyps : All (λ n. n < length g.shapes) g.hyps
  pub claims : All (λ n. n < length g.shapes) g.claims
  pub one_bit : All (λ n. width_at g.shapes n ≡ 1) g.hyps
  pub one_bit_claims : All (λ n. width_at g.shapes n ≡ 1) g.claims
  pub answered : AreAnswers g.shapes (by_of g.samples) new (roots_of g) answers
  pub replaced : IsReplaced g.shapes (by_of g.samples) new (roots_of g) answers

-- how many roots are hypotheses and claims
abbrev pub count_of : Goal → ℕ
count_of g = length g.hyps + length g.claims

pub roots_long : (g : Goal) → length (roots_of g) ≡ length g.hyps + length g.claims + length g.samples
roots_long g = omega (arith, length-append (g.hyps ++ g.claims) g.samples, length-append g.hyps g.claims)

pub root_hyp : (g : Goal) (i d : ℕ) → i < length g.hyps → get_or (roots_of g) i d ≡ get_or g.hyps i d
root_hyp g i d l =
    get_or_append_left (g.hyps ++ g.claims) g.samples d i (omega (arith, l, length-append g.hyps g.claims)) ∙ get_or_append_left g.hyps g.claims d i l

pub root_claim : (g : Goal) (i d : ℕ) → i < length g.claims → get_or (roots_of g) (length g.hyps + i) d ≡ get_or g.claims i d
root_claim g i d l =
    get_or_append_left (g.hyps ++ g.claims) g.samples d (length g.hyps + i) (omega (arith, l, length-append g.hyps g.claims)) ∙ get_or-append-add g.hyps g.claims i d

pub root_sample : (g : Goal) (i d : ℕ) → i < length g.samples → get_or (roots_of g) (length g.hyps + length g.claims + i) d ≡ get_or g.samples i d
root_sample g i d l =
    ap (λ n. get_or (roots_of g) (n + i) d) (sym (length-append g.hyps g.claims)) ∙ get_or-append-add (g.hyps ++ g.claims) g.samples i d

abbrev pub truth_under : Goal → List Vector → ℕ → Bool
truth_under g choice node = is_one (first (value_under g choice node))

answer_true : (g : Goal) (new : List Shape) (answers : List ℕ) (choice : List Vector) → IsPut g new answers → (i : ℕ) → i < length (roots_of g)
    → is_true (only_chosen choice) new (slice_index answers i) ≡ truth_under g choice (slice_index (roots_of g) i)
answer_true g new answers choice p i l =
    let r : Reading = read (only_chosen choice) in
    let same : replaced r (by_of g.samples) g.shapes ≡ read (rows_of choice (sampled_under g choice)) = λ j name width. reads_same g.shapes g.samples choice p.arena p.samples name width j in
    ap (λ v. is_one (first v)) (p.replaced.values r i l ∙ ap (λ s. value_at s g.shapes (slice_index (roots_of g) i)) same)

hyps_true : (g : Goal) (new : List Shape) (answers : List ℕ) (choice : List Vector) → IsPut g new answers
    → all_true (only_chosen choice) new (take (length g.hyps) (take (count_of g) answers)) ≡ list_all (truth_under g choice) g.hyps
hyps_true g new answers choice p =
    let n : ℕ = length g.hyps in
    let size : length answers ≡ length g.hyps + length g.claims + length g.samples = p.answered.size ∙ roots_long g in
    let part : length (take (count_of g) answers) ≡ count_of g = length-take-le (count_of g) answers (omega (arith, size)) in
    let long : length (take n (take (count_of g) answers)) ≡ n = length-take-le n (take (count_of g) answers) (omega (arith, part)) in
    same_all (is_true (only_chosen choice) new) (truth_under g choice) (take n (take (count_of g) answers)) g.hyps 0 long
    (λ i d l.
    ap (is_true (only_chosen choice) new) (get_or-take n (take (count_of g) answers) i d l ∙ (get_or-take (count_of g) answers i d (omega (arith, l)) ∙ get_or_default answers i d 0 (omega (arith, l, size))))
    ∙ (answer_true g new answers choice p i (omega (arith, l, roots_long g)) ∙ ap (truth_under g choice) (root_hyp g i 0 l)))

claims_true : (g : Goal) (new : List Shape) (answers : List ℕ) (choice : List Vector) → IsPut g new answers
    → all_true (only_chosen choice) new (drop (length g.hyps) (take (count_of g) answers)) ≡ list_all (truth_under g choice) g.claims
claims_true g new answers choice p =
    let n : ℕ = length g.hyps in
    let size : length answers ≡ length g.hyps + length g.claims + length g.samples = p.answered.size ∙ roots_long g in
    let part : length (take (count_of g) answers) ≡ count_of g = length-take-le (count_of g) answers (omega (arith, size)) in
    let long : length (drop n (take (count_of g) answers)) ≡ length g.claims = omega (arith, length-drop n (take (count_of g) answers), part) in
    same_all (is_true (only_chosen choice) new) (truth_under g choice) (drop n (take (count_of g) answers)) g.claims 0 long
    (λ i d l.
    ap (is_true (only_chosen choice) new) (get_or-drop n (take (count_of g) answers) i d ∙ (get_or-take (count_of g) answers (n + i) d (omega (arith, l)) ∙ get_or_default answers (n + i) d 0 (omega (arith, l, size))))
    ∙ (answer_true g new answers choice p (n + i) (omega (arith, l, roots_long g)) ∙ ap (truth_under g choice) (root_claim g i 0 l)))

-- ---- truths of nodes of one bit

one_of : (v : Vector) → length v ≡ 1 → is_one (first v) ≡ true → v ≡ One ∷ []
one_of [] e h = absurd (omega (arith, e))
one_of (One ∷ []) e h = refl
one_of (Zero ∷ []) e h = cc
one_of (Unknown ∷ []) e h = cc
one_of (Floating ∷ []) e h = cc
one_of (x ∷ y ∷ v) e h = absurd (omega (arith, e))

value_long : (g : Goal) (choice : List Vector) (node : ℕ) → IsArena g.shapes → node < length g.shapes → width_at g.shapes node ≡ 1 → length (value_under g choice node) ≡ 1
value_long g choice node a l w =
    length-value_at (read (rows_of choice (sampled_under g choice))) g.shapes node (read_has_widths (rows_of choice (sampled_under g choice))) a l ∙ w

pub all_ones : (g : Goal) (choice : List Vector) (nodes : List ℕ) → IsArena g.shapes → All (λ n. n < length g.shapes) nodes → All (λ n. width_at g.shapes n ≡ 1) nodes → list_all (truth_under g choice) nodes ≡ true → All (IsOne g choice) nodes
all_ones g choice [] a l w h i d lt = absurd (omega (arith, lt))
all_ones g choice (x ∷ nodes) a l w h zero d lt =
    one_of (value_under g choice x) (value_long g choice x a (l 0 x (omega arith)) (w 0 x (omega arith))) (left_of (truth_under g choice x) (list_all (truth_under g choice) nodes) h)
all_ones g choice (x ∷ nodes) a l w h (suc i) d lt =
    all_ones g choice nodes a (λ j e k. l (suc j) e (omega (arith, k))) (λ j e k. w (suc j) e (omega (arith, k))) (right_of (truth_under g choice x) (list_all (truth_under g choice) nodes) h) i d (omega (arith, lt))

pub ones_all : (g : Goal) (choice : List Vector) (nodes : List ℕ) → All (IsOne g choice) nodes → list_all (truth_under g choice) nodes ≡ true
ones_all g choice [] h = refl
ones_all g choice (x ∷ nodes) h =
    ap (λ v. is_one (first v) && list_all (truth_under g choice) nodes) (h 0 x (omega arith)) ∙ ones_all g choice nodes (λ i d l. h (suc i) d (omega (arith, l)))

-- ---- the two literals

abbrev pub told_in : Goal → List Shape → List ℕ → List Gate → Lit → Lit → Type 0
told_in g new answers gates met broken = AreTold g.vars new (take (length g.hyps) (take (count_of g) answers)) (drop (length g.hyps) (take (count_of g) answers)) gates met broken

inputs_fit : (vars : List VarDecl) (choice : List Vector) (gates : List Gate) → IsChoice vars choice → count_inputs gates ≡ b.bits_of (widths_of vars) → length (inputs_of choice) ≡ count_inputs gates
inputs_fit vars choice gates c n = choice_long vars choice c ∙ (sym (bits_same vars) ∙ sym n)

met_value : (g : Goal) (new : List Shape) (answers : List ℕ) (gates : List Gate) (met broken : Lit) (choice : List Vector) → IsPut g new answers → told_in g new answers gates met broken → IsChoice g.vars choice
    → value (inputs_of choice) gates met ≡ list_all (truth_under g choice) g.hyps
met_value g new answers gates met broken choice p t c =
    t.is_met (inputs_of choice) (inputs_fit g.vars choice gates c t.inputs)
    ∙ (ap (λ vs. all_true (only_chosen vs) new (take (length g.hyps) (take (count_of g) answers))) (chosen_back g.vars choice c.widths c.known) ∙ hyps_true g new answers choice p)

broken_value : (g : Goal) (new : List Shape) (answers : List ℕ) (gates : List Gate) (met broken : Lit) (choice : List Vector) → IsPut g new answers → told_in g new answers gates met broken → IsChoice g.vars choice
    → value (inputs_of choice) gates broken ≡ (list_all (truth_under g choice) g.hyps && not (list_all (truth_under g choice) g.claims))
broken_value g new answers gates met broken choice p t c =
    let hyps = take (length g.hyps) (take (count_of g) answers) in
    let claims = drop (length g.hyps) (take (count_of g) answers) in
    t.is_broken (inputs_of choice) (inputs_fit g.vars choice gates c t.inputs)
    ∙ (ap (λ vs. all_true (only_chosen vs) new hyps && not (all_true (only_chosen vs) new claims)) (chosen_back g.vars choice c.widths c.known)
    ∙ (ap (λ x. x && not (all_true (only_chosen choice) new claims)) (hyps_true g new answers choice p)
    ∙ ap (λ x. list_all (truth_under g choice) g.hyps && not x) (claims_true g new answers choice p)))

pub tells_meets : (g : Goal) (new : List Shape) (answers : List ℕ) (gates : List Gate) (met broken : Lit) → IsPut g new answers → told_in g new answers gates met broken → Tells g.vars (IsMeeting g) gates met
tells_meets g new answers gates met broken p t = record {
  graph = t.graph;
  within = t.met_in;
  inputs = t.inputs ∙ bits_same g.vars;
  told = λ choice c.
      let e = met_value g new answers gates met broken choice p t c in (
        λ h. record { is = c; meets = all_ones g choice g.hyps p.arena p.hyps p.one_bit (sym e ∙ h) },
        λ m. e ∙ ones_all g choice g.hyps m.meets,
      );
}

not_true : (x : Bool) → not x ≡ true → x ≡ true → ⊥
not_true true h k = false≢true h
not_true false h k = false≢true k

not_false : (x : Bool) → (x ≡ true → ⊥) → not x ≡ true
not_false true h = absurd (h refl)
not_false false h = refl

pub tells_breaks : (g : Goal) (new : List Shape) (answers : List ℕ) (gates : List Gate) (met broken : Lit) → IsPut g new answers → told_in g new answers gates met broken → Tells g.vars (IsBreaking g) gates broken
tells_breaks g new answers gates met broken p t = record {
  graph = t.graph;
  within = t.broken_in;
  inputs = t.inputs ∙ bits_same g.vars;
  told = λ choice c.
      let a : Bool = list_all (truth_under g choice) g.hyps in
      let k : Bool = list_all (truth_under g choice) g.claims in
      let e : value (inputs_of choice) gates broken ≡ (a && not k) = broken_value g new answers gates met broken choice p t c in (
        λ h. record {
          meets = record { is = c; meets = all_ones g choice g.hyps p.arena p.hyps p.one_bit (left_of a (not k) (sym e ∙ h)) };
          breaks = λ ones. not_true k (right_of a (not k) (sym e ∙ h)) (ones_all g choice g.claims ones);
        },
        λ m.
            e ∙ (ap (λ x. x && not k) (ones_all g choice g.hyps m.meets.meets) ∙ not_false k (λ h. m.breaks (all_ones g choice g.claims p.arena p.claims p.one_bit_claims h))),
      );
}

-- ---- the pieces of the code

pub put_from : (g : Goal) (new : List Shape) (by : Replacements) (roots passed answers : List ℕ) → by ≡ by_of g.samples → roots ≡ roots_of g → passed ≡ roots → IsArena g.shapes → IsArena new → Extends g.shapes new
    → All (λ n. n < length g.shapes) g.samples → All (λ n. IsTrue (each_variable is_chosen g.shapes n)) g.samples → All (λ n. n < length g.shapes) g.hyps → All (λ n. n < length g.shapes) g.claims
    → All (λ n. width_at g.shapes n ≡ 1) g.hyps → All (λ n. width_at g.shapes n ≡ 1) g.claims
    → AreAnswers g.shapes by new passed answers → IsReplaced g.shapes by new passed answers → IsPut g new answers
put_from g new by roots passed answers eb er ep arena grown extends samples chosen hyps claims one one_claims a r =
    let e : passed ≡ roots_of g = ep ∙ er in
    record {
      arena = arena;
      grown = grown;
      extends = extends;
      samples = samples;
      chosen = chosen;
      hyps = hyps;
      claims = claims;
      one_bit = one;
      one_bit_claims = one_claims;
      answered = subst (λ x. AreAnswers g.shapes (by_of g.samples) new x answers) e (subst (λ x. AreAnswers g.shapes x new passed answers) eb a);
      replaced = subst (λ x. IsReplaced g.shapes (by_of g.samples) new x answers) e (subst (λ x. IsReplaced g.shapes x new passed answers) eb r);
    }

pub told_from : (g : Goal) (new : List Shape) (answers part : List ℕ) (gates : List Gate) (met broken : Lit) → part ≡ take (count_of g) answers
    → AreTold g.vars new (take (length g.hyps) part) (drop (length g.hyps) part) gates met broken → told_in g new answers gates met broken
told_from g new answers part gates met broken e t = subst (λ xs. AreTold g.vars new (take (length g.hyps) xs) (drop (length g.hyps) xs) gates met broken) e t

-- whether all claims are 1 under a choice
pub ones_or_not : (g : Goal) (choice : List Vector) (nodes : List ℕ) → IsArena g.shapes → All (λ n. n < length g.shapes) nodes → All (λ n. width_at g.shapes n ≡ 1) nodes → All (IsOne g choice) nodes ⊎ (All (IsOne g choice) nodes → ⊥)
ones_or_not g choice nodes a l w = by_test (list_all (truth_under g choice) nodes) refl
  where
    by_test : (b : Bool) → list_all (truth_under g choice) nodes ≡ b → All (IsOne g choice) nodes ⊎ (All (IsOne g choice) nodes → ⊥)
    by_test true e = inl (all_ones g choice nodes a l w e)
    by_test false e = inr (λ h. false≢true (sym e ∙ ones_all g choice nodes h))

pub extends_itself : (shapes : List Shape) → Extends shapes shapes
extends_itself shapes = record { longer = omega arith; same = λ k l. refl }

pub roots_within : (len : ℕ) (hyps claims samples roots passed : List ℕ) → passed ≡ roots → roots ≡ (hyps ++ claims) ++ samples → All (λ n. n < len) hyps → All (λ n. n < len) claims → All (λ n. n < len) samples → (i : ℕ) → i < length passed → slice_index passed i < len
roots_within len hyps claims samples roots passed ep er h c s i l =
    subst (All (λ n. n < len)) (sym (ep ∙ er)) (All-append (λ n. n < len) (hyps ++ claims) samples (All-append (λ n. n < len) hyps claims h c) s) i 0 l

pub part_fits : (hyps claims samples roots passed answers now : List ℕ) → passed ≡ roots → roots ≡ (hyps ++ claims) ++ samples → length answers ≡ length passed → now ≡ answers → length hyps + length claims ≤ length now
part_fits hyps claims samples roots passed answers now ep er size en =
    omega (arith, ap length ep, ap length er, size, ap length en, length-append (hyps ++ claims) samples, length-append hyps claims)

pub part_within : (len n : ℕ) (passed answers now : List ℕ) → now ≡ answers → length answers ≡ length passed → n ≤ length now → ((i : ℕ) → i < length passed → slice_index answers i < len) → All (λ k. k < len) (take n now)
part_within len n passed answers now en size le w k d l =
    let lt : k < n = omega (arith, l, length-take-le n now le) in
    let there : k < length answers = omega (arith, lt, le, ap length en) in
    subst (λ x. x < len) (sym (get_or-take n now k d lt ∙ (ap (λ xs. get_or xs k d) en ∙ get_or_default answers k d 0 there))) (w k (omega (arith, there, size)))
