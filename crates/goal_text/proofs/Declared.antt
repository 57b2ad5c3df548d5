-- What the scopes of goals declare.
use Rattle.std.proofs.Common.{◌≡◌, ℕ, zero, suc, ◌+◌, ◌<◌, ◌⊎◌, inl, inr, true, false, List, [], ◌∷◌, ◌++◌, length, get_or, IsTrue, sym, ap, ◌∙◌, subst, arith}
use Rattle.std.specs.Prelude.{nat_lt, ◌==◌, All}
use Rattle.std.specs.List.{Contains}
use Rattle.std.proofs.lemmas.List.Elements.{All-get_or, All-map, Contains-append_cases}
use Rattle.std.proofs.lemmas.Bool.Decides.{nat_tests}
use Rattle.fourvec.proofs.Order.{both}
use Rattle.driver_resolve.specs.Drivers.{is_wire}
use Rattle.sv_meaning.specs.Layouts.{Name, Origin, of_choice, of_samples, What, Layout, NamedSignal, DeclaredIn, plain, signal_is, width}
use Rattle.sv_lower.specs.Lowering.{look_test, HoldsOfDeclared}
use Rattle.sv_lower.specs.declared.look.Look.TheVariants.{Present}
use Rattle.svtv_table.specs.Binding.{HasWidth}
use Rattle.svtv_table.specs.declared.bound.Sample.{Sample}
use Rattle.svtv_table.specs.declared.bound.VarDecl.{VarDecl}
use Rattle.goal_text.specs.Scopes.{Vector, vars_of, sampled_of, var_vector, sample_vector, vectors_from, variable_entries, sample_entries, variables_of, claims_scope, widths_in, is_of_vars, is_of_table}
use Rattle.goal_text.proofs.Scoped.{plain_width}

-- the entry of a number
module _ (o : Origin) where
  entry_at : (k j : ℕ) (all : List Vector) (d : Name × What) → j < length (vectors_from o k all)
      → (n : Name) × (get_or (vectors_from o k all) j d ≡ (n, signal_is o (k + j) (plain (get_or (widths_in all) j 0) false))) × (j < length (widths_in all))
  unfolding vectors_from
  entry_at k j [] d h = absurd (omega arith)
  entry_at k zero (v ∷ more) d h = let e : k ≡ k + 0 = omega arith in (v.0, ap (λ n. (v.0, signal_is o n (plain v.1 false))) e, omega arith)
  entry_at k (suc j) (v ∷ more) d h =
      let g = entry_at (k + 1) j more d (omega arith) in
      let e : k + 1 + j ≡ k + suc j = omega arith in (g.0, g.1 ∙ ap (λ n. (g.0, signal_is o n (plain (get_or (widths_in more) j 0) false))) e, omega (arith, g.2))

-- a signal of a vector: its number and its width
pub record IsVector (o : Origin) (all : List Vector) (s : NamedSignal) : Type 0 where
  pub owner : s.owner ≡ o
  pub wire : IsTrue (is_wire (widths_in all) s.number s.width)

abbrev owner_in : What → Origin → Origin
owner_in (signal_is o n x) d = o
owner_in _ d = d

abbrev number_in : What → ℕ
number_in (signal_is o n x) = n
number_in _ = 0

abbrev layout_in : What → Layout → Layout
layout_in (signal_is o n x) d = x
layout_in _ d = d

is_wire_at : (widths : List ℕ) (j n w : ℕ) → j < length widths → n ≡ j → w ≡ get_or widths j 0 → IsTrue (is_wire widths n w)
is_wire_at widths j n w lt e f = subst (λ k. IsTrue (is_wire widths k w)) (sym e) (subst (λ v. IsTrue (is_wire widths j v)) (sym f) (let a : nat_lt j (length widths) ≡ true = grind (arith, nat_tests) in let b : (get_or widths j 0 == get_or widths j 0) ≡ true = grind (arith, nat_tests) in both _ _ a b))

vector_declared : (o : Origin) (all : List Vector) → All HasWidth (widths_in all) → (s : NamedSignal) → DeclaredIn (vectors_from o 0 all) s → IsVector o all s
vector_declared o all wide s d =
    let i = d.is_there in
    let g = entry_at o 0 i.0 all (d.name, signal_is s.owner s.number d.layout) i.1 in
    let e : ◌≡◌ {A = Name × What} (d.name, signal_is s.owner s.number d.layout) (g.0, signal_is o (0 + i.0) (plain (get_or (widths_in all) i.0 0) false)) = sym i.2 ∙ g.1 in
    let w = All-get_or HasWidth (widths_in all) i.0 0 g.2 wide in
    let n : 0 + i.0 ≡ i.0 = omega arith in
    record {
      owner = ap (λ (x : Name × What). owner_in x.1 o) e;
      wire = is_wire_at (widths_in all) i.0 s.number s.width g.2 (ap (λ (x : Name × What). number_in x.1) e ∙ n)
          (sym d.wide ∙ ap width (ap (λ (x : Name × What). layout_in x.1 d.layout) e) ∙ plain_width (get_or (widths_in all) i.0 0) (omega (arith, w.0)));
    }

widths_of_vars : (vars : List VarDecl) → All (λ var. HasWidth var.width) vars → All HasWidth (widths_in (vars_of vars))
widths_of_vars vars h = All-map HasWidth (λ (v : Vector). v.1) (vars_of vars) (All-map (λ (v : Vector). HasWidth v.1) var_vector vars h)

widths_of_samples : (samples : List Sample) → All (λ sample. HasWidth sample.width) samples → All HasWidth (widths_in (sampled_of samples))
widths_of_samples samples h = All-map HasWidth (λ (v : Vector). v.1) (sampled_of samples) (All-map (λ (v : Vector). HasWidth v.1) sample_vector samples h)

-- ---- what hypotheses and claims may mention

vars_test : (vars : List VarDecl) (o : Origin) (n w : ℕ) → o ≡ of_choice → IsTrue (is_wire (widths_in (vars_of vars)) n w) → IsTrue (look_test Present [] (is_of_vars vars) o n w)
unfolding look_test
vars_test vars o n w e h = subst (λ o. IsTrue (look_test Present [] (is_of_vars vars) o n w)) (sym e) h

pub hyps_hold : (vars : List VarDecl) → All (λ var. HasWidth var.width) vars → HoldsOfDeclared (variables_of vars) (is_of_vars vars)
hyps_hold vars wide s (inl d) = let v = vector_declared of_choice (vars_of vars) (widths_of_vars vars wide) s d in vars_test vars s.owner s.number s.width v.owner v.wire
hyps_hold vars wide s (inr d) = let v = vector_declared of_choice (vars_of vars) (widths_of_vars vars wide) s d in vars_test vars s.owner s.number s.width v.owner v.wire

module _ (vars : List VarDecl) (samples : List Sample) where
  chosen_test : (o : Origin) (n w : ℕ) → o ≡ of_choice → IsTrue (is_wire (widths_in (vars_of vars)) n w) → IsTrue (look_test Present [] (is_of_table vars samples) o n w)
  unfolding look_test
  chosen_test o n w e h = subst (λ o. IsTrue (look_test Present [] (is_of_table vars samples) o n w)) (sym e) h

  sampled_test : (o : Origin) (n w : ℕ) → o ≡ of_samples → IsTrue (is_wire (widths_in (sampled_of samples)) n w) → IsTrue (look_test Present [] (is_of_table vars samples) o n w)
  unfolding look_test
  sampled_test o n w e h = subst (λ o. IsTrue (look_test Present [] (is_of_table vars samples) o n w)) (sym e) h

  claim_holds : All (λ var. HasWidth var.width) vars → All (λ sample. HasWidth sample.width) samples → (s : NamedSignal) → DeclaredIn (variable_entries vars ++ sample_entries samples) s
      → IsTrue (look_test Present [] (is_of_table vars samples) s.owner s.number s.width)
  claim_holds wide broad s d = by_side (Contains-append_cases (variable_entries vars) (sample_entries samples) (d.name, signal_is s.owner s.number d.layout) d.is_there)
    where
      by_side : Contains (variable_entries vars) (d.name, signal_is s.owner s.number d.layout) ⊎ Contains (sample_entries samples) (d.name, signal_is s.owner s.number d.layout)
          → IsTrue (look_test Present [] (is_of_table vars samples) s.owner s.number s.width)
      by_side (inl i) =
          let v = vector_declared of_choice (vars_of vars) (widths_of_vars vars wide) s (record { name = d.name; layout = d.layout; is_there = i; wide = d.wide }) in chosen_test s.owner s.number s.width v.owner v.wire
      by_side (inr i) =
          let v = vector_declared of_samples (sampled_of samples) (widths_of_samples samples broad) s (record { name = d.name; layout = d.layout; is_there = i; wide = d.wide }) in sampled_test s.owner s.number s.width v.owner v.wire

  pub claims_hold : All (λ var. HasWidth var.width) vars → All (λ sample. HasWidth sample.width) samples → HoldsOfDeclared (claims_scope vars samples) (is_of_table vars samples)
  claims_hold wide broad s (inl d) = claim_holds wide broad s d
  claims_hold wide broad s (inr d) = claim_holds wide broad s d
