-- A design whose one input is driven with a bit and sampled: that it is 1 is an invariant where each period drives it with 1, and none where a
-- period drives it with 0, though the reset drives it with 1 in both.
use Rattle.std.proofs.Common.{◌≡◌, ℕ, List, [], ◌∷◌, length, get_or, Some, refl, sym, ap, ◌∙◌, subst, arith, codes, true, IsTrue}
use Rattle.std.proofs.lemmas.List.Elements.{All-nil, All-cons, All-head}
use Rattle.fourvec.specs.Bits as bits
use Rattle.fourvec.specs.Bits.{is_known, over, res_bit}
use Rattle.fourvec.specs.declared.Bit.{Bit}
use Rattle.fourvec.specs.declared.Bit.TheVariants.{Zero, One, Unknown, Floating}
use Rattle.goal_text.specs.Scopes as scopes
use Rattle.goal_text.specs.Scopes.{claims_scope}
use Rattle.goal_tree.specs.declared.tree.GoalTree.{GoalTree}
use Rattle.settling.specs.Overriding as overridings
use Rattle.settling.specs.Overriding.{overridden}
use Rattle.settling.specs.Settling as settlings
use Rattle.settling.specs.Settling.{Contribution, Resolves, Store, given_to}
use Rattle.sv_meaning.specs.Designs as designs
use Rattle.sv_meaning.specs.Designs.{Design, Overriding, Settles, overriding_from, stimuli_from}
use Rattle.sv_meaning.specs.Meanings.{truth}
use Rattle.sv_meaning.specs.Values.{mean}
use Rattle.sv_meaning.proofs.OnTrees.{expressions}
use Rattle.sv_meaning.proofs.Trees.{name, word}
use Rattle.sv_tree.specs.declared.exprs.Expr.{Expr}
use Rattle.svtv_runs.specs.Runs.{Asked, AreApart, Run, Follows, IsDriven, IsRun}
use Rattle.svtv_runs.specs.Truths.{no_store, table_values, valuation}
use Rattle.svtv_runs.proofs.Runs.{least_run_stands_from}
use Rattle.svtv_table.specs.declared.bound.Sample.{Sample}
use Rattle.svtv_periods.specs.Claims.{HoldsIn, signal_values}
use Rattle.svtv_periods.specs.Invariants.{BreaksStep, IsInvariant}
use Rattle.svtv_periods.specs.Periods.{Course, Stretch}

abbrev one_input : Design
one_input = record { wires = (record { path = codes "d"; width = 1; input = true }) ∷ []; works = []; turns = 0 }

abbrev sampled_as : Sample
sampled_as = record { name = codes "s"; wire = 0; phase = 0; width = 1 }

-- one phase, in which the input is driven with a bit and sampled
abbrev asks : Bit → Asked
asks b = record { stimuli = (0, Some (b ∷ []) ∷ []) ∷ []; settings = [] }

abbrev drives : Bit → Stretch
drives b = record { asked = λ choice. asks b; phases = 1; vars = []; samples = sampled_as ∷ [] }

-- the reset drives it with 1, and each period with a bit
abbrev course : Bit → Course
course b = record { design = one_input; reset = drives One; period = drives b }

abbrev is_one : GoalTree
is_one = record { name = word 1 (codes "g"); hyps = []; claims = name 1 (codes "s") ∷ [] }

abbrev claim : Expr
claim = name 1 (codes "s")

-- ---- what a run of one phase ends with

-- what the input is driven with, as a resolution of that alone
settled : (b : Bit) (stim prev now : Store) (o : Overriding) → o.wires ≡ [] → stim 0 0 ≡ b → Settles one_input stim o prev now → now 0 0 ≡ over res_bit Floating (b ∷ [])
unfolding settlings.first_bit overridings.overridden designs.links_of designs.contributions_of designs.stimuli_from designs.overriding_from designs.bits_of_wire
settled b stim prev now o e is s =
    let given : List ℕ → List Contribution = λ ws. overridden [] (overriding_from 0 one_input.wires (record { wires = ws; values = o.values })) (stimuli_from 0 one_input.wires stim) in
    let alone : now 0 0 ≡ over res_bit Floating (stim 0 0 ∷ []) = subst (λ (ws : List ℕ). Resolves (now 0 0) (given_to [] (record { wire = 0; at = 0 }) (given ws))) e (s.1 (record { wire = 0; at = 0 })) in
    alone ∙ ap (λ (x : Bit). over res_bit Floating (x ∷ [])) is

ended : (b : Bit) (first : Store) (later : List Store) → Follows one_input (asks b) 0 first later → length later ≡ 1 → get_or later 0 no_store 0 0 ≡ over res_bit Floating (b ∷ [])
ended b first [] f l = absurd (omega (arith, l))
ended b first (now ∷ more) f l =
    settled b f.0.0 first now f.0.1 f.0.3.wires (All-head (λ a. IsDriven f.0.0 a.0 a.1) (0, Some (b ∷ [])) [] f.0.2 0 (omega arith)) f.0.4

-- ---- what the claim says

says_in : (r : Run) → truth (mean (claims_scope [] (sampled_as ∷ [])) claim) (table_values (sampled_as ∷ []) [] r) ≡ get_or (bits.truth_of (valuation r 0 0 0 ∷ [])) 0 Unknown
unfolding expressions scopes.vectors_from
says_in r = refl

says_at : (v : Store) → truth (mean (claims_scope [] (sampled_as ∷ [])) claim) (signal_values (sampled_as ∷ []) v) ≡ get_or (bits.truth_of (v 0 0 ∷ [])) 0 Unknown
unfolding expressions scopes.vectors_from
says_at v = refl

high : over res_bit Floating (One ∷ []) ≡ One
unfolding bits.over
high = refl

low : over res_bit Floating (Zero ∷ []) ≡ Zero
unfolding bits.over
low = refl

one_true : get_or (bits.truth_of (One ∷ [])) 0 Unknown ≡ One
unfolding bits.truth_of bits.some_one
one_true = refl

zero_false : get_or (bits.truth_of (Zero ∷ [])) 0 Unknown ≡ Zero
unfolding bits.truth_of bits.some_one bits.all_zero
zero_false = refl

-- ---- the verdicts

holds : (r : Run) → IsRun one_input (asks One) 1 r → HoldsIn (sampled_as ∷ []) is_one r
holds r h =
    let P : Expr → Type 0 = λ x. truth (mean (claims_scope [] (sampled_as ∷ [])) x) (table_values (sampled_as ∷ []) [] r) ≡ One in
    All-cons P claim [] (says_in r ∙ ap (λ (b : Bit). get_or (bits.truth_of (b ∷ [])) 0 Unknown) (ended One r.first r.later h.follows h.long ∙ high) ∙ one_true) (All-nil P)

kept : IsInvariant (course One) is_one
kept = record {
  base = λ choice b. b.breaks (holds b.run b.least.run);
  step = λ choice state b. b.breaks (holds b.run b.least.run.run);
}

abbrev all_one : Store
all_one n k = One

apart : AreApart (asks Zero)
apart = record {
  stimuli = λ i j l m e. omega (arith, l, m);
  settings = λ i j l m e. absurd (omega (arith, l));
}

broken : BreaksStep (course Zero) is_one [] all_one
broken =
    let least = least_run_stands_from one_input (asks Zero) 1 all_one apart (λ b c l. refl) in
    let P : Expr → Type 0 = λ x. truth (mean (claims_scope [] (sampled_as ∷ [])) x) (signal_values (sampled_as ∷ []) all_one) ≡ One in
    record {
      is = record { widths = refl; known = All-nil (λ v. IsTrue (is_known v)) };
      even = λ b c l. refl;
      before = All-cons P claim [] (says_at all_one ∙ one_true) (All-nil P);
      run = least.0;
      least = least.1;
      breaks = λ h.
          let r = least.0 in
          let run = least.1.run.run in
          let own : truth (mean (claims_scope [] (sampled_as ∷ [])) claim) (table_values (sampled_as ∷ []) [] r) ≡ Zero =
          says_in r ∙ ap (λ (b : Bit). get_or (bits.truth_of (b ∷ [])) 0 Unknown) (ended Zero r.first r.later run.follows run.long ∙ low) ∙ zero_false in
          apart_bits (sym own ∙ h 0 claim (omega arith));
    }
  where
    apart_bits : Zero ≡ One → ⊥
    apart_bits e = cc

no_invariant : IsInvariant (course Zero) is_one → ⊥
no_invariant i = i.step [] all_one broken
