-- What can be wrong with one word.
use Rattle.std.proofs.Common.{◌≡◌, ℕ, ◌<◌, ◌^◌, ◌||◌, ◌⊎◌, inl, inr, Bool, true, false, cond, not, eqb, nat_lt, Ok, Err, Option, Some, None, refl, arith}
use Rattle.std.proofs.lemmas.Bool.{ltb-true, eqb-false}
use Rattle.sv_outside.specs.declared.refusal.Refusal.{Refusal}
use Rattle.cnf.specs.declared.Dim.{Dim}
use Rattle.lrat_text.specs.declared.token.Number.{Number}
use Rattle.lrat_text.specs.declared.token.Meaning.{Meaning}
use Rattle.lrat_text.specs.declared.token.Meaning.TheVariants.{Problem, Cnf, Delete, Figure, Other}
use Rattle.lrat_text.specs.declared.token.Token.{Token}
use Rattle.lrat_text.specs.declared.stage.Stage.{Stage}
use Rattle.lrat_text.specs.declared.stage.Stage.TheVariants.{Begin, Named, Vars, Count, Clauses}
use Rattle.lrat_text.specs.Reading.{Outcome, refusal, syntax_at, dim_of, literal_in, literal, State, with_vars, with_count, push_problem, push_cnf, push_part, push_figure, push_in, push, Known, clause_with, named, hint_in, hint, size_in, any_number}

syntax_is : {A : Type 0} (w : Token) (r : Refusal) → ◌≡◌ {A = Outcome A} (Err (syntax_at w.place)) (Err r) → r ≡ syntax_at w.place
syntax_is w r e = cc

-- a 0 with or without a sign
zero_fault : {A : Type 0} (w : Token) (r : Refusal) (b : Bool) → ◌≡◌ {A = Outcome (Option A)} (cond b (Err (syntax_at w.place)) (Ok None)) (Err r) → r ≡ syntax_at w.place
zero_fault {A} w r true e = syntax_is {A = Option A} w r e
zero_fault w r false e = cc

above_zero : (n : Number) → eqb n.size 0 ≡ false → 0 < n.size
above_zero n e = let ne : n.size ≡ 0 → ⊥ = eqb-false n.size 0 e in omega (arith, ne)

-- ---- literals

-- E42, or E43 of a literal over V
unfoldable pub LiteralFault : ℕ → Token → Refusal → Type 0
LiteralFault vars w r = (r ≡ syntax_at w.place) ⊎ ((n : Number) × (w.meaning ≡ Figure n) × (r ≡ refusal 43 w.place) × (vars < n.size))

literal_in_fault : (vars : ℕ) (w : Token) (m : Meaning) (r : Refusal) → w.meaning ≡ m → literal_in vars w.place m ≡ Err r → LiteralFault vars w r
unfolding LiteralFault
literal_in_fault vars w Problem r m e = inl (syntax_is w r e)
literal_in_fault vars w Cnf r m e = inl (syntax_is w r e)
literal_in_fault vars w Delete r m e = inl (syntax_is w r e)
literal_in_fault vars w Other r m e = inl (syntax_is w r e)
literal_in_fault vars w (Figure n) r m e = by_size (eqb n.size 0) e
  where
    over : (b : Bool) → nat_lt vars n.size ≡ b → cond {A = Outcome (Option Dim)} b (Err (refusal 43 w.place)) (Ok (Some (dim_of n))) ≡ Err r → (r ≡ syntax_at w.place) ⊎ ((n : Number) × (w.meaning ≡ Figure n) × (r ≡ refusal 43 w.place) × (vars < n.size))
    over true is e = inr (n, m, cc, ltb-true vars n.size is)
    over false is e = cc

    by_size : (b : Bool) → cond {A = Outcome (Option Dim)} b (cond n.negated (Err (syntax_at w.place)) (Ok None)) (cond (nat_lt vars n.size) (Err (refusal 43 w.place)) (Ok (Some (dim_of n)))) ≡ Err r
        → (r ≡ syntax_at w.place) ⊎ ((n : Number) × (w.meaning ≡ Figure n) × (r ≡ refusal 43 w.place) × (vars < n.size))
    by_size true e = inl (zero_fault {A = Dim} w r n.negated e)
    by_size false e = over (nat_lt vars n.size) refl e

pub literal_fault : (vars : ℕ) (w : Token) (r : Refusal) → literal vars w ≡ Err r → LiteralFault vars w r
unfolding literal
literal_fault vars w r e = literal_in_fault vars w w.meaning r refl e

-- ---- hints

-- E42, E44 of a hint below 0, or E43 of one that nothing has
unfoldable pub HintFault : Known → Token → Refusal → Type 0
HintFault k w r = (r ≡ syntax_at w.place)
    ⊎ ((n : Number) × (w.meaning ≡ Figure n) × (0 < n.size) × (((r ≡ refusal 44 w.place) × (n.negated ≡ true)) ⊎ ((r ≡ refusal 43 w.place) × (n.negated ≡ false) × (clause_with k n.size ≡ None))))

hint_in_fault : (k : Known) (w : Token) (m : Meaning) (r : Refusal) → w.meaning ≡ m → hint_in k w.place m ≡ Err r → HintFault k w r
unfolding HintFault
hint_in_fault k w Problem r m e = inl (syntax_is w r e)
hint_in_fault k w Cnf r m e = inl (syntax_is w r e)
hint_in_fault k w Delete r m e = inl (syntax_is w r e)
hint_in_fault k w Other r m e = inl (syntax_is w r e)
hint_in_fault k w (Figure n) r m e = by_size (eqb n.size 0) refl e
  where
    found : (o : Option ℕ) → clause_with k n.size ≡ o → n.negated ≡ false → 0 < n.size → named w.place o ≡ Err r
        → (r ≡ syntax_at w.place) ⊎ ((n : Number) × (w.meaning ≡ Figure n) × (0 < n.size) × (((r ≡ refusal 44 w.place) × (n.negated ≡ true)) ⊎ ((r ≡ refusal 43 w.place) × (n.negated ≡ false) × (clause_with k n.size ≡ None))))
    found None is s some e = inr (n, m, some, inr (cc, s, is))
    found (Some h) is s some e = cc

    below : (b : Bool) → n.negated ≡ b → 0 < n.size → cond {A = Outcome (Option ℕ)} b (Err (refusal 44 w.place)) (named w.place (clause_with k n.size)) ≡ Err r
        → (r ≡ syntax_at w.place) ⊎ ((n : Number) × (w.meaning ≡ Figure n) × (0 < n.size) × (((r ≡ refusal 44 w.place) × (n.negated ≡ true)) ⊎ ((r ≡ refusal 43 w.place) × (n.negated ≡ false) × (clause_with k n.size ≡ None))))
    below true s some e = inr (n, m, some, inl (cc, s))
    below false s some e = found (clause_with k n.size) refl s some e

    by_size : (b : Bool) → eqb n.size 0 ≡ b → cond {A = Outcome (Option ℕ)} b (cond n.negated (Err (syntax_at w.place)) (Ok None)) (cond n.negated (Err (refusal 44 w.place)) (named w.place (clause_with k n.size))) ≡ Err r
        → (r ≡ syntax_at w.place) ⊎ ((n : Number) × (w.meaning ≡ Figure n) × (0 < n.size) × (((r ≡ refusal 44 w.place) × (n.negated ≡ true)) ⊎ ((r ≡ refusal 43 w.place) × (n.negated ≡ false) × (clause_with k n.size ≡ None))))
    by_size true is e = inl (zero_fault {A = ℕ} w r n.negated e)
    by_size false is e = below n.negated refl (above_zero n is) e

pub hint_fault : (k : Known) (w : Token) (r : Refusal) → hint k w ≡ Err r → HintFault k w r
unfolding hint
hint_fault k w r e = hint_in_fault k w w.meaning r refl e

-- ---- numbers that are skipped

size_in_fault : (w : Token) (m : Meaning) (r : Refusal) → w.meaning ≡ m → size_in w.place m ≡ Err r → r ≡ syntax_at w.place
size_in_fault w Problem r m e = syntax_is w r e
size_in_fault w Cnf r m e = syntax_is w r e
size_in_fault w Delete r m e = syntax_is w r e
size_in_fault w Other r m e = syntax_is w r e
size_in_fault w (Figure n) r m e = by_size (eqb n.size 0) e
  where
    by_size : (b : Bool) → cond {A = Outcome (Option Number)} b (cond n.negated (Err (syntax_at w.place)) (Ok None)) (Ok (Some n)) ≡ Err r → r ≡ syntax_at w.place
    by_size true e = zero_fault {A = Number} w r n.negated e
    by_size false e = cc

pub any_fault : (w : Token) (r : Refusal) → any_number w ≡ Err r → r ≡ syntax_at w.place
unfolding any_number
any_fault w r e = size_in_fault w w.meaning r refl e

-- ---- words of clauses

-- E42, or E43 of a literal over V where a literal can stand
unfoldable pub PushFault : State → Token → Refusal → Type 0
PushFault st w r = (r ≡ syntax_at w.place) ⊎ ((n : Number) × (w.meaning ≡ Figure n) × (r ≡ refusal 43 w.place) × (st.vars < n.size) × (st.stage ≡ Clauses) × (0 < st.left))

problem_fault : (stage : Stage) (st : State) (w : Token) (r : Refusal) → push_problem stage st w.place ≡ Err r → r ≡ syntax_at w.place
problem_fault Begin st w r e = cc
problem_fault Named st w r e = syntax_is w r e
problem_fault Vars st w r e = syntax_is w r e
problem_fault Count st w r e = syntax_is w r e
problem_fault Clauses st w r e = syntax_is w r e

cnf_fault : (stage : Stage) (st : State) (w : Token) (r : Refusal) → push_cnf stage st w.place ≡ Err r → r ≡ syntax_at w.place
cnf_fault Begin st w r e = syntax_is w r e
cnf_fault Named st w r e = cc
cnf_fault Vars st w r e = syntax_is w r e
cnf_fault Count st w r e = syntax_is w r e
cnf_fault Clauses st w r e = syntax_is w r e

either_fault : (w : Token) (r : Refusal) (b : Bool) (o : State) → cond {A = Outcome State} b (Err (syntax_at w.place)) (Ok o) ≡ Err r → r ≡ syntax_at w.place
either_fault w r true o e = syntax_is w r e
either_fault w r false o e = cc

part_err : (st : State) (r : Refusal) (o : Outcome (Option Dim)) → push_part st o ≡ Err r → o ≡ Err r
part_err st r (Err x) e = let same : x ≡ r = cc in (cc)
part_err st r (Ok None) e = cc
part_err st r (Ok (Some d)) e = cc

over_fault : (st : State) (w : Token) (r : Refusal) → st.stage ≡ Clauses → 0 < st.left → LiteralFault st.vars w r → PushFault st w r
unfolding LiteralFault PushFault
over_fault st w r stage some (inl e) = inl e
over_fault st w r stage some (inr x) = inr (x.0, x.1, x.2, x.3, stage, some)

clauses_fault : (st : State) (w : Token) (n : Number) (r : Refusal) (b : Bool) → eqb st.left 0 ≡ b → st.stage ≡ Clauses → w.meaning ≡ Figure n
    → cond {A = Outcome State} b (Err (syntax_at w.place)) (push_part st (literal_in st.vars w.place (Figure n))) ≡ Err r → PushFault st w r
unfolding PushFault
clauses_fault st w n r true is stage m e = inl (syntax_is w r e)
clauses_fault st w n r false is stage m e =
    let ne : st.left ≡ 0 → ⊥ = eqb-false st.left 0 is in
    over_fault st w r stage (let h : 0 < st.left = omega (arith, ne) in h) (literal_in_fault st.vars w (Figure n) r m (part_err st r (literal_in st.vars w.place (Figure n)) e))

figure_fault : (stage : Stage) (st : State) (w : Token) (n : Number) (r : Refusal) → st.stage ≡ stage → w.meaning ≡ Figure n → push_figure stage st w.place n ≡ Err r → PushFault st w r
unfolding PushFault
figure_fault Begin st w n r s m e = inl (syntax_is w r e)
figure_fault Named st w n r s m e = inl (syntax_is w r e)
figure_fault Vars st w n r s m e = inl (either_fault w r (n.negated || not (nat_lt n.size (2 ^ 64))) (with_vars st n.size) e)
figure_fault Count st w n r s m e = inl (either_fault w r n.negated (with_count st n.size) e)
figure_fault Clauses st w n r s m e = clauses_fault st w n r (eqb st.left 0) refl s m e

in_fault : (st : State) (w : Token) (m : Meaning) (r : Refusal) → w.meaning ≡ m → push_in st w.place m ≡ Err r → PushFault st w r
unfolding PushFault
in_fault st w Problem r m e = inl (problem_fault st.stage st w r e)
in_fault st w Cnf r m e = inl (cnf_fault st.stage st w r e)
in_fault st w (Figure n) r m e = figure_fault st.stage st w n r refl m e
in_fault st w Delete r m e = inl (syntax_is w r e)
in_fault st w Other r m e = inl (syntax_is w r e)

pub push_fault : (st : State) (w : Token) (r : Refusal) → push st w ≡ Err r → PushFault st w r
unfolding push
push_fault st w r e = in_fault st w w.meaning r refl e
