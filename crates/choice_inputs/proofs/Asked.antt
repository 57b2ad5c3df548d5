-- What the clauses of a graph ask, by the values of its inputs.
use Rattle.std.proofs.Common.{◌≡◌, ℕ, zero, suc, ◌+◌, ◌<◌, ◌≤◌, Bool, true, false, List, [], ◌∷◌, ◌++◌, length, take, get_or, refl, sym, ap, ◌∙◌, arith, inl, inr, length-append, Result, Ok, Err, IfOk}
use Rattle.std.proofs.lemmas.Bool.{cases_eq, eqb-true}
use Rattle.std.proofs.lemmas.List.{get_or_append_left, take_all}
use Rattle.std.proofs.Math.Seq.{get_or-append_seam}
use Rattle.aig.specs.declared.gate.Gate.{Gate}
use Rattle.aig.specs.declared.gate.Gate.TheVariants.{False, Input, And}
use Rattle.aig.specs.declared.gate.Lit.{Lit}
use Rattle.aig.specs.Graph.{gate_at, count_inputs, is_placed, value, IsGraph, IsIn}
use Rattle.cnf.specs.Clauses.{Solves}
use Rattle.cnf.specs.Formula.{Formula}
use Rattle.cnf.specs.Gates.{clauses_for, Extends, Reads}
use Rattle.cnf.proofs.Solutions.{answers_all, below}
use Rattle.fourvec.specs.declared.Bit.{Bit}
use Rattle.svtv_choices.specs.Choices.{bits_of}
use Rattle.svtv_table.specs.declared.bound.VarDecl.{VarDecl}
use Rattle.choice_inputs.specs.Inputs.{input_at, inputs_to}
use Rattle.choice_inputs.specs.Questions.{inputs_of, IsTold, Tells, Asks, asking, NoneAnswers}
use Rattle.choice_inputs.proofs.Chosen.{some_choice}

-- ---- the values of inputs among those of all nodes

counted_one : (gates : List Gate) (n : ℕ) (b : Bool) → n < length gates → count_inputs (take (suc n) gates) ≡ count_inputs (take n gates) + length (input_at (gate_at gates n) b)
unfolding count_inputs
counted_one [] n b l = absurd (omega (arith, l))
counted_one (False ∷ gates) zero b l = refl
counted_one (Input m ∷ gates) zero b l = refl
counted_one (And p q ∷ gates) zero b l = refl
counted_one (False ∷ gates) (suc n) b l = counted_one gates n b (omega (arith, l))
counted_one (Input m ∷ gates) (suc n) b l = ap suc (counted_one gates n b (omega (arith, l))) ∙ omega arith
counted_one (And p q ∷ gates) (suc n) b l = counted_one gates n b (omega (arith, l))

inputs_counted : (gates : List Gate) (v : ℕ → Bool) (n : ℕ) → n ≤ length gates → length (inputs_to gates v n) ≡ count_inputs (take n gates)
unfolding inputs_to count_inputs
inputs_counted gates v zero le = refl
inputs_counted gates v (suc n) le =
    omega (arith, length-append (inputs_to gates v n) (input_at (gate_at gates n) (v n)), inputs_counted gates v n (omega (arith, le)), counted_one gates n (v n) (omega (arith, le)))

pub inputs_all : (gates : List Gate) (v : ℕ → Bool) → length (inputs_to gates v (length gates)) ≡ count_inputs gates
inputs_all gates v = inputs_counted gates v (length gates) (omega arith) ∙ ap count_inputs (take_all (length gates) gates (omega arith))

input_found : (gates : List Gate) (v : ℕ → Bool) (n k m : ℕ) → IsGraph gates → n ≤ length gates → k < n → gate_at gates k ≡ Input m
    → (m < length (inputs_to gates v n)) × (v k ≡ get_or (inputs_to gates v n) m false)
unfolding inputs_to
input_found gates v zero k m g le lt e = absurd (omega (arith, lt))
input_found gates v (suc n) k m g le lt e =
    let front : List Bool = inputs_to gates v n in
    let last : List Bool = input_at (gate_at gates n) (v n) in
    elim (cases_eq k n) [
      | inl same ↦
          let here : gate_at gates n ≡ Input m = ap (gate_at gates) (sym same) ∙ e in
          let one : last ≡ v n ∷ [] = ap (λ x. input_at x (v n)) here in
          let placed : is_placed n (count_inputs (take n gates)) (Input m) ≡ true = ap (is_placed n (count_inputs (take n gates))) (sym here) ∙ g.each n (omega (arith, le)) in
          let at : m ≡ length front = eqb-true m (count_inputs (take n gates)) placed ∙ sym (inputs_counted gates v n (omega (arith, le))) in (
            omega (arith, length-append front last, ap length one, at),
            ap v same ∙ sym (ap (λ l. get_or (front ++ l) m false) one ∙ ap (λ j. get_or (front ++ v n ∷ []) j false) at ∙ get_or-append_seam front (v n) [] false),
          )
      | inr ne ↦
          let rest = input_found gates v n k m g (omega (arith, le)) (omega (arith, lt, ne)) e in (
            omega (arith, length-append front last, rest.0),
            rest.1 ∙ sym (get_or_append_left front last false m rest.0),
          )
    ]

pub inputs_start : (gates : List Gate) (v : ℕ → Bool) (now : List Bool) → now ≡ [] → now ≡ inputs_to gates v 0
unfolding inputs_to
inputs_start gates v now e = e

pub inputs_next : (gates : List Gate) (v : ℕ → Bool) (k : ℕ) (before after : List Bool) (gate : Gate) → before ≡ inputs_to gates v k → gate ≡ gate_at gates k → after ≡ before ++ input_at gate (v k) → after ≡ inputs_to gates v (k + 1)
unfolding inputs_to
inputs_next gates v k before after gate b g e =
    let on : k + 1 ≡ suc k = omega arith in
    e ∙ ap (λ xs. xs ++ input_at gate (v k)) b ∙ ap (λ x. inputs_to gates v k ++ input_at x (v k)) g ∙ sym (ap (inputs_to gates v) on)

reads : (gates : List Gate) (v : ℕ → Bool) (k : ℕ) → IsGraph gates → k < length gates → (gate : Gate) → gate_at gates k ≡ gate → Reads (inputs_to gates v (length gates)) (v k) gate
reads gates v k g l False e = tt
reads gates v k g l (Input m) e = (input_found gates v (length gates) k m g (omega arith) l e).1
reads gates v k g l (And p q) e = tt

pub inputs_extend : (gates : List Gate) (v : ℕ → Bool) → IsGraph gates → Extends (inputs_to gates v (length gates)) gates v
inputs_extend gates v g k l = reads gates v k g l (gate_at gates k) refl

-- ---- clauses

-- the values of the inputs make the literal true
pub solution_told : (gates : List Gate) (root : Lit) (v : ℕ → Bool) → IsGraph gates → IsIn gates root → Solves v (clauses_for gates root) → value (inputs_to gates v (length gates)) gates root ≡ true
solution_told gates root v g within s = (answers_all gates root g within (inputs_to gates v (length gates))).1 (v, s, inputs_extend gates v g)

pub told_by : (gates : List Gate) (root : Lit) (v : ℕ → Bool) (choice : List (List Bit)) → IsGraph gates → IsIn gates root → Solves v (clauses_for gates root) → inputs_of choice ≡ inputs_to gates v (length gates) → IsTold gates root choice
told_by gates root v choice g within s e = ap (λ inputs. value inputs gates root) e ∙ solution_told gates root v g within s

pub told_of : {E : Type 0} (gates : List Gate) (root : Lit) (v : ℕ → Bool) (inputs : List Bool) (r : Result (List (List Bit)) E) → IsGraph gates → IsIn gates root → Solves v (clauses_for gates root) → inputs ≡ inputs_to gates v (length gates)
    → IfOk r (λ choice. inputs_of choice ≡ inputs) → IfOk r (λ choice. IsTold gates root choice)
told_of gates root v inputs (Ok choice) g within s e h = told_by gates root v choice g within s (h ∙ e)
told_of gates root v inputs (Err error) g within s e h = h

-- the clauses of a graph ask whether some choice makes the literal true
pub gates_ask : (vars : List VarDecl) (gates : List Gate) (root : Lit) → IsGraph gates → IsIn gates root → count_inputs gates ≡ bits_of vars → Asks vars (IsTold gates root) (asking gates root)
gates_ask vars gates root g within n = record {
  below = below gates root g within;
  asked = (
    λ found.
        let c = some_choice vars (inputs_to gates found.0 (length gates)) (inputs_all gates found.0 ∙ n) in
        (c.0, c.1, told_by gates root found.0 c.0 g within found.1 c.2),
    λ found.
        let s = (answers_all gates root g within (inputs_of found.0)).0 found.2 in
        (s.0, s.1),
  );
}

-- and whatever the literal tells
pub asks_told : (vars : List VarDecl) (Answers : List (List Bit) → Type 0) (gates : List Gate) (root : Lit) (formula : Formula) → Tells vars Answers gates root → Asks vars (IsTold gates root) formula → Asks vars Answers formula
asks_told vars Answers gates root formula tells asks = record {
  below = asks.below;
  asked = (
    λ found. let c = asks.asked.0 found in (c.0, c.1, (tells.told c.0 c.1).0 c.2),
    λ found. asks.asked.1 (found.0, found.1, (tells.told found.0 found.1).1 found.2),
  );
}

pub none_told : (vars : List VarDecl) (Answers : List (List Bit) → Type 0) (gates : List Gate) (root : Lit) → Tells vars Answers gates root → NoneAnswers vars (IsTold gates root) → NoneAnswers vars Answers
none_told vars Answers gates root tells none choice c a = none choice c ((tells.told choice c).1 a)
