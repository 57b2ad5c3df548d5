-- The values of nodes.
use Rattle.std.proofs.Common.{◌≡◌, ℕ, zero, suc, ◌+◌, ◌<◌, ◌≤◌, ⊎_elim, Bool, true, false, not, ◌&&◌, cond, eqb, ltb, List, [], ◌∷◌, ◌++◌, length, get_or, take, drop, refl, sym, ap, subst, ◌∙◌, arith}
use Rattle.std.specs.Bool.{beq}
use Rattle.std.proofs.lemmas.Bool.{ne_eqb, eq-eqb, eqb-true, ltb-true, and_parts, cases_eq}
use Rattle.std.proofs.lemmas.List.{take_more, take-append-drop}
use Rattle.aig.specs.declared.gate.Lit.{Lit}
use Rattle.aig.specs.declared.gate.Gate.{Gate}
use Rattle.aig.specs.declared.gate.Gate.TheVariants.{False, Input, And}
use Rattle.aig.specs.Graph.{gate_at, Says, Obeys, gate_value, values_to, values, is_placed, count_inputs, IsGraph, KeepsValues, Always}

pub differs : (x n : Bool) → not (beq x n) ≡ cond n (not x) x
differs true true = refl
differs true false = refl
differs false true = refl
differs false false = refl

-- the operands of a gate that may stand at node k
pub operands : (k n : ℕ) (p q : Lit) → is_placed k n (And p q) ≡ true → (p.node < k) × (q.node < k)
operands k n p q h =
    let both = and_parts (ltb p.node k) (ltb q.node k) h in
    (ltb-true p.node k both.0, ltb-true q.node k both.1)

-- a gate that may stand at node k reads the nodes before it alone
pub gate_value_same : (inputs : List Bool) (f g : ℕ → Bool) (k n : ℕ) (gate : Gate) → is_placed k n gate ≡ true → ((j : ℕ) → j < k → f j ≡ g j) → gate_value inputs f gate ≡ gate_value inputs g gate
gate_value_same inputs f g k n False h same = refl
gate_value_same inputs f g k n (Input i) h same = refl
gate_value_same inputs f g k n (And p q) h same =
    let o = operands k n p q h in
    let ep : f p.node ≡ g p.node = same p.node o.0 in
    let eq : f q.node ≡ g q.node = same q.node o.1 in
    ap (λ (x : Bool × Bool). cond p.negated (not x.0) x.0 && cond q.negated (not x.1) x.1) (let r : ◌≡◌ {A = Bool × Bool} (f p.node, f q.node) (g p.node, g q.node) = cc in r)

-- the value of node k is settled once k has its turn
settled : (inputs : List Bool) (gates : List Gate) (n k : ℕ) → k < n → values_to inputs gates n k ≡ values_to inputs gates (suc k) k
unfolding values_to
settled inputs gates zero k lt = absurd (omega arith)
settled inputs gates (suc n) k lt = ⊎_elim
    (λ e. subst (λ (m : ℕ). values_to inputs gates (suc n) k ≡ values_to inputs gates (suc m) k) (sym e) refl)
    (λ ne. ap (λ t. cond t (gate_value inputs (values_to inputs gates n) (gate_at gates n)) (values_to inputs gates n k)) (ne_eqb k n ne) ∙ settled inputs gates n k (omega arith))
    (cases_eq k n)

-- the value of a node is that of its gate
pub values_at : (inputs : List Bool) (gates : List Gate) (k : ℕ) → IsGraph gates → k < length gates → values inputs gates k ≡ gate_value inputs (values inputs gates) (gate_at gates k)
unfolding values_to
values_at inputs gates k h lt =
    settled inputs gates (length gates) k lt ∙
    ap (λ t. cond t (gate_value inputs (values_to inputs gates k) (gate_at gates k)) (values_to inputs gates k k)) (eq-eqb k k refl) ∙
    gate_value_same inputs (values_to inputs gates k) (values inputs gates) k (count_inputs (take k gates)) (gate_at gates k) (h.each k lt)
    (λ j below. settled inputs gates k j below ∙ sym (settled inputs gates (length gates) j (omega arith)))

says_value : (inputs : List Bool) (v : ℕ → Bool) (k : ℕ) (g : Gate) → v k ≡ gate_value inputs v g → Says v k g
says_value inputs v k False h = h
says_value inputs v k (Input n) h = tt
says_value inputs v k (And p q) h = h

past : (inputs : List Bool) (gates : List Gate) (k n : ℕ) → n ≤ k → values_to inputs gates n k ≡ false
unfolding values_to
past inputs gates k zero le = refl
past inputs gates k (suc n) le =
    ap (λ t. cond t (gate_value inputs (values_to inputs gates n) (gate_at gates n)) (values_to inputs gates n k)) (ne_eqb k n (λ e. omega arith)) ∙ past inputs gates k n (omega arith)

-- the values obey the gates
pub Obeys-values : (inputs : List Bool) (gates : List Gate) → IsGraph gates → Obeys (values inputs gates) gates
Obeys-values inputs gates h = record {
  bottom = values_at inputs gates 0 h h.some ∙ ap (λ (g : Gate). gate_value inputs (values inputs gates) g) h.bottom;
  each = λ k lt. says_value inputs (values inputs gates) k (gate_at gates k) (values_at inputs gates k h lt);
}

count_inputs-append : (xs ys : List Gate) → count_inputs (xs ++ ys) ≡ count_inputs xs + count_inputs ys
unfolding count_inputs
count_inputs-append [] ys = omega arith
count_inputs-append (False ∷ xs) ys = count_inputs-append xs ys
count_inputs-append (Input n ∷ xs) ys = omega (arith, count_inputs-append xs ys)
count_inputs-append (And p q ∷ xs) ys = count_inputs-append xs ys

count_inputs-one : (n : ℕ) → count_inputs (Input n ∷ []) ≡ 1
unfolding count_inputs
count_inputs-one n = refl

-- the number of an input is below the number of inputs
pub input_in : (gates : List Gate) (k n : ℕ) → IsGraph gates → k < length gates → gate_at gates k ≡ Input n → n < count_inputs gates
input_in gates k n h lt e =
    let placed : eqb n (count_inputs (take k gates)) ≡ true = subst (λ (g : Gate). is_placed k (count_inputs (take k gates)) g ≡ true) e (h.each k lt) in
    let is : n ≡ count_inputs (take k gates) = eqb-true n (count_inputs (take k gates)) placed in
    let one : count_inputs (gate_at gates k ∷ []) ≡ 1 = ap (λ (g : Gate). count_inputs (g ∷ [])) e ∙ count_inputs-one n in
    let parts : count_inputs gates ≡ count_inputs (take (k + 1) gates) + count_inputs (drop (k + 1) gates) =
    ap (λ (g : List Gate). count_inputs g) (sym (take-append-drop (k + 1) gates)) ∙ count_inputs-append (take (k + 1) gates) (drop (k + 1) gates) in
    let more : count_inputs (take (k + 1) gates) ≡ count_inputs (take k gates) + count_inputs (gate_at gates k ∷ []) =
    ap (λ (g : List Gate). count_inputs g) (take_more gates k False lt) ∙ count_inputs-append (take k gates) (gate_at gates k ∷ []) in
    omega arith

count_inputs_le : (gates : List Gate) → count_inputs gates ≤ length gates
unfolding count_inputs
count_inputs_le [] = omega arith
count_inputs_le (False ∷ gates) = omega (arith, count_inputs_le gates)
count_inputs_le (Input n ∷ gates) = omega (arith, count_inputs_le gates)
count_inputs_le (And p q ∷ gates) = omega (arith, count_inputs_le gates)

-- node 0 is no input
pub count_inputs_lt : (gates : List Gate) → IsGraph gates → count_inputs gates < length gates
unfolding count_inputs
count_inputs_lt [] h = absurd (let some : 0 < 0 = h.some in omega arith)
count_inputs_lt (False ∷ gates) h = omega (arith, count_inputs_le gates)
count_inputs_lt (Input n ∷ gates) h = absurd (let bottom : Input n ≡ False = h.bottom in cc)
count_inputs_lt (And p q ∷ gates) h = omega (arith, count_inputs_le gates)

-- what holds of all values that obey a graph holds of those that inputs give
pub always_from : (gates : List Gate) (P : (ℕ → Bool) → Type 0) → IsGraph gates → ((v : ℕ → Bool) → Obeys v gates → P v) → Always gates P
always_from gates P h p = record {
  graph = h;
  obeyed = p;
  at_inputs = λ inputs. p (values inputs gates) (Obeys-values inputs gates h);
}

-- ---- values as a graph grows

older_to : (inputs : List Bool) (old new : List Gate) → IsGraph old → ((k : ℕ) → k < length old → gate_at new k ≡ gate_at old k) → (n : ℕ) → n ≤ length old → (k : ℕ) → values_to inputs new n k ≡ values_to inputs old n k
unfolding values_to
older_to inputs old new h same zero le k = refl
older_to inputs old new h same (suc n) le k =
    let lt : n < length old = omega arith in
    let here : gate_value inputs (values_to inputs new n) (gate_at new n) ≡ gate_value inputs (values_to inputs old n) (gate_at old n) =
    ap (λ (g : Gate). gate_value inputs (values_to inputs new n) g) (same n lt) ∙
    gate_value_same inputs (values_to inputs new n) (values_to inputs old n) n (count_inputs (take n old)) (gate_at old n) (h.each n lt) (λ j below. older_to inputs old new h same n (omega arith) j) in
    ap (λ (x : Bool). cond (eqb k n) x (values_to inputs new n k)) here ∙
    ap (λ (y : Bool). cond (eqb k n) (gate_value inputs (values_to inputs old n) (gate_at old n)) y) (older_to inputs old new h same n (omega arith) k)

pub values-older : (inputs : List Bool) (old new : List Gate) → IsGraph old → length old ≤ length new → ((k : ℕ) → k < length old → gate_at new k ≡ gate_at old k) → (k : ℕ) → k < length old → values inputs new k ≡ values inputs old k
values-older inputs old new h le same k lt =
    settled inputs new (length new) k (omega arith) ∙ older_to inputs old new h same (suc k) (omega arith) k ∙ sym (settled inputs old (length old) k lt)

pub kept_values : (old new : List Gate) → IsGraph old → length old ≤ length new → ((k : ℕ) → k < length old → gate_at new k ≡ gate_at old k) → KeepsValues old new
kept_values old new h le same = λ inputs l lt. ap (λ (x : Bool). cond l.negated (not x) x) (values-older inputs old new h le same l.node lt)

-- the value of an input
pub value_input : (inputs : List Bool) (gates : List Gate) (k n : ℕ) → IsGraph gates → k < length gates → gate_at gates k ≡ Input n → values inputs gates k ≡ get_or inputs n false
value_input inputs gates k n h lt e = values_at inputs gates k h lt ∙ ap (λ (g : Gate). gate_value inputs (values inputs gates) g) e
