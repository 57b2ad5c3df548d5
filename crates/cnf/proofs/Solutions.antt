-- The solutions of the clauses of a graph are the values that obey its gates.
use Rattle.std.proofs.Common.{◌≡◌, ℕ, zero, suc, ◌+◌, ◌<◌, ◌≤◌, ◌⊎◌, inl, inr, ⊎_elim, Bool, true, false, not, ◌&&◌, cond, List, [], ◌∷◌, ◌++◌, length, take, refl, sym, ap, subst, ◌∙◌, arith, length-append, add-one}
use Rattle.std.proofs.lemmas.Bool.{cases_eq, eqb-true}
use Rattle.std.proofs.lemmas.List.{get_or_append_left, get_or-append-add}
use Rattle.std.proofs.lemmas.List.Elements.{All-append, All-nil, All-cons}
use Rattle.std.specs.List.{All}
use Rattle.aig.specs.declared.gate.Lit.{Lit}
use Rattle.aig.specs.declared.gate.Gate.{Gate}
use Rattle.aig.specs.declared.gate.Gate.TheVariants.{False, Input, And}
use Rattle.aig.specs.Graph.{gate_at, holds, Says, Obeys, gate_value, values, is_placed, count_inputs, IsGraph}
use Rattle.aig.proofs.Values.{operands, gate_value_same, values_at, Obeys-values}
use Rattle.cnf.specs.declared.Dim.{Dim}
use Rattle.cnf.specs.Clauses.{negate, Holds, ClauseHolds, Solves, AreBelow, AllBelow}
use Rattle.cnf.specs.Gates.{dim, node, gate_clauses, clauses_to, clauses_for, AsksFor, Reads, Extends, AnswersAll}

-- ---- literals

true_from : (n x : Bool) → x ≡ not n → cond n (not x) x ≡ true
true_from true x h = ap (λ (t : Bool). not t) h
true_from false x h = h

true_back : (n x : Bool) → cond n (not x) x ≡ true → x ≡ not n
true_back true true h = cc
true_back true false h = refl
true_back false x h = h

false_from : (n x : Bool) → x ≡ not (not n) → cond n (not x) x ≡ false
false_from true x h = ap (λ (t : Bool). not t) h
false_from false x h = h

false_back : (n x : Bool) → cond n (not x) x ≡ false → x ≡ not (not n)
false_back true true h = refl
false_back true false h = cc
false_back false x h = h

-- ---- clauses of one, two and three literals

one_of : (v : ℕ → Bool) (a : Dim) → ClauseHolds v (a ∷ []) → Holds v a
one_of v a (d, (zero, lt, e), h) = subst (Holds v) (sym e) h
one_of v a (d, (suc k, lt, e), h) = absurd (omega arith)

two_of : (v : ℕ → Bool) (a b : Dim) → ClauseHolds v (a ∷ b ∷ []) → Holds v a ⊎ Holds v b
two_of v a b (d, (zero, lt, e), h) = inl (subst (Holds v) (sym e) h)
two_of v a b (d, (suc zero, lt, e), h) = inr (subst (Holds v) (sym e) h)
two_of v a b (d, (suc (suc k), lt, e), h) = absurd (omega arith)

three_of : (v : ℕ → Bool) (a b c : Dim) → ClauseHolds v (a ∷ b ∷ c ∷ []) → Holds v a ⊎ (Holds v b ⊎ Holds v c)
three_of v a b c (d, (zero, lt, e), h) = inl (subst (Holds v) (sym e) h)
three_of v a b c (d, (suc zero, lt, e), h) = inr (inl (subst (Holds v) (sym e) h))
three_of v a b c (d, (suc (suc zero), lt, e), h) = inr (inr (subst (Holds v) (sym e) h))
three_of v a b c (d, (suc (suc (suc k)), lt, e), h) = absurd (omega arith)

first_holds : (v : ℕ → Bool) (a : Dim) (rest : List Dim) → Holds v a → ClauseHolds v (a ∷ rest)
first_holds v a rest h = (a, (0, omega arith, refl), h)

second_holds : (v : ℕ → Bool) (a b : Dim) (rest : List Dim) → Holds v b → ClauseHolds v (a ∷ b ∷ rest)
second_holds v a b rest h = (b, (1, omega arith, refl), h)

third_holds : (v : ℕ → Bool) (a b c : Dim) (rest : List Dim) → Holds v c → ClauseHolds v (a ∷ b ∷ c ∷ rest)
third_holds v a b c rest h = (c, (2, omega arith, refl), h)

-- ---- one gate

gate_table : (x p q : Bool) → (x ≡ false) ⊎ (p ≡ true) → (x ≡ false) ⊎ (q ≡ true) → (x ≡ true) ⊎ ((p ≡ false) ⊎ (q ≡ false)) → x ≡ (p && q)
gate_table true true true f g h = refl
gate_table true true false f g h = grind arith
gate_table true false q f g h = grind arith
gate_table false true true f g h = grind arith
gate_table false true false f g h = refl
gate_table false false q f g h = refl

either_sum : {A B C D : Type 0} → (A → C) → (B → D) → A ⊎ B → C ⊎ D
either_sum f g h = ⊎_elim (λ a. inl (f a)) (λ b. inr (g b)) h

gate_from : (v : ℕ → Bool) (k : ℕ) (p q : Lit) → Solves v (gate_clauses k (And p q)) → v k ≡ (holds v p && holds v q)
gate_from v k p q h =
    let c1 = two_of v (negate (node k)) (dim p) (h 0 [] (omega arith)) in
    let c2 = two_of v (negate (node k)) (dim q) (h 1 [] (omega arith)) in
    let c3 = three_of v (node k) (negate (dim p)) (negate (dim q)) (h 2 [] (omega arith)) in
    gate_table (v k) (holds v p) (holds v q)
    (either_sum (λ e. e) (true_from p.negated (v p.node)) c1) (either_sum (λ e. e) (true_from q.negated (v q.node)) c2)
    (either_sum (λ e. e) (either_sum (false_from p.negated (v p.node)) (false_from q.negated (v q.node))) c3)

three_clauses : (v : ℕ → Bool) (k : ℕ) (p q : Lit) → ClauseHolds v (negate (node k) ∷ dim p ∷ []) → ClauseHolds v (negate (node k) ∷ dim q ∷ []) →
    ClauseHolds v (node k ∷ negate (dim p) ∷ negate (dim q) ∷ []) → Solves v (gate_clauses k (And p q))
three_clauses v k p q c1 c2 c3 =
    let third : List (List Dim) = (node k ∷ negate (dim p) ∷ negate (dim q) ∷ []) ∷ [] in
    let second : List (List Dim) = (negate (node k) ∷ dim q ∷ []) ∷ third in
    All-cons (ClauseHolds v) (negate (node k) ∷ dim p ∷ []) second c1
    (All-cons (ClauseHolds v) (negate (node k) ∷ dim q ∷ []) third c2
    (All-cons (ClauseHolds v) (node k ∷ negate (dim p) ∷ negate (dim q) ∷ []) [] c3 (All-nil (ClauseHolds v))))

gate_clauses_hold : (v : ℕ → Bool) (k : ℕ) (p q : Lit) (x y : Bool) → holds v p ≡ x → holds v q ≡ y → v k ≡ (x && y) → Solves v (gate_clauses k (And p q))
gate_clauses_hold v k p q true true ep eq h = three_clauses v k p q
    (second_holds v (negate (node k)) (dim p) [] (true_back p.negated (v p.node) ep))
    (second_holds v (negate (node k)) (dim q) [] (true_back q.negated (v q.node) eq))
    (first_holds v (node k) (negate (dim p) ∷ negate (dim q) ∷ []) h)
gate_clauses_hold v k p q true false ep eq h = three_clauses v k p q
    (first_holds v (negate (node k)) (dim p ∷ []) h)
    (first_holds v (negate (node k)) (dim q ∷ []) h)
    (third_holds v (node k) (negate (dim p)) (negate (dim q)) [] (false_back q.negated (v q.node) eq))
gate_clauses_hold v k p q false y ep eq h = three_clauses v k p q
    (first_holds v (negate (node k)) (dim p ∷ []) h)
    (first_holds v (negate (node k)) (dim q ∷ []) h)
    (second_holds v (node k) (negate (dim p)) (negate (dim q) ∷ []) (false_back p.negated (v p.node) ep))

single : (v : ℕ → Bool) (d : Dim) → Holds v d → Solves v ((d ∷ []) ∷ [])
single v d h = All-cons (ClauseHolds v) (d ∷ []) [] (first_holds v d [] h) (All-nil (ClauseHolds v))

says_from : (v : ℕ → Bool) (k n : ℕ) (g : Gate) → is_placed k n g ≡ true → v 0 ≡ false → Solves v (gate_clauses k g) → Says v k g
says_from v k n False placed h0 h = subst (λ (i : ℕ). v i ≡ false) (sym (eqb-true k 0 placed)) h0
says_from v k n (Input i) placed h0 h = tt
says_from v k n (And p q) placed h0 h = gate_from v k p q h

says_holds : (v : ℕ → Bool) (k : ℕ) (g : Gate) → Says v k g → Solves v (gate_clauses k g)
says_holds v k False h = All-nil (ClauseHolds v)
says_holds v k (Input i) h = All-nil (ClauseHolds v)
says_holds v k (And p q) h = gate_clauses_hold v k p q (holds v p) (holds v q) refl refl h

-- ---- all gates

left_all : (P : List Dim → Type 0) (xs ys : List (List Dim)) → All P (xs ++ ys) → All P xs
left_all P xs ys h = λ k d lt. subst P (get_or_append_left xs ys d k lt) (h k d (omega (arith, length-append xs ys)))

right_all : (P : List Dim → Type 0) (xs ys : List (List Dim)) → All P (xs ++ ys) → All P ys
right_all P xs ys h = λ k d lt. subst P (get_or-append-add xs ys k d) (h (length xs + k) d (omega (arith, length-append xs ys)))

bottom_from : (v : ℕ → Bool) (gates : List Gate) (n : ℕ) → Solves v (clauses_to gates n) → v 0 ≡ false
unfolding clauses_to
bottom_from v gates zero h = one_of v (negate (node 0)) (h 0 [] (omega arith))
bottom_from v gates (suc n) h = bottom_from v gates n (left_all (ClauseHolds v) (clauses_to gates n) (gate_clauses n (gate_at gates n)) h)

gates_from : (v : ℕ → Bool) (gates : List Gate) (n : ℕ) → IsGraph gates → n ≤ length gates → Solves v (clauses_to gates n) → (k : ℕ) → k < n → Says v k (gate_at gates k)
unfolding clauses_to
gates_from v gates zero g le h k lt = absurd (omega arith)
gates_from v gates (suc n) g le h k lt =
    let front = left_all (ClauseHolds v) (clauses_to gates n) (gate_clauses n (gate_at gates n)) h in
    let last = right_all (ClauseHolds v) (clauses_to gates n) (gate_clauses n (gate_at gates n)) h in
    ⊎_elim
    (λ e. subst (λ (i : ℕ). Says v i (gate_at gates i)) (sym e) (says_from v n (count_inputs (take n gates)) (gate_at gates n) (g.each n (omega arith)) (bottom_from v gates n front) last))
    (λ ne. gates_from v gates n g (omega arith) front k (omega arith))
    (cases_eq k n)

gates_hold : (v : ℕ → Bool) (gates : List Gate) (n : ℕ) → n ≤ length gates → Obeys v gates → Solves v (clauses_to gates n)
unfolding clauses_to
gates_hold v gates zero le o = single v (negate (node 0)) o.bottom
gates_hold v gates (suc n) le o = All-append (ClauseHolds v) (clauses_to gates n) (gate_clauses n (gate_at gates n)) (gates_hold v gates n (omega arith) o) (says_holds v n (gate_at gates n) (o.each n (omega arith)))

-- the clauses of one more gate
pub clauses_start : (gates : List Gate) (xs ys : List (List Dim)) → xs ≡ [] → ys ≡ xs ++ (negate (node 0) ∷ []) ∷ [] → ys ≡ clauses_to gates 0
unfolding clauses_to
clauses_start gates xs ys e f = f ∙ ap (λ (zs : List (List Dim)). zs ++ (negate (node 0) ∷ []) ∷ []) e

pub clauses_more : (gates : List Gate) (k : ℕ) (xs ys : List (List Dim)) (g : Gate) → xs ≡ clauses_to gates k → g ≡ gate_at gates k → ys ≡ xs ++ gate_clauses k g → ys ≡ clauses_to gates (k + 1)
unfolding clauses_to
clauses_more gates k xs ys g e f h = rw add-one (h ∙ ap (λ (zs : List (List Dim)). zs ++ gate_clauses k g) e ∙ ap (λ (z : Gate). clauses_to gates k ++ gate_clauses k z) f)

pub clauses_end : (gates : List Gate) (root : Lit) (k : ℕ) (xs ys : List (List Dim)) (d : Dim) → k ≡ length gates → xs ≡ clauses_to gates k → d ≡ dim root → ys ≡ xs ++ (d ∷ []) ∷ [] → ys ≡ clauses_for gates root
clauses_end gates root k xs ys d ek e ed h =
    h ∙ ap (λ (zs : List (List Dim)). zs ++ (d ∷ []) ∷ []) e ∙ ap (λ (n : ℕ). clauses_to gates n ++ (d ∷ []) ∷ []) ek ∙ ap (λ (z : Dim). clauses_to gates (length gates) ++ (z ∷ []) ∷ []) ed

pub asks_for : (gates : List Gate) (root : Lit) → IsGraph gates → AsksFor gates root (clauses_for gates root)
asks_for gates root g = λ v. (
  (λ h.
      let front = left_all (ClauseHolds v) (clauses_to gates (length gates)) ((dim root ∷ []) ∷ []) h in
      let last = right_all (ClauseHolds v) (clauses_to gates (length gates)) ((dim root ∷ []) ∷ []) h in
      let o : Obeys v gates = record { bottom = bottom_from v gates (length gates) front; each = gates_from v gates (length gates) g (omega arith) front } in
      (o, true_from root.negated (v root.node) (one_of v (dim root) (last 0 [] (omega arith))))),
  (λ h. All-append (ClauseHolds v) (clauses_to gates (length gates)) ((dim root ∷ []) ∷ []) (gates_hold v gates (length gates) (omega arith) h.0)
      (single v (dim root) (true_back root.negated (v root.node) h.1))),
)

-- ---- variables in range

one_below : (n : ℕ) (a : Dim) → a.var < n → AreBelow n (a ∷ [])
one_below n a lt = let P : Dim → Type 0 = λ d. d.var < n in All-cons P a [] lt (All-nil P)

two_below : (n : ℕ) (a b : Dim) → a.var < n → b.var < n → AreBelow n (a ∷ b ∷ [])
two_below n a b la lb = let P : Dim → Type 0 = λ d. d.var < n in All-cons P a (b ∷ []) la (one_below n b lb)

gate_below : (n k i : ℕ) (g : Gate) → k < n → is_placed k i g ≡ true → AllBelow n (gate_clauses k g)
gate_below n k i False lt placed = All-nil (AreBelow n)
gate_below n k i (Input j) lt placed = All-nil (AreBelow n)
gate_below n k i (And p q) lt placed =
    let o = operands k i p q placed in
    let lp : p.node < k = o.0 in
    let lq : q.node < k = o.1 in
    let third : List Dim = node k ∷ negate (dim p) ∷ negate (dim q) ∷ [] in
    let P : Dim → Type 0 = λ d. d.var < n in
    All-cons (AreBelow n) (negate (node k) ∷ dim p ∷ []) ((negate (node k) ∷ dim q ∷ []) ∷ third ∷ []) (two_below n (negate (node k)) (dim p) lt (omega arith))
    (All-cons (AreBelow n) (negate (node k) ∷ dim q ∷ []) (third ∷ []) (two_below n (negate (node k)) (dim q) lt (omega arith))
    (All-cons (AreBelow n) third [] (All-cons P (node k) (negate (dim p) ∷ negate (dim q) ∷ []) lt (two_below n (negate (dim p)) (negate (dim q)) (omega arith) (omega arith))) (All-nil (AreBelow n))))

gates_below : (gates : List Gate) (n : ℕ) → IsGraph gates → n ≤ length gates → AllBelow (length gates) (clauses_to gates n)
unfolding clauses_to
gates_below gates zero g le = All-cons (AreBelow (length gates)) (negate (node 0) ∷ []) [] (one_below (length gates) (negate (node 0)) g.some) (All-nil (AreBelow (length gates)))
gates_below gates (suc n) g le = All-append (AreBelow (length gates)) (clauses_to gates n) (gate_clauses n (gate_at gates n)) (gates_below gates n g (omega arith))
    (gate_below (length gates) n (count_inputs (take n gates)) (gate_at gates n) (omega arith) (g.each n (omega arith)))

pub below : (gates : List Gate) (root : Lit) → IsGraph gates → root.node < length gates → AllBelow (length gates) (clauses_for gates root)
below gates root g lt = All-append (AreBelow (length gates)) (clauses_to gates (length gates)) ((dim root ∷ []) ∷ []) (gates_below gates (length gates) g (omega arith))
    (All-cons (AreBelow (length gates)) (dim root ∷ []) [] (one_below (length gates) (dim root) lt) (All-nil (AreBelow (length gates))))

-- ---- inputs

value_from : (inputs : List Bool) (v : ℕ → Bool) (k : ℕ) (g : Gate) → Says v k g → Reads inputs (v k) g → v k ≡ gate_value inputs v g
value_from inputs v k False s r = s
value_from inputs v k (Input n) s r = r
value_from inputs v k (And p q) s r = s

reads_from : (inputs : List Bool) (v : ℕ → Bool) (k : ℕ) (g : Gate) → v k ≡ gate_value inputs v g → Reads inputs (v k) g
reads_from inputs v k False h = tt
reads_from inputs v k (Input n) h = h
reads_from inputs v k (And p q) h = tt

-- values that obey the gates and extend the inputs are the values of the nodes
only_values : (inputs : List Bool) (gates : List Gate) (v : ℕ → Bool) (n : ℕ) → IsGraph gates → Obeys v gates → Extends inputs gates v → n ≤ length gates → (k : ℕ) → k < n → v k ≡ values inputs gates k
only_values inputs gates v zero g o x le k lt = absurd (omega arith)
only_values inputs gates v (suc n) g o x le k lt =
    let before = only_values inputs gates v n g o x (omega arith) in
    ⊎_elim
    (λ e. subst (λ (i : ℕ). v i ≡ values inputs gates i) (sym e)
    (value_from inputs v n (gate_at gates n) (o.each n (omega arith)) (x n (omega arith)) ∙
    gate_value_same inputs v (values inputs gates) n (count_inputs (take n gates)) (gate_at gates n) (g.each n (omega arith)) before ∙
    sym (values_at inputs gates n g (omega arith))))
    (λ ne. before k (omega arith))
    (cases_eq k n)

pub answers_all : (gates : List Gate) (root : Lit) → IsGraph gates → root.node < length gates → AnswersAll gates root (clauses_for gates root)
answers_all gates root g lt = λ inputs. (
  (λ h. (
    values inputs gates,
    (asks_for gates root g (values inputs gates)).1 (Obeys-values inputs gates g, h),
    λ k below. reads_from inputs (values inputs gates) k (gate_at gates k) (values_at inputs gates k g below),
  )),
  (λ (v, s, x).
      let both = (asks_for gates root g v).0 s in
      let same : v root.node ≡ values inputs gates root.node = only_values inputs gates v (length gates) g both.0 x (omega arith) root.node lt in
      ap (λ (t : Bool). cond root.negated (not t) t) (sym same) ∙ both.1),
)
