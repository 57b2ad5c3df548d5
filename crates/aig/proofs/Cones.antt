-- Values over a cone.
use Rattle.std.proofs.Common.{◌≡◌, ℕ, ◌+◌, ◌<◌, ⊎_elim, Bool, true, false, not, ◌&&◌, cond, List, [], ◌∷◌, ◌++◌, length, get_or, take, drop, refl, sym, ap, subst, ◌∙◌, arith}
use Rattle.std.proofs.lemmas.Bool.{cases_eq}
use Rattle.std.proofs.lemmas.List.{append-nil, drop_all, take_all, get_or_append_left, get_or_push}
use Rattle.aig.specs.declared.gate.Gate.{Gate}
use Rattle.aig.specs.declared.gate.Gate.TheVariants.{False, Input, And}
use Rattle.aig.specs.Graph.{gate_at, gate_value, values, is_placed, count_inputs, IsGraph}
use Rattle.aig.specs.Cone.{AreMarked, IsClosed}
use Rattle.aig.proofs.Values.{operands, values_at}

-- a gate reads its operands alone
gate_value_marked : (inputs marks : List Bool) (f g : ℕ → Bool) (k n : ℕ) (gate : Gate) → is_placed k n gate ≡ true → AreMarked marks gate →
    ((j : ℕ) → j < k → get_or marks j false ≡ true → f j ≡ g j) → gate_value inputs f gate ≡ gate_value inputs g gate
gate_value_marked inputs marks f g k n False h m same = refl
gate_value_marked inputs marks f g k n (Input i) h m same = refl
gate_value_marked inputs marks f g k n (And p q) h m same =
    let o = operands k n p q h in
    let ep : f p.node ≡ g p.node = same p.node o.0 m.0 in
    let eq : f q.node ≡ g q.node = same q.node o.1 m.1 in
    ap (λ (x : Bool × Bool). cond p.negated (not x.0) x.0 && cond q.negated (not x.1) x.1) (let r : ◌≡◌ {A = Bool × Bool} (f p.node, f q.node) (g p.node, g q.node) = cc in r)

-- one more node has its value, if it is marked
pub cone_more : (inputs : List Bool) (gates : List Gate) (marks nodes : List Bool) (k : ℕ) (x : Bool) → IsGraph gates → k < length gates → IsClosed gates marks 0 → length nodes ≡ k →
    ((j : ℕ) → j < k → get_or marks j false ≡ true → get_or nodes j false ≡ values inputs gates j) →
    (get_or marks (length nodes) false ≡ true → x ≡ gate_value inputs (λ i. get_or nodes i false) (gate_at gates (length nodes))) →
    (j : ℕ) → j < k + 1 → get_or marks j false ≡ true → get_or (nodes ++ x ∷ []) j false ≡ values inputs gates j
cone_more inputs gates marks nodes k x h lt closed n before is j below m = ⊎_elim
    (λ e. let mk : get_or marks k false ≡ true = subst (λ (i : ℕ). get_or marks i false ≡ true) e m in
    let ex : x ≡ values inputs gates k = is (subst (λ (i : ℕ). get_or marks i false ≡ true) (sym n) mk) ∙ ap (λ (i : ℕ). gate_value inputs (λ i. get_or nodes i false) (gate_at gates i)) n ∙
    gate_value_marked inputs marks (λ i. get_or nodes i false) (values inputs gates) k (count_inputs (take k gates)) (gate_at gates k) (h.each k lt) (closed k (omega arith) mk) before ∙ sym (values_at inputs gates k h lt) in
    rw e (get_or_push nodes x false k n ∙ ex))
    (λ ne. get_or_append_left nodes (x ∷ []) false j (omega arith) ∙ before j (omega arith) m)
    (cases_eq j k)

-- ---- a list that was changed as a slice

pub slice_back : {A : Type 0} → (n : ℕ) (new items was : List A) → n ≡ length items → length new ≡ length was → was ≡ items → take n (new ++ drop (length new) items) ≡ new
slice_back n new items was e same is =
    let l : length new ≡ length items = same ∙ ap length is in
    ap (λ r. take n (new ++ r)) (drop_all (length new) items (omega arith)) ∙ ap (take n) (append-nil new) ∙ take_all n new (omega arith)
