-- What a graph and its table keep as they grow.
use Rattle.std.proofs.Common.{◌≡◌, ◌≢◌, ℕ, Result, Ok, Err, IfOk, IfErr, zero, suc, ◌+◌, ◌<◌, ◌≤◌, ◌⊎◌, inl, inr, ⊎_elim, Bool, true, false, not, ◌&&◌, cond, List, [], ◌∷◌, ◌++◌, length, get_or, map, refl, sym, ap, subst, ◌∙◌, arith}
use Rattle.std.proofs.lemmas.Bool.{cases_eq, cases_lt}
use Rattle.std.proofs.lemmas.List.{length_push, get_or_append_left, get_or_push, get_or_past}
use Rattle.aig.specs.declared.gate.Lit.{Lit}
use Rattle.aig.specs.declared.gate.Gate.{Gate}
use Rattle.aig.specs.declared.gate.Gate.TheVariants.{False, Input, And}
use Rattle.aig.specs.Graph.{gate_at, holds, Says, values, count_inputs, IsGraph, Grows, KeepsValues, IsIn}
use Rattle.aig.specs.Conjunction.{IsBoth, NeedsNoGate, IsSimplified, IsMadePlain, IsGateOf}
use Rattle.aig.specs.Sums.{AreSummed}
use Rattle.xor_forms.specs.Forms.{Entry}
use Rattle.aig.proofs.Summing.{none_summed, summed_pushed}
use Rattle.aig.specs.Table.{hash_of, HasNone, IsHashed, IsLinked, IsKept, IsNodeOf}
use Rattle.aig.proofs.Growth.{IsGraph-push_and, IsGraph-push_input, start, none_counted, Grows-refl, Grows-push, count_inputs-push_input}
use Rattle.aig.proofs.Values.{always_from, kept_values, value_input}

-- ---- what is hashed

-- the gates below the end stay as one is pushed
pushed_same : (gates : List Gate) (g : Gate) (k : ℕ) → k < length gates → gate_at (gates ++ g ∷ []) k ≡ gate_at gates k
pushed_same gates g k lt = get_or_append_left gates (g ∷ []) False k lt

pushed_last : (gates : List Gate) (g : Gate) → gate_at (gates ++ g ∷ []) (length gates) ≡ g
pushed_last gates g = get_or_push gates g False (length gates) refl

-- where a conjunction stands after a push
pushed_and : (gates : List Gate) (g : Gate) (k : ℕ) (p q : Lit) → gate_at (gates ++ g ∷ []) k ≡ And p q → (gate_at gates k ≡ And p q) ⊎ ((k ≡ length gates) × (g ≡ And p q))
pushed_and gates g k p q e = ⊎_elim
    (λ lt. inl (sym (pushed_same gates g k lt) ∙ e))
    (λ le. ⊎_elim
    (λ is. inr (is, sym (pushed_last gates g) ∙ subst (λ j. gate_at (gates ++ g ∷ []) j ≡ And p q) is e))
    (λ not. let past : False ≡ And p q = sym (get_or_past (gates ++ g ∷ []) k False (omega (arith, length_push gates g))) ∙ e in cc)
    (cases_eq k (length gates)))
    (cases_lt k (length gates))

hashed_start : IsHashed (False ∷ [])
hashed_start = record {
  some = λ k p q e. absurd (start_none k p q e);
  ordered = λ k p q e. absurd (start_none k p q e);
  apart = λ j k p q e f. absurd (start_none j p q e);
}
  where
    start_none : (k : ℕ) (p q : Lit) → gate_at (False ∷ []) k ≡ And p q → ⊥
    start_none zero p q e = cc
    start_none (suc k) p q e = cc

hashed_input : (gates : List Gate) (n : ℕ) → IsHashed gates → IsHashed (gates ++ Input n ∷ [])
hashed_input gates n h = record {
  some = λ k p q e. h.some k p q (before k p q e);
  ordered = λ k p q e. h.ordered k p q (before k p q e);
  apart = λ j k p q e f. h.apart j k p q (before j p q e) (before k p q f);
}
  where
    before : (k : ℕ) (p q : Lit) → gate_at (gates ++ Input n ∷ []) k ≡ And p q → gate_at gates k ≡ And p q
    before k p q e = ⊎_elim (λ old. old) (λ new. let no : Input n ≡ And p q = new.1 in cc) (pushed_and gates (Input n) k p q e)

hashed_and : (gates : List Gate) (a b : Lit) → 0 < a.node → a.node < b.node → HasNone gates (And a b) → IsHashed gates → IsHashed (gates ++ And a b ∷ [])
hashed_and gates a b some lt none h = record {
  some = λ k p q e. ⊎_elim (λ old. h.some k p q old) (λ new. let is : a ≡ p = first a b p q new.1 in subst (λ (l : Lit). 0 < l.node) is some) (pushed_and gates (And a b) k p q e);
  ordered = λ k p q e. ⊎_elim (λ old. h.ordered k p q old) (λ new.
      let is : a ≡ p = first a b p q new.1 in
      let also : b ≡ q = second a b p q new.1 in
      subst (λ (l : Lit). l.node < q.node) is (subst (λ (l : Lit). a.node < l.node) also lt)) (pushed_and gates (And a b) k p q e);
  apart = λ j k p q e f. ⊎_elim
      (λ old. ⊎_elim (λ old'. h.apart j k p q old old') (λ new'. absurd (none.none j (old ∙ sym new'.1))) (pushed_and gates (And a b) k p q f))
      (λ new. ⊎_elim (λ old'. absurd (none.none k (old' ∙ sym new.1))) (λ new'. new.0 ∙ sym new'.0) (pushed_and gates (And a b) k p q f))
      (pushed_and gates (And a b) j p q e);
}
  where
    first : (a b p q : Lit) → And a b ≡ And p q → a ≡ p
    first a b p q e = cc

    second : (a b p q : Lit) → And a b ≡ And p q → b ≡ q
    second a b p q e = cc

-- ---- what an `Aig` keeps

pub kept_start : (gates : List Gate) (hashes : List ℕ) → gates ≡ False ∷ [] → hashes ≡ map hash_of gates → IsKept 0 gates hashes []
kept_start gates hashes is e = record {
  summed = none_summed gates;
  linked = record {
    graph = subst (λ (g : List Gate). IsGraph g) (sym is) start;
    hashed = subst (λ (g : List Gate). IsHashed g) (sym is) hashed_start;
    indexed = e;
  };
  counted = subst (λ (g : List Gate). 0 ≡ count_inputs g) (sym is) none_counted;
}

pub kept_input : (inputs : ℕ) (gates new : List Gate) (hashes hashes' : List ℕ) (sums : List Entry) → new ≡ gates ++ Input inputs ∷ [] → hashes' ≡ map hash_of new → IsKept inputs gates hashes sums → IsKept (inputs + 1) new hashes' sums
kept_input inputs gates new hashes hashes' sums is e h = record {
  summed = subst (λ (g : List Gate). AreSummed g sums) (sym is) (summed_pushed gates (Input inputs) sums h.linked.graph.some h.summed);
  linked = record {
    graph = subst (λ (g : List Gate). IsGraph g) (sym is) (IsGraph-push_input gates inputs h.linked.graph h.counted);
    hashed = subst (λ (g : List Gate). IsHashed g) (sym is) (hashed_input gates inputs h.linked.hashed);
    indexed = e;
  };
  counted = ap (λ n. n + 1) h.counted ∙ sym (count_inputs-push_input gates inputs) ∙ ap (λ (g : List Gate). count_inputs g) (sym is);
}

pub kept_pushed : (gates : List Gate) (g : Gate) → IsGraph gates → KeepsValues gates (gates ++ g ∷ [])
kept_pushed gates g h = kept_values gates (gates ++ g ∷ []) h (omega (arith, length_push gates g)) (λ k lt. pushed_same gates g k lt)

-- the value of an input that was added
pub value_pushed : (gates : List Gate) (n : ℕ) → IsGraph gates → n ≡ count_inputs gates → (inputs : List Bool) → values inputs (gates ++ Input n ∷ []) (length gates) ≡ get_or inputs n false
value_pushed gates n h e inputs =
    value_input inputs (gates ++ Input n ∷ []) (length gates) n (IsGraph-push_input gates n h e) (omega (arith, length_push gates (Input n))) (pushed_last gates (Input n))

-- ---- the contract of `and`

-- nothing is made where the operands decide
pub both_plain : (gates : List Gate) (a b c : Lit) → IsMadePlain a b c → IsGraph gates → IsBoth gates a b c
both_plain gates a b c m h = always_from gates (λ v. holds v c ≡ (holds v a && holds v b)) h (λ v o. m.value v o.bottom)

not_decided : (a b : Lit) → 0 < a.node → a.node < b.node → NeedsNoGate a b → ⊥
not_decided a b some lt (inl e) = omega arith
not_decided a b some lt (inr (inl e)) = omega arith
not_decided a b some lt (inr (inr e)) = omega arith

not_decided_turned : (a b : Lit) → 0 < b.node → b.node < a.node → NeedsNoGate a b → ⊥
not_decided_turned a b some lt (inl e) = omega arith
not_decided_turned a b some lt (inr (inl e)) = omega arith
not_decided_turned a b some lt (inr (inr e)) = omega arith

-- no gate has operands that decide
pub no_gate : (gates : List Gate) (a b c : Lit) → IsHashed gates → NeedsNoGate a b → IsGateOf gates a b c → ⊥
no_gate gates a b c h decided g = ⊎_elim
    (λ e. not_decided a b (h.some c.node a b e) (h.ordered c.node a b e) decided)
    (λ e. not_decided_turned a b (h.some c.node b a e) (h.ordered c.node b a e) decided)
    g.operands

holds-plain : (v : ℕ → Bool) (c : Lit) → c.negated ≡ false → holds v c ≡ v c.node
holds-plain v c e = ap (λ (n : Bool). cond n (not (v c.node)) (v c.node)) e

pub both_made : (old new : List Gate) (a b c : Lit) → IsNodeOf old a b new c.node → c.negated ≡ false → IsGraph new → IsBoth new a b c
both_made old new a b c m plain h = always_from new (λ v. holds v c ≡ (holds v a && holds v b)) h (λ v o.
    let says : v c.node ≡ (holds v a && holds v b) = subst (Says v c.node) m.is (o.each c.node m.within) in
    holds-plain v c plain ∙ says)

and_turn : (x y : Bool) → (x && y) ≡ (y && x)
and_turn true true = refl
and_turn true false = refl
and_turn false true = refl
and_turn false false = refl

pub both_turned : (gates : List Gate) (a b c : Lit) → IsBoth gates b a c → IsBoth gates a b c
both_turned gates a b c h = record {
  graph = h.graph;
  obeyed = λ v o. h.obeyed v o ∙ and_turn (holds v b) (holds v a);
  at_inputs = λ inputs. h.at_inputs inputs ∙ and_turn (holds (values inputs gates) b) (holds (values inputs gates) a);
}

pub grows_made : (old new : List Gate) (a b : Lit) (k : ℕ) → IsNodeOf old a b new k → Grows old new
grows_made old new a b k m = ⊎_elim
    (λ e. subst (λ (g : List Gate). Grows old g) (sym e) (Grows-refl old))
    (λ made. subst (λ (g : List Gate). Grows old g) (sym made.0) (Grows-push old a b))
    m.grown

pub simplified_not : (a b c : Lit) → (NeedsNoGate a b → ⊥) → IsSimplified a b c
simplified_not a b c open_pair = record {
  identity_left = λ e. absurd (open_pair (inl (ap (λ (l : Lit). l.node) e)));
  identity_right = λ e. absurd (open_pair (inr (inl (ap (λ (l : Lit). l.node) e))));
  annihilation_left = λ e. absurd (open_pair (inl (ap (λ (l : Lit). l.node) e)));
  annihilation_right = λ e. absurd (open_pair (inr (inl (ap (λ (l : Lit). l.node) e))));
  idempotence = λ e. absurd (open_pair (inr (inr (ap (λ (l : Lit). l.node) e))));
  complement = λ e. absurd (open_pair (inr (inr (sym (ap (λ (l : Lit). l.node) e)))));
}

pub gate_made : (old new : List Gate) (a b c : Lit) → IsNodeOf old a b new c.node → c.negated ≡ false → IsGateOf new a b c
gate_made old new a b c m plain = record { within = m.within; plain = plain; operands = inl m.is }

pub gate_turned : (gates : List Gate) (a b c : Lit) → IsGateOf gates b a c → IsGateOf gates a b c
gate_turned gates a b c g = record { within = g.within; plain = g.plain; operands = ⊎_elim (λ x. inr x) (λ y. inl y) g.operands }

lit_same : (c d : Lit) → d.node ≡ c.node → d.negated ≡ c.negated → d ≡ c
lit_same c d e f =
    let pair : ◌≡◌ {A = ℕ × Bool} (d.node, d.negated) (c.node, c.negated) = cc in
    let of : ℕ × Bool → Lit = λ p. record { node = p.0; negated = p.1 } in
    ap of pair

pub shared_made : (old new : List Gate) (a b c d : Lit) → IsNodeOf old a b new d.node → d.negated ≡ false → a.node < b.node → IsHashed old → IsGateOf old a b c → (new ≡ old) × (d ≡ c)
shared_made old new a b c d m plain lt h g = ⊎_elim
    (λ here. ⊎_elim
    (λ e. (e, lit_same c d (h.apart d.node c.node a b (subst (λ (x : List Gate). gate_at x d.node ≡ And a b) e m.is) here) (plain ∙ sym g.plain)))
    (λ made. absurd (made.1.none c.node here))
    m.grown)
    (λ turned. absurd (let gt : b.node < a.node = h.ordered c.node b a turned in omega arith))
    g.operands

-- ---- a call that finds the node of two operands, or makes it

pub made_within : {E : Type 0} (r : Result Lit E) (old new : List Gate) (a b : Lit) → IfOk r (λ c. IsNodeOf old a b new c.node) → IfOk r (λ c. IsIn new c)
made_within (Ok c) old new a b m = m.within
made_within (Err e) old new a b m = tt

pub made_grows : {E : Type 0} (r : Result Lit E) (old new : List Gate) (a b : Lit) → IfOk r (λ c. IsNodeOf old a b new c.node) → IfErr r (λ _. new ≡ old) → Grows old new
made_grows (Ok c) old new a b m same = grows_made old new a b c.node m
made_grows (Err e) old new a b m same = subst (λ (g : List Gate). Grows old g) (sym same) (Grows-refl old)

pub made_nodes : {E : Type 0} (r : Result Lit E) (old new : List Gate) (a b : Lit) → IfOk r (λ c. IsNodeOf old a b new c.node) → IfErr r (λ _. new ≡ old) → length new ≤ length old + 1
made_nodes (Ok c) old new a b m same = ⊎_elim
    (λ e. omega (arith, ap (λ (g : List Gate). length g) e))
    (λ made. omega (arith, ap (λ (g : List Gate). length g) made.0, length_push old (And a b)))
    m.grown
made_nodes (Err e) old new a b m same = omega (arith, ap (λ (g : List Gate). length g) same)

pub made_simplified : {E : Type 0} (r : Result Lit E) (a b : Lit) → (NeedsNoGate a b → ⊥) → IfOk r (IsSimplified a b)
made_simplified (Ok c) a b open_pair = simplified_not a b c open_pair
made_simplified (Err e) a b open_pair = tt

pub made_gate : {E : Type 0} (r : Result Lit E) (old new : List Gate) (a b : Lit) → IfOk r (λ c. IsNodeOf old a b new c.node) → IfOk r (λ c. c.negated ≡ false) → IfOk r (λ c. ¬ NeedsNoGate a b → IsGateOf new a b c)
made_gate (Ok c) old new a b m plain = λ _. gate_made old new a b c m plain
made_gate (Err e) old new a b m plain = tt

-- the same of the operands turned
pub made_gate_turned : {E : Type 0} (r : Result Lit E) (old new : List Gate) (a b : Lit) → IfOk r (λ c. IsNodeOf old b a new c.node) → IfOk r (λ c. c.negated ≡ false) → IfOk r (λ c. ¬ NeedsNoGate a b → IsGateOf new a b c)
made_gate_turned (Ok c) old new a b m plain = λ _. gate_turned new a b c (gate_made old new b a c m plain)
made_gate_turned (Err e) old new a b m plain = tt

pub made_shared : {E : Type 0} (r : Result Lit E) (old new : List Gate) (a b : Lit) → IfOk r (λ c. IsNodeOf old a b new c.node) → IfOk r (λ c. c.negated ≡ false) → IfErr r (λ _. new ≡ old) → a.node < b.node → IsHashed old → (c : Lit) → IsGateOf old a b c → (new ≡ old) × IfOk r (λ d. d ≡ c)
made_shared (Ok d) old new a b m plain same lt h c g = shared_made old new a b c d m plain lt h g
made_shared (Err e) old new a b m plain same lt h c g = (same, tt)

-- two operands of one node, or of none, decide
pub two_nodes : (gates : List Gate) (a b : Lit) → IsIn gates a → (NeedsNoGate a b → ⊥) → length gates ≤ 1 → ⊥
two_nodes gates a b within open_pair few = open_pair (inl (omega arith))

pub kept_grown : (old new : List Gate) → IsGraph old → Grows old new → KeepsValues old new
kept_grown old new h g = kept_values old new h g.longer g.same

-- operands that do not decide
pub open_left : (a b : Lit) → (NeedsNoGate a b → ⊥) → 0 < a.node
open_left a b open_pair = let some : a.node ≢ 0 = λ e. open_pair (inl e) in omega arith

pub open_right : (a b : Lit) → (NeedsNoGate a b → ⊥) → 0 < b.node
open_right a b open_pair = let some : b.node ≢ 0 = λ e. open_pair (inr (inl e)) in omega arith

pub open_apart : (a b : Lit) → (NeedsNoGate a b → ⊥) → b.node ≤ a.node → b.node < a.node
open_apart a b open_pair h = let apart : a.node ≢ b.node = λ e. open_pair (inr (inr e)) in omega arith

-- ---- a gate that is pushed

node_pushed : (gates new : List Gate) (a b : Lit) (k : ℕ) → new ≡ gates ++ And a b ∷ [] → k ≡ length gates → HasNone gates (And a b) → IsNodeOf gates a b new k
node_pushed gates new a b k is e none = record {
  within = omega (arith, e, ap (λ (g : List Gate). length g) is, length_push gates (And a b));
  is = ap (λ (g : List Gate). gate_at g k) is ∙ get_or_push gates (And a b) False k (sym e);
  grown = inr (is, none);
}

pub linked_pushed : {E : Type 0} (r : Result ℕ E) (gates new : List Gate) (a b : Lit) (hashes hashes' : List ℕ) → IfOk r (λ k. new ≡ gates ++ And a b ∷ []) → IfErr r (λ _. new ≡ gates) → hashes' ≡ map hash_of new →
    IsLinked gates hashes → 0 < a.node → a.node < b.node → b.node < length gates → HasNone gates (And a b) → IsLinked new hashes'
linked_pushed (Ok k) gates new a b hashes hashes' is kept e h some lt within none = record {
  graph = subst (λ (g : List Gate). IsGraph g) (sym is) (IsGraph-push_and gates a b h.graph (omega arith) within);
  hashed = subst (λ (g : List Gate). IsHashed g) (sym is) (hashed_and gates a b some lt none h.hashed);
  indexed = e;
}
linked_pushed (Err e') gates new a b hashes hashes' is kept e h some lt within none = record {
  graph = subst (λ (g : List Gate). IsGraph g) (sym kept) h.graph;
  hashed = subst (λ (g : List Gate). IsHashed g) (sym kept) h.hashed;
  indexed = e;
}

pub node_made : {E : Type 0} (r : Result ℕ E) (gates new : List Gate) (a b : Lit) → IfOk r (λ k. new ≡ gates ++ And a b ∷ []) → IfOk r (λ k. k ≡ length gates) → HasNone gates (And a b) → IfOk r (IsNodeOf gates a b new)
node_made (Ok k) gates new a b is e none = node_pushed gates new a b k is e none
node_made (Err e') gates new a b is e none = tt
