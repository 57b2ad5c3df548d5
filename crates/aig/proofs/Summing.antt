-- What is known of exclusive ors stays as a graph grows.
use Rattle.std.proofs.Common.{◌≡◌, ℕ, ◌<◌, ⊎_elim, Bool, true, false, not, ◌&&◌, cond, List, [], ◌∷◌, ◌++◌, length, get_or, refl, sym, ap, subst, ◌∙◌, arith}
use Rattle.std.proofs.lemmas.List.{length_push, get_or_append_left}
use Rattle.std.proofs.lemmas.List.Elements.{All-nil, All-push, All-weaker}
use Rattle.aig.specs.declared.gate.Lit.{Lit}
use Rattle.aig.specs.declared.gate.Gate.{Gate}
use Rattle.aig.specs.declared.gate.Gate.TheVariants.{False, And}
use Rattle.aig.specs.Graph.{gate_at, holds, negation, constant_lit, Says, Obeys, Grows}
use Rattle.aig.specs.Sums.{AreSummed, differ, value_of}
use Rattle.aig.proofs.Growth.{Obeys-older}
use Rattle.xor_forms.specs.Forms.{Entry, IsPut, sum_of}

pub holds_differ : (v : ℕ → Bool) (l : Lit) → holds v l ≡ differ l.negated (v l.node)
holds_differ v l = by l.negated (v l.node)
  where
    by : (n x : Bool) → cond n (not x) x ≡ differ n x
    by true x = refl
    by false x = refl

pub none_summed : (gates : List Gate) → AreSummed gates []
none_summed gates = record { forms = λ v o. All-nil (λ (e : Entry). v e.node ≡ value_of v e.odd e.nodes); within = All-nil (λ (e : Entry). e.node < length gates) }

pub summed_grown : (old new : List Gate) (sums : List Entry) → Grows old new → AreSummed old sums → AreSummed new sums
summed_grown old new sums g h = record {
  forms = λ v o. h.forms v (Obeys-older v old new g o);
  within = All-weaker (λ (e : Entry). e.node < length old) (λ (e : Entry). e.node < length new) (λ e lt. omega (arith, g.longer)) sums h.within;
}

-- behind any gate that is pushed
pub summed_pushed : (gates : List Gate) (gate : Gate) (sums : List Entry) → 0 < length gates → AreSummed gates sums → AreSummed (gates ++ gate ∷ []) sums
summed_pushed gates gate sums some h = record {
  forms = λ v o. h.forms v (record {
    bottom = o.bottom;
    each = λ k lt. subst (Says v k) (get_or_append_left gates (gate ∷ []) False k lt) (o.each k (omega (arith, length_push gates gate)));
  });
  within = All-weaker (λ (e : Entry). e.node < length gates) (λ (e : Entry). e.node < length (gates ++ gate ∷ [])) (λ e lt. omega (arith, length_push gates gate)) sums h.within;
}

-- an entry more
pub summed_put : (gates : List Gate) (old new : List Entry) (e : Entry) → AreSummed gates old → e.node < length gates → ((v : ℕ → Bool) → Obeys v gates → v e.node ≡ value_of v e.odd e.nodes) → IsPut old e new → AreSummed gates new
summed_put gates old new e h lt is put = ⊎_elim
    (λ same. subst (λ (s : List Entry). AreSummed gates s) (sym same) h)
    (λ more. subst (λ (s : List Entry). AreSummed gates s) (sym more) (record {
      forms = λ v o. All-push (λ (e : Entry). v e.node ≡ value_of v e.odd e.nodes) old e (h.forms v o) (is v o);
      within = All-push (λ (e : Entry). e.node < length gates) old e h.within lt;
    }))
    put

-- forms of no node and of one
pub empty_is : (v : ℕ → Bool) (l : Lit) (odd : Bool) (nodes : List ℕ) → l ≡ constant_lit odd → length nodes ≡ 0 → v 0 ≡ false → holds v l ≡ value_of v odd nodes
unfolding sum_of
empty_is v l odd (k ∷ nodes) e none h = absurd (omega arith)
empty_is v l odd [] e none h = rw e (by odd (v 0) h)
  where
    by : (o x : Bool) → x ≡ false → cond o (not x) x ≡ differ o false
    by true x h = ap not h
    by false x h = h

pub one_is : (v : ℕ → Bool) (node : ℕ) (odd : Bool) (nodes : List ℕ) → length nodes ≡ 1 → get_or nodes 0 node ≡ node → holds v (record { node = node; negated = odd }) ≡ value_of v odd nodes
unfolding sum_of
one_is v node odd [] n e = absurd (omega arith)
one_is v node odd (k ∷ []) n e = holds_differ v (record { node = node; negated = odd }) ∙ ap (λ i. differ odd (v i)) (sym e) ∙ ap (λ s. differ odd s) (by (v k))
  where
    by : (x : Bool) → x ≡ differ x false
    by true = refl
    by false = refl
one_is v node odd (k ∷ j ∷ nodes) n e = absurd (omega arith)

-- the node of a literal that is a form
pub turned_is : (v : ℕ → Bool) (l : Lit) (odd turned : Bool) (nodes : List ℕ) → turned ≡ differ l.negated odd → holds v l ≡ value_of v odd nodes → v l.node ≡ value_of v turned nodes
turned_is v l odd turned nodes e h = by l.negated (v l.node) odd (sum_of v nodes) h ∙ ap (λ t. differ t (sum_of v nodes)) (sym e)
  where
    by : (n x o s : Bool) → cond n (not x) x ≡ differ o s → x ≡ differ (differ n o) s
    by true true true true h = refl
    by true true true false h = cc
    by true true false true h = cc
    by true true false false h = refl
    by true false true true h = cc
    by true false true false h = refl
    by true false false true h = refl
    by true false false false h = cc
    by false true true true h = cc
    by false true true false h = refl
    by false true false true h = refl
    by false true false false h = cc
    by false false true true h = refl
    by false false true false h = cc
    by false false false true h = cc
    by false false false false h = refl

-- the gates of an exclusive or
pub difference_by : (v : ℕ → Bool) (a b na nb carry neither nc nn c : Lit) → na ≡ negation a → nb ≡ negation b → nc ≡ negation carry → nn ≡ negation neither →
    holds v carry ≡ (holds v a && holds v b) → holds v neither ≡ (holds v na && holds v nb) → holds v c ≡ (holds v nc && holds v nn) → holds v c ≡ differ (holds v a) (holds v b)
difference_by v a b na nb carry neither nc nn c ea eb ec en hc hn h =
    table (holds v a) (holds v b) (holds v na) (holds v nb) (holds v carry) (holds v neither) (holds v nc) (holds v nn) (holds v c)
    (flips v a na ea) (flips v b nb eb) (flips v carry nc ec) (flips v neither nn en) hc hn h
  where
    not_twice : (n x : Bool) → cond (not n) (not x) x ≡ not (cond n (not x) x)
    not_twice true true = refl
    not_twice true false = refl
    not_twice false true = refl
    not_twice false false = refl

    flips : (v : ℕ → Bool) (l m : Lit) → m ≡ negation l → holds v m ≡ not (holds v l)
    flips v l m e = ap (λ (k : Lit). holds v k) e ∙ not_twice l.negated (v l.node)

    plain : (x y : Bool) → (not (x && y) && not (not x && not y)) ≡ differ x y
    plain true true = refl
    plain true false = refl
    plain false true = refl
    plain false false = refl

    table : (x y nx ny both neither nb nn one : Bool) → nx ≡ not x → ny ≡ not y → nb ≡ not both → nn ≡ not neither → both ≡ (x && y) → neither ≡ (nx && ny) → one ≡ (nb && nn) → one ≡ differ x y
    table x y nx ny both neither nb nn one e1 e2 e3 e4 e5 e6 e7 =
        let h : one ≡ (not (x && y) && not (not x && not y)) = cc in h ∙ plain x y

-- ---- halves

-- what values that obey a graph give a node that is a conjunction
pub node_is : (v : ℕ → Bool) (gates : List Gate) (k : ℕ) (p q : Lit) → Obeys v gates → k < length gates → gate_at gates k ≡ And p q → v k ≡ (holds v p && holds v q)
node_is v gates k p q o lt e = subst (Says v k) e (o.each k lt)

-- a literal whose node has the gates of an exclusive or: top, of the negations of both and neither
pub halves_by : (v : ℕ → Bool) (c p q x y z w first : Lit) → p.negated ≡ true → q.negated ≡ true →
    v c.node ≡ (holds v p && holds v q) → v p.node ≡ (holds v x && holds v y) → v q.node ≡ (holds v z && holds v w) → z ≡ negation x → w ≡ negation y →
    first.node ≡ x.node → first.negated ≡ differ x.negated c.negated → holds v c ≡ differ (holds v first) (holds v y)
halves_by v c p q x y z w first np nq top both neither ez ew node turned =
    let pl : holds v p ≡ not (v p.node) = ap (λ (n : Bool). cond n (not (v p.node)) (v p.node)) np in
    let ql : holds v q ≡ not (v q.node) = ap (λ (n : Bool). cond n (not (v q.node)) (v q.node)) nq in
    let zl : holds v z ≡ not (holds v x) = flips v x z ez in
    let wl : holds v w ≡ not (holds v y) = flips v y w ew in
    let fl : holds v first ≡ differ c.negated (holds v x) = ap (λ (k : ℕ). cond first.negated (not (v k)) (v k)) node ∙ ap (λ (n : Bool). cond n (not (v x.node)) (v x.node)) turned ∙ round x.negated c.negated (v x.node) in
    holds_differ v c ∙ ap (λ (t : Bool). differ c.negated t) (gates_by (holds v x) (holds v y) (v p.node) (v q.node) _ _ _ _ _ pl ql zl wl top both neither) ∙ turn c.negated (holds v x) (holds v y) ∙ ap (λ (t : Bool). differ t (holds v y)) (sym fl)
  where
    not_twice : (n x : Bool) → cond (not n) (not x) x ≡ not (cond n (not x) x)
    not_twice true true = refl
    not_twice true false = refl
    not_twice false true = refl
    not_twice false false = refl

    flips : (v : ℕ → Bool) (l m : Lit) → m ≡ negation l → holds v m ≡ not (holds v l)
    flips v l m e = ap (λ (k : Lit). holds v k) e ∙ not_twice l.negated (v l.node)

    round : (n c x : Bool) → cond (differ n c) (not x) x ≡ differ c (cond n (not x) x)
    round true true true = refl
    round true true false = refl
    round true false x = refl
    round false true x = refl
    round false false x = refl

    turn : (c x y : Bool) → differ c (differ x y) ≡ differ (differ c x) y
    turn true true true = refl
    turn true true false = refl
    turn true false y = refl
    turn false x y = refl

    plain : (x y : Bool) → (not (x && y) && not (not x && not y)) ≡ differ x y
    plain true true = refl
    plain true false = refl
    plain false true = refl
    plain false false = refl

    gates_by : (x y both neither hp hq hz hw one : Bool) → hp ≡ not both → hq ≡ not neither → hz ≡ not x → hw ≡ not y → one ≡ (hp && hq) → both ≡ (x && y) → neither ≡ (hz && hw) → one ≡ differ x y
    gates_by x y both neither hp hq hz hw one e1 e2 e3 e4 e5 e6 e7 =
        let h : one ≡ (not (x && y) && not (not x && not y)) = cc in h ∙ plain x y
