-- Inputs for the bits of variables, one more at a time.
use Rattle.std.proofs.Common.{◌≡◌, ℕ, zero, suc, ◌+◌, ◌<◌, ◌≤◌, Bool, true, false, cond, List, [], ◌∷◌, ◌++◌, length, get_or, take, drop, map, refl, sym, ap, subst, ◌∙◌, arith}
use Rattle.std.proofs.lemmas.List.{map_more, length-map, get_or-map, map_push, length-drop, get_or-drop, drop-drop, length_push, get_or_append_left}
use Rattle.std.proofs.lemmas.List.Elements.{All-push, All-nil, All-weaker}
use Rattle.std.specs.List.{All}
use Rattle.aig.specs.declared.gate.Lit.{Lit}
use Rattle.aig.specs.declared.gate.Gate.{Gate}
use Rattle.aig.specs.declared.gate.Gate.TheVariants.{False, Input}
use Rattle.aig.specs.Graph.{gate_at, values, value, count_inputs, KeepsValues, IsIn, IsGraph, Grows}
use Rattle.aig.proofs.Values.{Obeys-values, kept_values}
use Rattle.fourvec.specs.declared.Bit.{Bit}
use Rattle.fourvec.specs.Bits.{bit_of, truth_bit}
use Rattle.svex_shape.specs.declared.shape.Shape.{Shape}
use Rattle.svex_shape.specs.Shapes.{shape_at, width_at}
use Rattle.svex_arena.specs.Marks.{IsMarked, IsClosed, HasRoots, OnlyReached}
use Rattle.svex_shape.specs.Values.{Vector, read, value_at}
use Rattle.svex_arena.proofs.Keeping.{extends_self}
use Rattle.svex_arena.proofs.Marking.{reached_marked}
use Rattle.svtv_table.specs.declared.bound.VarDecl.{VarDecl}
use Rattle.pair_words.specs.declared.pairs.Pair.{Pair}
use Rattle.pair_words.specs.Rails.{bit_at, bits, IsWired}
use Rattle.svex_blast.specs.Sizes.{gates_of, gates_to}
use Rattle.svex_blast.specs.Knowns.{are_twins}
use Rattle.svex_blast.proofs.Knowing.{twins_push}
use Rattle.svex_blast.specs.Reads.{chosen_by, only_chosen, word_in, AreVectors}
use Rattle.svex_blast.specs.Chosen.{widths_of, bits_of, Extends, HasInputs, HasVariables, Planes, planes_of, AreWired, AreRails, shown}

wired_longer : (old new : List Gate) (word : List Pair) → length old ≤ length new → All (IsWired old) word → All (IsWired new) word
wired_longer old new word le h = All-weaker (IsWired old) (IsWired new) (λ p i. (let a = i.up in let b = i.low in record { up = omega (arith, a, le); low = omega (arith, b, le) })) word h

-- pairs of a graph keep their bits
pub bits_kept : (old new : List Gate) (inputs : List Bool) (word : List Pair) → KeepsValues old new → All (IsWired old) word → bits (values inputs new) word ≡ bits (values inputs old) word
bits_kept old new inputs [] k h = refl
bits_kept old new inputs (p ∷ word) k h =
    let w : IsWired old p = h 0 p (omega arith) in
    let here : bit_at (values inputs new) p ≡ bit_at (values inputs old) p = λ i. bit_of (k inputs p.up w.up i) (k inputs p.low w.low i) in
    ap (λ (t : Bit). t ∷ bits (values inputs new) word) here ∙ ap (λ (t : List Bit). bit_at (values inputs old) p ∷ t) (bits_kept old new inputs word k (λ n d lt. h (suc n) d (omega arith)))

-- ---- the nodes that there were

pub extends_refl : (gates : List Gate) → Extends gates gates
extends_refl gates = record { longer = omega arith; same = λ k lt. refl }

pub extends_then : (a b c : List Gate) → Extends a b → Extends b c → Extends a c
extends_then a b c h k = record { longer = omega (arith, h.longer, k.longer); same = λ n lt. k.same n (omega (arith, lt, h.longer)) ∙ h.same n lt }

pub extends_grown : (a b c : List Gate) → Extends a b → Grows b c → Extends a c
extends_grown a b c h g = extends_then a b c h (record { longer = g.longer; same = g.same })

-- one gate more
pub extends_push : (a b c : List Gate) (g : Gate) → Extends a b → c ≡ b ++ g ∷ [] → Extends a c
extends_push a b c g h e = extends_then a b c h (record {
  longer = (let n = ap (λ (t : List Gate). length t) e in omega (arith, n, length_push b g));
  same = λ k lt. ap (λ (t : List Gate). gate_at t k) e ∙ get_or_append_left b (g ∷ []) False k lt;
})

pub extends_still : (a b c : List Gate) → Extends a b → c ≡ b → Extends a c
extends_still a b c h e = subst (Extends a) (sym e) h

twice : (b : Bool) → bit_of b b ≡ truth_bit b
twice true = refl
twice false = refl

pub kept_then : (a b c : List Gate) → length a ≤ length b → KeepsValues a b → KeepsValues b c → KeepsValues a c
kept_then a b c le h k = λ inputs l lt. k inputs l (omega (arith, lt, le)) ∙ h inputs l lt

pub inputs_none : (gates : List Gate) → HasInputs 0 gates gates []
inputs_none gates = record {
  long = refl;
  inside = All-nil (IsWired gates);
  twins = refl;
  nodes = omega arith;
  count = omega arith;
  extends = extends_refl gates;
  kept = λ inputs l lt. refl;
  is = λ inputs le. refl;
}

-- one input more
pub inputs_more : (i : ℕ) (old mid new : List Gate) (word : List Pair) (l : Lit) → HasInputs i old mid word → new ≡ mid ++ Input (count_inputs mid) ∷ [] → l.node ≡ length mid → count_inputs new ≡ count_inputs mid + 1 → KeepsValues mid new →
    ((inputs : List Bool) → value inputs new l ≡ get_or inputs (count_inputs mid) false) → HasInputs (i + 1) old new (word ++ record { up = l; low = l } ∷ [])
inputs_more i old mid new word l h made node count kept is =
    let one : length new ≡ length mid + 1 = ap (λ (t : List Gate). length t) made ∙ length_push mid (Input (count_inputs mid)) in
    let p : Pair = record { up = l; low = l } in
    let n0 : ℕ = count_inputs old in
    record {
      long = omega (arith, length_push word p, h.long);
      inside = All-push (IsWired new) word p (wired_longer mid new word (omega (arith, one)) h.inside) (record { up = omega (arith, one, node); low = omega (arith, one, node) });
      twins = twins_push word l h.twins;
      nodes = omega (arith, h.nodes, one);
      count = omega (arith, h.count, count);
      extends = extends_push old mid new (Input (count_inputs mid)) h.extends made;
      kept = kept_then old mid new (omega (arith, h.nodes)) h.kept kept;
      is = λ inputs le.
          let some : i < length (drop n0 inputs) = omega (arith, length-drop n0 inputs, le, count, h.count) in
          let at : count_inputs mid ≡ n0 + i = h.count in
          map_push (bit_at (values inputs new)) word p ∙
          ap (λ (t : List Bit). t ++ bit_at (values inputs new) p ∷ []) (bits_kept mid new inputs word kept h.inside ∙ h.is inputs (omega (arith, le, count))) ∙
          ap (λ (t : Bit). map truth_bit (take i (drop n0 inputs)) ++ t ∷ []) (ap (λ (t : Bool). bit_of t t) (is inputs) ∙ twice (get_or inputs (count_inputs mid) false) ∙
          ap (λ n. truth_bit (get_or inputs n false)) at ∙ ap truth_bit (sym (get_or-drop n0 inputs i false))) ∙
          sym (map_more truth_bit (drop n0 inputs) i false some);
    }

bits-push : (ws : List ℕ) (w : ℕ) → bits_of (ws ++ w ∷ []) ≡ bits_of ws + w
unfolding bits_of
bits-push [] w = omega arith
bits-push (x ∷ ws) w = omega (arith, bits-push ws w)

bits-none : bits_of [] ≡ 0
unfolding bits_of
bits-none = refl

chosen-push : (ws : List ℕ) (w : ℕ) (xs : List Bool) → chosen_by (ws ++ w ∷ []) xs ≡ chosen_by ws xs ++ map truth_bit (take w (drop (bits_of ws) xs)) ∷ []
unfolding chosen_by bits_of
chosen-push [] w xs = refl
chosen-push (x ∷ ws) w xs =
    ap (λ (t : List Vector). map truth_bit (take x xs) ∷ t) (chosen-push ws w (drop x xs) ∙
    ap (λ (t : List Bool). chosen_by ws (drop x xs) ++ map truth_bit (take w t) ∷ []) (drop-drop (bits_of ws) x xs))

chosen-none : (xs : List Bool) → chosen_by [] xs ≡ []
unfolding chosen_by
chosen-none xs = refl

pub variables_none : (gates : List Gate) → HasVariables [] gates gates []
variables_none gates = record {
  wide = refl;
  twins = All-nil (λ (w : List Pair). are_twins w ≡ true);
  inside = All-nil (All (IsWired gates));
  nodes = omega (arith, bits-none);
  count = omega (arith, bits-none);
  extends = extends_refl gates;
  kept = λ inputs l lt. refl;
  is = λ inputs le. sym (chosen-none (drop (count_inputs gates) inputs));
}

vectors_kept : (old new : List Gate) (inputs : List Bool) (words : List (List Pair)) → KeepsValues old new → All (All (IsWired old)) words → map (bits (values inputs new)) words ≡ map (bits (values inputs old)) words
vectors_kept old new inputs [] k h = refl
vectors_kept old new inputs (w ∷ words) k h =
    ap (λ (t : List Bit). t ∷ map (bits (values inputs new)) words) (bits_kept old new inputs w k (h 0 w (omega arith))) ∙
    ap (λ (t : List (List Bit)). bits (values inputs old) w ∷ t) (vectors_kept old new inputs words k (λ n d lt. h (suc n) d (omega arith)))

-- one variable more
variables_push : (ws : List ℕ) (w : ℕ) (old mid new : List Gate) (words : List (List Pair)) (word : List Pair) → HasVariables ws old mid words → HasInputs w mid new word → HasVariables (ws ++ w ∷ []) old new (words ++ word ∷ [])
variables_push ws w old mid new words word h k = record {
  wide = map_push (λ (x : List Pair). length x) words word ∙ (λ i. h.wide i ++ k.long i ∷ []);
  twins = All-push (λ (x : List Pair). are_twins x ≡ true) words word h.twins k.twins;
  inside = All-push (All (IsWired new)) words word (All-weaker (All (IsWired mid)) (All (IsWired new)) (λ x i. wired_longer mid new x (omega (arith, k.nodes)) i) words h.inside) k.inside;
  nodes = omega (arith, h.nodes, k.nodes, bits-push ws w);
  count = omega (arith, h.count, k.count, bits-push ws w);
  extends = extends_then old mid new h.extends k.extends;
  kept = kept_then old mid new (omega (arith, h.nodes)) h.kept k.kept;
  is = λ inputs le.
      let n0 : ℕ = count_inputs old in
      let at : drop (count_inputs mid) inputs ≡ drop (bits_of ws) (drop n0 inputs) = ap (λ n. drop n inputs) h.count ∙ sym (drop-drop (bits_of ws) n0 inputs) in
      map_push (bits (values inputs new)) words word ∙
      ap (λ (t : List (List Bit)). t ++ bits (values inputs new) word ∷ []) (vectors_kept mid new inputs words k.kept h.inside ∙ h.is inputs (omega (arith, le, k.count))) ∙
      ap (λ (t : List Bit). chosen_by ws (drop n0 inputs) ++ t ∷ []) (k.is inputs le ∙ ap (λ (t : List Bool). map truth_bit (take w t)) at) ∙
      sym (chosen-push ws w (drop n0 inputs));
}

pub variables_more : (vars : List VarDecl) (i : ℕ) (var : VarDecl) (old mid new : List Gate) (words : List (List Pair)) (word : List Pair) → i < length vars → var ≡ get_or vars i var →
    HasVariables (widths_of (take i vars)) old mid words → HasInputs var.width mid new word → HasVariables (widths_of (take (i + 1) vars)) old new (words ++ word ∷ [])
variables_more vars i var old mid new words word lt is h k =
    let e : widths_of (take (i + 1) vars) ≡ widths_of (take i vars) ++ var.width ∷ [] = map_more (λ (x : VarDecl). x.width) vars i var lt ∙ ap (λ (x : VarDecl). widths_of (take i vars) ++ x.width ∷ []) (sym is) in
    subst (λ ws. HasVariables ws old new (words ++ word ∷ [])) (sym e) (variables_push (widths_of (take i vars)) var.width old mid new words word h k)

-- the rails of pairs show their bits
pub shown_is : (v : ℕ → Bool) (word : List Pair) → shown v (map (λ p. p.up) word) (map (λ p. p.low) word) ≡ bits v word
unfolding shown
shown_is v [] = refl
shown_is v (p ∷ word) = ap (λ (t : List Bit). bit_at v p ∷ t) (shown_is v word)

-- the rails of a node's vector show its value
pub rails_are : (vars : List VarDecl) (shapes : List Shape) (old mid new : List Gate) (marks : List Bool) (words done : List (List Pair)) (node : ℕ) → count_inputs old ≡ 0 → HasVariables (widths_of vars) old mid words →
    IsGraph mid → IsGraph new → Grows mid new → AreVectors shapes marks words new done → node < length done → IsMarked marks node → AreRails vars shapes new node (planes_of (word_in done node))
rails_are vars shapes old mid new marks words done node none made gm gn grows vectors lt is = λ inputs long.
    let v : ℕ → Bool = values inputs new in
    let kept : KeepsValues mid new = kept_values mid new gm grows.longer grows.same in
    let counted : count_inputs new ≡ count_inputs mid = grows.inputs in
    let chosen : map (bits v) words ≡ chosen_by (widths_of vars) inputs =
    vectors_kept mid new inputs words kept made.inside ∙ made.is inputs (omega (arith, long, counted)) ∙ ap (λ n. chosen_by (widths_of vars) (drop n inputs)) none in
    shown_is v (word_in done node) ∙ vectors.is node lt is v (Obeys-values inputs new gn) ∙ ap (λ (t : List Vector). value_at (read (only_chosen t)) shapes node) chosen

rails_in : (gates : List Gate) (word : List Pair) → All (IsWired gates) word → (All (IsIn gates) (map (λ p. p.up) word)) × (All (IsIn gates) (map (λ p. p.low) word))
rails_in gates word h = (
  (λ k d lt.
      let below : k < length word = subst (λ n. k < n) (length-map word (λ p. p.up)) lt in
      let e = get_or-map (λ (p : Pair). p.up) word k (record { up = d; low = d }) d below in
      subst (IsIn gates) (sym e) ((h k (record { up = d; low = d }) below).up)),
  (λ k d lt.
      let below : k < length word = subst (λ n. k < n) (length-map word (λ p. p.low)) lt in
      let e = get_or-map (λ (p : Pair). p.low) word k (record { up = d; low = d }) d below in
      subst (IsIn gates) (sym e) ((h k (record { up = d; low = d }) below).low)),
)

pub rails_wired : (shapes : List Shape) (gates : List Gate) (marks : List Bool) (words done : List (List Pair)) (node : ℕ) → AreVectors shapes marks words gates done → node < length done → IsMarked marks node →
    AreWired gates (width_at shapes node) (planes_of (word_in done node))
rails_wired shapes gates marks words done node vectors lt is =
    let word : List Pair = word_in done node in
    let both = rails_in gates word (vectors.inside node lt is) in
    record {
      up_long = length-map word (λ p. p.up) ∙ vectors.long node lt is;
      low_long = length-map word (λ p. p.low) ∙ vectors.long node lt is;
      up_in = both.0;
      low_in = both.1;
    }

-- at each root
pub at_root : (P : ℕ → Planes → Type 0) (done : List (List Pair)) (roots : List ℕ) (all : List Planes) → all ≡ map (λ k. planes_of (word_in done k)) roots →
    ((i : ℕ) → i < length roots → P (get_or roots i 0) (planes_of (word_in done (get_or roots i 0)))) → (i : ℕ) (d : Planes) → i < length roots → P (get_or roots i 0) (get_or all i d)
at_root P done roots all e h i d lt =
    subst (λ r. P (get_or roots i 0) r) (sym (ap (λ xs. get_or xs i d) e ∙ get_or-map (λ k. planes_of (word_in done k)) roots i 0 d lt)) (h i lt)

pub all_more : (done : List (List Pair)) (roots : List ℕ) (all : List Planes) (i x : ℕ) (r : Planes) → i < length roots → x ≡ get_or roots i x → all ≡ map (λ k. planes_of (word_in done k)) (take i roots) → r ≡ planes_of (word_in done x) →
    all ++ r ∷ [] ≡ map (λ k. planes_of (word_in done k)) (take (i + 1) roots)
all_more done roots all i x r lt is before here =
    ap (λ (t : List Planes). t ++ r ∷ []) before ∙
    ap (λ (t : Planes). map (λ k. planes_of (word_in done k)) (take i roots) ++ t ∷ []) (here ∙ ap (λ k. planes_of (word_in done k)) is) ∙
    sym (map_more (λ k. planes_of (word_in done k)) roots i x lt)

fewer_by : (s t : Bool) (n : ℕ) → (s ≡ true → t ≡ true) → cond s n 0 ≤ cond t n 0
fewer_by true true n h = omega arith
fewer_by true false n h = (let e : false ≡ true = h refl in cc)
fewer_by false true n h = omega arith
fewer_by false false n h = omega arith

pub gates_fewer : (shapes : List Shape) (few most : List Bool) (n : ℕ) → ((k : ℕ) → IsMarked few k → IsMarked most k) → gates_to shapes few n ≤ gates_to shapes most n
unfolding gates_to
gates_fewer shapes few most zero h = omega arith
gates_fewer shapes few most (suc n) h =
    let more = gates_fewer shapes few most n h in
    let here = fewer_by (get_or few n false) (get_or most n false) (gates_of (width_at shapes) (shape_at shapes n)) (h n) in
    omega (arith, more, here)

-- marks that name only what the roots reach count no more than any that name all of it
pub gates_least : (shapes : List Shape) (roots : List ℕ) (few most : List Bool) → length most ≡ length shapes → OnlyReached shapes roots few → HasRoots roots most (length roots) → IsClosed shapes most 0 → (n : ℕ) →
    gates_to shapes few n ≤ gates_to shapes most n
gates_least shapes roots few most wide only rooted closed n =
    gates_fewer shapes few most n (λ k is. (reached_marked shapes shapes roots most (extends_self shapes) wide rooted closed k (only.reached k is)).1)
