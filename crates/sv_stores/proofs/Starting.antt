-- Where a block begins, and what sets it off.
use Rattle.std.proofs.Common.{◌≡◌, ℕ, suc, ◌+◌, ◌<◌, ◌≤◌, Bool, true, false, List, [], ◌∷◌, ◌++◌, length, map, get_or, drop, Option, Some, None, refl, sym, ap, ◌∙◌, ◌⊎◌, inl, inr, subst, arith, IsTrue}
use Rattle.std.specs.List.{range_with_len}
use Rattle.std.proofs.lemmas.List.{drop_all, drop_more, get_or_append_left, get_or_push, get_or_past, length_push, length-replicate, get_or-replicate}
use Rattle.std.proofs.lemmas.List.FromFn.{get_or-map-range_with_len, length-map-range_with_len}
use Rattle.std.proofs.lemmas.Bool.{cases_lt}
use Rattle.fourvec.specs.declared.Bit.{Bit}
use Rattle.fourvec.specs.declared.Bit.TheVariants.{Zero, One, Unknown, Floating}
use Rattle.fourvec.specs.Bits.{planes, all_x, first, and_bit, or_bit, not_bit, and_of, or_of, not_of, each, each_pair}
use Rattle.svex_shape.specs.declared.shape.VarName.{VarName}
use Rattle.svex_shape.specs.declared.shape.VarName.TheVariants.{Now, Prev}
use Rattle.svex_shape.specs.declared.shape.Shape.{Shape}
use Rattle.svex_shape.specs.declared.shape.Shape.TheVariants.{Var}
use Rattle.svex_shape.specs.Shapes.{width_at, width_of}
use Rattle.svex_shape.specs.Values.{value_of, each_variable_of}
use Rattle.svex_arena.specs.Arenas.{IsArena, Extends}
use Rattle.svex_arena.proofs.Keeping.{extends_on}
use Rattle.svex_arena.proofs.Steps.{value-extends, width-extends, variables-extends}
use Rattle.driver_resolve.specs.Drivers.{bitwise}
use Rattle.sv_tree.specs.declared.stmts.Edge.{Edge}
use Rattle.sv_tree.specs.declared.stmts.Edge.TheVariants as edge
use Rattle.sv_meaning.specs.declared.events.WireEdge.{WireEdge}
use Rattle.sv_meaning.specs.Blocks.{trigger_bit, edge_bit, trigger}
use Rattle.sv_lower.specs.Nodes.{bits_at_node, IsMade, IsConstant, FromOne, FromTwo}
use Rattle.sv_lower.proofs.Sizing.{length-node}
use Rattle.sv_stores.specs.declared.scene.Manner.{Manner}
use Rattle.sv_stores.specs.declared.scene.Manner.TheVariants.{Comb, Latch, HeldLatch, Clocked}
use Rattle.sv_stores.specs.declared.scene.Scene.{Scene}
use Rattle.sv_stores.specs.Scenes.{place_in, width_in, is_comb, base, store_of, start_test, StartsAt, Starts, IsScene}
use Rattle.sv_stores.specs.Starting.{before, present, TellsEdge, Triggers}
use Rattle.sv_stores.proofs.Stores.{store_at, store_none, starts_kept}

-- ---- one wire

x_bit : (w k : ℕ) → get_or (all_x w) k Unknown ≡ Unknown
x_bit w k = elim (cases_lt k w) [ inl lt ↦ get_or-replicate w k Unknown Unknown lt | inr le ↦ get_or_past (all_x w) k Unknown (omega (arith, length-replicate w Unknown)) ]

-- a vector of X, where the store begins with X
x_start : (m : Manner) (v : List Bit) (w : ℕ) (bits : VarName → ℕ → Bit) (n k : ℕ) → is_comb m ≡ true → v ≡ all_x w → get_or v k (base m bits n k) ≡ base m bits n k
x_start Comb v w bits n k c e = ap (λ u. get_or u k Unknown) e ∙ x_bit w k
x_start Latch v w bits n k c e = cc
x_start HeldLatch v w bits n k c e = cc
x_start (Clocked edges) v w bits n k c e = cc

x_test : (m : Manner) (p : VarName → ℕ → Bool) (n w : ℕ) → is_comb m ≡ true → IsTrue (start_test m p n w)
x_test Comb p n w c = refl
x_test Latch p n w c = cc
x_test HeldLatch p n w c = cc
x_test (Clocked edges) p n w c = cc

pub start_comb : (scene : Scene) (new : List Shape) (i w n : ℕ) → is_comb scene.manner ≡ true → w ≡ width_in scene i → IsConstant new (all_x w) n → StartsAt scene new i n
start_comb scene new i w n c e h = record {
  within = h.within;
  width = h.width ∙ length-replicate w Unknown ∙ e;
  value = λ bits k. x_start scene.manner (bits_at_node bits new n) w bits (get_or scene.wires i 0) k c (h.value bits);
  mentions = λ p t. h.mentions p;
}

variable_bit : (bits : VarName → ℕ → Bit) (name : VarName) (w k : ℕ) → get_or (map (bits name) (range_with_len 0 w)) k (bits name k) ≡ bits name k
variable_bit bits name w k = elim (cases_lt k w) [
  | inl lt ↦ get_or-map-range_with_len (bits name) 0 w k k (bits name k) lt (omega arith)
  | inr le ↦ get_or_past (map (bits name) (range_with_len 0 w)) k (bits name k) (omega (arith, length-map-range_with_len (bits name) 0 w))
]

-- what stood there in the phase before, where the store begins with that
held_start : (m : Manner) (v : List Bit) (w : ℕ) (bits : VarName → ℕ → Bit) (n k : ℕ) → is_comb m ≡ false → v ≡ map (bits (Prev n)) (range_with_len 0 w) → get_or v k (base m bits n k) ≡ base m bits n k
held_start Comb v w bits n k c e = cc
held_start Latch v w bits n k c e = ap (λ u. get_or u k (bits (Prev n) k)) e ∙ variable_bit bits (Prev n) w k
held_start HeldLatch v w bits n k c e = ap (λ u. get_or u k (bits (Prev n) k)) e ∙ variable_bit bits (Prev n) w k
held_start (Clocked edges) v w bits n k c e = ap (λ u. get_or u k (bits (Prev n) k)) e ∙ variable_bit bits (Prev n) w k

held_start_test : (m : Manner) (p : VarName → ℕ → Bool) (n w : ℕ) → is_comb m ≡ false → start_test m p n w ≡ p (Prev n) w
held_start_test Comb p n w c = cc
held_start_test Latch p n w c = refl
held_start_test HeldLatch p n w c = refl
held_start_test (Clocked edges) p n w c = refl

start_held : (scene : Scene) (old new : List Shape) (i w n : ℕ) → is_comb scene.manner ≡ false → w ≡ width_in scene i → IsMade old (Var (Prev (get_or scene.wires i 0)) w) new n → StartsAt scene new i n
unfolding width_of value_of each_variable_of
start_held scene old new i w n c e h = record {
  within = h.within;
  width = h.width ∙ e;
  value = λ bits k. held_start scene.manner (bits_at_node bits new n) w bits (get_or scene.wires i 0) k c (h.value (bitwise bits));
  mentions = λ p t. h.variables p ∙ ap (p (Prev (get_or scene.wires i 0))) e ∙ sym (held_start_test scene.manner p (get_or scene.wires i 0) (width_in scene i) c) ∙ t;
}

-- the same, of lists that are read
pub start_read : (scene : Scene) (old new : List Shape) (i n : ℕ) (widths wires : List ℕ) → is_comb scene.manner ≡ false → widths ≡ scene.widths → wires ≡ scene.wires → IsMade old (Var (Prev (get_or wires i 0)) (get_or widths i 0)) new n → StartsAt scene new i n
start_read scene old new i n widths wires c e f h =
    let P : List ℕ → Type 0 = λ z. IsMade old (Var (Prev (get_or z i 0)) (get_or widths i 0)) new n in
    start_held scene old new i (get_or widths i 0) n c (ap (λ z. get_or z i 0) e) (subst P f h)

-- ---- all wires

pub record StartsSome (scene : Scene) (shapes : List Shape) (nodes : List ℕ) (count : ℕ) : Type 0 where
  pub long : length nodes ≡ count
  pub at : (i : ℕ) → i < count → StartsAt scene shapes i (get_or nodes i 0)

pub starts_none : (scene : Scene) (shapes : List Shape) → StartsSome scene shapes [] 0
starts_none scene shapes = record { long = refl; at = λ i l. absurd (omega arith) }

pub starts_more : (scene : Scene) (mid new : List Shape) (nodes : List ℕ) (count n : ℕ) → Extends mid new → StartsSome scene mid nodes count → StartsAt scene new count n → StartsSome scene new (nodes ++ n ∷ []) (count + 1)
starts_more scene mid new nodes count n e h k = record {
  long = length_push nodes n ∙ ap (λ m. m + 1) h.long;
  at = λ i m. by_place i m (cases_lt i count);
}
  where
    Goal : ℕ → ℕ → Type 0
    Goal i x = StartsAt scene new i x

    by_place : (i : ℕ) → i < count + 1 → ((i < count) ⊎ (count ≤ i)) → Goal i (get_or (nodes ++ n ∷ []) i 0)
    by_place i m (inl lt) =
        subst (Goal i) (sym (get_or_append_left nodes (n ∷ []) 0 i (let g = h.long in omega arith))) (starts_kept scene mid new i (get_or nodes i 0) e (h.at i lt))
    by_place i m (inr le) =
        let same : i ≡ count = omega arith in
        let Q : ℕ → Type 0 = λ j. Goal j (get_or (nodes ++ n ∷ []) j 0) in
        subst Q (sym same) (subst (Goal count) (sym (get_or_push nodes n 0 count h.long)) k)

start_bit : (scene : Scene) (shapes : List Shape) (nodes : List ℕ) (bits : VarName → ℕ → Bit) (n k : ℕ) → IsScene scene → StartsSome scene shapes nodes (length scene.wires) → (o : Option ℕ) → place_in scene n ≡ o → store_of scene shapes bits nodes n k ≡ base scene.manner bits n k
start_bit scene shapes nodes bits n k sc h None e = store_none scene shapes bits nodes n k e
start_bit scene shapes nodes bits n k sc h (Some i) e =
    let own = (sc.back n i e).1 in
    let Q : ℕ → Type 0 = λ m. get_or (bits_at_node bits shapes (get_or nodes i 0)) k (base scene.manner bits m k) ≡ base scene.manner bits m k in
    store_at scene shapes bits nodes n k i e ∙ subst Q own ((h.at i (sc.back n i e).0).value bits k)

pub starts_all : (scene : Scene) (shapes : List Shape) (nodes : List ℕ) (count : ℕ) → IsScene scene → count ≡ length scene.wires → StartsSome scene shapes nodes count → Starts scene shapes nodes
starts_all scene shapes nodes count sc c g =
    let h : StartsSome scene shapes nodes (length scene.wires) = subst (λ m. StartsSome scene shapes nodes m) c g in
    record {
      nodes_are = record {
        long = h.long;
        within = λ i l. (h.at i (let m = h.long in omega arith)).within;
        width = λ i l. (h.at i (let m = h.long in omega arith)).width;
      };
      at = h.at;
      value = λ bits x n k. start_bit scene shapes nodes bits n k sc h (place_in scene n) refl x;
      mentions = λ p t i l. let k : i < length scene.wires = (let m = h.long in omega arith) in (h.at i k).mentions p (t i k);
    }

-- ---- events

made_width : (old new : List Shape) (x : VarName) (w n : ℕ) → IsMade old (Var x w) new n → width_at new n ≡ w
unfolding width_of
made_width old new x w n h = h.width

pub fits_pos : (old one two low : List Shape) (wire now before down u : ℕ) → Extends one two → Extends two low → IsMade old (Var (Now wire) 1) one now → IsMade one (Var (Prev wire) 1) two before → FromOne two low not_of before u down → u ≡ width_at two before → width_at low now ≡ width_at low down
fits_pos old one two low wire now before down u e f a b d s =
    width-extends one low now (extends_on one two low e f) a.within ∙ made_width old one (Now wire) 1 now a ∙ sym (d.width ∙ s ∙ made_width one two (Prev wire) 1 before b)

pub fits_neg : (old one two low : List Shape) (wire now before down u : ℕ) → Extends one two → Extends two low → IsMade old (Var (Now wire) 1) one now → IsMade one (Var (Prev wire) 1) two before → FromOne two low not_of now u down → u ≡ width_at two now → width_at low down ≡ width_at low before
fits_neg old one two low wire now before down u e f a b d s =
    (d.width ∙ s ∙ width-extends one two now e a.within ∙ made_width old one (Now wire) 1 now a) ∙ sym (width-extends two low before f b.within ∙ made_width one two (Prev wire) 1 before b)

pub tells_pos : (old one two low new : List Shape) (x : WireEdge) (now before down u v n : ℕ) → x.edge ≡ edge.Pos → Extends one two → Extends two low → IsMade old (Var (Now x.wire) 1) one now → IsMade one (Var (Prev x.wire) 1) two before → FromOne two low not_of before u down → FromTwo low new and_of now down v n → v ≡ width_at low now → TellsEdge new x n
unfolding width_of value_of each_variable_of each each_pair
tells_pos old one two low new x now before down u v n is e f a b c d w = record {
  within = d.within;
  width = d.width ∙ w ∙ width-extends one low now (extends_on one two low e f) a.within ∙ a.width;
  value = λ bits.
      ap first
      (d.value bits
      ∙ ap (λ z. and_of z (bits_at_node bits low down)) (value-extends (bitwise bits) one low now (extends_on one two low e f) a.within ∙ a.value (bitwise bits))
      ∙ ap (λ y. and_of (bits (Now x.wire) 0 ∷ []) y) (c.value bits ∙ ap not_of (b.value (bitwise bits))))
      ∙ sym (ap (λ g. trigger_bit g (bits (Now x.wire) 0) (bits (Prev x.wire) 0)) is);
  mentions = λ p h.
      d.mentions p (variables-extends p one low now (extends_on one two low e f) a.within ∙ a.variables p ∙ h.0) (c.mentions p (b.variables p ∙ h.1));
}

pub tells_neg : (old one two low new : List Shape) (x : WireEdge) (now before down u v n : ℕ) → x.edge ≡ edge.Neg → Extends one two → Extends two low → IsMade old (Var (Now x.wire) 1) one now → IsMade one (Var (Prev x.wire) 1) two before → FromOne two low not_of now u down → u ≡ width_at two now → FromTwo low new and_of down before v n → v ≡ width_at low down → TellsEdge new x n
unfolding width_of value_of each_variable_of each each_pair
tells_neg old one two low new x now before down u v n is e f a b c g d w = record {
  within = d.within;
  width = d.width ∙ w ∙ c.width ∙ g ∙ width-extends one two now e a.within ∙ a.width;
  value = λ bits.
      ap first
      (d.value bits
      ∙ ap (λ z. and_of z (bits_at_node bits low before)) (c.value bits ∙ ap not_of (value-extends (bitwise bits) one two now e a.within ∙ a.value (bitwise bits)))
      ∙ ap (λ y. and_of (not_bit (bits (Now x.wire) 0) ∷ []) y) (value-extends (bitwise bits) two low before f b.within ∙ b.value (bitwise bits)))
      ∙ sym (ap (λ o. trigger_bit o (bits (Now x.wire) 0) (bits (Prev x.wire) 0)) is);
  mentions = λ p h.
      d.mentions p (c.mentions p (variables-extends p one two now e a.within ∙ a.variables p ∙ h.0)) (variables-extends p two low before f b.within ∙ b.variables p ∙ h.1);
}

-- ---- one of several

-- neither an edge nor a choice among edges is Z
and_zero : (a b : Bit) → or_bit (and_bit a b) Zero ≡ and_bit a b
and_zero Zero b = refl
and_zero One Zero = refl
and_zero One One = refl
and_zero One Unknown = refl
and_zero One Floating = refl
and_zero Unknown Zero = refl
and_zero Unknown One = refl
and_zero Unknown Unknown = refl
and_zero Unknown Floating = refl
and_zero Floating Zero = refl
and_zero Floating One = refl
and_zero Floating Unknown = refl
and_zero Floating Floating = refl

trigger_zero : (e : Edge) (a b : Bit) → or_bit (trigger_bit e a b) Zero ≡ trigger_bit e a b
trigger_zero edge.Pos a b = and_zero a (not_bit b)
trigger_zero edge.Neg a b = and_zero (not_bit a) b

triggers_none : (new : List Shape) (n : ℕ) → IsConstant new (Zero ∷ []) n → Triggers new [] n
unfolding trigger
triggers_none new n h = record { within = h.within; width = h.width; value = λ bits. ap first (h.value bits); mentions = λ p t. h.mentions p }

zero_is : planes 1 0 0 ≡ Zero ∷ []
unfolding planes
zero_is = refl

-- 0 where there is no edge
pub triggers_empty : (new : List Shape) (edges : List WireEdge) (v : List Bit) (n : ℕ) → length edges ≡ 0 → v ≡ planes 1 0 0 → IsConstant new v n → Triggers new edges n
triggers_empty new [] v n e d h = triggers_none new n (subst (λ u. IsConstant new u n) (d ∙ zero_is) h)
triggers_empty new (x ∷ edges) v n e d h = absurd (omega (arith, e))

pub triggers_one : (new : List Shape) (x : WireEdge) (n : ℕ) → TellsEdge new x n → Triggers new (x ∷ []) n
unfolding trigger
triggers_one new x n h = record {
  within = h.within;
  width = h.width;
  value = λ bits. h.value bits ∙ sym (trigger_zero x.edge (bits (Now x.wire) 0) (bits (Prev x.wire) 0));
  mentions = λ p t. h.mentions p (t x (0, omega arith, refl));
}

first_or : (a b : List Bit) → length a ≡ 1 → length b ≡ 1 → first (or_of a b) ≡ or_bit (first a) (first b)
unfolding each_pair
first_or (x ∷ []) (y ∷ []) h g = refl
first_or [] b h g = absurd (omega (arith, h))
first_or (x ∷ []) [] h g = absurd (omega (arith, g))
first_or (x ∷ []) (y ∷ z ∷ b) h g = absurd (omega (arith, g))
first_or (x ∷ y ∷ a) b h g = absurd (omega (arith, h))

-- both have one bit
pub edges_fit : (old mid : List Shape) (x : WireEdge) (node more : ℕ) → Extends old mid → TellsEdge mid x node → more < length old → width_at old more ≡ 1 → width_at mid node ≡ width_at mid more
edges_fit old mid x node more e h l one = h.width ∙ sym (width-extends old mid more e l ∙ one)

-- an edge more, in front of others that a node tells
pub triggers_more : (old mid new : List Shape) (x : WireEdge) (edges : List WireEdge) (node more v n : ℕ) → IsArena mid → Extends old mid → TellsEdge mid x node → Triggers old edges more → FromTwo mid new or_of node more v n → v ≡ width_at mid node → Triggers new (x ∷ edges) n
unfolding trigger
triggers_more old mid new x edges node more v n ar e h k d w = record {
  within = d.within;
  width = d.width ∙ w ∙ h.width;
  value = λ bits.
      let one = length-node bits mid node ar h.within ∙ h.width in
      let inside : more < length mid = let a = k.within in let b = e.longer in omega arith in
      let other = length-node bits mid more ar inside ∙ width-extends old mid more e k.within ∙ k.width in
      ap first (d.value bits) ∙ first_or (bits_at_node bits mid node) (bits_at_node bits mid more) one other
      ∙ ap (λ b. or_bit b (first (bits_at_node bits mid more))) (h.value bits)
      ∙ ap (λ b. or_bit (edge_bit x (before bits) (present bits)) b) (ap first (value-extends (bitwise bits) old mid more e k.within) ∙ k.value bits);
  mentions = λ p t.
      d.mentions p (h.mentions p (t x (0, omega arith, refl)))
      (variables-extends p old mid more e k.within ∙ k.mentions p (λ y i. t y (suc i.0, omega (arith, i.1), i.2)));
}

-- what is left of edges from a place on, with the edge at it
pub edges_next : (shapes : List Shape) (edges : List WireEdge) (i j : ℕ) (d : WireEdge) (n : ℕ) → i < length edges → j ≡ i + 1 → Triggers shapes (get_or edges i d ∷ drop j edges) n → Triggers shapes (drop i edges) n
edges_next shapes edges i j d n l next h =
    let left : get_or edges i d ∷ drop j edges ≡ drop i edges = ap (λ m. get_or edges i d ∷ drop m edges) next ∙ sym (drop_more edges i d l) in
    subst (λ xs. Triggers shapes xs n) left h

-- the last edge alone
pub edges_last : (shapes : List Shape) (edges : List WireEdge) (i : ℕ) (d : WireEdge) (n : ℕ) → i < length edges → length edges ≤ i + 1 → TellsEdge shapes (get_or edges i d) n → Triggers shapes (drop i edges) n
edges_last shapes edges i d n l last h =
    edges_next shapes edges i (i + 1) d n l refl (subst (λ xs. Triggers shapes (get_or edges i d ∷ xs) n) (sym (drop_all (i + 1) edges last)) (triggers_one shapes (get_or edges i d) n h))
