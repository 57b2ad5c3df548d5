-- Bits of two nodes side by side, each by its mark.
use Rattle.std.proofs.Common.{◌≡◌, ℕ, zero, suc, ◌+◌, ◌-◌, ◌<◌, ◌≤◌, Bool, true, false, cond, ◌||◌, List, ◌++◌, length, drop, map, get_or, refl, sym, ap, ◌∙◌, ◌⊎◌, inl, inr, subst, arith, IsTrue, get_or-take, get_or-drop}
use Rattle.std.specs.List.{range_with_len}
use Rattle.std.proofs.lemmas.List.{get_or_append_left, get_or-append_right}
use Rattle.std.proofs.lemmas.List.FromFn.{get_or-map-range_with_len}
use Rattle.std.proofs.lemmas.Bool.{cases_lt, cases_Bool}
use Rattle.fourvec.specs.declared.Bit.{Bit}
use Rattle.fourvec.specs.declared.Bit.TheVariants.{Unknown}
use Rattle.fourvec.specs.Bits.{slice_of}
use Rattle.fourvec.proofs.Order.{both}
use Rattle.fourvec.proofs.Tables.{left_of, right_of}
use Rattle.svex_shape.specs.declared.shape.VarName.{VarName}
use Rattle.svex_shape.specs.declared.shape.VarName.TheVariants.{Now}
use Rattle.svex_shape.specs.declared.shape.Shape.{Shape}
use Rattle.svex_shape.specs.declared.shape.Shape.TheVariants.{Var}
use Rattle.svex_shape.specs.Shapes.{width_at, width_of}
use Rattle.svex_shape.specs.Values.{value_of, each_variable_of}
use Rattle.svex_arena.specs.Arenas.{IsArena, Extends}
use Rattle.svex_arena.proofs.Steps.{value-extends, width-extends, variables-extends}
use Rattle.driver_resolve.specs.Drivers.{bitwise}
use Rattle.sv_lower.specs.Nodes.{bits_at_node, IsMade, FromOne, FromTwo}
use Rattle.sv_lower.proofs.Sizing.{length-node}
use Rattle.sv_stores.specs.declared.scene.Scene.{Scene}
use Rattle.sv_stores.specs.Scenes.{mark_at, are_marked, is_whole, width_in, Shows}
use Rattle.sv_blocks.specs.Sides.{IsSide, Mixes}

-- ---- marks

pub marked_none : (marks : List Bool) (i : ℕ) → are_marked marks i 0 ≡ true
unfolding are_marked
marked_none marks i = refl

pub marked_more : (marks : List Bool) (i k : ℕ) → are_marked marks i k ≡ true → mark_at marks i k ≡ true → are_marked marks i (k + 1) ≡ true
unfolding are_marked
marked_more marks i k h g = let next : k + 1 ≡ suc k = omega arith in ap (are_marked marks i) next ∙ both _ _ g h

marked_at : (marks : List Bool) (i w k : ℕ) → are_marked marks i w ≡ true → k < w → mark_at marks i k ≡ true
unfolding are_marked
marked_at marks i zero k h l = absurd (omega arith)
marked_at marks i (suc w) k h l = elim (cases_lt k w) [
  | inl lt ↦ marked_at marks i w k (right_of _ _ h) lt
  | inr le ↦ let same : k ≡ w = omega arith in ap (mark_at marks i) same ∙ left_of _ _ h
]

-- a bit that is not marked
pub marked_not : (marks : List Bool) (i w k : ℕ) → k < w → mark_at marks i k ≡ false → are_marked marks i w ≡ false
marked_not marks i w k l h = elim (cases_Bool (are_marked marks i w)) [
  | inl t ↦ let g = marked_at marks i w k t l in cc
  | inr f ↦ f
]

-- ---- one side

pub side_stored : (mark : Bool) (old new : List Shape) (stored now from count n : ℕ) → mark ≡ true → FromOne old new (λ v. slice_of v from count) stored count n → IsSide mark old new stored now from count n
side_stored mark old new stored now from count n e h = record {
  within = h.within;
  width = h.width;
  value = λ bits. h.value bits ∙ sym (ap (λ b. cond b (slice_of (bits_at_node bits old stored) from count) (slice_of (bits_at_node bits old now) from count)) e);
  mentions = λ p a b. h.mentions p a;
}

pub side_now : (mark : Bool) (old new : List Shape) (stored now from count n : ℕ) → mark ≡ false → FromOne old new (λ v. slice_of v from count) now count n → IsSide mark old new stored now from count n
side_now mark old new stored now from count n e h = record {
  within = h.within;
  width = h.width;
  value = λ bits. h.value bits ∙ sym (ap (λ b. cond b (slice_of (bits_at_node bits old stored) from count) (slice_of (bits_at_node bits old now) from count)) e);
  mentions = λ p a b. h.mentions p b;
}

slice_get : (v : List Bit) (from count k : ℕ) (d : Bit) → k < count → get_or (slice_of v from count) k d ≡ get_or v (from + k) d
slice_get v from count k d l = get_or-take count (drop from v) k d l ∙ get_or-drop from v k d

side_bit : (b : Bool) (x y : List Bit) (from count k : ℕ) (d : Bit) → k < count → get_or (cond b (slice_of x from count) (slice_of y from count)) k d ≡ cond b (get_or x (from + k) d) (get_or y (from + k) d)
side_bit true x y from count k d l = slice_get x from count k d l
side_bit false x y from count k d l = slice_get y from count k d l

-- ---- sides, one after another

pub mixes_first : (marks : List Bool) (i : ℕ) (old new : List Shape) (stored now end n : ℕ) → ((k : ℕ) → 0 ≤ k → k < end → mark_at marks i k ≡ mark_at marks i 0)
    → IsSide (mark_at marks i 0) old new stored now 0 end n → Mixes marks i old new stored now end n
mixes_first marks i old new stored now end n same h = record {
  within = h.within;
  width = h.width;
  value = λ bits k l.
      let z : 0 + k ≡ k = omega arith in
      ap (λ v. get_or v k Unknown) (h.value bits) ∙ side_bit (mark_at marks i 0) _ _ 0 end k Unknown l
      ∙ ap (λ j. cond (mark_at marks i 0) (get_or (bits_at_node bits old stored) j Unknown) (get_or (bits_at_node bits old now) j Unknown)) z
      ∙ ap (λ b. cond b (get_or (bits_at_node bits old stored) k Unknown) (get_or (bits_at_node bits old now) k Unknown)) (sym (same k (omega arith) l));
  mentions = h.mentions;
}

pub mixes_more : (marks : List Bool) (i : ℕ) (old mid low new : List Shape) (stored now from end whole part w n : ℕ) → IsArena mid → stored < length old → now < length old → from < end → Extends old mid → Extends mid low
    → ((k : ℕ) → from ≤ k → k < end → mark_at marks i k ≡ mark_at marks i from)
    → Mixes marks i old mid stored now from whole → IsSide (mark_at marks i from) mid low stored now from (end - from) part → FromTwo low new (λ x y. y ++ x) part whole w n → w ≡ width_at low part + width_at low whole
    → Mixes marks i old new stored now end n
mixes_more marks i old mid low new stored now from end whole part w n ar s t lt e f same h g k wide = record {
  within = k.within;
  width = let a = k.width in let b = g.width in let c = h.width in let d = width-extends mid low whole f h.within in omega arith;
  value = λ bits j l. by_place bits j l (cases_lt j from);
  mentions = λ p a b.
      k.mentions p (g.mentions p (variables-extends p old mid stored e s ∙ a) (variables-extends p old mid now e t ∙ b)) (variables-extends p mid low whole f h.within ∙ h.mentions p a b);
}
  where
    whole_long : (bits : VarName → ℕ → Bit) → length (bits_at_node bits mid whole) ≡ from
    whole_long bits = length-node bits mid whole ar h.within ∙ h.width

    node_is : (bits : VarName → ℕ → Bit) → bits_at_node bits new n ≡ bits_at_node bits mid whole ++ bits_at_node bits low part
    node_is bits = k.value bits ∙ ap (λ v. v ++ bits_at_node bits low part) (value-extends (bitwise bits) mid low whole f h.within)

    by_place : (bits : VarName → ℕ → Bit) (j : ℕ) → j < end → ((j < from) ⊎ (from ≤ j))
        → get_or (bits_at_node bits new n) j Unknown ≡ cond (mark_at marks i j) (get_or (bits_at_node bits old stored) j Unknown) (get_or (bits_at_node bits old now) j Unknown)
    by_place bits j l (inl a) =
        let low_bit : j < length (bits_at_node bits mid whole) = let g = whole_long bits in omega arith in
        ap (λ v. get_or v j Unknown) (node_is bits) ∙ get_or_append_left (bits_at_node bits mid whole) (bits_at_node bits low part) Unknown j low_bit ∙ h.value bits j a
    by_place bits j l (inr a) =
        let place : from + (j - from) ≡ j = omega arith in
        ap (λ v. get_or v j Unknown) (node_is bits)
        ∙ get_or-append_right (bits_at_node bits mid whole) (bits_at_node bits low part) from j Unknown (whole_long bits) a
        ∙ ap (λ v. get_or v (j - from) Unknown) (g.value bits)
        ∙ side_bit (mark_at marks i from) (bits_at_node bits mid stored) (bits_at_node bits mid now) from (end - from) (j - from) Unknown (omega arith)
        ∙ ap (λ m. cond (mark_at marks i from) (get_or (bits_at_node bits mid stored) m Unknown) (get_or (bits_at_node bits mid now) m Unknown)) place
        ∙ ap (λ v. cond (mark_at marks i from) (get_or v j Unknown) (get_or (bits_at_node bits mid now) j Unknown)) (value-extends (bitwise bits) old mid stored e s)
        ∙ ap (λ v. cond (mark_at marks i from) (get_or (bits_at_node bits old stored) j Unknown) (get_or v j Unknown)) (value-extends (bitwise bits) old mid now e t)
        ∙ ap (λ b. cond b (get_or (bits_at_node bits old stored) j Unknown) (get_or (bits_at_node bits old now) j Unknown)) (sym (same j a l))

pub mixes_all : (marks : List Bool) (i : ℕ) (old new : List Shape) (stored now from w n : ℕ) → from ≡ w → Mixes marks i old new stored now from n → Mixes marks i old new stored now w n
mixes_all marks i old new stored now from w n e h = let P : ℕ → Type 0 = λ x. Mixes marks i old new stored now x n in subst P e h

-- ---- what names read

pub shows_whole : (scene : Scene) (shapes : List Shape) (i node w : ℕ) (b : Bool) → node < length shapes → width_at shapes node ≡ width_in scene i → w ≡ width_in scene i → b ≡ are_marked scene.marks i w → b ≡ true → Shows scene shapes i node node
shows_whole scene shapes i node w b l e d is t = record {
  within = l;
  width = e;
  value = λ bits k m.
      sym (ap (λ c. cond c (get_or (bits_at_node bits shapes node) k Unknown) (bits (Now (get_or scene.wires i 0)) k))
      (marked_at scene.marks i w k (sym is ∙ t) (omega arith)));
  mentions = λ p m v. v;
}

variable_bit : (bits : VarName → ℕ → Bit) (name : VarName) (w k : ℕ) (d : Bit) → k < w → get_or (map (bits name) (range_with_len 0 w)) k d ≡ bits name k
variable_bit bits name w k d l = get_or-map-range_with_len (bits name) 0 w k k d l (omega arith)

pub shows_mixed : (scene : Scene) (old mid new : List Shape) (i node now w n : ℕ) (b : Bool) → node < length old → width_at old node ≡ width_in scene i → w ≡ width_in scene i → b ≡ are_marked scene.marks i w → b ≡ false → Extends old mid → Extends mid new
    → IsMade old (Var (Now (get_or scene.wires i 0)) w) mid now → Mixes scene.marks i mid new node now w n → Shows scene new i node n
unfolding width_of value_of each_variable_of
shows_mixed scene old mid new i node now w n b l e d is f x y h k =
    let later : node < length mid = let g = x.longer in omega arith in
    record {
      within = k.within;
      width = k.width ∙ d;
      value = λ bits j m.
          k.value bits j (omega arith)
          ∙ ap (λ v. cond (mark_at scene.marks i j) (get_or (bits_at_node bits mid node) j Unknown) (get_or v j Unknown)) (h.value (bitwise bits))
          ∙ ap (λ z. cond (mark_at scene.marks i j) (get_or (bits_at_node bits mid node) j Unknown) z) (variable_bit bits (Now (get_or scene.wires i 0)) w j Unknown (omega arith))
          ∙ sym (ap (λ v. cond (mark_at scene.marks i j) (get_or v j Unknown) (bits (Now (get_or scene.wires i 0)) j)) (value-extends (bitwise bits) mid new node y later));
      mentions = λ p m v.
          let part : is_whole scene i ≡ false = sym (ap (are_marked scene.marks i) d) ∙ sym is ∙ f in
          let allowed : IsTrue (p (Now (get_or scene.wires i 0)) (width_in scene i)) = sym (ap (λ c. c || p (Now (get_or scene.wires i 0)) (width_in scene i)) part) ∙ m in
          k.mentions p (sym (variables-extends p mid new node y later) ∙ v) (h.variables p ∙ ap (p (Now (get_or scene.wires i 0))) d ∙ allowed);
    }

-- ---- what the loop asks for

pub side_room : (old mid : List Shape) (x from end w : ℕ) → Extends old mid → x < length old → width_at old x ≡ w → from < end → end ≤ w → from + (end - from) ≤ width_at mid x
side_room old mid x from end w e l d lt le = let a = width-extends old mid x e l in omega arith

pub mixed_room : (mid low : List Shape) (part whole from end w : ℕ) → Extends mid low → whole < length mid → width_at low part ≡ end - from → width_at mid whole ≡ from → from < end → end ≤ w → w ≤ 128 → width_at low part + width_at low whole ≤ 128
mixed_room mid low part whole from end w e l d f lt le m = let a = width-extends mid low whole e l in omega arith

pub variable_width : (old new : List Shape) (name : VarName) (w n : ℕ) → IsMade old (Var name w) new n → width_at new n ≡ w
unfolding width_of
variable_width old new name w n h = h.width

pub shows_mixed_by : (scene : Scene) (marks : List Bool) (wires : List ℕ) (old mid new : List Shape) (i node now w n : ℕ) (b : Bool) → marks ≡ scene.marks → wires ≡ scene.wires → node < length old → width_at old node ≡ width_in scene i → w ≡ width_in scene i
    → b ≡ are_marked marks i w → b ≡ false → Extends old mid → Extends mid new → IsMade old (Var (Now (get_or wires i 0)) w) mid now → Mixes marks i mid new node now w n → Shows scene new i node n
shows_mixed_by scene marks wires old mid new i node now w n b em ew l e d is f x y h k =
    let P : List ℕ → Type 0 = λ ws. IsMade old (Var (Now (get_or ws i 0)) w) mid now in
    let Q : List Bool → Type 0 = λ ms. Mixes ms i mid new node now w n in
    shows_mixed scene old mid new i node now w n b l e d (is ∙ ap (λ ms. are_marked ms i w) em) f x y (subst P ew h) (subst Q em k)
