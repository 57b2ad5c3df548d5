-- Nodes of a valuation of which nothing is known, by their shapes.
use Rattle.std.proofs.Common.{◌≡◌, ℕ, zero, suc, ◌+◌, ◌<◌, ◌≤◌, Bool, true, false, ◌&&◌, cond, List, [], ◌∷◌, ◌++◌, length, map, take, drop, get_or, refl, sym, ap, ◌∙◌, subst, arith}
use Rattle.std.specs.Prelude.{Result, Ok, Err, IfOk}
use Rattle.std.specs.List.{All, range_with_len}
use Rattle.std.proofs.lemmas.List.{get_or-map, length-map}
use Rattle.fourvec.specs.declared.Bit.{Bit}
use Rattle.fourvec.specs.declared.Bit.TheVariants.{Zero, One, Unknown, Floating}
use Rattle.fourvec.specs.Bits.{bit_of, is_one, is_known, is_known_bit, cond_of}
use Rattle.fourvec.proofs.Order.{both}
use Rattle.svex_shape.specs.declared.shape.Shape.{Shape}
use Rattle.svex_shape.specs.declared.shape.Shape.TheVariants.{Const, Var, Binary, Cond, Slice}
use Rattle.svex_shape.specs.declared.shape.Bin.TheVariants.{Concat}
use Rattle.svex_shape.specs.declared.shape.VarName.{VarName}
use Rattle.svex_shape.specs.declared.shape.VarName.TheVariants.{Chosen}
use Rattle.svex_shape.specs.Shapes.{shape_at, width_at, width_of}
use Rattle.svex_shape.specs.Values.{Vector, Reading, value_at, value_of, each_variable, each_variable_of}
use Rattle.svex_arena.specs.Arenas.{IsArena, Extends, Interned}
use Rattle.svex_arena.proofs.Steps.{value_follows, variables_follow, width_follows, value-extends, variables-extends, width-extends}
use Rattle.goal_text.specs.Scopes.{is_of_vars}
use Rattle.svtv_table.specs.declared.bound.Drive.TheVariants as drive
use Rattle.svtv_table.specs.declared.bound.VarDecl.{VarDecl}
use Rattle.svtv_table.specs.Binding.{HasWidth, IsAsWide}
use Rattle.svtv_table.specs.Stimuli.{IsChoice, given}
use Rattle.svtv_unroll.specs.Unrolled.{under_choice, vector_of}
use Rattle.svtv_unroll.proofs.Nodes.{over_kept, variable_is}
use Rattle.lhs_alias.specs.Segs.{bit, seg_bits}
use Rattle.lhs_alias.specs.Lies.{LiesIn}
use Rattle.lhs_alias.specs.declared.segs.Seg.{Seg}
use Rattle.settling.specs.Settling.{Store, value_at as value_in}
use Rattle.std.proofs.lemmas.Simd.{map-map}
use Rattle.std.proofs.lemmas.List.FromFn.{map-range_with_len_more, take-map-range_with_len}
use Rattle.svtv_induct.specs.States.{AreOwn, HasValue, IsSized, IsTold, bit_in, bits_in, own_bits, own_state, width_of_var}

-- ---- nodes by their shapes

wide-as : (shapes : List Shape) (n : ℕ) (s : Shape) → IsArena shapes → n < length shapes → shape_at shapes n ≡ s → width_at shapes n ≡ width_of (width_at shapes) s
wide-as shapes n s a l is = width_follows shapes n a l ∙ ap (width_of (width_at shapes)) is

value-as : (r : Reading) (shapes : List Shape) (n : ℕ) (s : Shape) → IsArena shapes → n < length shapes → shape_at shapes n ≡ s → value_at r shapes n ≡ value_of r (value_at r shapes) s
value-as r shapes n s a l is = value_follows r shapes n a l ∙ ap (value_of r (value_at r shapes)) is

test-as : (p : VarName → ℕ → Bool) (shapes : List Shape) (n : ℕ) (s : Shape) → IsArena shapes → n < length shapes → shape_at shapes n ≡ s → each_variable p shapes n ≡ each_variable_of p (each_variable p shapes) s
test-as p shapes n s a l is = variables_follow p shapes n a l ∙ ap (each_variable_of p (each_variable p shapes)) is

pub value_kept : (vars : List VarDecl) (old new : List Shape) (width node : ℕ) (f : List (List Bit) → Vector) → Extends old new → HasValue vars old width f node → HasValue vars new width f node
value_kept vars old new width node f e h = record {
  over = over_kept vars old new width node e h.over;
  value = λ choice known. value-extends (under_choice choice) old new node e h.over.there ∙ h.value choice known;
}

pub there_in : {vars : List VarDecl} {old new : List Shape} {width node : ℕ} {f : List (List Bit) → Vector} → Extends old new → HasValue vars old width f node → node < length new
there_in e h = omega (arith, h.over.there, e.longer)

pub wide_in : {vars : List VarDecl} {old new : List Shape} {width node : ℕ} {f : List (List Bit) → Vector} → Extends old new → HasValue vars old width f node → width_at new node ≡ width
wide_in {old = old} {new = new} {node = node} e h = width-extends old new node e h.over.there ∙ h.over.wide

pub value_as : (vars : List VarDecl) (shapes : List Shape) (width node : ℕ) (f g : List (List Bit) → Vector) → ((choice : List (List Bit)) → f choice ≡ g choice) → HasValue vars shapes width f node → HasValue vars shapes width g node
value_as vars shapes width node f g same h = record { over = h.over; value = λ choice known. h.value choice known ∙ same choice }

-- ---- constants

pub constant_is : {E : Type 0} → (old new : List Shape) (b : Bit) (v : Vector) (r : Result ℕ E) → IsArena new → v ≡ b ∷ [] → IfOk r (Interned old (Const v) new) → IfOk r (λ n. (vars : List VarDecl) → HasValue vars new 1 (λ choice. b ∷ []) n)
unfolding width_of value_of each_variable_of
constant_is old new b v (Ok n) a is h = λ vars. record {
  over = record { there = h.0; wide = wide-as new n (Const v) a h.0 h.1 ∙ ap (λ (x : Vector). length x) is; mentions = test-as (is_of_vars vars) new n (Const v) a h.0 h.1 };
  value = λ choice known. value-as (under_choice choice) new n (Const v) a h.0 h.1 ∙ is;
}
constant_is old new b v (Err e) a is h = tt

-- ---- variables

pub variable_wide : (old new : List Shape) (number width node : ℕ) → IsArena new → Interned old (Var (Chosen number) width) new node → width_at new node ≡ width
unfolding width_of
variable_wide old new number width node a h = wide-as new node (Var (Chosen number) width) a h.0 h.1

pub var_has_width : (vars : List VarDecl) (number : ℕ) → All (λ v. HasWidth v.width) vars → number < length vars → HasWidth (width_of_var vars number)
var_has_width vars number h l =
    let none : VarDecl = record { name = []; width = 0 } in
    subst (λ w. HasWidth w) (sym (get_or-map (λ (v : VarDecl). v.width) vars number none 0 l)) (h number none l)

pub given_wide : (vars : List VarDecl) (choice : List (List Bit)) (number : ℕ) → IsChoice vars choice → number < length vars → length (given choice number) ≡ width_of_var vars number
given_wide vars choice number h l =
    let long : length choice ≡ length vars = sym (length-map choice (λ (v : List Bit). length v)) ∙ ap length h.widths ∙ length-map vars (λ (v : VarDecl). v.width) in
    sym (get_or-map (λ (v : List Bit). length v) choice number [] 0 (omega (arith, long, l))) ∙ ap (λ ws. get_or ws number 0) h.widths

slice_one : (v : Vector) (at : ℕ) → at < length v → take 1 (drop at v) ≡ get_or v at Unknown ∷ []
slice_one [] at l = absurd (omega (arith, l))
slice_one (x ∷ v) zero l = refl
slice_one (x ∷ v) (suc at) l = slice_one v at (omega (arith, l))

pub known_at : (v : Vector) (at : ℕ) → is_known v ≡ true → at < length v → is_known_bit (get_or v at Unknown) ≡ true
unfolding is_known
known_at [] at h l = absurd (omega (arith, l))
known_at (x ∷ v) zero h l = first-of (is_known_bit x) (is_known v) h
  where
    first-of : (a b : Bool) → (a && b) ≡ true → a ≡ true
    first-of true b e = refl
    first-of false b e = e
known_at (x ∷ v) (suc at) h l = known_at v at (second-of (is_known_bit x) (is_known v) h) (omega (arith, l))
  where
    second-of : (a b : Bool) → (a && b) ≡ true → b ≡ true
    second-of true b e = e
    second-of false b e = cc

pub bit_told : (vars : List VarDecl) (number at : ℕ) → number < length vars → at < width_of_var vars number → IsTold vars (λ choice. bit_in choice number at)
bit_told vars number at l below choice h =
    let wide = given_wide vars choice number h l in
    let long : length choice ≡ length vars = sym (length-map choice (λ (v : List Bit). length v)) ∙ ap length h.widths ∙ length-map vars (λ (v : VarDecl). v.width) in
    known_at (given choice number) at (h.known number [] (omega (arith, long, l))) (omega (arith, below, wide))

pub bit_is : {E : Type 0} → (old mid new : List Shape) (vars : List VarDecl) (number width at node : ℕ) (r : Result ℕ E) → IsArena mid → IsArena new → Extends mid new → Interned old (Var (Chosen number) width) mid node
    → number < length vars → width_of_var vars number ≡ width → at < width → IfOk r (Interned mid (Slice node at 1) new) → IfOk r (HasValue vars new 1 (λ choice. bit_in choice number at ∷ []))
unfolding width_of value_of each_variable_of
bit_is old mid new vars number width at node (Ok n) am a e made there wide below h =
    let as_wide : IsAsWide vars width (drive.Chosen number false) = (there, sym (get_or-map (λ (v : VarDecl). v.width) vars number (record { name = []; width = 0 }) 0 there) ∙ wide) in
    let own = variable_is {E = ℕ} old mid number width (Ok node) am made vars as_wide in
    record {
      over = record {
        there = h.0;
        wide = wide-as new n (Slice node at 1) a h.0 h.1;
        mentions = test-as (is_of_vars vars) new n (Slice node at 1) a h.0 h.1 ∙ variables-extends (is_of_vars vars) mid new node e own.over.there ∙ own.over.mentions;
      };
      value = λ choice known.
          value-as (under_choice choice) new n (Slice node at 1) a h.0 h.1
          ∙ ap (λ (v : Vector). take 1 (drop at v)) (value-extends (under_choice choice) mid new node e own.over.there ∙ own.value choice known)
          ∙ slice_one (given choice number) at (let w = given_wide vars choice number known there in omega (arith, w, wide, below));
    }
bit_is old mid new vars number width at node (Err x) am a e made there wide below h = tt

-- ---- choices

cond_bits : (f g h : Bit) → is_known_bit f ≡ true → cond_of (f ∷ []) (g ∷ []) (h ∷ []) ≡ cond (is_one f) g h ∷ []
unfolding cond_of
cond_bits Zero g h k = refl
cond_bits One g h k = refl
cond_bits Unknown g h k = cc
cond_bits Floating g h k = cc

pub choose_is : {E : Type 0} → (old new : List Shape) (by one other : ℕ) (r : Result ℕ E) → IsArena new → Extends old new → by < length old → one < length old → other < length old → width_at old one ≡ 1 → IfOk r (Interned old (Cond by one other) new)
    → IfOk r (λ n. (vars : List VarDecl) (f g h : List (List Bit) → Bit) → IsTold vars f
    → HasValue vars old 1 (λ choice. f choice ∷ []) by → HasValue vars old 1 (λ choice. g choice ∷ []) one → HasValue vars old 1 (λ choice. h choice ∷ []) other
    → HasValue vars new 1 (λ choice. cond (is_one (f choice)) (g choice) (h choice) ∷ []) n)
unfolding width_of value_of each_variable_of
choose_is old new by one other (Ok n) a e lb l1 l2 w is = λ vars f g h told hf hg hh.
    let p = is_of_vars vars in
    record {
      over = record {
        there = is.0;
        wide = wide-as new n (Cond by one other) a is.0 is.1 ∙ width-extends old new one e l1 ∙ w;
        mentions = test-as p new n (Cond by one other) a is.0 is.1
            ∙ both _ _ (variables-extends p old new by e lb ∙ hf.over.mentions)
            (both _ _ (variables-extends p old new one e l1 ∙ hg.over.mentions) (variables-extends p old new other e l2 ∙ hh.over.mentions));
      };
      value = λ choice known.
          let r = under_choice choice in
          value-as r new n (Cond by one other) a is.0 is.1
          ∙ ap (λ (v : Vector). cond_of v (value_at r new one) (value_at r new other)) (value-extends r old new by e lb ∙ hf.value choice known)
          ∙ ap (λ (v : Vector). cond_of (f choice ∷ []) v (value_at r new other)) (value-extends r old new one e l1 ∙ hg.value choice known)
          ∙ ap (λ (v : Vector). cond_of (f choice ∷ []) (g choice ∷ []) v) (value-extends r old new other e l2 ∙ hh.value choice known)
          ∙ cond_bits (f choice) (g choice) (h choice) (told choice known);
    }
choose_is old new by one other (Err x) a e lb l1 l2 w is = tt

-- a choice between the bits of two planes, of which the lower one is set and clear
lower_cases : (up low : Bool) (a b : Bit) → a ≡ bit_of up true → b ≡ bit_of up false → cond low a b ≡ bit_of up low
lower_cases up true a b set clear = set
lower_cases up false a b set clear = clear

-- and of which the upper one is
upper_cases : (up low : Bool) → cond up (bit_of true low) (bit_of false low) ≡ bit_of up low
upper_cases true low = refl
upper_cases false low = refl

-- ---- one above another

pub above_is : {E : Type 0} → (old new : List Shape) (high low : ℕ) (r : Result ℕ E) → IsArena new → Extends old new → high < length old → low < length old → IfOk r (Interned old (Binary Concat high low) new)
    → IfOk r (λ n. (vars : List VarDecl) (a b : ℕ) (f g : List (List Bit) → Vector) → HasValue vars old a f high → HasValue vars old b g low → HasValue vars new (b + a) (λ choice. g choice ++ f choice) n)
unfolding width_of value_of each_variable_of
above_is old new high low (Ok n) a e lh ll is = λ vars wa wb f g hf hg.
    let p = is_of_vars vars in
    record {
      over = record {
        there = is.0;
        wide = wide-as new n (Binary Concat high low) a is.0 is.1
            ∙ (let x : width_at new high ≡ wa = width-extends old new high e lh ∙ hf.over.wide in let y : width_at new low ≡ wb = width-extends old new low e ll ∙ hg.over.wide in omega (arith, x, y));
        mentions = test-as p new n (Binary Concat high low) a is.0 is.1 ∙ both _ _ (variables-extends p old new high e lh ∙ hf.over.mentions) (variables-extends p old new low e ll ∙ hg.over.mentions);
      };
      value = λ choice known.
          let r = under_choice choice in
          value-as r new n (Binary Concat high low) a is.0 is.1
          ∙ ap (λ (v : Vector). v ++ value_at r new high) (value-extends r old new low e ll ∙ hg.value choice known)
          ∙ ap (λ (v : Vector). g choice ++ v) (value-extends r old new high e lh ∙ hf.value choice known);
    }
above_is old new high low (Err x) a e lh ll is = tt

pub above_sized : {E : Type 0} → (old new : List Shape) (high low : ℕ) (r : Result ℕ E) → IsArena new → Extends old new → high < length old → low < length old → IfOk r (Interned old (Binary Concat high low) new)
    → IfOk r (IsSized new (width_at old low + width_at old high))
unfolding width_of
above_sized old new high low (Ok n) a e lh ll is = record {
  there = is.0;
  wide = wide-as new n (Binary Concat high low) a is.0 is.1 ∙ (let x = width-extends old new high e lh in let y = width-extends old new low e ll in omega (arith, x, y));
}
above_sized old new high low (Err x) a e lh ll is = tt

-- a vector is longer by a bit
pub vector_more : (f : ℕ → Bit) (n : ℕ) → vector_of f n ++ f n ∷ [] ≡ vector_of f (n + 1)
vector_more f n = (let z : 0 + n ≡ n = omega arith in sym (map-range_with_len_more f 0 n n z))

-- ---- bits of two variables

pub lower_is : {E : Type 0} → (old one two new : List Shape) (low set clear : ℕ) (up : Bool) (a b : Bit) (r : Result ℕ E) → a ≡ bit_of up true → b ≡ bit_of up false → Extends old one → Extends one two
    → ((vars : List VarDecl) → HasValue vars one 1 (λ choice. a ∷ []) set) → ((vars : List VarDecl) → HasValue vars two 1 (λ choice. b ∷ []) clear)
    → IfOk r (λ n. (vars : List VarDecl) (f g h : List (List Bit) → Bit) → IsTold vars f → HasValue vars two 1 (λ choice. f choice ∷ []) low → HasValue vars two 1 (λ choice. g choice ∷ []) set → HasValue vars two 1 (λ choice. h choice ∷ []) clear
    → HasValue vars new 1 (λ choice. cond (is_one (f choice)) (g choice) (h choice) ∷ []) n)
    → IfOk r (λ n. (vars : List VarDecl) (f : List (List Bit) → Bit) → IsTold vars f → HasValue vars old 1 (λ choice. f choice ∷ []) low → HasValue vars new 1 (λ choice. bit_of up (is_one (f choice)) ∷ []) n)
lower_is old one two new low set clear up a b (Ok n) ea eb e1 e2 hu hv chosen = λ vars f told hb.
    value_as vars new 1 n (λ choice. cond (is_one (f choice)) a b ∷ []) (λ choice. bit_of up (is_one (f choice)) ∷ []) (λ choice. ap (λ (x : Bit). x ∷ []) (lower_cases up (is_one (f choice)) a b ea eb))
    (chosen vars f (λ choice. a) (λ choice. b) told
    (value_kept vars one two 1 low (λ choice. f choice ∷ []) e2 (value_kept vars old one 1 low (λ choice. f choice ∷ []) e1 hb))
    (value_kept vars one two 1 set (λ choice. a ∷ []) e2 (hu vars)) (hv vars))
lower_is old one two new low set clear up a b (Err e) ea eb e1 e2 hu hv chosen = tt

pub made_bit_is : {E : Type 0} → (a1 a2 a3 a4 new : List Shape) (vars : List VarDecl) (first second at up low set clear : ℕ) (r : Result ℕ E) → Extends a1 a2 → Extends a2 a3 → Extends a3 a4
    → first < length vars → second < length vars → at < width_of_var vars first → at < width_of_var vars second
    → HasValue vars a1 1 (λ choice. bit_in choice first at ∷ []) up → HasValue vars a2 1 (λ choice. bit_in choice second at ∷ []) low
    → HasValue vars a3 1 (λ choice. bit_of true (is_one (bit_in choice second at)) ∷ []) set
    → HasValue vars a4 1 (λ choice. bit_of false (is_one (bit_in choice second at)) ∷ []) clear
    → IfOk r (λ n. (vars : List VarDecl) (f g h : List (List Bit) → Bit) → IsTold vars f → HasValue vars a4 1 (λ choice. f choice ∷ []) up → HasValue vars a4 1 (λ choice. g choice ∷ []) set → HasValue vars a4 1 (λ choice. h choice ∷ []) clear
    → HasValue vars new 1 (λ choice. cond (is_one (f choice)) (g choice) (h choice) ∷ []) n)
    → IfOk r (HasValue vars new 1 (λ choice. own_bits first second choice at ∷ []))
made_bit_is a1 a2 a3 a4 new vars first second at up low set clear (Ok n) e2 e3 e4 lf ls bf bs hu hl hs hc chosen =
    value_as vars new 1 n (λ choice. cond (is_one (bit_in choice first at)) (bit_of true (is_one (bit_in choice second at))) (bit_of false (is_one (bit_in choice second at))) ∷ []) (λ choice. own_bits first second choice at ∷ [])
    (λ choice. ap (λ (x : Bit). x ∷ []) (upper_cases (is_one (bit_in choice first at)) (is_one (bit_in choice second at))))
    (chosen vars (λ choice. bit_in choice first at) (λ choice. bit_of true (is_one (bit_in choice second at))) (λ choice. bit_of false (is_one (bit_in choice second at)))
    (bit_told vars first at lf bf)
    (value_kept vars a3 a4 1 up (λ choice. bit_in choice first at ∷ []) e4 (value_kept vars a2 a3 1 up (λ choice. bit_in choice first at ∷ []) e3 (value_kept vars a1 a2 1 up (λ choice. bit_in choice first at ∷ []) e2 hu)))
    (value_kept vars a3 a4 1 set (λ choice. bit_of true (is_one (bit_in choice second at)) ∷ []) e4 hs) hc)
made_bit_is a1 a2 a3 a4 new vars first second at up low set clear (Err e) e2 e3 e4 lf ls bf bs hu hl hs hc chosen = tt

-- one bit more above
pub own_more : (vars : List VarDecl) (shapes : List Shape) (first second at node : ℕ)
    → HasValue vars shapes (at + 1) (λ choice. vector_of (own_bits first second choice) at ++ own_bits first second choice at ∷ []) node → HasValue vars shapes (at + 1) (λ choice. vector_of (own_bits first second choice) (at + 1)) node
own_more vars shapes first second at node h =
    value_as vars shapes (at + 1) node (λ choice. vector_of (own_bits first second choice) at ++ own_bits first second choice at ∷ []) (λ choice. vector_of (own_bits first second choice) (at + 1))
    (λ choice. vector_more (own_bits first second choice) at) h

pub low_kept : (vars : List VarDecl) (old new : List Shape) (number at node : ℕ) → Extends old new → HasValue vars old 1 (λ choice. bit_in choice number at ∷ []) node → HasValue vars new 1 (λ choice. bit_in choice number at ∷ []) node
low_kept vars old new number at node e h = value_kept vars old new 1 node (λ choice. bit_in choice number at ∷ []) e h

-- ---- parts of wires

slice_range : (f : ℕ → Bit) (a lo w whole : ℕ) → lo + w ≤ whole → take w (drop lo (map f (range_with_len a whole))) ≡ map f (range_with_len (a + lo) w)
slice_range f a zero w whole l = take-map-range_with_len f a whole w (omega (arith, l)) ∙ (let z : a ≡ a + 0 = omega arith in ap (λ k. map f (range_with_len k w)) z)
slice_range f a (suc lo) w zero l = absurd (omega (arith, l))
slice_range f a (suc lo) w (suc whole) l = slice_range f (a + 1) lo w whole (omega (arith, l)) ∙ (let z : a + 1 + lo ≡ a + suc lo = omega arith in ap (λ k. map f (range_with_len k w)) z)

pub slice_bits : (s : Store) (seg : Seg) (whole : ℕ) → seg.lo + seg.width ≤ whole → take seg.width (drop seg.lo (vector_of (s seg.wire) whole)) ≡ bits_in s (seg_bits seg)
unfolding seg_bits
slice_bits s seg whole l =
    let z : 0 + seg.lo ≡ seg.lo = omega arith in
    slice_range (s seg.wire) 0 seg.lo seg.width whole l ∙ ap (λ k. map (s seg.wire) (range_with_len k seg.width)) z ∙ sym (map-map (value_in s) (bit seg.wire) (range_with_len seg.lo seg.width))

pub part_is : {E : Type 0} → (old new : List Shape) (own : List ℕ) (seg : Seg) (node : ℕ) (r : Result ℕ E) → IsArena new → Extends old new → node ≡ get_or own seg.wire 0 → IfOk r (Interned old (Slice node seg.lo seg.width) new)
    → IfOk r (λ n. (vars : List VarDecl) (widths : List ℕ) (before : ℕ) → AreOwn vars old widths before own (length widths) → LiesIn widths seg
    → HasValue vars new seg.width (λ choice. bits_in (own_state choice before (length widths)) (seg_bits seg)) n)
unfolding width_of value_of each_variable_of
part_is old new own seg node (Ok n) a e same is = λ vars widths before all lies.
    let one = subst (λ k. HasValue vars old (get_or widths seg.wire 0) (λ choice. vector_of (own_state choice before (length widths) seg.wire) (get_or widths seg.wire 0)) k) (sym same) (all.each seg.wire lies.wire) in
    record {
      over = record {
        there = is.0;
        wide = wide-as new n (Slice node seg.lo seg.width) a is.0 is.1;
        mentions = test-as (is_of_vars vars) new n (Slice node seg.lo seg.width) a is.0 is.1 ∙ variables-extends (is_of_vars vars) old new node e one.over.there ∙ one.over.mentions;
      };
      value = λ choice known.
          value-as (under_choice choice) new n (Slice node seg.lo seg.width) a is.0 is.1
          ∙ ap (λ (v : Vector). take seg.width (drop seg.lo v)) (value-extends (under_choice choice) old new node e one.over.there ∙ one.value choice known)
          ∙ slice_bits (own_state choice before (length widths)) seg (get_or widths seg.wire 0) lies.ends;
    }
part_is old new own seg node (Err x) a e same is = tt

pub part_sized : {E : Type 0} → (old new : List Shape) (node lo width : ℕ) (r : Result ℕ E) → IsArena new → IfOk r (Interned old (Slice node lo width) new) → IfOk r (IsSized new width)
unfolding width_of
part_sized old new node lo width (Ok n) a is = record { there = is.0; wide = wide-as new n (Slice node lo width) a is.0 is.1 }
part_sized old new node lo width (Err x) a is = tt
