-- Nodes of parts side by side and of chains of selects, one after another.
use Rattle.std.proofs.Common.{◌≡◌, ℕ, zero, suc, ◌+◌, ◌<◌, ◌≤◌, Bool, true, List, [], ◌∷◌, ◌++◌, length, take, get_or, Some, refl, sym, ap, ◌∙◌, subst, arith, IsTrue}
use Rattle.std.specs.Prelude.{ℤ}
use Rattle.std.proofs.lemmas.List.{take_all}
use Rattle.fourvec.specs.declared.Bit.{Bit}
use Rattle.fourvec.specs.declared.Spot.{Spot}
use Rattle.fourvec.specs.Spots.{window, dyn_slice_of}
use Rattle.fourvec.proofs.Order.{both}
use Rattle.fourvec.proofs.Tables.{left_of, right_of}
use Rattle.svex_shape.specs.declared.shape.Shape.{Shape}
use Rattle.svex_shape.specs.Shapes.{width_at}
use Rattle.svex_arena.specs.Arenas.{Extends}
use Rattle.svex_arena.proofs.Steps.{value-extends, width-extends, variables-extends}
use Rattle.driver_resolve.specs.Drivers.{bitwise}
use Rattle.sv_meaning.specs.Layouts.{Read, Origin}
use Rattle.sv_meaning.specs.Meanings.{nowhere, bits_at}
use Rattle.sv_typed.specs.declared.tree.Pick.{Pick}
use Rattle.sv_typed.specs.declared.tree.PickPlace.TheVariants as place
use Rattle.sv_typed.specs.declared.tree.Typed.{Typed}
use Rattle.sv_typed.specs.Typed.{own, together, picked, pick_place, spot_place, width_together, picked_width}
use Rattle.sv_typed.proofs.Worth as worths
use Rattle.sv_lower.specs.declared.look.Look.{Look}
use Rattle.sv_lower.specs.Nodes.{bits_at_node, FromOne, FromTwo}
use Rattle.sv_lower.specs.Lowering.{look_read, look_test, each_signal, each_place, each_of, each_of_picks, no_signal, IsIn, Lowers, LowersParts, LowersPick, LowersPicks}
use Rattle.sv_lower.proofs.Reading.{read_kept, test_kept}
use Rattle.sv_lower.proofs.Trees.{taken_more, each_moving}
use Rattle.sv_lower.proofs.Nameless.{nameless}

-- ---- widths and tests of one part more

width_push : (front : List Typed) (a : Typed) → width_together (front ++ a ∷ []) ≡ width_together front + a.width
unfolding width_together
width_push [] a = omega arith
width_push (x ∷ front) a = let h = width_push front a in omega arith

width_taken : (all : List Typed) (i : ℕ) (a : Typed) → i < length all → a ≡ get_or all i a → width_together (take (i + 1) all) ≡ width_together (take i all) + a.width
width_taken all i a l e = ap width_together (taken_more all i a l e) ∙ width_push (take i all) a

front_width : (i : ℕ) (all : List Typed) → width_together (take i all) ≤ width_together all
unfolding width_together
front_width zero all = omega arith
front_width (suc i) [] = omega arith
front_width (suc i) (a ∷ all) = let h = front_width i all in omega arith

pub room_for : (all : List Typed) (i : ℕ) (a : Typed) → i < length all → a ≡ get_or all i a → width_together (take i all) + a.width ≤ width_together all
room_for all i a l e = let h = width_taken all i a l e in let g = front_width (i + 1) all in omega arith

each_split : (q : Origin → ℕ → ℕ → Bool) (front : List Typed) (a : Typed) → each_of q (front ++ a ∷ []) ≡ true → (each_of q front ≡ true) × (each_signal q a ≡ true)
unfolding each_of
each_split q [] a h = (refl, left_of _ _ h)
each_split q (x ∷ front) a h =
    let g = each_split q front a (right_of _ _ h) in
    (both _ _ (left_of _ _ h) g.0, g.1)

each_pick_split : (q : Origin → ℕ → ℕ → Bool) (front : List Pick) (p : Pick) → each_of_picks q (front ++ p ∷ []) ≡ true → (each_of_picks q front ≡ true) × (each_place q p.place ≡ true)
unfolding each_of_picks
each_pick_split q [] p h = (refl, left_of _ _ h)
each_pick_split q (x ∷ front) p h =
    let g = each_pick_split q front p (right_of _ _ h) in
    (both _ _ (left_of _ _ h) g.0, g.1)

-- ---- parts side by side

alone : (a : Typed) (read : Read) → together (a ∷ []) read ≡ own a read
unfolding together
alone a read = refl

alone_width : (a : Typed) → width_together (a ∷ []) ≡ a.width
unfolding width_together
alone_width a = omega arith

alone_test : (q : Origin → ℕ → ℕ → Bool) (a : Typed) → each_of q (a ∷ []) ≡ true → each_signal q a ≡ true
unfolding each_of
alone_test q a h = left_of _ _ h

pub first_part : (look : Look) (old new : List Shape) (all : List Typed) (a : Typed) (n : ℕ) → 0 < length all → a ≡ get_or all 0 a → Lowers look old new a a.width a.signed n → LowersParts look old new (take 1 all) n
first_part look old new all a n l e h =
    let is : take 1 all ≡ a ∷ [] = taken_more all 0 a l e in
    let P : List Typed → Type 0 = λ xs. LowersParts look old new xs n in
    subst P (sym is) (record {
      within = h.within;
      width = h.width ∙ sym (alone_width a);
      value = λ bits. h.value bits ∙ sym (alone a (look_read look old bits));
      mentions = λ p m. h.mentions p (alone_test (look_test look old p) a m);
    })

pub part_more : (look : Look) (old mid low new : List Shape) (all : List Typed) (i : ℕ) (a : Typed) (x y w n : ℕ) → i < length all → a ≡ get_or all i a → IsIn look old → Extends old mid → Extends mid low →
    LowersParts look old mid (take i all) x → Lowers look mid low a a.width a.signed y → FromTwo low new (λ p q. q ++ p) x y w n → w ≡ width_at low x + width_at low y → LowersParts look old new (take (i + 1) all) n
part_more look old mid low new all i a x y w n l e s d j g h k f = record {
  within = k.within;
  width =
      let wx = width-extends mid low x j g.within in let wg = g.width in let wh = h.width in let t = width_taken all i a l e in let kw = k.width in
      omega arith;
  value = λ bits.
      k.value bits
      ∙ ap (λ v. bits_at_node bits low y ++ v) (value-extends (bitwise bits) mid low x j g.within ∙ g.value bits)
      ∙ ap (λ v. v ++ together (take i all) (look_read look old bits)) (h.value bits ∙ ap (λ r. own a r) (read_kept look old mid bits s d))
      ∙ sym (worths.together_more all i a (look_read look old bits) l e);
  mentions = λ p m.
      let parts = each_split (look_test look old p) (take i all) a (ap (each_of (look_test look old p)) (sym (taken_more all i a l e)) ∙ m) in
      k.mentions p (variables-extends p mid low x j g.within ∙ g.mentions p parts.0) (h.mentions p (ap (λ q. each_signal q a) (test_kept look old mid p s d) ∙ parts.1));
}

pub parts_end : (look : Look) (old new : List Shape) (all : List Typed) (i n : ℕ) → length all ≤ i → LowersParts look old new (take i all) n → LowersParts look old new all n
parts_end look old new all i n l h = let P : List Typed → Type 0 = λ xs. LowersParts look old new xs n in subst P (take_all i all l) h

-- ---- selects

picked_push : (read : Read) (front : List Pick) (p : Pick) (a : List Bit) → picked read (front ++ p ∷ []) a ≡ bits_at (pick_place p read) p.width (picked read front a)
unfolding picked
picked_push read [] p a = refl
picked_push read (x ∷ front) p a = picked_push read front p (bits_at (pick_place x read) x.width a)

width_last : (front : List Pick) (p : Pick) (w : ℕ) → picked_width (front ++ p ∷ []) w ≡ p.width
unfolding picked_width
width_last [] p w = refl
width_last (x ∷ front) p w = width_last front p x.width

pub no_picks : (look : Look) (old : List Shape) (of : ℕ) → of < length old → LowersPicks look old old [] of of
unfolding picked picked_width
no_picks look old of l = record { within = l; width = refl; value = λ bits. refl; mentions = λ p m k. m }

pub pick_more : (look : Look) (old mid new : List Shape) (picks : List Pick) (i : ℕ) (p : Pick) (of x n : ℕ) → i < length picks → p ≡ get_or picks i p → IsIn look old → Extends old mid →
    LowersPicks look old mid (take i picks) of x → LowersPick look mid new p x n → LowersPicks look old new (take (i + 1) picks) of n
pick_more look old mid new picks i p of x n l e s d h k =
    let is : take (i + 1) picks ≡ take i picks ++ p ∷ [] = taken_more picks i p l e in
    let P : List Pick → Type 0 = λ xs. LowersPicks look old new xs of n in
    subst P (sym is) (record {
      within = k.within;
      width = k.width ∙ sym (width_last (take i picks) p (width_at old of));
      value = λ bits.
          k.value bits ∙ ap (λ v. bits_at (pick_place p (look_read look mid bits)) p.width v) (h.value bits)
          ∙ ap (λ r. bits_at (pick_place p r) p.width (picked (look_read look old bits) (take i picks) (bits_at_node bits old of))) (read_kept look old mid bits s d)
          ∙ sym (picked_push (look_read look old bits) (take i picks) p (bits_at_node bits old of));
      mentions = λ q m t.
          let parts = each_pick_split (look_test look old q) (take i picks) p t in
          k.mentions q (h.mentions q m parts.0) (ap (λ z. each_place z p.place) (test_kept look old mid q s d) ∙ parts.1);
    })

pub picks_end : (look : Look) (old new : List Shape) (picks : List Pick) (i of n : ℕ) → length picks ≤ i → LowersPicks look old new (take i picks) of n → LowersPicks look old new picks of n
picks_end look old new picks i of n l h = let P : List Pick → Type 0 = λ xs. LowersPicks look old new xs of n in subst P (take_all i picks l) h

-- ---- one select

pub pick_fixed : (look : Look) (old new : List Shape) (p : Pick) (i z : ℤ) (of n : ℕ) → p.place ≡ place.Fixed i → z ≡ i → FromOne old new (λ v. window v z p.width) of p.width n → LowersPick look old new p of n
pick_fixed look old new p i z of n e d h = record {
  within = h.within;
  width = h.width;
  value = λ bits.
      h.value bits ∙ ap (λ y. bits_at (Some y) p.width (bits_at_node bits old of)) d
      ∙ sym (ap (λ y. bits_at y p.width (bits_at_node bits old of)) (worths.place_fixed p i (look_read look old bits) e));
  mentions = λ q m k. h.mentions q m;
}

part_is : (p : Pick) (x a : Typed) (spot : Spot) (read : Read) (v : List Bit) → p.place ≡ place.Moving a spot → x ≡ a → spot.width ≡ p.width → dyn_slice_of v (own x read) spot ≡ bits_at (pick_place p read) p.width v
part_is p x a spot read v e d s =
    worths.moving_is v (own x read) spot ∙ ap (λ w. bits_at (spot_place spot (own x read)) w v) s
    ∙ sym (ap (λ y. bits_at y p.width v) (worths.place_moving p x a spot read e d))

pub pick_known : (look : Look) (old new : List Shape) (p : Pick) (x a : Typed) (spot : Spot) (at : List Bit) (of n : ℕ) → p.place ≡ place.Moving a spot → x ≡ a → spot.width ≡ p.width → IsTrue (each_signal no_signal x) → at ≡ own x nowhere →
    FromOne old new (λ v. dyn_slice_of v at spot) of spot.width n → LowersPick look old new p of n
pick_known look old new p x a spot at of n e d s none is h = record {
  within = h.within;
  width = h.width ∙ s;
  value = λ bits.
      h.value bits ∙ ap (λ i. dyn_slice_of (bits_at_node bits old of) i spot) (is ∙ sym (nameless x (look_read look old bits) x.width x.signed none))
      ∙ part_is p x a spot (look_read look old bits) (bits_at_node bits old of) e d s;
  mentions = λ q m k. h.mentions q m;
}

pub pick_moving : (look : Look) (old mid new : List Shape) (p : Pick) (a : Typed) (spot : Spot) (of i n : ℕ) → p.place ≡ place.Moving a spot → spot.width ≡ p.width → of < length old → Extends old mid →
    Lowers look old mid a a.width a.signed i → FromTwo mid new (λ v j. dyn_slice_of v j spot) of i spot.width n → LowersPick look old new p of n
pick_moving look old mid new p a spot of i n e s l d g h = record {
  within = h.within;
  width = h.width ∙ s;
  value = λ bits.
      h.value bits ∙ ap (λ v. dyn_slice_of v (bits_at_node bits mid i) spot) (value-extends (bitwise bits) old mid of d l)
      ∙ ap (λ j. dyn_slice_of (bits_at_node bits old of) j spot) (g.value bits)
      ∙ part_is p a a spot (look_read look old bits) (bits_at_node bits old of) e refl s;
  mentions = λ q m k.
      h.mentions q (variables-extends q old mid of d l ∙ m) (g.mentions q (sym (ap (each_place (look_test look old q)) e ∙ each_moving (look_test look old q) a spot) ∙ k));
}
