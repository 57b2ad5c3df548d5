-- Parts of nodes, and nodes with parts put into them.
use Rattle.std.proofs.Common.{◌≡◌, ℕ, zero, suc, ◌+◌, ◌-◌, ◌<◌, ◌≤◌, Bool, true, false, cond, List, ◌++◌, length, take, drop, Option, Some, None, refl, sym, ap, ◌∙◌, subst, arith, IfSome, length-drop}
use Rattle.std.specs.Prelude.{ℤ}
use Rattle.std.proofs.lemmas.List.{take_all, drop_all, append-nil, take-append-drop}
use Rattle.fourvec.specs.declared.Bit.{Bit}
use Rattle.fourvec.specs.declared.Spot.{Spot}
use Rattle.fourvec.specs.Bits.{is_known, slice_of, each}
use Rattle.fourvec.specs.Spots.{reached, window, place_of, overlaid, kept_bit, dyn_slice_of, dyn_put_of}
use Rattle.fourvec.proofs.Order.{both}
use Rattle.svex_shape.specs.declared.shape.Shape.{Shape}
use Rattle.svex_shape.specs.declared.shape.Shape.TheVariants.{DynPut}
use Rattle.svex_shape.specs.Shapes.{width_at, width_of}
use Rattle.svex_shape.specs.Values.{value_of, each_variable_of}
use Rattle.svex_arena.specs.Arenas.{IsArena, Extends}
use Rattle.svex_arena.proofs.Steps.{value-extends, width-extends, variables-extends}
use Rattle.svex_arena.proofs.Keeping.{extends_on}
use Rattle.driver_resolve.specs.Drivers.{bitwise}
use Rattle.sv_meaning.specs.Layouts.{Read}
use Rattle.sv_meaning.specs.Meanings.{bits_at, nowhere}
use Rattle.sv_meaning.specs.Targets.{put_at}
use Rattle.sv_typed.specs.declared.tree.Pick.{Pick}
use Rattle.sv_typed.specs.declared.tree.PickPlace.TheVariants as place
use Rattle.sv_typed.specs.declared.tree.Typed.{Typed}
use Rattle.sv_typed.specs.declared.tree.PickPlace.TheBlock.{shape-the_row-Typed-0, hidden-the_row-Typed-0}
use Rattle.sv_typed.specs.Typed.{own, names_of, form_names, place_names, spot_place}
use Rattle.sv_typed.proofs.Worth as worths
use Rattle.fourvec.specs.declared.selects.Reach.{Reach}
use Rattle.sv_lower.specs.Nodes.{bits_at_node, IsMade, FromOne, FromTwo, FromThree}
use Rattle.sv_lower.specs.Lowering.{each_signal, no_signal}
use Rattle.sv_lower.proofs.Nameless.{nameless}
use Rattle.sv_lower.proofs.Sizing.{length-node}
use Rattle.sv_stores.specs.declared.scene.Scene.{Scene}
use Rattle.sv_blocks.specs.declared.parts.Spotted.{Spotted}
use Rattle.sv_blocks.specs.declared.parts.Spotted.TheVariants.{At, Moving}
use Rattle.sv_stores.specs.Scenes.{store_of, reads_in, Allows, Yields}
use Rattle.sv_blocks.specs.Parts.{SpotIsWide, Spots, ReadsPart, PutsPart, IsLay}

-- ---- where parts begin

pub spots_fixed : (scene : Scene) (old : List Shape) (nodes : List ℕ) (p : Pick) (i : ℤ) (at : Reach) → p.place ≡ place.Fixed i → reached at.below at.far ≡ i → Spots scene old old nodes p (At at)
spots_fixed scene old nodes p i at e d = record {
  there = tt;
  wide = tt;
  place = λ bits. ap (λ z. Some z) d ∙ sym (worths.place_fixed p i (reads_in scene bits (store_of scene old bits nodes)) e);
  mentions = λ q a h. refl;
}

pub spots_known : (scene : Scene) (old : List Shape) (nodes : List ℕ) (p : Pick) (x a : Typed) (spot : Spot) (at : Reach) → p.place ≡ place.Moving a spot → x ≡ a
    → ((read : Read) → spot_place spot (own x read) ≡ Some (reached at.below at.far)) → Spots scene old old nodes p (At at)
spots_known scene old nodes p x a spot at e d h = record {
  there = tt;
  wide = tt;
  place = λ bits. sym (worths.place_moving p x a spot (reads_in scene bits (store_of scene old bits nodes)) e d ∙ h (reads_in scene bits (store_of scene old bits nodes)));
  mentions = λ q b k. refl;
}

pub names_moving : (p : Pick) (x a : Typed) (spot : Spot) → p.place ≡ place.Moving a spot → x ≡ a → place_names p.place ≡ names_of x
unfolding form_names shape-the_row-Typed-0 hidden-the_row-Typed-0 denote.Hole.Carrier.hidden
names_moving p x a spot e d = ap place_names e ∙ ap names_of (sym d)

pub spots_moving : (scene : Scene) (old new : List Shape) (nodes : List ℕ) (p : Pick) (x a : Typed) (spot : Spot) (at : ℕ) → p.place ≡ place.Moving a spot → x ≡ a → spot.width ≡ p.width
    → Yields scene old new nodes (λ read. own x read) (names_of x) x.width at → Spots scene old new nodes p (Moving at spot)
spots_moving scene old new nodes p x a spot at e d w h = record {
  there = h.within;
  wide = w;
  place = λ bits. ap (λ v. spot_place spot v) (h.value bits) ∙ sym (worths.place_moving p x a spot (reads_in scene bits (store_of scene old bits nodes)) e d);
  mentions = λ q b k. h.mentions q (subst (λ names. Allows scene q names) (names_moving p x a spot e d) b) k;
}

-- the place of an index that names no signal
known_place : (index : Typed) (spot : Spot) (value : List Bit) (k b : Bool) (p : Reach) → b ≡ true → (b ≡ true → each_signal no_signal index ≡ true) → value ≡ own index nowhere → k ≡ is_known value → k ≡ true → place_of spot value ≡ reached p.below p.far
    → (read : Read) → spot_place spot (own index read) ≡ Some (reached p.below p.far)
known_place index spot value k b p t none is e f z read =
    ap (λ v. spot_place spot v) (nameless index read index.width index.signed (none t) ∙ sym is)
    ∙ ap (λ c. cond c (Some (place_of spot value)) None) (sym e ∙ f) ∙ ap (λ i. Some i) z

-- ---- parts that are read

pub reads_at : (old new : List Shape) (s : Spotted) (at : Reach) (w of n : ℕ) → s ≡ At at → FromOne old new (λ v. window v (reached at.below at.far) w) of w n → ReadsPart old new s w of n
reads_at old new s at w of n e h =
    let P : Spotted → Type 0 = λ x. ReadsPart old new x w of n in
    subst P (sym e) (record { within = h.within; width = h.width; value = h.value; mentions = λ p t m. h.mentions p m })

pub reads_moving : (old new : List Shape) (s : Spotted) (at : ℕ) (spot : Spot) (w of n : ℕ) → s ≡ Moving at spot → SpotIsWide s w → FromTwo old new (λ v i. dyn_slice_of v i spot) of at spot.width n → ReadsPart old new s w of n
reads_moving old new s at spot w of n e wide h =
    let same : spot.width ≡ w = subst (λ x. SpotIsWide x w) e wide in
    let P : Spotted → Type 0 = λ x. ReadsPart old new x w of n in
    subst P (sym e) (record {
      within = h.within;
      width = h.width ∙ same;
      value = λ bits.
          h.value bits ∙ worths.moving_is (bits_at_node bits old of) (bits_at_node bits old at) spot
          ∙ ap (λ v. bits_at (spot_place spot (bits_at_node bits old at)) v (bits_at_node bits old of)) same;
      mentions = λ p t m. h.mentions p m t;
    })

-- ---- parts that are put

pub puts_at : (old new : List Shape) (s : Spotted) (at : Reach) (of part n : ℕ) → s ≡ At at → FromTwo old new (λ v put. overlaid v (reached at.below at.far) put) of part (width_at old of) n → PutsPart old new s of part n
puts_at old new s at of part n e h =
    let P : Spotted → Type 0 = λ x. PutsPart old new x of part n in
    subst P (sym e) (record { within = h.within; width = h.width; value = h.value; mentions = λ p t m k. h.mentions p m k })

put_moving : (spot : Spot) (v i put : List Bit) → dyn_put_of v i spot put ≡ put_at (spot_place spot i) v put
unfolding dyn_put_of
put_moving spot v i put = by_known (is_known i)
  where
    by_known : (k : Bool) → cond k (overlaid v (place_of spot i) put) (each (kept_bit put) v) ≡ put_at (cond k (Some (place_of spot i)) None) v put
    by_known true = refl
    by_known false = refl

pub puts_moving : (old new : List Shape) (s : Spotted) (at : ℕ) (spot : Spot) (of part n : ℕ) → s ≡ Moving at spot → FromThree old new (λ i v p. dyn_put_of v i spot p) at of part (width_at old of) n → PutsPart old new s of part n
puts_moving old new s at spot of part n e h =
    let P : Spotted → Type 0 = λ x. PutsPart old new x of part n in
    subst P (sym e) (record {
      within = h.within;
      width = h.width;
      value = λ bits. h.value bits ∙ put_moving spot (bits_at_node bits old of) (bits_at_node bits old at) (bits_at_node bits old part);
      mentions = λ p t m k. h.mentions p t m k;
    })

pub from_put : (old new : List Shape) (of at : ℕ) (spot : Spot) (put n : ℕ) → IsMade old (DynPut of at spot put) new n → FromThree old new (λ i v p. dyn_put_of v i spot p) at of put (width_at old of) n
unfolding width_of value_of each_variable_of
from_put old new of at spot put n h = record {
  within = h.within;
  width = h.width;
  value = λ bits. h.value (bitwise bits);
  mentions = λ p i v q. h.variables p ∙ both _ _ v (both _ _ i q);
}

-- ---- parts at known places

pub front_none : (old : List Shape) (of high lo : ℕ) → high < length old → lo ≡ 0 → FromTwo old old (λ v h. take lo v ++ h) of high (lo + width_at old high) high
front_none old of high lo l e = record {
  within = l;
  width = omega arith;
  value = λ bits. sym (ap (λ k. take k (bits_at_node bits old of) ++ bits_at_node bits old high) e);
  mentions = λ p a b. b;
}

pub front_some : (old mid new : List Shape) (of high low lo w n : ℕ) → Extends old mid → high < length old → FromOne old mid (λ v. slice_of v 0 lo) of lo low → w ≡ width_at mid high + width_at mid low
    → FromTwo mid new (λ x y. y ++ x) high low w n → FromTwo old new (λ v h. take lo v ++ h) of high (lo + width_at old high) n
front_some old mid new of high low lo w n e l h s k = record {
  within = k.within;
  width = let a = k.width in let b = h.width in let c = width-extends old mid high e l in omega arith;
  value = λ bits.
      k.value bits ∙ ap (λ v. bits_at_node bits mid low ++ v) (value-extends (bitwise bits) old mid high e l)
      ∙ ap (λ v. v ++ bits_at_node bits old high) (h.value bits);
  mentions = λ p a b. k.mentions p (variables-extends p old mid high e l ∙ b) (h.mentions p a);
}

pub rest_none : (old : List Shape) (of low from size : ℕ) → IsArena old → of < length old → low < length old → width_at old low ≡ from → size ≡ width_at old of → from ≡ size → FromTwo old old (λ v l. l ++ drop from v) of low (width_at old of) low
rest_none old of low from size i o l w s e = record {
  within = l;
  width = omega arith;
  value = λ bits.
      let most : length (bits_at_node bits old of) ≤ from = let g = length-node bits old of i o in omega arith in
      sym (ap (λ v. bits_at_node bits old low ++ v) (drop_all from (bits_at_node bits old of) most) ∙ append-nil (bits_at_node bits old low));
  mentions = λ p a b. b;
}

rest_slice : (v : List Bit) (from n : ℕ) → from + n ≡ length v → slice_of v from n ≡ drop from v
rest_slice v from n e = take_all n (drop from v) (omega (arith, length-drop from v))

pub rest_some : (old mid new : List Shape) (of low high from size w n : ℕ) → IsArena old → of < length old → low < length old → width_at old low ≡ from → from ≤ size → size ≡ width_at old of → Extends old mid
    → FromOne old mid (λ v. slice_of v from (size - from)) of (size - from) high → w ≡ width_at mid high + width_at mid low → FromTwo mid new (λ x y. y ++ x) high low w n → FromTwo old new (λ v l. l ++ drop from v) of low (width_at old of) n
rest_some old mid new of low high from size w n i o l wide le s e h d k = record {
  within = k.within;
  width = let a = k.width in let b = h.width in let c = width-extends old mid low e l in omega arith;
  value = λ bits.
      let sum : from + (size - from) ≡ length (bits_at_node bits old of) = let g = length-node bits old of i o in omega arith in
      k.value bits ∙ ap (λ v. v ++ bits_at_node bits mid high) (value-extends (bitwise bits) old mid low e l)
      ∙ ap (λ v. bits_at_node bits old low ++ v) (h.value bits ∙ rest_slice (bits_at_node bits old of) from (size - from) sum);
  mentions = λ p a b. k.mentions p (h.mentions p a) (variables-extends p old mid low e l ∙ b);
}

none_laid : (v put : List Bit) (lo below inside : ℕ) → inside ≡ 0 → take lo v ++ slice_of put below inside ++ drop (lo + inside) v ≡ v
none_laid v put lo below zero e = let same : lo + 0 ≡ lo = omega arith in ap (λ xs. xs ++ drop (lo + 0) v) (append-nil (take lo v)) ∙ ap (λ n. take lo v ++ drop n v) same ∙ take-append-drop lo v
none_laid v put lo below (suc n) e = absurd (omega arith)

pub laid_none : (old : List Shape) (of part size width : ℕ) (z : ℤ) (below lo inside : ℕ) → IsArena old → of < length old → part < length old → size ≡ width_at old of → width ≡ width_at old part → IsLay size z width below lo inside → inside ≡ 0
    → FromTwo old old (λ v put. overlaid v z put) of part (width_at old of) of
laid_none old of part size width z below lo inside i o p s w lay e = record {
  within = o;
  width = refl;
  value = λ bits.
      sym (lay.gives (bits_at_node bits old of) (bits_at_node bits old part) (length-node bits old of i o ∙ sym s) (length-node bits old part i p ∙ sym w)
      ∙ none_laid (bits_at_node bits old of) (bits_at_node bits old part) lo below inside e);
  mentions = λ q a b. a;
}

pub laid_some : (old one two new : List Shape) (of part size width : ℕ) (z : ℤ) (below lo inside middle low v w n : ℕ) → IsArena old → of < length old → part < length old → size ≡ width_at old of → width ≡ width_at old part → IsLay size z width below lo inside
    → Extends old one → Extends one two → FromOne old one (λ x. slice_of x below inside) part inside middle → FromTwo one two (λ x h. take lo x ++ h) of middle v low → FromTwo two new (λ x l. l ++ drop (lo + inside) x) of low w n → w ≡ width_at two of
    → FromTwo old new (λ x put. overlaid x z put) of part (width_at old of) n
laid_some old one two new of part size width z below lo inside middle low v w n i o p s d lay e g h j k wide = record {
  within = k.within;
  width = let a = k.width in let b = width-extends old two of (extends_on old one two e g) o in omega arith;
  value = λ bits.
      k.value bits
      ∙ ap (λ x. bits_at_node bits two low ++ drop (lo + inside) x) (value-extends (bitwise bits) old two of (extends_on old one two e g) o)
      ∙ ap (λ l. l ++ drop (lo + inside) (bits_at_node bits old of))
      (j.value bits ∙ ap (λ x. take lo x ++ bits_at_node bits one middle) (value-extends (bitwise bits) old one of e o) ∙ ap (λ h. take lo (bits_at_node bits old of) ++ h) (h.value bits))
      ∙ sym (lay.gives (bits_at_node bits old of) (bits_at_node bits old part) (length-node bits old of i o ∙ sym s) (length-node bits old part i p ∙ sym d));
  mentions = λ q a b.
      k.mentions q (variables-extends q old two of (extends_on old one two e g) o ∙ a)
      (j.mentions q (variables-extends q old one of e o ∙ a) (h.mentions q b));
}

-- ---- room

pub front_room : (old mid : List Shape) (high low lo : ℕ) → Extends old mid → high < length old → width_at mid low ≡ lo → lo + width_at old high ≤ 128 → width_at mid high + width_at mid low ≤ 128
front_room old mid high low lo e l w m = let a = width-extends old mid high e l in omega arith

pub rest_room : (old mid : List Shape) (of high low from size : ℕ) → Extends old mid → low < length old → width_at mid high ≡ size - from → width_at old low ≡ from → from ≤ width_at old of → size ≡ width_at old of → size ≤ 128 → width_at mid high + width_at mid low ≤ 128
rest_room old mid of high low from size e l w v le s m = let a = width-extends old mid low e l in omega arith

-- the place of an index, if it is found
pub known_places : (index : Typed) (spot : Spot) (value : List Bit) (k b : Bool) (o : Option Reach) → b ≡ true → (b ≡ true → each_signal no_signal index ≡ true) → value ≡ own index nowhere → k ≡ is_known value → k ≡ true
    → IfSome o (λ p. place_of spot value ≡ reached p.below p.far) → IfSome o (λ p. (read : Read) → spot_place spot (own index read) ≡ Some (reached p.below p.far))
known_places index spot value k b None t none is e f h = tt
known_places index spot value k b (Some p) t none is e f h = known_place index spot value k b p t none is e f h
