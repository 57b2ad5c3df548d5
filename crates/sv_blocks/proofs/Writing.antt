-- Values written into chains of selects, and into wires.
use Rattle.std.proofs.Common.{◌≡◌, ◌≢◌, ℕ, zero, suc, ◌+◌, ◌<◌, ◌≤◌, eqb, Bool, true, false, cond, List, [], ◌∷◌, length, drop, set, get_or, Option, Some, None, refl, sym, ap, ◌∙◌, ◌⊎◌, inl, inr, subst, arith, IsTrue, get_or-set_same, get_or-set_other, length-set, length-drop}
use Rattle.std.proofs.lemmas.List.{get_or_past, get_or_default, same_lists, nil_from_length}
use Rattle.std.proofs.lemmas.Bool.{cases_lt, cases_eq}
use Rattle.std.proofs.lemmas.Bool.Decides.{nat_tests}
use Rattle.fourvec.specs.declared.Bit.{Bit}
use Rattle.svex_shape.specs.declared.shape.VarName.{VarName}
use Rattle.svex_shape.specs.declared.shape.Shape.{Shape}
use Rattle.svex_shape.specs.Shapes.{width_at}
use Rattle.svex_shape.specs.Values.{each_variable}
use Rattle.svex_arena.specs.Arenas.{IsArena, Extends}
use Rattle.svex_arena.proofs.Keeping.{extends_on}
use Rattle.svex_arena.proofs.Steps.{value-extends, width-extends, variables-extends}
use Rattle.driver_resolve.specs.Drivers.{bitwise}
use Rattle.sv_meaning.specs.Meanings.{bits_at, bits_from}
use Rattle.sv_meaning.specs.Targets.{put_at, with_wire}
use Rattle.sv_typed.specs.declared.tree.Pick.{Pick}
use Rattle.sv_typed.specs.Typed.{pick_place, place_names, spot_place, names_picked, picked_width}
use Rattle.sv_typing.specs.Picks.{picked_put}
use Rattle.sv_targets.specs.declared.targets.TypedTarget.{TypedTarget}
use Rattle.sv_lower.specs.Nodes.{bits_at_node}
use Rattle.sv_lower.proofs.Sizing.{length-node}
use Rattle.sv_actions.specs.Doing.{TargetFits}
use Rattle.sv_stores.specs.declared.scene.Scene.{Scene}
use Rattle.sv_blocks.specs.declared.parts.Spotted.{Spotted}
use Rattle.sv_blocks.specs.declared.parts.Spotted.TheVariants.{At, Moving}
use Rattle.sv_stores.specs.Scenes.{place_in, width_in, base, store_of, reads_in, Allows, HoldsIn, AreNodes, IsScene}
use Rattle.sv_blocks.specs.Parts.{spotted_place, spotted_test, SpotIsIn, SpotIsWide, Spots, ReadsPart, PutsPart, IsWritten}
use Rattle.sv_blocks.specs.Writing.{Wrote}
use Rattle.sv_stores.proofs.Stores.{store_at, store_none, store_kept, store_kept_at, holds_kept}
use Rattle.sv_stores.proofs.Yielding.{allows_left, allows_right}

-- ---- where parts begin, as the arena grows

spotted_kept : (old new : List Shape) (s : Spotted) (bits : VarName → ℕ → Bit) → SpotIsIn s old → Extends old new → spotted_place s bits new ≡ spotted_place s bits old
spotted_kept old new (At p) bits h e = refl
spotted_kept old new (Moving at spot) bits h e = ap (λ v. spot_place spot v) (value-extends (bitwise bits) old new at e h)

test_kept : (old new : List Shape) (s : Spotted) (p : VarName → ℕ → Bool) → SpotIsIn s old → Extends old new → spotted_test s p new ≡ spotted_test s p old
test_kept old new (At q) p h e = refl
test_kept old new (Moving at spot) p h e = variables-extends p old new at e h

pub spot_later : (old new : List Shape) (s : Spotted) → SpotIsIn s old → Extends old new → SpotIsIn s new
spot_later old new (At p) h e = tt
spot_later old new (Moving at spot) h e = let g = e.longer in omega arith

-- ---- chains of selects

front_is : (picks : List Pick) (p : Pick) → 0 < length picks → p ≡ get_or picks 0 p → picks ≡ p ∷ drop 1 picks
front_is [] p l e = absurd (omega arith)
front_is (q ∷ more) p l e = ap (λ x. x ∷ more) (sym e)

pub written_none : (scene : Scene) (old : List Shape) (nodes : List ℕ) (picks : List Pick) (of value : ℕ) → value < length old → picks ≡ [] → width_at old value ≡ picked_width picks (width_at old of) → IsWritten scene old old nodes picks of value value
unfolding picked_put picked_width
written_none scene old nodes picks of value l e w =
    let P : List Pick → Type 0 = λ xs. width_at old value ≡ picked_width xs (width_at old of) → IsWritten scene old old nodes xs of value value in
    subst P (sym e) (λ d. record { within = l; width = d; value = λ bits. refl; mentions = λ p a h m v. v }) w

last_written : (scene : Scene) (old mid new : List Shape) (nodes : List ℕ) (p : Pick) (s : Spotted) (of value n : ℕ) → of < length old → value < length old → Extends old mid
    → Spots scene old mid nodes p s → PutsPart mid new s of value n → IsWritten scene old new nodes (p ∷ []) of value n
unfolding picked_put names_picked
last_written scene old mid new nodes p s of value n l v e h k = record {
  within = k.within;
  width = k.width ∙ width-extends old mid of e l;
  value = λ bits.
      k.value bits
      ∙ ap (λ z. put_at z (bits_at_node bits mid of) (bits_at_node bits mid value)) (h.place bits)
      ∙ ap (λ x. put_at (pick_place p (reads_in scene bits (store_of scene old bits nodes))) x (bits_at_node bits mid value)) (value-extends (bitwise bits) old mid of e l)
      ∙ ap (λ x. put_at (pick_place p (reads_in scene bits (store_of scene old bits nodes))) (bits_at_node bits old of) x) (value-extends (bitwise bits) old mid value e v);
  mentions = λ q a g m w.
      k.mentions q (h.mentions q (allows_left scene q (place_names p.place) [] a) g) (variables-extends q old mid of e l ∙ m) (variables-extends q old mid value e v ∙ w);
}

pub written_last : (scene : Scene) (old mid new : List Shape) (nodes : List ℕ) (picks : List Pick) (p : Pick) (s : Spotted) (of value n : ℕ) → 0 < length picks → p ≡ get_or picks 0 p → length picks ≡ 1
    → of < length old → value < length old → Extends old mid → Spots scene old mid nodes p s → PutsPart mid new s of value n → IsWritten scene old new nodes picks of value n
written_last scene old mid new nodes picks p s of value n some is one l v e h k =
    let none : drop 1 picks ≡ [] = nil_from_length (drop 1 picks) (omega (arith, length-drop 1 picks)) in
    let P : List Pick → Type 0 = λ xs. IsWritten scene old new nodes xs of value n in
    subst P (sym (front_is picks p some is ∙ ap (λ xs. p ∷ xs) none)) (last_written scene old mid new nodes p s of value n l v e h k)

more_written : (scene : Scene) (old mid one two new : List Shape) (nodes : List ℕ) (p : Pick) (more : List Pick) (s : Spotted) (of value part inner n : ℕ) → IsScene scene → AreNodes scene old nodes → of < length old → value < length old
    → Extends old mid → Extends mid one → Extends one two
    → Spots scene old mid nodes p s → ReadsPart mid one s p.width of part → IsWritten scene one two nodes more part value inner → PutsPart two new s of inner n → IsWritten scene old new nodes (p ∷ more) of value n
unfolding picked_put names_picked
more_written scene old mid one two new nodes p more s of value part inner n sc are l v e f g h r w k =
    let ef : Extends old one = extends_on old mid one e f in
    let fg : Extends mid two = extends_on mid one two f g in
    let all : Extends old two = extends_on old mid two e fg in
    record {
      within = k.within;
      width = k.width ∙ width-extends old two of all l;
      value = λ bits.
          let read = reads_in scene bits (store_of scene old bits nodes) in
          let same = ap (λ t. reads_in scene bits t) (store_kept scene old one bits nodes sc are ef) in
          let part_is : bits_at_node bits one part ≡ bits_at (pick_place p read) p.width (bits_at_node bits old of) =
          r.value bits ∙ ap (λ z. bits_at z p.width (bits_at_node bits mid of)) (h.place bits) ∙ ap (λ x. bits_at (pick_place p read) p.width x) (value-extends (bitwise bits) old mid of e l) in
          k.value bits
          ∙ ap (λ z. put_at z (bits_at_node bits two of) (bits_at_node bits two inner)) (spotted_kept mid two s bits h.there fg ∙ h.place bits)
          ∙ ap (λ x. put_at (pick_place p read) x (bits_at_node bits two inner)) (value-extends (bitwise bits) old two of all l)
          ∙ ap (λ x. put_at (pick_place p read) (bits_at_node bits old of) x)
          (w.value bits ∙ ap (λ q. picked_put q more (bits_at_node bits one part) (bits_at_node bits one value)) same
          ∙ ap (λ x. picked_put read more x (bits_at_node bits one value)) part_is
          ∙ ap (λ x. picked_put read more (bits_at (pick_place p read) p.width (bits_at_node bits old of)) x) (value-extends (bitwise bits) old one value ef v));
      mentions = λ q a b m u.
          let spot = h.mentions q (allows_left scene q (place_names p.place) (names_picked more) a) b in
          let read_test = r.mentions q spot (variables-extends q old mid of e l ∙ m) in
          k.mentions q (test_kept mid two s q h.there fg ∙ spot) (variables-extends q old two of all l ∙ m)
          (w.mentions q (allows_right scene q (place_names p.place) (names_picked more) a) (holds_kept scene old one q nodes are ef b) read_test (variables-extends q old one value ef v ∙ u));
    }

pub written_more : (scene : Scene) (old mid one two new : List Shape) (nodes : List ℕ) (picks : List Pick) (p : Pick) (s : Spotted) (of value part inner n : ℕ) → 0 < length picks → p ≡ get_or picks 0 p → IsScene scene → AreNodes scene old nodes → of < length old → value < length old
    → Extends old mid → Extends mid one → Extends one two
    → Spots scene old mid nodes p s → ReadsPart mid one s p.width of part → IsWritten scene one two nodes (drop 1 picks) part value inner → PutsPart two new s of inner n → IsWritten scene old new nodes picks of value n
written_more scene old mid one two new nodes picks p s of value part inner n some is sc are l v e f g h r w k =
    let P : List Pick → Type 0 = λ xs. IsWritten scene old new nodes xs of value n in
    subst P (sym (front_is picks p some is)) (more_written scene old mid one two new nodes p (drop 1 picks) s of value part inner n sc are l v e f g h r w k)

-- ---- how wide what is put is

one_wide : (picks : List Pick) (p : Pick) (w : ℕ) → 0 < length picks → p ≡ get_or picks 0 p → length picks ≡ 1 → picked_width picks w ≡ p.width
unfolding picked_width
one_wide picks p w some is one =
    let none : drop 1 picks ≡ [] = nil_from_length (drop 1 picks) (omega (arith, length-drop 1 picks)) in
    ap (λ xs. picked_width xs w) (front_is picks p some is ∙ ap (λ xs. p ∷ xs) none)

-- a value for the part that the last pick names
pub last_wide : (old mid : List Shape) (picks : List Pick) (p : Pick) (s : Spotted) (of value : ℕ) → 0 < length picks → p ≡ get_or picks 0 p → length picks ≡ 1 → value < length old → width_at old value ≡ picked_width picks (width_at old of) → Extends old mid
    → SpotIsWide s p.width → SpotIsWide s (width_at mid value)
last_wide old mid picks p s of value some is one l w e h =
    subst (SpotIsWide s) (sym (width-extends old mid value e l ∙ w ∙ one_wide picks p (width_at old of) some is one)) h

-- a value for what the other picks leave of the part that the first names
pub rest_wide : (old one : List Shape) (picks rest : List Pick) (p : Pick) (of value part : ℕ) → 0 < length picks → p ≡ get_or picks 0 p → rest ≡ drop 1 picks → value < length old → width_at old value ≡ picked_width picks (width_at old of) → Extends old one
    → width_at one part ≡ p.width → width_at one value ≡ picked_width rest (width_at one part)
unfolding picked_width
rest_wide old one picks rest p of value part some is same l w e h =
    width-extends old one value e l ∙ w ∙ ap (λ xs. picked_width xs (width_at old of)) (front_is picks p some is) ∙ ap (picked_width (drop 1 picks)) (sym h) ∙ ap (λ xs. picked_width xs (width_at one part)) (sym same)

-- a value for a target
pub target_wide : (scene : Scene) (shapes : List Shape) (nodes : List ℕ) (t : TypedTarget) (picks : List Pick) (at of part : ℕ) → AreNodes scene shapes nodes → TargetFits t → at < length nodes → picks ≡ t.picks → of ≡ get_or nodes at 0 → width_in scene at ≡ t.wire_width
    → width_at shapes part ≡ t.width → width_at shapes part ≡ picked_width picks (width_at shapes of)
target_wide scene shapes nodes t picks at of part are h l same is d w =
    w ∙ sym h.ends ∙ ap (picked_width t.picks) (sym d ∙ sym (are.width at l) ∙ ap (width_at shapes) (sym is)) ∙ ap (λ xs. picked_width xs (width_at shapes of)) (sym same)

-- ---- bits of a wire

bits_length : (f : ℕ → Bit) (k w : ℕ) → length (bits_from f k w) ≡ w
unfolding bits_from
bits_length f k zero = refl
bits_length f k (suc w) = ap suc (bits_length f (suc k) w)

bits_get : (f : ℕ → Bit) (k w i : ℕ) (d : Bit) → i < w → get_or (bits_from f k w) i d ≡ f (k + i)
unfolding bits_from
bits_get f k zero i d h = absurd (omega arith)
bits_get f k (suc w) zero d h = let e : k ≡ k + 0 = omega arith in ap f e
bits_get f k (suc w) (suc i) d h = let e : suc k + i ≡ k + suc i = omega arith in bits_get f (suc k) w i d (omega arith) ∙ ap f e

pub bits_back : (v : List Bit) (f : ℕ → Bit) (w : ℕ) → length v ≡ w → ((k : ℕ) → k < w → f k ≡ get_or v k (f k)) → bits_from f 0 w ≡ v
bits_back v f w e h = same_lists _ _ (bits_length f 0 w ∙ sym e)
    (λ k d l. let m : k < w = omega (arith, bits_length f 0 w) in bits_get f 0 w k d m ∙ (let z : 0 + k ≡ k = omega arith in ap f z) ∙ h k m ∙ get_or_default v k (f k) d (omega arith))

-- ---- a node in the place of another

set_here : (scene : Scene) (shapes : List Shape) (bits : VarName → ℕ → Bit) (nodes : List ℕ) (at node n k : ℕ) → place_in scene n ≡ Some at → at < length nodes
    → store_of scene shapes bits (set nodes at node) n k ≡ get_or (bits_at_node bits shapes node) k (base scene.manner bits n k)
set_here scene shapes bits nodes at node n k e l =
    store_at scene shapes bits (set nodes at node) n k at e ∙ ap (λ x. get_or (bits_at_node bits shapes x) k (base scene.manner bits n k)) (get_or-set_same nodes at node 0 l)

other_place : (scene : Scene) (m n i at : ℕ) → IsScene scene → place_in scene n ≡ Some at → place_in scene m ≡ Some i → m ≢ n → i ≢ at
other_place scene m n i at sc e f ne same = ne (sym (sc.back m i f).1 ∙ ap (λ j. get_or scene.wires j 0) same ∙ (sc.back n at e).1)

set_other_at : (scene : Scene) (shapes : List Shape) (bits : VarName → ℕ → Bit) (nodes : List ℕ) (at node n m k : ℕ) → IsScene scene → place_in scene n ≡ Some at → m ≢ n → (o : Option ℕ) → place_in scene m ≡ o
    → store_of scene shapes bits (set nodes at node) m k ≡ store_of scene shapes bits nodes m k
set_other_at scene shapes bits nodes at node n m k sc e ne None f = store_none scene shapes bits (set nodes at node) m k f ∙ sym (store_none scene shapes bits nodes m k f)
set_other_at scene shapes bits nodes at node n m k sc e ne (Some i) f =
    store_at scene shapes bits (set nodes at node) m k i f
    ∙ ap (λ x. get_or (bits_at_node bits shapes x) k (base scene.manner bits m k)) (get_or-set_other nodes at i node 0 (other_place scene m n i at sc e f ne))
    ∙ sym (store_at scene shapes bits nodes m k i f)

-- the bits of a wire are those of its node
wire_bits : (scene : Scene) (shapes : List Shape) (bits : VarName → ℕ → Bit) (nodes : List ℕ) (n at w : ℕ) → IsArena shapes → AreNodes scene shapes nodes → at < length nodes → place_in scene n ≡ Some at → width_in scene at ≡ w
    → bits_from (store_of scene shapes bits nodes n) 0 w ≡ bits_at_node bits shapes (get_or nodes at 0)
wire_bits scene shapes bits nodes n at w ar are l e d =
    let long : length (bits_at_node bits shapes (get_or nodes at 0)) ≡ w = length-node bits shapes (get_or nodes at 0) ar (are.within at l) ∙ are.width at l ∙ d in
    bits_back (bits_at_node bits shapes (get_or nodes at 0)) (store_of scene shapes bits nodes n) w long
    (λ k m. store_at scene shapes bits nodes n k at e ∙ get_or_default (bits_at_node bits shapes (get_or nodes at 0)) k _ _ (omega arith))

-- one bit of the store with a node in the place of another
put_bit : (scene : Scene) (old new : List Shape) (bits : VarName → ℕ → Bit) (nodes : List ℕ) (at node n m k w : ℕ) → IsScene scene → IsArena old → IsArena new → AreNodes scene old nodes → Extends old new → at < length nodes → place_in scene n ≡ Some at
    → width_in scene at ≡ w → node < length new → width_at new node ≡ w → ((m ≡ n) ⊎ (m ≢ n))
    → store_of scene new bits (set nodes at node) m k ≡ with_wire n (bits_at_node bits new node) (store_of scene old bits nodes) m k
put_bit scene old new bits nodes at node n m k w sc ar br are e l place d here wide (inr ne) =
    set_other_at scene new bits nodes at node n m k sc place ne (place_in scene m) refl ∙ store_kept_at scene old new bits nodes sc are e m k
    ∙ sym (ap (λ b. cond b (get_or (bits_at_node bits new node) k (store_of scene old bits nodes m k)) (store_of scene old bits nodes m k)) (let f : eqb m n ≡ false = grind (arith, nat_tests, ne) in f))
put_bit scene old new bits nodes at node n m k w sc ar br are e l place d here wide (inl same) =
    ap (λ i. store_of scene new bits (set nodes at node) i k) same ∙ set_here scene new bits nodes at node n k place l
    ∙ by_place (cases_lt k w)
    ∙ sym (ap (λ i. get_or (bits_at_node bits new node) k (store_of scene old bits nodes i k)) same)
    ∙ sym (ap (λ b. cond b (get_or (bits_at_node bits new node) k (store_of scene old bits nodes m k)) (store_of scene old bits nodes m k)) (let f : eqb m n ≡ true = grind (arith, nat_tests, same) in f))
  where
    long : length (bits_at_node bits new node) ≡ w
    long = length-node bits new node br here ∙ wide

    old_long : length (bits_at_node bits old (get_or nodes at 0)) ≡ w
    old_long = length-node bits old (get_or nodes at 0) ar (are.within at l) ∙ are.width at l ∙ d

    by_place : ((k < w) ⊎ (w ≤ k)) → get_or (bits_at_node bits new node) k (base scene.manner bits n k) ≡ get_or (bits_at_node bits new node) k (store_of scene old bits nodes n k)
    by_place (inl lt) = get_or_default (bits_at_node bits new node) k _ _ (let g = long in omega arith)
    by_place (inr le) =
        ap (λ x. get_or (bits_at_node bits new node) k x)
        (sym (store_at scene old bits nodes n k at place ∙ get_or_past (bits_at_node bits old (get_or nodes at 0)) k (base scene.manner bits n k) (let g = old_long in omega arith)))

put_store : (scene : Scene) (old new : List Shape) (bits : VarName → ℕ → Bit) (nodes : List ℕ) (at node n w : ℕ) → IsScene scene → IsArena old → IsArena new → AreNodes scene old nodes → Extends old new → at < length nodes → place_in scene n ≡ Some at
    → width_in scene at ≡ w → node < length new → width_at new node ≡ w → store_of scene new bits (set nodes at node) ≡ with_wire n (bits_at_node bits new node) (store_of scene old bits nodes)
put_store scene old new bits nodes at node n w sc ar br are e l place d here wide = λ x m k. put_bit scene old new bits nodes at node n m k w sc ar br are e l place d here wide (cases_eq m n) x

set_holds : (p : VarName → ℕ → Bool) (shapes : List Shape) (nodes : List ℕ) (at node : ℕ) → IsTrue (each_variable p shapes node) → HoldsIn p shapes nodes → HoldsIn p shapes (set nodes at node)
set_holds p shapes nodes at node h g i l = by_place (cases_eq i at)
  where
    inside_it : i < length nodes
    inside_it = omega (arith, length-set nodes at node)

    by_place : ((i ≡ at) ⊎ (i ≢ at)) → IsTrue (each_variable p shapes (get_or (set nodes at node) i 0))
    by_place (inl e) =
        let is : get_or (set nodes at node) i 0 ≡ node = ap (λ j. get_or (set nodes at node) j 0) e ∙ get_or-set_same nodes at node 0 (let k = inside_it in omega arith) in
        ap (each_variable p shapes) is ∙ h
    by_place (inr ne) = ap (each_variable p shapes) (get_or-set_other nodes at i node 0 ne) ∙ g i inside_it

-- a node is written into a target
pub wrote : (scene : Scene) (old mid new : List Shape) (nodes after : List ℕ) (t : TypedTarget) (picks : List Pick) (at of part node : ℕ) → IsScene scene → IsArena old → IsArena new → AreNodes scene old nodes → Extends old mid → Extends mid new
    → place_in scene t.wire ≡ Some at → at < length nodes → picks ≡ t.picks → of ≡ get_or nodes at 0 → width_in scene at ≡ t.wire_width
    → IsWritten scene old mid nodes picks of part node → after ≡ set nodes at node → Wrote scene old new nodes after t part
wrote scene old mid new nodes after t picks at of part node sc ar br are e f place l same is d h set_is =
    let here : node < length new = let a = h.within in let b = f.longer in omega arith in
    let sized : width_at new node ≡ t.wire_width = width-extends mid new node f h.within ∙ h.width ∙ ap (width_at old) is ∙ are.width at l ∙ d in
    record {
      value = λ bits.
          let read = reads_in scene bits (store_of scene old bits nodes) in
          ap (λ xs. store_of scene new bits xs) set_is
          ∙ put_store scene old new bits nodes at node t.wire t.wire_width sc ar br are (extends_on old mid new e f) l place d here sized
          ∙ ap (λ v. with_wire t.wire v (store_of scene old bits nodes))
          (value-extends (bitwise bits) mid new node f h.within ∙ h.value bits
          ∙ ap (λ xs. picked_put read xs (bits_at_node bits old of) (bits_at_node bits old part)) same
          ∙ ap (λ x. picked_put read t.picks (bits_at_node bits old x) (bits_at_node bits old part)) is
          ∙ ap (λ v. picked_put read t.picks v (bits_at_node bits old part)) (sym (wire_bits scene old bits nodes t.wire at t.wire_width ar are l place d)));
      mentions = λ p a m v.
          let of_holds : IsTrue (each_variable p old of) = ap (each_variable p old) is ∙ v at l in
          let held = variables-extends p mid new node f h.within ∙ h.mentions p (subst (λ xs. Allows scene p (names_picked xs)) (sym same) a) v of_holds m in
          subst (HoldsIn p new) (sym set_is) (set_holds p new nodes at node held (holds_kept scene old new p nodes are (extends_on old mid new e f) v));
    }
