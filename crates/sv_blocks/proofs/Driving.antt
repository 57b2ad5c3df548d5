-- Drivers of runs of bits.
use Rattle.std.proofs.Common.{◌≡◌, ℕ, zero, suc, ◌+◌, ◌<◌, ◌≤◌, Bool, List, [], ◌∷◌, ◌++◌, length, take, drop, map, get_or, Some, refl, sym, ap, ◌∙◌, subst, arith, IsTrue, append_assoc, length-take, length-drop, get_or-take, get_or-drop}
use Rattle.std.specs.List.{All, range_with_len, zip}
use Rattle.std.proofs.lemmas.List.{append-nil, take_all, take_more, map-append, get_or_default}
use Rattle.std.proofs.lemmas.List.Elements.{All-nil, All-cons, All-head, All-tail, All-push, All-weaker}
use Rattle.std.proofs.Math.Seq.{take-add}
use Rattle.std.proofs.lemmas.List.FromFn.{map-range_with_len_more}
use Rattle.fourvec.specs.declared.Bit.{Bit}
use Rattle.fourvec.specs.Bits.{slice_of}
use Rattle.lhs_alias.specs.declared.segs.WireBit.{WireBit}
use Rattle.lhs_alias.specs.declared.segs.Seg.{Seg}
use Rattle.lhs_alias.specs.Segs.{bit, seg_bits, lhs_bits}
use Rattle.lhs_alias.specs.Lies.{LiesIn, LieIn}
use Rattle.settling.specs.Settling.{Store, value_at}
use Rattle.svex_shape.specs.declared.shape.VarName.{VarName}
use Rattle.svex_shape.specs.declared.shape.Shape.{Shape}
use Rattle.svex_shape.specs.Values.{each_variable}
use Rattle.svex_arena.specs.Arenas.{IsArena, Extends}
use Rattle.svex_arena.proofs.Steps.{value-extends, width-extends, variables-extends}
use Rattle.driver_resolve.specs.declared.driver.Driver.{Driver}
use Rattle.driver_resolve.specs.Drivers.{bitwise, Phase, bits_in, driver_gives, drivers_give}
use Rattle.sv_lower.specs.Nodes.{bits_at_node, FromOne}
use Rattle.sv_lower.proofs.Sizing.{length-node}
use Rattle.sv_stores.specs.declared.scene.Scene.{Scene}
use Rattle.sv_stores.specs.Scenes.{place_in, width_in, base, store_of, AreNodes, IsScene}
use Rattle.sv_blocks.specs.Driving.{run_seg, given, IsPlaced, Drives, DriveAll}
use Rattle.sv_stores.proofs.Stores.{store_at, store_kept, holds_kept}

-- ---- runs of bits

bit_is : (b : WireBit) (n k : ℕ) → b.wire ≡ n → b.at ≡ k → b ≡ bit n k
bit_is b n k e d = λ i. record { wire = e i; at = d i }

pub run_first : (bits : List WireBit) (first : WireBit) → 0 < length bits → first ≡ get_or bits 0 first → take 1 bits ≡ seg_bits (run_seg first 1)
unfolding seg_bits
run_first [] first l e = absurd (omega arith)
run_first (b ∷ more) first l e = ap (λ x. x ∷ []) (sym e)

pub run_more : (bits : List WireBit) (first b : WireBit) (count : ℕ) → count < length bits → b ≡ get_or bits count b → b.wire ≡ first.wire → b.at ≡ first.at + count → take count bits ≡ seg_bits (run_seg first count) → take (count + 1) bits ≡ seg_bits (run_seg first (count + 1))
unfolding seg_bits
run_more bits first b count l e w a h =
    take_more bits count b l ∙ ap (λ x. take count bits ++ x ∷ []) (sym e) ∙ ap (λ x. take count bits ++ x ∷ []) (bit_is b first.wire (first.at + count) w a)
    ∙ ap (λ xs. xs ++ bit first.wire (first.at + count) ∷ []) h
    ∙ sym (map-range_with_len_more (bit first.wire) first.at count (first.at + count) refl)

-- ---- one driver

seg_long : (n k w : ℕ) → length (map (bit n) (range_with_len k w)) ≡ w
seg_long n k zero = refl
seg_long n k (suc w) = ap suc (seg_long n (k + 1) w)

zip_is : (end : Store) (n k w : ℕ) (v : List Bit) → length v ≡ w → ((i : ℕ) (d : Bit) → i < w → get_or v i d ≡ end n (k + i)) → zip (map (bit n) (range_with_len k w)) v ≡ given end (map (bit n) (range_with_len k w))
zip_is end n k zero v e h = refl
zip_is end n k (suc w) [] e h = absurd (omega arith)
zip_is end n k (suc w) (x ∷ v) e h =
    let here : k + 0 ≡ k = omega arith in
    ap (λ y. (bit n k, y) ∷ zip (map (bit n) (range_with_len (k + 1) w)) v) (h 0 x (omega arith) ∙ ap (end n) here)
    ∙ ap (λ all. (bit n k, end n k) ∷ all) (zip_is end n (k + 1) w v (omega arith) (λ i d l. h (suc i) d (omega arith) ∙ (let next : k + suc i ≡ k + 1 + i = omega arith in ap (end n) next)))

lhs_one : (s : Seg) → lhs_bits (s ∷ []) ≡ seg_bits s
lhs_one s = refl

pub drives : (scene : Scene) (old new : List Shape) (nodes : List ℕ) (first : WireBit) (count place value : ℕ) (target : List Seg) → IsScene scene → IsArena old → AreNodes scene old nodes → place_in scene first.wire ≡ Some place → 1 ≤ count → first.at + count ≤ width_in scene place
    → FromOne old new (λ v. slice_of v first.at count) (get_or nodes place 0) count value → target ≡ run_seg first count ∷ [] → Drives scene old new nodes (seg_bits (run_seg first count)) (record { target = target; value = value })
unfolding seg_bits
drives scene old new nodes first count place value target sc ar are e some within h t = record {
  gives = λ p.
      ap (λ s. zip (lhs_bits s) (bits_at_node (bits_in p) new value)) t
      ∙ zip_is (store_of scene old (bits_in p) nodes) first.wire first.at count (bits_at_node (bits_in p) new value) (long (bits_in p)) (bit_here (bits_in p));
  lies = λ widths fits. subst (LieIn widths) (sym t) (All-cons (LiesIn widths) _ [] (lies_in widths (fits place inside)) (All-nil (LiesIn widths)));
  placed = record { there = h.within; wide = h.width ∙ sym (ap (λ s. length (lhs_bits s)) t ∙ seg_long first.wire first.at count) };
  mentions = λ p a. h.mentions p (a place inside_nodes);
}
  where
    inside : place < length scene.wires
    inside = (sc.back first.wire place e).0

    inside_nodes : place < length nodes
    inside_nodes = let a = inside in let b = are.long in omega arith

    own : get_or scene.wires place 0 ≡ first.wire
    own = (sc.back first.wire place e).1

    node_long : (bits : VarName → ℕ → Bit) → length (bits_at_node bits old (get_or nodes place 0)) ≡ width_in scene place
    node_long bits = length-node bits old (get_or nodes place 0) ar (are.within place inside_nodes) ∙ are.width place inside_nodes

    long : (bits : VarName → ℕ → Bit) → length (bits_at_node bits new value) ≡ count
    long bits = ap length (h.value bits) ∙ (let a = node_long bits in omega (arith, length-take count (drop first.at (bits_at_node bits old (get_or nodes place 0))), length-drop first.at (bits_at_node bits old (get_or nodes place 0))))

    bit_here : (bits : VarName → ℕ → Bit) (i : ℕ) (d : Bit) → i < count → get_or (bits_at_node bits new value) i d ≡ store_of scene old bits nodes first.wire (first.at + i)
    bit_here bits i d l =
        ap (λ v. get_or v i d) (h.value bits) ∙ get_or-take count (drop first.at (bits_at_node bits old (get_or nodes place 0))) i d l ∙ get_or-drop first.at (bits_at_node bits old (get_or nodes place 0)) i d
        ∙ get_or_default (bits_at_node bits old (get_or nodes place 0)) (first.at + i) d (base scene.manner bits first.wire (first.at + i)) (let a = node_long bits in omega arith)
        ∙ sym (store_at scene old bits nodes first.wire (first.at + i) place e)

    lies_in : (widths : List ℕ) → (get_or scene.wires place 0 < length widths) × (get_or widths (get_or scene.wires place 0) 0 ≡ width_in scene place) → LiesIn widths (run_seg first count)
    lies_in widths f = record {
      whole = record { some = some; ends = let a = sc.most place (let b = sc.long in let g = inside in omega arith) in omega arith };
      wire = subst (λ n. n < length widths) own f.0;
      ends = let a : get_or widths first.wire 0 ≡ width_in scene place = subst (λ n. get_or widths n 0 ≡ width_in scene place) own f.1 in omega arith;
    }

-- ---- drivers, one after another

pub gives_push : (shapes : List Shape) (all : List Driver) (d : Driver) (p : Phase) → drivers_give shapes (all ++ d ∷ []) p ≡ drivers_give shapes all p ++ driver_gives shapes p d
unfolding drivers_give
gives_push shapes [] d p = append-nil (driver_gives shapes p d)
gives_push shapes (x ∷ all) d p = ap (λ g. driver_gives shapes p x ++ g) (gives_push shapes all d p) ∙ sym (append_assoc (driver_gives shapes p x) (drivers_give shapes all p) (driver_gives shapes p d))

pub gives_kept : (old new : List Shape) (all : List Driver) (p : Phase) → Extends old new → All (IsPlaced old) all → drivers_give new all p ≡ drivers_give old all p
unfolding drivers_give
gives_kept old new [] p e h = refl
gives_kept old new (x ∷ all) p e h =
    let there = (All-head (IsPlaced old) x all h).there in
    ap (λ v. zip (lhs_bits x.target) v ++ drivers_give new all p) (value-extends (bitwise (bits_in p)) old new x.value e there)
    ∙ ap (λ g. driver_gives old p x ++ g) (gives_kept old new all p e (All-tail (IsPlaced old) x all h))

pub placed_kept : (old new : List Shape) → Extends old new → (d : Driver) → IsPlaced old d → IsPlaced new d
placed_kept old new e d h = record { there = let a = h.there in let b = e.longer in omega arith; wide = width-extends old new d.value e h.there ∙ h.wide }

pub mentions_kept : (p : VarName → ℕ → Bool) (old new : List Shape) → Extends old new → (all : List Driver) → All (IsPlaced old) all → All (λ d. IsTrue (each_variable p old d.value)) all → All (λ d. IsTrue (each_variable p new d.value)) all
mentions_kept p old new e [] h k = All-nil (λ d. IsTrue (each_variable p new d.value))
mentions_kept p old new e (x ∷ all) h k =
    All-cons (λ d. IsTrue (each_variable p new d.value)) x all
    (variables-extends p old new x.value e (All-head (IsPlaced old) x all h).there ∙ All-head (λ d. IsTrue (each_variable p old d.value)) x all k)
    (mentions_kept p old new e all (All-tail (IsPlaced old) x all h) (All-tail (λ d. IsTrue (each_variable p old d.value)) x all k))

given_append : (end : Store) (a b : List WireBit) → given end (a ++ b) ≡ given end a ++ given end b
given_append end a b = map-append (λ x. (x, value_at end x)) a b

pub drive_none : (scene : Scene) (old : List Shape) (nodes : List ℕ) (bits : List WireBit) → DriveAll scene old old nodes (take 0 bits) []
unfolding drivers_give
drive_none scene old nodes bits = record {
  gives = λ p. refl;
  lies = λ widths f. All-nil (λ d. LieIn widths d.target);
  placed = All-nil (IsPlaced old);
  mentions = λ p a. All-nil (λ d. IsTrue (each_variable p old d.value));
}

pub drive_more : (scene : Scene) (old mid new : List Shape) (nodes : List ℕ) (bits : List WireBit) (at count next : ℕ) (first : WireBit) (all : List Driver) (d : Driver) → IsScene scene → AreNodes scene old nodes → Extends old mid → Extends mid new
    → take count (drop at bits) ≡ seg_bits (run_seg first count) → next ≡ at + count → at + count ≤ length bits
    → DriveAll scene old mid nodes (take at bits) all → Drives scene mid new nodes (seg_bits (run_seg first count)) d → DriveAll scene old new nodes (take next bits) (all ++ d ∷ [])
drive_more scene old mid new nodes bits at count next first all d sc are e f is step within h k = record {
  gives = λ p.
      let end = store_of scene old (bits_in p) nodes in
      gives_push new all d p
      ∙ ap (λ g. g ++ driver_gives new p d) (gives_kept mid new all p f h.placed ∙ h.gives p)
      ∙ ap (λ g. given end (take at bits) ++ g) (k.gives p ∙ ap (λ st. given st (seg_bits (run_seg first count))) (store_kept scene old mid (bits_in p) nodes sc are e) ∙ ap (given end) (sym is))
      ∙ sym (given_append end (take at bits) (take count (drop at bits)))
      ∙ ap (given end) (sym (take-add at count bits) ∙ ap (λ n. take n bits) (sym step));
  lies = λ widths g. All-push (λ x. LieIn widths x.target) all d (h.lies widths g) (k.lies widths g);
  placed = All-push (IsPlaced new) all d (All-weaker (IsPlaced mid) (IsPlaced new) (placed_kept mid new f) all h.placed) k.placed;
  mentions = λ p a.
      All-push (λ x. IsTrue (each_variable p new x.value)) all d (mentions_kept p mid new f all h.placed (h.mentions p a)) (k.mentions p (holds_kept scene old mid p nodes are e a));
}

pub drive_end : (scene : Scene) (old new : List Shape) (nodes : List ℕ) (bits : List WireBit) (at : ℕ) (all : List Driver) → length bits ≤ at → DriveAll scene old new nodes (take at bits) all → DriveAll scene old new nodes bits all
drive_end scene old new nodes bits at all l h = let P : List WireBit → Type 0 = λ xs. DriveAll scene old new nodes xs all in subst P (take_all at bits l) h
