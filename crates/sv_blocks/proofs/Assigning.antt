-- Assignments, target by target.
use Rattle.std.proofs.Common.{◌≡◌, ℕ, zero, suc, ◌+◌, ◌-◌, ◌<◌, ◌≤◌, Bool, List, [], ◌∷◌, ◌++◌, length, take, drop, get_or, refl, sym, ap, ◌∙◌, subst, arith, IsTrue}
use Rattle.std.specs.List.{Contains}
use Rattle.std.proofs.lemmas.List.Elements.{Contains-append_left, Contains-append_right, recursion_from_All}
use Rattle.std.proofs.lemmas.List.{drop_all, take-take, drop-take, take_all, at_drop_more}
use Rattle.fourvec.specs.declared.Bit.{Bit}
use Rattle.fourvec.specs.Bits.{slice_of}
use Rattle.svex_shape.specs.declared.shape.VarName.{VarName}
use Rattle.svex_shape.specs.declared.shape.Shape.{Shape}
use Rattle.svex_shape.specs.Shapes.{width_at}
use Rattle.svex_shape.specs.Values.{each_variable}
use Rattle.svex_arena.specs.Arenas.{IsArena, Extends}
use Rattle.svex_arena.proofs.Steps.{value-extends, width-extends, variables-extends}
use Rattle.driver_resolve.specs.Drivers.{bitwise}
use Rattle.settling.specs.Settling.{Store}
use Rattle.sv_meaning.specs.Layouts.{Read, NamedSignal}
use Rattle.sv_typed.specs.declared.tree.Typed.{Typed}
use Rattle.sv_typed.specs.Typed.{names_of, names_picked, PickIsSound}
use Rattle.sv_targets.specs.declared.targets.TypedTarget.{TypedTarget}
use Rattle.sv_targets.specs.Targets.{width_of_all}
use Rattle.sv_lower.specs.Nodes.{bits_at_node, FromOne}
use Rattle.sv_lower.proofs.Sizing.{length-node}
use Rattle.sv_lower.proofs.Trees.{taken_more}
use Rattle.sv_actions.specs.Doing.{assigned_bits, write_to, write_into, target_names, TargetFits}
use Rattle.sv_actions.proofs.Producing.{wide_by}
use Rattle.sv_stores.specs.declared.scene.Scene.{Scene}
use Rattle.sv_stores.specs.Scenes.{store_of, reads_in, Allows, HoldsIn, AreNodes, IsScene, Yields, Ran}
use Rattle.sv_blocks.specs.Writing.{Wrote, WroteAll, assigns, assign_names}
use Rattle.sv_stores.proofs.Stores.{store_kept, holds_kept}
use Rattle.sv_stores.proofs.Yielding.{allows_left, allows_right}

-- ---- widths

pub width_on : (all : List TypedTarget) (i : ℕ) (t : TypedTarget) → i < length all → t ≡ get_or all i t → width_of_all (drop i all) ≡ t.width + width_of_all (drop (i + 1) all)
unfolding width_of_all
width_on all i t l e = at_drop_more width_of_all all i t l ∙ ap (λ x. x.width + width_of_all (drop (i + 1) all)) (sym e)

width_push : (front : List TypedTarget) (t : TypedTarget) → width_of_all (front ++ t ∷ []) ≡ width_of_all front + t.width
unfolding width_of_all
width_push [] t = omega arith
width_push (x ∷ front) t = let h = width_push front t in omega arith

width_front : (i : ℕ) (all : List TypedTarget) → width_of_all (take i all) ≤ width_of_all all
unfolding width_of_all
width_front zero all = omega arith
width_front (suc i) [] = omega arith
width_front (suc i) (t ∷ all) = let h = width_front i all in omega arith

pub width_taken : (all : List TypedTarget) (i : ℕ) (t : TypedTarget) → i < length all → t ≡ get_or all i t → width_of_all (take (i + 1) all) ≡ width_of_all (take i all) + t.width
width_taken all i t l e = ap width_of_all (taken_more all i t l e) ∙ width_push (take i all) t

pub width_room : (all : List TypedTarget) (i : ℕ) (t : TypedTarget) → i < length all → t ≡ get_or all i t → width_of_all (take i all) + t.width ≤ width_of_all all
width_room all i t l e = let h = width_taken all i t l e in let g = width_front (i + 1) all in omega arith

pub width_zero : (all : List TypedTarget) → width_of_all (take 0 all) ≡ 0
unfolding width_of_all
width_zero all = refl

pub width_all : (all : List TypedTarget) (i : ℕ) → length all ≤ i → width_of_all (take i all) ≡ width_of_all all
width_all all i l = ap width_of_all (take_all i all l)

pub width_none : (all : List TypedTarget) (i : ℕ) → length all ≤ i → width_of_all (drop i all) ≡ 0
unfolding width_of_all
width_none all i l = ap width_of_all (drop_all i all l)

pub some_bits : (t : TypedTarget) → TargetFits t → 1 ≤ t.width
some_bits t h = subst (λ n. 1 ≤ n) h.ends (wide_by t.picks t.wire_width (recursion_from_All PickIsSound t.picks h.picks) h.some)

-- ---- targets, one after another

-- so many targets are written, of these bits
pub record WroteSome (scene : Scene) (old new : List Shape) (before after : List ℕ) (to : List TypedTarget) (i left whole : ℕ) : Type 0 where
  pub value : (bits : VarName → ℕ → Bit)
      → write_into (reads_in scene bits) (drop i to) (take left (bits_at_node bits old whole)) (store_of scene new bits after)
      ≡ write_into (reads_in scene bits) to (bits_at_node bits old whole) (store_of scene old bits before)
  pub mentions : (p : VarName → ℕ → Bool) → Allows scene p (target_names to) → IsTrue (each_variable p old whole) → HoldsIn p old before → HoldsIn p new after

pub wrote_none : (scene : Scene) (old : List Shape) (before : List ℕ) (to : List TypedTarget) (left whole : ℕ) → IsArena old → whole < length old → left ≡ width_at old whole → WroteSome scene old old before before to 0 left whole
wrote_none scene old before to left whole ar l e = record {
  value = λ bits.
      let most : length (bits_at_node bits old whole) ≤ left = let g = length-node bits old whole ar l in omega arith in
      ap (λ v. write_into (reads_in scene bits) to v (store_of scene old bits before)) (take_all left (bits_at_node bits old whole) most);
  mentions = λ p a m h. h;
}

into_more : (look : Store → Read) (to : List TypedTarget) (i left lo : ℕ) (t : TypedTarget) (v : List Bit) (store : Store) → i < length to → t ≡ get_or to i t → left ≡ width_of_all (drop i to) → lo ≡ left - t.width
    → write_into look (drop i to) (take left v) store ≡ write_into look (drop (i + 1) to) (take lo v) (write_to (look store) t (slice_of v lo t.width) store)
unfolding write_into
into_more look to i left lo t v store l e d k =
    let rest : width_of_all (drop (i + 1) to) ≡ lo = let g = width_on to i t l e in omega arith in
    let sum : left ≡ lo + t.width = let g = width_on to i t l e in omega arith in
    at_drop_more (λ xs. write_into look xs (take left v) store) to i t l
    ∙ ap (λ x. write_into look (x ∷ drop (i + 1) to) (take left v) store) (sym e)
    ∙ ap (λ n. write_into look (drop (i + 1) to) (take n (take left v)) (write_to (look store) t (drop n (take left v)) store)) rest
    ∙ ap (λ n. write_into look (drop (i + 1) to) (take lo (take n v)) (write_to (look store) t (drop lo (take n v)) store)) sum
    ∙ ap (λ x. write_into look (drop (i + 1) to) x (write_to (look store) t (drop lo (take (lo + t.width) v)) store)) (take-take lo (lo + t.width) v (omega arith))
    ∙ ap (λ x. write_into look (drop (i + 1) to) (take lo v) (write_to (look store) t x store)) (drop-take lo t.width v)

target_names_at : (to : List TypedTarget) (i : ℕ) (t : TypedTarget) → i < length to → t ≡ get_or to i t → (s : NamedSignal) → Contains (names_picked t.picks) s → Contains (target_names to) s
unfolding target_names
target_names_at [] i t l e s h = absurd (omega arith)
target_names_at (x ∷ more) zero t l e s h = Contains-append_left (names_picked x.picks) (target_names more) s (subst (λ y. Contains (names_picked y.picks) s) e h)
target_names_at (x ∷ more) (suc i) t l e s h = Contains-append_right (names_picked x.picks) (target_names more) s (target_names_at more i t (omega arith) e s h)

pub wrote_more : (scene : Scene) (old mid low new : List Shape) (before nodes after : List ℕ) (to : List TypedTarget) (i left lo whole part : ℕ) (t : TypedTarget) → IsScene scene → i < length to → t ≡ get_or to i t → left ≡ width_of_all (drop i to) → lo ≡ left - t.width
    → whole < length old → AreNodes scene mid nodes → Extends old mid → Extends mid low
    → WroteSome scene old mid before nodes to i left whole → FromOne mid low (λ v. slice_of v lo t.width) whole t.width part → Wrote scene low new nodes after t part → WroteSome scene old new before after to (i + 1) lo whole
wrote_more scene old mid low new before nodes after to i left lo whole part t sc l e d k w are ext grow h s g = record {
  value = λ bits.
      let whole_is : bits_at_node bits mid whole ≡ bits_at_node bits old whole = value-extends (bitwise bits) old mid whole ext w in
      let store_is = store_kept scene mid low bits nodes sc are grow in
      ap (λ st. write_into (reads_in scene bits) (drop (i + 1) to) (take lo (bits_at_node bits old whole)) st)
      (g.value bits
      ∙ ap (λ st. write_to (reads_in scene bits st) t (bits_at_node bits low part) st) store_is
      ∙ ap (λ v. write_to (reads_in scene bits (store_of scene mid bits nodes)) t v (store_of scene mid bits nodes)) (s.value bits ∙ ap (λ v. slice_of v lo t.width) whole_is))
      ∙ sym (into_more (reads_in scene bits) to i left lo t (bits_at_node bits old whole) (store_of scene mid bits nodes) l e d k)
      ∙ h.value bits;
  mentions = λ p a m v.
      g.mentions p (λ n c. a n (target_names_at to i t l e n c)) (s.mentions p (variables-extends p old mid whole ext w ∙ m))
      (holds_kept scene mid low p nodes are grow (h.mentions p a m v));
}

pub wrote_end : (scene : Scene) (old new : List Shape) (before after : List ℕ) (to : List TypedTarget) (i left whole : ℕ) → length to ≤ i → WroteSome scene old new before after to i left whole → WroteAll scene old new before after to whole
unfolding write_into
wrote_end scene old new before after to i left whole l h = record {
  value = λ bits.
      sym (ap (λ xs. write_into (reads_in scene bits) xs (take left (bits_at_node bits old whole)) (store_of scene new bits after)) (drop_all i to l)) ∙ h.value bits;
  mentions = h.mentions;
}

-- ---- an assignment

pub assigned_all : (scene : Scene) (old mid new : List Shape) (before after : List ℕ) (to : List TypedTarget) (v : Typed) (w whole : ℕ) → IsScene scene → AreNodes scene old before → Extends old mid → w ≡ width_of_all to
    → Yields scene old mid before (λ read. assigned_bits v read w) (names_of v) w whole → WroteAll scene mid new before after to whole → Ran scene old new before after (assigns to v) (assign_names to v)
assigned_all scene old mid new before after to v w whole sc are e d h k = record {
  value = λ bits.
      let read = reads_in scene bits (store_of scene old bits before) in
      k.value bits
      ∙ ap (λ st. write_into (reads_in scene bits) to (bits_at_node bits mid whole) st) (store_kept scene old mid bits before sc are e)
      ∙ ap (λ x. write_into (reads_in scene bits) to x (store_of scene old bits before)) (h.value bits ∙ ap (λ n. assigned_bits v read n) d);
  mentions = λ p a m.
      k.mentions p (allows_right scene p (names_of v) (target_names to) a) (h.mentions p (allows_left scene p (names_of v) (target_names to) a) m) (holds_kept scene old mid p before are e m);
}

width_rest : (i : ℕ) (all : List TypedTarget) → width_of_all (drop i all) ≤ width_of_all all
unfolding width_of_all
width_rest zero all = omega arith
width_rest (suc i) [] = omega arith
width_rest (suc i) (t ∷ all) = let h = width_rest i all in omega arith

pub part_room : (old mid : List Shape) (all : List TypedTarget) (i left whole : ℕ) (t : TypedTarget) → Extends old mid → whole < length old → width_at old whole ≡ width_of_all all → i < length all → t ≡ get_or all i t → left ≡ width_of_all (drop i all)
    → left - t.width + t.width ≤ width_at mid whole
part_room old mid all i left whole t e l w m is d =
    let a = width-extends old mid whole e l in let b = width_rest i all in let c = width_on all i t m is in omega arith

pub left_on : (all : List TypedTarget) (i left : ℕ) (t : TypedTarget) → i < length all → t ≡ get_or all i t → left ≡ width_of_all (drop i all) → (t.width ≤ left) × (left - t.width ≡ width_of_all (drop (i + 1) all))
left_on all i left t l is d = let c = width_on all i t l is in (omega arith, omega arith)
