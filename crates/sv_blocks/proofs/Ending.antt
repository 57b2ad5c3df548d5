-- What a block contributes at its end.
use Rattle.std.proofs.Common.{◌≡◌, ℕ, Bool, true, List, Result, Ok, Err, refl, sym, ap, ◌∙◌, subst}
use Rattle.std.specs.Prelude.{IfOk}
use Rattle.std.specs.List.{Contains}
use Rattle.fourvec.specs.declared.Bit.{Bit}
use Rattle.lhs_alias.specs.declared.segs.WireBit.{WireBit}
use Rattle.svex_shape.specs.declared.shape.VarName.{VarName}
use Rattle.svex_shape.specs.declared.shape.Shape.{Shape}
use Rattle.svex_arena.specs.Arenas.{Extends}
use Rattle.svex_arena.proofs.Keeping.{extends_on}
use Rattle.driver_resolve.specs.declared.driver.Driver.{Driver}
use Rattle.driver_resolve.specs.Drivers.{bits_in}
use Rattle.settling.specs.Settling.{Store}
use Rattle.sv_meaning.specs.Deeds.{merged}
use Rattle.sv_meaning.specs.declared.events.WireEdge.{WireEdge}
use Rattle.sv_meaning.specs.Blocks.{trigger}
use Rattle.sv_actions.specs.declared.action.Action.{Action}
use Rattle.sv_actions.specs.Doing.{run_all, names_all}
use Rattle.sv_stores.specs.declared.scene.Manner.{Manner}
use Rattle.sv_stores.specs.declared.scene.Manner.TheVariants.{Comb, Latch, HeldLatch, Clocked}
use Rattle.sv_stores.specs.declared.scene.Scene.{Scene}
use Rattle.sv_stores.specs.Scenes.{sees_nodes, base, store_of, reads_in, HoldsIn, AreNodes, Starts, IsScene, Ran}
use Rattle.sv_stores.specs.Starting.{before, present, EdgeHolds, Triggers}
use Rattle.sv_blocks.specs.Sides.{Merges}
use Rattle.sv_blocks.specs.Driving.{given, DriveAll}
use Rattle.sv_blocks.specs.Ending.{end_store, EventHolds, Ends, Runs, Finishes}
use Rattle.sv_stores.proofs.Stores.{store_kept, holds_kept}

-- a block that is not clocked
ends_by : (m : Manner) (bits : VarName → ℕ → Bit) (left start : Store) → sees_nodes m ≡ true → end_store m bits left start ≡ left
ends_by Comb bits left start e = refl
ends_by Latch bits left start e = refl
ends_by HeldLatch bits left start e = refl
ends_by (Clocked edges) bits left start e = cc

pub ends_left : (scene : Scene) (old : List Shape) (start nodes : List ℕ) → sees_nodes scene.manner ≡ true → AreNodes scene old nodes → Ends scene old old start nodes nodes
ends_left scene old start nodes e are =
    record { nodes_are = are; value = λ bits. sym (ends_by scene.manner bits (store_of scene old bits nodes) (store_of scene old bits start) e); mentions = λ p t h g. g }

event_holds : (m : Manner) (edges : List WireEdge) (p : VarName → ℕ → Bool) → m ≡ Clocked edges → EventHolds m p → (x : WireEdge) → Contains edges x → EdgeHolds p x
event_holds m edges p e h = subst (λ o. EventHolds o p) e h

pub ends_clocked : (scene : Scene) (old one new : List Shape) (edges : List WireEdge) (start xs nodes ys ends : List ℕ) (event : ℕ) → scene.manner ≡ Clocked edges → IsScene scene → AreNodes scene old start → AreNodes scene old nodes → Extends old one
    → xs ≡ nodes → ys ≡ start → Triggers one edges event → Merges scene one new event xs ys ends → Ends scene old new start nodes ends
ends_clocked scene old one new edges start xs nodes ys ends event e sc rs rn f dx dy t g =
    let Q : List ℕ → Type 0 = λ zs. Merges scene one new event zs start ends in
    let R : List ℕ → Type 0 = λ zs. Merges scene one new event xs zs ends in
    let m : Merges scene one new event nodes start ends = subst Q dx (subst R dy g) in
    record {
      nodes_are = m.nodes_are;
      value = λ bits.
          m.value bits
          ∙ ap (λ b. merged b (store_of scene one bits nodes) (store_of scene one bits start)) (t.value bits)
          ∙ ap (λ s. merged (trigger edges (before bits) (present bits)) s (store_of scene one bits start)) (store_kept scene old one bits nodes sc rn f)
          ∙ ap (λ s. merged (trigger edges (before bits) (present bits)) (store_of scene old bits nodes) s) (store_kept scene old one bits start sc rs f)
          ∙ sym (ap (λ o. end_store o bits (store_of scene old bits nodes) (store_of scene old bits start)) e);
      mentions = λ p h a b. m.mentions p (t.mentions p (event_holds scene.manner edges p e h)) (holds_kept scene old one p nodes rn f b) (holds_kept scene old one p start rs f a);
    }

pub runs_all : (scene : Scene) (one two three new : List Shape) (all : List Action) (start first left ends : List ℕ) → IsScene scene → Starts scene one start → first ≡ start → Extends one two → Extends two three
    → Ran scene two three first left (run_all all) (names_all all) → Ends scene three new start left ends → Runs scene new all ends
runs_all scene one two three new all start first left ends sc s same f g r h = record {
  nodes_are = h.nodes_are;
  value = λ bits.
      let start_is : (shapes : List Shape) → Extends one shapes → store_of scene shapes bits start ≡ base scene.manner bits = λ shapes x. store_kept scene one shapes bits start sc s.nodes_are x ∙ s.value bits in
      h.value bits
      ∙ ap (λ t. end_store scene.manner bits t (store_of scene three bits start))
      (r.value bits ∙ ap (λ t. run_all all (reads_in scene bits) t) (ap (λ xs. store_of scene two bits xs) same ∙ start_is two f))
      ∙ ap (λ t. end_store scene.manner bits (run_all all (reads_in scene bits) (base scene.manner bits)) t) (start_is three (extends_on one two three f g));
  mentions = λ p starts a b.
      let begun : HoldsIn p one start = s.mentions p starts in
      h.mentions p a (holds_kept scene one three p start s.nodes_are (extends_on one two three f g) begun)
      (r.mentions p b (subst (HoldsIn p two) (sym same) (holds_kept scene one two p start s.nodes_are f begun)));
}

pub ended_ok : {E : Type 0} (r : Result (List ℕ) E) (scene : Scene) (one two three new : List Shape) (all : List Action) (start seen first left : List ℕ) → IsScene scene → Starts scene one start → first ≡ start
    → Extends one two → Extends two three → Ran scene two three first left (run_all all) (names_all all) → seen ≡ start → IfOk r (λ ends. Ends scene three new seen left ends) → IfOk r (λ ends. Runs scene new all ends)
ended_ok (Ok ends) scene one two three new all start seen first left sc s same f g r is h =
    runs_all scene one two three new all start first left ends sc s same f g r (let P : List ℕ → Type 0 = λ xs. Ends scene three new xs left ends in subst P is h)
ended_ok (Err x) scene one two three new all start seen first left sc s same f g r is h = tt

pub finishes : (scene : Scene) (mid new : List Shape) (all : List Action) (bits : List WireBit) (nodes xs : List ℕ) (drivers : List Driver) → xs ≡ nodes → Runs scene mid all nodes → DriveAll scene mid new xs bits drivers → Finishes scene new all bits drivers
finishes scene mid new all bits nodes xs drivers e h g =
    let P : List ℕ → Type 0 = λ ys. DriveAll scene mid new ys bits drivers in
    let k : DriveAll scene mid new nodes bits drivers = subst P e g in
    record {
      gives = λ p. k.gives p ∙ ap (λ s. given s bits) (h.value (bits_in p));
      lies = k.lies;
      placed = k.placed;
      mentions = λ p starts a b. k.mentions p (h.mentions p starts a b);
    }
