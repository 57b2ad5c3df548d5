-- What stores and names read at one bit, and that neither changes as the arena grows.
use Rattle.std.proofs.Common.{◌≡◌, ◌≢◌, ℕ, ◌<◌, Bool, true, false, cond, List, length, set, get_or, Option, Some, None, refl, sym, ap, ◌∙◌, ◌⊎◌, inl, inr, subst, arith, length-set, get_or-set_same, get_or-set_other}
use Rattle.std.proofs.lemmas.List.{get_or_read}
use Rattle.std.proofs.lemmas.Bool.{cases_eq}
use Rattle.fourvec.specs.declared.Bit.{Bit}
use Rattle.fourvec.specs.declared.Bit.TheVariants.{Unknown}
use Rattle.svex_shape.specs.declared.shape.VarName.{VarName}
use Rattle.svex_shape.specs.declared.shape.VarName.TheVariants.{Now}
use Rattle.svex_shape.specs.declared.shape.Shape.{Shape}
use Rattle.svex_shape.specs.Shapes.{width_at}
use Rattle.svex_arena.specs.Substs.{given_or}
use Rattle.svex_arena.specs.Arenas.{Extends}
use Rattle.svex_arena.proofs.Steps.{value-extends, width-extends, variables-extends}
use Rattle.driver_resolve.specs.Drivers.{bitwise}
use Rattle.settling.specs.Settling.{Store}
use Rattle.sv_meaning.specs.Layouts.{of_wires}
use Rattle.sv_lower.specs.Nodes.{bits_at_node}
use Rattle.sv_stores.specs.declared.scene.Manner.{Manner}
use Rattle.sv_stores.specs.declared.scene.Manner.TheVariants.{Comb, Latch, HeldLatch, Clocked}
use Rattle.sv_stores.specs.declared.scene.Scene.{Scene}
use Rattle.sv_stores.specs.declared.scene.State.{State}
use Rattle.sv_stores.specs.Scenes.{place_in, width_in, mark_at, is_written, sees_store, sees_nodes, base, store_of, own_bit, wire_bit, reads_in, HoldsIn, Shows, AreNodes, AreSeen, StartsAt, Starts, SeenBy, IsScene, IsState}

-- ---- one bit of a store

pub store_at : (scene : Scene) (shapes : List Shape) (bits : VarName → ℕ → Bit) (nodes : List ℕ) (n k i : ℕ) → place_in scene n ≡ Some i
    → store_of scene shapes bits nodes n k ≡ get_or (bits_at_node bits shapes (get_or nodes i 0)) k (base scene.manner bits n k)
unfolding store_of
store_at scene shapes bits nodes n k i e =
    ap (given_or (λ j. get_or (bits_at_node bits shapes (get_or nodes j 0)) k (base scene.manner bits n k)) (base scene.manner bits n k)) e

pub store_none : (scene : Scene) (shapes : List Shape) (bits : VarName → ℕ → Bit) (nodes : List ℕ) (n k : ℕ) → place_in scene n ≡ None
    → store_of scene shapes bits nodes n k ≡ base scene.manner bits n k
unfolding store_of
store_none scene shapes bits nodes n k e =
    ap (given_or (λ j. get_or (bits_at_node bits shapes (get_or nodes j 0)) k (base scene.manner bits n k)) (base scene.manner bits n k)) e

-- ---- one bit of a name

pub written_at : (scene : Scene) (n k i : ℕ) → place_in scene n ≡ Some i → is_written scene n k ≡ mark_at scene.marks i k
written_at scene n k i e = ap (given_or (λ j. mark_at scene.marks j k) false) e

pub written_none : (scene : Scene) (n k : ℕ) → place_in scene n ≡ None → is_written scene n k ≡ false
written_none scene n k e = ap (given_or (λ j. mark_at scene.marks j k) false) e

wire_sees : (m : Manner) (written : Bool) (bits : VarName → ℕ → Bit) (store : Store) (n k : ℕ) → sees_nodes m ≡ true
    → wire_bit m written bits store n k ≡ cond written (own_bit m bits store n k) (bits (Now n) k)
wire_sees Comb written bits store n k e = refl
wire_sees Latch written bits store n k e = refl
wire_sees HeldLatch written bits store n k e = refl
wire_sees (Clocked edges) written bits store n k e = cc

pub reads_own : (scene : Scene) (bits : VarName → ℕ → Bit) (store : Store) (n k : ℕ) → sees_nodes scene.manner ≡ true
    → reads_in scene bits store of_wires n k ≡ cond (is_written scene n k) (own_bit scene.manner bits store n k) (bits (Now n) k)
unfolding reads_in
reads_own scene bits store n k e = wire_sees scene.manner (is_written scene n k) bits store n k e

-- ---- as the arena grows

bits_kept : (old new : List Shape) (bits : VarName → ℕ → Bit) (k : ℕ) → Extends old new → k < length old → bits_at_node bits new k ≡ bits_at_node bits old k
bits_kept old new bits k e l = value-extends (bitwise bits) old new k e l

given_same : (f g : ℕ → Bit) (a : Bit) (o : Option ℕ) → ((k : ℕ) → o ≡ Some k → f k ≡ g k) → given_or f a o ≡ given_or g a o
given_same f g a None h = refl
given_same f g a (Some k) h = h k refl

pub inside : (scene : Scene) (shapes : List Shape) (nodes : List ℕ) (n i : ℕ) → IsScene scene → AreNodes scene shapes nodes → place_in scene n ≡ Some i → i < length nodes
inside scene shapes nodes n i s a e = let b = (s.back n i e).0 in let l = a.long in omega arith

pub store_kept_at : (scene : Scene) (old new : List Shape) (bits : VarName → ℕ → Bit) (nodes : List ℕ) → IsScene scene → AreNodes scene old nodes → Extends old new
    → (n k : ℕ) → store_of scene new bits nodes n k ≡ store_of scene old bits nodes n k
unfolding store_of
store_kept_at scene old new bits nodes s a e n k =
    given_same _ _ (base scene.manner bits n k) (place_in scene n)
    (λ i h. ap (λ v. get_or v k (base scene.manner bits n k)) (bits_kept old new bits (get_or nodes i 0) e (a.within i (inside scene old nodes n i s a h))))

pub store_kept : (scene : Scene) (old new : List Shape) (bits : VarName → ℕ → Bit) (nodes : List ℕ) → IsScene scene → AreNodes scene old nodes → Extends old new
    → store_of scene new bits nodes ≡ store_of scene old bits nodes
store_kept scene old new bits nodes s a e = λ x n k. store_kept_at scene old new bits nodes s a e n k x

pub holds_kept : (scene : Scene) (old new : List Shape) (p : VarName → ℕ → Bool) (nodes : List ℕ) → AreNodes scene old nodes → Extends old new → HoldsIn p old nodes → HoldsIn p new nodes
holds_kept scene old new p nodes a e h = λ i l. variables-extends p old new (get_or nodes i 0) e (a.within i l) ∙ h i l

pub nodes_kept : (scene : Scene) (old new : List Shape) (nodes : List ℕ) → AreNodes scene old nodes → Extends old new → AreNodes scene new nodes
nodes_kept scene old new nodes a e = record {
  long = a.long;
  within = λ i l. let b = a.within i l in let g = e.longer in omega arith;
  width = λ i l. width-extends old new (get_or nodes i 0) e (a.within i l) ∙ a.width i l;
}

pub shows_kept : (scene : Scene) (old new : List Shape) (i node seen : ℕ) → Extends old new → node < length old → Shows scene old i node seen → Shows scene new i node seen
shows_kept scene old new i node seen e l h = record {
  within = let b = h.within in let g = e.longer in omega arith;
  width = width-extends old new seen e h.within ∙ h.width;
  value = λ bits k m.
      ap (λ v. get_or v k Unknown) (bits_kept old new bits seen e h.within) ∙ h.value bits k m
      ∙ sym (ap (λ v. cond (mark_at scene.marks i k) (get_or v k Unknown) (bits (Now (get_or scene.wires i 0)) k)) (bits_kept old new bits node e l));
  mentions = λ p m v. variables-extends p old new seen e h.within ∙ h.mentions p m (sym (variables-extends p old new node e l) ∙ v);
}

pub are_seen_kept : (scene : Scene) (old new : List Shape) (nodes seen : List ℕ) → AreNodes scene old nodes → Extends old new → AreSeen scene old nodes seen → AreSeen scene new nodes seen
are_seen_kept scene old new nodes seen a e h = record {
  long = h.long;
  shows = λ i l. shows_kept scene old new i (get_or nodes i 0) (get_or seen i 0) e (a.within i (let b = h.long in let c = a.long in omega arith)) (h.shows i l);
}

pub starts_kept : (scene : Scene) (old new : List Shape) (i n : ℕ) → Extends old new → StartsAt scene old i n → StartsAt scene new i n
starts_kept scene old new i n e h = record {
  within = let a = h.within in let b = e.longer in omega arith;
  width = width-extends old new n e h.within ∙ h.width;
  value = λ bits k. ap (λ v. get_or v k (base scene.manner bits (get_or scene.wires i 0) k)) (bits_kept old new bits n e h.within) ∙ h.value bits k;
  mentions = λ p t. variables-extends p old new n e h.within ∙ h.mentions p t;
}

seen_kept_by : (m : Manner) (scene : Scene) (old new : List Shape) (nodes seen : List ℕ) → AreNodes scene old nodes → Extends old new → SeenBy m scene old nodes seen → SeenBy m scene new nodes seen
seen_kept_by Comb scene old new nodes seen a e h = are_seen_kept scene old new nodes seen a e h
seen_kept_by Latch scene old new nodes seen a e h = are_seen_kept scene old new nodes seen a e h
seen_kept_by HeldLatch scene old new nodes seen a e h = record {
  start = h.start;
  start_are = nodes_kept scene old new h.start h.start_are e;
  at = λ i l. starts_kept scene old new i (get_or h.start i 0) e (h.at i l);
  seen_are = are_seen_kept scene old new h.start seen h.start_are e h.seen_are;
}
seen_kept_by (Clocked edges) scene old new nodes seen a e h = tt

pub state_kept : (scene : Scene) (old new : List Shape) (state : State) → Extends old new → IsState scene old state → IsState scene new state
state_kept scene old new state e h = record {
  nodes = nodes_kept scene old new state.nodes h.nodes e;
  seen = seen_kept_by scene.manner scene old new state.nodes state.seen h.nodes e h.seen;
}

-- ---- states that are put together

pub node_width : (scene : Scene) (old mid : List Shape) (nodes : List ℕ) (at node : ℕ) → AreNodes scene old nodes → Extends old mid → at < length nodes → node ≡ get_or nodes at node → width_at mid node ≡ width_in scene at
node_width scene old mid nodes at node a e l is =
    let same : node ≡ get_or nodes at 0 = get_or_read nodes at node l is 0 in
    ap (width_at mid) same ∙ width-extends old mid (get_or nodes at 0) e (a.within at l) ∙ a.width at l

pub state_made : (scene : Scene) (old new : List Shape) (nodes seen shown : List ℕ) → AreNodes scene old nodes → Extends old new → shown ≡ nodes → SeenBy scene.manner scene new shown seen → IsState scene new (record { nodes = nodes; seen = seen })
state_made scene old new nodes seen shown a e is h = record { nodes = nodes_kept scene old new nodes a e; seen = subst (λ xs. SeenBy scene.manner scene new xs seen) is h }

nodes_put : (scene : Scene) (old new : List Shape) (nodes : List ℕ) (at node : ℕ) → AreNodes scene old nodes → Extends old new → at < length nodes → node < length old → width_at old node ≡ width_in scene at → AreNodes scene new (set nodes at node)
nodes_put scene old new nodes at node a e l here wide = record {
  long = length-set nodes at node ∙ a.long;
  within = λ i m. by_within i (inside_it i m) (cases_eq i at);
  width = λ i m. by_width i (inside_it i m) (cases_eq i at);
}
  where
    inside_it : (i : ℕ) → i < length (set nodes at node) → i < length nodes
    inside_it i m = omega (arith, length-set nodes at node)

    is_here : (i : ℕ) → i ≡ at → get_or (set nodes at node) i 0 ≡ node
    is_here i e = ap (λ j. get_or (set nodes at node) j 0) e ∙ get_or-set_same nodes at node 0 l

    by_within : (i : ℕ) → i < length nodes → ((i ≡ at) ⊎ (i ≢ at)) → get_or (set nodes at node) i 0 < length new
    by_within i m (inl s) = let g = is_here i s in let b = e.longer in omega arith
    by_within i m (inr n) = let g = get_or-set_other nodes at i node 0 n in let c = a.within i m in let b = e.longer in omega arith

    by_width : (i : ℕ) → i < length nodes → ((i ≡ at) ⊎ (i ≢ at)) → width_at new (get_or (set nodes at node) i 0) ≡ width_in scene i
    by_width i m (inl s) = ap (width_at new) (is_here i s) ∙ width-extends old new node e here ∙ wide ∙ sym (ap (width_in scene) s)
    by_width i m (inr n) = ap (width_at new) (get_or-set_other nodes at i node 0 n) ∙ width-extends old new (get_or nodes i 0) e (a.within i m) ∙ a.width i m

-- where names do not see the store, other nodes change nothing of what they see
pub seen_other : (m : Manner) (scene : Scene) (shapes : List Shape) (nodes others seen : List ℕ) → sees_store m ≡ false → SeenBy m scene shapes nodes seen → SeenBy m scene shapes others seen
seen_other Comb scene shapes nodes others seen e h = cc
seen_other Latch scene shapes nodes others seen e h = cc
seen_other HeldLatch scene shapes nodes others seen e h = h
seen_other (Clocked edges) scene shapes nodes others seen e h = tt

-- and where they see it, what they see of the nodes is all
pub seen_as : (m : Manner) (scene : Scene) (shapes : List Shape) (nodes seen : List ℕ) → sees_store m ≡ true → AreSeen scene shapes nodes seen → SeenBy m scene shapes nodes seen
seen_as Comb scene shapes nodes seen e h = h
seen_as Latch scene shapes nodes seen e h = h
seen_as HeldLatch scene shapes nodes seen e h = cc
seen_as (Clocked edges) scene shapes nodes seen e h = cc

seen_store : (m : Manner) (scene : Scene) (shapes : List Shape) (nodes seen : List ℕ) → sees_store m ≡ true → SeenBy m scene shapes nodes seen → AreSeen scene shapes nodes seen
seen_store Comb scene shapes nodes seen e h = h
seen_store Latch scene shapes nodes seen e h = h
seen_store HeldLatch scene shapes nodes seen e h = cc
seen_store (Clocked edges) scene shapes nodes seen e h = cc

pub put_unseen : (scene : Scene) (old new : List Shape) (state : State) (nodes : List ℕ) (at node : ℕ) → sees_store scene.manner ≡ false → IsState scene old state → Extends old new → at < length state.nodes → node < length old → width_at old node ≡ width_in scene at
    → nodes ≡ set state.nodes at node → IsState scene new (record { nodes = nodes; seen = state.seen })
put_unseen scene old new state nodes at node c h e l here wide is = record {
  nodes = subst (AreNodes scene new) (sym is) (nodes_put scene old new state.nodes at node h.nodes e l here wide);
  seen = seen_other scene.manner scene new state.nodes nodes state.seen c (seen_kept_by scene.manner scene old new state.nodes state.seen h.nodes e h.seen);
}

seen_put : (scene : Scene) (old new : List Shape) (nodes seen : List ℕ) (at node shown : ℕ) → AreNodes scene old nodes → AreSeen scene old nodes seen → Extends old new → at < length nodes → Shows scene new at node shown → AreSeen scene new (set nodes at node) (set seen at shown)
seen_put scene old new nodes seen at node shown a h e l s = record {
  long = length-set seen at shown ∙ h.long;
  shows = λ i m. by_place i (inside_it i m) (cases_eq i at);
}
  where
    inside_it : (i : ℕ) → i < length (set seen at shown) → i < length seen
    inside_it i m = omega (arith, length-set seen at shown)

    both_long : length seen ≡ length nodes
    both_long = h.long ∙ sym a.long

    by_place : (i : ℕ) → i < length seen → ((i ≡ at) ⊎ (i ≢ at)) → Shows scene new i (get_or (set nodes at node) i 0) (get_or (set seen at shown) i 0)
    by_place i m (inl same) =
        let P : ℕ → Type 0 = λ j. Shows scene new j (get_or (set nodes at node) j 0) (get_or (set seen at shown) j 0) in
        let Q : ℕ → Type 0 = λ x. Shows scene new at x (get_or (set seen at shown) at 0) in
        let R : ℕ → Type 0 = λ x. Shows scene new at node x in
        subst P (sym same) (subst Q (sym (get_or-set_same nodes at node 0 l)) (subst R (sym (get_or-set_same seen at shown 0 (let g = both_long in omega arith))) s))
    by_place i m (inr other) =
        let Q : ℕ → Type 0 = λ x. Shows scene new i x (get_or (set seen at shown) i 0) in
        let R : ℕ → Type 0 = λ x. Shows scene new i (get_or nodes i 0) x in
        subst Q (sym (get_or-set_other nodes at i node 0 other)) (subst R (sym (get_or-set_other seen at i shown 0 other))
        (shows_kept scene old new i (get_or nodes i 0) (get_or seen i 0) e (a.within i (let g = both_long in omega arith)) (h.shows i m)))

pub put_seen : (scene : Scene) (old new : List Shape) (state : State) (nodes seen : List ℕ) (at node shown : ℕ) → sees_store scene.manner ≡ true → IsState scene old state → Extends old new → at < length state.nodes → node < length old → width_at old node ≡ width_in scene at
    → Shows scene new at node shown → nodes ≡ set state.nodes at node → seen ≡ set state.seen at shown → IsState scene new (record { nodes = nodes; seen = seen })
put_seen scene old new state nodes seen at node shown c h e l here wide s is seen_is =
    let all = seen_put scene old new state.nodes state.seen at node shown h.nodes (seen_store scene.manner scene old state.nodes state.seen c h.seen) e l s in
    let P : List ℕ → Type 0 = λ xs. AreSeen scene new xs (set state.seen at shown) in
    let Q : List ℕ → Type 0 = λ xs. AreSeen scene new nodes xs in
    record {
      nodes = subst (AreNodes scene new) (sym is) (nodes_put scene old new state.nodes at node h.nodes e l here wide);
      seen = seen_as scene.manner scene new nodes seen c (subst Q (sym seen_is) (subst P (sym is) all));
    }

-- all nodes at once
pub state_put : (scene : Scene) (old new : List Shape) (nodes shown seen : List ℕ) → AreNodes scene old nodes → Extends old new → shown ≡ nodes → sees_store scene.manner ≡ true → AreSeen scene new shown seen → IsState scene new (record { nodes = nodes; seen = seen })
state_put scene old new nodes shown seen a e is c h = record { nodes = nodes_kept scene old new nodes a e; seen = seen_as scene.manner scene new nodes seen c (subst (λ xs. AreSeen scene new xs seen) is h) }

pub state_held : (scene : Scene) (shapes : List Shape) (state : State) (nodes : List ℕ) → IsState scene shapes state → AreNodes scene shapes nodes → sees_store scene.manner ≡ false → IsState scene shapes (record { nodes = nodes; seen = state.seen })
state_held scene shapes state nodes h a c = record { nodes = a; seen = seen_other scene.manner scene shapes state.nodes nodes state.seen c h.seen }

-- ---- the state at the start

pub first_seen_as : (m : Manner) (scene : Scene) (old new : List Shape) (nodes shown seen : List ℕ) → sees_nodes m ≡ true → Starts scene old nodes → Extends old new → shown ≡ nodes → AreSeen scene new shown seen → SeenBy m scene new nodes seen
first_seen_as Comb scene old new nodes shown seen c s e is h = subst (λ xs. AreSeen scene new xs seen) is h
first_seen_as Latch scene old new nodes shown seen c s e is h = subst (λ xs. AreSeen scene new xs seen) is h
first_seen_as HeldLatch scene old new nodes shown seen c s e is h = record {
  start = nodes;
  start_are = nodes_kept scene old new nodes s.nodes_are e;
  at = λ i l. starts_kept scene old new i (get_or nodes i 0) e (s.at i l);
  seen_are = subst (λ xs. AreSeen scene new xs seen) is h;
}
first_seen_as (Clocked edges) scene old new nodes shown seen c s e is h = cc
