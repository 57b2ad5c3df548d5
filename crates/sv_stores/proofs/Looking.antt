-- What names read in blocks, by looks.
use Rattle.std.proofs.Common.{◌≡◌, ℕ, ◌<◌, ◌≤◌, Bool, true, false, cond, ◌||◌, ◌&&◌, List, length, get_or, Option, Some, None, refl, sym, ap, ◌∙◌, subst, arith, IsTrue, Bor, nat_le}
use Rattle.std.proofs.lemmas.List.{get_or_default}
use Rattle.std.proofs.lemmas.Option.{slice_get_within, slice_get-get_or, get_or_from_slice_get}
use Rattle.std.proofs.lemmas.Bool.Decides.{nat_tests}
use Rattle.fourvec.specs.declared.Bit.{Bit}
use Rattle.fourvec.specs.declared.Bit.TheVariants.{Unknown}
use Rattle.svex_shape.specs.declared.shape.VarName.{VarName}
use Rattle.svex_shape.specs.declared.shape.VarName.TheVariants.{Now, Prev}
use Rattle.svex_shape.specs.declared.shape.Shape.{Shape}
use Rattle.svex_shape.specs.Shapes.{width_at}
use Rattle.svex_shape.specs.Values.{each_variable}
use Rattle.svex_arena.specs.Substs.{entry_at, given_or}
use Rattle.fourvec.proofs.Tables.{left_of, right_of}
use Rattle.settling.specs.Settling.{Store}
use Rattle.svex_arena.specs.Arenas.{IsArena}
use Rattle.sv_lower.proofs.Sizing.{length-node}
use Rattle.sv_meaning.specs.declared.events.WireEdge.{WireEdge}
use Rattle.sv_meaning.specs.Layouts.{Origin, of_wires, of_choice, of_samples}
use Rattle.sv_typed.specs.declared.tree.Typed.{Typed}
use Rattle.sv_typed.specs.Typed.{worth, names_of}
use Rattle.sv_lower.specs.declared.look.Look.{Look}
use Rattle.sv_lower.specs.declared.look.Look.TheVariants.{Clocked as ByEdges, Placed}
use Rattle.sv_lower.specs.Nodes.{bits_at_node}
use Rattle.sv_lower.specs.Lowering.{node_in, node_of, wire_variable, look_read, look_test, each_signal, IsIn}
use Rattle.sv_lower.proofs.Naming.{look_holds}
use Rattle.sv_stores.specs.declared.scene.Manner.{Manner}
use Rattle.sv_stores.specs.declared.scene.Manner.TheVariants.{Comb, Latch, HeldLatch, Clocked}
use Rattle.sv_stores.specs.declared.scene.Scene.{Scene}
use Rattle.sv_stores.specs.declared.scene.State.{State}
use Rattle.sv_stores.specs.Scenes.{place_in, width_in, mark_at, is_written, is_whole, is_narrow, sees_nodes, base, store_of, own_bit, wire_bit, reads_in, held_test, wire_test, name_test, start_test, HoldsIn, AreNodes, AreSeen, SeesStart, SeenBy, IsScene, IsState, Yields}
use Rattle.sv_stores.proofs.Narrowing.{SameWhere, same_worth}
use Rattle.sv_stores.proofs.Stores.{store_at, written_at, written_none, reads_own, inside}

-- ---- blocks that are not clocked

-- The nodes of which names see, and what these have of the wires that the block writes.
pub record Sight (scene : Scene) (shapes : List Shape) (nodes seen : List ℕ) : Type 0 where
  pub own : List ℕ
  pub are : AreNodes scene shapes own
  pub seen_are : AreSeen scene shapes own seen
  pub value : (bits : VarName → ℕ → Bit) (n k i : ℕ) → place_in scene n ≡ Some i → k < width_in scene i
      → get_or (bits_at_node bits shapes (get_or own i 0)) k Unknown ≡ own_bit scene.manner bits (store_of scene shapes bits nodes) n k
  pub mentions : (p : VarName → ℕ → Bool) (n i : ℕ) → place_in scene n ≡ Some i → HoldsIn p shapes nodes → IsTrue (held_test scene.manner p n (width_in scene i))
      → IsTrue (each_variable p shapes (get_or own i 0))

node_bits : (scene : Scene) (shapes : List Shape) (own : List ℕ) (bits : VarName → ℕ → Bit) (n k i : ℕ) → IsArena shapes → IsScene scene → AreNodes scene shapes own → place_in scene n ≡ Some i → k < width_in scene i
    → k < length (bits_at_node bits shapes (get_or own i 0))
node_bits scene shapes own bits n k i ar sc are e l =
    let m = inside scene shapes own n i sc are e in
    let long = length-node bits shapes (get_or own i 0) ar (are.within i m) ∙ are.width i m in
    omega arith

-- where names see the store
sight_store : (scene : Scene) (shapes : List Shape) (state : State) → IsArena shapes → IsScene scene → IsState scene shapes state → ((bits : VarName → ℕ → Bit) (store : Store) (n k : ℕ) → own_bit scene.manner bits store n k ≡ store n k)
    → AreSeen scene shapes state.nodes state.seen → Sight scene shapes state.nodes state.seen
sight_store scene shapes state ar sc h same seen = record {
  own = state.nodes;
  are = h.nodes;
  seen_are = seen;
  value = λ bits n k i e l.
      get_or_default (bits_at_node bits shapes (get_or state.nodes i 0)) k Unknown (base scene.manner bits n k) (node_bits scene shapes state.nodes bits n k i ar sc h.nodes e l)
      ∙ sym (store_at scene shapes bits state.nodes n k i e) ∙ sym (same bits (store_of scene shapes bits state.nodes) n k);
  mentions = λ p n i e holds t. holds i (inside scene shapes state.nodes n i sc h.nodes e);
}

-- where they see its start
sight_start : (scene : Scene) (shapes : List Shape) (state : State) → IsArena shapes → IsScene scene → scene.manner ≡ HeldLatch → SeesStart scene shapes state.seen → Sight scene shapes state.nodes state.seen
sight_start scene shapes state ar sc m h = record {
  own = h.start;
  are = h.start_are;
  seen_are = h.seen_are;
  value = λ bits n k i e l.
      let back = sc.back n i e in
      get_or_default (bits_at_node bits shapes (get_or h.start i 0)) k Unknown (base scene.manner bits (get_or scene.wires i 0) k) (node_bits scene shapes h.start bits n k i ar sc h.start_are e l)
      ∙ (h.at i back.0).value bits k
      ∙ ap (λ x. base x bits (get_or scene.wires i 0) k) m ∙ ap (λ w. bits (Prev w) k) back.1
      ∙ sym (ap (λ x. own_bit x bits (store_of scene shapes bits state.nodes) n k) m);
  mentions = λ p n i e holds t.
      let back = sc.back n i e in
      (h.at i back.0).mentions p
      (ap (λ x. start_test x p (get_or scene.wires i 0) (width_in scene i)) m ∙ ap (λ w. p (Prev w) (width_in scene i)) back.1
      ∙ sym (ap (λ x. held_test x p n (width_in scene i)) m) ∙ t);
}

sight_by : (m : Manner) (scene : Scene) (shapes : List Shape) (state : State) → scene.manner ≡ m → sees_nodes m ≡ true → IsArena shapes → IsScene scene → IsState scene shapes state → SeenBy m scene shapes state.nodes state.seen
    → Sight scene shapes state.nodes state.seen
sight_by Comb scene shapes state e c ar sc h seen = sight_store scene shapes state ar sc h (λ bits store n k. ap (λ x. own_bit x bits store n k) e) seen
sight_by Latch scene shapes state e c ar sc h seen = sight_store scene shapes state ar sc h (λ bits store n k. ap (λ x. own_bit x bits store n k) e) seen
sight_by HeldLatch scene shapes state e c ar sc h seen = sight_start scene shapes state ar sc e seen
sight_by (Clocked edges) scene shapes state e c ar sc h seen = cc

pub sight : (scene : Scene) (shapes : List Shape) (state : State) → sees_nodes scene.manner ≡ true → IsArena shapes → IsScene scene → IsState scene shapes state → Sight scene shapes state.nodes state.seen
sight scene shapes state c ar sc h = sight_by scene.manner scene shapes state refl c ar sc h h.seen

node_there : (seen : List ℕ) (o : Option ℕ) (node : ℕ) → node_in seen o ≡ Some node → (i : ℕ) × (o ≡ Some i) × (i < length seen) × (get_or seen i 0 ≡ node)
node_there seen None node e = cc
node_there seen (Some i) node e = (i, refl, slice_get_within seen i node e, get_or_from_slice_get seen i node 0 e)

placed_node : (scene : Scene) (p : Bor (List (Option ℕ))) (s : Bor (List ℕ)) (seen : List ℕ) → p.now ≡ scene.places → s.now ≡ seen → (n : ℕ) → node_of (Placed p s) n ≡ node_in seen (place_in scene n)
placed_node scene p s seen e d n = ap (λ xs. node_in xs (entry_at p.now n)) d ∙ ap (λ xs. node_in seen (entry_at xs n)) e

pub placed_in : (scene : Scene) (shapes : List Shape) (state : State) (p : Bor (List (Option ℕ))) (s : Bor (List ℕ)) → p.now ≡ scene.places → s.now ≡ state.seen → sees_nodes scene.manner ≡ true → IsArena shapes → IsScene scene → IsState scene shapes state → IsIn (Placed p s) shapes
placed_in scene shapes state p s e d c ar sc h = record {
  there = λ n node k.
      let g = node_there state.seen (place_in scene n) node (sym (placed_node scene p s state.seen e d n) ∙ k) in
      let a = sight scene shapes state c ar sc h in
      subst (λ x. x < length shapes) g.3 (a.seen_are.shows g.0 g.2).within;
}

seen_within : (scene : Scene) (shapes : List Shape) (own seen : List ℕ) (n i : ℕ) → IsScene scene → AreSeen scene shapes own seen → place_in scene n ≡ Some i → i < length seen
seen_within scene shapes own seen n i sc a e = let b = (sc.back n i e).0 in let m = a.long in omega arith

-- where a wire has a place, its node is under it
place_node : (scene : Scene) (shapes : List Shape) (own seen : List ℕ) (n i : ℕ) → IsScene scene → AreSeen scene shapes own seen → place_in scene n ≡ Some i → node_in seen (place_in scene n) ≡ Some (get_or seen i 0)
place_node scene shapes own seen n i sc a e = ap (node_in seen) e ∙ slice_get-get_or seen i 0 (seen_within scene shapes own seen n i sc a e)

read_some : (look : Look) (shapes : List Shape) (bits : VarName → ℕ → Bit) (n m k : ℕ) → node_of look n ≡ Some m → look_read look shapes bits of_wires n k ≡ get_or (bits_at_node bits shapes m) k Unknown
unfolding look_read
read_some look shapes bits n m k e = ap (given_or (λ node. get_or (bits_at_node bits shapes node) k Unknown) (bits (wire_variable look n) k)) e

read_none : (look : Look) (shapes : List Shape) (bits : VarName → ℕ → Bit) (n k : ℕ) → node_of look n ≡ None → look_read look shapes bits of_wires n k ≡ bits (wire_variable look n) k
unfolding look_read
read_none look shapes bits n k e = ap (given_or (λ node. get_or (bits_at_node bits shapes node) k Unknown) (bits (wire_variable look n) k)) e

-- a name of no more bits than its wire has
placed_wire : (scene : Scene) (shapes : List Shape) (state : State) (p : Bor (List (Option ℕ))) (s : Bor (List ℕ)) (bits : VarName → ℕ → Bit) → p.now ≡ scene.places → s.now ≡ state.seen → IsScene scene → sees_nodes scene.manner ≡ true → Sight scene shapes state.nodes state.seen
    → (n w k : ℕ) → IsTrue (is_narrow scene of_wires n w) → k < w → (o : Option ℕ) → place_in scene n ≡ o
    → look_read (Placed p s) shapes bits of_wires n k ≡ reads_in scene bits (store_of scene shapes bits state.nodes) of_wires n k
placed_wire scene shapes state p s bits e d sc c a n w k t l None g =
    read_none (Placed p s) shapes bits n k (placed_node scene p s state.seen e d n ∙ ap (node_in state.seen) g)
    ∙ sym (reads_own scene bits (store_of scene shapes bits state.nodes) n k c ∙ ap (λ b. cond b (own_bit scene.manner bits (store_of scene shapes bits state.nodes) n k) (bits (Now n) k)) (written_none scene n k g))
placed_wire scene shapes state p s bits e d sc c a n w k t l (Some i) g =
    let shown = a.seen_are.shows i (seen_within scene shapes a.own state.seen n i sc a.seen_are g) in
    let fits : IsTrue (nat_le w (width_in scene i)) = sym (ap (given_or (λ j. nat_le w (width_in scene j)) true) g) ∙ t in
    let most : w ≤ width_in scene i = grind (arith, nat_tests, fits) in
    let own = (sc.back n i g).1 in
    read_some (Placed p s) shapes bits n (get_or state.seen i 0) k (placed_node scene p s state.seen e d n ∙ place_node scene shapes a.own state.seen n i sc a.seen_are g)
    ∙ shown.value bits k (omega arith)
    ∙ ap (λ m. cond (mark_at scene.marks i k) (get_or (bits_at_node bits shapes (get_or a.own i 0)) k Unknown) (bits (Now m) k)) own
    ∙ ap (λ z. cond (mark_at scene.marks i k) z (bits (Now n) k)) (a.value bits n k i g (omega arith))
    ∙ ap (λ b. cond b (own_bit scene.manner bits (store_of scene shapes bits state.nodes) n k) (bits (Now n) k)) (sym (written_at scene n k i g))
    ∙ sym (reads_own scene bits (store_of scene shapes bits state.nodes) n k c)

placed_same : (scene : Scene) (shapes : List Shape) (state : State) (p : Bor (List (Option ℕ))) (s : Bor (List ℕ)) (bits : VarName → ℕ → Bit) → p.now ≡ scene.places → s.now ≡ state.seen → IsScene scene → sees_nodes scene.manner ≡ true → Sight scene shapes state.nodes state.seen
    → SameWhere (is_narrow scene) (look_read (Placed p s) shapes bits) (reads_in scene bits (store_of scene shapes bits state.nodes))
unfolding look_read reads_in
placed_same scene shapes state p s bits e d sc c a of_wires n w k t l = placed_wire scene shapes state p s bits e d sc c a n w k t l (place_in scene n) refl
placed_same scene shapes state p s bits e d sc c a of_choice n w k t l = refl
placed_same scene shapes state p s bits e d sc c a of_samples n w k t l = refl

test_some : (look : Look) (shapes : List Shape) (p : VarName → ℕ → Bool) (n m w : ℕ) → node_of look n ≡ Some m → look_test look shapes p of_wires n w ≡ each_variable p shapes m
unfolding look_test
test_some look shapes p n m w e = ap (given_or (each_variable p shapes) (p (wire_variable look n) w)) e

test_none : (look : Look) (shapes : List Shape) (p : VarName → ℕ → Bool) (n w : ℕ) → node_of look n ≡ None → look_test look shapes p of_wires n w ≡ p (wire_variable look n) w
unfolding look_test
test_none look shapes p n w e = ap (given_or (each_variable p shapes) (p (wire_variable look n) w)) e

pub seen_test : (m : Manner) (scene : Scene) (p : VarName → ℕ → Bool) (n w : ℕ) → sees_nodes m ≡ true
    → wire_test m scene p n w ≡ given_or (λ i. held_test m p n (width_in scene i) && (is_whole scene i || p (Now n) (width_in scene i))) (p (Now n) w) (place_in scene n)
seen_test Comb scene p n w c = refl
seen_test Latch scene p n w c = refl
seen_test HeldLatch scene p n w c = refl
seen_test (Clocked edges) scene p n w c = cc

name_placed : (scene : Scene) (p : VarName → ℕ → Bool) (n w : ℕ) → sees_nodes scene.manner ≡ true
    → name_test scene p of_wires n w ≡ given_or (λ i. held_test scene.manner p n (width_in scene i) && (is_whole scene i || p (Now n) (width_in scene i))) (p (Now n) w) (place_in scene n)
unfolding name_test
name_placed scene p n w c = seen_test scene.manner scene p n w c

placed_test : (scene : Scene) (shapes : List Shape) (state : State) (a : Bor (List (Option ℕ))) (s : Bor (List ℕ)) (p : VarName → ℕ → Bool) → a.now ≡ scene.places → s.now ≡ state.seen → IsScene scene → sees_nodes scene.manner ≡ true → Sight scene shapes state.nodes state.seen → HoldsIn p shapes state.nodes
    → (n w : ℕ) → IsTrue (name_test scene p of_wires n w) → (o : Option ℕ) → place_in scene n ≡ o → IsTrue (look_test (Placed a s) shapes p of_wires n w)
placed_test scene shapes state a s p e d sc c seen holds n w t None g =
    test_none (Placed a s) shapes p n w (placed_node scene a s state.seen e d n ∙ ap (node_in state.seen) g)
    ∙ sym (ap (given_or (λ i. held_test scene.manner p n (width_in scene i) && (is_whole scene i || p (Now n) (width_in scene i))) (p (Now n) w)) g)
    ∙ sym (name_placed scene p n w c) ∙ t
placed_test scene shapes state a s p e d sc c seen holds n w t (Some i) g =
    let shown = seen.seen_are.shows i (seen_within scene shapes seen.own state.seen n i sc seen.seen_are g) in
    let own = (sc.back n i g).1 in
    let tests : IsTrue (held_test scene.manner p n (width_in scene i) && (is_whole scene i || p (Now n) (width_in scene i))) =
    sym (ap (given_or (λ j. held_test scene.manner p n (width_in scene j) && (is_whole scene j || p (Now n) (width_in scene j))) (p (Now n) w)) g) ∙ sym (name_placed scene p n w c) ∙ t in
    test_some (Placed a s) shapes p n (get_or state.seen i 0) w (placed_node scene a s state.seen e d n ∙ place_node scene shapes seen.own state.seen n i sc seen.seen_are g)
    ∙ shown.mentions p (ap (λ m. is_whole scene i || p (Now m) (width_in scene i)) own ∙ right_of _ _ tests) (seen.mentions p n i g holds (left_of _ _ tests))

placed_tests : (scene : Scene) (shapes : List Shape) (state : State) (a : Bor (List (Option ℕ))) (s : Bor (List ℕ)) (p : VarName → ℕ → Bool) → a.now ≡ scene.places → s.now ≡ state.seen → IsScene scene → sees_nodes scene.manner ≡ true → Sight scene shapes state.nodes state.seen → HoldsIn p shapes state.nodes
    → (o : Origin) (n w : ℕ) → IsTrue (name_test scene p o n w) → IsTrue (look_test (Placed a s) shapes p o n w)
unfolding name_test look_test
placed_tests scene shapes state a s p e d sc c seen holds of_wires n w t = placed_test scene shapes state a s p e d sc c seen holds n w t (place_in scene n) refl
placed_tests scene shapes state a s p e d sc c seen holds of_choice n w t = t
placed_tests scene shapes state a s p e d sc c seen holds of_samples n w t = t

pub placed_yields : (scene : Scene) (old new : List Shape) (state : State) (a : Bor (List (Option ℕ))) (s : Bor (List ℕ)) (t : Typed) (w : ℕ) (g : Bool) (n : ℕ)
    → a.now ≡ scene.places → s.now ≡ state.seen → IsArena old → IsScene scene → sees_nodes scene.manner ≡ true → IsState scene old state → IsTrue (each_signal (is_narrow scene) t)
    → n < length new → width_at new n ≡ w → ((bits : VarName → ℕ → Bit) → bits_at_node bits new n ≡ worth t (look_read (Placed a s) old bits) w g)
    → ((p : VarName → ℕ → Bool) → IsTrue (each_signal (look_test (Placed a s) old p) t) → IsTrue (each_variable p new n))
    → Yields scene old new state.nodes (λ read. worth t read w g) (names_of t) w n
placed_yields scene old new state a s t w g n e d ar sc c h narrow within wide value mentions =
    let seen = sight scene old state c ar sc h in
    record {
      within = within;
      width = wide;
      value = λ bits. value bits ∙ same_worth (is_narrow scene) _ _ (placed_same scene old state a s bits e d sc c seen) t w g narrow;
      mentions = λ p allow holds. mentions p (look_holds (Placed a s) old t p (λ x i. placed_tests scene old state a s p e d sc c seen holds x.owner x.number x.width (allow x i)));
    }

-- ---- clocked blocks

clocked_at : (scene : Scene) (shapes : List Shape) (bits : VarName → ℕ → Bit) (nodes : List ℕ) (edges : Bor (List WireEdge)) → scene.manner ≡ Clocked edges.now
    → (o : Origin) (n k : ℕ) → look_read (ByEdges edges) shapes bits o n k ≡ reads_in scene bits (store_of scene shapes bits nodes) o n k
unfolding look_read reads_in
clocked_at scene shapes bits nodes edges c of_wires n k =
    moved ∙ sym (ap (λ x. wire_bit x (is_written scene n k) bits (store_of scene shapes bits nodes) n k) c)
  where
    moved_by : (b : Bool) → bits (cond b (Now n) (Prev n)) k ≡ cond b (bits (Now n) k) (bits (Prev n) k)
    moved_by true = refl
    moved_by false = refl

    moved : bits (wire_variable (ByEdges edges) n) k ≡ wire_bit (Clocked edges.now) (is_written scene n k) bits (store_of scene shapes bits nodes) n k
    moved = moved_by _
clocked_at scene shapes bits nodes edges c of_choice n k = refl
clocked_at scene shapes bits nodes edges c of_samples n k = refl

clocked_read : (scene : Scene) (shapes : List Shape) (bits : VarName → ℕ → Bit) (nodes : List ℕ) (edges : Bor (List WireEdge)) → scene.manner ≡ Clocked edges.now
    → look_read (ByEdges edges) shapes bits ≡ reads_in scene bits (store_of scene shapes bits nodes)
clocked_read scene shapes bits nodes edges c = λ x o n k. clocked_at scene shapes bits nodes edges c o n k x

clocked_test : (scene : Scene) (shapes : List Shape) (p : VarName → ℕ → Bool) (edges : Bor (List WireEdge)) → scene.manner ≡ Clocked edges.now
    → (o : Origin) (n w : ℕ) → IsTrue (name_test scene p o n w) → IsTrue (look_test (ByEdges edges) shapes p o n w)
unfolding name_test look_test
clocked_test scene shapes p edges c of_wires n w t = sym (ap (λ x. wire_test x scene p n w) c) ∙ t
clocked_test scene shapes p edges c of_choice n w t = t
clocked_test scene shapes p edges c of_samples n w t = t

pub clocked_in : (edges : Bor (List WireEdge)) (shapes : List Shape) → IsIn (ByEdges edges) shapes
clocked_in edges shapes = record { there = λ n node h. cc }

pub clocked_yields : (scene : Scene) (old new : List Shape) (nodes : List ℕ) (edges : Bor (List WireEdge)) (t : Typed) (w : ℕ) (g : Bool) (n : ℕ)
    → scene.manner ≡ Clocked edges.now
    → n < length new → width_at new n ≡ w → ((bits : VarName → ℕ → Bit) → bits_at_node bits new n ≡ worth t (look_read (ByEdges edges) old bits) w g)
    → ((p : VarName → ℕ → Bool) → IsTrue (each_signal (look_test (ByEdges edges) old p) t) → IsTrue (each_variable p new n))
    → Yields scene old new nodes (λ read. worth t read w g) (names_of t) w n
clocked_yields scene old new nodes edges t w g n c within wide value mentions = record {
  within = within;
  width = wide;
  value = λ bits. value bits ∙ ap (λ r. worth t r w g) (clocked_read scene old bits nodes edges c);
  mentions = λ p allow holds. mentions p (look_holds (ByEdges edges) old t p (λ x i. clocked_test scene old p edges c x.owner x.number x.width (allow x i)));
}
