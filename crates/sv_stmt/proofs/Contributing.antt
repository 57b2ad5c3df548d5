-- What blocks contribute, by their scenes.
use Rattle.std.proofs.Common.{◌≡◌, ℕ, zero, suc, ◌+◌, ◌<◌, ◌≤◌, eqb, Bool, true, false, cond, not, ◌&&◌, ◌||◌, List, [], ◌∷◌, ◌++◌, length, filter, map, get_or, Option, Some, None, refl, sym, ap, ◌∙◌, inl, inr, subst, arith, IsTrue, nat_lt}
use Rattle.std.specs.Prelude.{slice_get}
use Rattle.std.specs.List.{All, Contains}
use Rattle.std.proofs.lemmas.List.Elements.{Contains-append_left, Contains-append_right}
use Rattle.std.proofs.lemmas.Bool.{cases_eq, cases_Bool}
use Rattle.std.proofs.lemmas.Bool.Decides.{nat_tests}
use Rattle.fourvec.proofs.Order.{both}
use Rattle.fourvec.proofs.Tables.{left_of, right_of}
use Rattle.lhs_alias.specs.declared.segs.WireBit.{WireBit}
use Rattle.lhs_alias.specs.Segs.{bit}
use Rattle.lhs_alias.specs.Lies.{LieIn}
use Rattle.sv_outside.specs.declared.text.Signal.{Signal}
use Rattle.settling.specs.Settling.{Store}
use Rattle.svex_shape.specs.declared.shape.VarName.{VarName}
use Rattle.svex_shape.specs.declared.shape.VarName.TheVariants.{Now, Prev}
use Rattle.svex_shape.specs.declared.shape.Shape.{Shape}
use Rattle.svex_shape.specs.Values.{each_variable}
use Rattle.driver_resolve.specs.declared.driver.Driver.{Driver}
use Rattle.driver_resolve.specs.Drivers.{Phase, bits_in, IsDriver, is_wire, is_of_wires, widths_of}
use Rattle.sv_meaning.specs.Layouts.{Scope, Read, Origin, of_wires, of_choice, of_samples, NamedSignal, Declared}
use Rattle.sv_meaning.specs.Blocks.{has_bit, distinct, all_unknown, comb_look, latch_look, clocked_look, is_event}
use Rattle.sv_meaning.specs.declared.events.WireEdge.{WireEdge}
use Rattle.sv_tree.specs.declared.stmts.AssignMark.TheVariants as mark
use Rattle.sv_meaning.specs.Designs.{wire_before, wires_named, is_read_now, bits_of_wire, width_of_wire, has_all}
use Rattle.sv_actions.specs.declared.action.Action.{Action}
use Rattle.sv_actions.specs.Doing.{run_all, writes_all, names_all}
use Rattle.sv_stores.specs.declared.scene.Scene.{Scene}
use Rattle.sv_stores.specs.declared.scene.Manner.{Manner as Held}
use Rattle.sv_stores.specs.declared.scene.Manner.TheVariants.{Comb, Latch, HeldLatch, Clocked}
use Rattle.sv_blocks.specs.declared.bits.Marked.{Marked}
use Rattle.svex_arena.specs.Substs.{given_or}
use Rattle.sv_stores.specs.Scenes.{place_in, width_in, mark_at, is_written, are_marked, is_whole, sees_nodes, base, wire_bit, reads_in, held_test, wire_test, name_test, start_test, Allows, IsScene}
use Rattle.sv_actions.specs.Texts.{wire_signal}
use Rattle.sv_blocks.specs.Declaring.{SceneAmong, IsBegun, IsMarked}
use Rattle.sv_blocks.specs.Driving.{given, SceneFits, IsPlaced}
use Rattle.sv_blocks.specs.Ending.{end_store, StartHolds, EventHolds, Finishes}
use Rattle.sv_stmt.specs.Blocks.{AreDeclared, AreWires, Reads, edge_signals, manner_signals, block_end, now_names, named_in, Contributes}
use Rattle.sv_blocks.proofs.Marking.{same_scene}
use Rattle.sv_stores.proofs.Stores.{written_at, written_none}
use Rattle.sv_stores.proofs.Looking.{seen_test}

-- ---- what names read in a phase

-- how names read in a phase
abbrev look_of : Held → List WireBit → Phase → Store → Read
look_of Comb targets p = comb_look targets p.present
look_of Latch targets p = latch_look mark.Blocking targets p.previous p.present
look_of HeldLatch targets p = latch_look mark.Nonblocking targets p.previous p.present
look_of (Clocked edges) targets p = clocked_look edges p.previous p.present

-- where the store starts
abbrev start_of : Held → Phase → Store
start_of Comb p = all_unknown
start_of Latch p = p.previous
start_of HeldLatch p = p.previous
start_of (Clocked edges) p = p.previous

look_at : (m : Held) (written : Bool) (targets : List WireBit) (p : Phase) (store : Store) (n k : ℕ) → written ≡ has_bit (bit n k) targets → wire_bit m written (bits_in p) store n k ≡ look_of m targets p store of_wires n k
look_at Comb written targets p store n k t = ap (λ b. cond b (store n k) (p.present n k)) t
look_at Latch written targets p store n k t = ap (λ b. cond b (store n k) (p.present n k)) t
look_at HeldLatch written targets p store n k t = ap (λ b. cond b (p.previous n k) (p.present n k)) t
look_at (Clocked edges) written targets p store n k t = refl

reads_at : (scene : Scene) (m : Held) (targets : List WireBit) (p : Phase) (store : Store) → scene.manner ≡ m → ((n k : ℕ) → is_written scene n k ≡ has_bit (bit n k) targets) → (o : Origin) (n k : ℕ) → reads_in scene (bits_in p) store o n k ≡ look_of m targets p store o n k
unfolding reads_in
reads_at scene m targets p store c tells of_wires n k =
    ap (λ x. wire_bit x (is_written scene n k) (bits_in p) store n k) c ∙ look_at m (is_written scene n k) targets p store n k (tells n k)
reads_at scene Comb targets p store c tells of_choice n k = refl
reads_at scene Latch targets p store c tells of_choice n k = refl
reads_at scene HeldLatch targets p store c tells of_choice n k = refl
reads_at scene (Clocked edges) targets p store c tells of_choice n k = refl
reads_at scene Comb targets p store c tells of_samples n k = refl
reads_at scene Latch targets p store c tells of_samples n k = refl
reads_at scene HeldLatch targets p store c tells of_samples n k = refl
reads_at scene (Clocked edges) targets p store c tells of_samples n k = refl

look_is : (scene : Scene) (m : Held) (targets : List WireBit) (p : Phase) → scene.manner ≡ m → ((n k : ℕ) → is_written scene n k ≡ has_bit (bit n k) targets) → reads_in scene (bits_in p) ≡ look_of m targets p
look_is scene m targets p c tells = λ x store o n k. reads_at scene m targets p store c tells o n k x

start_is : (m : Held) (p : Phase) → base m (bits_in p) ≡ start_of m p
start_is Comb p = refl
start_is Latch p = refl
start_is HeldLatch p = refl
start_is (Clocked edges) p = refl

-- what a block leaves
abbrev left_by : Held → List Action → Phase → Store
left_by m all p = run_all all (look_of m (writes_all all) p) (start_of m p)

ends_as : (m : Held) (all : List Action) (p : Phase) → end_store m (bits_in p) (left_by m all p) (start_of m p) ≡ block_end m all p
ends_as Comb all p = refl
ends_as Latch all p = refl
ends_as HeldLatch all p = refl
ends_as (Clocked edges) all p = refl

end_is : (m : Held) (scene : Scene) (all : List Action) (p : Phase) → scene.manner ≡ m → ((n k : ℕ) → is_written scene n k ≡ has_bit (bit n k) (writes_all all))
    → end_store scene.manner (bits_in p) (run_all all (reads_in scene (bits_in p)) (base scene.manner (bits_in p))) (base scene.manner (bits_in p)) ≡ block_end m all p
end_is m scene all p c tells =
    ap (λ x. end_store x (bits_in p) (run_all all (reads_in scene (bits_in p)) (base x (bits_in p))) (base x (bits_in p))) c
    ∙ ap (λ s. end_store m (bits_in p) (run_all all (reads_in scene (bits_in p)) s) s) (start_is m p)
    ∙ ap (λ r. end_store m (bits_in p) (run_all all r (start_of m p)) (start_of m p)) (look_is scene m (writes_all all) p c tells)
    ∙ ends_as m all p

-- ---- tests of variables

or_right : (x y : Bool) → y ≡ true → (x || y) ≡ true
or_right true y e = refl
or_right false y e = e

-- where the block is not clocked
seen_allows : (m : Held) (scene : Scene) (p : VarName → ℕ → Bool) (n w : ℕ) (o : Option ℕ) → sees_nodes m ≡ true → place_in scene n ≡ o
    → (place_in scene n ≡ None → IsTrue (p (Now n) w)) → ((i : ℕ) → place_in scene n ≡ Some i → is_whole scene i ≡ false → IsTrue (p (Now n) (width_in scene i)))
    → ((i : ℕ) → place_in scene n ≡ Some i → IsTrue (p (Prev n) (width_in scene i))) → IsTrue (wire_test m scene p n w)
seen_allows m scene p n w None c e f g h =
    seen_test m scene p n w c ∙ ap (given_or (λ i. held_test m p n (width_in scene i) && (is_whole scene i || p (Now n) (width_in scene i))) (p (Now n) w)) e ∙ f e
seen_allows m scene p n w (Some i) c e f g h =
    seen_test m scene p n w c
    ∙ ap (given_or (λ j. held_test m p n (width_in scene j) && (is_whole scene j || p (Now n) (width_in scene j))) (p (Now n) w)) e
    ∙ both _ _ (held_holds m p n (width_in scene i) (h i e))
    (elim (cases_Bool (is_whole scene i)) as (λ _. (is_whole scene i || p (Now n) (width_in scene i)) ≡ true) [
      | inl t ↦ ap (λ b. b || p (Now n) (width_in scene i)) t
      | inr t ↦ or_right (is_whole scene i) (p (Now n) (width_in scene i)) (g i e t)
    ])
  where
    held_holds : (m : Held) (p : VarName → ℕ → Bool) (n w : ℕ) → IsTrue (p (Prev n) w) → IsTrue (held_test m p n w)
    held_holds Comb p n w t = refl
    held_holds Latch p n w t = refl
    held_holds HeldLatch p n w t = t
    held_holds (Clocked edges) p n w t = refl

-- where it is
clocked_allows : (edges : List WireEdge) (scene : Scene) (p : VarName → ℕ → Bool) (n w : ℕ) → (is_event edges n ≡ true → IsTrue (p (Now n) w)) → IsTrue (p (Prev n) w) → IsTrue (wire_test (Clocked edges) scene p n w)
clocked_allows edges scene p n w h k = elim (cases_Bool (is_event edges n)) [
  | inl t ↦ ap (λ b. p (cond b (Now n) (Prev n)) w) t ∙ h t
  | inr t ↦ ap (λ b. p (cond b (Now n) (Prev n)) w) t ∙ k
]

name_allows : (scene : Scene) (p : VarName → ℕ → Bool) (o : Origin) (n w : ℕ) → o ≡ of_wires → IsTrue (wire_test scene.manner scene p n w) → IsTrue (name_test scene p o n w)
unfolding name_test
name_allows scene p of_wires n w e t = t
name_allows scene p of_choice n w e t = cc
name_allows scene p of_samples n w e t = cc

-- ---- what is declared

-- the wire at each place is declared with its width
abbrev SceneIsDeclared : Scope → Scene → Type 0
SceneIsDeclared at scene = (i : ℕ) → i < length scene.wires → Declared at (wire_signal (get_or scene.wires i 0) (width_in scene i))

-- the wire of each edge is declared with one bit
abbrev EdgesAreDeclared : Scope → Held → Type 0
EdgesAreDeclared at Comb = Unit {0}
EdgesAreDeclared at Latch = Unit {0}
EdgesAreDeclared at HeldLatch = Unit {0}
EdgesAreDeclared at (Clocked edges) = (x : WireEdge) → Contains edges x → Declared at (wire_signal x.wire 1)

in_targets : (all : List Action) (targets : List NamedSignal) (m : Held) (s : NamedSignal) → Contains targets s → Contains (named_in all targets m) s
in_targets all targets m s h = Contains-append_right (names_all all) (targets ++ manner_signals m) s (Contains-append_left targets (manner_signals m) s h)

in_names : (all : List Action) (targets : List NamedSignal) (m : Held) (s : NamedSignal) → Contains (names_all all) s → Contains (named_in all targets m) s
in_names all targets m s h = Contains-append_left (names_all all) (targets ++ manner_signals m) s h

edge_signal_in : (edges : List WireEdge) (x : WireEdge) → Contains edges x → Contains (edge_signals edges) (wire_signal x.wire 1)
edge_signal_in [] x h = absurd (omega (arith, h.1))
edge_signal_in (y ∷ edges) x (zero, l, e) = (0, omega arith, ap (λ z. wire_signal z.wire 1) e)
edge_signal_in (y ∷ edges) x (suc i, l, e) = let g = edge_signal_in edges x (i, omega arith, e) in (suc g.0, omega (arith, g.1), g.2)

edge_wire_in : (edges : List WireEdge) (x : WireEdge) → Contains edges x → Contains (map (λ y. y.wire) edges) x.wire
edge_wire_in [] x h = absurd (omega (arith, h.1))
edge_wire_in (y ∷ edges) x (zero, l, e) = (0, omega arith, ap (λ z. z.wire) e)
edge_wire_in (y ∷ edges) x (suc i, l, e) = let g = edge_wire_in edges x (i, omega arith, e) in (suc g.0, omega (arith, g.1), g.2)

-- the wire of an event is that of one of the edges
event_in : (edges : List WireEdge) (n : ℕ) → is_event edges n ≡ true → Contains (map (λ y. y.wire) edges) n
event_in [] n e = cc
event_in (x ∷ edges) n e = elim (cases_eq n x.wire) [
  | inl same ↦ (0, omega arith, sym same)
  | inr other ↦
      let t : eqb n x.wire ≡ false = grind (arith, nat_tests, other) in
      let g = event_in edges n (sym (ap (λ b. b || is_event edges n) t) ∙ e) in (suc g.0, omega (arith, g.1), g.2)
]

in_edges : (all : List Action) (targets : List NamedSignal) (edges : List WireEdge) (x : WireEdge) → Contains edges x → Contains (named_in all targets (Clocked edges)) (wire_signal x.wire 1)
in_edges all targets edges x h =
    Contains-append_right (names_all all) (targets ++ edge_signals edges) (wire_signal x.wire 1) (Contains-append_right targets (edge_signals edges) (wire_signal x.wire 1) (edge_signal_in edges x h))

edges_declared : (at : Scope) (all : List Action) (targets : List NamedSignal) (m : Held) → AreDeclared at (named_in all targets m) → EdgesAreDeclared at m
edges_declared at all targets Comb d = tt
edges_declared at all targets Latch d = tt
edges_declared at all targets HeldLatch d = tt
edges_declared at all targets (Clocked edges) d = λ x h. d (wire_signal x.wire 1) (in_edges all targets edges x h)

-- a test of a wire in the phase before is one of where a block begins
start_holds : (m : Held) (p : VarName → ℕ → Bool) (n w : ℕ) → IsTrue (p (Prev n) w) → IsTrue (start_test m p n w)
start_holds Comb p n w t = refl
start_holds Latch p n w t = t
start_holds HeldLatch p n w t = t
start_holds (Clocked edges) p n w t = t

-- ---- sound drivers

fits_in : (at : Scope) (widths : List ℕ) (scene : Scene) → AreWires at widths → SceneIsDeclared at scene → SceneFits widths scene
fits_in at widths scene w d i l =
    let t = w.wire (wire_signal (get_or scene.wires i 0) (width_in scene i)) (d i l) in
    let a : nat_lt (get_or scene.wires i 0) (length widths) ≡ true = left_of _ _ t in
    let b : eqb (get_or widths (get_or scene.wires i 0) 0) (width_in scene i) ≡ true = right_of _ _ t in
    (grind (arith, nat_tests, a), grind (arith, nat_tests, b))

event_wires : (at : Scope) (widths : List ℕ) (m : Held) → AreWires at widths → EdgesAreDeclared at m → EventHolds m (is_of_wires widths)
event_wires at widths Comb w c = tt
event_wires at widths Latch w c = tt
event_wires at widths HeldLatch w c = tt
event_wires at widths (Clocked edges) w c = λ x h. (w.wire (wire_signal x.wire 1) (c x h), w.wire (wire_signal x.wire 1) (c x h))

-- what holds of all wires holds where a block begins
start_wires : (at : Scope) (widths : List ℕ) (scene : Scene) → AreWires at widths → SceneIsDeclared at scene → StartHolds scene (is_of_wires widths)
start_wires at widths scene w d i l = start_holds scene.manner (is_of_wires widths) (get_or scene.wires i 0) (width_in scene i) (w.wire (wire_signal (get_or scene.wires i 0) (width_in scene i)) (d i l))

allows_wires : (at : Scope) (widths : List ℕ) (scene : Scene) (names : List NamedSignal) → IsScene scene → AreWires at widths → SceneIsDeclared at scene → AreDeclared at names → Allows scene (is_of_wires widths) names
allows_wires at widths scene names sc w d all s i = name_allows scene (is_of_wires widths) s.owner s.number s.width (w.owner s (all s i)) (by scene.manner)
  where
    at_place : (j : ℕ) → place_in scene s.number ≡ Some j → IsTrue (is_wire widths s.number (width_in scene j))
    at_place j f =
        let own = (sc.back s.number j f).1 in
        subst (λ n. IsTrue (is_wire widths n (width_in scene j))) own (w.wire (wire_signal (get_or scene.wires j 0) (width_in scene j)) (d j (sc.back s.number j f).0))

    by : (m : Held) → IsTrue (wire_test m scene (is_of_wires widths) s.number s.width)
    by Comb = seen_allows Comb scene (is_of_wires widths) s.number s.width (place_in scene s.number) refl refl (λ f. w.wire s (all s i)) (λ j f g. at_place j f) at_place
    by Latch = seen_allows Latch scene (is_of_wires widths) s.number s.width (place_in scene s.number) refl refl (λ f. w.wire s (all s i)) (λ j f g. at_place j f) at_place
    by HeldLatch = seen_allows HeldLatch scene (is_of_wires widths) s.number s.width (place_in scene s.number) refl refl (λ f. w.wire s (all s i)) (λ j f g. at_place j f) at_place
    by (Clocked edges) = clocked_allows edges scene (is_of_wires widths) s.number s.width (λ t. w.wire s (all s i)) (w.wire s (all s i))

sound_driver : (widths : List ℕ) (new : List Shape) (drivers : List Driver) → All (λ d. LieIn widths d.target) drivers → All (IsPlaced new) drivers → All (λ d. IsTrue (each_variable (is_of_wires widths) new d.value)) drivers → All (IsDriver widths new) drivers
sound_driver widths new drivers a b c = λ k d l. record { lies = a k d l; there = (b k d l).there; wide = (b k d l).wide; mentions = c k d l }

-- ---- what is named in the present

all_false : (all : List WireBit) (n j k w : ℕ) → j ≤ k → k < j + w → has_bit (bit n k) all ≡ false → has_all (bits_of_wire n j w) all ≡ false
unfolding bits_of_wire has_all
all_false all n j k zero l m h = absurd (omega arith)
all_false all n j k (suc w) l m h = elim (cases_eq j k) [
  | inl same ↦ ap (λ b. b && has_all (bits_of_wire n (suc j) w) all) (ap (λ i. has_bit (bit n i) all) same ∙ h)
  | inr other ↦ and_right (has_bit (bit n j) all) (has_all (bits_of_wire n (suc j) w) all) (all_false all n (suc j) k w (omega arith) (omega arith) h)
]
  where
    and_right : (x y : Bool) → y ≡ false → (x && y) ≡ false
    and_right true y e = e
    and_right false y e = refl

wire_width : (wires : List Signal) (n w : ℕ) → IsTrue (is_wire (widths_of wires) n w) → width_of_wire (slice_get wires n) ≡ w
wire_width [] n w t = let a : nat_lt n 0 ≡ true = left_of _ _ t in absurd (grind (arith, nat_tests, a))
wire_width (s ∷ wires) zero w t = let b : eqb s.width w ≡ true = right_of _ _ t in grind (arith, nat_tests, b)
wire_width (s ∷ wires) (suc n) w t =
    let a : nat_lt (suc n) (suc (length (widths_of wires))) ≡ true = left_of _ _ t in
    let c : n < length (widths_of wires) = grind (arith, nat_tests, a) in
    let d : nat_lt n (length (widths_of wires)) ≡ true = grind (arith, nat_tests, c) in
    wire_width wires n w (both _ _ d (right_of _ _ t))

read_now : (wires : List Signal) (all : List WireBit) (n k w : ℕ) → IsTrue (is_wire (widths_of wires) n w) → k < w → has_bit (bit n k) all ≡ false → is_read_now wires all n ≡ true
read_now wires all n k w t l h = ap not (all_false all n 0 k (width_of_wire (slice_get wires n)) (omega arith) (let g = wire_width wires n w t in omega arith) h)

here : (x n : ℕ) (xs : List ℕ) → x ≡ n → Contains (x ∷ xs) n
here x n xs e = (0, omega arith, e)

behind : (x n : ℕ) (xs : List ℕ) → Contains xs n → Contains (x ∷ xs) n
behind x n xs h = (suc h.0, omega (arith, h.1), h.2)

before_more : (o : Origin) (m n : ℕ) (xs : List ℕ) → Contains xs n → Contains (wire_before o m xs) n
before_more of_wires m n xs h = behind m n xs h
before_more of_choice m n xs h = h
before_more of_samples m n xs h = h

pub named_wire : (names : List NamedSignal) (s : NamedSignal) → s.owner ≡ of_wires → Contains names s → Contains (wires_named names) s.number
unfolding wires_named
named_wire [] s e h = absurd (omega (arith, h.1))
named_wire (x ∷ names) s e (zero, l, same) =
    let owner : x.owner ≡ of_wires = ap (λ y. y.owner) same ∙ e in
    subst (λ xs. Contains xs s.number) (sym (ap (λ o. wire_before o x.number (wires_named names)) owner)) (here x.number s.number (wires_named names) (ap (λ y. y.number) same))
named_wire (x ∷ names) s e (suc i, l, same) = before_more x.owner x.number s.number (wires_named names) (named_wire names s e (i, omega arith, same))

pub filter_in : (f : ℕ → Bool) (xs : List ℕ) (n : ℕ) → Contains xs n → f n ≡ true → Contains (filter f xs) n
filter_in f [] n h t = absurd (omega (arith, h.1))
filter_in f (x ∷ xs) n (zero, l, same) t =
    subst (λ ys. Contains ys n) (sym (ap (λ b. cond b (x ∷ filter f xs) (filter f xs)) (ap f same ∙ t))) (here x n (filter f xs) same)
filter_in f (x ∷ xs) n (suc i, l, same) t =
    let rest = filter_in f xs n (i, omega arith, same) t in
    elim (cases_Bool (f x)) [
      | inl y ↦ subst (λ ys. Contains ys n) (sym (ap (λ b. cond b (x ∷ filter f xs) (filter f xs)) y)) (behind x n (filter f xs) rest)
      | inr y ↦ subst (λ ys. Contains ys n) (sym (ap (λ b. cond b (x ∷ filter f xs) (filter f xs)) y)) rest
    ]

-- a wire of which some bit is not marked
open_bit : (marks : List Bool) (i w : ℕ) → are_marked marks i w ≡ false → (k : ℕ) × (k < w) × (mark_at marks i k ≡ false)
unfolding are_marked
open_bit marks i zero h = cc
open_bit marks i (suc w) h = elim (cases_Bool (mark_at marks i w)) [
  | inl t ↦ let rest = open_bit marks i w (sym (ap (λ b. b && are_marked marks i w) t) ∙ h) in (rest.0, omega (arith, rest.1), rest.2)
  | inr f ↦ (w, omega arith, f)
]

event_reads : (p : VarName → ℕ → Bool) (wires : List Signal) (all : List Action) (targets : List NamedSignal) (m : Held) → Reads (named_in all targets m) (now_names wires m all) p → EventHolds m p
event_reads p wires all targets Comb r = tt
event_reads p wires all targets Latch r = tt
event_reads p wires all targets HeldLatch r = tt
event_reads p wires all targets (Clocked edges) r = λ x h.
    let c = in_edges all targets edges x h in
    (r.present (wire_signal x.wire 1) c (edge_wire_in edges x h), r.previous (wire_signal x.wire 1) c)

start_reads : (scene : Scene) (p : VarName → ℕ → Bool) (wires : List Signal) (all : List Action) (targets : List NamedSignal) (m : Held) → SceneAmong targets scene → Reads (named_in all targets m) (now_names wires m all) p → StartHolds scene p
start_reads scene p wires all targets m d r i l =
    start_holds scene.manner p (get_or scene.wires i 0) (width_in scene i) (r.previous (wire_signal (get_or scene.wires i 0) (width_in scene i)) (in_targets all targets m _ (d i l)))

-- the wires that a block that is not clocked names in the present
seen_now : (m : Held) (wires : List Signal) (all : List Action) → sees_nodes m ≡ true → now_names wires m all ≡ filter (is_read_now wires (writes_all all)) (wires_named (names_all all))
seen_now Comb wires all c = refl
seen_now Latch wires all c = refl
seen_now HeldLatch wires all c = refl
seen_now (Clocked edges) wires all c = cc

named_now : (m : Held) (at : Scope) (wires : List Signal) (all : List Action) (s : NamedSignal) (k w : ℕ) → sees_nodes m ≡ true → AreWires at (widths_of wires) → Declared at s → Contains (names_all all) s → IsTrue (is_wire (widths_of wires) s.number w) → k < w → has_bit (bit s.number k) (writes_all all) ≡ false
    → Contains (now_names wires m all) s.number
named_now m at wires all s k w c a d h t l f =
    subst (λ xs. Contains xs s.number) (sym (seen_now m wires all c))
    (filter_in (is_read_now wires (writes_all all)) (wires_named (names_all all)) s.number (named_wire (names_all all) s (a.owner s d) h) (read_now wires (writes_all all) s.number k w t l f))

seen_reads : (m : Held) (at : Scope) (wires : List Signal) (scene : Scene) (all : List Action) (targets : List NamedSignal) (p : VarName → ℕ → Bool) → sees_nodes m ≡ true → IsScene scene
    → ((n k : ℕ) → is_written scene n k ≡ has_bit (bit n k) (writes_all all)) → AreWires at (widths_of wires) → SceneAmong targets scene → AreDeclared at (named_in all targets m)
    → ((s : NamedSignal) → Contains (names_all all) s → 1 ≤ s.width) → Reads (named_in all targets m) (now_names wires m all) p
    → (s : NamedSignal) → Contains (names_all all) s → IsTrue (wire_test m scene p s.number s.width)
seen_reads m at wires scene all targets p c sc tells a among declared some r s h =
    seen_allows m scene p s.number s.width (place_in scene s.number) c refl
    (λ f. r.present s own (named_now m at wires all s 0 s.width c a named h (a.wire s named) (some s h) (sym (tells s.number 0) ∙ written_none scene s.number 0 f)))
    (λ i f g.
    let o = open_bit scene.marks i (width_in scene i) g in
    r.present (wire_signal s.number (width_in scene i)) (known i f)
    (named_now m at wires all s o.0 (width_in scene i) c a named h (a.wire (wire_signal s.number (width_in scene i)) (declared _ (known i f))) o.1 (sym (tells s.number o.0) ∙ written_at scene s.number o.0 i f ∙ o.2)))
    (λ i f. r.previous (wire_signal s.number (width_in scene i)) (known i f))
  where
    own : Contains (named_in all targets m) s
    own = in_names all targets m s h

    named : Declared at s
    named = declared s own

    known : (i : ℕ) → place_in scene s.number ≡ Some i → Contains (named_in all targets m) (wire_signal s.number (width_in scene i))
    known i f =
        let back = sc.back s.number i f in
        in_targets all targets m (wire_signal s.number (width_in scene i)) (subst (λ n. Contains targets (wire_signal n (width_in scene i))) back.1 (among i back.0))

reads_by : (m : Held) (at : Scope) (wires : List Signal) (scene : Scene) (all : List Action) (targets : List NamedSignal) (p : VarName → ℕ → Bool) → IsScene scene
    → ((n k : ℕ) → is_written scene n k ≡ has_bit (bit n k) (writes_all all)) → AreWires at (widths_of wires) → SceneAmong targets scene → AreDeclared at (named_in all targets m)
    → ((s : NamedSignal) → Contains (names_all all) s → 1 ≤ s.width) → Reads (named_in all targets m) (now_names wires m all) p
    → (s : NamedSignal) → Contains (names_all all) s → IsTrue (wire_test m scene p s.number s.width)
reads_by Comb at wires scene all targets p sc tells a among declared some r s h = seen_reads Comb at wires scene all targets p refl sc tells a among declared some r s h
reads_by Latch at wires scene all targets p sc tells a among declared some r s h = seen_reads Latch at wires scene all targets p refl sc tells a among declared some r s h
reads_by HeldLatch at wires scene all targets p sc tells a among declared some r s h = seen_reads HeldLatch at wires scene all targets p refl sc tells a among declared some r s h
reads_by (Clocked edges) at wires scene all targets p sc tells a among declared some r s h =
    let own = in_names all targets (Clocked edges) s h in clocked_allows edges scene p s.number s.width (λ t. r.present s own (event_in edges s.number t)) (r.previous s own)

allows_reads : (m : Held) (at : Scope) (wires : List Signal) (scene : Scene) (all : List Action) (targets : List NamedSignal) (p : VarName → ℕ → Bool) → IsScene scene → scene.manner ≡ m
    → ((n k : ℕ) → is_written scene n k ≡ has_bit (bit n k) (writes_all all)) → AreWires at (widths_of wires) → SceneAmong targets scene → AreDeclared at (named_in all targets m)
    → ((s : NamedSignal) → Contains (names_all all) s → 1 ≤ s.width) → Reads (named_in all targets m) (now_names wires m all) p → Allows scene p (names_all all)
allows_reads m at wires scene all targets p sc c tells a among declared some r s h =
    name_allows scene p s.owner s.number s.width (a.owner s (declared s (in_names all targets m s h)))
    (subst (λ x. IsTrue (wire_test x scene p s.number s.width)) (sym c) (reads_by m at wires scene all targets p sc tells a among declared some r s h))

-- ---- all of it

pub contributes : (at : Scope) (targets : List NamedSignal) (m : Held) (all : List Action) (start : Scene) (x : Marked) (bits : List WireBit) (new : List Shape) (drivers : List Driver) → IsBegun targets m start → bits ≡ writes_all all
    → IsMarked start bits x → ((s : NamedSignal) → Contains (names_all all) s → 1 ≤ s.width) → Finishes x.scene new all x.bits drivers → Contributes at targets m all new drivers
contributes at targets m all start x bits new drivers b e k some h = record {
  gives = λ p. h.gives p ∙ ap (λ s. given s x.bits) (end_is m x.scene all p held_so tells) ∙ ap (λ xs. given (block_end m all p) xs) (k.bits_are ∙ ap distinct e);
  sound = λ widths w d.
      let known = scene_declared d in
      sound_driver widths new drivers (h.lies widths (fits_in at widths x.scene w known)) h.placed
      (h.mentions (is_of_wires widths) (start_wires at widths x.scene w known)
      (subst (λ o. EventHolds o (is_of_wires widths)) (sym held_so) (event_wires at widths m w (edges_declared at all targets m d)))
      (allows_wires at widths x.scene (names_all all) sound w known (λ s i. d s (in_names all targets m s i))));
  mentions = λ wires p w d r.
      h.mentions p (start_reads x.scene p wires all targets m among r) (subst (λ o. EventHolds o p) (sym held_so) (event_reads p wires all targets m r))
      (allows_reads m at wires x.scene all targets p sound held_so tells w among d some r);
}
  where
    held_so : x.scene.manner ≡ m
    held_so = k.same.manner ∙ b.manner_is

    tells : (n j : ℕ) → is_written x.scene n j ≡ has_bit (bit n j) (writes_all all)
    tells n j = k.marked n j ∙ ap (has_bit (bit n j)) e

    among : SceneAmong targets x.scene
    among i l =
        subst (λ xs. Contains targets (wire_signal (get_or xs i 0) (width_in x.scene i))) (sym k.same.wires)
        (subst (λ xs. Contains targets (wire_signal (get_or start.wires i 0) (get_or xs i 0))) (sym k.same.widths) (b.among i (subst (λ xs. i < length xs) k.same.wires l)))

    scene_declared : AreDeclared at (named_in all targets m) → SceneIsDeclared at x.scene
    scene_declared d i l = d _ (in_targets all targets m _ (among i l))

    sound : IsScene x.scene
    sound = same_scene start x.scene k.same b.sound
