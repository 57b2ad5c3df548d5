-- Blocks as drivers: what they contribute, and which names are wires.
use Rattle.std.specs.Prelude.{◌≡◌, ℕ, Bool, List, [], ◌∷◌, ◌++◌, filter, map, Option, Some, Result, Ok, Err, IsTrue, is_some, true}
use Rattle.std.specs.List.{All, Contains}
use Rattle.sv_outside.specs.declared.text.Signal.{Signal}
use Rattle.sv_outside.specs.declared.refusal.TextErr.{TextErr}
use Rattle.svex_shape.specs.declared.shape.VarName.{VarName}
use Rattle.svex_shape.specs.declared.shape.VarName.TheVariants.{Now, Prev}
use Rattle.svex_shape.specs.declared.shape.Shape.{Shape}
use Rattle.svex_shape.specs.Values.{each_variable}
use Rattle.settling.specs.Settling.{Store}
use Rattle.driver_resolve.specs.declared.driver.Driver.{Driver}
use Rattle.driver_resolve.specs.Drivers.{Phase, IsDriver, is_wire, widths_of, drivers_give}
use Rattle.sv_typing.specs.Judging.{IsCause}
use Rattle.sv_meaning.specs.Faults.{Faults}
use Rattle.sv_meaning.specs.Layouts.{Scope, of_wires, NamedSignal, Declared}
use Rattle.sv_meaning.specs.Deeds.{merged}
use Rattle.sv_meaning.specs.Blocks.{Manner, comb, latch, clocked, distinct, all_unknown, comb_look, latch_look, clocked_look, trigger, events_faults, edges_of}
use Rattle.sv_tree.specs.declared.stmts.Event.{Event}
use Rattle.sv_meaning.specs.declared.events.WireEdge.{WireEdge}
use Rattle.sv_tree.specs.declared.stmts.AssignMark.{AssignMark}
use Rattle.sv_tree.specs.declared.stmts.AssignMark.TheVariants as mark
use Rattle.sv_stores.specs.declared.scene.Manner.{Manner as Held}
use Rattle.sv_stores.specs.declared.scene.Manner.TheVariants.{Comb, Latch, HeldLatch, Clocked}
use Rattle.sv_meaning.specs.Designs.{wires_named, is_read_now}
use Rattle.sv_actions.specs.declared.action.Action.{Action}
use Rattle.sv_actions.specs.Doing.{run_all, writes_all, names_all}
use Rattle.sv_stores.specs.declared.scene.Scene.{Scene}
use Rattle.sv_stores.specs.Scenes.{place_in}
use Rattle.sv_actions.specs.Texts.{wire_signal, of_each, event_signal}
use Rattle.sv_blocks.specs.Driving.{given}

-- ---- names

abbrev pub AreDeclared : Scope → List NamedSignal → Type 0
AreDeclared at names = (s : NamedSignal) → Contains names s → Declared at s

-- each signal that names declare is one of the wires of these widths, at its width
pub record AreWires (at : Scope) (widths : List ℕ) : Type 0 where
  pub owner : (s : NamedSignal) → Declared at s → s.owner ≡ of_wires
  pub wire : (s : NamedSignal) → Declared at s → IsTrue (is_wire widths s.number s.width)

-- all names of one wire are of one width
abbrev pub OneWidth : Scope → Type 0
OneWidth at = (s t : NamedSignal) → Declared at s → Declared at t → s.number ≡ t.number → s.width ≡ t.width

-- each of these signals has a place
abbrev pub AreThere : List NamedSignal → Scene → Type 0
AreThere named scene = (s : NamedSignal) → Contains named s → is_some (place_in scene s.number) ≡ true

-- A test holds of the previous value of each of these signals, and of the present value of those with these numbers.
pub record Reads (named : List NamedSignal) (now : List ℕ) (p : VarName → ℕ → Bool) : Type 0 where
  pub previous : (s : NamedSignal) → Contains named s → IsTrue (p (Prev s.number) s.width)
  pub present : (s : NamedSignal) → Contains named s → Contains now s.number → IsTrue (p (Now s.number) s.width)

-- ---- manners

-- the manner of a block that code holds
abbrev pub manner_is : Held → Manner
manner_is Comb = comb
manner_is Latch = latch mark.Blocking
manner_is HeldLatch = latch mark.Nonblocking
manner_is (Clocked edges) = clocked edges

-- the mark of its assignments
abbrev pub mark_of : Held → AssignMark
mark_of Comb = mark.Blocking
mark_of Latch = mark.Blocking
mark_of HeldLatch = mark.Nonblocking
mark_of (Clocked edges) = mark.Nonblocking

-- the wires of edges, of one bit each
abbrev pub edge_signals : List WireEdge → List NamedSignal
edge_signals edges = map (λ x. wire_signal x.wire 1) edges

abbrev pub manner_signals : Held → List NamedSignal
manner_signals Comb = []
manner_signals Latch = []
manner_signals HeldLatch = []
manner_signals (Clocked edges) = edge_signals edges

-- an event against which nothing stands, and which names these signals, as an edge
pub record IsEdge (named : List NamedSignal) (f : Faults) (o : Option WireEdge) (x : WireEdge) : Type 0 where
  pub clear : f ≡ []
  pub is : o ≡ Some x
  pub named_are : edge_signals (x ∷ []) ≡ named

abbrev pub JudgesEdge : List NamedSignal → Faults → Option WireEdge → Result WireEdge TextErr → Type 0
JudgesEdge named f o (Ok x) = IsEdge named f o x
JudgesEdge named f o (Err e) = IsCause f e

-- the same of several events
pub record AreEdges (named : List NamedSignal) (f : Faults) (o : Option (List WireEdge)) (edges : List WireEdge) : Type 0 where
  pub clear : f ≡ []
  pub are : o ≡ Some edges
  pub named_are : edge_signals edges ≡ named

abbrev pub JudgesEdges : List NamedSignal → Faults → Option (List WireEdge) → Result (List WireEdge) TextErr → Type 0
JudgesEdges named f o (Ok edges) = AreEdges named f o edges
JudgesEdges named f o (Err e) = IsCause f e

-- the edges of events against which nothing stands
abbrev pub AreEdgesOf : Scope → List Event → List WireEdge → Type 0
AreEdgesOf at all edges = AreEdges (of_each (event_signal at) all) (events_faults at all) (edges_of at all) edges

-- these edges are those of events, or something stands against one of them
abbrev pub AddsEdge : Scope → List Event → List WireEdge → Result (Unit {0}) TextErr → Type 0
AddsEdge at all edges (Ok u) = AreEdgesOf at all edges
AddsEdge at all edges (Err e) = IsCause (events_faults at all) e

-- the manner of a block against whose events nothing stands, and which name these signals
pub record IsManner (named : List NamedSignal) (f : Faults) (m : Manner) (held : Held) : Type 0 where
  pub clear : f ≡ []
  pub is : manner_is held ≡ m
  pub named_are : manner_signals held ≡ named

abbrev pub JudgesManner : List NamedSignal → Faults → Manner → Result Held TextErr → Type 0
JudgesManner named f m (Ok held) = IsManner named f m held
JudgesManner named f m (Err e) = IsCause f e

-- ---- contributions

-- the store that a block with these actions contributes in a phase
abbrev pub block_end : Held → List Action → Phase → Store
block_end Comb all p = run_all all (comb_look (writes_all all) p.present) all_unknown
block_end Latch all p = run_all all (latch_look mark.Blocking (writes_all all) p.previous p.present) p.previous
block_end HeldLatch all p = run_all all (latch_look mark.Nonblocking (writes_all all) p.previous p.present) p.previous
block_end (Clocked edges) all p = merged (trigger edges p.previous p.present) (run_all all (clocked_look edges p.previous p.present) p.previous) p.previous

-- the wires that it names in the present
abbrev pub now_names : List Signal → Held → List Action → List ℕ
now_names wires Comb all = filter (is_read_now wires (writes_all all)) (wires_named (names_all all))
now_names wires Latch all = filter (is_read_now wires (writes_all all)) (wires_named (names_all all))
now_names wires HeldLatch all = filter (is_read_now wires (writes_all all)) (wires_named (names_all all))
now_names wires (Clocked edges) all = map (λ x. x.wire) edges

-- the signals that a block names, where its targets name these
abbrev pub named_in : List Action → List NamedSignal → Held → List NamedSignal
named_in all targets held = names_all all ++ (targets ++ manner_signals held)

-- The drivers of a block with these actions, whose targets name these signals, give what it contributes, are sound, and mention no
-- signals but those that it names, and in the present only those that it names there.
pub record Contributes (at : Scope) (targets : List NamedSignal) (held : Held) (all : List Action) (new : List Shape) (drivers : List Driver) : Type 0 where
  pub gives : (p : Phase) → drivers_give new drivers p ≡ given (block_end held all p) (distinct (writes_all all))
  pub sound : (widths : List ℕ) → AreWires at widths → AreDeclared at (named_in all targets held) → All (IsDriver widths new) drivers
  pub mentions : (wires : List Signal) (p : VarName → ℕ → Bool) → AreWires at (widths_of wires) → AreDeclared at (named_in all targets held) → Reads (named_in all targets held) (now_names wires held all) p
      → All (λ d. IsTrue (each_variable p new d.value)) drivers
