-- Blocks and what stands against them, by their parts.
use Rattle.std.proofs.Common.{◌≡◌, ◌≢◌, ℕ, zero, suc, ◌+◌, ◌<◌, eqb, Bool, true, false, cond, not, append_assoc, append-nil, List, [], ◌∷◌, ◌++◌, length, map, take, drop, get_or, filter, Option, Some, None, Result, Ok, Err, refl, sym, ap, ◌∙◌, ◌⊎◌, inl, inr, subst, arith, IsTrue}
use Rattle.std.specs.Prelude.{◌==◌}
use Rattle.std.specs.Result.{IfOk, IsOkAnd, MatchResult}
use Rattle.std.specs.List.{All, Contains}
use Rattle.std.proofs.lemmas.List.{map-append, take-append-drop}
use Rattle.std.proofs.Math.Seq.{take-suc}
use Rattle.std.proofs.lemmas.List.Elements.{Contains-append_left, Contains-append_right, Contains-append_cases}
use Rattle.std.proofs.lemmas.Bool.{cases_Bool}
use Rattle.std.proofs.lemmas.Bool.Decides.{nat_tests}
use Rattle.sv_outside.specs.declared.refusal.TextErr.{TextErr}
use Rattle.sv_outside.specs.declared.text.Signal.{Signal}
use Rattle.svex_shape.specs.declared.shape.VarName.{VarName}
use Rattle.svex_shape.specs.declared.shape.Shape.{Shape}
use Rattle.svex_shape.specs.Values.{each_variable}
use Rattle.driver_resolve.specs.declared.driver.Driver.{Driver}
use Rattle.driver_resolve.specs.Drivers.{Phase, IsDriver, widths_of, drivers_give}
use Rattle.sv_typing.specs.Judging.{IsCause}
use Rattle.sv_typing.proofs.Judged.{cause_from}
use Rattle.sv_tree.specs.declared.stmts.Stmt.{Stmt}
use Rattle.sv_tree.specs.declared.stmts.Event.{Event}
use Rattle.sv_tree.specs.declared.stmts.NextEvent.{NextEvent}
use Rattle.sv_tree.specs.declared.stmts.Events.{Events}
use Rattle.sv_tree.specs.declared.stmts.BlockKind.{BlockKind}
use Rattle.sv_tree.specs.declared.stmts.Block.{Block}
use Rattle.sv_outside.specs.declared.refusal.Place.{Place}
use Rattle.sv_outside.specs.declared.refusal.TextErr.TheVariants.{No}
use Rattle.sv_names.specs.declared.layout.Layout.{Layout as Laid}
use Rattle.sv_names.specs.declared.layout.What.{What}
use Rattle.sv_names.specs.declared.layout.What.TheVariants as kind
use Rattle.sv_names.specs.Kinds.{layout_is, what_is, WhatIsSound, IsSound}
use Rattle.sv_names.proofs.Sound.{sound_width}
use Rattle.sv_meaning.specs.Faults.{Faults, fault, fault_if, unknown_name, bad_width}
use Rattle.sv_meaning.specs.Layouts.{Scope, What as Meant, Origin, of_wires, of_choice, of_samples, signal_is, width, find, NamedSignal}
use Rattle.sv_meaning.specs.Deeds.{Deed, deed, merged}
use Rattle.sv_meaning.specs.Blocks.{Manner, distinct, all_unknown, comb_look, latch_look, clocked_look, trigger, block_value, marks, clock_of, edge_of, and_more, edges_of, by_edges, manner, events_of, events_manner, kind_events, clock_faults, events_faults, event_faults, block_mark}
use Rattle.sv_meaning.specs.declared.events.WireEdge.{WireEdge}
use Rattle.sv_tree.specs.declared.stmts.AssignMark.{AssignMark}
use Rattle.sv_tree.specs.declared.stmts.AssignMark.TheVariants as mark
use Rattle.sv_stores.specs.declared.scene.Manner.{Manner as Held}
use Rattle.sv_stores.specs.declared.scene.Manner.TheVariants.{Comb, Latch, HeldLatch, Clocked}
use Rattle.sv_meaning.specs.Designs.{wire_before, wires_named, is_read_now, block_gives, block_names}
use Rattle.sv_actions.specs.declared.action.Action.{Action}
use Rattle.sv_actions.specs.Doing.{writes_all, names_all}
use Rattle.sv_actions.specs.Typing.{Does}
use Rattle.sv_actions.specs.Texts.{wire_signal, signal_of, target_signals, of_each, event_signal, event_signals, signals_of}
use Rattle.sv_blocks.specs.Driving.{given}
use Rattle.sv_stmt.specs.Blocks.{AreDeclared, AreWires, Reads, manner_is, mark_of, edge_signals, manner_signals, IsEdge, JudgesEdges, AreEdgesOf, IsManner, JudgesManner, block_end, now_names, named_in, Contributes}
use Rattle.sv_stmt.proofs.Rooted.{two_declared, targets_declared, event_declared}
use Rattle.sv_stmt.proofs.Contributing.{named_wire, filter_in}
use Rattle.sv_stmt.proofs.Naming.{deed_declared}

-- ---- events

refused : (f : Faults) (n : ℕ) (p : Place) (v : TextErr) → f ≡ fault n p → v ≡ No (record { number = n; place = p; count = 0 }) → IsCause f v
refused f n p v e d = subst (IsCause f) (sym d) (subst (λ g. Contains g (record { number = n; place = p; count = 0 })) (sym e) (0, omega arith, refl))

pub edge_fits : (at : Scope) (e : Event) (number : ℕ) (x : Laid) (what : What) (c : WireEdge) → WhatIsSound what → what ≡ kind.Wire number x → find e.name.text at ≡ Some (what_is what) → x.width ≡ 1 → c ≡ record { edge = e.edge; wire = number }
    → IsEdge (event_signal at e) (clock_faults e.name (find e.name.text at)) (edge_of e.edge (clock_of (find e.name.text at))) c
edge_fits at e number x what c s i f l d =
    let P : WireEdge → Type 0 = λ y. IsEdge (event_signal at e) (clock_faults e.name (find e.name.text at)) (edge_of e.edge (clock_of (find e.name.text at))) y in
    let g : find e.name.text at ≡ Some (signal_is of_wires number (layout_is x)) = f ∙ ap (λ y. Some (what_is y)) i in
    let h : IsSound x = subst WhatIsSound i s in
    let w : width (layout_is x) ≡ 1 = sym (sound_width x h).0 ∙ l in
    subst P (sym d) (record {
      clear = ap (λ o. clock_faults e.name o) g ∙ ap (λ m. fault_if (not (m == 1)) bad_width e.name.place) w;
      is = ap (λ o. edge_of e.edge (clock_of o)) g ∙ ap (λ m. edge_of e.edge (cond (m == 1) (Some number) None)) w;
      named_are = sym (ap signal_of g ∙ ap (λ m. wire_signal number m ∷ []) w);
    })

pub clock_wide : (at : Scope) (e : Event) (number : ℕ) (x : Laid) (what : What) (v : TextErr) → WhatIsSound what → what ≡ kind.Wire number x → find e.name.text at ≡ Some (what_is what) → x.width ≢ 1 → v ≡ No (record { number = 14; place = e.name.place; count = 0 })
    → IsCause (clock_faults e.name (find e.name.text at)) v
clock_wide at e number x what v s i f ne d =
    let h : IsSound x = subst WhatIsSound i s in
    let w : width (layout_is x) ≡ x.width = sym (sound_width x h).0 in
    let t : eqb x.width 1 ≡ false = grind (arith, nat_tests, ne) in
    refused (clock_faults e.name (find e.name.text at)) bad_width e.name.place v
    (ap (λ o. clock_faults e.name o) (f ∙ ap (λ y. Some (what_is y)) i) ∙ ap (λ m. fault_if (not (m == 1)) bad_width e.name.place) w ∙ ap (λ b. fault_if (not b) bad_width e.name.place) t) d

pub clock_unknown : (at : Scope) (e : Event) (o : Option Meant) (v : TextErr) → find e.name.text at ≡ o → clock_faults e.name o ≡ fault unknown_name e.name.place → v ≡ No (record { number = 12; place = e.name.place; count = 0 }) → IsCause (clock_faults e.name (find e.name.text at)) v
clock_unknown at e o v f g d = refused (clock_faults e.name (find e.name.text at)) unknown_name e.name.place v (ap (λ y. clock_faults e.name y) f ∙ g) d

-- ---- several events

faults_join : (at : Scope) (a b : List Event) → events_faults at (a ++ b) ≡ events_faults at a ++ events_faults at b
unfolding events_faults
faults_join at [] b = refl
faults_join at (e ∷ a) b = ap (λ f. clock_faults e.name (find e.name.text at) ++ f) (faults_join at a b) ∙ sym (append_assoc (clock_faults e.name (find e.name.text at)) (events_faults at a) (events_faults at b))

signals_join : (at : Scope) (a b : List Event) → of_each (event_signal at) (a ++ b) ≡ of_each (event_signal at) a ++ of_each (event_signal at) b
unfolding of_each
signals_join at [] b = refl
signals_join at (e ∷ a) b = ap (λ f. event_signal at e ++ f) (signals_join at a b) ∙ sym (append_assoc (event_signal at e) (of_each (event_signal at) a) (of_each (event_signal at) b))

and_some : (o : Option WireEdge) (p : Option (List WireEdge)) (all : List WireEdge) → and_more o p ≡ Some all → (x : WireEdge) × (more : List WireEdge) × (o ≡ Some x) × (p ≡ Some more) × (all ≡ x ∷ more)
and_some (Some x) (Some more) all e = (x, more, refl, refl, cc)
and_some (Some x) None all e = cc
and_some None p all e = cc

edges_join : (at : Scope) (a : List Event) (e : Event) (edges : List WireEdge) (x : WireEdge) → edges_of at a ≡ Some edges → edge_of e.edge (clock_of (find e.name.text at)) ≡ Some x → edges_of at (a ++ e ∷ []) ≡ Some (edges ++ x ∷ [])
unfolding edges_of
edges_join at [] e edges x h g = ap (λ o. and_more o (Some [])) g ∙ (let k : edges ≡ [] = cc in ap (λ ys. Some (ys ++ x ∷ [])) (sym k))
edges_join at (y ∷ a) e edges x h g =
    let k = and_some (edge_of y.edge (clock_of (find y.name.text at))) (edges_of at a) edges h in
    ap (λ o. and_more o (edges_of at (a ++ e ∷ []))) k.2
    ∙ ap (λ p. and_more (Some k.0) p) (edges_join at a e k.1 x k.3 g)
    ∙ ap (λ ys. Some (ys ++ x ∷ [])) (sym k.4)

map_join : (a b : List WireEdge) → edge_signals (a ++ b) ≡ edge_signals a ++ edge_signals b
map_join [] b = refl
map_join (x ∷ a) b = ap (λ ys. wire_signal x.wire 1 ∷ ys) (map_join a b)

pub no_edges : (at : Scope) → AreEdgesOf at [] []
unfolding of_each events_faults edges_of
no_edges at = record { clear = refl; are = refl; named_are = refl }

pub edges_more : (at : Scope) (all : List Event) (e : Event) (edges : List WireEdge) (x : WireEdge) → AreEdgesOf at all edges → IsEdge (event_signal at e) (clock_faults e.name (find e.name.text at)) (edge_of e.edge (clock_of (find e.name.text at))) x
    → AreEdgesOf at (all ++ e ∷ []) (edges ++ x ∷ [])
unfolding of_each events_faults
edges_more at all e edges x h k = record {
  clear = faults_join at all (e ∷ []) ∙ ap (λ f. f ++ (clock_faults e.name (find e.name.text at) ++ [])) h.clear ∙ ap (λ f. f ++ []) k.clear;
  are = edges_join at all e edges x h.are k.is;
  named_are = map_join edges (x ∷ []) ∙ ap (λ s. s ++ edge_signals (x ∷ [])) h.named_are ∙ ap (λ s. of_each (event_signal at) all ++ s) (k.named_are ∙ sym (append-nil (event_signal at e))) ∙ sym (signals_join at all (e ∷ []));
}

-- what stands against one stands against all that begin with it
pub event_cause : (at : Scope) (before : List Event) (e : Event) (why : TextErr) → IsCause (clock_faults e.name (find e.name.text at)) why → IsCause (events_faults at (before ++ e ∷ [])) why
unfolding events_faults
event_cause at before e why h =
    subst (λ f. IsCause f why) (sym (faults_join at before (e ∷ [])))
    (cause_from (clock_faults e.name (find e.name.text at)) (events_faults at before ++ (clock_faults e.name (find e.name.text at) ++ []))
    (λ r i. Contains-append_right (events_faults at before) (clock_faults e.name (find e.name.text at) ++ []) r (Contains-append_left (clock_faults e.name (find e.name.text at)) [] r i)) why h)

pub later_cause : (at : Scope) (some more : List Event) (why : TextErr) → IsCause (events_faults at some) why → IsCause (events_faults at (some ++ more)) why
later_cause at some more why h =
    subst (λ f. IsCause f why) (sym (faults_join at some more))
    (cause_from (events_faults at some) (events_faults at some ++ events_faults at more) (λ r i. Contains-append_left (events_faults at some) (events_faults at more) r i) why h)

-- ---- the events of a list, one by one

abbrev pub nexts : List NextEvent → List Event
nexts more = map (λ (next : NextEvent). next.event) more

take_next : (more : List NextEvent) (i : ℕ) (x : NextEvent) → i < length more → x ≡ get_or more i x → take (i + 1) more ≡ take i more ++ x ∷ []
take_next more i x l e = let n : i + 1 ≡ suc i = omega arith in ap (λ (k : ℕ). take k more) n ∙ take-suc more i x l ∙ ap (λ z. take i more ++ z ∷ []) (sym e)

pub event_next : (first : Event) (more : List NextEvent) (i : ℕ) (x : NextEvent) → i < length more → x ≡ get_or more i x → (first ∷ nexts (take i more)) ++ x.event ∷ [] ≡ first ∷ nexts (take (i + 1) more)
event_next first more i x l e = ap (λ ys. first ∷ ys) (sym (map-append (λ (next : NextEvent). next.event) (take i more) (x ∷ [])) ∙ ap nexts (sym (take_next more i x l e)))

pub events_rest : (first : Event) (more : List NextEvent) (n : ℕ) → (first ∷ nexts (take n more)) ++ nexts (drop n more) ≡ first ∷ nexts more
events_rest first more n = ap (λ ys. first ∷ ys) (sym (map-append (λ (next : NextEvent). next.event) (take n more) (drop n more)) ∙ ap nexts (take-append-drop n more))

-- what stands against the next event stands against all
pub next_cause : (at : Scope) (first : Event) (more : List NextEvent) (i : ℕ) (x : NextEvent) (why : TextErr) → i < length more → x ≡ get_or more i x → IsCause (events_faults at ((first ∷ nexts (take i more)) ++ x.event ∷ [])) why → IsCause (events_faults at (first ∷ nexts more)) why
next_cause at first more i x why l e h =
    subst (λ all. IsCause (events_faults at all) why) (events_rest first more (i + 1))
    (later_cause at (first ∷ nexts (take (i + 1) more)) (nexts (drop (i + 1) more)) why (subst (λ all. IsCause (events_faults at all) why) (event_next first more i x l e) h))

-- ---- manners

no_events : (at : Scope) (k : BlockKind) → kind_events k ≡ [] → (event_signals at k ≡ []) × (event_faults at k ≡ [])
unfolding of_each events_faults
no_events at k e = (ap (of_each (event_signal at)) e, ap (events_faults at) e)

-- a block that is set off by no edge
pub manner_plain : (at : Scope) (b : Block) (held : Held) → kind_events b.kind ≡ [] → manner_signals held ≡ [] → manner_is held ≡ manner at b → IsManner (event_signals at b.kind) (event_faults at b.kind) (manner at b) held
manner_plain at b held e n m = let g = no_events at b.kind e in record { clear = g.1; is = m; named_are = n ∙ sym g.0 }

-- one that is
pub manner_edges : (at : Scope) (b : Block) (events : Events) (edges : List WireEdge) → kind_events b.kind ≡ events_of events → manner at b ≡ events_manner at events → AreEdgesOf at (events_of events) edges
    → IsManner (event_signals at b.kind) (event_faults at b.kind) (manner at b) (Clocked edges)
manner_edges at b events edges e m h = record {
  clear = ap (events_faults at) e ∙ h.clear;
  is = sym (m ∙ ap by_edges h.are);
  named_are = h.named_are ∙ sym (ap (of_each (event_signal at)) e);
}

-- what comes of edges, which become a manner
abbrev pub Clocks : Result (List WireEdge) TextErr → Result Held TextErr → Type 0
Clocks r m = MatchResult r (λ edges. IsOkAnd m (λ held. held ≡ Clocked edges)) (λ e. m ≡ Err e)

pub manner_clocked : (at : Scope) (b : Block) (events : Events) (r : Result (List WireEdge) TextErr) (m : Result Held TextErr) → kind_events b.kind ≡ events_of events → manner at b ≡ events_manner at events → Clocks r m
    → JudgesEdges (of_each (event_signal at) (events_of events)) (events_faults at (events_of events)) (edges_of at (events_of events)) r → JudgesManner (event_signals at b.kind) (event_faults at b.kind) (manner at b) m
manner_clocked at b events (Ok edges) (Ok held) e k c h = subst (IsManner (event_signals at b.kind) (event_faults at b.kind) (manner at b)) (sym c) (manner_edges at b events edges e k h)
manner_clocked at b events (Ok edges) (Err why) e k c h = absurd c
manner_clocked at b events (Err why) m e k c h =
    subst (JudgesManner (event_signals at b.kind) (event_faults at b.kind) (manner at b)) (sym c) (subst (λ f. IsCause f why) (sym (ap (events_faults at) e)) h)

pub mark_clocked : (b : Block) (r : Result (List WireEdge) TextErr) (m : Result Held TextErr) → block_mark b ≡ mark.Nonblocking → Clocks r m → IfOk m (λ held. mark_of held ≡ block_mark b)
mark_clocked b (Ok edges) (Ok held) e c = ap mark_of c ∙ sym e
mark_clocked b (Ok edges) (Err why) e c = tt
mark_clocked b (Err why) m e c = subst (λ (x : Result Held TextErr). IfOk x (λ held. mark_of held ≡ block_mark b)) (sym c) tt

-- ---- what stands against a block

pub all_clear : (event mark deeds turns : Faults) → event ≡ [] → mark ≡ [] → deeds ≡ [] → turns ≡ [] → event ++ (mark ++ (deeds ++ turns)) ≡ []
all_clear event mark deeds turns a b c d = ap (λ x. x ++ (mark ++ (deeds ++ turns))) a ∙ ap (λ x. x ++ (deeds ++ turns)) b ∙ ap (λ x. x ++ turns) c ∙ d

pub cause_event : (event mark rest : Faults) (e : TextErr) → IsCause event e → IsCause (event ++ (mark ++ rest)) e
cause_event event mark rest e h = cause_from event (event ++ (mark ++ rest)) (λ r i. Contains-append_left event (mark ++ rest) r i) e h

pub cause_mark : (event mark rest : Faults) (e : TextErr) → IsCause mark e → IsCause (event ++ (mark ++ rest)) e
cause_mark event mark rest e h = cause_from mark (event ++ (mark ++ rest)) (λ r i. Contains-append_right event (mark ++ rest) r (Contains-append_left mark rest r i)) e h

pub cause_rest : (event mark rest : Faults) (e : TextErr) → IsCause rest e → IsCause (event ++ (mark ++ rest)) e
cause_rest event mark rest e h = cause_from rest (event ++ (mark ++ rest)) (λ r i. Contains-append_right event (mark ++ rest) r (Contains-append_right mark rest r i)) e h

pub marks_as : (b c : AssignMark) (x : Stmt) → b ≡ c → marks b x ≡ [] → marks c x ≡ []
marks_as b c x e h = subst (λ d. marks d x ≡ []) e h

pub mark_cause : (b c : AssignMark) (x : Stmt) (e : TextErr) → b ≡ c → IsCause (marks b x) e → IsCause (marks c x) e
mark_cause b c x e s h = subst (λ d. IsCause (marks d x) e) s h

-- ---- what a block contributes

end_value : (held : Held) (all : List Action) (d : Deed) (p : Phase) → Does all d → block_end held all p ≡ block_value (manner_is held) d p.previous p.present
end_value Comb all d p h = h.run (comb_look (writes_all all) p.present) all_unknown ∙ ap (λ ts. d.run (comb_look ts p.present) all_unknown) h.writes
end_value Latch all d p h =
    h.run (latch_look mark.Blocking (writes_all all) p.previous p.present) p.previous ∙ ap (λ ts. d.run (latch_look mark.Blocking ts p.previous p.present) p.previous) h.writes
end_value HeldLatch all d p h =
    h.run (latch_look mark.Nonblocking (writes_all all) p.previous p.present) p.previous ∙ ap (λ ts. d.run (latch_look mark.Nonblocking ts p.previous p.present) p.previous) h.writes
end_value (Clocked edges) all d p h = ap (λ s. merged (trigger edges p.previous p.present) s p.previous) (h.run (clocked_look edges p.previous p.present) p.previous)

pub block_given : (at : Scope) (targets : List NamedSignal) (held : Held) (all : List Action) (d : Deed) (m : Manner) (new : List Shape) (drivers : List Driver) → manner_is held ≡ m → Does all d → Contributes at targets held all new drivers → (p : Phase) → drivers_give new drivers p ≡ block_gives d (block_value m d p.previous p.present)
block_given at targets held all d m new drivers e h g p =
    g.gives p
    ∙ ap (λ s. given s (distinct (writes_all all))) (end_value held all d p h)
    ∙ ap (λ ts. given (block_value (manner_is held) d p.previous p.present) (distinct ts)) h.writes
    ∙ ap (λ x. given (block_value x d p.previous p.present) (distinct d.targets)) e

-- ---- what is declared

pub all_declared : (at : Scope) (held : Held) (all : List Action) (b : Block) → manner_signals held ≡ event_signals at b.kind → Does all (deed b.body at) → AreDeclared at (named_in all (target_signals at b.body) held)
all_declared at held all b e h =
    two_declared at (names_all all) (target_signals at b.body ++ manner_signals held) (λ s i. deed_declared at b.body s (h.names s i))
    (two_declared at (target_signals at b.body) (manner_signals held) (targets_declared at b.body) (subst (AreDeclared at) (sym e) (event_declared at b.kind)))

pub block_sound : (at : Scope) (held : Held) (all : List Action) (b : Block) (new : List Shape) (drivers : List Driver) → manner_signals held ≡ event_signals at b.kind → Does all (deed b.body at)
    → Contributes at (target_signals at b.body) held all new drivers → (widths : List ℕ) → AreWires at widths → All (IsDriver widths new) drivers
block_sound at held all b new drivers e h g widths w = g.sound widths w (all_declared at held all b e h)

-- ---- what is named in the present

before_some : (o : Origin) (m n : ℕ) (xs : List ℕ) → Contains (wire_before o m xs) n → ((o ≡ of_wires) × (m ≡ n)) ⊎ Contains xs n
before_some of_wires m n xs (zero, l, e) = inl (refl, e)
before_some of_wires m n xs (suc i, l, e) = inr (i, omega arith, e)
before_some of_choice m n xs h = inr h
before_some of_samples m n xs h = inr h

wire_named : (names : List NamedSignal) (n : ℕ) → Contains (wires_named names) n → (s : NamedSignal) × Contains names s × (s.owner ≡ of_wires) × (s.number ≡ n)
unfolding wires_named
wire_named [] n h = absurd (omega (arith, h.1))
wire_named (x ∷ names) n h = elim (before_some x.owner x.number n (wires_named names) h) [
  | inl y ↦ (x, (0, omega arith, refl), y.0, y.1)
  | inr y ↦ let g = wire_named names n y in let i = g.1 in (g.0, (suc i.0, omega (arith, i.1), i.2), g.2, g.3)
]

wires_more : (a b : List NamedSignal) (n : ℕ) → ((s : NamedSignal) → Contains a s → Contains b s) → Contains (wires_named a) n → Contains (wires_named b) n
wires_more a b n f h = let g = wire_named a n h in subst (Contains (wires_named b)) g.3 (named_wire b g.0 g.2 (f g.0 g.1))

kept : (f : ℕ → Bool) (xs : List ℕ) (x n : ℕ) → (Contains (filter f xs) n → Contains xs n × (f n ≡ true)) → f x ≡ true → Contains (x ∷ filter f xs) n → Contains (x ∷ xs) n × (f n ≡ true)
kept f xs x n h t (zero, l, e) = ((0, omega arith, e), ap f (sym e) ∙ t)
kept f xs x n h t (suc i, l, e) = let rest = h (i, omega arith, e) in let j = rest.0 in ((suc j.0, omega (arith, j.1), j.2), rest.1)

filter_out : (f : ℕ → Bool) (xs : List ℕ) (n : ℕ) → Contains (filter f xs) n → Contains xs n × (f n ≡ true)
filter_out f [] n h = absurd (omega (arith, h.1))
filter_out f (x ∷ xs) n h = elim (cases_Bool (f x)) [
  | inl t ↦ kept f xs x n (λ g. filter_out f xs n g) t (subst (λ ys. Contains ys n) (ap (λ b. cond b (x ∷ filter f xs) (filter f xs)) t) h)
  | inr t ↦ let rest = filter_out f xs n (subst (λ ys. Contains ys n) (ap (λ b. cond b (x ∷ filter f xs) (filter f xs)) t) h) in let i = rest.0 in ((suc i.0, omega (arith, i.1), i.2), rest.1)
]

now_seen : (wires : List Signal) (all : List Action) (d : Deed) (n : ℕ) → Does all d → Contains (filter (is_read_now wires (writes_all all)) (wires_named (names_all all))) n → Contains (filter (is_read_now wires d.targets) (wires_named d.names)) n
now_seen wires all d n h i =
    let g = filter_out (is_read_now wires (writes_all all)) (wires_named (names_all all)) n i in
    filter_in (is_read_now wires d.targets) (wires_named d.names) n (wires_more (names_all all) d.names n h.names g.0) (subst (λ ts. is_read_now wires ts n ≡ true) h.writes g.1)

now_in : (wires : List Signal) (held : Held) (all : List Action) (d : Deed) (n : ℕ) → Does all d → Contains (now_names wires held all) n → Contains (block_names wires (manner_is held) d) n
now_in wires Comb all d n h i = now_seen wires all d n h i
now_in wires Latch all d n h i = now_seen wires all d n h i
now_in wires HeldLatch all d n h i = now_seen wires all d n h i
now_in wires (Clocked edges) all d n h i = i

named_more : (at : Scope) (held : Held) (all : List Action) (b : Block) → manner_signals held ≡ event_signals at b.kind → Does all (deed b.body at) → (s : NamedSignal) → Contains (named_in all (target_signals at b.body) held) s → Contains (signals_of at b) s
named_more at held all b e h s i = elim (Contains-append_cases (names_all all) (target_signals at b.body ++ manner_signals held) s i) [
  | inl x ↦ Contains-append_left (deed b.body at).names (target_signals at b.body ++ event_signals at b.kind) s (h.names s x)
  | inr y ↦ Contains-append_right (deed b.body at).names (target_signals at b.body ++ event_signals at b.kind) s (subst (λ xs. Contains (target_signals at b.body ++ xs) s) e y)
]

pub block_mentions : (at : Scope) (held : Held) (all : List Action) (b : Block) (m : Manner) (new : List Shape) (drivers : List Driver) → manner_is held ≡ m → manner_signals held ≡ event_signals at b.kind → Does all (deed b.body at)
    → Contributes at (target_signals at b.body) held all new drivers
    → (wires : List Signal) (p : VarName → ℕ → Bool) → AreWires at (widths_of wires) → Reads (signals_of at b) (block_names wires m (deed b.body at)) p → All (λ d. IsTrue (each_variable p new d.value)) drivers
block_mentions at held all b m new drivers e k h g wires p w r =
    g.mentions wires p w (all_declared at held all b k h) (record {
      previous = λ s i. r.previous s (named_more at held all b k h s i);
      present = λ s i n. r.present s (named_more at held all b k h s i) (subst (λ y. Contains (block_names wires y (deed b.body at)) s.number) e (now_in wires held all (deed b.body at) s.number h n));
    })
