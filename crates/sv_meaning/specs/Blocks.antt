-- Blocks: what their statements leave in the store, and what they contribute.
use Rattle.std.specs.Prelude.{ℕ, Bool, true, false, ◌||◌, not, ◌==◌, List, [], ◌∷◌, ◌++◌, map, Option, Some, None, if◌then◌else◌}
use Rattle.std.specs.List.{list_any}
use mathlib.Core.Former.{Count}
use Rattle.fourvec.specs.declared.Bit.{Bit}
use Rattle.fourvec.specs.declared.Bit.TheVariants.{Zero, Unknown}
use Rattle.fourvec.specs.Bits.{and_bit, or_bit, not_bit}
use Rattle.sv_tree.specs.declared.stmts.Edge.{Edge}
use Rattle.sv_tree.specs.declared.stmts.Edge.TheVariants as edge
use Rattle.sv_tree.specs.declared.stmts.Event.{Event}
use Rattle.sv_tree.specs.declared.stmts.NextEvent.{NextEvent}
use Rattle.sv_tree.specs.declared.stmts.Events.{Events}
use Rattle.sv_tree.specs.declared.stmts.AssignMark.{AssignMark}
use Rattle.sv_tree.specs.declared.stmts.AssignMark.TheVariants as mark
use Rattle.sv_tree.specs.declared.stmts.BlockKind.{BlockKind}
use Rattle.sv_tree.specs.declared.stmts.BlockKind.TheVariants as kind
use Rattle.sv_tree.specs.declared.stmts.Block.{Block}
use Rattle.sv_tree.specs.declared.stmts.Stmt.{Stmt, Empty, Block', If', Case', For', Assign, Row_of-Stmt, end_of-Stmt, more_of-Stmt, Row_of-Arm, end_of-Arm, more_of-Arm, Held-Stmt-If-3, None', Some'}
use Rattle.sv_tree.specs.declared.stmts.Arm.{Labels', Default'}
use Rattle.sv_outside.specs.declared.refusal.Place.{Place}
use Rattle.sv_tree.specs.declared.word.Word.{Word}
use Rattle.sv_meaning.specs.Faults.{Faults, fault, fault_if, unknown_name, bad_width, wrong_assign}
use Rattle.sv_meaning.specs.Layouts.{width, Scope, What, signal_is, of_wires, Read, find}
use Rattle.lhs_alias.specs.declared.segs.WireBit.{WireBit}
use Rattle.lhs_alias.specs.Segs.{bit}
use Rattle.settling.specs.Settling.{Store, same_bit}
use Rattle.sv_meaning.specs.Deeds.{Deed, deed, merged}
use Rattle.sv_meaning.specs.declared.events.WireEdge.{WireEdge}

-- ---- which bits

unfoldable pub has_bit : WireBit → List WireBit → Bool
has_bit b [] = false
has_bit b (x ∷ more) = same_bit x b || has_bit b more

-- each once
unfoldable pub distinct : List WireBit → List WireBit
distinct [] = []
distinct (x ∷ more) = if has_bit x more then distinct more else x ∷ distinct more

-- a valuation of the wires, as names read it
abbrev pub reads : Store → Read
reads now of_wires n k = now n k
reads now o n k = Unknown

-- ---- combinational blocks, IEEE 1800-2017 section 9.2.2.2

abbrev pub all_unknown : Store
all_unknown n k = Unknown

-- a target bit reads the block's store, any other the present valuation
abbrev pub comb_look : List WireBit → Store → Store → Read
comb_look targets now store = reads (λ n k. if has_bit (bit n k) targets then store n k else now n k)

-- the store after a combinational block
abbrev pub comb_end : Deed → Store → Store
comb_end a now = a.run (comb_look a.targets now) all_unknown

-- ---- latch blocks, section 9.2.2.3

-- What a target bit reads: where the assignments are `=` the block's store, and where they are `<=` the previous valuation (this
-- project's rule).
abbrev pub held : AssignMark → Store → Store → Store
held mark.Blocking prev store = store
held mark.Nonblocking prev store = prev

-- any other bit reads the present valuation
abbrev pub latch_look : AssignMark → List WireBit → Store → Store → Store → Read
latch_look m targets prev now store = reads (λ n k. if has_bit (bit n k) targets then held m prev store n k else now n k)

-- the store after a latch block, which starts as the previous valuation
abbrev pub latch_end : AssignMark → Deed → Store → Store → Store
latch_end m a prev now = a.run (latch_look m a.targets prev now) prev

-- ---- events, section 9.4.2

-- the wire of an event's name, which has one bit
abbrev pub clock_of : Option What → Option ℕ
clock_of (Some (signal_is of_wires n x)) = if width x == 1 then Some n else None
clock_of x = None

abbrev pub edge_of : Edge → Option ℕ → Option WireEdge
edge_of e None = None
edge_of e (Some n) = Some (record { edge = e; wire = n })

abbrev pub and_more : Option WireEdge → Option (List WireEdge) → Option (List WireEdge)
and_more (Some x) (Some more) = Some (x ∷ more)
and_more x more = None

-- the edges of events, where the name of each is a wire of one bit
unfoldable pub edges_of : Scope → List Event → Option (List WireEdge)
edges_of at [] = Some []
edges_of at (e ∷ more) = and_more (edge_of e.edge (clock_of (find e.name.text at))) (edges_of at more)

abbrev pub trigger_bit : Edge → Bit → Bit → Bit
trigger_bit edge.Pos c before = and_bit c (not_bit before)
trigger_bit edge.Neg c before = and_bit (not_bit c) before

-- whether the edge stands between the previous and the present valuation
abbrev pub edge_bit : WireEdge → Store → Store → Bit
edge_bit x prev now = trigger_bit x.edge (now x.wire 0) (prev x.wire 0)

-- whether one of them does
unfoldable pub trigger : List WireEdge → Store → Store → Bit
trigger [] prev now = Zero
trigger (x ∷ more) prev now = or_bit (edge_bit x prev now) (trigger more prev now)

-- ---- clocked blocks, section 9.2.2.4

-- the wire is that of an event
abbrev pub is_event : List WireEdge → ℕ → Bool
is_event edges n = list_any (λ x. n == x.wire) edges

-- each name reads the previous valuation, and the names of the events the present one
abbrev pub clocked_look : List WireEdge → Store → Store → Store → Read
clocked_look edges prev now store = reads (λ n k. if is_event edges n then now n k else prev n k)

-- the store after a clocked block, which starts as the previous valuation
abbrev pub clocked_end : Deed → List WireEdge → Store → Store → Store
clocked_end a edges prev now = a.run (clocked_look edges prev now) prev

abbrev pub clocked_value : Deed → List WireEdge → Store → Store → Store
clocked_value a edges prev now = merged (trigger edges prev now) (clocked_end a edges prev now) prev

-- ---- the marks of assignments (this project's rule)

-- the mark of the first assignment of a statement, in the order of the text
abbrev pub earlier : Option AssignMark → Option AssignMark → Option AssignMark
earlier (Some m) later = Some m
earlier None later = later

unfoldable mutual
  pub first_mark : Stmt → Option AssignMark
  first_mark Empty = None
  first_mark (Block' p b s all e) = first_mark_of all
  first_mark (If' u x r (more_of-Stmt y end_of-Stmt) other) = earlier (first_mark y) (first_mark_else other)
  first_mark (Case' u word x s all) = first_mark_arms all
  first_mark (For' p form name start test next r (more_of-Stmt body end_of-Stmt)) = first_mark body
  first_mark (Assign to m p x) = Some m

  pub first_mark_else : Held-Stmt-If-3 → Option AssignMark
  first_mark_else None' = None
  first_mark_else (Some' r (more_of-Stmt x end_of-Stmt)) = first_mark x

  pub first_mark_of : {m : Count} → Row_of-Stmt m → Option AssignMark
  first_mark_of end_of-Stmt = None
  first_mark_of (more_of-Stmt x all) = earlier (first_mark x) (first_mark_of all)

  pub first_mark_arms : {m : Count} → Row_of-Arm m → Option AssignMark
  first_mark_arms end_of-Arm = None
  first_mark_arms (more_of-Arm (Labels' xs r (more_of-Stmt x end_of-Stmt)) all) = earlier (first_mark x) (first_mark_arms all)
  first_mark_arms (more_of-Arm (Default' colon r (more_of-Stmt x end_of-Stmt)) all) = earlier (first_mark x) (first_mark_arms all)

-- `=` where there is none
abbrev pub mark_or : Option AssignMark → AssignMark
mark_or (Some m) = m
mark_or None = mark.Blocking

-- the mark that all assignments of a block have: `=` in a combinational one, `<=` in a clocked one, that of the first in a latch block
abbrev pub kind_mark : BlockKind → Stmt → AssignMark
kind_mark kind.Comb body = mark.Blocking
kind_mark kind.Latch body = mark_or (first_mark body)
kind_mark (kind.Ff all) body = mark.Nonblocking
kind_mark (kind.Always all) body = mark.Nonblocking
kind_mark kind.Star body = mark.Blocking
kind_mark kind.StarParen body = mark.Blocking

abbrev pub block_mark : Block → AssignMark
block_mark b = kind_mark b.kind b.body

abbrev pub is_mark : AssignMark → AssignMark → Bool
is_mark mark.Blocking mark.Blocking = true
is_mark mark.Nonblocking mark.Nonblocking = true
is_mark m given = false

abbrev pub mark_faults : AssignMark → AssignMark → Place → Faults
mark_faults m given p = fault_if (not (is_mark m given)) wrong_assign p

-- also of statements that no turn reaches
unfoldable mutual
  pub marks : AssignMark → Stmt → Faults
  marks m Empty = []
  marks m (Block' p b s all e) = marks_of m all
  marks m (If' u x r (more_of-Stmt y end_of-Stmt) other) = marks m y ++ marks_else m other
  marks m (Case' u word x s all) = marks_arms m all
  marks m (For' p form name start test next r (more_of-Stmt body end_of-Stmt)) = marks m body
  marks m (Assign to given p x) = mark_faults m given p

  pub marks_else : AssignMark → Held-Stmt-If-3 → Faults
  marks_else m None' = []
  marks_else m (Some' r (more_of-Stmt x end_of-Stmt)) = marks m x

  pub marks_of : {k : Count} → AssignMark → Row_of-Stmt k → Faults
  marks_of m end_of-Stmt = []
  marks_of m (more_of-Stmt x all) = marks m x ++ marks_of m all

  pub marks_arms : {k : Count} → AssignMark → Row_of-Arm k → Faults
  marks_arms m end_of-Arm = []
  marks_arms m (more_of-Arm (Labels' xs r (more_of-Stmt x end_of-Stmt)) all) = marks m x ++ marks_arms m all
  marks_arms m (more_of-Arm (Default' colon r (more_of-Stmt x end_of-Stmt)) all) = marks m x ++ marks_arms m all

-- ---- blocks

pub data Manner : Type 0 where
  comb : Manner
  latch : AssignMark → Manner
  clocked : List WireEdge → Manner
  no_manner : Manner

abbrev pub by_edges : Option (List WireEdge) → Manner
by_edges None = no_manner
by_edges (Some edges) = clocked edges

-- the events of a list, in order
abbrev pub events_of : Events → List Event
events_of all = all.first ∷ map (λ next. next.event) all.more

abbrev pub events_manner : Scope → Events → Manner
events_manner at all = by_edges (edges_of at (events_of all))

abbrev pub kind_manner : Scope → BlockKind → Stmt → Manner
kind_manner at kind.Comb body = comb
kind_manner at kind.Latch body = latch (mark_or (first_mark body))
kind_manner at (kind.Ff all) body = events_manner at all
kind_manner at (kind.Always all) body = events_manner at all
kind_manner at kind.Star body = comb
kind_manner at kind.StarParen body = comb

abbrev pub manner : Scope → Block → Manner
manner at b = kind_manner at b.kind b.body

-- what the block gives its target bits
abbrev pub block_value : Manner → Deed → Store → Store → Store
block_value comb a prev now = comb_end a now
block_value (latch m) a prev now = latch_end m a prev now
block_value (clocked edges) a prev now = clocked_value a edges prev now
block_value no_manner a prev now = prev

-- the name of an event is a net or variable of one bit
abbrev pub clock_faults : Word → Option What → Faults
clock_faults w (Some (signal_is of_wires n x)) = fault_if (not (width x == 1)) bad_width w.place
clock_faults w x = fault unknown_name w.place

unfoldable pub events_faults : Scope → List Event → Faults
events_faults at [] = []
events_faults at (e ∷ more) = clock_faults e.name (find e.name.text at) ++ events_faults at more

abbrev pub kind_events : BlockKind → List Event
kind_events (kind.Ff all) = events_of all
kind_events (kind.Always all) = events_of all
kind_events k = []

abbrev pub event_faults : Scope → BlockKind → Faults
event_faults at k = events_faults at (kind_events k)

-- what stands against a block, where so many turns were made before
abbrev pub block_faults : Scope → Block → ℕ → Faults
block_faults at b made = event_faults at b.kind ++ (marks (block_mark b) b.body ++ ((deed b.body at).faults ++ (deed b.body at).overrun made))
