-- What small designs are made of, what they contribute and what stands against them, worked out by hand.
use Rattle.std.proofs.Common.{◌≡◌, ℕ, ◌+◌, true, List, [], ◌∷◌, ◌++◌, map, replicate, refl, codes, ◌==◌, if◌then◌else◌, Option, Some, None, Ok, Err}
use Rattle.fourvec.specs.declared.Bit.{Bit}
use Rattle.fourvec.specs.declared.Bit.TheVariants.{Zero, One, Unknown, Floating}
use Rattle.sv_tree.specs.declared.exprs.Expr.{Expr}
use Rattle.sv_tree.specs.declared.exprs.BinaryOp.TheVariants as two
use Rattle.sv_tree.specs.declared.forms.BitsWord.TheVariants as bits_word
use Rattle.sv_tree.specs.declared.forms.WholeWord.TheVariants as whole_word
use Rattle.sv_tree.specs.declared.forms.TypeTree.{TypeTree, Vector}
use Rattle.sv_tree.specs.declared.stmts.Lvalue.{Name}
use Rattle.sv_tree.specs.declared.stmts.Stmt.{Stmt, Block', If' as IfStmt, Assign as Set, end_of-Stmt, more_of-Stmt, None' as no_else, Some' as else_of}
use Rattle.sv_tree.specs.declared.stmts.AssignMark.TheVariants as mark
use Rattle.sv_tree.specs.declared.stmts.BlockKind.TheVariants as kind
use Rattle.sv_tree.specs.declared.stmts.Edge.TheVariants as edge
use Rattle.sv_tree.specs.declared.stmts.EventMark.TheVariants as event_mark
use Rattle.sv_tree.specs.declared.stmts.Step.TheVariants as loop_step
use Rattle.sv_tree.specs.declared.stmts.StepMark.TheVariants as step_mark
use Rattle.sv_tree.specs.declared.design.Way.TheVariants as way
use Rattle.sv_tree.specs.declared.design.ParamWord.TheVariants as param_word
use Rattle.sv_tree.specs.declared.design.ParamType.TheVariants as param_type
use Rattle.sv_tree.specs.declared.design.Pins.TheVariants as pins
use Rattle.sv_tree.specs.declared.design.Pin.TheVariants as pin
use Rattle.sv_tree.specs.declared.design.NamedPin.{NamedPin}
use Rattle.sv_tree.specs.declared.design.Port.{Port}
use Rattle.sv_tree.specs.declared.design.Module.{Module}
use Rattle.sv_tree.specs.declared.design.Source.{Source}
use Rattle.sv_tree.specs.declared.design.SourcePart.TheVariants as source_part
use Rattle.sv_tree.specs.declared.design.Item.{Item, Variable, Param, Assign, Always, Inst, For', If', end_of-Item, more_of-Item, end_of-Gen, more_of-Gen, None'}
use Rattle.sv_tree.specs.declared.design.Gen.{Block' as GenBlock}
use Rattle.sv_meaning.specs.Patterns.{index}
use Rattle.sv_meaning.specs.Faults.{Faults, Judged, fault, bad_token, top_unclear, unknown_module, unknown_name, twice, bad_width, not_constant, port_unknown, port_twice, bad_target, loop_long, instance_deep, wrong_assign}
use Rattle.lhs_alias.specs.declared.segs.WireBit.{WireBit}
use Rattle.lhs_alias.specs.Segs.{bit as wire_bit}
use Rattle.settling.specs.Settling.{Store, Contribution, given_to}
use Rattle.sv_meaning.specs.Designs.{Design, contributions, links_of}
use Rattle.sv_hierarchy.specs.Scopes.{State, Instance, scopes, instances, design, source_faults}
use Rattle.sv_hierarchy.proofs.OnTrees.{designs_on_trees}
use Rattle.sv_meaning.proofs.Trees.{at, word, lit, name, selected, span, times, two_of, op}

-- ---- parts of designs

-- logic
abbrev bit : TypeTree
bit = Vector (Some bits_word.Logic) None []

-- logic [7:0]
abbrev byte : TypeTree
byte = Vector (Some bits_word.Logic) None (record { place = at 90; left = lit 91 (codes "7"); right = lit 92 (codes "0") } ∷ [])

abbrev input : TypeTree → List ℕ → Port
input t n = record { way = Some way.Input; kind = None; form = Some t; name = word 1 n }

abbrev output : TypeTree → List ℕ → Port
output t n = record { way = Some way.Output; kind = None; form = Some t; name = word 1 n }

abbrev unit_of : List ℕ → List Port → List Item → Module
unit_of n ports items = record { name = word 1 n; params = []; ports = Some ports; items = items; label = None }

abbrev source_of : List Module → Source
source_of all = record { parts = map source_part.Module all }

abbrev alone : List Port → List Item → Source
alone ports items = source_of (unit_of (codes "m") ports items ∷ [])

abbrev assign : ℕ → List ℕ → Expr → Item
assign k n x = Assign (record { target = Name (word k n) []; value = x } ∷ [])

abbrev set : ℕ → List ℕ → Expr → Stmt
set k n x = Set (Name (word k n) []) mark.Blocking (at (k + 1)) x

abbrev comb : Stmt → Item
comb s = Always (record { kind = kind.Comb; body = s })

abbrev clocked : Stmt → Item
clocked s = Always (record { kind = kind.Ff (record { first = record { edge = edge.Pos; name = word 70 (codes "c") }; more = [] }); body = s })

-- @(posedge c or posedge r)
abbrev clocked_or_reset : Stmt → Item
clocked_or_reset s =
    Always (record {
      kind = kind.Ff (record { first = record { edge = edge.Pos; name = word 70 (codes "c") }; more = record { mark = event_mark.Or; event = record { edge = edge.Pos; name = word 72 (codes "r") } } ∷ [] });
      body = s;
    })

abbrev latched : Stmt → Item
latched s = Always (record { kind = kind.Latch; body = s })

abbrev in_order : Stmt → Stmt → Stmt
in_order x y = Block' (at 60) None (tt ∷ tt ∷ []) (more_of-Stmt x (more_of-Stmt y end_of-Stmt)) None

-- one instance with its connections by name
abbrev instance : ℕ → List ℕ → List ℕ → List NamedPin → Item
instance k m n all = Inst (record { of_module = word k m; params = None; list = record { name = word (k + 1) n; pins = Some (pins.Named all) } ∷ [] })

abbrev connect : ℕ → List ℕ → Expr → NamedPin
connect k n x = record { name = word k n; pin = pin.Given x }

-- ---- what is looked at

abbrev paths : Judged Design → List (List ℕ)
paths (Err all) = []
paths (Ok d) = map (λ w. w.path) d.wires

abbrev gives : Judged Design → Store → Store → List Contribution
gives (Err all) prev now = []
gives (Ok d) prev now = contributions d prev now

abbrev first_links : Judged Design → List (ℕ × ℕ)
first_links (Err all) = []
first_links (Ok d) = map (λ l. (l.0.wire, l.1.wire)) (links_of d.works)

abbrev blocks : Judged State → List (List ℕ × Option ℕ)
blocks (Err all) = []
blocks (Ok st) = map (λ (i : Instance). (i.path, i.parent)) (instances st)

-- what a bit is given, without stimuli
abbrev at_bit : WireBit → Judged Design → Store → List Bit
at_bit b (Err all) now = []
at_bit b (Ok d) now = given_to (links_of d.works) b (contributions d now now)

abbrev the_source : Source → Judged Design
the_source s = design s None

abbrev all_one : Store
all_one n k = One

abbrev no_value : Store
no_value n k = Unknown

-- ---- names and wires

-- module m; if (1) begin logic a; end endmodule
unnamed : Source
unnamed = alone [] (If' (at 1) (lit 2 (codes "1")) tt (more_of-Gen (GenBlock (at 3) None (tt ∷ []) (more_of-Item (Variable bit (word 4 (codes "a") ∷ [])) end_of-Item) None) end_of-Gen) None' ∷ [])

unnamed_wires : paths (the_source unnamed) ≡ codes "genblk1.a" ∷ []
unfolding designs_on_trees unnamed
unnamed_wires = refl

-- module m; logic a; logic a; endmodule: E13 at the second name
abbrev twice_named : Source
twice_named = alone [] (Variable bit (word 3 (codes "a") ∷ []) ∷ Variable bit (word 6 (codes "a") ∷ []) ∷ [])

twice_named_fault : source_faults twice_named None ≡ fault twice (at 6)
unfolding designs_on_trees
twice_named_fault = refl

-- trees that no text spells: a name of no bytes, one with a blank, and one that begins with a dollar, are E2
unnamed_wire : Source
unnamed_wire = alone [] (Variable bit (word 3 [] ∷ []) ∷ [])

unnamed_wire_fault : source_faults unnamed_wire None ≡ fault bad_token (at 3)
unfolding designs_on_trees unnamed_wire
unnamed_wire_fault = refl

blank_name : Source
blank_name = alone [] (Variable bit (word 3 (codes "a") ∷ word 5 (codes "a b") ∷ []) ∷ [])

blank_name_fault : source_faults blank_name None ≡ fault bad_token (at 5)
unfolding designs_on_trees blank_name
blank_name_fault = refl

dollar_name : Source
dollar_name = alone [] (Variable bit (word 3 (codes "a$1") ∷ word 5 (codes "$a") ∷ []) ∷ [])

dollar_name_fault : source_faults dollar_name None ≡ fault bad_token (at 5)
unfolding designs_on_trees dollar_name
dollar_name_fault = refl

-- an empty file has no top
no_top : source_faults (record { parts = [] }) None ≡ record { number = top_unclear; place = at 1; count = 0 } ∷ []
unfolding designs_on_trees
no_top = refl

-- module m; m u(); endmodule, with the top m: the instance at level 33
abbrev endless : Source
endless = alone [] (instance 3 (codes "m") (codes "u") [] ∷ [])

endless_fault : source_faults endless (Some (codes "m")) ≡ fault instance_deep (at 4)
unfolding designs_on_trees
endless_fault = refl

-- an instance of no module
no_module : source_faults (alone [] (instance 3 (codes "k") (codes "u") [] ∷ [])) None ≡ fault unknown_module (at 3)
unfolding designs_on_trees
no_module = refl

-- ---- contributions

-- assign y = a & b
abbrev both : Source
both = alone (input bit (codes "a") ∷ input bit (codes "b") ∷ output bit (codes "y") ∷ []) (assign 5 (codes "y") (op (name 7 (codes "a")) two.And 8 (name 9 (codes "b"))) ∷ [])

both_gives : gives (the_source both) all_one all_one ≡ (wire_bit 2 0, One) ∷ []
unfolding designs_on_trees
both_gives = refl

both_legal : source_faults both None ≡ []
unfolding designs_on_trees
both_legal = refl

-- two drivers of y: 1 and 0 are both given, and the resolution is X
abbrev fought : Source
fought = alone (output bit (codes "y") ∷ []) (assign 5 (codes "y") (lit 7 (codes "1'b1")) ∷ assign 9 (codes "y") (lit 11 (codes "1'b0")) ∷ [])

fought_bits : at_bit (wire_bit 0 0) (the_source fought) no_value ≡ One ∷ Zero ∷ []
unfolding designs_on_trees
fought_bits = refl

-- always_comb begin y = 8'h0f; y[i] = 1'b1; end, with i unknown: each bit stays where it equals the bit that is written
abbrev written : Source
written = alone (input bit (codes "i") ∷ output byte (codes "y") ∷ [])
    (comb (in_order (set 5 (codes "y") (lit 7 (codes "8'h0f"))) (Set (Name (word 9 (codes "y")) (index (at 10) (name 11 (codes "i")) ∷ [])) mark.Blocking (at 12) (lit 13 (codes "1'b1")))) ∷ [])

written_gives : map (λ c. c.1) (gives (the_source written) no_value no_value) ≡ replicate 4 One ++ replicate 4 Unknown
unfolding designs_on_trees
written_gives = refl

-- always_comb if (c) y = 1'bz; else y = 1'bz; gives Z with c unknown
abbrev same_branches : Source
same_branches = alone (input bit (codes "c") ∷ output bit (codes "y") ∷ [])
    (comb (IfStmt None (name 5 (codes "c")) tt (more_of-Stmt (set 6 (codes "y") (lit 8 (codes "1'bz"))) end_of-Stmt) (else_of tt (more_of-Stmt (set 9 (codes "y") (lit 11 (codes "1'bz"))) end_of-Stmt))) ∷ [])

same_branches_give : gives (the_source same_branches) no_value no_value ≡ (wire_bit 1 0, Floating) ∷ []
unfolding designs_on_trees
same_branches_give = refl

-- always_comb if (c) y = 1'b1; else y = 1'b0; gives X with c unknown
abbrev other_branches : Source
other_branches = alone (input bit (codes "c") ∷ output bit (codes "y") ∷ [])
    (comb (IfStmt None (name 5 (codes "c")) tt (more_of-Stmt (set 6 (codes "y") (lit 8 (codes "1'b1"))) end_of-Stmt) (else_of tt (more_of-Stmt (set 9 (codes "y") (lit 11 (codes "1'b0"))) end_of-Stmt))) ∷ [])

other_branches_give : gives (the_source other_branches) no_value no_value ≡ (wire_bit 1 0, Unknown) ∷ []
unfolding designs_on_trees
other_branches_give = refl

-- always_comb if (c) y = 1'b1; gives X where c is 0: no path writes y there, whatever y was
abbrev one_branch : Source
one_branch = alone (input bit (codes "c") ∷ output bit (codes "y") ∷ [])
    (comb (IfStmt None (name 5 (codes "c")) tt (more_of-Stmt (set 6 (codes "y") (lit 8 (codes "1'b1"))) end_of-Stmt) no_else) ∷ [])

abbrev all_zero : Store
all_zero n k = Zero

one_branch_gives : gives (the_source one_branch) all_zero all_zero ≡ (wire_bit 1 0, Unknown) ∷ []
unfolding designs_on_trees
one_branch_gives = refl

-- always_ff @(posedge c) q <= d: c is 0 before and 1 now, d is 1 before and X now
abbrev register : Source
register = alone (input bit (codes "c") ∷ input bit (codes "d") ∷ output bit (codes "q") ∷ []) (clocked (Set (Name (word 5 (codes "q")) []) mark.Nonblocking (at 6) (name 7 (codes "d"))) ∷ [])

abbrev before : Store
before n k = if n == 1 then One else Zero

abbrev now : Store
now n k = if n == 0 then One else Unknown

at_the_edge : gives (the_source register) before now ≡ (wire_bit 2 0, One) ∷ []
unfolding designs_on_trees
at_the_edge = refl

without_edge : gives (the_source register) before before ≡ (wire_bit 2 0, Zero) ∷ []
unfolding designs_on_trees
without_edge = refl

-- always_ff @(posedge c or posedge r) q <= d: r alone rises, d was 1 and is 0
abbrev reset_register : Source
reset_register =
    alone (input bit (codes "c") ∷ input bit (codes "r") ∷ input bit (codes "d") ∷ output bit (codes "q") ∷ [])
    (clocked_or_reset (Set (Name (word 5 (codes "q")) []) mark.Nonblocking (at 6) (name 7 (codes "d"))) ∷ [])

abbrev data_is_one : Store
data_is_one n k = if n == 2 then One else Zero

abbrev reset_is_one : Store
reset_is_one n k = if n == 1 then One else Zero

at_the_second_edge : gives (the_source reset_register) data_is_one reset_is_one ≡ (wire_bit 3 0, One) ∷ []
unfolding designs_on_trees
at_the_second_edge = refl

-- neither rises
at_no_edge : gives (the_source reset_register) data_is_one data_is_one ≡ (wire_bit 3 0, Zero) ∷ []
unfolding designs_on_trees
at_no_edge = refl

-- always_ff @(posedge c or posedge r) q <= r: the name of an event reads the present
abbrev reset_is_read : Source
reset_is_read =
    alone (input bit (codes "c") ∷ input bit (codes "r") ∷ output bit (codes "q") ∷ [])
    (clocked_or_reset (Set (Name (word 5 (codes "q")) []) mark.Nonblocking (at 6) (name 7 (codes "r"))) ∷ [])

event_reads_the_present : gives (the_source reset_is_read) all_zero reset_is_one ≡ (wire_bit 2 0, One) ∷ []
unfolding designs_on_trees
event_reads_the_present = refl

-- always_latch begin q = d; r = q; end: r gets what q is given
abbrev through_latch : Source
through_latch =
    alone (input bit (codes "d") ∷ output bit (codes "q") ∷ output bit (codes "r") ∷ [])
    (latched (in_order (set 5 (codes "q") (name 7 (codes "d"))) (set 8 (codes "r") (name 10 (codes "q")))) ∷ [])

abbrev first_is_one : Store
first_is_one n k = if n == 0 then One else Zero

latch_reads_its_store : gives (the_source through_latch) all_zero first_is_one ≡ (wire_bit 1 0, One) ∷ (wire_bit 2 0, One) ∷ []
unfolding designs_on_trees
latch_reads_its_store = refl

-- always_latch begin q <= d; r <= q; end: r gets what q was before
abbrev behind_latch : Source
behind_latch =
    alone (input bit (codes "d") ∷ output bit (codes "q") ∷ output bit (codes "r") ∷ [])
    (latched (in_order (Set (Name (word 5 (codes "q")) []) mark.Nonblocking (at 6) (name 7 (codes "d"))) (Set (Name (word 8 (codes "r")) []) mark.Nonblocking (at 9) (name 10 (codes "q")))) ∷ [])

latch_reads_what_was : gives (the_source behind_latch) all_zero first_is_one ≡ (wire_bit 1 0, One) ∷ (wire_bit 2 0, Zero) ∷ []
unfolding designs_on_trees
latch_reads_what_was = refl

-- always_latch begin q = d; r <= d; end: E24 at the `<=`
mixed_marks : source_faults (alone (input bit (codes "d") ∷ output bit (codes "q") ∷ output bit (codes "r") ∷ [])
    (latched (in_order (set 5 (codes "q") (name 7 (codes "d"))) (Set (Name (word 8 (codes "r")) []) mark.Nonblocking (at 9) (name 10 (codes "d")))) ∷ [])) None
    ≡ fault wrong_assign (at 9)
unfolding designs_on_trees
mixed_marks = refl

-- always_comb y <= 1'b1: E24 at the mark
wrong_mark : source_faults (alone (output bit (codes "y") ∷ []) (comb (Set (Name (word 5 (codes "y")) []) mark.Nonblocking (at 6) (lit 7 (codes "1'b1"))) ∷ [])) None ≡ fault wrong_assign (at 6)
unfolding designs_on_trees
wrong_mark = refl

-- parameter P = 1; assign P = 1'b0; a constant is no target
constant_target : source_faults (alone [] (Param (record { word = param_word.Parameter; form = None; list = record { name = word 3 (codes "P"); value = lit 4 (codes "1") } ∷ [] }) ∷ assign 5 (codes "P") (lit 7 (codes "1'b0")) ∷ [])) None
    ≡ fault bad_target (at 5)
unfolding designs_on_trees
constant_target = refl

-- assign y = 1'b1; with no y
no_target : source_faults (alone [] (assign 5 (codes "y") (lit 7 (codes "1'b1")) ∷ [])) None ≡ fault unknown_name (at 5)
unfolding designs_on_trees
no_target = refl

-- a clock of eight bits
wide_clock : source_faults (alone (input byte (codes "c") ∷ output bit (codes "q") ∷ []) (clocked (Set (Name (word 5 (codes "q")) []) mark.Nonblocking (at 6) (lit 7 (codes "1'b1"))) ∷ [])) None ≡ fault bad_width (at 70)
unfolding designs_on_trees
wide_clock = refl

-- for (genvar i = 0; i < 5000; i++) begin : g end: the loop has too many turns
abbrev long_loop : Source
long_loop = alone [] (For' (at 10) true (word 11 (codes "i")) (lit 12 (codes "0")) (op (name 13 (codes "i")) two.Lt 14 (lit 15 (codes "5000"))) (loop_step.After (word 16 (codes "i")) step_mark.Inc)
    tt (more_of-Gen (GenBlock (at 17) (Some (word 18 (codes "g"))) [] end_of-Item None) end_of-Gen) ∷ [])

long_loop_fault : source_faults long_loop None ≡ fault loop_long (at 10)
unfolding designs_on_trees
long_loop_fault = refl

-- ---- instances

-- module leaf #(parameter int K = 0) (input logic [7:0] p, output logic [7:0] q); assign q = p + K; endmodule
abbrev leaf : Module
leaf = record {
  name = word 1 (codes "leaf");
  params = record { word = Some param_word.Parameter; form = Some (param_type.Whole whole_word.Int None); name = word 2 (codes "K"); value = lit 3 (codes "0") } ∷ [];
  ports = Some (input byte (codes "p") ∷ output byte (codes "q") ∷ []);
  items = assign 5 (codes "q") (op (name 7 (codes "p")) two.Add 8 (name 9 (codes "K"))) ∷ [];
  label = None;
}

-- leaf #(.K(i)) u (.p(a), .q());
abbrev leaf_here : Item
leaf_here = Inst (record {
  of_module = word 20 (codes "leaf");
  params = Some (Some (pins.Named (connect 21 (codes "K") (name 22 (codes "i")) ∷ [])));
  list = record { name = word 23 (codes "u"); pins = Some (pins.Named (connect 24 (codes "p") (name 25 (codes "a")) ∷ record { name = word 26 (codes "q"); pin = pin.Open } ∷ [])) } ∷ [];
})

-- module top (input logic [7:0] a); for (genvar i = 0; i < 2; i++) begin : g .. end endmodule
abbrev looped : Source
looped = source_of (leaf ∷ unit_of (codes "top") (input byte (codes "a") ∷ [])
    (For' (at 10) true (word 11 (codes "i")) (lit 12 (codes "0")) (op (name 13 (codes "i")) two.Lt 14 (lit 15 (codes "2"))) (loop_step.After (word 16 (codes "i")) step_mark.Inc)
    tt (more_of-Gen (GenBlock (at 17) (Some (word 18 (codes "g"))) (tt ∷ []) (more_of-Item leaf_here end_of-Item) None) end_of-Gen) ∷ []) ∷ [])

-- the top's port, and p and q of two instances
looped_wires : paths (the_source looped) ≡ codes "a" ∷ codes "g[0].u.p" ∷ codes "g[0].u.q" ∷ codes "g[1].u.p" ∷ codes "g[1].u.q" ∷ []
unfolding designs_on_trees
looped_wires = refl

-- both ports p are joined to a
looped_links : first_links (the_source looped) ≡ replicate 8 (1, 0) ++ replicate 8 (3, 0)
unfolding designs_on_trees
looped_links = refl

looped_legal : source_faults looped None ≡ []
unfolding designs_on_trees
looped_legal = refl

-- a connection of no port, and one port twice
no_port : source_faults (source_of (leaf ∷ unit_of (codes "top") [] (instance 20 (codes "leaf") (codes "u") (connect 30 (codes "r") (lit 31 (codes "8'd1")) ∷ []) ∷ []) ∷ [])) None ≡ fault port_unknown (at 30)
unfolding designs_on_trees
no_port = refl

port_again : source_faults (source_of (leaf ∷ unit_of (codes "top") [] (instance 20 (codes "leaf") (codes "u") (connect 30 (codes "p") (lit 31 (codes "8'd1")) ∷ connect 32 (codes "p") (lit 33 (codes "8'd1")) ∷ []) ∷ []) ∷ [])) None
    ≡ fault port_twice (at 32)
unfolding designs_on_trees
port_again = refl

-- an output's actual that is no target
no_actual : source_faults (source_of (leaf ∷ unit_of (codes "top") [] (instance 20 (codes "leaf") (codes "u") (connect 30 (codes "q") (lit 31 (codes "8'd1")) ∷ []) ∷ []) ∷ [])) None ≡ fault bad_target (at 31)
unfolding designs_on_trees
no_actual = refl

-- .q({b, 8'd1}) and .q({{b, 8'd1}, c}): the whole actual is refused, at its first `{`. A name that is not declared, and an index that moves, have
-- places of their own.
abbrev joined_to : Expr → List Item
joined_to x = Variable byte (word 40 (codes "b") ∷ word 41 (codes "c") ∷ []) ∷ instance 20 (codes "leaf") (codes "u") (connect 30 (codes "q") x ∷ []) ∷ []

abbrev output_faults : Expr → Faults
output_faults x = source_faults (source_of (leaf ∷ unit_of (codes "top") [] (joined_to x) ∷ [])) None

no_part : output_faults (two_of 31 (name 32 (codes "b")) (lit 33 (codes "8'd1"))) ≡ fault bad_target (at 31)
unfolding designs_on_trees
no_part = refl

no_inner_part : output_faults (two_of 31 (two_of 32 (name 33 (codes "b")) (lit 34 (codes "8'd1"))) (name 35 (codes "c"))) ≡ fault bad_target (at 31)
unfolding designs_on_trees
no_inner_part = refl

no_such_part : output_faults (two_of 31 (name 32 (codes "b")) (name 33 (codes "d"))) ≡ fault unknown_name (at 33)
unfolding designs_on_trees
no_such_part = refl

moving_part : output_faults (selected 31 (codes "b") (index (at 32) (name 33 (codes "c")))) ≡ fault not_constant (at 33)
unfolding designs_on_trees
moving_part = refl

-- module both_ways (inout logic p); endmodule: its port is joined or refused, whatever the reason
abbrev both_ways : Module
both_ways = unit_of (codes "both_ways") (record { way = Some way.Inout; kind = None; form = Some bit; name = word 2 (codes "p") } ∷ []) []

abbrev inout_faults : Expr → Faults
inout_faults x =
    source_faults (source_of (both_ways ∷ unit_of (codes "top") []
    (Variable byte (word 40 (codes "b") ∷ word 41 (codes "c") ∷ []) ∷ instance 20 (codes "both_ways") (codes "u") (connect 30 (codes "p") x ∷ []) ∷ []) ∷ [])) None

bit_in_range : inout_faults (selected 31 (codes "b") (index (at 32) (lit 33 (codes "7")))) ≡ []
unfolding designs_on_trees
bit_in_range = refl

bit_out_of_range : inout_faults (selected 31 (codes "b") (index (at 32) (lit 33 (codes "8")))) ≡ fault bad_target (at 31)
unfolding designs_on_trees
bit_out_of_range = refl

moving_bit : inout_faults (selected 31 (codes "b") (index (at 32) (name 33 (codes "c")))) ≡ fault bad_target (at 31)
unfolding designs_on_trees
moving_bit = refl

moving_bounds : inout_faults (selected 31 (codes "b") (span 32 (name 33 (codes "c")) (lit 35 (codes "0")))) ≡ fault not_constant (at 33) ++ fault bad_target (at 31)
unfolding designs_on_trees
moving_bounds = refl

no_such_index : inout_faults (selected 31 (codes "b") (index (at 32) (name 33 (codes "d")))) ≡ fault unknown_name (at 33) ++ fault bad_target (at 31)
unfolding designs_on_trees
no_such_index = refl

-- each instance before its blocks, and these before the instances below it
looped_blocks : blocks (scopes looped None) ≡ (codes "", None) ∷ (codes "g[0]", Some 0) ∷ (codes "g[1]", Some 0) ∷ (codes "g[0].u", Some 1) ∷ (codes "g[1].u", Some 2) ∷ []
unfolding designs_on_trees
looped_blocks = refl

-- what is declared late: a child's port is joined to a net that stands below the instance, and the child's wires come last
abbrev late : Source
late = source_of (leaf ∷ unit_of (codes "top") [] (instance 20 (codes "leaf") (codes "u") (connect 30 (codes "p") (name 31 (codes "w")) ∷ []) ∷ Variable byte (word 40 (codes "w") ∷ []) ∷ []) ∷ [])

late_wires : paths (the_source late) ≡ codes "w" ∷ codes "u.p" ∷ codes "u.q" ∷ []
unfolding designs_on_trees
late_wires = refl

late_links : first_links (the_source late) ≡ replicate 8 (1, 0)
unfolding designs_on_trees
late_links = refl

late_legal : source_faults late None ≡ []
unfolding designs_on_trees
late_legal = refl

-- a constant that is declared below an assignment is not seen there
late_constant : source_faults (alone (output bit (codes "y") ∷ []) (assign 5 (codes "y") (name 7 (codes "P")) ∷ Param (record { word = param_word.Localparam; form = None; list = record { name = word 9 (codes "P"); value = lit 10 (codes "1") } ∷ [] }) ∷ [])) None
    ≡ fault unknown_name (at 7)
unfolding designs_on_trees
late_constant = refl

-- ---- what a constant expression sees

abbrev pair : TypeTree
pair = Vector (Some bits_word.Logic) None (record { place = at 90; left = lit 91 (codes "1"); right = lit 92 (codes "0") } ∷ [])

-- localparam P = v; module m(output logic [1:0] y); .. endmodule
abbrev with_constant : List ℕ → List Item → Source
with_constant v items = record {
  parts =
      source_part.Param (record { word = param_word.Localparam; form = None; list = record { name = word 50 (codes "P"); value = lit 51 v } ∷ [] })
      ∷ source_part.Module (unit_of (codes "m") (output pair (codes "y") ∷ []) items) ∷ [];
}

-- logic P; and assign y[P] = 1'b1;
abbrev net : Item
net = Variable bit (word 60 (codes "P") ∷ [])

abbrev assign_at_P : Item
assign_at_P = Assign (record { target = Name (word 5 (codes "y")) (index (at 6) (name 7 (codes "P")) ∷ []); value = lit 9 (codes "1'b1") } ∷ [])

-- the index is a constant expression and sees the constant, so bit 0 is driven, whatever is declared below
abbrev indexed : Source
indexed = with_constant (codes "0") (assign_at_P ∷ net ∷ [])

indexed_legal : source_faults indexed None ≡ []
unfolding designs_on_trees
indexed_legal = refl

indexed_gives : gives (the_source indexed) no_value no_value ≡ (wire_bit 0 0, One) ∷ []
unfolding designs_on_trees
indexed_gives = refl

-- below the net the index is the net, which is no constant
hidden_above : source_faults (with_constant (codes "0") (net ∷ assign_at_P ∷ [])) None ≡ fault not_constant (at 7)
unfolding designs_on_trees
hidden_above = refl

-- assign y = P: the value is no constant expression, so P is the net below, which is 1 here
abbrev read_below : Source
read_below = with_constant (codes "0") (assign 5 (codes "y") (name 7 (codes "P")) ∷ net ∷ [])

read_below_legal : source_faults read_below None ≡ []
unfolding designs_on_trees
read_below_legal = refl

read_below_gives : gives (the_source read_below) all_one all_one ≡ (wire_bit 0 0, One) ∷ (wire_bit 0 1, Zero) ∷ []
unfolding designs_on_trees
read_below_gives = refl

-- always_comb y = {P{1'b1}} has two copies where P is 2
abbrev counted : Source
counted = with_constant (codes "2") (comb (set 5 (codes "y") (times 7 (name 8 (codes "P")) (lit 9 (codes "1'b1")))) ∷ net ∷ [])

counted_legal : source_faults counted None ≡ []
unfolding designs_on_trees
counted_legal = refl

counted_gives : gives (the_source counted) no_value no_value ≡ (wire_bit 0 0, One) ∷ (wire_bit 0 1, One) ∷ []
unfolding designs_on_trees
counted_gives = refl
