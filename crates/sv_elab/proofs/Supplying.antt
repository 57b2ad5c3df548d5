-- Drivers of assignments, and of ports that are assigned.
use Rattle.std.proofs.Common.{◌≡◌, ℕ, zero, suc, ◌<◌, eqb, Bool, true, false, cond, ◌||◌, List, [], ◌∷◌, ◌++◌, length, max, take, Some, Result, refl, sym, ap, ◌∙◌, subst, arith, IsTrue}
use Rattle.std.specs.Prelude.{◌==◌}
use Rattle.std.specs.List.{Contains, zip}
use Rattle.std.proofs.lemmas.List.{append-nil}
use Rattle.std.proofs.lemmas.List.Elements.{All-nil, All-cons, Contains-append_left}
use Rattle.std.proofs.lemmas.Bool.Decides.{nat_tests}
use Rattle.fourvec.specs.declared.Bit.{Bit}
use Rattle.lhs_alias.specs.declared.segs.Seg.{Seg}
use Rattle.lhs_alias.specs.Segs.{lhs_bits}
use Rattle.lhs_alias.specs.Lies.{LieIn}
use Rattle.settling.specs.Settling.{Store, Contribution}
use Rattle.svex_shape.specs.declared.shape.VarName.{VarName}
use Rattle.svex_shape.specs.declared.shape.VarName.TheVariants.{Now}
use Rattle.svex_shape.specs.declared.shape.Shape.{Shape}
use Rattle.svex_shape.specs.Shapes.{width_at}
use Rattle.svex_shape.specs.Values.{each_variable}
use Rattle.driver_resolve.specs.declared.driver.Driver.{Driver}
use Rattle.driver_resolve.specs.Drivers.{Phase, bits_in, drivers_give, IsDriver, is_wire, is_of_wires}
use Rattle.sv_outside.specs.declared.refusal.TextErr.{TextErr}
use Rattle.sv_tree.specs.declared.exprs.Expr.{Expr}
use Rattle.sv_meaning.specs.Faults.{Faults}
use Rattle.sv_meaning.specs.Layouts.{Layout, width, is_signed, Scope, Origin, of_wires, of_choice, of_samples, signal_is, NamedSignal}
use Rattle.sv_meaning.specs.Meanings.{Meaning, assigned, named, chain_layout, chain_bits, all_indices, bits_from}
use Rattle.sv_meaning.specs.Values.{mean}
use Rattle.sv_meaning.specs.Blocks.{reads}
use Rattle.sv_meaning.specs.Targets.{Target, slots, widths}
use Rattle.sv_meaning.specs.Designs.{driven, assigned_to, no_word, wire_slots, bits_of_wire, wire_before, wires_named}
use Rattle.sv_meaning.proofs.Declaring.{names-declared}
use Rattle.sv_typed.specs.declared.tree.Typed.{Typed}
use Rattle.sv_typed.specs.declared.tree.Root.{Root}
use Rattle.sv_typed.specs.declared.tree.Root.TheVariants.{Signal}
use Rattle.sv_typed.specs.declared.tree.Origin.TheVariants.{Wires}
use Rattle.sv_typed.specs.Typed.{worth, Stands, IsNamed, picked, picked_width, names_picked}
use Rattle.sv_typing.specs.Judging.{IsCause}
use Rattle.sv_lower.specs.declared.look.Look.TheVariants.{Present}
use Rattle.sv_lower.specs.Lowering.{look_read, look_test, each_signal, HoldsOfNames}
use Rattle.sv_lower.specs.Nodes.{bits_at_node}
use Rattle.sv_lower.proofs.Sources.{assigned_worth, names_hold}
use Rattle.sv_targets.specs.declared.parts.Target as lowered
use Rattle.sv_targets.specs.Slots.{Slots, AreParts, IsLowered}
use Rattle.sv_stmt.specs.Blocks.{AreWires}
use Rattle.sv_elab.specs.Elaborated.{has_number, names_only}
use Rattle.sv_elab.specs.Working.{Fills, Supplies, JudgesSupply, wire_seg}
use Rattle.sv_elab.proofs.Wires.{seg_is, run_long}
use Rattle.sv_elab.proofs.Slotting.{driven_some}

-- ---- what names read

present_at : (shapes : List Shape) (p : Phase) (o : Origin) (n k : ℕ) → look_read Present shapes (bits_in p) o n k ≡ reads p.present o n k
unfolding look_read
present_at shapes p of_wires n k = refl
present_at shapes p of_choice n k = refl
present_at shapes p of_samples n k = refl

pub present_reads : (shapes : List Shape) (p : Phase) → look_read Present shapes (bits_in p) ≡ reads p.present
present_reads shapes p = λ i o n k. present_at shapes p o n k i

-- ---- what names mention

wire_test : (p : VarName → ℕ → Bool) (o : Origin) (n w : ℕ) → o ≡ of_wires → IsTrue (p (Now n) w) → IsTrue (look_test Present [] p o n w)
unfolding look_test
wire_test p of_wires n w e h = h
wire_test p of_choice n w e h = cc
wire_test p of_samples n w e h = cc

-- each signal that an expression names is a wire
pub holds_wires : (at : Scope) (x : Expr) (widths : List ℕ) → AreWires at widths → HoldsOfNames (mean at x).names (is_of_wires widths)
holds_wires at x widths a s i = let d = names-declared at x s i in wire_test (is_of_wires widths) s.owner s.number s.width (a.owner s d) (a.wire s d)

pub has : (n : ℕ) (all : List ℕ) → Contains all n → has_number n all ≡ true
unfolding has_number
has n [] (i, l, e) = absurd (omega arith)
has n (m ∷ more) (zero, l, e) = let t : eqb m n ≡ true = grind (arith, nat_tests, e) in ap (λ b. b || has_number n more) t
has n (m ∷ more) (suc i, l, e) = right (m == n) (has_number n more) (has n more (i, omega arith, e))
  where
    right : (a b : Bool) → b ≡ true → (a || b) ≡ true
    right true b h = refl
    right false b h = h

before_more : (o : Origin) (m n : ℕ) (xs : List ℕ) → Contains xs n → Contains (wire_before o m xs) n
before_more of_wires m n xs h = (suc h.0, omega (arith, h.1), h.2)
before_more of_choice m n xs h = h
before_more of_samples m n xs h = h

pub wire_named : (names : List NamedSignal) (s : NamedSignal) → s.owner ≡ of_wires → Contains names s → Contains (wires_named names) s.number
unfolding wires_named
wire_named [] s e h = absurd (omega (arith, h.1))
wire_named (x ∷ names) s e (zero, l, same) =
    let owner : x.owner ≡ of_wires = ap (λ y. y.owner) same ∙ e in
    subst (λ xs. Contains xs s.number) (sym (ap (λ o. wire_before o x.number (wires_named names)) owner)) (0, omega arith, ap (λ y. y.number) same)
wire_named (x ∷ names) s e (suc i, l, same) = before_more x.owner x.number s.number (wires_named names) (wire_named names s e (i, omega arith, same))

held : (names : List NamedSignal) (o : Origin) (n w : ℕ) → (o ≡ of_wires → Contains (wires_named names) n) → IsTrue (look_test Present [] (names_only (wires_named names)) o n w)
unfolding look_test
held names of_wires n w h = has n (wires_named names) (h refl)
held names of_choice n w h = refl
held names of_samples n w h = refl

-- the wires that are named are those that are named
pub holds_named : (names : List NamedSignal) → HoldsOfNames names (names_only (wires_named names))
holds_named names s i = held names s.owner s.number s.width (λ e. wire_named names s e i)

-- ---- drivers of a target

pub supply_fills : (widths names : List ℕ) (old new : List Shape) (value : ℕ) (slots : Slots) (f : Store → List Contribution) (all : List Driver) → IsTrue (each_variable (is_of_wires widths) old value) → IsTrue (each_variable (names_only names) old value)
    → ((p : Phase) → driven slots (bits_at_node (bits_in p) old value) ≡ f p.present) → Fills widths old new value slots all → Supplies widths names new f all
supply_fills widths names old new value slots f all w n g h = record {
  gives = λ p. h.gives p ∙ g p;
  sound = λ k d l. let x = h.placed k d l in record { lies = h.lies k d l; there = x.there; wide = x.wide; mentions = h.mentions (is_of_wires widths) w k d l };
  names_are = h.mentions (names_only names) n;
}

-- an expression that a target takes
pub supply_value : (at : Scope) (x : Expr) (ts : List Target) (target : lowered.Target) (f : Faults) (wires : List ℕ) (old mid new : List Shape) (w node : ℕ) (all : List Driver) → AreWires at wires → IsLowered f ts target → w ≡ target.width
    → ((bits : VarName → ℕ → Bit) → bits_at_node bits mid node ≡ assigned (mean at x) (look_read Present old bits) w) → ((p : VarName → ℕ → Bool) → HoldsOfNames (mean at x).names p → IsTrue (each_variable p mid node))
    → ((slots : Slots) → AreParts slots target.parts → Fills wires mid new node slots all) → Supplies wires (wires_named (mean at x).names) new (assigned_to ts (mean at x)) all
supply_value at x ts target f wires old mid new w node all a l e v m h =
    supply_fills wires (wires_named (mean at x).names) mid new node (slots ts) (assigned_to ts (mean at x)) all (m (is_of_wires wires) (holds_wires at x wires a)) (m (names_only (wires_named (mean at x).names)) (holds_named (mean at x).names))
    (λ p. ap (driven (slots ts)) (v (bits_in p) ∙ ap (λ r. assigned (mean at x) r w) (present_reads old p) ∙ ap (assigned (mean at x) (reads p.present)) (e ∙ sym l.width)))
    (h (slots ts) l.parts)

-- ---- an input port

pub supply_wire : (at : Scope) (x : Expr) (wires : List ℕ) (old new : List Shape) (n w node : ℕ) (t : Layout) (target : List Seg) → AreWires at wires → width t ≡ w → target ≡ wire_seg n w ∷ [] → LieIn wires target → node < length new → width_at new node ≡ w
    → ((bits : VarName → ℕ → Bit) → bits_at_node bits new node ≡ assigned (mean at x) (look_read Present old bits) w) → ((p : VarName → ℕ → Bool) → HoldsOfNames (mean at x).names p → IsTrue (each_variable p new node))
    → Supplies wires (wires_named (mean at x).names) new (λ now. driven (wire_slots n t) (assigned (mean at x) (reads now) (width t))) (record { target = target; value = node } ∷ [])
unfolding drivers_give
supply_wire at x wires old new n w node t target a e is lies there wide v m = record {
  gives = λ p.
      append-nil (zip (lhs_bits target) (bits_at_node (bits_in p) new node))
      ∙ ap (λ s. zip (lhs_bits s) (bits_at_node (bits_in p) new node)) is
      ∙ ap (λ bs. zip bs (bits_at_node (bits_in p) new node)) (seg_is n w ∙ ap (bits_of_wire n 0) (sym e))
      ∙ sym (driven_some (bits_of_wire n 0 (width t)) (bits_at_node (bits_in p) new node))
      ∙ ap (driven (wire_slots n t)) (v (bits_in p) ∙ ap (λ r. assigned (mean at x) r w) (present_reads old p) ∙ ap (assigned (mean at x) (reads p.present)) (sym e));
  sound = All-cons (IsDriver wires new) _ [] (record { lies = lies; there = there; wide = wide ∙ sym (ap (λ s. length (lhs_bits s)) is ∙ ap length (seg_is n w) ∙ run_long n 0 w); mentions = m (is_of_wires wires) (holds_wires at x wires a) }) (All-nil (IsDriver wires new));
  names_are = All-cons (λ d. IsTrue (each_variable (names_only (wires_named (mean at x).names)) new d.value)) _ [] (m (names_only (wires_named (mean at x).names)) (holds_named (mean at x).names)) (All-nil (λ d. IsTrue (each_variable (names_only (wires_named (mean at x).names)) new d.value)));
}

-- ---- an output port

abbrev pub wire_root : ℕ → ℕ → Root
wire_root n w = Signal Wires n w

abbrev pub own_signal : ℕ → ℕ → NamedSignal
own_signal n w = record { owner = of_wires; number = n; width = w }

-- a port's own meaning
pub port_named : (n w : ℕ) (s : Bool) (x : Layout) → width x ≡ w → is_signed x ≡ s → IsNamed (wire_root n w) [] s (named no_word (Some (signal_is of_wires n x)) [])
unfolding chain_layout chain_bits all_indices picked names_picked picked_width
port_named n w s x e g = record {
  size = e;
  sign = g;
  value = λ read u t. ap (extended t u) (ap (bits_from (read of_wires n) 0) e);
  constant = refl;
  literal = refl;
  names = λ z h. subst (λ k. Contains (own_signal n k ∷ []) z) (sym e) h;
}
  where
    extended : Bool → ℕ → List Bit → List Bit
    extended t u v = cond t (Rattle.fourvec.specs.Bits.sext_of v u) (Rattle.fourvec.specs.Bits.zext_of v u)

own_names : (p : VarName → ℕ → Bool) (n w : ℕ) (x : Layout) → width x ≡ w → IsTrue (p (Now n) w) → HoldsOfNames (named no_word (Some (signal_is of_wires n x)) []).names p
unfolding chain_layout all_indices look_test
own_names p n w x e h s (zero, l, same) = subst (λ (y : NamedSignal). IsTrue (look_test Present [] p y.owner y.number y.width)) same (subst (λ k. IsTrue (p (Now n) k)) (sym e) h)
own_names p n w x e h s (suc i, l, same) = absurd (omega arith)

pub supply_port : (ts : List Target) (target : lowered.Target) (f : Faults) (wires : List ℕ) (old mid new : List Shape) (n w u node : ℕ) (s : Bool) (x : Layout) (t : Typed) (all : List Driver) → IsTrue (is_wire wires n w) → width x ≡ w → is_signed x ≡ s → IsLowered f ts target
    → u ≡ target.width → ((m : Meaning) → IsNamed (wire_root n w) [] s m → Stands t m)
    → ((bits : VarName → ℕ → Bit) → bits_at_node bits mid node ≡ take u (worth t (look_read Present old bits) (max u t.width) t.signed)) → ((p : VarName → ℕ → Bool) → IsTrue (each_signal (look_test Present old p) t) → IsTrue (each_variable p mid node))
    → ((slots : Slots) → AreParts slots target.parts → Fills wires mid new node slots all) → Supplies wires (n ∷ []) new (assigned_to ts (named no_word (Some (signal_is of_wires n x)) [])) all
supply_port ts target f wires old mid new n w u node s x t all is e g l c st v m h =
    let own = named no_word (Some (signal_is of_wires n x)) [] in
    let stands : Stands t own = st own (port_named n w s x e g) in
    let named_by : (p : VarName → ℕ → Bool) → IsTrue (p (Now n) w) → IsTrue (each_variable p mid node) = λ p k. m p (names_hold own t old p stands (own_names p n w x e k)) in
    supply_fills wires (n ∷ []) mid new node (slots ts) (assigned_to ts own) all (named_by (is_of_wires wires) is) (named_by (names_only (n ∷ [])) (has n (n ∷ []) (0, omega arith, refl)))
    (λ p. ap (driven (slots ts)) (v (bits_in p) ∙ assigned_worth t own (look_read Present old (bits_in p)) u stands ∙ ap (λ r. assigned own r u) (present_reads old p) ∙ ap (assigned own (reads p.present)) (c ∙ sym l.width)))
    (h (slots ts) l.parts)

-- ---- answers

pub cause_left : (f g : Faults) (e : TextErr) → IsCause f e → IsCause (f ++ g) e
cause_left f g (Rattle.sv_outside.specs.declared.refusal.TextErr.TheVariants.No r) h = Contains-append_left f g r h
cause_left f g Rattle.sv_outside.specs.declared.refusal.TextErr.TheVariants.Memory h = tt

pub supply_behind : (widths names : List ℕ) (shapes : List Shape) (f : Store → List Contribution) (a b : Faults) (r : Result (List Driver) TextErr) → a ≡ [] → JudgesSupply widths names shapes f b r → JudgesSupply widths names shapes f (a ++ b) r
supply_behind widths names shapes f a b r e h = subst (λ (z : Faults). JudgesSupply widths names shapes f (z ++ b) r) (sym e) h
