-- What is made of one task.
use Rattle.std.proofs.Common.{◌≡◌, ℕ, ◌+◌, Bool, true, false, cond, ◌&&◌, List, [], ◌∷◌, ◌++◌, Some, None, Result, Ok, Err, refl, sym, ap, ◌∙◌, subst, arith, IsTrue}
use Rattle.std.specs.Prelude.{◌==◌}
use Rattle.std.specs.List.{All, Contains, zip}
use Rattle.std.proofs.lemmas.List.{append-nil}
use Rattle.std.proofs.lemmas.List.Elements.{All-nil, All-cons, Contains-append_left, Contains-append_right}
use Rattle.sv_outside.specs.declared.text.Signal.{Signal}
use Rattle.sv_outside.specs.declared.refusal.TextErr.{TextErr}
use Rattle.sv_outside.specs.declared.refusal.TextErr.TheVariants.{No, Memory}
use Rattle.sv_outside.specs.declared.refusal.Refusal.{Refusal}
use Rattle.lhs_alias.specs.Segs.{lhs_bits}
use Rattle.svex_shape.specs.declared.shape.VarName.{VarName}
use Rattle.svex_shape.specs.declared.shape.Shape.{Shape}
use Rattle.svex_shape.specs.Values.{each_variable}
use Rattle.driver_resolve.specs.declared.driver.Driver.{Driver}
use Rattle.driver_resolve.specs.Drivers.{Phase, drivers_give, widths_of, IsDriver}
use Rattle.flat_net.specs.declared.flat.Join.{Join}
use Rattle.flat_net.specs.Flats as f
use Rattle.sv_tree.specs.declared.exprs.Expr.{Expr}
use Rattle.sv_tree.specs.declared.exprs.Expr.TheVariants as ex
use Rattle.sv_tree.specs.declared.exprs.Expr.TheBlock.{shape-the_row-Select-0, hidden-the_row-Select-0}
use Rattle.sv_tree.specs.declared.exprs.Select.{Select}
use Rattle.sv_tree.specs.declared.word.Word.{Word}
use Rattle.sv_meaning.specs.Params.{name_alone}
use Rattle.sv_tree.specs.declared.stmts.Lvalue.{Lvalue}
use Rattle.sv_tree.specs.declared.stmts.Block.{Block}
use Rattle.sv_tree.specs.declared.design.Way.{Way}
use Rattle.sv_tree.specs.declared.design.Way.TheVariants as way
use Rattle.sv_meaning.specs.Faults.{Faults, fault, bad_target, is_clear}
use Rattle.sv_meaning.specs.Layouts.{Layout, width, Scope}
use Rattle.sv_meaning.specs.Values.{mean}
use Rattle.sv_meaning.specs.Targets.{assigned_targets, assigned_faults, widths, are_fixed, slots, bits_named}
use Rattle.sv_meaning.specs.Deeds.{deed}
use Rattle.sv_meaning.specs.Blocks.{manner, block_faults, block_value}
use Rattle.sv_meaning.specs.Designs as d
use Rattle.sv_meaning.specs.Designs.{Work, is_joined, are_present, as_targets, actual_faults, index_scope, bits_of_wire, pairs, block_gives, block_names, port_gives, port_faults, port_names, assigned_to, no_word, wires_named, names_now, work_faults}
use Rattle.sv_typing.specs.Judging.{IsCause}
use Rattle.sv_targets.specs.declared.parts.Target as lowered
use Rattle.sv_targets.specs.Slots.{IsLowered}
use Rattle.sv_stmt.specs.Passed.{signals_of}
use Rattle.sv_stmt.specs.Blocks.{AreWires, Reads}
use Rattle.sv_elab.specs.declared.works.Parts.{Parts}
use Rattle.sv_elab.specs.Elaborated.{names_only}
use Rattle.sv_elab.specs.Working.{JudgesSupply, JoinsTo, IsWorked, JudgesWork}
use Rattle.sv_elab.proofs.Wires.{seg_is, pairs_are}
use Rattle.sv_elab.proofs.Slotting.{present_are}
use Rattle.sv_elab.proofs.Supplying.{has}

-- the expression of a name without selects
pub named_alone : (w : Word) (text : List ℕ) (selects : List Select) → text ≡ w.text → selects ≡ [] → ex.Name (record { text = text; place = w.place }) selects ≡ name_alone w
unfolding shape-the_row-Select-0 hidden-the_row-Select-0 denote.Hole.Carrier.hidden
named_alone w text selects e d = ap (λ (t : List ℕ). ex.Name (record { text = t; place = w.place }) selects) e ∙ ap (λ (s : List Select). ex.Name w s) d

no_join : (ws : List ℕ) → All (f.IsJoin ws) []
no_join ws = All-nil (f.IsJoin ws)

nothing_linked : f.links_of [] ≡ []
unfolding f.links_of
nothing_linked = refl

-- drivers alone
abbrev pub alone : List Driver → ℕ → Parts
alone drivers made = record { drivers = drivers; join = None; made = made }

-- ---- assignments

pub assignment_worked : (at : Scope) (to : Lvalue) (x : Expr) (wires : List Signal) (ws : List ℕ) (made : ℕ) (shapes : List Shape) (r : Result (List Driver) TextErr) (answer : Result Parts TextErr) → widths_of wires ≡ ws
    → ((all : List Driver) → r ≡ Ok all → answer ≡ Ok (alone all made)) → ((e : TextErr) → r ≡ Err e → answer ≡ Err e)
    → JudgesSupply ws (wires_named (mean at x).names) shapes (assigned_to (assigned_targets at to) (mean at x)) (assigned_faults at to ++ (mean at x).faults false) r → JudgesWork wires (d.assignment at to x) made shapes answer
assignment_worked at to x wires ws made shapes (Ok all) answer w ok err h = subst (JudgesWork wires (d.assignment at to x) made shapes) (sym (ok all refl)) (record {
  clear = h.0;
  made = let e : made ≡ made + 0 = omega arith in e;
  stem = record { gives = h.1.gives; names = h.1.names_are };
  sound = subst (λ (z : List ℕ). All (IsDriver z shapes) all) (sym w) h.1.sound;
  links = nothing_linked;
  join_is = no_join (widths_of wires);
})
assignment_worked at to x wires ws made shapes (Err e) answer w ok err h = subst (JudgesWork wires (d.assignment at to x) made shapes) (sym (err e refl)) h

-- ---- blocks

pub block_reads : (at : Scope) (b : Block) (now : List ℕ) → Reads (signals_of at b) now (names_only now)
block_reads at b now = record { previous = λ s i. refl; present = λ s i k. has s.number now k }

pub block_worked : (at : Scope) (b : Block) (wires : List Signal) (made next : ℕ) (shapes : List Shape) (all : List Driver) → AreWires at (widths_of wires) → block_faults at b made ≡ [] → next ≡ made + (deed b.body at).turns
    → ((p : Phase) → drivers_give shapes all p ≡ block_gives (deed b.body at) (block_value (manner at b) (deed b.body at) p.previous p.present)) → All (IsDriver (widths_of wires) shapes) all
    → ((p : VarName → ℕ → Bool) → Reads (signals_of at b) (block_names wires (manner at b) (deed b.body at)) p → All (λ x. IsTrue (each_variable p shapes x.value)) all) → IsWorked wires (d.block at b) made shapes (alone all next)
block_worked at b wires made next shapes all a c t g s m = record {
  clear = c;
  made = t;
  stem = record { gives = g; names = let now = block_names wires (manner at b) (deed b.body at) in m (names_only now) (block_reads at b now) };
  sound = s;
  links = nothing_linked;
  join_is = no_join (widths_of wires);
}

-- ---- ports that are not joined

-- where one is not joined
record Apart (at : Scope) (way : Way) (n : ℕ) (x : Layout) (actual : Expr) (wires : List Signal) : Type 0 where
  faults : (made : ℕ) → work_faults (d.port at way n x actual) made ≡ port_faults way at actual
  gives : (p : Phase) → d.gives (d.port at way n x actual) p.previous p.present ≡ port_gives way at n x actual p.present
  names : names_now wires (d.port at way n x actual) ≡ port_names way at n actual
  links : d.links_of_work (d.port at way n x actual) ≡ []

apart_by : (at : Scope) (way : Way) (n : ℕ) (x : Layout) (actual : Expr) (wires : List Signal) → is_joined (index_scope way at) at x actual ≡ false → Apart at way n x actual wires
apart_by at way n x actual wires e = record {
  faults = λ made. ap (λ b. cond b [] (port_faults way at actual)) e;
  gives = λ p. ap (λ b. cond b [] (port_gives way at n x actual p.present)) e;
  names = ap (λ b. cond b [] (port_names way at n actual)) e;
  links = ap (λ b. cond b (pairs (bits_of_wire n 0 (width x)) (bits_named (as_targets (index_scope way at) at actual))) []) e;
}

pub supplied_port : (at : Scope) (way : Way) (n : ℕ) (x : Layout) (actual : Expr) (wires : List Signal) (ws : List ℕ) (made : ℕ) (shapes : List Shape) (r : Result (List Driver) TextErr) (answer : Result Parts TextErr) → is_joined (index_scope way at) at x actual ≡ false
    → widths_of wires ≡ ws → ((all : List Driver) → r ≡ Ok all → answer ≡ Ok (alone all made)) → ((e : TextErr) → r ≡ Err e → answer ≡ Err e)
    → JudgesSupply ws (port_names way at n actual) shapes (port_gives way at n x actual) (port_faults way at actual) r → JudgesWork wires (d.port at way n x actual) made shapes answer
supplied_port at way n x actual wires ws made shapes (Ok all) answer j w ok err h =
    let a = apart_by at way n x actual wires j in
    subst (JudgesWork wires (d.port at way n x actual) made shapes) (sym (ok all refl)) (record {
      clear = a.faults made ∙ h.0;
      made = let e : made ≡ made + 0 = omega arith in e;
      stem = record {
        gives = λ p. h.1.gives p ∙ sym (a.gives p);
        names = subst (λ (z : List ℕ). All (λ y. IsTrue (each_variable (names_only z) shapes y.value)) all) (sym a.names) h.1.names_are;
      };
      sound = subst (λ (z : List ℕ). All (IsDriver z shapes) all) (sym w) h.1.sound;
      links = nothing_linked ∙ sym a.links;
      join_is = no_join (widths_of wires);
    })
supplied_port at way n x actual wires ws made shapes (Err e) answer j w ok err h =
    let a = apart_by at way n x actual wires j in
    subst (JudgesWork wires (d.port at way n x actual) made shapes) (sym (err e refl)) (subst (λ (z : Faults). IsCause z e) (sym (a.faults made)) h)

pub refused_port : (at : Scope) (way : Way) (n : ℕ) (x : Layout) (actual : Expr) (wires : List Signal) (made : ℕ) (shapes : List Shape) (e : TextErr) → is_joined (index_scope way at) at x actual ≡ false → IsCause (port_faults way at actual) e → JudgesWork wires (d.port at way n x actual) made shapes (Err e)
refused_port at way n x actual wires made shapes e j h = let a = apart_by at way n x actual wires j in subst (λ (z : Faults). IsCause z e) (sym (a.faults made)) h

-- an actual that is no target is not joined
pub no_target_apart : (index at : Scope) (x : Layout) (actual : Expr) (why : Refusal) → Contains (actual_faults index at actual) why → is_joined index at x actual ≡ false
no_target_apart index at x actual why h = go (actual_faults index at actual) h
  where
    go : (all : Faults) → Contains all why → (is_clear all && (widths (as_targets index at actual) == width x && (are_fixed (as_targets index at actual) && are_present (slots (as_targets index at actual))))) ≡ false
    go [] (i, l, e) = absurd (omega arith)
    go (r ∷ all) g = refl

-- whether a target is joined
pub joined_by : (index at : Scope) (x : Layout) (actual : Expr) (t : lowered.Target) (w : ℕ) (b : Bool) → IsLowered (actual_faults index at actual) (as_targets index at actual) t → width x ≡ w
    → b ≡ (widths (as_targets index at actual) == w && (are_fixed (as_targets index at actual) && are_present (slots (as_targets index at actual)))) → is_joined index at x actual ≡ b
joined_by index at x actual t w b h e is =
    let rest = widths (as_targets index at actual) == w && (are_fixed (as_targets index at actual) && are_present (slots (as_targets index at actual))) in
    ap (λ z. z && (widths (as_targets index at actual) == width x && (are_fixed (as_targets index at actual) && are_present (slots (as_targets index at actual))))) (ap is_clear h.clear)
    ∙ ap (λ k. widths (as_targets index at actual) == k && (are_fixed (as_targets index at actual) && are_present (slots (as_targets index at actual)))) e
    ∙ sym is

pub inout_cause : (at : Scope) (actual : Expr) (e : TextErr) → e ≡ No (record { number = 19; place = (mean at actual).start; count = 0 }) → IsCause (port_faults way.Inout at actual) e
inout_cause at actual e h =
    subst (IsCause (port_faults way.Inout at actual)) (sym h)
    (Contains-append_right ((mean at actual).faults false) (fault bad_target (mean at actual).start) (record { number = 19; place = (mean at actual).start; count = 0 }) (0, omega arith, refl))

pub inout_free : (at : Scope) (actual : Expr) (e : TextErr) → IsCause ((mean at actual).faults false) e → IsCause (port_faults way.Inout at actual) e
inout_free at actual (No r) h = Contains-append_left ((mean at actual).faults false) (fault bad_target (mean at actual).start) r h
inout_free at actual Memory h = tt

-- ---- ports that are joined

pub joined_port : (at : Scope) (way : Way) (n w : ℕ) (x : Layout) (actual : Expr) (t : lowered.Target) (wires : List Signal) (ws : List ℕ) (made : ℕ) (shapes : List Shape) (j : Join) → is_joined (index_scope way at) at x actual ≡ true → widths_of wires ≡ ws → width x ≡ w
    → IsLowered (actual_faults (index_scope way at) at actual) (as_targets (index_scope way at) at actual) t → JoinsTo ws n w t.parts j → IsWorked wires (d.port at way n x actual) made shapes (record { drivers = []; join = Some j; made = made })
unfolding drivers_give f.links_of
joined_port at way n w x actual t wires ws made shapes j e s k h g = record {
  clear = ap (λ b. cond b [] (port_faults way at actual)) e;
  made = let z : made ≡ made + 0 = omega arith in z;
  stem = record {
    gives = λ p. sym (ap (λ b. cond b [] (port_gives way at n x actual p.present)) e);
    names = All-nil _;
  };
  sound = All-nil (IsDriver (widths_of wires) shapes);
  links =
      append-nil (zip (lhs_bits j.child) (lhs_bits j.parent))
      ∙ ap (λ c. zip (lhs_bits c) (lhs_bits j.parent)) g.child
      ∙ ap (λ bs. zip bs (lhs_bits j.parent)) (seg_is n w ∙ ap (bits_of_wire n 0) (sym k))
      ∙ ap (zip (bits_of_wire n 0 (width x))) (g.parent ∙ sym (present_are (slots (as_targets (index_scope way at) at actual)) t.parts h.parts))
      ∙ sym (pairs_are (bits_of_wire n 0 (width x)) (bits_named (as_targets (index_scope way at) at actual)))
      ∙ sym (ap (λ b. cond b (pairs (bits_of_wire n 0 (width x)) (bits_named (as_targets (index_scope way at) at actual))) []) e);
  join_is = All-cons (f.IsJoin (widths_of wires)) j [] (subst (λ (z : List ℕ). f.IsJoin z j) (sym s) g.sound) (no_join (widths_of wires));
}
