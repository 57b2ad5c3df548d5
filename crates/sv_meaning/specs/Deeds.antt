-- What statements do to the store of a block, by cases on their trees.
use Rattle.std.specs.Prelude.{ℕ, zero, suc, ◌+◌, max, Bool, true, false, ◌&&◌, nat_le, List, [], ◌∷◌, ◌++◌, map, Option, Some, Ok, Err, if◌then◌else◌}
use mathlib.Core.Former.{Count}
use Rattle.fourvec.specs.declared.Bit.{Bit}
use Rattle.fourvec.specs.declared.Bit.TheVariants.{Zero, One, Floating}
use Rattle.fourvec.specs.Bits.{first, vector, eq_of, and_of, or_of, add_of, sub_of, keep_bit, each}
use Rattle.sv_tree.specs.declared.exprs.Expr.{Expr}
use Rattle.sv_tree.specs.declared.exprs.BinaryOp.{BinaryOp}
use Rattle.sv_tree.specs.declared.exprs.BinaryOp.TheVariants as two
use Rattle.sv_tree.specs.declared.stmts.Step.{Step as LoopStep}
use Rattle.sv_tree.specs.declared.stmts.Step.TheVariants as loop_step
use Rattle.sv_tree.specs.declared.stmts.StepMark.{StepMark}
use Rattle.sv_tree.specs.declared.stmts.StepMark.TheVariants as step_mark
use Rattle.sv_tree.specs.declared.stmts.StepSign.TheVariants as step_sign
use Rattle.sv_tree.specs.declared.stmts.CaseWord.{CaseWord}
use Rattle.sv_tree.specs.declared.stmts.CaseWord.TheVariants as case_word
use Rattle.sv_tree.specs.declared.stmts.Stmt.{Stmt, Empty, Block', If', Case', For', Assign, Row_of-Stmt, end_of-Stmt, more_of-Stmt, Row_of-Arm, end_of-Arm, more_of-Arm, Held-Stmt-If-3, None', Some'}
use Rattle.sv_tree.specs.declared.stmts.Arm.{Labels', Default'}
use Rattle.sv_outside.specs.declared.refusal.Place.{Place}
use Rattle.sv_literal.specs.declared.meaning.Literal.{Literal}
use Rattle.sv_tree.specs.declared.word.Word.{Word}
use Rattle.sv_meaning.specs.Faults.{Faults, fault, fault_if, or_then, Judged, provided, ◌>>=◌, loop_long}
use Rattle.sv_meaning.specs.Layouts.{Name, Entry, Scope, constant_scope, with_names, number_is, NamedSignal, Read}
use Rattle.sv_meaning.specs.Meanings.{Meaning, fixed_faults, free_faults, nowhere, assigned, truth, named, literal_value, all_indices}
use Rattle.sv_meaning.specs.Values.{mean, binary_meaning}
use Rattle.sv_meaning.specs.Params.{converted_faults}
use Rattle.lhs_alias.specs.declared.segs.WireBit.{WireBit}
use Rattle.settling.specs.Settling.{Store}
use Rattle.sv_meaning.specs.Targets.{Target, targets, lvalue_faults, widths, bits_named, write_all}

-- ---- loops over a signed constant of 32 bits, IEEE 1800-2017 sections 12.7.1 and 27.4

-- A constant of 32 bits that an expression gives, as by an assignment.
abbrev pub index_value : Meaning → Judged (List Bit)
index_value m = provided (converted_faults 32 m) (assigned m nowhere 32)

abbrev pub index_entry : Name → List Bit → Entry
index_entry name bits = (name, number_is bits true)

abbrev pub counted : StepMark → List Bit → List Bit
counted step_mark.Inc bits = add_of bits (vector 32 1)
counted step_mark.Dec bits = sub_of bits (vector 32 1)

-- `i += x` and `i -= x`, which begin with `x` where something stands against it
abbrev pub stepped : BinaryOp → Word → List Bit → Meaning → Meaning
stepped op w bits m = record (binary_meaning w.place op (named w (Some (number_is bits true)) []) m) { start = m.start }

abbrev pub next_value : Scope → List Bit → LoopStep → Judged (List Bit)
next_value at bits (loop_step.After w m) = Ok (counted m bits)
next_value at bits (loop_step.Before m w) = Ok (counted m bits)
next_value at bits (loop_step.Assign w step_sign.Set x) = index_value (mean at x)
next_value at bits (loop_step.Assign w step_sign.Add x) = index_value (stepped two.Add w bits (mean at x))
next_value at bits (loop_step.Assign w step_sign.Sub x) = index_value (stepped two.Sub w bits (mean at x))

abbrev pub is_taken : Bit → Bool
is_taken One = true
is_taken b = false

-- the condition of a loop or of a conditional: constant, and wholly 0 and 1
abbrev pub fixed_truth : Meaning → Judged Bool
fixed_truth m = provided (fixed_faults m) (is_taken (truth m nowhere))

abbrev pub with_index : Scope → Name → List Bit → Scope
with_index at name bits = with_names at (index_entry name bits ∷ [])

abbrev pub holds_at : Scope → Name → Expr → List Bit → Judged Bool
holds_at at name test bits = fixed_truth (mean (with_index at name bits) test)

-- the turn of this value in the loop at a place, and those after it: at most so many
unfoldable pub turns_on : ℕ → Place → Scope → Name → Expr → LoopStep → List Bit → Judged (List (List Bit))
turns_on zero p at name test next bits = Err (fault loop_long p)
turns_on (suc fuel) p at name test next bits = do
  following ← next_value (with_index at name bits) bits next
  taken ← holds_at at name test following
  rest ← (if taken then turns_on fuel p at name test next following else Ok [])
  Ok (bits ∷ rest)

-- the values of the variable in all turns, from its first value on
abbrev pub turns_from : ℕ → Place → Scope → Name → Expr → LoopStep → List Bit → Judged (List (List Bit))
turns_from fuel p at name test next bits =
    holds_at at name test bits >>= λ taken. if taken then turns_on fuel p at name test next bits else Ok []

-- a loop has at most so many turns, and all loops of a design together so many (this project's bounds)
abbrev pub most_turns : ℕ
most_turns = 4096

abbrev pub most_turns_together : ℕ
most_turns_together = 1000000

-- where a turn begins after so many turns
abbrev pub turn_faults : Place → ℕ → Faults
turn_faults p made = fault_if (nat_le most_turns_together made) loop_long p

abbrev pub turns : Place → Scope → Name → Expr → Expr → LoopStep → Judged (List (List Bit))
turns p at name start test next = index_value (mean at start) >>= turns_from most_turns p at name test next

-- ---- what a statement does

pub record Deed : Type 0 where
  -- the store afterwards, where each store shows what names read
  pub run : (Store → Read) → Store → Store
  pub targets : List WireBit
  pub names : List NamedSignal
  pub faults : Faults
  -- the turns of its loops, and what stands against them where so many were made before
  pub turns : ℕ
  pub overrun : ℕ → Faults

abbrev pub idle : Deed
idle = record { run = λ look store. store; targets = []; names = []; faults = []; turns = 0; overrun = λ made. [] }

abbrev pub impossible : Faults → Deed
impossible all = record idle { faults = all }

abbrev pub together : ((Store → Read) → Store → Store) → Deed → Deed → Deed
together run a b = record {
  run = run;
  targets = a.targets ++ b.targets;
  names = a.names ++ b.names;
  faults = a.faults ++ b.faults;
  turns = a.turns + b.turns;
  overrun = λ made. or_then (a.overrun made) (b.overrun (made + a.turns));
}

abbrev pub after : Deed → Deed → Deed
after a b = together (λ look store. b.run look (a.run look store)) a b

-- Where the truth is unknown a bit stays where both stores agree, and else it is X.
abbrev pub merged : Bit → Store → Store → Store
merged One a b = a
merged Zero a b = b
merged t a b = λ n k. keep_bit (a n k) (b n k)

-- one of two, both from the same store
abbrev pub either : (Read → Bit) → Deed → Deed → Deed
either test a b = together (λ look store. merged (test (look store)) (a.run look store) (b.run look store)) a b

abbrev pub needing : Meaning → Deed → Deed
needing m a = record a { names = m.names ++ a.names; faults = free_faults m ++ a.faults }

-- section 12.4
abbrev pub if_else : Meaning → Deed → Deed → Deed
if_else c a b = needing c (either (truth c) a b)

unfoldable pub target_names : List Target → List NamedSignal
target_names [] = []
target_names (t ∷ more) = (all_indices t.steps).names ++ target_names more

-- section 10.4
abbrev pub assign : List Target → Faults → Meaning → Deed
assign to why m = record {
  run = λ look store. write_all look to (assigned m (look store) (widths to)) store;
  targets = bits_named to;
  names = m.names ++ target_names to;
  faults = why ++ free_faults m;
  turns = 0;
  overrun = λ made. [];
}

-- ---- `case` and `casez`, section 12.5

pub record CaseArm : Type 0 where
  pub labels : List Meaning
  pub body : Deed

unfoldable pub longest : List Meaning → ℕ
longest [] = 0
longest (m ∷ more) = max m.size (longest more)

unfoldable pub all_signed : List Meaning → Bool
all_signed [] = true
all_signed (m ∷ more) = m.sign && all_signed more

unfoldable pub all_faults : List Meaning → Faults
all_faults [] = []
all_faults (m ∷ more) = free_faults m ++ all_faults more

unfoldable pub all_names : List Meaning → List NamedSignal
all_names [] = []
all_names (m ∷ more) = m.names ++ all_names more

abbrev pub mask_bit : Bit → Bit
mask_bit Floating = Zero
mask_bit b = One

abbrev pub mask : ℕ → Bool → Literal → List Bit
mask w s l = each mask_bit (literal_value l w s)

-- in a `casez` the bits Z of a label that is a literal are not compared
abbrev pub same_value : Bool → ℕ → Bool → Option Literal → List Bit → List Bit → List Bit
same_value true w s (Some l) a b = eq_of (and_of a (mask w s l)) (and_of b (mask w s l))
same_value z w s l a b = eq_of a b

unfoldable pub matches : Bool → ℕ → Bool → Meaning → Read → List Meaning → List Bit
matches z w s x read [] = Zero ∷ []
matches z w s x read (m ∷ more) = or_of (same_value z w s m.literal (x.value read w s) (m.value read w s)) (matches z w s x read more)

-- a chain of choices, the default last
unfoldable pub case_chain : Bool → ℕ → Bool → Meaning → List CaseArm → Deed → Deed
case_chain z w s x [] other = other
case_chain z w s x (a ∷ more) other = either (λ read. first (matches z w s x read a.labels)) a.body (case_chain z w s x more other)

unfoldable pub labels_of : List CaseArm → List Meaning
labels_of [] = []
labels_of (a ∷ more) = a.labels ++ labels_of more

abbrev pub needing_all : List Meaning → Deed → Deed
needing_all all a = record a { names = all_names all ++ a.names; faults = all_faults all ++ a.faults }

-- all sized to the largest, and signed only where all are
abbrev pub case_of : Bool → Meaning → List CaseArm × Deed → Deed
case_of z x arms =
    needing_all (x ∷ labels_of arms.0)
    (case_chain z (longest (x ∷ labels_of arms.0)) (all_signed (x ∷ labels_of arms.0)) x arms.0 arms.1)

-- ---- turns

-- a turn of the loop at a place
abbrev pub one_turn : Place → Deed → Deed
one_turn p a = record a { turns = suc a.turns; overrun = λ made. or_then (turn_faults p made) (a.overrun (suc made)) }

unfoldable pub in_turn : Place → (List Bit → Deed) → List (List Bit) → Deed
in_turn p body [] = idle
in_turn p body (bits ∷ more) = after (one_turn p (body bits)) (in_turn p body more)

abbrev pub in_turns : Place → (List Bit → Deed) → Judged (List (List Bit)) → Deed
in_turns p body (Err all) = impossible all
in_turns p body (Ok all) = in_turn p body all

abbrev pub is_casez : CaseWord → Bool
is_casez case_word.Case = false
is_casez case_word.Casez = true

-- ---- statements

-- The first value, the condition and the step of a loop are constant expressions, and an index of a target is none.
unfoldable mutual
  pub deed : Stmt → Scope → Deed
  deed Empty at = idle
  deed (Block' p b s all e) at = deeds all at
  deed (If' u c r (more_of-Stmt x end_of-Stmt) other) at = if_else (mean at c) (deed x at) (deed_else other at)
  deed (Case' u word x s all) at = case_of (is_casez word) (mean at x) (arms all at)
  deed (For' p form name start test next r (more_of-Stmt body end_of-Stmt)) at =
      in_turns p (λ bits. deed body (with_index at name.text bits)) (turns p (constant_scope at) name.text start test next)
  deed (Assign to mark p x) at = assign (targets at at to) (lvalue_faults free_faults at at to) (mean at x)

  pub deed_else : Held-Stmt-If-3 → Scope → Deed
  deed_else None' at = idle
  deed_else (Some' r (more_of-Stmt x end_of-Stmt)) at = deed x at

  pub deeds : {m : Count} → Row_of-Stmt m → Scope → Deed
  deeds end_of-Stmt at = idle
  deeds (more_of-Stmt x all) at = after (deed x at) (deeds all at)

  -- the arms in order, and the default
  pub arms : {m : Count} → Row_of-Arm m → Scope → List CaseArm × Deed
  arms end_of-Arm at = ([], idle)
  arms (more_of-Arm (Labels' xs r (more_of-Stmt x end_of-Stmt)) all) at =
      (record { labels = map (mean at) xs; body = deed x at } ∷ (arms all at).0, (arms all at).1)
  arms (more_of-Arm (Default' colon r (more_of-Stmt x end_of-Stmt)) all) at = ((arms all at).0, deed x at)
