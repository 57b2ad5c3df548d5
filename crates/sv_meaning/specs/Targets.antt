-- Targets of assignments: the bits that they name, and how a value is written into them.
use Rattle.std.specs.Prelude.{ℕ, zero, suc, ◌+◌, Bool, true, false, ◌&&◌, not, ◌==◌, List, [], ◌∷◌, ◌++◌, map, take, drop, Option, Some, None, ℤ, pos, negsuc, ◌+ℤ◌, slice_get, slice_index_or, if◌then◌else◌}
use mathlib.Core.Former.{Count}
use Rattle.fourvec.specs.declared.Bit.{Bit}
use Rattle.fourvec.specs.declared.Bit.TheVariants.{Unknown}
use Rattle.fourvec.specs.Bits.{each}
use Rattle.fourvec.specs.Spots.{overlaid, kept_bit}
use Rattle.sv_tree.specs.declared.stmts.Lvalue.{Lvalue, Name, Concat', Row_of-Lvalue, end_of-Lvalue, more_of-Lvalue}
use Rattle.sv_outside.specs.declared.refusal.Place.{Place}
use Rattle.sv_tree.specs.declared.word.Word.{Word}
use Rattle.sv_meaning.specs.Faults.{Faults, fault, fault_if, or_then, unknown_name, bad_width, bad_target}
use Rattle.sv_meaning.specs.Layouts.{Layout, scalar, width, Scope, constant_scope, What, signal_is, of_wires, Read, find}
use Rattle.sv_meaning.specs.Meanings.{Meaning, fixed_faults, is_width, Step, Part, step_in, bits_at, with_part, chain_layout, chain_faults, indices, bits_from}
use Rattle.lhs_alias.specs.declared.segs.WireBit.{WireBit}
use Rattle.lhs_alias.specs.Segs.{bit}
use Rattle.settling.specs.Settling.{Store}
use Rattle.sv_meaning.specs.Values.{step}

-- a net or variable with its selects
pub record Target : Type 0 where
  pub wire : ℕ
  pub layout : Layout
  pub steps : List Step

abbrev pub target_of : Option What → List Step → Target
target_of (Some (signal_is of_wires n x)) all = record { wire = n; layout = x; steps = all }
target_of x all = record { wire = 0; layout = scalar false; steps = [] }

-- What stands against a name with selects as a target, its indices being judged so. Only nets and variables are targets (10.3.2, 10.4);
-- for what is none a place is given.
abbrev pub target_faults : (Meaning → Faults) → Place → Word → Option What → List Step → Faults
target_faults judge p w (Some (signal_is of_wires n x)) all = chain_faults judge x all
target_faults judge p w None all = fault unknown_name w.place
target_faults judge p w x all = fault bad_target p

-- the parts of a target, the most significant first, its indices being read in a scope of their own
unfoldable mutual
  pub targets : Scope → Scope → Lvalue → List Target
  targets index at (Name w all) = target_of (find w.text at) (map (step index) all) ∷ []
  targets index at (Concat' p s all) = targets_of index at all

  pub targets_of : {m : Count} → Scope → Scope → Row_of-Lvalue m → List Target
  targets_of index at end_of-Lvalue = []
  targets_of index at (more_of-Lvalue x all) = targets index at x ++ targets_of index at all

abbrev pub width_or_none : Option Layout → ℕ
width_or_none None = 0
width_or_none (Some x) = width x

abbrev pub target_width : Target → ℕ
target_width t = width_or_none (chain_layout t.layout t.steps)

unfoldable pub widths : List Target → ℕ
widths [] = 0
widths (t ∷ more) = target_width t + widths more

-- a concatenation of targets has at most 128 bits
abbrev pub wide_target : Place → List Target → Faults
wide_target p all = fault_if (not (is_width (widths all))) bad_width p

-- what stands against a target, its indices being read in a scope of their own and judged so
unfoldable mutual
  pub lvalue_faults : (Meaning → Faults) → Scope → Scope → Lvalue → Faults
  lvalue_faults judge index at (Name w all) = target_faults judge w.place w (find w.text at) (map (step index) all)
  lvalue_faults judge index at (Concat' p s all) = or_then (all_lvalue_faults judge index at all) (wide_target p (targets_of index at all))

  pub all_lvalue_faults : {m : Count} → (Meaning → Faults) → Scope → Scope → Row_of-Lvalue m → Faults
  all_lvalue_faults judge index at end_of-Lvalue = []
  all_lvalue_faults judge index at (more_of-Lvalue x all) = lvalue_faults judge index at x ++ all_lvalue_faults judge index at all

-- A continuous assignment, section 10.3.2: each index of its target is a constant expression.
abbrev pub assigned_targets : Scope → Lvalue → List Target
assigned_targets at to = targets (constant_scope at) at to

abbrev pub assigned_faults : Scope → Lvalue → Faults
assigned_faults at to = lvalue_faults fixed_faults (constant_scope at) at to

-- ---- the bits that a target names, IEEE 1800-2017 section 11.5.1

unfoldable pub bit_names : ℕ → ℕ → ℕ → List (Option WireBit)
bit_names n k zero = []
bit_names n k (suc w) = Some (bit n k) ∷ bit_names n (suc k) w

abbrev pub flat : {A : Type 0} → Option (Option A) → Option A
flat None = None
flat (Some x) = x

abbrev pub slot_at : {A : Type 0} → List (Option A) → ℤ → Option A
slot_at all (pos k) = flat (slice_get all k)
slot_at all (negsuc k) = None

-- so many slots from a place on, none where there is no bit
unfoldable pub slots_from : {A : Type 0} → List (Option A) → ℤ → ℕ → List (Option A)
slots_from all p zero = []
slots_from all p (suc w) = slot_at all p ∷ slots_from all (p +ℤ pos 1) w

abbrev pub with_place : {B : Type 0} → Option ℤ → B → (ℤ → B) → B
with_place None b f = b
with_place (Some i) b f = f i

-- the place of a constant index
abbrev pub fixed_place : Step → Part → Option ℤ
fixed_place s p = if (indices s).constant then p.place (λ o n k. Unknown) else None

-- Behind an index that is not constant, or not known, the whole part is named.
unfoldable pub chain_slots : Layout → List Step → List (Option WireBit) → List (Option WireBit)
chain_slots x [] all = all
chain_slots x (s ∷ more) all =
    with_part (step_in x s) all (λ p. with_place (fixed_place s p) all (λ i. chain_slots p.layout more (slots_from all i (width p.layout))))

unfoldable pub slots : List Target → List (Option WireBit)
slots [] = []
slots (t ∷ more) = slots more ++ chain_slots t.layout t.steps (bit_names t.wire 0 (width t.layout))

unfoldable pub present : {A : Type 0} → List (Option A) → List A
present [] = []
present (None ∷ more) = present more
present (Some x ∷ more) = x ∷ present more

-- all bits that the target can name
abbrev pub bits_named : List Target → List WireBit
bits_named all = present (slots all)

-- each index is constant and known
unfoldable pub chain_fixed : Layout → List Step → Bool
chain_fixed x [] = true
chain_fixed x (s ∷ more) = with_part (step_in x s) false (λ p. with_place (fixed_place s p) false (λ i. chain_fixed p.layout more))

unfoldable pub are_fixed : List Target → Bool
are_fixed [] = true
are_fixed (t ∷ more) = chain_fixed t.layout t.steps && are_fixed more

-- ---- writing

-- a part put into the bits that it was read from
abbrev pub put_at : Option ℤ → List Bit → List Bit → List Bit
put_at None old part = each (kept_bit part) old
put_at (Some p) old part = overlaid old p part

-- Reads the part that the first select names, writes the rest of the chain into it, and writes it back.
unfoldable pub put : Read → Layout → List Step → List Bit → List Bit → List Bit
put read x [] old bits = bits
put read x (s ∷ more) old bits =
    with_part (step_in x s) old (λ p. put_at (p.place read) old (put read p.layout more (bits_at (p.place read) (width p.layout) old) bits))

-- the store with these bits at a wire
abbrev pub with_wire : ℕ → List Bit → Store → Store
with_wire n bits store m k = if m == n then slice_index_or bits k (store m k) else store m k

abbrev pub write : Read → Target → List Bit → Store → Store
write read t bits store = with_wire t.wire (put read t.layout t.steps (bits_from (store t.wire) 0 (width t.layout)) bits) store

-- The parts are written from the most significant on, an index reading what was written so far.
unfoldable pub write_all : (Store → Read) → List Target → List Bit → Store → Store
write_all look [] bits store = store
write_all look (t ∷ more) bits store =
    write_all look more (take (widths more) bits) (write (look store) t (drop (widths more) bits) store)
