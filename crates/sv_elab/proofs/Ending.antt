-- The parts of a target whose indices are constant and known end within it.
use Rattle.std.proofs.Common.{◌≡◌, ℕ, ◌+◌, ◌-◌, ◌≤◌, true, List, [], ◌∷◌, ◌++◌, length, map, replicate, Some, None, ap, ◌∙◌, subst, arith, length-append}
use Rattle.std.specs.List.{All}
use Rattle.std.proofs.lemmas.List.{length-map, length-replicate}
use Rattle.std.proofs.lemmas.List.Elements.{All-nil, All-cons}
use Rattle.lhs_alias.specs.Segs.{lhs_bits}
use Rattle.sv_tree.specs.declared.exprs.Expr.{Expr}
use Rattle.sv_tree.specs.declared.stmts.Lvalue.{Lvalue}
use Rattle.sv_meaning.specs.Faults.{Faults}
use Rattle.sv_meaning.specs.Layouts.{Scope}
use Rattle.sv_meaning.specs.Meanings.{fixed_faults}
use Rattle.sv_meaning.specs.Values.{mean}
use Rattle.sv_meaning.specs.Targets.{Target, targets, lvalue_faults, are_fixed, slots}
use Rattle.sv_meaning.specs.Designs.{as_targets, actual_faults}
use Rattle.sv_meaning.proofs.Constants.{lvalue_is_fixed, actual_is_fixed}
use Rattle.sv_targets.specs.declared.parts.Part.{Part}
use Rattle.sv_targets.specs.declared.parts.Target as lowered
use Rattle.sv_targets.specs.Slots.{Slots, spread, Ascend, AreParts, IsLowered}
use Rattle.sv_elab.specs.Working.{IsWithin}
use Rattle.sv_elab.proofs.Slotting.{slots_long}

abbrev EndsAt : ℕ → Part → Type 0
EndsAt most p = p.lo + length (lhs_bits p.to) ≤ most

ends_in : (at : ℕ) (parts : List Part) → Ascend at parts → All (EndsAt (at + length (spread at parts))) parts
unfolding spread Ascend
ends_in at [] a = All-nil (EndsAt (at + 0))
ends_in at (p ∷ more) a =
    let n = length (lhs_bits p.to) in
    let gap : Slots = replicate (p.lo - at) None in
    let own : Slots = map Some (lhs_bits p.to) in
    let rest : Slots = spread (p.lo + n) more in
    let low = a.0 in
    let gap_long : length gap ≡ p.lo - at = length-replicate (p.lo - at) None in
    let own_long : length own ≡ n = length-map (lhs_bits p.to) Some in
    let long : p.lo + n + length rest ≡ at + length (gap ++ own ++ rest) = omega (arith, low, gap_long, own_long, length-append (gap ++ own) rest, length-append gap own) in
    subst (λ (m : ℕ). All (EndsAt m) (p ∷ more)) long (All-cons (EndsAt (p.lo + n + length rest)) p more (omega arith) (ends_in (p.lo + n) more a.1))

parts_within : (all : Slots) (parts : List Part) (w : ℕ) → AreParts all parts → length all ≡ w → All (IsWithin w) parts
parts_within all parts w a e =
    let gap : Slots = replicate a.gap None in
    let gap_long : length gap ≡ a.gap = length-replicate a.gap None in
    let long : length all ≡ length (spread 0 parts) + length gap = ap length a.is ∙ length-append (spread 0 parts) gap in
    λ k d l. record { some = a.some k d l; ends = let own = ends_in 0 parts a.ascend k d l in omega (arith, own, long, gap_long, e) }

lowered_within : (f : Faults) (ts : List Target) (x : lowered.Target) → IsLowered f ts x → are_fixed ts ≡ true → All (IsWithin x.width) x.parts
lowered_within f ts x h fixed = parts_within (slots ts) x.parts x.width h.parts (slots_long ts fixed ∙ h.width)

pub assigned_within : (index at : Scope) (to : Lvalue) (x : lowered.Target) → IsLowered (lvalue_faults fixed_faults index at to) (targets index at to) x → All (IsWithin x.width) x.parts
assigned_within index at to x h = lowered_within (lvalue_faults fixed_faults index at to) (targets index at to) x h (lvalue_is_fixed index at to h.clear)

pub actual_within : (index at : Scope) (actual : Expr) (x : lowered.Target) → IsLowered (actual_faults index at actual) (as_targets index at actual) x → All (IsWithin x.width) x.parts
actual_within index at actual x h = lowered_within (actual_faults index at actual) (as_targets index at actual) x h (actual_is_fixed (mean at actual).start index at actual h.clear)
