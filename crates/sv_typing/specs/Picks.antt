-- Selects behind a name, one by one, as parts of its bits (IEEE 1800-2017, 11.5.1).
use Rattle.std.specs.Prelude.{◌≡◌, ℕ, Bool, true, false, not, List, [], ◌∷◌, Option, Some, None, ℤ, pos, ◌-ℤ◌, ◌*ℤ◌, Result, Ok, Err, if◌then◌else◌}
use Rattle.std.specs.List.{Contains, All}
use Rattle.fourvec.specs.declared.Bit.{Bit}
use Rattle.fourvec.specs.declared.Spot.{Spot}
use Rattle.lhs_alias.specs.declared.segs.WireBit.{WireBit}
use Rattle.sv_meaning.specs.Faults.{Faults}
use Rattle.sv_meaning.specs.Layouts.{Entry, Layout, Scope, width, goes_down, Read, NamedSignal}
use Rattle.sv_meaning.specs.Meanings.{Meaning, Step, Part, step_in, step_faults, indices, all_indices, bits_at, nowhere, chain_bits, chain_layout, chain_faults, fixed_faults}
use Rattle.sv_meaning.specs.Targets.{with_place, slots_from, put_at, chain_slots, chain_fixed, put}
use Rattle.sv_typed.specs.declared.tree.Pick.{Pick}
use Rattle.sv_typed.specs.Typed.{pick_place, place_names, picked, picked_width, are_constant_picks, names_picked, PickIsSound}
use Rattle.sv_outside.specs.declared.refusal.TextErr.{TextErr}
use Rattle.sv_names.specs.declared.cursor.Cursor.{Cursor}
use Rattle.sv_names.specs.declared.cursor.Row.{Row}
use Rattle.sv_names.specs.Cursors.{cursor_is, each_is, CursorIsSound}
use Rattle.sv_typing.specs.Judging.{IsCause}
use Rattle.sv_typing.specs.declared.chain.IndexRule.{IndexRule}
use Rattle.sv_typing.specs.declared.chain.IndexRule.TheVariants as rule
use Rattle.sv_typing.specs.Positions.{is_constant, names_seen}

-- ---- what a list of picks does, as a chain of selects does it

-- the place of a part whose index is constant
abbrev pub fixed_pick : Pick → Option ℤ
fixed_pick p = if p.constant then pick_place p nowhere else None

-- Behind an index that is not constant, or not known, the whole part is named.
unfoldable pub picked_slots : {A : Type 0} → List Pick → List (Option A) → List (Option A)
picked_slots [] all = all
picked_slots (p ∷ more) all = with_place (fixed_pick p) all (λ i. picked_slots more (slots_from all i p.width))

-- the bits with others in place of the part
unfoldable pub picked_put : Read → List Pick → List Bit → List Bit → List Bit
picked_put read [] old bits = bits
picked_put read (p ∷ more) old bits = put_at (pick_place p read) old (picked_put read more (bits_at (pick_place p read) p.width old) bits)

-- each index is constant and known
unfoldable pub are_fixed : List Pick → Bool
are_fixed [] = true
are_fixed (p ∷ more) = with_place (fixed_pick p) false (λ i. are_fixed more)

-- ---- how an index is judged

abbrev pub rule_faults : IndexRule → Meaning → Faults
rule_faults (rule.Read p) m = m.faults (is_constant p)
rule_faults rule.Fixed m = fixed_faults m
rule_faults rule.Joined m = fixed_faults m

-- what it sees of the names of its place
abbrev pub names_ruled : IndexRule → Scope → List Entry
names_ruled (rule.Read p) at = names_seen p at
names_ruled rule.Fixed at = at.above
names_ruled rule.Joined at = at.all

abbrev pub rule_scope : IndexRule → Scope → Scope
rule_scope r at = record { all = names_ruled r at; above = at.above }

-- ---- one select

-- A pick stands for a select that leads from a layout to another, with nothing against it, each index being judged so.
pub record Picks (judge : Meaning → Faults) (x : Layout) (s : Step) (p : Pick) (y : Layout) : Type 0 where
  pub part : Part
  pub is : step_in x s ≡ Some part
  pub layout : part.layout ≡ y
  pub clear : step_faults judge x s ≡ []
  pub width : width y ≡ p.width
  pub place : (read : Read) → part.place read ≡ pick_place p read
  pub constant : (indices s).constant ≡ p.constant
  pub names : (n : NamedSignal) → Contains (place_names p.place) n → Contains (indices s).names n
  pub sound : PickIsSound p

-- ---- a chain of selects

-- picks that stand for the selects of a chain, one for each
unfoldable pub Chains : (Meaning → Faults) → Layout → List Step → List Pick → Layout → Type 0
Chains judge x [] [] y = x ≡ y
Chains judge x (s ∷ steps) (p ∷ picks) y = (z : Layout) × Picks judge x s p z × Chains judge z steps picks y
Chains judge x steps picks y = ⊥

-- what follows from it
pub record Follows (judge : Meaning → Faults) (x : Layout) (steps : List Step) (picks : List Pick) (y : Layout) : Type 0 where
  pub clear : chain_faults judge x steps ≡ []
  pub layout : chain_layout x steps ≡ Some y
  pub bits : (read : Read) (a : List Bit) → chain_bits read x steps a ≡ picked read picks a
  pub slots : (all : List (Option WireBit)) → chain_slots x steps all ≡ picked_slots picks all
  pub puts : (read : Read) (old bits : List Bit) → put read x steps old bits ≡ picked_put read picks old bits
  pub fixed : chain_fixed x steps ≡ are_fixed picks
  pub constant : (all_indices steps).constant ≡ are_constant_picks picks
  pub width : picked_width picks (width x) ≡ width y
  pub names : (n : NamedSignal) → Contains (names_picked picks) n → Contains (all_indices steps).names n
  pub sound : All PickIsSound picks

-- ---- what code finds of one select

-- where a select leads, or why it is refused
abbrev pub Leads : (Meaning → Faults) → Layout → Step → Result (Cursor × Pick) TextErr → Type 0
Leads judge x s (Ok t) = Picks judge x s t.1 (cursor_is t.0) × CursorIsSound t.0
Leads judge x s (Err e) = IsCause (step_faults judge x s) e

-- how many elements a place lies above the one that an index counts from, where it is so many elements further on
abbrev pub offset_of : Row → ℤ → ℤ
offset_of row shift = if goes_down row.left row.right then shift -ℤ row.right else row.right -ℤ shift

-- the place of an index, so many elements further on
abbrev pub spot_of : Row → Bool → ℤ → ℕ → Spot
spot_of row s shift n = record {
  signed = s;
  negate = not (goes_down row.left row.right);
  each = width (each_is row.each);
  add = offset_of row shift *ℤ pos (width (each_is row.each));
  width = n;
}
