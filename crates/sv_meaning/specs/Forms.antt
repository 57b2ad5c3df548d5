-- The layout of a type, and the constants that it brings.
use Rattle.std.specs.Prelude.{ℕ, ◌+◌, ◌-◌, ◌^◌, Bool, true, false, ◌&&◌, ◌||◌, not, nat_lt, nat_le, List, [], ◌∷◌, ◌++◌, map, Option, Some, None, Ok, Err, ℤ, pos, negsuc, ◌+ℤ◌, int_le, int_lt}
use mathlib.Core.Former.{Count}
use Rattle.fourvec.specs.Bits.{signed_vector}
use Rattle.sv_outside.specs.declared.refusal.Place.{Place}
use Rattle.sv_tree.specs.declared.word.Word.{Word}
use Rattle.sv_tree.specs.declared.exprs.Expr.{Expr}
use Rattle.sv_tree.specs.declared.exprs.Sign.{Sign}
use Rattle.sv_tree.specs.declared.exprs.Sign.TheVariants as sign
use Rattle.sv_tree.specs.declared.forms.Range.{Range}
use Rattle.sv_tree.specs.declared.forms.EnumLabel.{EnumLabel}
use Rattle.sv_tree.specs.declared.forms.TypeTree.{TypeTree, Vector, Integer, Struct', Enum, Named, Row_of-Member, end_of-Member, more_of-Member}
use Rattle.sv_tree.specs.declared.forms.Member.{Of', end_of-TypeTree, more_of-TypeTree}
use Rattle.sv_meaning.specs.Faults.{Faults, fault, fault_if, or_then, Judged, provided, both, ◌>>=◌, bad_width, twice, unknown_name}
use Rattle.sv_meaning.specs.Layouts.{Name, Entry, Layout, scalar, dim, struct, Members, no_members, member, width, width_all, depth, plain, Scope, with_names, What, number_is, type_is, find}
use Rattle.sv_meaning.specs.Meanings.{Meaning, fixed_faults, fixed_faults_at, constant_at, number_of, is_bound, is_width, whole, nowhere_in_text}
use Rattle.sv_meaning.specs.Values.{mean}
use Rattle.sv_meaning.specs.Names.{has_name}

-- the same, with the place of the name
abbrev pub Declared : Type 0
Declared = Word × What

abbrev pub entry_of : Declared → Entry
entry_of d = (d.0.text, d.1)

abbrev pub entries_of : List Declared → List Entry
entries_of all = map entry_of all

abbrev pub has_sign : Option Sign → Bool
has_sign (Some sign.Signed) = true
has_sign x = false

-- ---- packed ranges, IEEE 1800-2017 section 7.4.1

-- a bound of a range at a place: constant, wholly 0 and 1, and of 32 bits
abbrev pub bound_faults : Place → Meaning → Faults
bound_faults p m = or_then (fixed_faults m) (fault_if (not (is_bound (number_of m))) bad_width p)

abbrev pub bound : Scope → Place → Expr → Judged ℤ
bound at p x = provided (bound_faults p (mean at x)) (number_of (mean at x))

abbrev pub bounds : Scope → Range → Judged (ℤ × ℤ)
bounds at r = both (bound at r.place r.left) (bound at r.place r.right)

-- how many ranges and structures may lie in one another (this project's bound)
abbrev pub most_levels : ℕ
most_levels = 1000

abbrev pub sized : Place → Layout → Judged Layout
sized p x = provided (fault_if (not (is_width (width x) && nat_le (depth x) most_levels)) bad_width p) x

abbrev pub ranged_layout : Place → Bool → Layout × (ℤ × ℤ) → Judged Layout
ranged_layout p s found = sized p (dim s found.1.0 found.1.1 found.0)

-- The outermost range has the sign. The widths are taken together from the right.
unfoldable pub over_ranges : Scope → Bool → List Range → Layout → Judged Layout
over_ranges at s [] each = Ok each
over_ranges at s (r ∷ more) each = both (over_ranges at false more each) (bounds at r) >>= ranged_layout r.place s

-- the layout of elements or, where there is no range, of the whole
abbrev pub vector_layout : Scope → Bool → List Range → Judged Layout
vector_layout at s [] = Ok (scalar s)
vector_layout at s ranges = over_ranges at s ranges (scalar false)

abbrev pub struct_layout : Scope → Bool → List Range → Members → Judged Layout
struct_layout at s [] all = Ok (struct s all)
struct_layout at s ranges all = over_ranges at s ranges (struct false all)

abbrev pub option_to_list : {A : Type 0} → Option A → List A
option_to_list None = []
option_to_list (Some x) = x ∷ []

abbrev pub named_layout : Scope → Word → Option What → List Range → Judged Layout
named_layout at w (Some (type_is t)) ranges = over_ranges at false ranges t
named_layout at w x ranges = Err (fault unknown_name w.place)

-- ---- enumerations, section 6.19

abbrev pub can_hold : ℕ → Bool → ℤ → Bool
can_hold w true n = int_le (negsuc (2 ^ (w - 1) - 1)) n && int_lt n (pos (2 ^ (w - 1)))
can_hold w false n = int_le (pos 0) n && int_lt n (pos (2 ^ w))

-- the number that an expression gives a label: evaluated at the larger of both lengths, by its own sign
abbrev pub label_value : ℕ → Meaning → Judged ℤ
label_value w m = provided (fixed_faults_at w m) (whole m.sign (constant_at w m))

-- the number of an enumerator: given, or the next
abbrev pub label_number : Scope → ℕ → ℤ → Option Expr → Judged ℤ
label_number at w next None = Ok next
label_number at w next (Some x) = label_value w (mean at x)

abbrev pub label_entry : ℕ → Bool → Word → ℤ → Judged Declared
label_entry w s name n = provided (fault_if (not (can_hold w s n)) bad_width name.place) (name, number_is (signed_vector w n) s)

-- the constants of the labels, which count up from a number
unfoldable pub labels : Scope → ℕ → Bool → ℤ → List EnumLabel → Judged (List Declared)
labels at w s next [] = Ok []
labels at w s next (x ∷ more) = do
  n ← label_number at w next x.value
  e ← label_entry w s x.name n
  rest ← labels (with_names at (entry_of e ∷ [])) w s (n +ℤ pos 1) more
  Ok (e ∷ rest)

-- ---- structures, section 7.2

-- The names of members differ, the bits of all members so far are no more than 128, and none is nested so deep that the structure would
-- be nested too deep.
unfoldable pub member_faults : List Name → ℕ → Layout → List Word → Faults
member_faults used bits x [] = []
member_faults used bits x (n ∷ more) =
    or_then (fault_if (has_name n.text used) twice n.place ++ fault_if (nat_lt 128 (bits + width x) || nat_le most_levels (depth x)) bad_width n.place)
    (member_faults (n.text ∷ used) (bits + width x) x more)

-- a structure has a member; no text spells one that has none
abbrev pub some_member : Members → Faults
some_member all = fault_if (not (nat_lt 0 (width_all all))) bad_width nowhere_in_text

-- one layout for each of the names
unfoldable pub members_of : List Word → Layout → Members → Members
members_of [] x more = more
members_of (w ∷ all) x more = member w.text x (members_of all x more)

abbrev pub texts_of : List Word → List Name
texts_of all = map (λ w. w.text) all

unfoldable pub bits_of : List Word → ℕ → ℕ
bits_of [] w = 0
bits_of (n ∷ more) w = w + bits_of more w

-- ---- types

abbrev pub Formed : Type 0
Formed = Layout × List Declared

abbrev pub alone : Layout → Formed
alone x = (x, [])

unfoldable mutual
  -- a type, and the enumerators that it declares
  pub form : Scope → TypeTree → Judged Formed
  form at (Vector word s ranges) = vector_layout at (has_sign s) ranges >>= λ x. Ok (alone x)
  form at Integer = Ok (alone (plain 32 true))
  form at (Named w ranges) = named_layout at w (find w.text at) ranges >>= λ x. Ok (alone x)
  form at (Enum word s r all) = do
    base ← vector_layout at (has_sign s) (option_to_list r)
    found ← labels at (width base) (has_sign s) (pos 0) all
    Ok (base, found)
  form at (Struct' s r all ranges) = do
    found ← forms at [] 0 all >>= λ all. provided (some_member all.0) all
    x ← struct_layout (with_names at (entries_of found.1)) (has_sign s) ranges found.0
    Ok (x, found.1)

  -- the members behind those of such names and of so many bits
  pub forms : {m : Count} → Scope → List Name → ℕ → Row_of-Member m → Judged (Members × List Declared)
  forms at used bits end_of-Member = Ok (no_members, [])
  forms at used bits (more_of-Member (Of' r (more_of-TypeTree t end_of-TypeTree) names) all) = do
    x ← form at t
    y ← provided (member_faults used bits x.0 names) x
    rest ← forms (with_names at (entries_of y.1)) (used ++ texts_of names) (bits + bits_of names (width y.0)) all
    Ok (members_of names y.0 rest.0, y.1 ++ rest.1)
