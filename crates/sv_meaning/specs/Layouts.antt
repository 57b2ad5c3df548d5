-- What names stand for: layouts of bits, constants, signals, and the scopes that hold them.
use Rattle.std.specs.Prelude.{◌≡◌, ◌⊎◌, ℕ, suc, max, ◌+◌, ◌-◌, ◌*◌, Bool, false, List, [], ◌∷◌, ◌++◌, Option, Some, None, ℤ, pos, ◌-ℤ◌, ◌*ℤ◌, nat_abs, int_le, bytes_eq, if◌then◌else◌}
use Rattle.std.specs.List.{Contains}
use Rattle.fourvec.specs.declared.Bit.{Bit}

abbrev pub Name : Type 0
Name = List ℕ

-- ---- layouts: packed arrays and structures, IEEE 1800-2017 sections 7.2 and 7.4

mutual
  -- Each layout has a sign. A dimension has its left and right bound and the layout of its elements.
  pub data Layout : Type 0 where
    scalar : Bool → Layout
    dim : Bool → ℤ → ℤ → Layout → Layout
    struct : Bool → Members → Layout

  -- the first is the most significant
  pub data Members : Type 0 where
    no_members : Members
    member : Name → Layout → Members → Members

-- the number of elements of a range
abbrev pub count_between : ℤ → ℤ → ℕ
count_between l r = suc (nat_abs (l -ℤ r))

abbrev mutual
  pub width : Layout → ℕ
  width (scalar s) = 1
  width (dim s l r each) = count_between l r * width each
  width (struct s all) = width_all all

  pub width_all : Members → ℕ
  width_all no_members = 0
  width_all (member n x more) = width x + width_all more

-- how deep a layout is nested: one level for each range, and one for each structure
unfoldable mutual
  pub depth : Layout → ℕ
  depth (scalar s) = 0
  depth (dim s l r each) = suc (depth each)
  depth (struct s all) = suc (deepest all)

  pub deepest : Members → ℕ
  deepest no_members = 0
  deepest (member n x more) = max (depth x) (deepest more)

abbrev pub is_signed : Layout → Bool
is_signed (scalar s) = s
is_signed (dim s l r each) = s
is_signed (struct s all) = s

-- [w-1:0]
abbrev pub plain : ℕ → Bool → Layout
plain w s = dim s (pos (w - 1)) (pos 0) (scalar false)

-- A left bound below the right one makes an ascending range; any other goes down.
abbrev pub goes_down : ℤ → ℤ → Bool
goes_down l r = int_le r l

-- where the element of an index begins, the least significant bit being 0: that of the right bound is the least significant
abbrev pub place_of : ℤ → ℤ → ℕ → ℤ → ℤ
place_of l r w i = (if goes_down l r then i -ℤ r else r -ℤ i) *ℤ pos w

-- a member, and where it begins
unfoldable pub member_in : Name → Members → Option (ℕ × Layout)
member_in n no_members = None
member_in n (member m x more) = if bytes_eq m n then Some (width_all more, x) else member_in n more

-- ---- names, section 23.9

-- of whom a signal is: a wire of the design, a variable of a table, or a sample of a table
pub data Origin : Type 0 where
  of_wires : Origin
  of_choice : Origin
  of_samples : Origin

-- a signal that is named, with the width at which it is
pub record NamedSignal : Type 0 where
  pub owner : Origin
  pub number : ℕ
  pub width : ℕ

pub data What : Type 0 where
  -- a constant: its bits and its sign
  number_is : List Bit → Bool → What
  type_is : Layout → What
  signal_is : Origin → ℕ → Layout → What
  -- the variable of generate loops, outside of a turn
  genvar_is : What

-- a name with what it is declared as
abbrev pub Entry : Type 0
Entry = Name × What

-- The names that are seen at a place of a text.
pub record Scope : Type 0 where
  -- the constants and types that are declared above it, and all nets and variables of the scopes around it
  pub all : List Entry
  -- what is declared above it, which is what a constant expression sees: a net that is declared later hides no constant from it
  pub above : List Entry

-- what a constant expression sees at the place
abbrev pub constant_scope : Scope → Scope
constant_scope at = record { all = at.above; above = at.above }

-- names that are all declared above
abbrev pub scope_of : List Entry → Scope
scope_of all = record { all = all; above = all }

-- with more names, declared above
abbrev pub with_names : Scope → List Entry → Scope
with_names at more = record { all = at.all ++ more; above = at.above ++ more }

abbrev pub or_else : {A : Type 0} → Option A → Option A → Option A
or_else (Some x) other = Some x
or_else None other = other

-- The last entry of a name counts.
unfoldable pub last_of : Name → List Entry → Option What
last_of n [] = None
last_of n (e ∷ more) = or_else (last_of n more) (if bytes_eq e.0 n then Some e.1 else None)

abbrev pub find : Name → Scope → Option What
find n at = last_of n at.all

-- An entry stands for this signal, by a layout of its width.
pub record DeclaredIn (entries : List Entry) (s : NamedSignal) : Type 0 where
  pub name : Name
  pub layout : Layout
  pub is_there : Contains entries (name, signal_is s.owner s.number layout)
  pub wide : width layout ≡ s.width

-- the same of an entry that is seen at a place, or by a constant expression there
abbrev pub Declared : Scope → NamedSignal → Type 0
Declared at s = DeclaredIn at.all s ⊎ DeclaredIn at.above s

-- a value for each bit of each signal
abbrev pub Read : Type 0
Read = Origin → ℕ → ℕ → Bit
