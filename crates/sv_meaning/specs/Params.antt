-- The values of parameters, and the pins of instances.
use Rattle.std.specs.Prelude.{ℕ, suc, Bool, true, false, ◌&&◌, not, List, [], ◌∷◌, Option, Some, None, Ok, Err, ℤ, pos, int_le, nat_abs}
use Rattle.fourvec.specs.Bits.{is_known}
use Rattle.sv_tree.specs.declared.word.Word.{Word}
use Rattle.sv_tree.specs.declared.exprs.Expr.{Expr, Name', end_of-Select}
use Rattle.sv_tree.specs.declared.exprs.Sign.{Sign}
use Rattle.sv_tree.specs.declared.exprs.Sign.TheVariants as sign
use Rattle.sv_tree.specs.declared.forms.Range.{Range}
use Rattle.sv_tree.specs.declared.design.ParamWord.{ParamWord}
use Rattle.sv_tree.specs.declared.design.ParamWord.TheVariants as param_word
use Rattle.sv_tree.specs.declared.design.ParamType.{ParamType}
use Rattle.sv_tree.specs.declared.design.ParamType.TheVariants as param_type
use Rattle.sv_tree.specs.declared.design.Pin.{Pin}
use Rattle.sv_tree.specs.declared.design.Pin.TheVariants as pin
use Rattle.sv_tree.specs.declared.design.NamedPin.{NamedPin}
use Rattle.sv_tree.specs.declared.design.Pins.{Pins}
use Rattle.sv_tree.specs.declared.design.Pins.TheVariants as pins
use Rattle.sv_meaning.specs.Faults.{Faults, fault, fault_if, or_then, Judged, provided, both, ◌>>=◌, bad_width, not_constant, port_unknown, port_twice}
use Rattle.sv_meaning.specs.Layouts.{Name, Scope, What, number_is}
use Rattle.sv_meaning.specs.Names.{has_name}
use Rattle.sv_meaning.specs.Meanings.{Meaning, fixed_faults, nowhere, assigned, constant_of, is_width}
use Rattle.sv_meaning.specs.Values.{mean, is_signed_word}
use Rattle.sv_meaning.specs.Forms.{bounds, has_sign}

-- ---- values, IEEE 1800-2017 section 6.20.2

-- of the size and sign of the expression
abbrev pub untyped : Meaning → Judged What
untyped m = provided (fixed_faults m) (number_is (constant_of m) m.sign)

abbrev pub with_sign : Bool → Meaning → Judged What
with_sign s m = provided (fixed_faults m) (number_is (constant_of m) s)

-- a constant of so many bits that an expression gives as by an assignment, and what stands against it
abbrev pub converted_faults : ℕ → Meaning → Faults
converted_faults w m = or_then (m.faults true) (fault_if (not (is_known (assigned m nowhere w))) not_constant m.start)

-- converted as by an assignment
abbrev pub typed : ℕ → Bool → Meaning → Judged What
typed w s m = provided (converted_faults w m) (number_is (assigned m nowhere w) s)

abbrev pub is_signed_whole : Option Sign → Bool
is_signed_whole (Some sign.Unsigned) = false
is_signed_whole x = true

-- The range of a parameter is [n:0] (this project's bound).
abbrev pub is_plain_range : ℤ × ℤ → Bool
is_plain_range b = int_le b.1 (pos 0) && (int_le (pos 0) b.1 && (int_le (pos 0) b.0 && is_width (suc (nat_abs b.0))))

abbrev pub range_width : Scope → Range → Judged ℕ
range_width at r = bounds at r >>= λ b. provided (fault_if (not (is_plain_range b)) bad_width r.place) (suc (nat_abs b.0))

-- What a type makes of a value: it is kept, it takes a sign, or it is converted to so many bits with a sign.
pub data ParamKind : Type 0 where
  kept : ParamKind
  signed_as : Bool → ParamKind
  sized_as : ℕ → Bool → ParamKind

-- what is written as a type, read at a place
abbrev pub param_kind : Scope → Option ParamType → Judged ParamKind
param_kind at None = Ok kept
param_kind at (Some (param_type.Whole word s)) = Ok (sized_as 32 (is_signed_whole s))
param_kind at (Some (param_type.Bits None None None)) = Ok kept
param_kind at (Some (param_type.Bits None (Some s) None)) = Ok (signed_as (is_signed_word s))
param_kind at (Some (param_type.Bits word s (Some r))) = range_width at r >>= λ w. Ok (sized_as w (has_sign s))
param_kind at (Some (param_type.Bits (Some word) s None)) = Ok (sized_as 1 (has_sign s))

abbrev pub value_as : ParamKind → Meaning → Judged What
value_as kept m = untyped m
value_as (signed_as s) m = with_sign s m
value_as (sized_as w s) m = typed w s m

-- ---- pins, section 23.3.2

-- a connection of a name, which is nothing where it is left open
abbrev pub Connection : Type 0
Connection = Name × Option Expr

-- the name that stands for itself
abbrev pub name_alone : Word → Expr
name_alone w = Name' w [] end_of-Select

abbrev pub pinned : Word → Pin → Option Expr
pinned w pin.Same = Some (name_alone w)
pinned w pin.Open = None
pinned w (pin.Given x) = Some x

-- each is one of the names, and comes once
abbrev pub pin_faults : List Name → List Name → Word → Faults
pin_faults names used w = or_then (fault_if (not (has_name w.text names)) port_unknown w.place) (fault_if (has_name w.text used) port_twice w.place)

abbrev pub joined_pins : NamedPin → List Connection → List Connection
joined_pins x rest = (x.name.text, pinned x.name x.pin) ∷ rest

-- by name
unfoldable pub by_name : List Name → List Name → List NamedPin → Judged (List Connection)
by_name names used [] = Ok []
by_name names used (x ∷ more) =
    both (provided (pin_faults names used x.name) x) (by_name names (x.name.text ∷ used) more) >>= λ found. Ok (joined_pins found.0 found.1)

-- in order: no more than there are names
unfoldable pub in_order : Scope → List Name → List Expr → Judged (List Connection)
in_order at names [] = Ok []
in_order at [] (x ∷ more) = Err (fault port_unknown (mean at x).start)
in_order at (n ∷ names) (x ∷ more) = in_order at names more >>= λ rest. Ok ((n, Some x) ∷ rest)

abbrev pub connections : Scope → List Name → Option Pins → Judged (List Connection)
connections at names None = Ok []
connections at names (Some (pins.Named all)) = by_name names [] all
connections at names (Some (pins.Ordered all)) = in_order at names all

abbrev pub is_parameter : ParamWord → Bool
is_parameter param_word.Parameter = true
is_parameter param_word.Localparam = false
