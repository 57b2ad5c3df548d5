-- What an expression is typed as, and why it is refused.
use Rattle.std.specs.Prelude.{◌≡◌, Bool, true, false, not, ◌&&◌, int_lt, pos, ◌||◌, List, [], ◌∷◌, ◌++◌, Option, Some, None, Result, Ok, Err}
use Rattle.std.specs.List.{Contains, All, AllZip}
use Rattle.sv_outside.specs.declared.refusal.Place.{Place}
use Rattle.sv_outside.specs.declared.refusal.TextErr.{TextErr}
use Rattle.sv_outside.specs.declared.refusal.TextErr.TheVariants.{No, Memory}
use Rattle.sv_literal.specs.declared.meaning.Literal.{Literal}
use Rattle.sv_typed.specs.declared.tree.Typed.{Typed}
use Rattle.fourvec.specs.declared.Bit.{Bit}
use Rattle.fourvec.specs.Bits.{is_known}
use Rattle.sv_typed.specs.Typed.{Stands, IsSound, literal_of, own}
use Rattle.sv_meaning.specs.Faults.{Faults, bad_width}
use Rattle.sv_meaning.specs.Meanings.{Meaning, nowhere, whole, constant_of, fixed_faults, parts, all_loose}
use Rattle.sv_typing.specs.declared.position.Fixed.{Fixed}

-- one of these refusals, or want of memory
abbrev pub IsCause : Faults → TextErr → Type 0
IsCause all (No r) = Contains all r
IsCause all Memory = Unit {0}

-- a sound typed expression that stands for a meaning, against which nothing of this stands
pub record IsTyped (m : Meaning) (all : Faults) (t : Typed) : Type 0 where
  pub clear : all ≡ []
  pub stands : Stands t m
  pub sound : IsSound t

abbrev pub Types : Meaning → Faults → Result Typed TextErr → Type 0
Types m all (Ok t) = IsTyped m all t
Types m all (Err e) = IsCause all e

-- sound, or refused for one of the reasons; constant or free
abbrev pub Judges : Meaning → Bool → Result Typed TextErr → Type 0
Judges m c r = Types m (m.faults c) r

abbrev pub JudgesBoth : Meaning → Meaning → Bool → Result (Typed × Typed) TextErr → Type 0
JudgesBoth m n c (Ok t) = IsTyped m (m.faults c) t.0 × IsTyped n (n.faults c) t.1
JudgesBoth m n c (Err e) = IsCause (m.faults c ++ n.faults c) e

-- the bits of the exponent of `**`, where both operands are constant and it is not below 0
pub record IsExponent (x y : Typed) (bits : List Bit) : Type 0 where
  pub is : bits ≡ own y nowhere
  pub constant : (x.constant && y.constant) ≡ true
  pub natural : (is_known bits && int_lt (whole y.signed bits) (pos 0)) ≡ false

-- the parts of a concatenation
pub record AreTyped (all : List Meaning) (c : Bool) (list : List Typed) : Type 0 where
  pub clear : (parts all).faults c ≡ []
  pub stands : AllZip Stands list all
  pub sound : All IsSound list

abbrev pub JudgesAll : List Meaning → Bool → Result (List Typed) TextErr → Type 0
JudgesAll all c (Ok list) = AreTyped all c list
JudgesAll all c (Err e) = IsCause ((parts all).faults c) e

-- where a part stands that has no size
abbrev pub Loose : List Meaning → Option Place → Type 0
Loose all None = all_loose all ≡ []
Loose all (Some p) = Contains (all_loose all) (record { number = bad_width; place = p; count = 0 })

-- a constant that is wholly 0 and 1
pub record IsFixed (m : Meaning) (f : Fixed) : Type 0 where
  pub clear : fixed_faults m ≡ []
  pub value : constant_of m ≡ f.known.value
  pub signed : m.sign ≡ f.known.signed
  pub constant : m.constant ≡ f.constant

abbrev pub Fixes : Meaning → Result Fixed TextErr → Type 0
Fixes m (Ok f) = IsFixed m f
Fixes m (Err e) = IsCause (fixed_faults m) e

-- whether it is a literal without a size
abbrev pub loose_literal : Option Literal → Bool
loose_literal None = false
loose_literal (Some l) = not l.sized

abbrev pub is_loose : Typed → Bool
is_loose t = loose_literal (literal_of t)

unfoldable pub any_loose : List Typed → Bool
any_loose [] = false
any_loose (a ∷ more) = is_loose a || any_loose more
