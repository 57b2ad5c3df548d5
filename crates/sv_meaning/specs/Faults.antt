-- Why the rules give a text no meaning: refusals, each with its number and its place.
use Rattle.std.specs.Prelude.{ℕ, Bool, true, false, List, [], ◌∷◌, ◌++◌, Result, Ok, Err, if◌then◌else◌}
use Rattle.sv_outside.specs.declared.refusal.Place.{Place}
use Rattle.sv_outside.specs.declared.refusal.Refusal.{Refusal}

-- ---- the numbers of the refusals

abbrev pub bad_token : ℕ
bad_token = 2

abbrev pub top_unclear : ℕ
top_unclear = 10

abbrev pub unknown_module : ℕ
unknown_module = 11

abbrev pub unknown_name : ℕ
unknown_name = 12

abbrev pub twice : ℕ
twice = 13

abbrev pub bad_width : ℕ
bad_width = 14

abbrev pub not_constant : ℕ
not_constant = 15

abbrev pub literal_range : ℕ
literal_range = 16

abbrev pub port_unknown : ℕ
port_unknown = 17

abbrev pub port_twice : ℕ
port_twice = 18

abbrev pub bad_target : ℕ
bad_target = 19

abbrev pub loop_long : ℕ
loop_long = 20

abbrev pub instance_deep : ℕ
instance_deep = 21

abbrev pub too_many_bits : ℕ
too_many_bits = 22

abbrev pub bad_select : ℕ
bad_select = 23

abbrev pub wrong_assign : ℕ
wrong_assign = 24

abbrev pub out_of_scope : ℕ
out_of_scope = 25

-- ---- lists of faults

-- What stands against a text. It is legal where this is empty; a refusal is one of these.
abbrev pub Faults : Type 0
Faults = List Refusal

abbrev pub fault : ℕ → Place → Faults
fault number place = record { number = number; place = place; count = 0 } ∷ []

abbrev pub fault_if : Bool → ℕ → Place → Faults
fault_if b number place = if b then fault number place else []

-- the second is judged only where nothing stands against the first
abbrev pub or_then : Faults → Faults → Faults
or_then [] more = more
or_then (f ∷ all) more = f ∷ all

abbrev pub is_clear : Faults → Bool
is_clear [] = true
is_clear (f ∷ all) = false

-- ---- what is there only where nothing stands against it

abbrev pub Judged : Type 0 → Type 0
Judged A = Result A Faults

abbrev pub provided : {A : Type 0} → Faults → A → Judged A
provided [] x = Ok x
provided (f ∷ all) x = Err (f ∷ all)

abbrev pub faults_of : {A : Type 0} → Judged A → Faults
faults_of (Ok x) = []
faults_of (Err all) = all

infixl 20 ◌>>=◌
abbrev pub ◌>>=◌ : {A B : Type 0} → Judged A → (A → Judged B) → Judged B
Ok x >>= f = f x
Err all >>= f = Err all

-- two that are judged each by itself
abbrev pub both : {A B : Type 0} → Judged A → Judged B → Judged (A × B)
both (Ok x) (Ok y) = Ok (x, y)
both (Ok x) (Err more) = Err more
both (Err all) other = Err (all ++ faults_of other)
