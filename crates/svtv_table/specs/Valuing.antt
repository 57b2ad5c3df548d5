-- The values that records give to variables, and their faults (this project's rules).
use Rattle.std.specs.Prelude.{◌==◌, ◌+◌, not, ℕ, Bool, false, List, [], ◌∷◌, ◌++◌, length, map, take, find, Option, Some, None, option_map, unwrap_or}
use Rattle.std.specs.List.{list_all, list_any}
use Rattle.std.specs.Str.{bytes_eq}
use Rattle.fourvec.specs.declared.Bit.{Bit}
use Rattle.sv_literal.specs.Meaning.{meaning_of}
use Rattle.sv_literal.specs.declared.meaning.Literal.{Literal}
use Rattle.sv_outside.specs.declared.refusal.Refusal.{Refusal}
use Rattle.table_cells.specs.Cells.{known_literal}
use Rattle.table_cells.specs.Constants.{constant, fits}
use Rattle.svtv_table.specs.Faults.{at_each, fault, fault_if}
use Rattle.svtv_table.specs.Fields.{field_at}
use Rattle.svtv_table.specs.Names.{width_under}
use Rattle.svtv_table.specs.declared.bound.VarDecl.{VarDecl}

-- ---- records: a name and a literal

abbrev pub name_at : List (List ℕ) → List ℕ
name_at fields = field_at fields 0

abbrev pub text_at : List (List ℕ) → List ℕ
text_at fields = field_at fields 1

-- a record is that of a name
abbrev pub is_of : List ℕ → List (List ℕ) → Bool
is_of name fields = bytes_eq name (name_at fields)

abbrev pub literal_fits : Option Literal → ℕ → Bool
literal_fits None width = false
literal_fits (Some literal) width = fits literal width

-- a literal without X and Z that fits a width
unfoldable pub is_value : List ℕ → ℕ → Bool
is_value text width = literal_fits (known_literal text) width

-- ---- faults

-- E37: an earlier record has the name. E38: the second field is no value of the variable's width
unfoldable pub var_faults : Bool → ℕ → ℕ → List ℕ → List Refusal
var_faults again width line text = fault_if again (fault 37 line 1) ++ fault_if (not (is_value text width)) (fault 38 line 2)

-- E36: no variable has the name
abbrev pub faults_of_var : Option ℕ → Bool → ℕ → List ℕ → List Refusal
faults_of_var None again line text = fault 36 line 1 ∷ []
faults_of_var (Some width) again line text = var_faults again width line text

-- E26: a record has not exactly two fields
unfoldable pub value_faults : List VarDecl → Bool → ℕ → List (List ℕ) → List Refusal
value_faults vars again line fields = fault_if (not (length fields == 2)) (fault 26 line 1) ++ faults_of_var (width_under vars (name_at fields)) again line (text_at fields)

-- those of a record, by its number from 0
abbrev pub record_faults : List VarDecl → List (List (List ℕ)) → ℕ → List (List ℕ) → List Refusal
record_faults vars rows at fields = value_faults vars (list_any (is_of (name_at fields)) (take at rows)) (at + 1) fields

-- a variable has a record
abbrev pub is_given : List (List (List ℕ)) → VarDecl → Bool
is_given rows var = list_any (is_of var.name) rows

-- E35: a variable has none
unfoldable pub values_faults : List VarDecl → List (List (List ℕ)) → List Refusal
values_faults vars rows = at_each (record_faults vars rows) 0 rows ++ fault_if (not (list_all (is_given rows) vars)) (fault 35 1 1)

-- ---- meaning, where there are no faults

-- the value of a variable by its record
abbrev pub given_value : List (List (List ℕ)) → VarDecl → Option (List Bit)
given_value rows var = option_map (λ fields. constant (meaning_of (text_at fields)) var.width) (find (is_of var.name) rows)

-- those of the variables, in their order
unfoldable pub values_of : List VarDecl → List (List (List ℕ)) → List (List Bit)
values_of vars rows = map (λ var. unwrap_or (given_value rows var) []) vars
