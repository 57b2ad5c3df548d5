-- The names of goals: the variables and samples of a table, each an unsigned vector [w-1:0].
use Rattle.std.specs.Prelude.{ℕ, ◌+◌, Bool, false, List, [], ◌∷◌, ◌++◌, map}
use Rattle.driver_resolve.specs.Drivers.{is_wire}
use Rattle.fourvec.specs.declared.Bit.{Bit}
use Rattle.sv_meaning.specs.Layouts.{Name, Read, Entry, Scope, scope_of, Origin, of_wires, of_choice, of_samples, plain, signal_is}
use Rattle.svex_shape.specs.declared.shape.VarName.{VarName}
use Rattle.svex_shape.specs.declared.shape.VarName.TheVariants.{Now, Chosen, Sampled}
use Rattle.svtv_table.specs.declared.bound.Sample.{Sample}
use Rattle.svtv_table.specs.declared.bound.VarDecl.{VarDecl}

-- ---- scopes

-- a name, and how many bits it has
abbrev pub Vector : Type 0
Vector = Name × ℕ

abbrev pub var_vector : VarDecl → Vector
var_vector v = (v.name, v.width)

abbrev pub sample_vector : Sample → Vector
sample_vector s = (s.name, s.width)

abbrev pub vars_of : List VarDecl → List Vector
vars_of vars = map var_vector vars

abbrev pub sampled_of : List Sample → List Vector
sampled_of samples = map sample_vector samples

-- vectors of an owner, numbered from that number on
unfoldable pub vectors_from : Origin → ℕ → List Vector → List Entry
vectors_from o k [] = []
vectors_from o k (v ∷ more) = (v.0, signal_is o k (plain v.1 false)) ∷ vectors_from o (k + 1) more

abbrev pub variable_entries : List VarDecl → List Entry
variable_entries vars = vectors_from of_choice 0 (vars_of vars)

abbrev pub sample_entries : List Sample → List Entry
sample_entries samples = vectors_from of_samples 0 (sampled_of samples)

-- what hypotheses name
abbrev pub variables_of : List VarDecl → Scope
variables_of vars = scope_of (variable_entries vars)

-- what claims name
abbrev pub claims_scope : List VarDecl → List Sample → Scope
claims_scope vars samples = scope_of (variable_entries vars ++ sample_entries samples)

-- ---- what names read

-- Variables and samples of a table read themselves.
abbrev pub table_read : (VarName → ℕ → Bit) → Read
table_read bits of_wires n k = bits (Now n) k
table_read bits of_choice n k = bits (Chosen n) k
table_read bits of_samples n k = bits (Sampled n) k

-- ---- what nodes may mention

abbrev pub widths_in : List Vector → List ℕ
widths_in vectors = map (λ v. v.1) vectors

-- a variable, at its width
abbrev pub is_of_vars : List VarDecl → VarName → ℕ → Bool
is_of_vars vars (Chosen n) w = is_wire (widths_in (vars_of vars)) n w
is_of_vars vars name w = false

-- a variable or a sample, at its width
abbrev pub is_of_table : List VarDecl → List Sample → VarName → ℕ → Bool
is_of_table vars samples (Chosen n) w = is_wire (widths_in (vars_of vars)) n w
is_of_table vars samples (Sampled n) w = is_wire (widths_in (sampled_of samples)) n w
is_of_table vars samples name w = false
