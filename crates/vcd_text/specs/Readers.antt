-- What the reader of the declarations holds, as the definitions see it.
use Rattle.std.specs.Prelude.{◌≡◌, true, false, [], Option, None, Some, ℕ, if◌then◌else◌}
use Rattle.std.specs.Str.{bytes_eq}
use Rattle.name_index.specs.Under.{under}
use Rattle.name_index.specs.declared.map.NameMap.{NameMap}
use Rattle.vcd_text.specs.declared.mode.ScopePart.{ScopePart}
use Rattle.vcd_text.specs.declared.mode.ScopePart.TheVariants as scope
use Rattle.vcd_text.specs.declared.mode.VarPart.{VarPart}
use Rattle.vcd_text.specs.declared.mode.VarPart.TheVariants as var
use Rattle.vcd_text.specs.declared.mode.Mode.{Mode}
use Rattle.vcd_text.specs.declared.mode.Mode.TheVariants as mode
use Rattle.vcd_text.specs.declared.declarations.Declarations.{Declarations}
use Rattle.vcd_text.specs.declared.declarations.Progress.{Progress}
use Rattle.vcd_text.specs.declared.declarations.Progress.TheVariants as came
use Rattle.vcd_text.specs.Words.{Text}
use Rattle.vcd_text.specs.Waves.{Told, width_under}
use Rattle.vcd_text.specs.Steps.{State, Wait, at, between, scope_kind, scope_name, scope_end, up_end, var_kind, var_width, var_code, var_name, var_range, var_end, ending_end, skipping}

abbrev pub scope_wait : ScopePart → Wait
scope_wait scope.Kind = scope_kind
scope_wait scope.Name = scope_name
scope_wait (scope.End name) = scope_end name.now

abbrev pub var_wait : VarPart → Wait
var_wait var.Kind = var_kind
var_wait (var.Width kind) = var_width kind
var_wait (var.Code kind width) = var_code kind width
var_wait (var.Name kind width code) = var_name kind width code.now
var_wait (var.Range n) = var_range n.kind n.width n.code.now n.name.now n.place
var_wait (var.End n) = var_end n.kind n.width n.code.now n.name.now n.place

abbrev pub wait_of : Mode → Wait
wait_of mode.Between = between
wait_of (mode.Scope part) = scope_wait part
wait_of mode.UpEnd = up_end
wait_of (mode.Var part) = var_wait part
wait_of mode.EndingEnd = ending_end
wait_of mode.Skipping = skipping

abbrev pub told_of : Declarations → Told
told_of d = record { scopes = d.scopes; ended = false; dumping = false; time = 0; vars = d.vars; changes = [] }

abbrev pub state_of : Declarations → State
state_of d = at (wait_of d.mode) (told_of d)

-- what comes of a word, and what is waited for and was told then
abbrev pub stepped : Progress → State → Option State
stepped came.Taken s = Some s
stepped came.Over s = Some (at between (record s.told { ended = true }))
stepped came.Refused s = None

-- the widths by code are those of the signals
abbrev pub HoldsWidths : Declarations → Type 0
HoldsWidths d = (code : Text) → under d.widths code ≡ width_under d.vars code

abbrev pub or_else : Option ℕ → Option ℕ → Option ℕ
or_else None other = other
or_else (Some n) other = Some n

-- a code has this width from here on, if it had none, and each other code what it had
abbrev pub Notes : NameMap → Text → ℕ → NameMap → Type 0
Notes old code width new = (other : Text) → under new other ≡ or_else (under old other) (if bytes_eq other code then Some width else None)
