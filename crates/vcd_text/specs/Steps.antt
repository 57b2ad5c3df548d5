-- How a reader goes over words: what it waits for and what was told, and what one word more makes of these, if it may come.
use Rattle.std.specs.Prelude.{ℕ, ◌&&◌, ◌==◌, not, nat_le, Bool, true, false, List, [], ◌∷◌, ◌++◌, length, Option, None, Some, Result, Ok, Err, if◌then◌else◌}
use Rattle.sv_outside.specs.declared.refusal.Place.{Place}
use Rattle.vcd_text.specs.declared.role.Role.{Role}
use Rattle.vcd_text.specs.declared.role.Role.TheVariants.{Scope, Upscope, Var, Ending, Skipped, Dump, End, Other}
use Rattle.vcd_text.specs.declared.role.Lead.{Lead}
use Rattle.vcd_text.specs.declared.role.Lead.TheVariants.{Time, Scalar, Vector, Real, Nothing}
use Rattle.vcd_text.specs.declared.waves.VarKind.{VarKind}
use Rattle.vcd_text.specs.declared.waves.VcdVar.{VcdVar}
use Rattle.vcd_text.specs.Words.{Text, Word, begins_with}
use Rattle.vcd_text.specs.Forms.{is_code, is_end, is_real, are_bits, number_to, most_width, most_time, bits_of, role_of, lead_of, kind_of, chain}
use Rattle.vcd_text.specs.Waves.{Told, Change, nothing_told, with_change, with_var, but_last, width_under, agrees, is_open}

-- what is waited for
pub data Wait : Type 0 where
  between : Wait
  scope_kind : Wait
  scope_name : Wait
  scope_end : Text → Wait
  up_end : Wait
  var_kind : Wait
  var_width : VarKind → Wait
  var_code : VarKind → ℕ → Wait
  var_name : VarKind → ℕ → Text → Wait
  var_range : VarKind → ℕ → Text → Text → Place → Wait
  var_end : VarKind → ℕ → Text → Text → Place → Wait
  ending_end : Wait
  skipping : Wait
  vector_code : Text → Wait
  real_code : Wait

pub record State : Type 0 where
  pub wait : Wait
  pub told : Told

abbrev pub at_start : State
at_start = record { wait = between; told = nothing_told }

abbrev pub at : Wait → Told → State
at wait told = record { wait = wait; told = told }

-- what is told behind the declarations: these scopes, signals and changes, whether something is being dumped, and the time
abbrev pub behind : List Text → List VcdVar → List Change → Bool → ℕ → Told
behind scopes vars changes dumping time = record { scopes = scopes; ended = true; dumping = dumping; time = time; vars = vars; changes = changes }

-- directly behind the declarations, where scopes and signals say nothing of what may come
abbrev pub at_changes : State
at_changes = at between (behind [] [] [] false 0)

-- this is waited for next, if the test passes
abbrev pub goes : Bool → Wait → Told → Option State
goes true wait told = Some (record { wait = wait; told = told })
goes false wait told = None

-- ---- changes

abbrev pub time_step : Told → Text → Option State
time_step told digits = chain (number_to most_time digits) (λ t. goes (nat_le told.time t) between (record told { time = t }))

abbrev pub code_step : Told → Text → Text → Option State
code_step told digits code = chain (bits_of digits) (λ bits. goes (is_code code) between (with_change told code bits))

abbrev pub lead_step : Told → Text → Lead → Option State
lead_step told rest Time = time_step told rest
lead_step told rest (Scalar b) = goes (is_code rest) between (with_change told rest (b ∷ []))
lead_step told rest Vector = goes (are_bits rest) (vector_code rest) told
lead_step told rest Real = goes (is_real rest) real_code told
lead_step told rest Nothing = None

-- a change or a time
unfoldable pub change_step : Told → Text → Option State
change_step told [] = None
change_step told (b ∷ rest) = if told.ended then lead_step told rest (lead_of b) else None

-- ---- items

abbrev pub role_step : Told → Text → Role → Option State
role_step told t Scope = goes (not told.ended) scope_kind told
role_step told t Upscope = goes (not told.ended && not (length told.scopes == 0)) up_end told
role_step told t Var = goes (not told.ended) var_kind told
role_step told t Ending = goes (not told.ended) ending_end told
role_step told t Skipped = goes true skipping told
role_step told t Dump = goes (told.ended && not told.dumping) between (record told { dumping = true })
role_step told t End = goes told.dumping between (record told { dumping = false })
role_step told t Other = change_step told t

-- the first word of an item
unfoldable pub first_step : Told → Text → Option State
first_step told t = role_step told t (role_of t)

-- ---- words

abbrev pub width_step : Told → VarKind → Text → Option State
width_step told kind t = chain (number_to most_width t) (λ w. goes true (var_code kind w) told)

-- behind the name of a signal
abbrev pub range_step : Told → VarKind → ℕ → Text → Text → Place → Text → Option State
range_step told kind width code name place t =
    if is_end t then goes true between (with_var told kind width code name place) else goes (begins_with is_open t) (var_end kind width code name place) told

unfoldable pub wait_step : Wait → Told → Word → Option State
wait_step between told w = first_step told w.text
wait_step scope_kind told w = goes (not (is_end w.text)) scope_name told
wait_step scope_name told w = goes (not (is_end w.text)) (scope_end w.text) told
wait_step (scope_end name) told w = goes (is_end w.text) between (record told { scopes = told.scopes ++ name ∷ [] })
wait_step up_end told w = goes (is_end w.text) between (record told { scopes = but_last told.scopes })
wait_step var_kind told w = goes (not (is_end w.text)) (var_width (kind_of w.text)) told
wait_step (var_width kind) told w = width_step told kind w.text
wait_step (var_code kind width) told w = goes (is_code w.text && agrees (width_under told.vars w.text) width) (var_name kind width w.text) told
wait_step (var_name kind width code) told w = goes (not (is_end w.text)) (var_range kind width code w.text w.place) told
wait_step (var_range kind width code name place) told w = range_step told kind width code name place w.text
wait_step (var_end kind width code name place) told w = goes (is_end w.text) between (with_var told kind width code name place)
wait_step ending_end told w = goes (is_end w.text) between (record told { ended = true })
wait_step skipping told w = goes true (if is_end w.text then between else skipping) told
wait_step (vector_code digits) told w = code_step told digits w.text
wait_step real_code told w = goes (is_code w.text) between told

abbrev pub step : State → Word → Option State
step s w = wait_step s.wait s.told w

-- the state with no changes
abbrev pub cleared : State → State
cleared s = at s.wait (record s.told { changes = [] })

-- the changes that words tell, up to the first that may not come
unfoldable pub changes_in : State → List Word → List Change
changes_in s [] = []
changes_in s (w ∷ more) = elim (step s w) [ None ↦ [] | Some next ↦ next.told.changes ++ changes_in (cleared next) more ]

-- all words
unfoldable pub run : State → List Word → Option State
run s [] = Some s
run s (w ∷ more) = chain (step s w) (λ next. run next more)

abbrev pub is_between : Wait → Bool
is_between between = true
is_between wait = false

-- the text may end here
unfoldable pub is_done : State → Bool
is_done s = is_between s.wait && (s.told.ended && not s.told.dumping)

-- What comes of words, over a text that ends at this place: what was told, or the place of the first word that may not come, or the end
-- where the text may not end there.
unfoldable pub outcome : Place → State → List Word → Result State Place
outcome end s [] = if is_done s then Ok s else Err end
outcome end s (w ∷ more) = elim (step s w) [ None ↦ Err w.place | Some next ↦ outcome end next more ]
