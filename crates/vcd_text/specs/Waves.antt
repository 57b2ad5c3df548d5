-- What a value change dump stands for. Its words are those of items, one after the other, and each item adds to what is told.
use Rattle.std.specs.Prelude.{◌≡◌, ℕ, ◌-◌, ◌&&◌, ◌==◌, not, nat_le, nat_lt, Bool, true, false, List, [], ◌∷◌, ◌++◌, length, map, take, reverse, replicate, filter, find, Option, None, Some, if◌then◌else◌}
use Rattle.std.specs.List.{flat_map, list_all}
use Rattle.std.specs.Str.{bytes_eq}
use Rattle.fourvec.specs.declared.Bit.{Bit}
use Rattle.fourvec.specs.declared.Bit.TheVariants.{Zero, Unknown, Floating}
use Rattle.sv_outside.specs.declared.refusal.Place.{Place}
use Rattle.vcd_text.specs.declared.waves.VcdVar.{VcdVar}
use Rattle.vcd_text.specs.declared.waves.VarKind.{VarKind}
use Rattle.vcd_text.specs.declared.waves.VarKind.TheVariants.{Bits, Number}
use Rattle.vcd_text.specs.declared.role.Role.TheVariants.{Scope, Upscope, Var, Ending, Skipped, Dump, End, Other}
use Rattle.vcd_text.specs.declared.role.Lead.TheVariants.{Time, Scalar, Vector, Real}
use Rattle.vcd_text.specs.Words.{Text, Word, words, begins_with, past, start}
use Rattle.vcd_text.specs.Forms.{is_code, is_end, is_real, are_bits, number_to, most_width, most_time, bits_of, role_of, lead_of, kind_of}

-- ---- items

-- What stands in a dump, as its words; a last `Word` of the first five is an `$end`. With the words of a declaration stands the width
-- that one of them says, with a time or a change its first byte, what is behind that, and the number or
-- the bits that this says.
pub data Item : Type 0 where
  -- `$scope KIND NAME $end`
  scope : Word → Word → Word → Word → Item
  -- `$upscope $end`
  upscope : Word → Word → Item
  -- `$var KIND WIDTH CODE NAME $end`, with one word or none behind the name
  var : Word → Word → ℕ → Word → Word → Word → List Word → Word → Item
  -- `$enddefinitions $end`
  ending : Word → Word → Item
  -- `$date`, `$version`, `$timescale` or `$comment`, any words, and `$end`
  skipped : Word → List Word → Word → Item
  -- `$dumpvars`, `$dumpall`, `$dumpon` or `$dumpoff`, and later the `$end` of it
  dump : Word → Item
  dump_end : Word → Item
  -- `#T`
  time : Word → ℕ → Text → ℕ → Item
  -- a bit with the code directly behind it
  scalar : Word → ℕ → Bit → Text → Item
  -- `b` or `B` with bits, and the code
  vector : Word → ℕ → Text → List Bit → Word → Item
  -- `r` or `R` with a real number, and the code
  real : Word → ℕ → Text → Word → Item

-- the words of an item
unfoldable pub item_words : Item → List Word
item_words (scope a kind name e) = a ∷ kind ∷ name ∷ e ∷ []
item_words (upscope a e) = a ∷ e ∷ []
item_words (var a kind width w code name range e) = a ∷ kind ∷ w ∷ code ∷ name ∷ (range ++ e ∷ [])
item_words (ending a e) = a ∷ e ∷ []
item_words (skipped a text e) = a ∷ (text ++ e ∷ [])
item_words (dump a) = a ∷ []
item_words (dump_end e) = e ∷ []
item_words (time w first digits t) = w ∷ []
item_words (scalar w first b code) = w ∷ []
item_words (vector w first digits bits code) = w ∷ code ∷ []
item_words (real w first number code) = w ∷ code ∷ []

-- ---- forms

-- any word but `$end`
abbrev pub is_plain : Word → Bool
is_plain w = not (is_end w.text)

abbrev pub IsPlain : Word → Type 0
IsPlain w = is_end w.text ≡ false

abbrev pub IsEnd : Word → Type 0
IsEnd w = is_end w.text ≡ true

-- `[`
abbrev pub is_open : ℕ → Bool
is_open b = b == 91

-- one word that begins with `[`, or none
abbrev pub IsRange : List Word → Type 0
IsRange [] = Unit {0}
IsRange (w ∷ []) = begins_with is_open w.text ≡ true
IsRange (w ∷ v ∷ more) = ⊥

-- the words of an item have the form of its kind
unfoldable pub HasForm : Item → Type 0
HasForm (scope a kind name e) = (role_of a.text ≡ Scope) × (IsPlain kind × (IsPlain name × IsEnd e))
HasForm (upscope a e) = (role_of a.text ≡ Upscope) × IsEnd e
HasForm (var a kind width w code name range e) =
    (role_of a.text ≡ Var) × (IsPlain kind × ((number_to most_width w.text ≡ Some width) × ((is_code code.text ≡ true) × (IsPlain name × (IsRange range × IsEnd e)))))
HasForm (ending a e) = (role_of a.text ≡ Ending) × IsEnd e
HasForm (skipped a text e) = (role_of a.text ≡ Skipped) × ((list_all is_plain text ≡ true) × IsEnd e)
HasForm (dump a) = role_of a.text ≡ Dump
HasForm (dump_end e) = role_of e.text ≡ End
HasForm (time w first digits t) = (role_of w.text ≡ Other) × ((w.text ≡ first ∷ digits) × ((lead_of first ≡ Time) × (number_to most_time digits ≡ Some t)))
HasForm (scalar w first b code) = (role_of w.text ≡ Other) × ((w.text ≡ first ∷ code) × ((lead_of first ≡ Scalar b) × (is_code code ≡ true)))
HasForm (vector w first digits bits code) =
    (role_of w.text ≡ Other) × ((w.text ≡ first ∷ digits) × ((lead_of first ≡ Vector) × ((are_bits digits ≡ true) × ((bits_of digits ≡ Some bits) × (is_code code.text ≡ true)))))
HasForm (real w first number code) = (role_of w.text ≡ Other) × ((w.text ≡ first ∷ number) × ((lead_of first ≡ Real) × ((is_real number ≡ true) × (is_code code.text ≡ true))))

-- ---- what is told

-- a change: its time, the code of what changes, and the bits as they are written, the most significant first
pub record Change : Type 0 where
  pub time : ℕ
  pub code : Text
  pub bits : List Bit

-- What the items so far tell: the names of the open scopes, the innermost last; whether the declarations are over; whether a `$dumpvars`
-- or the like waits for its `$end`; the time; the signals and the changes.
pub record Told : Type 0 where
  pub scopes : List Text
  pub ended : Bool
  pub dumping : Bool
  pub time : ℕ
  pub vars : List VcdVar
  pub changes : List Change

abbrev pub nothing_told : Told
nothing_told = record { scopes = []; ended = false; dumping = false; time = 0; vars = []; changes = [] }

-- the names of the open scopes, with a dot behind each, and the signal's own
abbrev pub path_of : List Text → Text → Text
path_of scopes name = flat_map (λ s. s ++ 46 ∷ []) scopes ++ name

-- the width of the first signal with the code
unfoldable pub width_under : List VcdVar → Text → Option ℕ
width_under [] code = None
width_under (v ∷ more) code = if bytes_eq code v.code then Some v.width else width_under more code

-- signals with one code have one width
abbrev pub agrees : Option ℕ → ℕ → Bool
agrees None width = true
agrees (Some other) width = other == width

-- the item may come next
unfoldable pub may_come : Told → Item → Bool
may_come told (scope a kind name e) = not told.ended
may_come told (upscope a e) = not told.ended && not (length told.scopes == 0)
may_come told (var a kind width w code name range e) = not told.ended && agrees (width_under told.vars code.text) width
may_come told (ending a e) = not told.ended
may_come told (skipped a text e) = true
may_come told (dump a) = told.ended && not told.dumping
may_come told (dump_end e) = told.dumping
may_come told (time w first digits t) = told.ended && nat_le told.time t
may_come told (scalar w first b code) = told.ended
may_come told (vector w first digits bits code) = told.ended
may_come told (real w first number code) = told.ended

abbrev pub with_change : Told → Text → List Bit → Told
with_change told code bits = record told { changes = told.changes ++ (record { time = told.time; code = code; bits = bits }) ∷ [] }

abbrev pub with_var : Told → VarKind → ℕ → Text → Text → Place → Told
with_var told kind width code name place = record told { vars = told.vars ++ (record { path = path_of told.scopes name; kind = kind; width = width; code = code; place = place }) ∷ [] }

-- all but the last
abbrev pub but_last : List Text → List Text
but_last scopes = take (length scopes - 1) scopes

-- what is told with the item
unfoldable pub with_item : Told → Item → Told
with_item told (scope a kind name e) = record told { scopes = told.scopes ++ name.text ∷ [] }
with_item told (upscope a e) = record told { scopes = but_last told.scopes }
with_item told (var a kind width w code name range e) = with_var told (kind_of kind.text) width code.text name.text name.place
with_item told (ending a e) = record told { ended = true }
with_item told (skipped a text e) = told
with_item told (dump a) = record told { dumping = true }
with_item told (dump_end e) = record told { dumping = false }
with_item told (time w first digits t) = record told { time = t }
with_item told (scalar w first b code) = with_change told code (b ∷ [])
with_item told (vector w first digits bits code) = with_change told code.text bits
with_item told (real w first number code) = told

-- the items have their forms and may come one after the other, and tell this in the end
unfoldable pub Tell : Told → List Item → Told → Type 0
Tell told [] last = told ≡ last
Tell told (x ∷ more) last = HasForm x × ((may_come told x ≡ true) × Tell (with_item told x) more last)

-- The words are those of items that tell this in the end. The declarations are over, and each `$dumpvars` or the like has its `$end`;
-- scopes may be open.
pub record Stand (list : List Word) (last : Told) : Type 0 where
  pub items : List Item
  pub is : list ≡ flat_map item_words items
  pub tell : Tell nothing_told items last
  pub ended : last.ended ≡ true
  pub whole : last.dumping ≡ false

-- the text stands for these signals and changes
pub record Wave (text : Text) (vars : List VcdVar) (changes : List Change) : Type 0 where
  pub last : Told
  pub stand : Stand (words text) last
  pub vars_are : last.vars ≡ vars
  pub changes_are : last.changes ≡ changes

-- ---- where reading stops

-- words that a dump begins with
pub record Begin (list : List Word) : Type 0 where
  pub rest : List Word
  pub last : Told
  pub stand : Stand (list ++ rest) last

-- The place of the first word up to which no dump begins so, or of the end of a text that could go on to a dump and is none.
pub data BreaksAt (text : Text) : Place → Type 0 where
  at_word : (front more : List Word) (w : Word) → words text ≡ front ++ w ∷ more → Begin front → (Begin (front ++ w ∷ []) → ⊥) → BreaksAt text w.place
  at_end : Begin (words text) → ((last : Told) → Stand (words text) last → ⊥) → BreaksAt text (past start text)

-- ---- values

-- what a change is filled with at the left: 0, or x or z where its first bit is that
abbrev pub filler : List Bit → Bit
filler (Unknown ∷ more) = Unknown
filler (Floating ∷ more) = Floating
filler bits = Zero

-- The value of a width that a change gives, the least significant bit first: it is filled at the left, or cut there.
unfoldable pub fitted : ℕ → List Bit → List Bit
fitted width bits = take width (reverse bits ++ replicate width (filler bits))

-- the changes under a code, with the values of a width that they give
abbrev pub changes_under : Text → ℕ → List Change → List (ℕ × List Bit)
changes_under code width changes = map (λ c. (c.time, fitted width c.bits)) (filter (λ c. bytes_eq code c.code) changes)

-- a signal of kind `real` has none of them
abbrev pub holding : VarKind → List (ℕ × List Bit) → List (ℕ × List Bit)
holding Bits list = list
holding Number list = []

-- the changes of a signal
abbrev pub changes_to : VcdVar → List Change → List (ℕ × List Bit)
changes_to v changes = holding v.kind (changes_under v.code v.width changes)

-- the value of the last of the changes at or before a time, or else this one
unfoldable pub last_at : ℕ → List Bit → List (ℕ × List Bit) → List Bit
last_at t v [] = v
last_at t v (c ∷ more) = last_at t (if nat_le c.0 t then c.1 else v) more

-- the value of a signal at a time; before any change it is X at each bit
abbrev pub value_at : List Change → VcdVar → ℕ → List Bit
value_at changes v t = last_at t (replicate v.width Unknown) (changes_to v changes)

-- the first signal with a path
abbrev pub var_of : List VcdVar → Text → Option VcdVar
var_of vars path = find (λ v. bytes_eq path v.path) vars

-- 1 to 128
abbrev pub is_width : ℕ → Bool
is_width width = nat_lt 0 width && nat_le width 128

-- the changes of a signal whose width is 1 to 128
abbrev pub told_of : Option VcdVar → List Change → Option (List (ℕ × List Bit))
told_of None changes = None
told_of (Some v) changes = if is_width v.width then Some (changes_to v changes) else None

-- the changes of the first signal with the path
abbrev pub told_of_path : List VcdVar → List Change → Text → Option (List (ℕ × List Bit))
told_of_path vars changes path = told_of (var_of vars path) changes
