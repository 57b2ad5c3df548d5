-- What contracts see of the reader's values, and of its errors.
use Rattle.std.specs.Prelude.{◌≡◌, ◌≤◌, ◌⊎◌, ◌+◌, ◌++◌, Some, None, if◌then◌else◌, ℕ, Bool, true, false, List, [], ◌∷◌, length, option_map, Result, Ok, Err}
use denote.Ref.{Bor}
use Rattle.std.specs.BTreeMap.{get_by}
use Rattle.std.specs.Cmp.Lexicographic.{slice_cmp}
use Rattle.std.specs.Ordering.{nat_cmp}
use Rattle.std.specs.Str.{bytes_eq}
use Rattle.sv_outside.specs.declared.outside.FileErr.{FileErr}
use Rattle.sv_outside.specs.declared.outside.FileErr.TheVariants as why
use Rattle.sv_outside.specs.declared.refusal.Refusal.{Refusal}
use Rattle.sv_outside.specs.declared.refusal.Place.{Place}
use Rattle.sv_preproc.specs.Roles.{line_text, line_rest, between_quotes}
use Rattle.sv_preproc.specs.Directives as spec
use Rattle.sv_preproc.specs.declared.item.Item.{Item}
use Rattle.sv_preproc.specs.declared.item.Item.TheVariants as found
use Rattle.sv_preproc.specs.declared.stepping.Step.{Step}
use Rattle.sv_preproc.specs.declared.stepping.Step.TheVariants as stepped
use Rattle.sv_preproc.specs.declared.role.Role.{Role}
use Rattle.sv_preproc.specs.declared.role.Role.TheVariants as role
use Rattle.sv_preproc.specs.declared.known.Frame.{Frame}
use Rattle.sv_preproc.specs.declared.known.Known.{Known}
use Rattle.sv_preproc.specs.declared.macros.Macros.{Macros}
use Rattle.sv_preproc.specs.declared.error.PreErr.{PreErr}
use Rattle.sv_preproc.specs.declared.error.PreErr.TheVariants.{No, Read, Memory}
use Rattle.sv_preproc.specs.declared.error.ItemErr.{ItemErr}
use Rattle.sv_preproc.specs.declared.error.ItemErr.TheVariants.{Refused, OutOfMemory}
use Rattle.sv_outside.specs.declared.text.Token.{Token}
use Rattle.sv_token.specs.declared.lexer.Lined.{Lined}
use Rattle.sv_token.specs.Cut.{IsRefused, refused, LexesLines, past, start}
use Rattle.sv_preproc.specs.Directives.{Contents}
use Rattle.sv_preproc.specs.Reached.{Stop, no, unread, Overruns, IsUnfit, IsFaulty, Point, Passes}

-- the texts by name
unfoldable pub texts : Macros → spec.Macros
texts m name = option_map (λ text. text.items) (get_by (λ key. slice_cmp nat_cmp name key.items) m.texts)

abbrev pub seen : Known → spec.State
seen k = record { macros = texts k.macros; files = k.files.items; counted = k.counted }

-- the item that the code finds
abbrev pub shown : Item → spec.Item
shown found.Ended = spec.ended
shown (found.Kept a rest) = spec.kept a.now rest.now
shown (found.Passed rest) = spec.passed rest.now
shown (found.Used a rest) = spec.used a.now rest.now
shown (found.Defined name line after) = spec.defined name.now.text (line_text line after.now) (line_rest line after.now)
shown (found.Forgotten name rest) = spec.forgotten name.now.text rest.now
shown (found.Included a name rest) = spec.included a.now (between_quotes name.now.text) rest.now
shown (found.Opened wanted name rest) = spec.opened wanted name.now.text rest.now
shown (found.Broken number place) = spec.broken number place

-- what a list of names and roles has for the name
abbrev pub listed : List (Bor (List ℕ) × Role) → List ℕ → Role
listed [] name = role.Used
listed (command ∷ more) name = if bytes_eq name command.0.now then command.1 else listed more name

-- a place between two tokens, by its parts
abbrev pub point : Bool → List Frame → spec.State → List Token → List Lined → Point
point live frames s written rest = record { live = live; frames = frames; state = s; written = written; rest = rest }

-- what is left behind a step
abbrev pub left : Step → List Lined
left (stepped.Behind inside rest) = rest.now
left (stepped.Include directive path rest) = rest.now

-- The item at the place is read, which comes to these conditionals, this state and these tokens. An include is not read yet, and nothing has changed.
abbrev pub Steps : Contents → ℕ → Point → Step → List Frame → spec.State → List Token → Type 0
Steps C room p (stepped.Behind inside rest) frames s written = Passes C room (spec.item p.live p.rest) p (point inside frames s written rest.now)
Steps C room p (stepped.Include directive path rest) frames s written =
    (spec.item p.live p.rest ≡ spec.included directive.now (between_quotes path.now.text) rest.now) × (point p.live frames s written p.rest ≡ p)

-- The item is read, and no include is told: this holds of whether the branch counts from here on, and of what is left.
abbrev pub GoesOn : (Bool → List Lined → Type 0) → Step → Type 0
GoesOn P (stepped.Behind inside rest) = P inside rest.now
GoesOn P (stepped.Include directive path rest) = ⊥

-- the line, or the one behind it
abbrev pub line_of : ℕ → Bool → ℕ
line_of line next = if next then line + 1 else line

-- a refusal or a read fault has this cause; want of memory says nothing
abbrev pub HasCause : (Stop → List ℕ → Type 0) → PreErr → Type 0
HasCause Why (No refusal file) = Why (no refusal) file
HasCause Why (Read place file) = Why (unread place) file
HasCause Why Memory = Unit {0}

-- the error is a read fault only where this holds
abbrev pub IfReadFault : Type 0 → PreErr → Type 0
IfReadFault P (No refusal file) = Unit {0}
IfReadFault P (Read place file) = P
IfReadFault P Memory = Unit {0}

-- a failed read is answered
abbrev pub is_read_fault : PreErr → Bool
is_read_fault (No refusal file) = false
is_read_fault (Read place file) = true
is_read_fault Memory = false

-- this value, or an error that is no refusal
abbrev pub GivesOnly : {V : Type 0} → (V → Type 0) → Result V PreErr → Type 0
GivesOnly P (Ok v) = P v
GivesOnly P (Err (No refusal file)) = ⊥
GivesOnly P (Err (Read place file)) = Unit {0}
GivesOnly P (Err Memory) = Unit {0}

-- the use of a macro is refused by this number; want of memory says nothing
abbrev pub IfRefused : (ℕ → Type 0) → ItemErr → Type 0
IfRefused Why (Refused number) = Why number
IfRefused Why OutOfMemory = Unit {0}

-- Behind what was written stand tokens that this gives, and the count goes on by what it gives.
abbrev pub Writes : (List Token → ℕ → Type 0) → List Token → List Token → ℕ → ℕ → Type 0
Writes Gives old new counted total = (front : List Token) × (n : ℕ) × Gives front n × (new ≡ old ++ front) × (total ≡ counted + n)

-- Behind what was written stand the tokens of the use, which are counted.
abbrev pub Uses : spec.Macros → Token → List Token → List Token → ℕ → ℕ → Type 0
Uses macros a old new counted total = (text : List Token) × (macros (spec.name_of a) ≡ Some text) × Writes (spec.Expands macros a.place spec.deepest_use text) old new counted total

-- the number by which the use is refused
abbrev pub CanNotUse : spec.Macros → Token → ℕ → ℕ → Type 0
CanNotUse macros a counted number = ((macros (spec.name_of a) ≡ None) × (number ≡ 6))
    ⊎ ((text : List Token) × (macros (spec.name_of a) ≡ Some text) × Overruns macros a.place spec.deepest_use text counted number)

-- the refusal of an item, at a place of a file
abbrev pub Names : ItemErr → Place → List ℕ → PreErr → Type 0
Names e place file Memory = Unit {0}
Names (Refused number) place file (No refusal at) = (refusal ≡ refused number place) × (at ≡ file)
Names (Refused number) place file (Read other at) = ⊥
Names OutOfMemory place file (No refusal at) = ⊥
Names OutOfMemory place file (Read other at) = ⊥

-- the refusal, at a place of a file, of what is refused by such a number
abbrev pub IsRefusedAt : (ℕ → Type 0) → Place → List ℕ → PreErr → Type 0
IsRefusedAt Why place file e = (error : ItemErr) × IfRefused Why error × Names error place file e

-- why the bytes of the file of that name, which begins at `start`, are not answered for the directive at a place of another file
abbrev pub IsNotRead : FileErr → Place → List ℕ → Place → List ℕ → PreErr → Type 0
IsNotRead why.Failed at asked start name e = e ≡ Read at asked
IsNotRead why.Long at asked start name e = Names (Refused 4) start name e
IsNotRead why.Memory at asked start name e = e ≡ Memory

-- The file of that name is not read for the directive at a place of another file.
abbrev pub NotEntered : Contents → spec.State → List ℕ → Place → List ℕ → Stop → List ℕ → Type 0
NotEntered C s name at asked (no refusal) file = IsUnfit C s name refusal × (file ≡ name)
NotEntered C s name at asked (unread place) file = (place ≡ at) × (file ≡ asked)

-- The item at a place of the file can not be read.
abbrev pub IsFaultyIn : ℕ → Place → Point → List ℕ → Stop → List ℕ → Type 0
IsFaultyIn room end p file (no refusal) at = (number : ℕ) × (place : Place) × IsFaulty room end p number place × (refusal ≡ refused number place) × (at ≡ file)
IsFaultyIn room end p file (unread place) at = ⊥

-- The file of that name is not included by a directive at a place of another file: as many are nested as may be, or it is not read.
abbrev pub NotIncluded : Contents → ℕ → spec.State → List ℕ → Place → List ℕ → Stop → List ℕ → Type 0
NotIncluded C room s name at asked stop file = ((room ≡ 0) × (stop ≡ no (refused 3 at)) × (file ≡ asked)) ⊎ ((1 ≤ room) × NotEntered C s name at asked stop file)

-- A text is not cut as the next file, or with its tokens more are counted than may be.
pub data NotCut (s : spec.State) (name text : List ℕ) : Stop → List ℕ → Type 0 where
  uncut : {refusal : Refusal} → IsRefused (length s.files) text refusal → NotCut s name text (no refusal) name
  many : (before : List Lined) (a : Lined) (after : List Lined) → LexesLines (length s.files) text (before ++ a ∷ after) → s.counted + length before ≡ spec.most_counted
      → NotCut s name text (no (refused 4 a.token.place)) name

-- a text is cut as the next file, and its tokens are counted
pub record IsTakenIn (before after : spec.State) (name text : List ℕ) (tokens : List Lined) (end : Place) : Type 0 where
  pub cut : LexesLines (length before.files) text tokens
  pub counted : after ≡ spec.entered before name tokens
  pub ends : end ≡ past (start (length before.files)) text

-- the file is read and cut, and its tokens are counted
pub record Enters (C : Contents) (before after : spec.State) (name : List ℕ) (tokens : List Lined) (end : Place) : Type 0 where
  pub text : List ℕ
  pub file : spec.IsFile C (length before.files) name text tokens
  pub counted : after ≡ spec.entered before name tokens
  pub ends : end ≡ past (start (length before.files)) text

-- the tokens of a file stand for what is written behind the old
abbrev pub Reads : Contents → ℕ → spec.State → List Lined → List Token → List Token → spec.State → Type 0
Reads C room before tokens old new after = (front : List Token) × spec.Holds C room (spec.branch true) before tokens front after [] × (new ≡ old ++ front)
