-- How far a file's tokens are read: the places that are reached, what is left behind them, and why reading stops there.
use Rattle.std.specs.Prelude.{◌≡◌, ◌⊎◌, ◌&&◌, ◌||◌, ◌+◌, not, ℕ, suc, Bool, true, false, List, [], ◌∷◌, ◌++◌, Some, None, length}
use Rattle.sv_outside.specs.declared.text.Token.{Token}
use Rattle.sv_outside.specs.declared.refusal.Place.{Place}
use Rattle.sv_outside.specs.declared.refusal.Refusal.{Refusal}
use Rattle.sv_token.specs.declared.lexer.Lined.{Lined}
use Rattle.sv_token.specs.Cut.{IsRefused, refused, past, start}
use Rattle.sv_preproc.specs.declared.role.Role.TheVariants as role
use Rattle.sv_preproc.specs.declared.known.Frame.{Frame}
use Rattle.sv_preproc.specs.Roles.{role_of, is_word}
use Rattle.sv_preproc.specs.Directives as spec
use Rattle.sv_preproc.specs.Directives.{Macros, Expands, Item, item, State, Contents, Holds, IsFile, branch, choice, has, is_taken, name_of, with_definition, with_count, entered, deepest_use, deepest_include, most_counted, at_first}

-- ---- places that are reached

-- Between two tokens of a file: whether the innermost branch counts, the conditionals that are open, from the innermost, what is known,
-- what was written so far, and what is left.
pub record Point : Type 0 where
  pub live : Bool
  pub frames : List Frame
  pub state : State
  pub written : List Token
  pub rest : List Lined

-- where a file's tokens begin
abbrev pub begun : State → List Token → List Lined → Point
begun s written tokens = record { live = true; frames = []; state = s; written = written; rest = tokens }

-- behind an item that leaves conditionals alone
abbrev pub behind : Point → State → List Token → List Lined → Point
behind p s written rest = record { live = p.live; frames = p.frames; state = s; written = written; rest = rest }

-- where other conditionals are open
abbrev pub among : Point → Bool → List Frame → List Lined → Point
among p live frames rest = record { live = live; frames = frames; state = p.state; written = p.written; rest = rest }

-- a conditional that begins in a branch that counts or not
abbrev pub first_branch : Bool → Bool → Frame
first_branch live taken = record { live = live; taken = taken; last = false }

-- A directive ends a branch of the conditional, which stands in these others: whether the next branch counts, the conditionals that are then open,
-- and what is left. None but `endif` stands behind an `else` (22.6).
pub data Ends (macros : Macros) (frame : Frame) (round : List Frame) (a : Lined) (ts : List Lined) : Bool → List Frame → List Lined → Type 0 where
  endif : role_of a.token ≡ role.Endif → Ends macros frame round a ts frame.live round ts
  last_branch : role_of a.token ≡ role.Else → frame.last ≡ false
      → Ends macros frame round a ts (frame.live && not frame.taken) (record { live = frame.live; taken = true; last = true } ∷ round) ts
  one_more : {name : Lined} {rest : List Lined} → role_of a.token ≡ role.Elsif → frame.last ≡ false → ts ≡ name ∷ rest → is_word name.token.kind ≡ true
      → Ends macros frame round a ts (frame.live && not frame.taken && has name.token.text macros)
      (record { live = frame.live; taken = frame.taken || has name.token.text macros; last = false } ∷ round) rest

-- the innermost of the conditionals that are open goes on so
abbrev pub Turns : Macros → List Frame → Lined → List Lined → Bool → List Frame → List Lined → Type 0
Turns macros frames a ts live later rest = (frame : Frame) × (round : List Frame) × (frames ≡ frame ∷ round) × Ends macros frame round a ts live later rest

-- from one place over the item that stands there to the next
abbrev pub Passes : Contents → ℕ → Item → Point → Point → Type 0
Passes C room (spec.kept a rest) p q = q ≡ behind p p.state (p.written ++ a ∷ []) rest
Passes C room (spec.passed rest) p q = q ≡ behind p p.state p.written rest
Passes C room (spec.used a rest) p q = (text : List Token) × (front : List Token) × (n : ℕ)
    × (p.state.macros (name_of a) ≡ Some text) × Expands p.state.macros a.place deepest_use text front n
    × (q ≡ behind p (with_count p.state n) (p.written ++ front) rest)
Passes C room (spec.defined name text rest) p q = q ≡ behind p (with_definition p.state name (Some text)) p.written rest
Passes C room (spec.forgotten name rest) p q = q ≡ behind p (with_definition p.state name None) p.written rest
Passes C room (spec.included a name rest) p q = (less : ℕ) × (text : List ℕ) × (tokens : List Lined) × (front : List Token) × (middle : State)
    × (room ≡ suc less) × IsFile C (length p.state.files) name text tokens × Holds C less (branch true) (entered p.state name tokens) tokens front middle []
    × (q ≡ behind p middle (p.written ++ front) rest)
Passes C room (spec.opened wanted name rest) p q =
    q ≡ among p (p.live && is_taken wanted name p.state.macros) (first_branch p.live (is_taken wanted name p.state.macros) ∷ p.frames) rest
Passes C room spec.ended p q = (a : Lined) × (ts : List Lined) × (live : Bool) × (frames : List Frame) × (rest : List Lined)
    × (p.rest ≡ a ∷ ts) × Turns p.state.macros p.frames a ts live frames rest × (q ≡ among p live frames rest)
Passes C room (spec.broken number place) p q = ⊥

-- reading comes from one place to the other
pub data Reaches (C : Contents) (room : ℕ) : Point → Point → Type 0 where
  at_once : {p : Point} → Reaches C room p p
  onwards : {p q r : Point} → Reaches C room p q → Passes C room (item q.live q.rest) q r → Reaches C room p r

-- ---- why reading stops

-- The text of a macro can not be expanded: the number of the refusal. So many tokens were counted before it.
pub data Overruns (macros : Macros) (place : Place) : ℕ → List Token → ℕ → ℕ → Type 0 where
  -- one token more than may be counted
  many : {depth counted : ℕ} {a : Token} {text : List Token} → counted ≡ most_counted → Overruns macros place depth (a ∷ text) counted 4
  -- a directive's name
  foreign : {depth counted : ℕ} {a : Token} {text : List Token} → (role_of a ≡ role.Kept → ⊥) → (role_of a ≡ role.Used → ⊥)
      → Overruns macros place depth (a ∷ text) counted 6
  -- a name that is not defined
  unknown : {depth counted : ℕ} {a : Token} {text : List Token} → role_of a ≡ role.Used → macros (name_of a) ≡ None
      → Overruns macros place depth (a ∷ text) counted 6
  -- one use more than may nest
  deep : {counted : ℕ} {a : Token} {inner text : List Token} → role_of a ≡ role.Used → macros (name_of a) ≡ Some inner
      → Overruns macros place 0 (a ∷ text) counted 7
  -- inside the text of a use
  within : {depth counted number : ℕ} {a : Token} {inner text : List Token} → role_of a ≡ role.Used → macros (name_of a) ≡ Some inner
      → Overruns macros place depth inner (counted + 1) number → Overruns macros place (suc depth) (a ∷ text) counted number
  -- behind a token, or behind a use
  past_kept : {depth counted number : ℕ} {a : Token} {text : List Token} → role_of a ≡ role.Kept
      → Overruns macros place depth text (counted + 1) number → Overruns macros place depth (a ∷ text) counted number
  past_used : {depth counted number m : ℕ} {a : Token} {inner text front : List Token} → role_of a ≡ role.Used → macros (name_of a) ≡ Some inner
      → Expands macros place depth inner front m → Overruns macros place (suc depth) text (counted + 1 + m) number
      → Overruns macros place (suc depth) (a ∷ text) counted number

-- A directive that ends a branch can not stand here, where these conditionals are open.
pub data IsMisplaced (frames : List Frame) (a : Lined) (ts : List Lined) : ℕ → Type 0 where
  -- `else`, `elsif` or `endif` without its opening
  unopened : frames ≡ [] → IsMisplaced frames a ts 5
  -- `else` or `elsif` after an `else`
  after_last : {frame : Frame} {round : List Frame} → frames ≡ frame ∷ round → frame.last ≡ true
      → (role_of a.token ≡ role.Else) ⊎ (role_of a.token ≡ role.Elsif) → IsMisplaced frames a ts 5
  -- `elsif` without its name
  nameless : role_of a.token ≡ role.Elsif → ((name : Lined) (rest : List Lined) → ts ≡ name ∷ rest → is_word name.token.kind ≡ false) → IsMisplaced frames a ts 2

-- The item at this place can not be read: the number of the refusal, and its place. The file ends at the place `end`.
pub data IsFaulty (room : ℕ) (end : Place) (p : Point) : ℕ → Place → Type 0 where
  -- no directive is made so
  broken : {number : ℕ} {place : Place} → item p.live p.rest ≡ spec.broken number place → IsFaulty room end p number place
  -- includes are nested too deep
  deep : {a : Token} {name : List ℕ} {rest : List Lined} → item p.live p.rest ≡ spec.included a name rest → room ≡ 0 → IsFaulty room end p 3 a.place
  -- a backtick name that is neither a directive nor defined
  unknown : {a : Token} {rest : List Lined} → item p.live p.rest ≡ spec.used a rest → p.state.macros (name_of a) ≡ None → IsFaulty room end p 6 a.place
  -- the text of the macro can not be expanded
  overrun : {number : ℕ} {a : Token} {text : List Token} {rest : List Lined} → item p.live p.rest ≡ spec.used a rest → p.state.macros (name_of a) ≡ Some text
      → Overruns p.state.macros a.place deepest_use text p.state.counted number → IsFaulty room end p number a.place
  -- a directive that ends a branch can not stand there
  misplaced : {number : ℕ} {a : Lined} {ts : List Lined} → p.rest ≡ a ∷ ts → item p.live p.rest ≡ spec.ended → IsMisplaced p.frames a ts number
      → IsFaulty room end p number a.token.place
  -- the file ends inside a conditional
  unclosed : {frame : Frame} {round : List Frame} → p.rest ≡ [] → p.frames ≡ frame ∷ round → IsFaulty room end p 5 end

-- The file of that name can not be read as the next file.
pub data IsUnfit (C : Contents) (s : State) (name : List ℕ) : Refusal → Type 0 where
  -- its text is too long, or has no tokens, or too many
  uncut : {refusal : Refusal} (text : List ℕ) → C name text → IsRefused (length s.files) text refusal → IsUnfit C s name refusal
  -- with its tokens more are counted than may be
  many : {text : List ℕ} (before : List Lined) (a : Lined) (after : List Lined) → IsFile C (length s.files) name text (before ++ a ∷ after)
      → s.counted + length before ≡ most_counted → IsUnfit C s name (refused 4 a.token.place)

-- A text is refused, or the file that a directive at a place asks for is not read.
pub data Stop : Type 0 where
  no : Refusal → Stop
  unread : Place → Stop

-- Reading the tokens of a file stops, with so many nested includes left: why, and in which file.
pub data Stops (C : Contents) : ℕ → State → List Lined → Place → List ℕ → Stop → List ℕ → Type 0 where
  faulty : {room number : ℕ} {s : State} {old : List Token} {tokens : List Lined} {end place : Place} {name : List ℕ} {p : Point}
      → Reaches C room (begun s old tokens) p → IsFaulty room end p number place → Stops C room s tokens end name (no (refused number place)) name
  missing : {room less : ℕ} {s : State} {old : List Token} {tokens rest : List Lined} {end : Place} {name file : List ℕ} {p : Point} {a : Token}
      → Reaches C room (begun s old tokens) p → item p.live p.rest ≡ spec.included a file rest → room ≡ suc less → Stops C room s tokens end name (unread a.place) name
  unfit : {room less : ℕ} {s : State} {old : List Token} {tokens rest : List Lined} {end : Place} {name file : List ℕ} {p : Point} {a : Token} {refusal : Refusal}
      → Reaches C room (begun s old tokens) p → item p.live p.rest ≡ spec.included a file rest → room ≡ suc less
      → IsUnfit C p.state file refusal → Stops C room s tokens end name (no refusal) file
  deeper : {room less : ℕ} {s : State} {old : List Token} {tokens rest others : List Lined} {end : Place} {name file text at : List ℕ} {p : Point} {a : Token} {stop : Stop}
      → Reaches C room (begun s old tokens) p → item p.live p.rest ≡ spec.included a file rest → room ≡ suc less
      → IsFile C (length p.state.files) file text others
      → Stops C less (entered p.state file others) others (past (start (length p.state.files)) text) file stop at → Stops C room s tokens end name stop at

-- Reading the main file and the files that it includes stops: why, and in which file.
pub data StopsIn (C : Contents) (main : List ℕ) : Stop → List ℕ → Type 0 where
  missing : StopsIn C main (unread (start 0)) main
  unfit : {refusal : Refusal} → IsUnfit C at_first main refusal → StopsIn C main (no refusal) main
  deeper : {text at : List ℕ} {tokens : List Lined} {stop : Stop} → IsFile C 0 main text tokens
      → Stops C deepest_include (entered at_first main tokens) tokens (past (start 0) text) main stop at → StopsIn C main stop at
