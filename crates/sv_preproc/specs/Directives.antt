-- What a text stands for: the directives (IEEE 1800-2017, clause 22), as relations on lists of tokens.
use Rattle.std.specs.Prelude.{◌≡◌, ◌≤◌, ◌==◌, ◌&&◌, ◌||◌, ◌+◌, not, ℕ, zero, suc, Bool, true, false, List, [], ◌∷◌, ◌++◌, length, drop, Option, Some, None, is_some, if◌then◌else◌}
use Rattle.std.specs.Map.{update}
use Rattle.std.specs.Str.{bytes_eq}
use Rattle.sv_outside.specs.declared.text.Token.{Token}
use Rattle.sv_outside.specs.declared.refusal.Place.{Place}
use Rattle.sv_outside.specs.Text.{TokenList}
use Rattle.sv_token.specs.declared.lexer.Lined.{Lined}
use Rattle.sv_token.specs.Cut.{LexesLines, past, start, most_bytes}
use Rattle.sv_preproc.specs.declared.role.Role.{Role}
use Rattle.sv_preproc.specs.declared.role.Role.TheVariants as role
use Rattle.sv_preproc.specs.Roles.{role_of, line_text, line_rest, is_word, is_quoted, between_quotes, opens_arguments, may_name}

-- ---- macros (22.5.1)

-- the text of each name's latest definition, where it has one
abbrev pub Macros : Type 0
Macros = List ℕ → Option (List Token)

abbrev pub no_macros : Macros
no_macros name = None

abbrev pub has : List ℕ → Macros → Bool
has name macros = is_some (macros name)

-- a backtick name without its backtick
abbrev pub name_of : Token → List ℕ
name_of a = drop 1 a.text

abbrev pub placed : Place → Token → Token
placed place a = record { kind = a.kind; text = a.text; place = place }

-- The text of a macro that is used at the place stands for these tokens, and so many tokens of macros' texts are counted on the way: each use in it,
-- nested up to the depth, stands for the text of its macro in turn. In a macro's text every backtick name is a use.
pub data Expands (macros : Macros) (place : Place) : ℕ → List Token → List Token → ℕ → Type 0 where
  ended : {depth : ℕ} → Expands macros place depth [] [] 0
  kept : {depth n : ℕ} {a : Token} {text out : List Token} → role_of a ≡ role.Kept → Expands macros place depth text out n
      → Expands macros place depth (a ∷ text) (placed place a ∷ out) (n + 1)
  used : {depth m n : ℕ} {a : Token} {inner text front out : List Token} → role_of a ≡ role.Used → macros (name_of a) ≡ Some inner
      → Expands macros place depth inner front m → Expands macros place (suc depth) text out n
      → Expands macros place (suc depth) (a ∷ text) (front ++ out) (m + n + 1)

-- so many uses may nest within a use
abbrev pub deepest_use : ℕ
deepest_use = 63

-- ---- the front of a file's tokens

pub data Item : Type 0 where
  -- the end, or a directive that ends a branch
  ended : Item
  -- a token that stands for itself, and what stands behind it
  kept : Token → List Lined → Item
  -- what stands for nothing
  passed : List Lined → Item
  -- the use of a macro
  used : Token → List Lined → Item
  -- a definition of the name, with its text (22.5.1)
  defined : List ℕ → List Token → List Lined → Item
  -- the name has no text from here on (22.5.2)
  forgotten : List ℕ → List Lined → Item
  -- the directive, and the file that it includes (22.4)
  included : Token → List ℕ → List Lined → Item
  -- a conditional that wants the name to be defined, or not (22.6)
  opened : Bool → List ℕ → List Lined → Item
  -- no directive is made so: the number of the refusal, and its place
  broken : ℕ → Place → Item

-- where the arguments of a macro of that name begin, if they do
abbrev pub arguments : Token → List Lined → Option Place
arguments name [] = None
arguments name (a ∷ ts) = if opens_arguments name a.token then Some a.token.place else None

abbrev pub unless_arguments : Option Place → Item → Item
unless_arguments None i = i
unless_arguments (Some place) i = broken 25 place

abbrev pub define_item : Lined → List Lined → Item
define_item a [] = broken 2 a.token.place
define_item a (name ∷ ts) =
    if is_word name.token.kind && (name.line == a.line) && may_name name.token.text
    then unless_arguments (arguments name.token ts) (defined name.token.text (line_text a.line ts) (line_rest a.line ts)) else broken 2 a.token.place

abbrev pub undef_item : Lined → List Lined → Item
undef_item a [] = broken 2 a.token.place
undef_item a (name ∷ ts) = if is_word name.token.kind then forgotten name.token.text ts else broken 2 a.token.place

abbrev pub open_item : Bool → Lined → List Lined → Item
open_item wanted a [] = broken 2 a.token.place
open_item wanted a (name ∷ ts) = if is_word name.token.kind then opened wanted name.token.text ts else broken 2 a.token.place

abbrev pub include_item : Lined → List Lined → Item
include_item a [] = broken 2 a.token.place
include_item a (name ∷ ts) = if is_quoted name.token.kind then included a.token (between_quotes name.token.text) ts else broken 2 a.token.place

-- In a branch that is skipped only conditionals count, and a definition takes its line along. A backslash at a line's end belongs to a directive's line.
abbrev pub item_by : Bool → Role → Lined → List Lined → Item
item_by live role.Kept a ts = if live then kept a.token ts else passed ts
item_by live role.Continued a ts = broken 2 a.token.place
item_by live role.Used a ts = if live then used a.token ts else passed ts
item_by live role.Define a ts = if live then define_item a ts else passed (line_rest a.line ts)
item_by live role.Undef a ts = if live then undef_item a ts else passed ts
item_by live role.Ifdef a ts = open_item true a ts
item_by live role.Ifndef a ts = open_item false a ts
item_by live role.Elsif a ts = ended
item_by live role.Else a ts = ended
item_by live role.Endif a ts = ended
item_by live role.Include a ts = if live then include_item a ts else passed ts
item_by live role.Line a ts = passed (line_rest a.line ts)

abbrev pub item : Bool → List Lined → Item
item live [] = ended
item live (a ∷ ts) = item_by live (role_of a.token) a ts

-- ---- what tokens stand for

-- what is known between two tokens: the macros, the files that were read, in order, and what was counted
pub record State : Type 0 where
  pub macros : Macros
  pub files : List (List ℕ)
  pub counted : ℕ

abbrev pub with_macros : State → Macros → State
with_macros s macros = record { macros = macros; files = s.files; counted = s.counted }

abbrev pub with_definition : State → List ℕ → Option (List Token) → State
with_definition s name text = with_macros s (update bytes_eq s.macros name text)

abbrev pub with_count : State → ℕ → State
with_count s n = record { macros = s.macros; files = s.files; counted = s.counted + n }

-- one file more, whose tokens are each counted once
abbrev pub entered : State → List ℕ → List Lined → State
entered s name tokens = record { macros = s.macros; files = s.files ++ name ∷ []; counted = s.counted + length tokens }

-- which texts a file may hold
abbrev pub Contents : Type 1
Contents = List ℕ → List ℕ → Type 0

-- the file of that name, read as the file with that number, may hold this text, which is these tokens
pub record IsFile (C : Contents) (number : ℕ) (name text : List ℕ) (tokens : List Lined) : Type 0 where
  pub held : C name text
  pub short : length text ≤ most_bytes
  pub cut : LexesLines number text tokens

-- the tokens of a branch, or what is left of a conditional behind one of its branches
pub data Part : Type 0 where
  -- whether the branch counts
  branch : Bool → Part
  -- whether the conditional counts, and whether one of its branches was taken
  choice : Bool → Bool → Part

-- From the first list of tokens up to the second, with so many nested includes left, a part stands for these tokens, and makes one state of another.
abbrev pub Relation : Type 1
Relation = ℕ → Part → State → List Lined → List Token → State → List Lined → Type 0

-- whether the conditional's first branch is taken
abbrev pub is_taken : Bool → List ℕ → Macros → Bool
is_taken wanted name macros = if wanted then has name macros else not (has name macros)

-- the first item of a branch, and what the rest stands for
abbrev pub Turn : Contents → Relation → ℕ → Bool → State → Item → List Lined → List Token → State → List Lined → Type 0
-- a branch ends where its conditional goes on, or with the file
Turn C G room live s ended from out after to = (out ≡ []) × (after ≡ s) × (to ≡ from)
-- a token stands for itself
Turn C G room live s (kept a rest) from out after to = (more : List Token) × (out ≡ a ∷ more) × G room (branch live) s rest more after to
Turn C G room live s (passed rest) from out after to = G room (branch live) s rest out after to
-- a use stands for the text of its latest earlier definition
Turn C G room live s (used a rest) from out after to = (text : List Token) × (front : List Token) × (more : List Token) × (n : ℕ)
    × (s.macros (name_of a) ≡ Some text) × Expands s.macros a.place deepest_use text front n
    × (out ≡ front ++ more) × G room (branch live) (with_count s n) rest more after to
Turn C G room live s (defined name text rest) from out after to = G room (branch live) (with_definition s name (Some text)) rest out after to
Turn C G room live s (forgotten name rest) from out after to = G room (branch live) (with_definition s name None) rest out after to
-- an include stands for the tokens of its file, whose conditionals balance
Turn C G room live s (included a name rest) from out after to = (less : ℕ) × (text : List ℕ) × (tokens : List Lined)
    × (front : List Token) × (more : List Token) × (middle : State)
    × (room ≡ suc less) × IsFile C (length s.files) name text tokens × G less (branch true) (entered s name tokens) tokens front middle []
    × (out ≡ front ++ more) × G room (branch live) middle rest more after to
-- a conditional is its first branch, its other branches, and what stands behind it
Turn C G room live s (opened wanted name rest) from out after to = (first : List Token) × (others : List Token) × (more : List Token) × (one : State) × (two : State)
    × (middle : List Lined) × (behind : List Lined)
    × G room (branch (live && is_taken wanted name s.macros)) s rest first one middle
    × G room (choice live (is_taken wanted name s.macros)) one middle others two behind
    × (out ≡ first ++ (others ++ more)) × G room (branch live) two behind more after to
Turn C G room live s (broken number place) from out after to = ⊥

abbrev pub Elsif : Relation → ℕ → Bool → Bool → State → List Lined → List Token → State → List Lined → Type 0
Elsif G room live taken s [] out after to = ⊥
Elsif G room live taken s (name ∷ ts) out after to = (first : List Token) × (others : List Token) × (one : State) × (middle : List Lined)
    × (is_word name.token.kind ≡ true) × G room (branch (live && not taken && has name.token.text s.macros)) s ts first one middle
    × G room (choice live (taken || has name.token.text s.macros)) one middle others after to × (out ≡ first ++ others)

-- a conditional goes on behind a branch: it ends, has its last branch, or one more
abbrev pub Choose : Relation → Role → ℕ → Bool → Bool → State → List Lined → List Token → State → List Lined → Type 0
Choose G role.Endif room live taken s ts out after to = (out ≡ []) × (after ≡ s) × (to ≡ ts)
Choose G role.Else room live taken s ts out after to = (e : Lined) × (role_of e.token ≡ role.Endif) × G room (branch (live && not taken)) s ts out after (e ∷ to)
Choose G role.Elsif room live taken s ts out after to = Elsif G room live taken s ts out after to
Choose G role.Kept room live taken s ts out after to = ⊥
Choose G role.Continued room live taken s ts out after to = ⊥
Choose G role.Used room live taken s ts out after to = ⊥
Choose G role.Define room live taken s ts out after to = ⊥
Choose G role.Undef room live taken s ts out after to = ⊥
Choose G role.Ifdef room live taken s ts out after to = ⊥
Choose G role.Ifndef room live taken s ts out after to = ⊥
Choose G role.Include room live taken s ts out after to = ⊥
Choose G role.Line room live taken s ts out after to = ⊥

abbrev pub Level : Contents → Relation → Relation
Level C G room (branch live) s from out after to = Turn C G room live s (item live from) from out after to
Level C G room (choice live taken) s [] out after to = ⊥
Level C G room (choice live taken) s (a ∷ ts) out after to = Choose G (role_of a.token) room live taken s ts out after to

-- the same, shown in at most so many levels
unfoldable pub Stands : Contents → ℕ → Relation
Stands C zero room part s from out after to = ⊥
Stands C (suc levels) room part s from out after to = Level C (Stands C levels) room part s from out after to

-- in some number of levels
abbrev pub Holds : Contents → Relation
Holds C room part s from out after to = (levels : ℕ) × Stands C levels room part s from out after to

-- so many includes may nest
abbrev pub deepest_include : ℕ
deepest_include = 16

-- so many tokens may be counted
abbrev pub most_counted : ℕ
most_counted = 4000000

abbrev pub at_first : State
at_first = record { macros = no_macros; files = []; counted = 0 }

-- The text of the main file, and of the files that it includes, stands for this list. The last state is told.
pub record IsText (C : Contents) (main : List ℕ) (result : TokenList) (last : State) : Type 0 where
  pub text : List ℕ
  pub tokens : List Lined
  pub file : IsFile C 0 main text tokens
  pub stands : Holds C deepest_include (branch true) (entered at_first main tokens) tokens result.list last []
  pub files : result.files ≡ last.files
  pub end : result.end ≡ past (start 0) text

-- The text of the main file stands for this list, within the limit on what is counted.
pub record IsWholeText (C : Contents) (main : List ℕ) (result : TokenList) : Type 0 where
  pub last : State
  pub whole : IsText C main result last
  pub within : last.counted ≤ most_counted
