-- Each token that a text stands for lies in one of the files that were read, and so does the end of the text. A file's tokens have its number,
-- which is below the count of files from there on, since that only grows; and the tokens of a macro's text have the place of the use.
use Rattle.std.proofs.Common.{◌≡◌, ℕ, zero, suc, ◌+◌, ◌<◌, ◌≤◌, ◌==◌, Bool, true, false, ◌&&◌, ◌||◌, List, [], ◌∷◌, ◌++◌, length, take, Option, Some, None, refl, sym, ap, ◌∙◌, subst, length-append, arith}
use Rattle.std.specs.Prelude.{not, All, if◌then◌else◌}
use Rattle.std.proofs.lemmas.List.Elements.{All-nil, All-cons}
use Rattle.sv_outside.specs.declared.refusal.Place.{Place}
use Rattle.sv_outside.specs.declared.text.Token.{Token}
use Rattle.sv_outside.specs.Text.{TokenList}
use Rattle.sv_token.specs.declared.lexer.Lined.{Lined}
use Rattle.sv_token.specs.Cut.{start, past_byte, past, Spot, Cuts, here, gap, token}
use Rattle.sv_preproc.specs.declared.role.Role.{Role}
use Rattle.sv_preproc.specs.declared.role.Role.TheVariants as role
use Rattle.sv_preproc.specs.Roles.{role_of, is_continued, line_text, line_rest, is_word, is_quoted, between_quotes, may_name}
use Rattle.sv_preproc.specs.Directives as spec
use Rattle.sv_preproc.specs.Directives.{Macros, Expands, placed, Item, arguments, unless_arguments, define_item, undef_item, open_item, include_item, item_by, item, State, with_definition, with_count, entered, Contents, Part, branch, choice, Relation, is_taken, has, Turn, Elsif, Choose, Level, Stands, deepest_use, at_first, IsWholeText}
use Rattle.sv_places.specs.Within.{Each}

-- they lie in the first n files
abbrev Lie : ℕ → List Token → Type 0
Lie n all = Each (λ a. a.place.file < n) all

abbrev LineUp : ℕ → List Lined → Type 0
LineUp n all = Each (λ a. a.token.place.file < n) all

-- ---- the tokens of one file

one_file : (b : Bool) (p q : Place) → p.file ≡ q.file → (if b then p else q).file ≡ q.file
one_file true p q e = e
one_file false p q e = refl

past_stays : (p : Place) (text : List ℕ) → (past p text).file ≡ p.file
unfolding past
past_stays p [] = refl
past_stays p (b ∷ bs) = past_stays (past_byte p b) bs ∙ one_file (b == 10) (record { file = p.file; line = p.line + 1; column = 1 }) (record { file = p.file; line = p.line; column = p.column + 1 }) refl

cuts_in : {p q : Spot} {text rest : List ℕ} {tokens : List Lined} (n : ℕ) → p.place.file < n → Cuts p text tokens q rest → LineUp n tokens
cuts_in n h here = tt
cuts_in {p} {q} {text} n h (gap k e more) = cuts_in n (subst (λ i. i < n) (sym (past_stays p.place (take k text))) h) more
cuts_in {p} {q} {text} n h (token kind k e more) = (h, cuts_in n (subst (λ i. i < n) (sym (past_stays p.place (take k text))) h) more)

-- ---- more files

wider : (m n : ℕ) (all : List Lined) → m ≤ n → LineUp m all → LineUp n all
wider m n [] le h = tt
wider m n (a ∷ all) le h = (omega (arith, le, h.0), wider m n all le h.1)

lie_wider : (m n : ℕ) (all : List Token) → m ≤ n → Lie m all → Lie n all
lie_wider m n [] le h = tt
lie_wider m n (a ∷ all) le h = (omega (arith, le, h.0), lie_wider m n all le h.1)

both_lie : (n : ℕ) (a b : List Token) → Lie n a → Lie n b → Lie n (a ++ b)
both_lie n [] b h k = k
both_lie n (x ∷ a) b h k = (h.0, both_lie n a b h.1 k)

expands_lie : {macros : Macros} {place : Place} {depth count : ℕ} {text out : List Token} (n : ℕ) → place.file < n → Expands macros place depth text out count → Lie n out
expands_lie n h spec.Expands.ended = tt
expands_lie n h (spec.Expands.kept e more) = (h, expands_lie n h more)
expands_lie n h (spec.Expands.used {front = front} {out = out} e f inner more) = both_lie n front out (expands_lie n h inner) (expands_lie n h more)

-- ---- the front of a file's tokens

abbrev ItemLies : ℕ → Item → Type 0
ItemLies n spec.ended = Unit {0}
ItemLies n (spec.kept a rest) = (a.place.file < n) × LineUp n rest
ItemLies n (spec.passed rest) = LineUp n rest
ItemLies n (spec.used a rest) = (a.place.file < n) × LineUp n rest
ItemLies n (spec.defined name text rest) = LineUp n rest
ItemLies n (spec.forgotten name rest) = LineUp n rest
ItemLies n (spec.included a name rest) = LineUp n rest
ItemLies n (spec.opened wanted name rest) = LineUp n rest
ItemLies n (spec.broken number place) = Unit {0}

if_lies : (n : ℕ) (b : Bool) (x y : Item) → ItemLies n x → ItemLies n y → ItemLies n (if b then x else y)
if_lies n true x y h k = h
if_lies n false x y h k = k

if_rest : (n : ℕ) (b : Bool) (x y : List Lined) → LineUp n x → LineUp n y → LineUp n (if b then x else y)
if_rest n true x y h k = h
if_rest n false x y h k = k

rest_lies : (n line : ℕ) (all : List Lined) → LineUp n all → LineUp n (line_rest line all)
unfolding line_rest
rest_lies n line [] h = tt
rest_lies n line (a ∷ ts) h =
    if_rest n (a.line == line) (line_rest (if is_continued (role_of a.token) then line + 1 else line) ts) (a ∷ ts) (rest_lies n (if is_continued (role_of a.token) then line + 1 else line) ts h.1) h

unless_lies : (n : ℕ) (x : Option Place) (i : Item) → ItemLies n i → ItemLies n (unless_arguments x i)
unless_lies n None i h = h
unless_lies n (Some p) i h = tt

define_lies : (n : ℕ) (a : Lined) (ts : List Lined) → LineUp n ts → ItemLies n (define_item a ts)
define_lies n a [] h = tt
define_lies n a (name ∷ ts) h =
    if_lies n (is_word name.token.kind && (name.line == a.line) && may_name name.token.text) (unless_arguments (arguments name.token ts) (spec.defined name.token.text (line_text a.line ts) (line_rest a.line ts))) (spec.broken 2 a.token.place)
    (unless_lies n (arguments name.token ts) (spec.defined name.token.text (line_text a.line ts) (line_rest a.line ts)) (rest_lies n a.line ts h.1)) tt

undef_lies : (n : ℕ) (a : Lined) (ts : List Lined) → LineUp n ts → ItemLies n (undef_item a ts)
undef_lies n a [] h = tt
undef_lies n a (name ∷ ts) h = if_lies n (is_word name.token.kind) (spec.forgotten name.token.text ts) (spec.broken 2 a.token.place) h.1 tt

open_lies : (n : ℕ) (wanted : Bool) (a : Lined) (ts : List Lined) → LineUp n ts → ItemLies n (open_item wanted a ts)
open_lies n wanted a [] h = tt
open_lies n wanted a (name ∷ ts) h = if_lies n (is_word name.token.kind) (spec.opened wanted name.token.text ts) (spec.broken 2 a.token.place) h.1 tt

include_lies : (n : ℕ) (a : Lined) (ts : List Lined) → LineUp n ts → ItemLies n (include_item a ts)
include_lies n a [] h = tt
include_lies n a (name ∷ ts) h = if_lies n (is_quoted name.token.kind) (spec.included a.token (between_quotes name.token.text) ts) (spec.broken 2 a.token.place) h.1 tt

item_by_lies : (n : ℕ) (live : Bool) (r : Role) (a : Lined) (ts : List Lined) → a.token.place.file < n → LineUp n ts → ItemLies n (item_by live r a ts)
item_by_lies n live role.Kept a ts h k = if_lies n live (spec.kept a.token ts) (spec.passed ts) (h, k) k
item_by_lies n live role.Continued a ts h k = tt
item_by_lies n live role.Used a ts h k = if_lies n live (spec.used a.token ts) (spec.passed ts) (h, k) k
item_by_lies n live role.Define a ts h k = if_lies n live (define_item a ts) (spec.passed (line_rest a.line ts)) (define_lies n a ts k) (rest_lies n a.line ts k)
item_by_lies n live role.Undef a ts h k = if_lies n live (undef_item a ts) (spec.passed ts) (undef_lies n a ts k) k
item_by_lies n live role.Ifdef a ts h k = open_lies n true a ts k
item_by_lies n live role.Ifndef a ts h k = open_lies n false a ts k
item_by_lies n live role.Elsif a ts h k = tt
item_by_lies n live role.Else a ts h k = tt
item_by_lies n live role.Endif a ts h k = tt
item_by_lies n live role.Include a ts h k = if_lies n live (include_item a ts) (spec.passed ts) (include_lies n a ts k) k
item_by_lies n live role.Line a ts h k = rest_lies n a.line ts k

item_lies : (n : ℕ) (live : Bool) (from : List Lined) → LineUp n from → ItemLies n (item live from)
item_lies n live [] h = tt
item_lies n live (a ∷ ts) h = item_by_lies n live (role_of a.token) a ts h.0 h.1

-- ---- what tokens stand for

-- no file is forgotten, and what is left, and what it stands for, lies in the files
abbrev Stay : State → List Token → State → List Lined → Type 0
Stay s out after to = (length s.files ≤ length after.files) × LineUp (length after.files) to × Lie (length after.files) out

abbrev Stays : Relation → Type 0
Stays G = (room : ℕ) (part : Part) (s : State) (from : List Lined) (o : List Token) (z : State) (t : List Lined)
    → G room part s from o z t → LineUp (length s.files) from → Stay s o z t

stay_as : (s z : State) (o more : List Token) (t : List Lined) → o ≡ more → Stay s more z t → Stay s o z t
stay_as s z o more t e h = (h.0, h.1, subst (Lie (length z.files)) (sym e) h.2)

-- nothing is read
stay_here : (s z : State) (o : List Token) (t from : List Lined) → o ≡ [] → z ≡ s → t ≡ from → LineUp (length s.files) from → Stay s o z t
stay_here s z o t from e f g h =
    let n : length s.files ≡ length z.files = sym (ap (λ i. length i.files) f) in
    let rest : LineUp (length s.files) t = subst (LineUp (length s.files)) (sym g) h in (
      omega (arith, n),
      subst (λ i. LineUp i t) n rest,
      subst (Lie (length z.files)) (sym e) tt,
    )

-- one part behind the other
stay_both : (s m z : State) (front more : List Token) (t u : List Lined) → Stay s front m u → (LineUp (length m.files) u → Stay m more z t) → Stay s (front ++ more) z t
stay_both s m z front more t u h k =
    let b = k h.1 in (
      omega (arith, h.0, b.0),
      b.1,
      both_lie (length z.files) front more (lie_wider (length m.files) (length z.files) front b.0 h.2) b.2,
    )

turn_stays : (C : Contents) (G : Relation) → Stays G → (i : Item) (room : ℕ) (live : Bool) (s : State) (from : List Lined) (o : List Token) (z : State) (t : List Lined)
    → Turn C G room live s i from o z t → LineUp (length s.files) from → ItemLies (length s.files) i → Stay s o z t
turn_stays C G w spec.ended room live s from o z t h k l = stay_here s z o t from h.0 h.1 h.2 k
turn_stays C G w (spec.kept a rest) room live s from o z t h k l =
    let b = w room (branch live) s rest h.0 z t h.2 l.1 in
    stay_as s z o (a ∷ h.0) t h.1 (b.0, b.1, (omega (arith, b.0, l.0), b.2))
turn_stays C G w (spec.passed rest) room live s from o z t h k l = w room (branch live) s rest o z t h l
turn_stays C G w (spec.used a rest) room live s from o z t h k l =
    let b : Stay s h.2 z t = w room (branch live) (with_count s h.3) rest h.2 z t h.7 l.1 in
    let front = lie_wider (length s.files) (length z.files) h.1 b.0 (expands_lie (length s.files) l.0 h.5) in
    stay_as s z o (h.1 ++ h.2) t h.6 (b.0, b.1, both_lie (length z.files) h.1 h.2 front b.2)
turn_stays C G w (spec.defined name text rest) room live s from o z t h k l = w room (branch live) (with_definition s name (Some text)) rest o z t h l
turn_stays C G w (spec.forgotten name rest) room live s from o z t h k l = w room (branch live) (with_definition s name None) rest o z t h l
turn_stays C G w (spec.included a name rest) room live s from o z t h k l =
    let inside : State = entered s name h.2 in
    let one : length inside.files ≡ suc (length s.files) = omega (arith, length-append s.files (name ∷ [])) in
    let own : LineUp (length inside.files) h.2 = cuts_in (length inside.files) (omega (arith, one)) h.7.cut.1 in
    let a : Stay inside h.3 h.5 [] = w h.0 (branch true) inside h.2 h.3 h.5 [] h.8 own in
    let grown : length s.files ≤ length h.5.files = omega (arith, a.0, one) in
    let front : Stay s h.3 h.5 rest = (grown, wider (length s.files) (length h.5.files) rest grown l, a.2) in
    stay_as s z o (h.3 ++ h.4) t h.9 (stay_both s h.5 z h.3 h.4 t rest front (λ m. w room (branch live) h.5 rest h.4 z t h.10 m))
turn_stays C G w (spec.opened wanted name rest) room live s from o z t h k l =
    stay_as s z o (h.0 ++ (h.1 ++ h.2)) t h.9
    (stay_both s h.3 z h.0 (h.1 ++ h.2) t h.5 (w room (branch (live && is_taken wanted name s.macros)) s rest h.0 h.3 h.5 h.7 l)
    (λ m. stay_both h.3 h.4 z h.1 h.2 t h.6 (w room (choice live (is_taken wanted name s.macros)) h.3 h.5 h.1 h.4 h.6 h.8 m)
    (λ n. w room (branch live) h.4 h.6 h.2 z t h.10 n)))
turn_stays C G w (spec.broken number place) room live s from o z t h k l = absurd h

elsif_stays : (G : Relation) → Stays G → (room : ℕ) (live taken : Bool) (s : State) (ts : List Lined) (o : List Token) (z : State) (t : List Lined)
    → Elsif G room live taken s ts o z t → LineUp (length s.files) ts → Stay s o z t
elsif_stays G w room live taken s [] o z t h k = absurd h
elsif_stays G w room live taken s (name ∷ ts) o z t h k =
    stay_as s z o (h.0 ++ h.1) t h.7
    (stay_both s h.2 z h.0 h.1 t h.3 (w room (branch (live && not taken && has name.token.text s.macros)) s ts h.0 h.2 h.3 h.5 k.1)
    (λ m. w room (choice live (taken || has name.token.text s.macros)) h.2 h.3 h.1 z t h.6 m))

choose_stays : (G : Relation) → Stays G → (r : Role) (room : ℕ) (live taken : Bool) (s : State) (ts : List Lined) (o : List Token) (z : State) (t : List Lined)
    → Choose G r room live taken s ts o z t → LineUp (length s.files) ts → Stay s o z t
choose_stays G w role.Endif room live taken s ts o z t h k = stay_here s z o t ts h.0 h.1 h.2 k
choose_stays G w role.Else room live taken s ts o z t h k =
    let b = w room (branch (live && not taken)) s ts o z (h.0 ∷ t) h.2 k in
    (b.0, b.1.1, b.2)
choose_stays G w role.Elsif room live taken s ts o z t h k = elsif_stays G w room live taken s ts o z t h k
choose_stays G w role.Kept room live taken s ts o z t h k = absurd h
choose_stays G w role.Continued room live taken s ts o z t h k = absurd h
choose_stays G w role.Used room live taken s ts o z t h k = absurd h
choose_stays G w role.Define room live taken s ts o z t h k = absurd h
choose_stays G w role.Undef room live taken s ts o z t h k = absurd h
choose_stays G w role.Ifdef room live taken s ts o z t h k = absurd h
choose_stays G w role.Ifndef room live taken s ts o z t h k = absurd h
choose_stays G w role.Include room live taken s ts o z t h k = absurd h
choose_stays G w role.Line room live taken s ts o z t h k = absurd h

level_stays : (C : Contents) (G : Relation) → Stays G → Stays (Level C G)
level_stays C G w room (branch live) s from o z t h k = turn_stays C G w (item live from) room live s from o z t h k (item_lies (length s.files) live from k)
level_stays C G w room (choice live taken) s [] o z t h k = absurd h
level_stays C G w room (choice live taken) s (a ∷ ts) o z t h k = choose_stays G w (role_of a.token) room live taken s ts o z t h k.1

stands_stay : (C : Contents) (levels : ℕ) → Stays (Stands C levels)
unfolding Stands
stands_stay C zero room part s from o z t h k = absurd h
stands_stay C (suc levels) room part s from o z t h k = level_stays C (Stands C levels) (stands_stay C levels) room part s from o z t h k

-- ---- the whole text

all_lie : (n : ℕ) (all : List Token) → Lie n all → All (λ a. a.place.file < n) all
all_lie n [] h = All-nil (λ a. a.place.file < n)
all_lie n (a ∷ all) h = All-cons (λ b. b.place.file < n) a all h.0 (all_lie n all h.1)

whole_stays : (C : Contents) (main : List ℕ) (tokens : TokenList) → IsWholeText C main tokens → (Lie (length tokens.files) tokens.list) × (1 ≤ length tokens.files)
whole_stays C main tokens h =
    let x = h.whole in
    let first : LineUp 1 x.tokens = cuts_in 1 (omega arith) x.file.cut.1 in
    let inside : State = entered at_first main x.tokens in
    let all : Stay inside tokens.list h.last [] = stands_stay C x.stands.0 _ (branch true) inside x.tokens tokens.list h.last [] x.stands.1 first in
    let same : length h.last.files ≡ length tokens.files = sym (ap length x.files) in
    (subst (λ i. Lie i tokens.list) same all.2, omega (arith, all.0, same))

pub tokens_lie : (C : Contents) (main : List ℕ) (tokens : TokenList) → IsWholeText C main tokens → All (λ a. a.place.file < length tokens.files) tokens.list
tokens_lie C main tokens h = all_lie (length tokens.files) tokens.list (whole_stays C main tokens h).0

pub some_file : (C : Contents) (main : List ℕ) (tokens : TokenList) → IsWholeText C main tokens → 1 ≤ length tokens.files
some_file C main tokens h = (whole_stays C main tokens h).1

pub end_lies : (C : Contents) (main : List ℕ) (tokens : TokenList) → IsWholeText C main tokens → tokens.end.file < length tokens.files
end_lies C main tokens h =
    let file : tokens.end.file ≡ 0 = ap (λ p. p.file) h.whole.end ∙ past_stays (start 0) h.whole.text in
    omega (arith, file, some_file C main tokens h)
