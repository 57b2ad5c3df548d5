-- What reading the words of a command from the left finds, a word at a time.
use Rattle.std.specs.Prelude.{ℕ, Bool, true, false, not, ◌&&◌, ◌==◌, nat_le, nat_lt, List, [], ◌∷◌, ◌++◌, length, get_or, take, drop, Option, Some, None, is_some, option_map, option_and_then, unwrap_or, bytes_eq, codes, if◌then◌else◌}
use Rattle.std.specs.List.{list_all}
use Rattle.svtv_words.specs.Commands.{Text, Option', top, budget, vcd, option_text, takes_text, is_among, is_digit, number_behind, most_budget, most_count, Form, Verb', proves, sims, dumps, selftests, certs, checks, inducts, waves, form_of, Command, selftest, command_from}

-- ---- one word

-- two bytes or more, the first of them `-`
abbrev pub is_dashed : Text → Bool
is_dashed [] = false
is_dashed (b ∷ []) = false
is_dashed (b ∷ c ∷ more) = b == 45

-- what stands behind this front, in a text that begins with it
abbrev pub text_behind : Text → Text → Option Text
text_behind front w = if bytes_eq (take (length front) w) front then Some (drop (length front) w) else None

-- what a word is where no option waits for its text
pub data Kind : Type 0 where
  a_name : Kind
  with_text : Option' → Text → Kind
  before_text : Option' → Kind
  on_its_own : Option' → Kind
  the_rest : Kind
  unknown : Kind

-- what an option's word is: does it take a text
abbrev pub bare_kind : Bool → Option' → Kind
bare_kind true o = before_text o
bare_kind false o = on_its_own o

-- the text of `--o=TEXT`
abbrev pub joined_text : Option' → Text → Option Text
joined_text o w = if takes_text o then option_and_then (text_behind (codes "=")) (text_behind (option_text o) w) else None

-- the kind of a word with this option
unfoldable pub option_kind : Option' → Text → Option Kind
option_kind o w = if bytes_eq w (option_text o) then Some (bare_kind (takes_text o) o) else option_map (λ text. with_text o text) (joined_text o w)

abbrev pub every_option : List Option'
every_option = top ∷ budget ∷ vcd ∷ []

-- the kind of a dashed word, by the first of these options that it has
abbrev pub kind_among : List Option' → Text → Kind
kind_among [] w = unknown
kind_among (o ∷ more) w = unwrap_or (option_kind o w) (kind_among more w)

-- the kind of a word: is it dashed, is it `--`, and its kind by its option
abbrev pub kind_by : Bool → Bool → Kind → Kind
kind_by false r k = a_name
kind_by true true k = the_rest
kind_by true false k = k

unfoldable pub kind_of : Text → Kind
kind_of w = kind_by (is_dashed w) (bytes_eq w (codes "--")) (kind_among every_option w)

-- ---- numbers

abbrev pub in_bounds : ℕ → ℕ → Option ℕ
in_bounds greatest n = if nat_le 1 n && nat_le n greatest then Some n else None

-- the number of a text of at most so many digits, up to the greatest
unfoldable pub number_in : ℕ → ℕ → Text → Option ℕ
number_in digits greatest text = if nat_le 1 (length text) && nat_le (length text) digits && list_all is_digit text then in_bounds greatest (number_behind 0 text) else None

abbrev pub budget_of : Text → Option ℕ
budget_of text = number_in 8 most_budget text

abbrev pub count_of : Text → Option ℕ
count_of text = number_in 2 most_count text

-- ---- what the options were given so far

-- the texts of the options, if they were given
pub data Texts : Type 0 where
  texts : (top budget vcd : Option Text) → Texts

abbrev pub nothing_given : Texts
nothing_given = texts None None None

abbrev pub text_at : Option' → Texts → Option Text
text_at top (texts t b v) = t
text_at budget (texts t b v) = b
text_at vcd (texts t b v) = v

abbrev pub put : Option' → Text → Texts → Texts
put top text (texts t b v) = texts (Some text) b v
put budget text (texts t b v) = texts t (Some text) v
put vcd text (texts t b v) = texts t b (Some text)

-- the number of the budget
abbrev pub budget_at : Texts → Option ℕ
budget_at t = option_and_then budget_of (text_at budget t)

abbrev pub is_good : Option' → Text → Bool
is_good top text = not (length text == 0)
is_good budget text = is_some (budget_of text)
is_good vcd text = true

-- an option of the form that was not given before, with a good text
abbrev pub may_give : Form → Option Text → Option' → Text → Bool
may_give form None o text = is_among o form.options && is_good o text
may_give form (Some before) o text = false

-- ---- what was found so far

-- what the next word is: anything, the text of the option before it, or a positional
pub data Next : Type 0 where
  anything : Next
  text_of : Option' → Next
  a_positional : Next

-- the next word, the positionals, and the texts of the options
pub data Found : Type 0 where
  found : Next → List Text → Texts → Found

abbrev pub nothing_found : Found
nothing_found = found anything [] nothing_given

-- the room for positionals, of which a verb has fewer or as many
abbrev pub most_positionals : ℕ
most_positionals = 4

abbrev pub one_more : List Text → Text → Option (List Text)
one_more names w = if nat_lt (length names) most_positionals then Some (names ++ w ∷ []) else None

-- which are not empty
abbrev pub name_more : List Text → Text → Option (List Text)
name_more names w = if nat_le 1 (length w) then one_more names w else None

abbrev pub with_name : Found → Text → Option Found
with_name (found next names t) w = option_map (λ all. found next all t) (name_more names w)

abbrev pub with_setting : Form → Found → Option' → Text → Option Found
with_setting form (found next names t) o text = if may_give form (text_at o t) o text then Some (found anything names (put o text t)) else None

abbrev pub with_next : Found → Next → Found
with_next (found next names t) new = found new names t

abbrev pub with_kind : Form → Found → Text → Kind → Option Found
with_kind form f w a_name = with_name f w
with_kind form f w (with_text o text) = with_setting form f o text
with_kind form f w (before_text o) = Some (with_next f (text_of o))
with_kind form f w (on_its_own o) = with_setting form f o []
with_kind form f w the_rest = Some (with_next f a_positional)
with_kind form f w unknown = None

abbrev pub with_word_at : Next → Form → Found → Text → Option Found
with_word_at anything form f w = with_kind form f w (kind_of w)
with_word_at (text_of o) form f w = if is_dashed w then None else with_setting form f o w
with_word_at a_positional form f w = with_name f w

abbrev pub next_of : Found → Next
next_of (found next names t) = next

abbrev pub with_word : Form → Found → Text → Option Found
with_word form f w = with_word_at (next_of f) form f w

-- what words add to what was found before them
unfoldable pub found_in : Form → List Text → Found → Option Found
found_in form [] f = Some f
found_in form (w ∷ more) f = option_and_then (found_in form more) (with_word form f w)

-- ---- the whole

abbrev pub every_verb : List Verb'
every_verb = proves ∷ sims ∷ dumps ∷ selftests ∷ certs ∷ checks ∷ inducts ∷ waves ∷ []

-- the first of these verbs with this word
abbrev pub verb_among : List Verb' → Text → Option Verb'
verb_among [] w = None
verb_among (v ∷ more) w = if bytes_eq w (form_of v).word then Some v else verb_among more w

-- the command of a verb with as many names as it has, if the name of a self test is a count
abbrev pub command_with : Verb' → List Text → Texts → Option Command
command_with selftests names t = option_map (λ k. selftest k) (count_of (get_or names 0 []))
command_with v names t = Some (command_from v names (text_at top t) (budget_at t) (is_some (text_at vcd t)))

abbrev pub command_named : Verb' → List Text → Texts → Option Command
command_named v names t = if length names == (form_of v).positionals then command_with v names t else None

-- an option still waits for its text
abbrev pub is_waiting : Next → Bool
is_waiting anything = false
is_waiting (text_of o) = true
is_waiting a_positional = false

abbrev pub command_found : Verb' → Found → Option Command
command_found v (found next names t) = if is_waiting next then None else command_named v names t

unfoldable pub command_in : List Text → Option Command
command_in [] = None
command_in (verb ∷ words) = option_and_then (λ v. option_and_then (command_found v) (found_in (form_of v) words nothing_found)) (verb_among every_verb verb)
