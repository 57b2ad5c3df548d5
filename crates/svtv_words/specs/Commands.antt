-- The words of a command (this project's rules).
use Rattle.std.specs.Prelude.{◌≡◌, ℕ, ◌+◌, ◌-◌, ◌*◌, ◌≤◌, Bool, true, false, ◌&&◌, ◌||◌, nat_le, List, [], ◌∷◌, ◌++◌, length, get_or, Option, Some, None, is_some, IsTrue, IsFalse, IfSome, codes, option_copied, option_map, if◌then◌else◌}
use Rattle.std.specs.List.{All}
use Rattle.svtv_words.specs.declared.command.Command.{Command as Told}
use Rattle.svtv_words.specs.declared.command.Command.TheVariants.{Prove, Sim, Dump, Selftest, Cert, Check, Induct, Wave}

abbrev pub Text : Type 0
Text = List ℕ

-- ---- words

-- two bytes or more, the first of them `-`
abbrev pub IsDashed : Text → Type 0
IsDashed w = (2 ≤ length w) × (get_or w 0 0 ≡ 45)

-- an option, of which the words of a command know three
pub data Option' : Type 0 where
  top : Option'
  budget : Option'
  vcd : Option'

abbrev pub option_text : Option' → Text
option_text top = codes "--top"
option_text budget = codes "--budget"
option_text vcd = codes "--vcd"

-- whether it is given with a text, or alone
abbrev pub takes_text : Option' → Bool
takes_text top = true
takes_text budget = true
takes_text vcd = false

-- whether two options are one
abbrev pub is_option : Option' → Option' → Bool
is_option top top = true
is_option budget budget = true
is_option vcd vcd = true
is_option o p = false

abbrev pub is_among : Option' → List Option' → Bool
is_among o [] = false
is_among o (p ∷ more) = is_option o p || is_among o more

-- an option with the text that it is given, which is empty where it takes none
pub record Setting : Type 0 where
  pub option : Option'
  pub text : Text

-- ---- words behind the first

-- A list of words has these positionals and these settings, each in the order of the words.
pub data Reads : List Text → List Text → List Setting → Type 0 where
  none : Reads [] [] []
  -- behind `--` every word is a positional
  rest : {words : List Text} → Reads (codes "--" ∷ words) words []
  -- `--top=TEXT`
  joined : {words positionals : List Text} {settings : List Setting} (o : Option') (text : Text) → IsTrue (takes_text o) → Reads words positionals settings
      → Reads ((option_text o ++ 61 ∷ text) ∷ words) positionals (record { option = o; text = text } ∷ settings)
  -- `--top TEXT`
  apart : {words positionals : List Text} {settings : List Setting} (o : Option') (text : Text) → IsTrue (takes_text o) → ¬ IsDashed text → Reads words positionals settings
      → Reads (option_text o ∷ text ∷ words) positionals (record { option = o; text = text } ∷ settings)
  -- an option that takes no text: `--vcd`
  alone : {words positionals : List Text} {settings : List Setting} (o : Option') → IsFalse (takes_text o) → Reads words positionals settings
      → Reads (option_text o ∷ words) positionals (record { option = o; text = [] } ∷ settings)
  positional : {words positionals : List Text} {settings : List Setting} (w : Text) → ¬ IsDashed w → Reads words positionals settings → Reads (w ∷ words) (w ∷ positionals) settings

-- ---- numbers

abbrev pub is_digit : ℕ → Bool
is_digit b = nat_le 48 b && nat_le b 57

-- the number of decimal digits, the first the most significant, behind others with this number
unfoldable pub number_behind : ℕ → Text → ℕ
number_behind n [] = n
number_behind n (b ∷ more) = number_behind (n * 10 + (b - 48)) more

-- a number: 1 to so many decimal digits, of a number from 1 to the greatest
pub record IsNumber (digits_at_most greatest : ℕ) (text : Text) (n : ℕ) : Type 0 where
  pub digits : All (λ b. IsTrue (is_digit b)) text
  pub some : 1 ≤ length text
  pub most : length text ≤ digits_at_most
  pub is : n ≡ number_behind 0 text
  pub low : 1 ≤ n
  pub high : n ≤ greatest

abbrev pub most_budget : ℕ
most_budget = 10000000

-- a budget: 1 to 8 decimal digits, of a number from 1 to 10,000,000
abbrev pub IsBudget : Text → ℕ → Type 0
IsBudget text n = IsNumber 8 most_budget text n

abbrev pub most_count : ℕ
most_count = 30

-- a count: 1 or 2 decimal digits, of a number from 1 to 30
abbrev pub IsCount : Text → ℕ → Type 0
IsCount text n = IsNumber 2 most_count text n

-- the text is this count, where one is asked for
abbrev pub IsCounted : Bool → Text → ℕ → Type 0
IsCounted true text n = IsCount text n
IsCounted false text n = n ≡ 0

-- ---- settings

-- the text is one that the option may be given
abbrev pub IsGood : Option' → Text → Type 0
IsGood top text = 1 ≤ length text
IsGood budget text = (n : ℕ) × IsBudget text n
IsGood vcd text = Unit {0}

-- the text that settings give an option
abbrev pub given : Option' → List Setting → Option Text
given o [] = None
given o (s ∷ more) = if is_option o s.option then Some s.text else given o more

-- no option is given twice
abbrev pub AreOnce : List Setting → Type 0
AreOnce [] = Unit {0}
AreOnce (s ∷ more) = (given s.option more ≡ None) × AreOnce more

-- no name is empty
abbrev pub AreNames : List Text → Type 0
AreNames all = All (λ w. 1 ≤ length w) all

-- ---- verbs

-- the form of a verb: its word, how many positionals it has, whether the first of them is a count, and the options that it may be given
pub record Form : Type 0 where
  pub word : Text
  pub positionals : ℕ
  pub counted : Bool
  pub options : List Option'

-- a verb, of which the words of a command know eight
pub data Verb' : Type 0 where
  proves : Verb'
  sims : Verb'
  dumps : Verb'
  selftests : Verb'
  certs : Verb'
  checks : Verb'
  inducts : Verb'
  waves : Verb'

-- `prove DESIGN TABLE GOALS [--top M] [--budget N]`, `sim DESIGN TABLE VALUES [--top M] [--vcd]`, `dump DESIGN [--top M]`, `selftest N`,
-- `cert DESIGN TABLE GOALS GOAL [--top M] [--budget N]`, `check CERT`, `induct DESIGN RESET PERIOD INVS [--top M] [--budget N]` and `wave VCD PATH`
abbrev pub form_of : Verb' → Form
form_of proves = record { word = codes "prove"; positionals = 3; counted = false; options = top ∷ budget ∷ [] }
form_of sims = record { word = codes "sim"; positionals = 3; counted = false; options = top ∷ vcd ∷ [] }
form_of dumps = record { word = codes "dump"; positionals = 1; counted = false; options = top ∷ [] }
form_of selftests = record { word = codes "selftest"; positionals = 1; counted = true; options = [] }
form_of certs = record { word = codes "cert"; positionals = 4; counted = false; options = top ∷ budget ∷ [] }
form_of checks = record { word = codes "check"; positionals = 1; counted = false; options = [] }
form_of inducts = record { word = codes "induct"; positionals = 4; counted = false; options = top ∷ budget ∷ [] }
form_of waves = record { word = codes "wave"; positionals = 2; counted = false; options = [] }

-- The form has the option, and the text is good for it.
pub record IsAllowed (form : Form) (s : Setting) : Type 0 where
  pub among : IsTrue (is_among s.option form.options)
  pub good : IsGood s.option s.text

-- The form allows these: as many names as it has, none of them empty, the first a count where it asks for one, and no option twice, each as it may be given.
pub record Allows (form : Form) (positionals : List Text) (settings : List Setting) : Type 0 where
  pub count : length positionals ≡ form.positionals
  pub names : AreNames positionals
  pub counted : (n : ℕ) × IsCounted form.counted (get_or positionals 0 []) n
  pub once : AreOnce settings
  pub options : All (IsAllowed form) settings

-- ---- commands

-- `prove DESIGN TABLE GOALS`, `sim DESIGN TABLE VALUES`, `dump DESIGN`, `selftest N`, `cert DESIGN TABLE GOALS GOAL`, `check CERT`,
-- `induct DESIGN RESET PERIOD INVS` and `wave VCD PATH`, with their options
pub data Command : Type 0 where
  prove : (design table goals : Text) → (top : Option Text) → (budget : Option ℕ) → Command
  -- whether `--vcd` is given
  sim : (design table values : Text) → (top : Option Text) → (vcd : Bool) → Command
  dump : (design : Text) → (top : Option Text) → Command
  selftest : (n : ℕ) → Command
  cert : (design table goals goal : Text) → (top : Option Text) → (budget : Option ℕ) → Command
  check : (file : Text) → Command
  induct : (design reset period invs : Text) → (top : Option Text) → (budget : Option ℕ) → Command
  wave : (file path : Text) → Command

-- the command of a verb, its positionals in order, what its options are given, and whether `--vcd` is
abbrev pub command_from : Verb' → List Text → Option Text → Option ℕ → Bool → Command
command_from proves names t n w = prove (get_or names 0 []) (get_or names 1 []) (get_or names 2 []) t n
command_from sims names t n w = sim (get_or names 0 []) (get_or names 1 []) (get_or names 2 []) t w
command_from dumps names t n w = dump (get_or names 0 []) t
command_from selftests names t n w = selftest (number_behind 0 (get_or names 0 []))
command_from certs names t n w = cert (get_or names 0 []) (get_or names 1 []) (get_or names 2 []) (get_or names 3 []) t n
command_from checks names t n w = check (get_or names 0 [])
command_from inducts names t n w = induct (get_or names 0 []) (get_or names 1 []) (get_or names 2 []) (get_or names 3 []) t n
command_from waves names t n w = wave (get_or names 0 []) (get_or names 1 [])

-- The words are this command: the word of a verb, and behind it what the verb's form allows.
pub record IsCommand (words : List Text) (command : Command) : Type 0 where
  pub verb : Verb'
  pub behind : List Text
  pub begins : words ≡ (form_of verb).word ∷ behind
  pub positionals : List Text
  pub settings : List Setting
  pub reads : Reads behind positionals settings
  pub allows : Allows (form_of verb) positionals settings
  pub is : command ≡ command_from verb positionals (given top settings) (option_map (number_behind 0) (given budget settings)) (is_some (given vcd settings))

-- the command that the program's own says
abbrev pub command_is : Told → Command
command_is (Prove d t g m n) = prove d.now t.now g.now (option_copied m) n
command_is (Sim d t v m w) = sim d.now t.now v.now (option_copied m) w
command_is (Dump d m) = dump d.now (option_copied m)
command_is (Selftest k) = selftest k
command_is (Cert d t g l m n) = cert d.now t.now g.now l.now (option_copied m) n
command_is (Check f) = check f.now
command_is (Induct d r p v m n) = induct d.now r.now p.now v.now (option_copied m) n
command_is (Wave f p) = wave f.now p.now

-- a budget that is given is from 1 to 10,000,000
abbrev pub IsBudgetInBounds : Option ℕ → Type 0
IsBudgetInBounds n = IfSome n (λ k. (1 ≤ k) × (k ≤ most_budget))

-- so is that of a command, and the count of a self test is from 1 to 30
abbrev pub IsInBounds : Command → Type 0
IsInBounds (prove d t g m n) = IsBudgetInBounds n
IsInBounds (sim d t v m w) = Unit {0}
IsInBounds (dump d m) = Unit {0}
IsInBounds (selftest k) = (1 ≤ k) × (k ≤ most_count)
IsInBounds (cert d t g l m n) = IsBudgetInBounds n
IsInBounds (check f) = Unit {0}
IsInBounds (induct d r p v m n) = IsBudgetInBounds n
IsInBounds (wave f p) = Unit {0}
