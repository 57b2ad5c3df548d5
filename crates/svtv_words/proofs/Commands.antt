-- The command that reading finds is the one that the words are.
use Rattle.std.proofs.Common.{◌≡◌, ℕ, ◌≤◌, Bool, false, eqb, cond, List, [], ◌∷◌, length, get_or, bytes_eq, Option, Some, None, is_some, refl, sym, ap, ◌∙◌, subst, arith}
use Rattle.std.specs.Prelude.{option_map, option_and_then, IfSome, IfNone}
use Rattle.std.specs.List.{All}
use Rattle.std.proofs.lemmas.Bool.{true≢false, eqb-true, eq-eqb}
use Rattle.std.proofs.lemmas.Slice.Eq.{bytes_eq-Decides}
use Rattle.svtv_words.specs.declared.command.Command.{Command as Told}
use Rattle.svtv_words.specs.Commands.{Text, Option', top, budget, vcd, Setting, Reads, given, AreOnce, AreNames, number_behind, most_count, Form, IsAllowed, IsCount, IsCounted, Verb', proves, sims, dumps, selftests, certs, checks, inducts, waves, form_of, Command, selftest, command_from, IsCommand, command_is, IsBudgetInBounds, IsInBounds}
use Rattle.svtv_words.specs.Reading.{Texts, nothing_given, text_at, budget_of, count_of, budget_at, Next, anything, text_of, a_positional, Found, found, nothing_found, most_positionals, found_in, every_verb, verb_among, command_with, command_named, command_found, is_waiting, command_in}
use Rattle.svtv_words.proofs.OneWord.{on_if}
use Rattle.svtv_words.proofs.Options.{given_by, from_nothing, all_given, given_number, given_in_bounds}
use Rattle.svtv_words.proofs.Sound.{Adds, Sound, sound}
use Rattle.svtv_words.proofs.Complete.{complete}
use Rattle.svtv_words.proofs.Numbers.{count_is, count_found}

-- ---- the table of verbs

verb_found : (v : Verb') → verb_among every_verb (form_of v).word ≡ Some v
verb_found proves = refl
verb_found sims = refl
verb_found dumps = refl
verb_found selftests = refl
verb_found certs = refl
verb_found checks = refl
verb_found inducts = refl
verb_found waves = refl

has_room : (v : Verb') → (form_of v).positionals ≤ most_positionals
has_room proves = omega arith
has_room sims = omega arith
has_room dumps = omega arith
has_room selftests = omega arith
has_room certs = omega arith
has_room checks = omega arith
has_room inducts = omega arith
has_room waves = omega arith

verb_has_word : (w : Text) (all : List Verb') → IfSome (verb_among all w) (λ v. w ≡ (form_of v).word)
verb_has_word w [] = tt
verb_has_word w (v ∷ more) =
    on_if (λ r. IfSome r (λ v. w ≡ (form_of v).word)) (bytes_eq w (form_of v).word) (Some v) (verb_among more w) (λ e. (bytes_eq-Decides w (form_of v).word).0 e) (λ _. verb_has_word w more)

-- ---- what is found from the beginning

record Has (form : Form) (words names : List Text) (t : Texts) : Type 0 where
  settings : List Setting
  reads : Reads words names settings
  are : AreNames names
  once : AreOnce settings
  allowed : All (IsAllowed form) settings
  texts : (o : Option') → given o settings ≡ text_at o t

has : (form : Form) (words names : List Text) (t : Texts) → Adds form anything words [] nothing_given names t → Has form words names t
has form words names t a =
    record {
      settings = a.settings;
      reads = subst (λ (x : List Text). Reads words x a.settings) (sym a.all_are) a.follows;
      are = subst (λ (x : List Text). AreNames x) (sym a.all_are) a.are_names;
      once = a.once;
      allowed = a.allowed;
      texts = λ o. from_nothing a.settings t o a.joins;
    }

-- ---- what is found is a command

read : (v : Verb') (word : Text) (words names : List Text) (t : Texts) (k : ℕ) → word ≡ (form_of v).word → length names ≡ (form_of v).positionals → IsCounted (form_of v).counted (get_or names 0 []) k
    → Has (form_of v) words names t → IsCommand (word ∷ words) (command_from v names (text_at top t) (budget_at t) (is_some (text_at vcd t)))
read v word words names t k e count counts h =
    let number : budget_at t ≡ option_map (number_behind 0) (given budget h.settings) =
    ap (λ r. option_and_then budget_of r) (sym (h.texts budget)) ∙ given_number (form_of v) h.settings h.allowed in
    record {
      verb = v;
      behind = words;
      begins = ap (λ x. x ∷ words) e;
      positionals = names;
      settings = h.settings;
      reads = h.reads;
      allows = record { count = count; names = h.are; counted = (k, counts); once = h.once; options = h.allowed };
      is = λ i. command_from v names (sym (h.texts top) i) (number i) (is_some (sym (h.texts vcd) i));
    }

read_count : (word : Text) (words names : List Text) (t : Texts) → word ≡ (form_of selftests).word → length names ≡ (form_of selftests).positionals → Has (form_of selftests) words names t
    → (r : Option ℕ) → IfSome r (λ k. IsCount (get_or names 0 []) k) → IfSome (option_map (λ k. selftest k) r) (IsCommand (word ∷ words))
read_count word words names t e count h None counts = tt
read_count word words names t e count h (Some k) counts =
    subst (λ (n : ℕ). IsCommand (word ∷ words) (selftest n)) (sym counts.is) (read selftests word words names t k e count counts h)

with_is : (v : Verb') (word : Text) (words names : List Text) (t : Texts) → word ≡ (form_of v).word → length names ≡ (form_of v).positionals → Has (form_of v) words names t
    → IfSome (command_with v names t) (IsCommand (word ∷ words))
with_is selftests word words names t e count h = read_count word words names t e count h (count_of (get_or names 0 [])) (count_is (get_or names 0 []))
with_is v word words names t e count h = read v word words names t 0 e count refl h

named_is : (v : Verb') (word : Text) (words names : List Text) (t : Texts) → word ≡ (form_of v).word → Has (form_of v) words names t → IfSome (command_named v names t) (IsCommand (word ∷ words))
named_is v word words names t e h =
    on_if (λ r. IfSome r (IsCommand (word ∷ words))) (eqb (length names) (form_of v).positionals) (command_with v names t) None
    (λ same. with_is v word words names t e (eqb-true (length names) (form_of v).positionals same) h) (λ _. tt)

found_is_command : (v : Verb') (word : Text) (words : List Text) → word ≡ (form_of v).word → (r : Option Found) → Sound (form_of v) words nothing_found r → IfSome (option_and_then (command_found v) r) (IsCommand (word ∷ words))
found_is_command v word words e None h = tt
found_is_command v word words e (Some (found anything names t)) h = named_is v word words names t e (has (form_of v) words names t (h refl))
found_is_command v word words e (Some (found (text_of o) names t)) h = tt
found_is_command v word words e (Some (found a_positional names t)) h = named_is v word words names t e (has (form_of v) words names t (h refl))

is_command : (words : List Text) → IfSome (command_in words) (IsCommand words)
unfolding command_in
is_command [] = tt
is_command (word ∷ words) = by_verb (verb_among every_verb word) (verb_has_word word every_verb)
  where
    by_verb : (r : Option Verb') → IfSome r (λ v. word ≡ (form_of v).word) → IfSome (option_and_then (λ v. option_and_then (command_found v) (found_in (form_of v) words nothing_found)) r) (IsCommand (word ∷ words))
    by_verb None h = tt
    by_verb (Some v) h = found_is_command v word words h (found_in (form_of v) words nothing_found) (sound (form_of v) words nothing_found)

-- ---- a command is found

command_at : (v : Verb') (last : Next) (names : List Text) (t : Texts) → is_waiting last ≡ false → command_found v (found last names t) ≡ command_named v names t
command_at v anything names t h = refl
command_at v (text_of o) names t h = absurd (true≢false h)
command_at v a_positional names t h = refl

counted_found : (v : Verb') (names : List Text) (t : Texts) (k : ℕ) → IsCounted (form_of v).counted (get_or names 0 []) k
    → command_with v names t ≡ Some (command_from v names (text_at top t) (budget_at t) (is_some (text_at vcd t)))
counted_found selftests names t k h = ap (option_map (λ n. selftest n)) (count_found (get_or names 0 []) k h) ∙ ap (λ n. Some (selftest n)) h.is
counted_found v names t k h = refl

-- what settings give
abbrev texts_of : List Setting → Texts
texts_of s = given_by (λ o. given o s)

found_command : (v : Verb') (words names : List Text) (s : List Setting) (k : ℕ) → Reads words names s → length names ≡ (form_of v).positionals → IsCounted (form_of v).counted (get_or names 0 []) k
    → AreNames names → AreOnce s → All (IsAllowed (form_of v)) s
    → option_and_then (command_found v) (found_in (form_of v) words nothing_found)
    ≡ Some (command_from v names (given top s) (option_map (number_behind 0) (given budget s)) (is_some (given vcd s)))
found_command v words names s k reads count counts are once allowed =
    let u = texts_of s in
    let room = has_room v in
    let h = complete (form_of v) words names s reads [] nothing_given u are (omega arith) once allowed (all_given s) in
    ap (λ r. option_and_then (command_found v) r) h.is ∙ command_at v h.last names u h.ready
    ∙ ap (λ b. cond b (command_with v names u) None) (eq-eqb (length names) (form_of v).positionals count)
    ∙ counted_found v names u k counts
    ∙ ap (λ n. Some (command_from v names (given top s) n (is_some (given vcd s)))) (given_number (form_of v) s allowed)

command_given : (words : List Text) (c : Command) → IsCommand words c → command_in words ≡ Some c
unfolding command_in
command_given words c h =
    let whole : Option Verb' → Option Command = λ r. option_and_then (λ v. option_and_then (command_found v) (found_in (form_of v) h.behind nothing_found)) r in
    ap command_in h.begins
    ∙ ap whole (verb_found h.verb)
    ∙ found_command h.verb h.behind h.positionals h.settings h.allows.counted.0 h.reads h.allows.count h.allows.counted.1 h.allows.names h.allows.once h.allows.options
    ∙ ap (λ x. Some x) (sym h.is)

-- words are one command at most
pub one_command : (words : List Text) (c d : Command) → IsCommand words c → IsCommand words d → c ≡ d
one_command words c d h k = let same : Some c ≡ Some d = sym (command_given words c h) ∙ command_given words d k in cc

-- ---- what a command is given is in bounds

from_in_bounds : (v : Verb') (names : List Text) (t : Option Text) (n : Option ℕ) (w : Bool) → ((k : ℕ) × IsCounted (form_of v).counted (get_or names 0 []) k) → IsBudgetInBounds n
    → IsInBounds (command_from v names t n w)
from_in_bounds proves names t n w k h = h
from_in_bounds sims names t n w k h = tt
from_in_bounds dumps names t n w k h = tt
from_in_bounds selftests names t n w k h = subst (λ (x : ℕ). (1 ≤ x) × (x ≤ most_count)) k.1.is (k.1.low, k.1.high)
from_in_bounds certs names t n w k h = h
from_in_bounds checks names t n w k h = tt
from_in_bounds inducts names t n w k h = h
from_in_bounds waves names t n w k h = tt

pub command_in_bounds : (words : List Text) (c : Command) → IsCommand words c → IsInBounds c
command_in_bounds words c h =
    let n = option_map (number_behind 0) (given budget h.settings) in
    subst (λ (x : Command). IsInBounds x) (sym h.is)
    (from_in_bounds h.verb h.positionals (given top h.settings) n (is_some (given vcd h.settings)) h.allows.counted (given_in_bounds (form_of h.verb) h.settings h.allows.options))

-- ---- the clauses of `command_of`

pub some_is : (words : List Text) (r : Option Told) → option_map command_is r ≡ command_in words → IfSome r (λ c. IsCommand words (command_is c))
some_is words None e = tt
some_is words (Some c) e = subst (λ (o : Option Command). IfSome o (IsCommand words)) (sym e) (is_command words)

pub none_is : (words : List Text) (r : Option Told) → option_map command_is r ≡ command_in words → IfNone r ((c : Command) → IsCommand words c → ⊥)
none_is words None e = λ c h. let f : None ≡ Some c = e ∙ command_given words c h in cc
none_is words (Some c) e = tt

pub in_bounds_is : (words : List Text) (r : Option Told) → option_map command_is r ≡ command_in words → IfSome r (λ c. IsInBounds (command_is c))
in_bounds_is words None e = tt
in_bounds_is words (Some c) e = command_in_bounds words (command_is c) (some_is words (Some c) e)
