-- What the program holds, as the definitions see it.
use Rattle.std.specs.Prelude.{List, map, take, option_copied}
use Rattle.svtv_words.specs.declared.settings.OptionName.{OptionName}
use Rattle.svtv_words.specs.declared.settings.OptionName.TheVariants.{Top, Budget, Vcd}
use Rattle.svtv_words.specs.declared.settings.Kind.{Kind as Known}
use Rattle.svtv_words.specs.declared.settings.Kind.TheVariants as known
use Rattle.svtv_words.specs.declared.positionals.Names.{Names}
use Rattle.svtv_words.specs.declared.scan.Next.{Next as Waiting}
use Rattle.svtv_words.specs.declared.scan.Next.TheVariants as waiting
use Rattle.svtv_words.specs.declared.scan.Texts.{Texts as Given}
use Rattle.svtv_words.specs.declared.scan.Found.{Found as Held}
use Rattle.svtv_words.specs.declared.verbs.Verb.{Verb}
use Rattle.svtv_words.specs.declared.verbs.Verb.TheVariants.{Prove, Sim, Dump, Selftest, Cert, Check, Induct, Wave}
use Rattle.svtv_words.specs.Commands.{Text, Option', top, budget, vcd, Verb', proves, sims, dumps, selftests, certs, checks, inducts, waves}
use Rattle.svtv_words.specs.Reading.{Kind, a_name, with_text, before_text, on_its_own, the_rest, unknown, Texts, texts, Next, anything, text_of, a_positional, Found, found}

abbrev pub option_is : OptionName → Option'
option_is Top = top
option_is Budget = budget
option_is Vcd = vcd

abbrev pub verb_is : Verb → Verb'
verb_is Prove = proves
verb_is Sim = sims
verb_is Dump = dumps
verb_is Selftest = selftests
verb_is Cert = certs
verb_is Check = checks
verb_is Induct = inducts
verb_is Wave = waves

abbrev pub kind_is : Known → Kind
kind_is known.Name = a_name
kind_is (known.Joined o text) = with_text (option_is o) text.now
kind_is (known.Apart o) = before_text (option_is o)
kind_is (known.Alone o) = on_its_own (option_is o)
kind_is known.Rest = the_rest
kind_is known.Unknown = unknown

abbrev pub next_is : Waiting → Next
next_is waiting.Anything = anything
next_is (waiting.TextOf o) = text_of (option_is o)
next_is waiting.Positional = a_positional

abbrev pub names_are : Names → List Text
names_are n = take n.count (map (λ w. w.now) n.words)

abbrev pub texts_are : Given → Texts
texts_are t = texts (option_copied t.top) (option_copied t.budget) (option_copied t.vcd)

abbrev pub found_is : Held → Found
found_is f = found (next_is f.next) (names_are f.names) (texts_are f.texts)
