use Rattle.std.proofs.Common.{string_bytes, option_map, option_and_then, Some, None, ap, ◌∙◌}
use Rattle.svtv_words.specs.Reading.{command_found}
use Rattle.svtv_words.specs.Commands.{command_is}
use Rattle.svtv_words.specs.Seen.{verb_is}
use Rattle.svtv_words.proofs.Turns.{no_words, by_verb}
use Rattle.svtv_words.proofs.command.command_in.Goals as goal

pub returns-in_default : goal.returns-in_default
returns-in_default c = no_words string_bytes c.args.words.now c.in_default.len_below

pub returns-in_err-verb : goal.returns-in_err-verb
returns-in_err-verb c =
    ap (option_map command_is) c.from_residual.ensures
    ∙ by_verb string_bytes c.args.words.now c.verb-item.result c.as_bytes.result.now None c.in-len1-up.len_at_least c.verb-item.is c.as_bytes.ensures.value c.in_err-verb.ensures

pub returns-in_err-found : goal.returns-in_err-found
returns-in_err-found c =
    ap (option_map command_is) c.from_residual-in_err-found.ensures ∙ ap (option_and_then (command_found (verb_is c.in_ok-verb.verb))) c.in_err-found.ensures
    ∙ by_verb string_bytes c.args.words.now c.verb-item.result c.as_bytes.result.now (Some (verb_is c.in_ok-verb.verb)) c.in-len1-up.len_at_least c.verb-item.is c.as_bytes.ensures.value c.in_ok-verb.ensures

pub returns : goal.returns
returns c =
    c.command_found.ensures ∙ ap (option_and_then (command_found (verb_is c.in_ok-verb.verb))) c.in_ok-found.ensures
    ∙ by_verb string_bytes c.args.words.now c.verb-item.result c.as_bytes.result.now (Some (verb_is c.in_ok-verb.verb)) c.in-len1-up.len_at_least c.verb-item.is c.as_bytes.ensures.value c.in_ok-verb.ensures
