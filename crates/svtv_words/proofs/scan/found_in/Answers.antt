use Rattle.std.proofs.Common.{string_bytes, option_map, Some, None, ap, ◌∙◌}
use Rattle.svtv_words.specs.Commands.{form_of}
use Rattle.svtv_words.specs.Seen.{found_is, verb_is}
use Rattle.svtv_words.proofs.Turns.{turn, ended}
use Rattle.svtv_words.proofs.scan.found_in.Goals as goal

pub returns-in_err-found : goal.returns-in_err-found
returns-in_err-found c =
    ap (option_map found_is) c.from_residual.ensures
    ∙ turn string_bytes (form_of (verb_is c.args.verb)) c.args.words.now c.word-item.result c.loop-word.word-index (found_is c.loop-word.found) c.as_bytes.result.now _ None c.loop-word-test.true c.word-item.is c.as_bytes.ensures.value
    c.loop-word.invariant c.in_err-found.ensures

pub loop-word-preserved : goal.loop-word-preserved
loop-word-preserved c =
    turn string_bytes (form_of (verb_is c.args.verb)) c.args.words.now c.word-item.result c.loop-word.word-index (found_is c.loop-word.found) c.as_bytes.result.now _ (Some (found_is c.in_ok-found.found)) c.loop-word-test.true c.word-item.is
    c.as_bytes.ensures.value c.loop-word.invariant c.in_ok-found.ensures

pub returns : goal.returns
returns c = ended string_bytes (form_of (verb_is c.args.verb)) c.args.words.now c.loop-word.word-index (found_is c.loop-word.found) _ c.loop-word-test.false c.loop-word.invariant
