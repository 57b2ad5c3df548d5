use Rattle.std.proofs.Common.{◌≡◌, drop, map, string_bytes}
use Rattle.svtv_words.specs.Commands.{form_of}
use Rattle.svtv_words.specs.Reading.{found_in, nothing_found}
use Rattle.svtv_words.specs.Seen.{found_is, verb_is}
use Rattle.svtv_words.proofs.scan.found_in.Given as goal

abbrev pub invariant-loop-word : goal.invariant-loop-word
invariant-loop-word l = found_in (form_of (verb_is l.verb)) (drop l.word-index (map string_bytes l.words)) (found_is l.found) ≡ found_in (form_of (verb_is l.verb)) (map string_bytes l.words) nothing_found
