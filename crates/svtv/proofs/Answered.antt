-- How the work of a command ends is an answer to its words.
use Rattle.std.proofs.Common.{List, refl}
use Rattle.svtv_files.specs.Files.{Text, Told}
use Rattle.svtv_files.specs.Refusals.{Refuses, LeavesUnread}
use Rattle.svtv_files.specs.Stopping.{Stops}
use Rattle.svtv_files.specs.declared.stop.Stop.{Stop}
use Rattle.svtv_files.specs.declared.stop.Stop.TheVariants as stop
use Rattle.svtv_words.specs.Commands.{Command, IsCommand}
use Rattle.svtv.specs.Answers.{Answers}
use Rattle.svtv.specs.Outcomes.{IsStopped, IsWork, status_of, text_of, message_of}
use Rattle.svtv.specs.declared.work.Outcome.{Outcome}
use Rattle.svtv.specs.declared.work.Outcome.TheVariants.{AllProved, NotAll, Done, Refused, Unread, Misused, Memory}

pub answered : (told : Told) (words : List Text) (c : Command) (outcome : Outcome) → IsCommand words c → IsWork told c outcome → Answers told words (status_of outcome) (text_of outcome) (message_of outcome)
answered told words c (AllProved text) is h = (refl, (c, is, h))
answered told words c (NotAll text) is h = (refl, (c, is, h))
answered told words c (Done text) is h = (refl, (c, is, h))
answered told words c (Refused message) is h = (refl, (c, is, h.0, h.1, h.2, h.3))
answered told words c (Unread message) is h = (refl, (c, is, h.0, h.1, h.2, h.3))
answered told words c Misused is h = absurd h
answered told words c Memory is h = (refl, refl)

-- work that stopped ends in the message of why it did
pub stopped_work : (told : Told) (c : Command) (why : Stop) (outcome : Outcome) → IsStopped why outcome → Stops (Refuses told c) (LeavesUnread told c) why → IsWork told c outcome
stopped_work told c (stop.Refused file r) (Refused message) h k = (file, r, k, h)
stopped_work told c (stop.Refused file r) (Unread message) h k = absurd h
stopped_work told c (stop.Refused file r) Memory h k = tt
stopped_work told c (stop.Unread file place) (Unread message) h k = (file, place, k, h)
stopped_work told c (stop.Unread file place) (Refused message) h k = absurd h
stopped_work told c (stop.Unread file place) Memory h k = tt
stopped_work told c stop.Memory Memory h k = tt
stopped_work told c stop.Memory (Refused message) h k = absurd h
stopped_work told c stop.Memory (Unread message) h k = absurd h
stopped_work told c why (AllProved text) h k = absurd h
stopped_work told c why (NotAll text) h k = absurd h
stopped_work told c why (Done text) h k = absurd h
stopped_work told c why Misused h k = absurd h
