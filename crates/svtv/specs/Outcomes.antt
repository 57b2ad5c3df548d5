-- Words of the inner functions: how the work ends.
use Rattle.std.specs.Prelude.{◌≡◌, []}
use Rattle.svtv_report.specs.Refusals.{memory_text, read_fault_text, refusal_text, usage_text}
use Rattle.sv_outside.specs.declared.refusal.Place.{Place}
use Rattle.sv_outside.specs.declared.refusal.Refusal.{Refusal}
use Rattle.svtv_words.specs.Commands.{Command}
use Rattle.svtv_files.specs.Refusals.{Refuses, LeavesUnread}
use Rattle.svtv_files.specs.declared.stop.Stop.{Stop}
use Rattle.svtv_files.specs.declared.stop.Stop.TheVariants as stop
use Rattle.svtv_files.specs.Files.{Text, Told}
use Rattle.svtv.specs.Answers.{Prints}
use Rattle.svtv.specs.declared.status.Status.{Status}
use Rattle.svtv.specs.declared.status.Status.TheVariants as status
use Rattle.svtv.specs.declared.work.Outcome.{Outcome}
use Rattle.svtv.specs.declared.work.Outcome.TheVariants.{AllProved, NotAll, Done, Refused, Unread, Misused, Memory}

abbrev pub status_of : Outcome → Status
status_of (AllProved text) = status.AllProved
status_of (NotAll text) = status.NotAll
status_of (Done text) = status.Done
status_of (Refused message) = status.Refused
status_of (Unread message) = status.ReadFault
status_of Misused = status.Usage
status_of Memory = status.Memory

abbrev pub text_of : Outcome → Text
text_of (AllProved text) = text.items
text_of (NotAll text) = text.items
text_of (Done text) = text.items
text_of (Refused message) = []
text_of (Unread message) = []
text_of Misused = []
text_of Memory = []

abbrev pub message_of : Outcome → Text
message_of (AllProved text) = []
message_of (NotAll text) = []
message_of (Done text) = []
message_of (Refused message) = message.items
message_of (Unread message) = message.items
message_of Misused = usage_text
message_of Memory = memory_text

-- ---- causes

-- the message of what stopped the work
abbrev pub IsStopped : Stop → Outcome → Type 0
IsStopped (stop.Refused file r) (Refused message) = message.items ≡ refusal_text file r
IsStopped (stop.Unread file place) (Unread message) = message.items ≡ read_fault_text file place
IsStopped why Memory = Unit {0}
IsStopped why (AllProved text) = ⊥
IsStopped why (NotAll text) = ⊥
IsStopped why (Done text) = ⊥
IsStopped why Misused = ⊥
IsStopped (stop.Refused file r) (Unread message) = ⊥
IsStopped (stop.Unread file place) (Refused message) = ⊥
IsStopped stop.Memory (Refused message) = ⊥
IsStopped stop.Memory (Unread message) = ⊥

abbrev pub IsRefused : (Text → Refusal → Type 0) → Text → Type 0
IsRefused Why message = (file : Text) × (r : Refusal) × Why file r × (message ≡ refusal_text file r)

abbrev pub IsUnread : (Text → Place → Type 0) → Text → Type 0
IsUnread Why message = (file : Text) × (place : Place) × Why file place × (message ≡ read_fault_text file place)

-- how the work of a command ends
abbrev pub IsWork : Told → Command → Outcome → Type 0
IsWork told command (AllProved text) = Prints told command status.AllProved text.items
IsWork told command (NotAll text) = Prints told command status.NotAll text.items
IsWork told command (Done text) = Prints told command status.Done text.items
IsWork told command (Refused message) = IsRefused (Refuses told command) message.items
IsWork told command (Unread message) = IsUnread (LeavesUnread told command) message.items
IsWork told command Misused = ⊥
IsWork told command Memory = Unit {0}

-- a file was not read only where this holds
abbrev pub IfLeft : Type 0 → Outcome → Type 0
IfLeft P (AllProved text) = Unit {0}
IfLeft P (NotAll text) = Unit {0}
IfLeft P (Done text) = Unit {0}
IfLeft P (Refused message) = Unit {0}
IfLeft P (Unread message) = P
IfLeft P Misused = Unit {0}
IfLeft P Memory = Unit {0}
