-- Words of the inner functions: why the work stops.
use Rattle.std.specs.Prelude.{◌≡◌, ◌<◌, ℕ, length}
use Rattle.sv_outside.specs.Outside.{AtMostOneMore, one_more}
use Rattle.sv_outside.specs.Text.{TokenList}
use Rattle.sv_outside.specs.declared.refusal.Place.{Place}
use Rattle.sv_outside.specs.declared.refusal.Refusal.{Refusal}
use Rattle.sv_outside.specs.declared.refusal.TextErr.{TextErr}
use Rattle.sv_outside.specs.declared.refusal.TextErr.TheVariants as e
use Rattle.sv_preproc.specs.Laws.{Possible}
use Rattle.sv_preproc.specs.Reached.{StopsIn, no, unread}
use Rattle.svtv_files.specs.Files.{Text, Told}
use Rattle.svtv_files.specs.Refusals.{IsIn, TooLong, at_first}
use Rattle.svtv_files.specs.declared.stop.Stop.{Stop}
use Rattle.svtv_files.specs.declared.stop.Stop.TheVariants.{Refused, Unread, Memory}

-- a refusal has this cause, and what is not read this one; want of memory says nothing
abbrev pub Stops : (Text → Refusal → Type 0) → (Text → Place → Type 0) → Stop → Type 0
Stops Refuses Leaves (Refused file r) = Refuses file r
Stops Refuses Leaves (Unread file place) = Leaves file place
Stops Refuses Leaves Memory = Unit {0}

-- something is left unread only where this holds
abbrev pub IfUnread : Type 0 → Stop → Type 0
IfUnread P (Refused file r) = Unit {0}
IfUnread P (Unread file place) = P
IfUnread P Memory = Unit {0}

-- The count of failed reads after a stop: one more where a file was not read, at which the reading ends. Want of memory may come behind a failed read.
abbrev pub Counts : Stop → ℕ → ℕ → Type 0
Counts (Refused file r) before now = now ≡ before
Counts (Unread file place) before now = now ≡ one_more before
Counts Memory before now = AtMostOneMore before now

-- the text of a file stops, with the files that it includes
abbrev pub StopsText : Told → Text → Stop → Type 0
StopsText told name stop = Stops (λ file r. StopsIn (Possible told) name (no r) file) (λ file place. StopsIn (Possible told) name (unread place) file) stop

-- one file is too long, or is not read
abbrev pub StopsAt : Told → Text → Stop → Type 0
StopsAt told name stop = Stops (λ file r. (file ≡ name) × TooLong told name r) (λ file place. (file ≡ name) × (place ≡ at_first)) stop

-- an error of a text stands in one of the files that were read for it
abbrev pub IsInOneOf : TokenList → TextErr → Type 0
IsInOneOf tokens (e.No r) = r.place.file < length tokens.files
IsInOneOf tokens e.Memory = Unit {0}

-- it is told with the name of the file of its place
abbrev pub IsInFile : TokenList → TextErr → Stop → Type 0
IsInFile tokens (e.No r) (Refused file own) = (own ≡ r) × IsIn tokens r file
IsInFile tokens (e.No r) (Unread file place) = ⊥
IsInFile tokens (e.No r) Memory = Unit {0}
IsInFile tokens e.Memory (Refused file own) = ⊥
IsInFile tokens e.Memory (Unread file place) = ⊥
IsInFile tokens e.Memory Memory = Unit {0}

-- an error of the one file of that name
abbrev pub IsOf : Text → TextErr → Stop → Type 0
IsOf name (e.No r) (Refused file own) = (own ≡ r) × (file ≡ name)
IsOf name (e.No r) (Unread file place) = ⊥
IsOf name (e.No r) Memory = Unit {0}
IsOf name e.Memory (Refused file own) = ⊥
IsOf name e.Memory (Unread file place) = ⊥
IsOf name e.Memory Memory = Unit {0}
