-- The count of failed reads at the end of the work.
use Rattle.std.proofs.Common.{◌≡◌, ℕ, None, inl, inr}
use Rattle.sv_outside.specs.Outside.{AtMostOneMore}
use Rattle.svtv_files.specs.Files.{Told}
use Rattle.svtv_files.specs.Stopping.{Counts}
use Rattle.svtv_files.specs.declared.stop.Stop.{Stop}
use Rattle.svtv_files.specs.declared.stop.Stop.TheVariants as stop
use Rattle.svtv_words.specs.Commands.{selftest}
use Rattle.svtv.specs.Answers.{CountsReads}
use Rattle.svtv.specs.Outcomes.{IfLeft, IsStopped, IsWork, status_of}
use Rattle.svtv.specs.declared.status.Status.TheVariants as status
use Rattle.svtv.specs.declared.work.Outcome.{Outcome}
use Rattle.svtv.specs.declared.work.Outcome.TheVariants.{AllProved, NotAll, Done, Refused, Unread, Misused, Memory}

-- the work stopped
pub stopped_counts : (why : Stop) (outcome : Outcome) (before now : ℕ) → IsStopped why outcome → Counts why before now → CountsReads (status_of outcome) before now
unfolding AtMostOneMore
stopped_counts (stop.Refused file r) (Refused message) before now h k = k
stopped_counts (stop.Refused file r) (Unread message) before now h k = absurd h
stopped_counts (stop.Refused file r) Memory before now h k = inl k
stopped_counts (stop.Unread file place) (Unread message) before now h k = k
stopped_counts (stop.Unread file place) (Refused message) before now h k = absurd h
stopped_counts (stop.Unread file place) Memory before now h k = inr k
stopped_counts stop.Memory Memory before now h k = k
stopped_counts stop.Memory (Refused message) before now h k = absurd h
stopped_counts stop.Memory (Unread message) before now h k = absurd h
stopped_counts why (AllProved text) before now h k = absurd h
stopped_counts why (NotAll text) before now h k = absurd h
stopped_counts why (Done text) before now h k = absurd h
stopped_counts why Misused before now h k = absurd h

-- a self test reads nothing
pub test_counts : (n : ℕ) (outcome : Outcome) (before now : ℕ) → ((told : Told) → IsWork told (selftest n) outcome) → now ≡ before → CountsReads (status_of outcome) before now
unfolding AtMostOneMore
test_counts n (AllProved text) before now h k = k
test_counts n (NotAll text) before now h k = k
test_counts n (Done text) before now h k = k
test_counts n (Refused message) before now h k = k
test_counts n (Unread message) before now h k = absurd (h (λ name. None)).2
test_counts n Misused before now h k = absurd (h (λ name. None))
test_counts n Memory before now h k = inl k

-- and leaves nothing unread
pub test_left : (P : Type 0) (n : ℕ) (outcome : Outcome) → ((told : Told) → IsWork told (selftest n) outcome) → IfLeft P outcome
test_left P n (AllProved text) h = tt
test_left P n (NotAll text) h = tt
test_left P n (Done text) h = tt
test_left P n (Refused message) h = tt
test_left P n (Unread message) h = absurd (h (λ name. None)).2
test_left P n Misused h = tt
test_left P n Memory h = tt

-- nothing was read
pub memory_counts : (before now : ℕ) → now ≡ before → CountsReads status.Memory before now
unfolding AtMostOneMore
memory_counts before now k = inl k
