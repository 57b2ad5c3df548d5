-- The count of failed reads after one read.
use Rattle.std.proofs.Common.{◌≡◌, ℕ, inl, inr}
use Rattle.sv_outside.specs.Outside.{AtMostOneMore, one_more}
use Rattle.sv_outside.specs.declared.refusal.TextErr.{TextErr}
use Rattle.sv_outside.specs.declared.refusal.TextErr.TheVariants as e
use Rattle.svtv_files.specs.Files.{Text}
use Rattle.svtv_files.specs.Refusals.{at_first}
use Rattle.svtv_files.specs.Stopping.{Counts, IsOf, Stops}
use Rattle.svtv_files.specs.declared.stop.Stop.{Stop}
use Rattle.svtv_files.specs.declared.stop.Stop.TheVariants.{Refused, Unread, Memory}

-- what is told of a read that failed
pub unread_counts : (name : Text) (stop : Stop) (before now : ℕ) → Stops (λ _ _. ⊥) (λ file place. (file ≡ name) × (place ≡ at_first)) stop → now ≡ one_more before → Counts stop before now
unfolding AtMostOneMore
unread_counts name (Refused file r) before now h e = absurd h
unread_counts name (Unread file place) before now h e = e
unread_counts name Memory before now h e = inr e

-- what is told of a text, where no read failed
pub long_counts : (name : Text) (error : TextErr) (stop : Stop) (before now : ℕ) → IsOf name error stop → now ≡ before → Counts stop before now
unfolding AtMostOneMore
long_counts name (e.No r) (Refused file own) before now h k = k
long_counts name (e.No r) (Unread file place) before now h k = absurd h
long_counts name (e.No r) Memory before now h k = inl k
long_counts name e.Memory (Refused file own) before now h k = absurd h
long_counts name e.Memory (Unread file place) before now h k = absurd h
long_counts name e.Memory Memory before now h k = inl k
