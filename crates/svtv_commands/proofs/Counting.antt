-- The count of failed reads where the work stops behind them.
use Rattle.std.proofs.Common.{◌≡◌, ℕ, inl}
use Rattle.sv_meaning.specs.Designs.{Design}
use Rattle.sv_outside.specs.Outside.{AtMostOneMore}
use Rattle.sv_outside.specs.Text.{TokenList}
use Rattle.sv_outside.specs.declared.refusal.TextErr.{TextErr}
use Rattle.sv_outside.specs.declared.refusal.TextErr.TheVariants as e
use Rattle.svtv_commands.specs.Machines.{StopsWide}
use Rattle.svtv_files.specs.Files.{Text}
use Rattle.svtv_files.specs.Stopping.{Counts, IfUnread, IsInFile, IsOf}
use Rattle.svtv_files.specs.declared.stop.Stop.{Stop}
use Rattle.svtv_files.specs.declared.stop.Stop.TheVariants.{Refused, Unread, Memory}

-- ---- no read failed

pub memory_counts : (before now : ℕ) → now ≡ before → Counts Memory before now
unfolding AtMostOneMore
memory_counts before now k = inl k

pub in_file_counts : (tokens : TokenList) (error : TextErr) (stop : Stop) (before now : ℕ) → IsInFile tokens error stop → now ≡ before → Counts stop before now
unfolding AtMostOneMore
in_file_counts tokens (e.No r) (Refused file own) before now h k = k
in_file_counts tokens (e.No r) (Unread file place) before now h k = absurd h
in_file_counts tokens (e.No r) Memory before now h k = inl k
in_file_counts tokens e.Memory (Refused file own) before now h k = absurd h
in_file_counts tokens e.Memory (Unread file place) before now h k = absurd h
in_file_counts tokens e.Memory Memory before now h k = inl k

pub of_counts : (name : Text) (error : TextErr) (stop : Stop) (before now : ℕ) → IsOf name error stop → now ≡ before → Counts stop before now
unfolding AtMostOneMore
of_counts name (e.No r) (Refused file own) before now h k = k
of_counts name (e.No r) (Unread file place) before now h k = absurd h
of_counts name (e.No r) Memory before now h k = inl k
of_counts name e.Memory (Refused file own) before now h k = absurd h
of_counts name e.Memory (Unread file place) before now h k = absurd h
of_counts name e.Memory Memory before now h k = inl k

pub of_left : (name : Text) (error : TextErr) (P : Type 0) (stop : Stop) → IsOf name error stop → IfUnread P stop
of_left name (e.No r) P (Refused file own) h = tt
of_left name (e.No r) P (Unread file place) h = absurd h
of_left name (e.No r) P Memory h = tt
of_left name e.Memory P (Refused file own) h = absurd h
of_left name e.Memory P (Unread file place) h = absurd h
of_left name e.Memory P Memory h = tt

pub wide_counts : (name : Text) (d : Design) (stop : Stop) (before now : ℕ) → StopsWide name d stop → now ≡ before → Counts stop before now
unfolding AtMostOneMore
wide_counts name d (Refused file r) before now h k = k
wide_counts name d (Unread file place) before now h k = absurd h
wide_counts name d Memory before now h k = inl k
