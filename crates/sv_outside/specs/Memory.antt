-- Files and sinks in memory.
use Rattle.std.specs.Prelude.{◌≡◌, ◌+◌, ◌^◌, ◌&&◌, ◌==◌, not, min, nat_le, nat_lt, length, take, ℕ, Bool, List, [], ◌∷◌, ◌++◌, Option, Some, None, Result, Ok, Err, if◌then◌else◌}
use Rattle.std.specs.List.{list_any}
use Rattle.std.specs.Str.{bytes_eq}
use Rattle.sv_outside.specs.Outside.{counted, is_failed, one_more}
use Rattle.sv_outside.specs.declared.outside.FileErr.{FileErr}
use Rattle.sv_outside.specs.declared.outside.FileErr.TheVariants.{Failed, Long, Memory}

-- the contents that a list has under a name, the first of them
abbrev pub contents_under : {A : Type 0} → List (List ℕ × A) → (A → List ℕ) → List ℕ → Option (List ℕ)
contents_under [] items name = None
contents_under (file ∷ files) items name = if bytes_eq file.0 name then Some (items file.1) else contents_under files items name

-- the call after so many is one that is to fail
abbrev pub is_to_fail : List ℕ → ℕ → Bool
is_to_fail failing calls = list_any (λ number. number == one_more calls) failing

-- ---- files

-- the contents by name, the numbers of the calls that are to fail, and the calls and the faults so far
pub record MemoryFiles : Type 0 where
  pub list : List (List ℕ × List ℕ)
  pub failing : List ℕ
  pub calls : ℕ
  pub faults : ℕ

-- the contents that the files have under a name
abbrev pub contents_of : MemoryFiles → List ℕ → Option (List ℕ)
contents_of files name = contents_under files.list (λ bytes. bytes) name

-- what contents give, where there are any: at most 16 MiB are answered
abbrev pub within_limit : Option (List ℕ) → Result (List ℕ) FileErr
within_limit None = Err Failed
within_limit (Some bytes) = if nat_lt (2 ^ 24) (length bytes) then Err Long else Ok bytes

-- what the next read gives where there is memory for it
abbrev pub read_of : MemoryFiles → List ℕ → Result (List ℕ) FileErr
read_of files name = if is_to_fail files.failing files.calls then Err Failed else within_limit (contents_of files name)

-- the error of a read that was to give this
abbrev pub IsErrorOf : FileErr → Result (List ℕ) FileErr → Type 0
IsErrorOf e (Ok bytes) = e ≡ Memory
IsErrorOf e (Err other) = e ≡ other

-- the files after a read
abbrev pub after_read : MemoryFiles → List ℕ → MemoryFiles
after_read files name = record files { calls = one_more files.calls; faults = counted (is_failed (read_of files name)) files.faults }

-- ---- sinks

-- what was written, the most bytes of a call, the calls that are to fail, and the calls and the faults so far
pub record MemorySink : Type 0 where
  pub bytes : List ℕ
  pub most : ℕ
  pub failing : List ℕ
  pub calls : ℕ
  pub faults : ℕ

-- how many bytes of a piece a call takes where it does not fail
abbrev pub share_of : MemorySink → List ℕ → ℕ
share_of sink piece = min (length piece) sink.most

-- the next call takes its share of the piece: it is not to fail, and there is room
abbrev pub takes : MemorySink → List ℕ → Bool
takes sink piece = not (is_to_fail sink.failing sink.calls) && nat_le (length sink.bytes + share_of sink piece) (2 ^ 24)

-- the sink after a write
abbrev pub after_write : MemorySink → List ℕ → MemorySink
after_write sink piece =
    if takes sink piece
    then record sink { bytes = sink.bytes ++ take (share_of sink piece) piece; calls = one_more sink.calls }
    else record sink { calls = one_more sink.calls; faults = one_more sink.faults }
