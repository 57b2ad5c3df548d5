-- The contents of a list of files, however a file's bytes are held.
use Rattle.std.proofs.Common.{◌≡◌, ◌+◌, ◌-◌, ◌^◌, ◌<◌, ◌==◌, nat_lt, min, length, ℕ, Bool, true, false, List, [], ◌∷◌, map, refl, ap, cond, if◌then◌else◌, Option, Some, None, IfSome, Result, Ok, Err, IfOk, IfErr, IsErrOf, subst, arith}
use Rattle.std.specs.List.{list_any}
use Rattle.std.proofs.lemmas.Bool.Decides.{nat_tests}
use Rattle.std.specs.Str.{bytes_eq}
use Rattle.sv_outside.specs.declared.outside.FileErr.{FileErr}
use Rattle.sv_outside.specs.Memory.{MemoryFiles, contents_under, contents_of, is_to_fail, within_limit, read_of, after_read, IsErrorOf}
use Rattle.sv_outside.specs.Outside.{counted, is_failed, one_more}
use Rattle.sv_outside.specs.declared.outside.FileErr.TheVariants.{Failed, Long}

pub contents_mapped : {A : Type 0} (files : List (List ℕ × A)) (items : A → List ℕ) (name : List ℕ) → contents_under (map (λ file. (file.0, items file.1)) files) (λ bytes. bytes) name ≡ contents_under files items name
contents_mapped [] items name = refl
contents_mapped (file ∷ files) items name = ap (λ rest. cond (bytes_eq file.0 name) (Some (items file.1)) rest) (contents_mapped files items name)

-- an answer fails where it was to fail
pub faults_alike : {A : Type 0} (answer : Result A FileErr) (items : A → List ℕ) (told : Result (List ℕ) FileErr) → IfOk answer (λ bytes. told ≡ Ok (items bytes)) → IfErr answer (λ e. IsErrorOf e told) → is_failed answer ≡ is_failed told
faults_alike (Ok bytes) items told h k = rw h refl
faults_alike (Err e) items (Ok bytes) h k = rw k refl
faults_alike (Err e) items (Err other) h k = rw k refl

-- what a read of a list of files gives is what it gives of the files as contracts see them
pub read_told : {A : Type 0} (list : List (List ℕ × A)) (items : A → List ℕ) (failing : List ℕ) (calls faults number : ℕ) (to_fail : Bool) (name : List ℕ) (files : MemoryFiles) → number ≡ min (calls + 1) (2 ^ 64 - 1) → to_fail ≡ list_any (λ n. n == number) failing → record { list = map (λ file. (file.0, items file.1)) list; failing = failing; calls = calls; faults = faults } ≡ files → (if to_fail then Err Failed else within_limit (contents_under list items name)) ≡ read_of files name
unfolding one_more
read_told list items failing calls faults number to_fail name files e f v =
    let told : read_of (record { list = map (λ file. (file.0, items file.1)) list; failing = failing; calls = calls; faults = faults }) name ≡ read_of files name = ap (λ m. read_of m name) v in
    rw (f, e, ← contents_mapped list items name) told

cut_whole : (long : Bool) (bytes told : List ℕ) → (if long then Err Long else Ok told) ≡ Ok bytes → bytes ≡ told
cut_whole true bytes told e = cc
cut_whole false bytes told e = cc

limit_whole : (told : Option (List ℕ)) (bytes : List ℕ) → within_limit told ≡ Ok bytes → IfSome told (λ t. bytes ≡ t)
limit_whole None bytes e = cc
limit_whole (Some t) bytes e = cut_whole (nat_lt (2 ^ 24) (length t)) bytes t e

call_whole : (fails : Bool) (told : Option (List ℕ)) (bytes : List ℕ) → (if fails then Err Failed else within_limit told) ≡ Ok bytes → IfSome told (λ t. bytes ≡ t)
call_whole true told bytes e = cc
call_whole false told bytes e = limit_whole told bytes e

-- what is answered is all of the contents
pub told_whole : (files : MemoryFiles) (name bytes : List ℕ) → read_of files name ≡ Ok bytes → IfSome (contents_of files name) (λ told. bytes ≡ told)
told_whole files name bytes e = call_whole (is_to_fail files.failing files.calls) (contents_of files name) bytes e

cut_long : (long : Bool) (told : List ℕ) → (if long then Err Long else Ok told) ≡ Err Long → long ≡ true
cut_long true told e = refl
cut_long false told e = cc

limit_long : (told : Option (List ℕ)) → within_limit told ≡ Err Long → IfSome told (λ t. 2 ^ 24 < length t)
limit_long None e = cc
limit_long (Some t) e = let k = cut_long (nat_lt (2 ^ 24) (length t)) t e in grind (arith, nat_tests, k)

call_long : (fails : Bool) (told : Option (List ℕ)) → (if fails then Err Failed else within_limit told) ≡ Err Long → IfSome told (λ t. 2 ^ 24 < length t)
call_long true told e = cc
call_long false told e = limit_long told e

-- a file that is too long is told to be
pub told_long : (files : MemoryFiles) (name : List ℕ) → read_of files name ≡ Err Long → IfSome (contents_of files name) (λ told. 2 ^ 24 < length told)
told_long files name e = call_long (is_to_fail files.failing files.calls) (contents_of files name) e

-- the same of an answer
pub answer_whole : {A : Type 0} (answer : Result A FileErr) (items : A → List ℕ) (files : MemoryFiles) (name : List ℕ) → IfOk answer (λ bytes. read_of files name ≡ Ok (items bytes)) → IfOk answer (λ bytes. IfSome (contents_of files name) (λ told. items bytes ≡ told))
answer_whole (Ok bytes) items files name h = told_whole files name (items bytes) h
answer_whole (Err e) items files name h = tt

was_long : {A : Type 0} (e : FileErr) (told : Result (List ℕ) FileErr) → IsErrorOf e told → (let r : Result A FileErr = Err e in IsErrOf r Long) → told ≡ Err Long
was_long e (Ok bytes) h k = cc
was_long e (Err other) h k = cc

pub answer_long : {A : Type 0} (answer : Result A FileErr) (files : MemoryFiles) (name : List ℕ) → IfErr answer (λ e. IsErrorOf e (read_of files name)) → IsErrOf answer Long → IfSome (contents_of files name) (λ told. 2 ^ 24 < length told)
answer_long (Ok bytes) files name h k = cc
answer_long (Err e) files name h k = told_long files name (was_long e (read_of files name) h k)

-- the files after an answer
pub after_told : (list : List (List ℕ × List ℕ)) (failing : List ℕ) (calls faults new_calls new_faults : ℕ) (is_fault : Bool) (name : List ℕ) (files : MemoryFiles) → new_calls ≡ min (calls + 1) (2 ^ 64 - 1) → new_faults ≡ counted is_fault faults → is_fault ≡ is_failed (read_of files name) → record { list = list; failing = failing; calls = calls; faults = faults } ≡ files → record { list = list; failing = failing; calls = new_calls; faults = new_faults } ≡ after_read files name
unfolding one_more
after_told list failing calls faults new_calls new_faults is_fault name files e f g v =
    let P : MemoryFiles → Type 0 = λ m. is_fault ≡ is_failed (read_of m name) → record { list = list; failing = failing; calls = new_calls; faults = new_faults } ≡ after_read m name in
    subst P v (λ k. rw (e, f, k) refl) g
