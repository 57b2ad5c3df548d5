-- The main file.
use Rattle.std.proofs.Common.{◌≡◌, ℕ, List, [], refl, sym, ◌∙◌, ap, subst, Result, Ok, Err, Option}
use Rattle.std.specs.Result.{IfOk, IfErr, IsErr}
use Rattle.sv_outside.specs.Outside.{Rose, counted}
use Rattle.sv_outside.specs.Text.{TokenList}
use Rattle.sv_outside.proofs.Counts.{rose}
use Rattle.sv_outside.specs.declared.refusal.Refusal.{Refusal}
use Rattle.sv_outside.specs.declared.refusal.Place.{Place}
use Rattle.sv_token.specs.declared.lexer.Lined.{Lined}
use Rattle.sv_token.specs.Cut.{start}
use Rattle.sv_preproc.specs.declared.error.PreErr.{PreErr}
use Rattle.sv_preproc.specs.declared.error.PreErr.TheVariants.{No, Read, Memory}
use Rattle.sv_preproc.specs.Directives.{Contents, State, Macros, IsWholeText, no_macros, at_first, entered, deepest_include}
use Rattle.sv_preproc.specs.Laws.{Possible, Told}
use Rattle.sv_preproc.specs.Reached as reached
use Rattle.sv_preproc.specs.Reached.{Stop, no, unread, Stops, StopsIn}
use Rattle.sv_preproc.specs.Seen.{NotEntered, Enters, HasCause, GivesOnly, IfReadFault, is_read_fault}
use Rattle.sv_preproc.proofs.Errors.{caused_as}
use Rattle.sv_preproc.proofs.Refusals.{none_stops}
use Rattle.sv_preproc.proofs.Unique.{one_list, possible_told, told_possible}

pub only_this : (told : List ℕ → Option (List ℕ)) (main : List ℕ) (result : Result TokenList PreErr) → IfOk result (λ t. IsWholeText (Possible told) main t) → IfErr result (HasCause (StopsIn (Possible told) main))
    → (tokens : TokenList) → IsWholeText (Told told) main tokens → GivesOnly (λ answer. answer ≡ tokens) result
only_this told main (Ok t) h c tokens w = one_list (Possible told) (Told told) (possible_told told) main t tokens h.last w.last h.whole w.whole
only_this told main (Err (No refusal file)) h c tokens w = none_stops (possible_told told) c refusal refl tokens w.last w.whole w.within
only_this told main (Err (Read place file)) h c tokens w = tt
only_this told main (Err Memory) h c tokens w = tt

pub refused_somehow : (told : List ℕ → Option (List ℕ)) (main : List ℕ) (result : Result TokenList PreErr) → IfOk result (λ t. IsWholeText (Possible told) main t)
    → (refusal : Refusal) (file : List ℕ) → StopsIn (Told told) main (no refusal) file → IsErr result
refused_somehow told main (Ok t) h refusal file s = absurd (none_stops (told_possible told) s refusal refl t h.last h.whole h.within)
refused_somehow told main (Err e) h refusal file s = refl

-- the count has risen, or stands at its end, where one more is counted
pub rose_where_read : {A : Type 0} (result : Result A PreErr) (before now : ℕ) → IfErr result (λ e. now ≡ counted (is_read_fault e) before) → IfErr result (IfReadFault (Rose before now))
rose_where_read (Ok v) before now h = tt
rose_where_read (Err (No refusal file)) before now h = tt
rose_where_read (Err (Read place file)) before now h = rose before now h
rose_where_read (Err Memory) before now h = tt

-- nothing is known yet
pub first_state : (macros : Macros) (files : List (List ℕ)) → macros ≡ no_macros → files ≡ [] → record { macros = macros; files = files; counted = 0 } ≡ at_first
first_state macros files e f = ap (λ (m : Macros). record { macros = m; files = files; counted = 0 }) e ∙ ap (λ (l : List (List ℕ)). record { macros = no_macros; files = l; counted = 0 }) f

main_stops : (C : Contents) (main : List ℕ) (stop : Stop) (at : List ℕ) → NotEntered C at_first main (start 0) main stop at → StopsIn C main stop at
main_stops C main (no refusal) at h = subst (λ i. StopsIn C main (no refusal) i) (sym h.1) (reached.unfit h.0)
main_stops C main (unread place) at h = subst (λ i. StopsIn C main (unread i) at) (sym h.0) (subst (λ i. StopsIn C main (unread (start 0)) i) (sym h.1) reached.missing)

pub main_unentered : (C : Contents) (s : State) (main : List ℕ) (place : Place) (e : PreErr) → s ≡ at_first → place ≡ start 0 → HasCause (NotEntered C s main place main) e → HasCause (StopsIn C main) e
main_unentered C s main place e f p c = caused_as (NotEntered C at_first main (start 0) main) (StopsIn C main) e (main_stops C main)
    (subst (λ i. HasCause (NotEntered C at_first main i main) e) p (subst (λ i. HasCause (NotEntered C i main place main) e) f c))

pub main_stopped : (C : Contents) (s one : State) (main : List ℕ) (tokens : List Lined) (end : Place) (e : PreErr) → s ≡ at_first → Enters C s one main tokens end
    → HasCause (Stops C deepest_include one tokens end main) e → HasCause (StopsIn C main) e
main_stopped C s one main tokens end e f k c =
    let n = subst (λ i. Enters C i one main tokens end) f k in
    caused_as (Stops C deepest_include one tokens end main) (StopsIn C main) e
    (λ stop at x. reached.deeper n.file (subst (λ i. Stops C deepest_include (entered at_first main tokens) tokens i main stop at) n.ends (subst (λ i. Stops C deepest_include i tokens end main stop at) n.counted x))) c
