-- Files that are read, and why they are not.
use Rattle.std.proofs.Common.{◌≡◌, ℕ, zero, suc, ◌+◌, ◌^◌, ◌≤◌, ◌<◌, List, [], ◌∷◌, ◌++◌, refl, sym, ◌∙◌, ap, subst, arith, length, take, drop, get_or, Option, Some, None, drop-cons, length-take, inl, inr}
use Rattle.std.proofs.lemmas.List.{take-append-drop}
use Rattle.std.specs.Prelude.{IfSome}
use Rattle.sv_outside.specs.declared.outside.FileErr.{FileErr}
use Rattle.sv_outside.specs.declared.outside.FileErr.TheVariants as fault
use Rattle.sv_outside.specs.declared.refusal.Place.{Place}
use Rattle.sv_outside.specs.declared.refusal.Refusal.{Refusal}
use Rattle.sv_token.specs.declared.lexer.Lined.{Lined}
use Rattle.sv_token.specs.Cut as cut
use Rattle.sv_token.specs.Cut.{IsRefused, refused, start, LexesLines, most_bytes}
use Rattle.sv_preproc.specs.declared.error.ItemErr.{ItemErr}
use Rattle.sv_preproc.specs.declared.error.ItemErr.TheVariants.{Refused, OutOfMemory}
use Rattle.sv_preproc.specs.declared.error.PreErr.{PreErr}
use Rattle.sv_preproc.specs.declared.error.PreErr.TheVariants.{No, Read, Memory}
use Rattle.sv_preproc.specs.Directives.{Contents, State, most_counted}
use Rattle.sv_preproc.specs.Laws.{Possible}
use Rattle.sv_preproc.specs.Reached as reached
use Rattle.sv_preproc.specs.Reached.{Stop, no, unread, IsUnfit}
use Rattle.sv_preproc.specs.Seen.{Names, IsNotRead, NotEntered, NotIncluded, NotCut, uncut, many, HasCause, IsTakenIn, Enters}
use Rattle.sv_preproc.proofs.Errors.{caused_as}

pub named : (Why : Stop → List ℕ → Type 0) (e : ItemErr) (place : Place) (file : List ℕ) (p : PreErr) → Names e place file p
    → ((number : ℕ) → e ≡ Refused number → Why (no (refused number place)) file) → HasCause Why p
named Why (Refused number) place file (No refusal at) h f =
    subst (λ i. Why (no i) at) (sym h.0) (subst (λ i. Why (no (refused number place)) i) (sym h.1) (f number refl))
named Why (Refused number) place file (Read other at) h f = absurd h
named Why (Refused number) place file Memory h f = tt
named Why OutOfMemory place file (No refusal at) h f = absurd h
named Why OutOfMemory place file (Read other at) h f = absurd h
named Why OutOfMemory place file Memory h f = tt

-- the refusal of a known number
pub named_as : (Why : Stop → List ℕ → Type 0) (number : ℕ) (place : Place) (file : List ℕ) (p : PreErr) → Names (Refused number) place file p → Why (no (refused number place)) file → HasCause Why p
named_as Why number place file p h w = named Why (Refused number) place file p h (λ n e. let same : number ≡ n = cc in subst (λ i. Why (no (refused i place)) file) same w)

long_text : (n : ℕ) → (text : List ℕ) × (length text ≡ n)
long_text zero = ([], refl)
long_text (suc n) = let h = long_text n in (0 ∷ h.0, ap suc h.1)

pub not_short : (told : List ℕ → Option (List ℕ)) (s : State) (name : List ℕ) (at : Place) (asked : List ℕ) → IfSome (told name) (λ text. 2 ^ 24 < length text)
    → (place : Place) → place ≡ start (length s.files) → NotEntered (Possible told) s name at asked (no (refused 4 place)) name
not_short told s name at asked h place e = (subst (λ i. IsUnfit (Possible told) s name (refused 4 i)) (sym e) (by (told name) refl h), refl)
  where
    by : (o : Option (List ℕ)) → told name ≡ o → IfSome o (λ text. 2 ^ 24 < length text) → IsUnfit (Possible told) s name (refused 4 (start (length s.files)))
    by None e l = let t = long_text 16777217 in reached.uncut t.0 (subst (λ o. IfSome o (λ own. t.0 ≡ own)) (sym e) tt) (cut.long (omega (arith, t.1)))
    by (Some text) e l = reached.uncut text (subst (λ o. IfSome o (λ own. text ≡ own)) (sym e) refl) (cut.long l)

pub not_lexed : (s : State) (name text : List ℕ) (refusal : Refusal) (file : List ℕ) → IsRefused (length s.files) text refusal → file ≡ name → NotCut s name text (no refusal) file
not_lexed s name text refusal file h e = subst (λ i. NotCut s name text (no refusal) i) (sym e) (uncut h)

split_there : (xs : List Lined) (k : ℕ) (d : Lined) → k < length xs → xs ≡ take k xs ++ (get_or xs k d ∷ drop (suc k) xs)
split_there xs k d h = sym (take-append-drop k xs) ∙ ap (λ i. take k xs ++ i) (drop-cons xs k d h)

pub too_many : (s : State) (name text : List ℕ) (lines : List Lined) (left : ℕ) (d : Lined) → LexesLines (length s.files) text lines → s.counted + left ≡ most_counted → left < length lines
    → NotCut s name text (no (refused 4 (get_or lines left d).token.place)) name
too_many s name text lines left d l c h =
    many (take left lines) (get_or lines left d) (drop (suc left) lines) (subst (λ i. LexesLines (length s.files) text i) (split_there lines left d h) l)
    (omega (arith, c, length-take left lines, h))

pub not_entered : (C : Contents) (s : State) (name text : List ℕ) (at : Place) (asked : List ℕ) → C name text → length text ≤ most_bytes → (e : PreErr) → HasCause (NotCut s name text) e
    → HasCause (NotEntered C s name at asked) e
not_entered C s name text at asked held short e h = caused_as (NotCut s name text) (NotEntered C s name at asked) e step h
  where
    step : (stop : Stop) (file : List ℕ) → NotCut s name text stop file → NotEntered C s name at asked stop file
    step stop file (uncut r) = (reached.uncut text held r, refl)
    step stop file (many before a after l k) = (reached.many before a after (record { held = held; short = short; cut = l }) k, refl)

-- a file that is not entered is not included
pub not_included : (C : Contents) (room : ℕ) (s : State) (name other : List ℕ) (at : Place) (asked : List ℕ) (e : PreErr) → 1 ≤ room → name ≡ other → HasCause (NotEntered C s name at asked) e
    → HasCause (NotIncluded C room s other at asked) e
not_included C room s name other at asked e r same c =
    caused_as (NotEntered C s other at asked) (NotIncluded C room s other at asked) e (λ stop file x. inr (r, x)) (subst (λ i. HasCause (NotEntered C s i at asked) e) same c)

-- as many files are included as may be
pub too_deep : (C : Contents) (room : ℕ) (s : State) (name : List ℕ) (at : Place) (asked : List ℕ) (e : PreErr) → room ≡ 0 → Names (Refused 3) at asked e → HasCause (NotIncluded C room s name at asked) e
too_deep C room s name at asked e r n = named_as (NotIncluded C room s name at asked) 3 at asked e n (inl (r, refl, refl))

-- why a file's bytes are not answered
pub not_answered : (told : List ℕ → Option (List ℕ)) (s : State) (name : List ℕ) (at : Place) (asked : List ℕ) (why : FileErr) (here : Place) (e : PreErr) → IsNotRead why at asked here name e
    → (why ≡ fault.Long → IfSome (told name) (λ text. 2 ^ 24 < length text)) → here ≡ start (length s.files) → HasCause (NotEntered (Possible told) s name at asked) e
not_answered told s name at asked fault.Failed here e h l p = subst (HasCause (NotEntered (Possible told) s name at asked)) (sym h) (refl, refl)
not_answered told s name at asked fault.Long here e h l p = named_as (NotEntered (Possible told) s name at asked) 4 here name e h (not_short told s name at asked (l refl) here p)
not_answered told s name at asked fault.Memory here e h l p = subst (HasCause (NotEntered (Possible told) s name at asked)) (sym h) tt

-- what was cut was read
pub entered_from : (C : Contents) (before after : State) (name text other : List ℕ) (tokens : List Lined) (end : Place) → C name text → length text ≤ most_bytes → other ≡ text
    → IsTakenIn before after name other tokens end → Enters C before after name tokens end
entered_from C before after name text other tokens end held short same h =
    let t = subst (λ i. IsTakenIn before after name i tokens end) same h in
    record { text = text; file = record { held = held; short = short; cut = t.cut }; counted = t.counted; ends = t.ends }
