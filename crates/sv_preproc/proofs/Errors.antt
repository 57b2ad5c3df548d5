-- Errors that are handed on.
use Rattle.std.proofs.Common.{◌≡◌, ◌≤◌, ℕ, List, refl, sym, subst, arith, Result, Ok, Err}
use Rattle.sv_outside.specs.Outside.{counted, is_failed}
use Rattle.sv_outside.specs.declared.outside.FileErr.{FileErr}
use Rattle.sv_outside.specs.declared.outside.FileErr.TheVariants as fault
use Rattle.sv_outside.specs.declared.refusal.Place.{Place}
use Rattle.std.specs.Result.{IsErrAnd, IfErr}
use Rattle.sv_preproc.specs.declared.error.ItemErr.{ItemErr}
use Rattle.sv_preproc.specs.declared.error.ItemErr.TheVariants.{Refused, OutOfMemory}
use Rattle.sv_preproc.specs.declared.error.PreErr.{PreErr}
use Rattle.sv_preproc.specs.declared.error.PreErr.TheVariants.{No, Read, Memory}
use Rattle.sv_token.specs.Cut.{refused}
use Rattle.sv_preproc.specs.Directives.{State}
use Rattle.sv_preproc.specs.Reached.{Point, Stop, no, unread}
use Rattle.sv_preproc.specs.Seen.{IfRefused, HasCause, IsFaultyIn, IsNotRead, Names, NotCut, uncut, many, is_read_fault}

-- what `?` returns is the error that came
pub handed_on : {T E : Type 0} (r : Result T E) (e : E) (P : E → Type 0) → IsErrAnd r (λ y. y ≡ e) → P e → IfErr r P
handed_on (Ok v) e P h p = tt
handed_on (Err y) e P h p = subst P (sym h) p

pub refused_as : (A B : ℕ → Type 0) (e : ItemErr) → ((number : ℕ) → A number → B number) → IfRefused A e → IfRefused B e
refused_as A B (Refused number) f h = f number h
refused_as A B OutOfMemory f h = h

pub caused_as : (A B : Stop → List ℕ → Type 0) (e : PreErr) → ((stop : Stop) (file : List ℕ) → A stop file → B stop file) → HasCause A e → HasCause B e
caused_as A B (No refusal file) f h = f (no refusal) file h
caused_as A B (Read place file) f h = f (unread place) file h
caused_as A B Memory f h = h

-- a cause in each of many ways
pub for_each : (Why : ℕ → Place → Stop → List ℕ → Type 0) (e : PreErr) → ((room : ℕ) (end : Place) → HasCause (Why room end) e) → HasCause (λ stop at. (room : ℕ) (end : Place) → Why room end stop at) e
for_each Why (No refusal file) h = h
for_each Why (Read place file) h = h
for_each Why Memory h = tt

-- ---- the count of failed reads

-- a refusal by a number is no read fault
pub named_counts : (e : ItemErr) (place : Place) (file : List ℕ) (p : PreErr) (before now : ℕ) → Names e place file p → now ≡ before → now ≡ counted (is_read_fault p) before
named_counts e place file (No refusal at) before now n k = k
named_counts (Refused number) place file (Read other at) before now n k = absurd n
named_counts OutOfMemory place file (Read other at) before now n k = absurd n
named_counts e place file Memory before now n k = k

-- nor is an item that can not be read
pub faulty_counts : (p : Point) (file : List ℕ) (e : PreErr) (before now : ℕ) → HasCause (λ stop at. (room : ℕ) (end : Place) → IsFaultyIn room end p file stop at) e → now ≡ before
    → now ≡ counted (is_read_fault e) before
faulty_counts p file (No refusal at) before now c k = k
faulty_counts p file (Read place at) before now c k = absurd (c 0 place)
faulty_counts p file Memory before now c k = k

not_cut_unread : {s : State} {name text at : List ℕ} {stop : Stop} → NotCut s name text stop at → (place : Place) → stop ≡ unread place → ⊥
not_cut_unread (uncut {refusal = refusal} r) place e = let bad : no refusal ≡ unread place = e in cc
not_cut_unread (many before a after l k) place e = let bad : no (refused 4 a.token.place) ≡ unread place = e in cc

-- nor is a text that is not cut
pub cut_counts : (s : State) (name text : List ℕ) (e : PreErr) (before now : ℕ) → HasCause (NotCut s name text) e → now ≡ before → now ≡ counted (is_read_fault e) before
cut_counts s name text (No refusal at) before now c k = k
cut_counts s name text (Read place at) before now c k = absurd (not_cut_unread c place refl)
cut_counts s name text Memory before now c k = k

-- the count after a read
pub read_counts : {A : Type 0} (answer : Result A FileErr) (why : FileErr) (at : Place) (asked : List ℕ) (start : Place) (name : List ℕ) (e : PreErr) (before now : ℕ)
    → answer ≡ Err why → IsNotRead why at asked start name e → now ≡ counted (is_failed answer) before → now ≡ counted (is_read_fault e) before
read_counts {A} answer why at asked start name e before now is n k = by why n (subst (λ r. now ≡ counted (is_failed r) before) is k)
  where
    by : (why : FileErr) → IsNotRead why at asked start name e → now ≡ counted (is_failed {A = A} (Err why)) before → now ≡ counted (is_read_fault e) before
    by fault.Failed h k = subst (λ i. now ≡ counted (is_read_fault i) before) (sym h) k
    by fault.Long h k = named_counts (Refused 4) start name e before now h k
    by fault.Memory h k = subst (λ i. now ≡ counted (is_read_fault i) before) (sym h) k

pub not_down : (before now : ℕ) → now ≡ before → before ≤ now
not_down before now e = omega (arith, e)

-- where nothing failed before, the count is that of the last call
pub counts_on : (e : PreErr) (first before now : ℕ) → before ≡ first → now ≡ counted (is_read_fault e) before → now ≡ counted (is_read_fault e) first
counts_on e first before now b k = subst (λ n. now ≡ counted (is_read_fault e) n) b k
