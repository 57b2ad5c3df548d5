-- One item more is read.
use Rattle.std.proofs.Common.{◌≡◌, ℕ, suc, ◌≤◌, ◌<◌, ◌-◌, List, [], ◌∷◌, ◌++◌, Bool, true, refl, sym, ◌∙◌, ap, subst, arith, length, reverse, Option, Some, None, inl, inr}
use Rattle.std.specs.Prelude.{◌&&◌, IfSome}
use mathlib.Core.Path.{fun_ext}
use Rattle.std.proofs.lemmas.List.{reverse-reverse}
use Rattle.sv_outside.specs.declared.text.Token.{Token}
use Rattle.sv_outside.specs.declared.refusal.Place.{Place}
use Rattle.sv_token.specs.declared.lexer.Lined.{Lined}
use Rattle.sv_preproc.specs.declared.known.Frame.{Frame}
use Rattle.sv_preproc.specs.declared.error.ItemErr.{ItemErr}
use Rattle.sv_preproc.specs.declared.error.ItemErr.TheVariants.{Refused}
use Rattle.sv_preproc.specs.declared.error.PreErr.{PreErr}
use Rattle.sv_preproc.specs.Directives as spec
use Rattle.sv_preproc.specs.Directives.{Item, item, State, Macros, Contents, Holds, branch, is_taken, with_definition, entered, IsFile}
use Rattle.sv_preproc.specs.Laws.{Possible}
use Rattle.sv_preproc.specs.Reached as reached
use Rattle.sv_preproc.specs.Reached.{Point, begun, first_branch, Ends, endif, last_branch, one_more, Turns, Passes, Reaches, onwards, IsFaulty, IsMisplaced, Stops, Stop, no, unread, IsUnfit}
use Rattle.sv_preproc.specs.Seen.{Uses, CanNotUse, Enters, Reads, Names, NotEntered, NotIncluded, IsFaultyIn, HasCause, IfRefused, point}
use Rattle.sv_preproc.proofs.Grows.{holds_as}
use Rattle.sv_preproc.proofs.Entering.{named, named_as}
use Rattle.sv_preproc.proofs.Errors.{caused_as}

abbrev pub state_of : Macros → List (List ℕ) → ℕ → State
state_of macros files counted = record { macros = macros; files = files; counted = counted }

-- ---- one item

over : (C : Contents) (room : ℕ) (p q : Point) (i : Item) → item p.live p.rest ≡ i → Passes C room i p q → Passes C room (item p.live p.rest) p q
over C room p q i e s = subst (λ j. Passes C room j p q) (sym e) s

pub one_kept : (C : Contents) (room : ℕ) (live : Bool) (frames : List Frame) (s : State) (old new : List Token) (from rest : List Lined) (a : Token)
    → item live from ≡ spec.kept a rest → new ≡ old ++ a ∷ [] → Passes C room (item live from) (point live frames s old from) (point live frames s new rest)
one_kept C room live frames s old new from rest a e w = over C room (point live frames s old from) (point live frames s new rest) (spec.kept a rest) e (ap (λ i. point live frames s i rest) w)

pub one_passed : (C : Contents) (room : ℕ) (live : Bool) (frames : List Frame) (s : State) (old : List Token) (from rest : List Lined)
    → item live from ≡ spec.passed rest → Passes C room (item live from) (point live frames s old from) (point live frames s old rest)
one_passed C room live frames s old from rest e = over C room (point live frames s old from) (point live frames s old rest) (spec.passed rest) e refl

pub one_used : (C : Contents) (room : ℕ) (live : Bool) (frames : List Frame) (macros : Macros) (files : List (List ℕ)) (counted total : ℕ) (old new : List Token) (from rest : List Lined) (a : Token)
    → item live from ≡ spec.used a rest → Uses macros a old new counted total
    → Passes C room (item live from) (point live frames (state_of macros files counted) old from) (point live frames (state_of macros files total) new rest)
one_used C room live frames macros files counted total old new from rest a e u =
    let w = u.2 in
    over C room (point live frames (state_of macros files counted) old from) (point live frames (state_of macros files total) new rest) (spec.used a rest) e
    (u.0, w.0, w.1, u.1, w.2, ap (λ i. point live frames (state_of macros files total) i rest) w.3 ∙ ap (λ (n : ℕ). point live frames (state_of macros files n) (old ++ w.0) rest) w.4)

pub one_defined : (C : Contents) (room : ℕ) (live : Bool) (frames : List Frame) (s now : State) (old : List Token) (from rest after : List Lined) (name : List ℕ) (text : List Token)
    → item live from ≡ spec.defined name text rest → now ≡ with_definition s name (Some text) → after ≡ rest
    → Passes C room (item live from) (point live frames s old from) (point live frames now old after)
one_defined C room live frames s now old from rest after name text e d r =
    over C room (point live frames s old from) (point live frames now old after) (spec.defined name text rest) e
    (ap (λ i. point live frames i old after) d ∙ ap (λ i. point live frames (with_definition s name (Some text)) old i) r)

pub one_forgotten : (C : Contents) (room : ℕ) (live : Bool) (frames : List Frame) (s now : State) (old : List Token) (from rest : List Lined) (name : List ℕ)
    → item live from ≡ spec.forgotten name rest → now ≡ with_definition s name None
    → Passes C room (item live from) (point live frames s old from) (point live frames now old rest)
one_forgotten C room live frames s now old from rest name e d =
    over C room (point live frames s old from) (point live frames now old rest) (spec.forgotten name rest) e (ap (λ i. point live frames i old rest) d)

pub one_opened : (C : Contents) (room : ℕ) (live inside : Bool) (frames later : List Frame) (s : State) (old : List Token) (from rest : List Lined) (wanted : Bool) (name : List ℕ)
    → item live from ≡ spec.opened wanted name rest → inside ≡ (live && is_taken wanted name s.macros)
    → later ≡ first_branch live (is_taken wanted name s.macros) ∷ frames → Passes C room (item live from) (point live frames s old from) (point inside later s old rest)
one_opened C room live inside frames later s old from rest wanted name e i l =
    over C room (point live frames s old from) (point inside later s old rest) (spec.opened wanted name rest) e
    (ap (λ v. point v later s old rest) i ∙ ap (λ fs. point (live && is_taken wanted name s.macros) fs s old rest) l)

pub one_ended : (C : Contents) (room : ℕ) (live inside : Bool) (frames later : List Frame) (s : State) (old : List Token) (a : Lined) (ts rest : List Lined)
    → item live (a ∷ ts) ≡ spec.ended → Turns s.macros frames a ts inside later rest
    → Passes C room (item live (a ∷ ts)) (point live frames s old (a ∷ ts)) (point inside later s old rest)
one_ended C room live inside frames later s old a ts rest e t =
    over C room (point live frames s old (a ∷ ts)) (point inside later s old rest) spec.ended e (a, ts, inside, later, rest, refl, t, refl)

-- ---- one step of the loop

-- the next place, where an item was read
pub stepped_on : (C : Contents) (room : ℕ) (first : Point) (live inside : Bool) (frames later : List Frame) (s now : State) (old new : List Token) (from rest : List Lined) (a : Lined) (ts : List Lined)
    → from ≡ a ∷ ts → Reaches C room first (point live frames s old from)
    → Passes C room (item live (a ∷ ts)) (point live frames s old (a ∷ ts)) (point inside later now new rest) → Reaches C room first (point inside later now new rest)
stepped_on C room first live inside frames later s now old new from rest a ts e h p = onwards (subst (λ i. Reaches C room first (point live frames s old i)) e h) p

-- nothing has changed before a file is included
pub stood_still : (C : Contents) (room : ℕ) (first : Point) (live : Bool) (frames later : List Frame) (s now : State) (old new : List Token) (from : List Lined) (a : Lined) (ts : List Lined)
    → from ≡ a ∷ ts → Reaches C room first (point live frames s old from) → point live later now new (a ∷ ts) ≡ point live frames s old (a ∷ ts)
    → Reaches C room first (point live later now new (a ∷ ts))
stood_still C room first live frames later s now old new from a ts e h p = subst (λ i. Reaches C room first i) (sym p) (subst (λ i. Reaches C room first (point live frames s old i)) e h)

-- what is told stays told
abbrev pub IsToldAs : (List ℕ → Option (List ℕ)) → (List ℕ → Option (List ℕ)) → Type 0
IsToldAs now started = (name : List ℕ) → now name ≡ started name

pub possible_as : (now started : List ℕ → Option (List ℕ)) → IsToldAs now started → (name text : List ℕ) → Possible now name text → Possible started name text
possible_as now started e name text h = subst (λ o. IfSome o (λ own. text ≡ own)) (e name) h

pub file_as : (now started : List ℕ → Option (List ℕ)) → IsToldAs now started → (number : ℕ) (name text : List ℕ) (tokens : List Lined) → IsFile (Possible now) number name text tokens
    → IsFile (Possible started) number name text tokens
file_as now started e number name text tokens h = record { held = possible_as now started e name text h.held; short = h.short; cut = h.cut }

pub one_included : (told now started : List ℕ → Option (List ℕ)) (room less : ℕ) (first : Point) (live : Bool) (frames : List Frame) (s one middle : State) (old new : List Token) (from rest inner lines : List Lined)
    (a : Token) (name file : List ℕ) (end : Place)
    → Reaches (Possible started) room first (point live frames s old from) → item live from ≡ spec.included a name rest → file ≡ name → room ≡ suc less
    → IsToldAs told started → IsToldAs now started → Enters (Possible told) s one file inner end → lines ≡ inner → Reads (Possible now) less one lines old new middle
    → Reaches (Possible started) room first (point live frames middle new rest)
one_included told now started room less first live frames s one middle old new from rest inner lines a name file end h e f r t n k l w =
    let held : IsFile (Possible started) (length s.files) name k.text inner = subst (λ i. IsFile (Possible started) (length s.files) i k.text inner) f (file_as told started t (length s.files) file k.text inner k.file) in
    let begins : one ≡ entered s name inner = k.counted ∙ ap (λ i. entered s i inner) f in
    let stands : Holds (Possible started) less (branch true) (entered s name inner) inner w.0 middle [] = subst (λ i. Holds (Possible started) less (branch true) i inner w.0 middle []) begins
    (subst (λ i. Holds (Possible started) less (branch true) one i w.0 middle []) l (holds_as (Possible now) (Possible started) (possible_as now started n) less (branch true) one lines w.0 middle [] w.1)) in
    onwards h (over (Possible started) room (point live frames s old from) (point live frames middle new rest) (spec.included a name rest) e
    (less, k.text, inner, w.0, middle, r, held, stands, ap (λ i. point live frames middle i rest) w.2))

-- ---- why an item can not be read

module _ (room : ℕ) (end : Place) (p : Point) (file : List ℕ) where
  abbrev pub Faulty : Stop → List ℕ → Type 0
  Faulty = IsFaultyIn room end p file

  pub item_faulty : (number : ℕ) (place : Place) (result : PreErr) → IsFaulty room end p number place → Names (Refused number) place file result → HasCause Faulty result
  item_faulty number place result f n = named_as Faulty number place file result n (number, place, f, refl, refl)

  unused : (a : Token) (rest : List Lined) (number : ℕ) → item p.live p.rest ≡ spec.used a rest → CanNotUse p.state.macros a p.state.counted number → IsFaulty room end p number a.place
  unused a rest number e (inl x) = subst (λ n. IsFaulty room end p n a.place) (sym x.1) (reached.unknown e x.0)
  unused a rest number e (inr x) = reached.overrun e x.1 x.2

  pub use_faulty : (a : Token) (rest : List Lined) (error : ItemErr) (result : PreErr) → item p.live p.rest ≡ spec.used a rest → IfRefused (CanNotUse p.state.macros a p.state.counted) error
      → Names error a.place file result → HasCause Faulty result
  use_faulty a rest error result e r n = named Faulty error a.place file result n
      (λ number k. (number, a.place, unused a rest number e (subst (IfRefused (CanNotUse p.state.macros a p.state.counted)) k r), refl, refl))

  pub turn_faulty : (a : Lined) (ts : List Lined) (error : ItemErr) (result : PreErr) → p.rest ≡ a ∷ ts → item p.live p.rest ≡ spec.ended → IfRefused (IsMisplaced p.frames a ts) error
      → Names error a.token.place file result → HasCause Faulty result
  turn_faulty a ts error result w e r n = named Faulty error a.token.place file result n
      (λ number k. (number, a.token.place, reached.misplaced w e (subst (IfRefused (IsMisplaced p.frames a ts)) k r), refl, refl))

-- ---- why reading stops

module _ (C : Contents) (room : ℕ) (s : State) (old : List Token) (tokens : List Lined) (end : Place) (file : List ℕ) (p : Point) (h : Reaches C room (begun s old tokens) p) where
  abbrev pub Why : Stop → List ℕ → Type 0
  Why = Stops C room s tokens end file

  step_faulty : (stop : Stop) (at : List ℕ) → IsFaultyIn room end p file stop at → Why stop at
  step_faulty (no refusal) at x = subst (λ i. Why (no refusal) i) (sym x.4) (subst (λ i. Why (no i) file) (sym x.3) (reached.faulty h x.2))
  step_faulty (unread place) at x = absurd x

  pub faulty_stops : (error : PreErr) → HasCause (λ stop at. (r : ℕ) (e : Place) → IsFaultyIn r e p file stop at) error → HasCause Why error
  faulty_stops error c = caused_as (λ stop at. (r : ℕ) (e : Place) → IsFaultyIn r e p file stop at) Why error (λ stop at x. step_faulty stop at (x room end)) c

  pub end_stops : (result : PreErr) → p.rest ≡ [] → ((frame : Frame) × (round : List Frame) × (p.frames ≡ frame ∷ round)) → Names (Refused 5) end file result → HasCause Why result
  end_stops result r f n = named_as Why 5 end file result n (reached.faulty h (reached.unclosed r f.2))

  step_unentered : (less : ℕ) (a : Token) (rest : List Lined) (name : List ℕ) → item p.live p.rest ≡ spec.included a name rest → room ≡ suc less
      → (stop : Stop) (at : List ℕ) → NotEntered C p.state name a.place file stop at → Why stop at
  step_unentered less a rest name e r (no refusal) at x = subst (λ i. Why (no refusal) i) (sym x.1) (reached.unfit h e r x.0)
  step_unentered less a rest name e r (unread place) at x = subst (λ i. Why (unread i) at) (sym x.0) (subst (λ i. Why (unread a.place) i) (sym x.1) (reached.missing h e r))

  step_unincluded : (a : Token) (rest : List Lined) (name : List ℕ) → item p.live p.rest ≡ spec.included a name rest
      → (stop : Stop) (at : List ℕ) → NotIncluded C room p.state name a.place file stop at → Why stop at
  step_unincluded a rest name e stop at (inl x) = subst (λ i. Why stop i) (sym x.2) (subst (λ i. Why i file) (sym x.1) (reached.faulty h (reached.deep e x.0)))
  step_unincluded a rest name e stop at (inr x) = step_unentered (room - 1) a rest name e (omega (arith, x.0)) stop at x.1

  pub include_stops : (a : Token) (rest : List Lined) (name : List ℕ) (error : PreErr) → item p.live p.rest ≡ spec.included a name rest
      → HasCause (NotIncluded C room p.state name a.place file) error → HasCause Why error
  include_stops a rest name error e c = caused_as (NotIncluded C room p.state name a.place file) Why error (step_unincluded a rest name e) c

  pub inner_stops : (less : ℕ) (one : State) (a : Token) (rest inner : List Lined) (name : List ℕ) (back : Place) (error : PreErr) → item p.live p.rest ≡ spec.included a name rest → room ≡ suc less
      → Enters C p.state one name inner back → HasCause (Stops C less one inner back name) error → HasCause Why error
  inner_stops less one a rest inner name back error e r k c = caused_as (Stops C less one inner back name) Why error
      (λ stop at x. reached.deeper h e r k.file (subst (λ i. Stops C less (entered p.state name inner) inner i name stop at) k.ends (subst (λ i. Stops C less i inner back name stop at) k.counted x))) c

-- what is told before and now
pub told_as : (told now : List ℕ → Option (List ℕ)) → IsToldAs told now → told ≡ now
told_as told now e = fun_ext e

pub some_open : (frames : List Frame) → 0 < length frames → (frame : Frame) × (round : List Frame) × (reverse frames ≡ frame ∷ round)
some_open frames n = by (reverse frames) refl
  where
    by : (r : List Frame) → reverse frames ≡ r → (frame : Frame) × (round : List Frame) × (reverse frames ≡ frame ∷ round)
    by [] e = let none : frames ≡ [] = sym (reverse-reverse frames) ∙ ap reverse e in absurd (omega (arith, n, ap length none))
    by (f ∷ fs) e = (f, fs, e)

ends_short : (macros : Macros) (frame : Frame) (round : List Frame) (a : Lined) (ts : List Lined) (live : Bool) (frames : List Frame) (rest : List Lined) → Ends macros frame round a ts live frames rest → length rest ≤ length ts
ends_short macros frame round a ts live frames rest (endif r) = omega arith
ends_short macros frame round a ts live frames rest (last_branch r l) = omega arith
ends_short macros frame round a ts live frames rest (one_more {name = name} r l e w) = omega (arith, ap length e)

pub turn_short : (macros : Macros) (frames : List Frame) (a : Lined) (ts : List Lined) (live : Bool) (later : List Frame) (rest : List Lined) → Turns macros frames a ts live later rest → length rest ≤ length ts
turn_short macros frames a ts live later rest t = ends_short macros t.0 t.1 a ts live later rest t.3
