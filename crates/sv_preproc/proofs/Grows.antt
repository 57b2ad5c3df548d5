-- What is shown in some levels is shown in more.
use Rattle.std.proofs.Common.{ℕ, zero, suc, ◌≤◌, List, [], ◌∷◌, Bool, true, arith, length}
use Rattle.sv_outside.specs.declared.text.Token.{Token}
use Rattle.sv_token.specs.declared.lexer.Lined.{Lined}
use Rattle.sv_preproc.specs.declared.role.Role.{Role}
use Rattle.sv_preproc.specs.declared.role.Role.TheVariants as role
use Rattle.sv_preproc.specs.Roles.{role_of}
use Rattle.sv_preproc.specs.Directives as spec
use Rattle.sv_preproc.specs.Directives.{Item, State, Part, branch, choice, Contents, Relation, Turn, Choose, Elsif, Level, Stands, Holds, IsFile}

abbrev Within : Relation → Relation → Type 0
Within G H = (room : ℕ) (part : Part) (s : State) (from : List Lined) (o : List Token) (after : State) (t : List Lined) → G room part s from o after t → H room part s from o after t

file_as : (C D : Contents) → ((name text : List ℕ) → C name text → D name text) → (number : ℕ) (name text : List ℕ) (tokens : List Lined) → IsFile C number name text tokens → IsFile D number name text tokens
file_as C D k number name text tokens h = record { held = k name text h.held; short = h.short; cut = h.cut }

turn_grows : (C D : Contents) (G H : Relation) → ((name text : List ℕ) → C name text → D name text) → Within G H → (i : Item) (room : ℕ) (live : Bool) (s : State) (from : List Lined) (o : List Token) (z : State) (t : List Lined)
    → Turn C G room live s i from o z t → Turn D H room live s i from o z t
turn_grows C D G H k w spec.ended room live s from o z t h = h
turn_grows C D G H k w (spec.kept a rest) room live s from o z t h = (h.0, h.1, w room (branch live) s rest h.0 z t h.2)
turn_grows C D G H k w (spec.passed rest) room live s from o z t h = w room (branch live) s rest o z t h
turn_grows C D G H k w (spec.used a rest) room live s from o z t h = (h.0, h.1, h.2, h.3, h.4, h.5, h.6, w room (branch live) _ rest h.2 z t h.7)
turn_grows C D G H k w (spec.defined name text rest) room live s from o z t h = w room (branch live) _ rest o z t h
turn_grows C D G H k w (spec.forgotten name rest) room live s from o z t h = w room (branch live) _ rest o z t h
turn_grows C D G H k w (spec.included a name rest) room live s from o z t h =
    (h.0, h.1, h.2, h.3, h.4, h.5, h.6, file_as C D k (length s.files) name h.1 h.2 h.7, w h.0 (branch true) _ h.2 h.3 h.5 [] h.8, h.9, w room (branch live) h.5 rest h.4 z t h.10)
turn_grows C D G H k w (spec.opened wanted name rest) room live s from o z t h =
    (h.0, h.1, h.2, h.3, h.4, h.5, h.6, w room _ s rest h.0 h.3 h.5 h.7, w room _ h.3 h.5 h.1 h.4 h.6 h.8, h.9, w room (branch live) h.4 h.6 h.2 z t h.10)
turn_grows C D G H k w (spec.broken number place) room live s from o z t h = absurd h

elsif_grows : (G H : Relation) → Within G H → (room : ℕ) (live taken : Bool) (s : State) (ts : List Lined) (o : List Token) (z : State) (t : List Lined)
    → Elsif G room live taken s ts o z t → Elsif H room live taken s ts o z t
elsif_grows G H w room live taken s [] o z t h = absurd h
elsif_grows G H w room live taken s (name ∷ ts) o z t h = (h.0, h.1, h.2, h.3, h.4, w room _ s ts h.0 h.2 h.3 h.5, w room _ h.2 h.3 h.1 z t h.6, h.7)

choose_grows : (G H : Relation) → Within G H → (r : Role) (room : ℕ) (live taken : Bool) (s : State) (ts : List Lined) (o : List Token) (z : State) (t : List Lined)
    → Choose G r room live taken s ts o z t → Choose H r room live taken s ts o z t
choose_grows G H w role.Endif room live taken s ts o z t h = h
choose_grows G H w role.Else room live taken s ts o z t h = (h.0, h.1, w room _ s ts o z (h.0 ∷ t) h.2)
choose_grows G H w role.Elsif room live taken s ts o z t h = elsif_grows G H w room live taken s ts o z t h
choose_grows G H w role.Kept room live taken s ts o z t h = absurd h
choose_grows G H w role.Continued room live taken s ts o z t h = absurd h
choose_grows G H w role.Used room live taken s ts o z t h = absurd h
choose_grows G H w role.Define room live taken s ts o z t h = absurd h
choose_grows G H w role.Undef room live taken s ts o z t h = absurd h
choose_grows G H w role.Ifdef room live taken s ts o z t h = absurd h
choose_grows G H w role.Ifndef room live taken s ts o z t h = absurd h
choose_grows G H w role.Include room live taken s ts o z t h = absurd h
choose_grows G H w role.Line room live taken s ts o z t h = absurd h

level_grows : (C D : Contents) (G H : Relation) → ((name text : List ℕ) → C name text → D name text) → Within G H → Within (Level C G) (Level D H)
level_grows C D G H k w room (branch live) s from o z t h = turn_grows C D G H k w (spec.item live from) room live s from o z t h
level_grows C D G H k w room (choice live taken) s [] o z t h = absurd h
level_grows C D G H k w room (choice live taken) s (a ∷ ts) o z t h = choose_grows G H w (role_of a.token) room live taken s ts o z t h

pub stands_grow : (C : Contents) (m n : ℕ) → m ≤ n → Within (Stands C m) (Stands C n)
unfolding Stands
stands_grow C zero n le room part s from o z t h = absurd h
stands_grow C (suc m) zero le room part s from o z t h = absurd (omega (arith, le))
stands_grow C (suc m) (suc n) le room part s from o z t h = level_grows C C (Stands C m) (Stands C n) (λ name text h. h) (stands_grow C m n (omega (arith, le))) room part s from o z t h

pub one_level : (C : Contents) (n room : ℕ) (part : Part) (s : State) (from : List Lined) (o : List Token) (z : State) (t : List Lined) → Level C (Stands C n) room part s from o z t → Stands C (suc n) room part s from o z t
unfolding Stands
one_level C n room part s from o z t h = h

pub stands_as : (C D : Contents) (n : ℕ) → ((name text : List ℕ) → C name text → D name text) → Within (Stands C n) (Stands D n)
unfolding Stands
stands_as C D zero k room part s from o z t h = absurd h
stands_as C D (suc n) k room part s from o z t h = level_grows C D (Stands C n) (Stands D n) k (stands_as C D n k) room part s from o z t h

pub holds_as : (C D : Contents) → ((name text : List ℕ) → C name text → D name text) → Within (Holds C) (Holds D)
holds_as C D k room part s from o z t h = (h.0, stands_as C D h.0 k room part s from o z t h.1)
