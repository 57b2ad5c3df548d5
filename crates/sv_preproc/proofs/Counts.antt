-- What is counted does not fall.
use Rattle.std.proofs.Common.{◌≡◌, ℕ, zero, suc, ◌+◌, ◌≤◌, List, [], ◌∷◌, Bool, true, ap, arith, length, Some, None}
use Rattle.std.specs.Prelude.{◌&&◌, ◌||◌, not}
use Rattle.sv_outside.specs.declared.text.Token.{Token}
use Rattle.sv_token.specs.declared.lexer.Lined.{Lined}
use Rattle.sv_preproc.specs.declared.role.Role.{Role}
use Rattle.sv_preproc.specs.declared.role.Role.TheVariants as role
use Rattle.sv_preproc.specs.Roles.{role_of}
use Rattle.sv_preproc.specs.Directives as spec
use Rattle.sv_preproc.specs.Directives.{Item, item, State, Part, branch, choice, Contents, Relation, Turn, Choose, Elsif, Level, Stands, Holds, IsFile, Expands, Macros, has, is_taken, name_of, with_definition, with_count, entered, deepest_use, most_counted}

abbrev Rises : Relation → Type 0
Rises G = (room : ℕ) (part : Part) (s : State) (from : List Lined) (o : List Token) (z : State) (t : List Lined) → G room part s from o z t → s.counted ≤ z.counted

same_count : (s z : State) → z ≡ s → s.counted ≤ z.counted
same_count s z e = omega (arith, ap (λ i. i.counted) e)

turn_rises : (C : Contents) (G : Relation) → Rises G → (i : Item) (room : ℕ) (live : Bool) (s : State) (from : List Lined) (o : List Token) (z : State) (t : List Lined) → Turn C G room live s i from o z t → s.counted ≤ z.counted
turn_rises C G w spec.ended room live s from o z t h = same_count s z h.1
turn_rises C G w (spec.kept a rest) room live s from o z t h = w room (branch live) s rest h.0 z t h.2
turn_rises C G w (spec.passed rest) room live s from o z t h = w room (branch live) s rest o z t h
turn_rises C G w (spec.used a rest) room live s from o z t h = let k : s.counted + h.3 ≤ z.counted = w room (branch live) (with_count s h.3) rest h.2 z t h.7 in omega (arith, k)
turn_rises C G w (spec.defined name text rest) room live s from o z t h = w room (branch live) (with_definition s name (Some text)) rest o z t h
turn_rises C G w (spec.forgotten name rest) room live s from o z t h = w room (branch live) (with_definition s name None) rest o z t h
turn_rises C G w (spec.included a name rest) room live s from o z t h =
    let k : s.counted + length h.2 ≤ h.5.counted = w h.0 (branch true) (entered s name h.2) h.2 h.3 h.5 [] h.8 in
    let l = w room (branch live) h.5 rest h.4 z t h.10 in omega (arith, k, l)
turn_rises C G w (spec.opened wanted name rest) room live s from o z t h =
    let a = w room (branch (live && is_taken wanted name s.macros)) s rest h.0 h.3 h.5 h.7 in
    let b = w room (choice live (is_taken wanted name s.macros)) h.3 h.5 h.1 h.4 h.6 h.8 in
    let c = w room (branch live) h.4 h.6 h.2 z t h.10 in omega (arith, a, b, c)
turn_rises C G w (spec.broken number place) room live s from o z t h = absurd h

choose_rises : (G : Relation) → Rises G → (r : Role) (room : ℕ) (live taken : Bool) (s : State) (ts : List Lined) (o : List Token) (z : State) (t : List Lined) → Choose G r room live taken s ts o z t → s.counted ≤ z.counted
choose_rises G w role.Endif room live taken s ts o z t h = same_count s z h.1
choose_rises G w role.Else room live taken s ts o z t h = w room (branch (live && not taken)) s ts o z (h.0 ∷ t) h.2
choose_rises G w role.Elsif room live taken s [] o z t h = absurd h
choose_rises G w role.Elsif room live taken s (name ∷ ts) o z t h =
    let a = w room (branch (live && not taken && has name.token.text s.macros)) s ts h.0 h.2 h.3 h.5 in
    let b = w room (choice live (taken || has name.token.text s.macros)) h.2 h.3 h.1 z t h.6 in omega (arith, a, b)
choose_rises G w role.Kept room live taken s ts o z t h = absurd h
choose_rises G w role.Continued room live taken s ts o z t h = absurd h
choose_rises G w role.Used room live taken s ts o z t h = absurd h
choose_rises G w role.Define room live taken s ts o z t h = absurd h
choose_rises G w role.Undef room live taken s ts o z t h = absurd h
choose_rises G w role.Ifdef room live taken s ts o z t h = absurd h
choose_rises G w role.Ifndef room live taken s ts o z t h = absurd h
choose_rises G w role.Include room live taken s ts o z t h = absurd h
choose_rises G w role.Line room live taken s ts o z t h = absurd h

level_rises : (C : Contents) (G : Relation) → Rises G → Rises (Level C G)
level_rises C G w room (branch live) s from o z t h = turn_rises C G w (item live from) room live s from o z t h
level_rises C G w room (choice live taken) s [] o z t h = absurd h
level_rises C G w room (choice live taken) s (a ∷ ts) o z t h = choose_rises G w (role_of a.token) room live taken s ts o z t h

stands_rise : (C : Contents) (m : ℕ) → Rises (Stands C m)
unfolding Stands
stands_rise C zero room part s from o z t h = absurd h
stands_rise C (suc m) room part s from o z t h = level_rises C (Stands C m) (stands_rise C m) room part s from o z t h

pub holds_rise : (C : Contents) → Rises (Holds C)
holds_rise C room part s from o z t h = stands_rise C h.0 room part s from o z t h.1
