-- What a place sees at the end.
use Rattle.std.proofs.Common.{◌≡◌, ℕ, zero, suc, List, [], ◌∷◌, ◌++◌, take, Option, Ok, ◌∙◌, subst, arith, inl, inr}
use Rattle.std.specs.List.{Contains}
use Rattle.sv_tree.specs.declared.design.Source.{Source}
use Rattle.sv_outside.specs.declared.text.Signal.{Signal}
use Rattle.sv_meaning.specs.Layouts.{Name, Entry, Layout, width, signal_is, of_wires, NamedSignal, DeclaredIn, Declared}
use Rattle.sv_tree.specs.declared.exprs.Expr.{Expr}
use Rattle.sv_tree.specs.declared.design.Way.{Way}
use Rattle.sv_hierarchy.specs.Scopes.{Level, Front, State, Standing, connecting, level_at, fronts_at, seen_along, live_along, live_at, scopes}
use Rattle.scope_laws.specs.Wires.{IsWire}
use Rattle.scope_laws.proofs.Good.{IsGood, AreGood, LevelIsGood, LevelsAreGood, none_good, both_good, front_good, TaskIsGood, WorksAreGood}
use Rattle.scope_laws.proofs.Keeping.{scopes_good}

level_good : (wires : List Signal) (all : List Level) (n : ℕ) → LevelsAreGood wires all → LevelIsGood wires (level_at all n)
unfolding LevelsAreGood level_at AreGood
level_good wires [] n h = record { nets = tt; consts = tt }
level_good wires (x ∷ more) zero h = h.0
level_good wires (x ∷ more) (suc n) h = level_good wires more n h.1

pub live_good : (wires : List Signal) (all : List Level) (fronts : List Front) → LevelsAreGood wires all → AreGood wires (live_along all fronts)
unfolding live_along
live_good wires all [] h = none_good wires
live_good wires all (f ∷ more) h =
    let g = level_good wires all f.level h in
    both_good wires ((level_at all f.level).nets ++ take f.consts (level_at all f.level).consts) (live_along all more)
    (both_good wires (level_at all f.level).nets (take f.consts (level_at all f.level).consts) g.nets (front_good wires f.consts (level_at all f.level).consts g.consts)) (live_good wires all more h)

pub seen_good : (wires : List Signal) (all : List Level) (fronts : List Front) → LevelsAreGood wires all → AreGood wires (seen_along all fronts)
unfolding seen_along
seen_good wires all [] h = none_good wires
seen_good wires all (f ∷ more) h =
    let x = level_at all f.level in
    let g = level_good wires all f.level h in
    both_good wires (take f.nets x.nets ++ take f.consts x.consts) (seen_along all more)
    (both_good wires (take f.nets x.nets) (take f.consts x.consts) (front_good wires f.nets x.nets g.nets) (front_good wires f.consts x.consts g.consts)) (seen_good wires all more h)

entry_good : (wires : List Signal) (all : List Entry) (e : Entry) → AreGood wires all → Contains all e → IsGood wires e.1
unfolding AreGood
entry_good wires [] e h (i, l, same) = absurd (omega arith)
entry_good wires (x ∷ more) e h (zero, l, same) = subst (λ (y : Entry). IsGood wires y.1) same h.0
entry_good wires (x ∷ more) e h (suc i, l, same) = entry_good wires more e h.1 (i, omega arith, same)

declared_good : (wires : List Signal) (all : List Entry) (s : NamedSignal) → AreGood wires all → DeclaredIn all s → IsWire wires s
declared_good wires all s h d =
    let g = entry_good wires all (d.name, signal_is s.owner s.number d.layout) h d.is_there in record { owner = g.0; there = g.1; width = g.2 ∙ d.wide }

pub seen_are_wires : (source : Source) (top : Option Name) (st : State) → scopes source top ≡ Ok st → (at : Front) (s : NamedSignal) → Declared (live_at st.levels at) s → IsWire st.wires s
seen_are_wires source top st h at s (inl d) =
    declared_good st.wires (live_at st.levels at).all s (live_good st.wires st.levels (fronts_at st.levels at) (scopes_good source top st h).0) d
seen_are_wires source top st h at s (inr d) =
    declared_good st.wires (live_at st.levels at).above s (seen_good st.wires st.levels (fronts_at st.levels at) (scopes_good source top st h).0) d

work_good : (wires : List Signal) (all : List Standing) (w : Standing) → WorksAreGood wires all → Contains all w → TaskIsGood wires w.task
unfolding WorksAreGood
work_good wires [] w h (i, l, same) = absurd (omega arith)
work_good wires (x ∷ more) w h (zero, l, same) = subst (λ (y : Standing). TaskIsGood wires y.task) same h.0
work_good wires (x ∷ more) w h (suc i, l, same) = work_good wires more w h.1 (i, omega arith, same)

pub ports_are_wires : (source : Source) (top : Option Name) (st : State) → scopes source top ≡ Ok st → (at : Front) (d : Way) (n : ℕ) (x : Layout) (actual : Expr) → Contains st.works (record { at = at; task = connecting d n x actual })
    → IsWire st.wires (record { owner = of_wires; number = n; width = width x })
ports_are_wires source top st h at d n x actual i =
    let g = work_good st.wires st.works (record { at = at; task = connecting d n x actual }) (scopes_good source top st h).1 i in record { owner = g.0; there = g.1; width = g.2 }
