-- Scopes in which each signal is a wire.
use Rattle.std.proofs.Common.{◌≡◌, ℕ, zero, suc, ◌<◌, List, [], ◌∷◌, ◌++◌, length, take, get_or, refl, ap, ◌∙◌, arith, length-append}
use Rattle.std.proofs.lemmas.List.{map-append, length-map, get_or_append_left, get_or_push}
use Rattle.sv_outside.specs.declared.text.Signal.{Signal}
use Rattle.sv_meaning.specs.Layouts.{Entry, Layout, width, What, number_is, type_is, signal_is, genvar_is, of_wires}
use Rattle.sv_tree.specs.declared.exprs.Expr.{Expr}
use Rattle.sv_hierarchy.specs.Scopes.{Level, Front, with_level, Task, assigning, running, connecting, Standing, OpenPort, port_named, connected, port_works}
use Rattle.sv_meaning.specs.Params.{Connection}
use Rattle.std.proofs.Common.{Option, Some, None, Bool, true, false, cond}
use Rattle.std.specs.Prelude.{bytes_eq}
use Rattle.sv_meaning.specs.Layouts.{Name}
use Rattle.scope_laws.specs.Wires.{widths}

-- it is no signal, or a wire of the width of its layout
abbrev pub IsGood : List Signal → What → Type 0
IsGood wires (number_is v s) = Unit {0}
IsGood wires (type_is x) = Unit {0}
IsGood wires (signal_is o n x) = (o ≡ of_wires) × (n < length wires) × (get_or (widths wires) n 0 ≡ width x)
IsGood wires genvar_is = Unit {0}

unfoldable pub AreGood : List Signal → List Entry → Type 0
AreGood wires [] = Unit {0}
AreGood wires (e ∷ more) = IsGood wires e.1 × AreGood wires more

pub record LevelIsGood (wires : List Signal) (x : Level) : Type 0 where
  pub nets : AreGood wires x.nets
  pub consts : AreGood wires x.consts

unfoldable pub LevelsAreGood : List Signal → List Level → Type 0
LevelsAreGood wires [] = Unit {0}
LevelsAreGood wires (x ∷ more) = LevelIsGood wires x × LevelsAreGood wires more

-- ---- lists

pub none_good : (wires : List Signal) → AreGood wires []
unfolding AreGood
none_good wires = tt

pub one_good : (wires : List Signal) (e : Entry) → IsGood wires e.1 → AreGood wires (e ∷ [])
unfolding AreGood
one_good wires e h = (h, tt)

pub both_good : (wires : List Signal) (a b : List Entry) → AreGood wires a → AreGood wires b → AreGood wires (a ++ b)
unfolding AreGood
both_good wires [] b f g = g
both_good wires (e ∷ a) b f g = (f.0, both_good wires a b f.1 g)

pub front_good : (wires : List Signal) (n : ℕ) (a : List Entry) → AreGood wires a → AreGood wires (take n a)
unfolding AreGood
front_good wires zero a f = tt
front_good wires (suc n) [] f = tt
front_good wires (suc n) (e ∷ a) f = (f.0, front_good wires n a f.1)

-- ---- more wires

wider : (wires : List Signal) (w : Signal) (x : What) → IsGood wires x → IsGood (wires ++ w ∷ []) x
wider wires w (number_is v s) h = tt
wider wires w (type_is x) h = tt
wider wires w (signal_is o n x) h = (
  h.0,
  omega (arith, h.1, length-append wires (w ∷ [])),
  ap (λ xs. get_or xs n 0) (map-append (λ (s : Signal). s.width) wires (w ∷ [])) ∙ get_or_append_left (widths wires) (w.width ∷ []) 0 n (omega (arith, h.1, length-map wires (λ (s : Signal). s.width))) ∙ h.2,
)
wider wires w genvar_is h = tt

all_wider : (wires : List Signal) (w : Signal) (all : List Entry) → AreGood wires all → AreGood (wires ++ w ∷ []) all
unfolding AreGood
all_wider wires w [] h = tt
all_wider wires w (e ∷ more) h = (wider wires w e.1 h.0, all_wider wires w more h.1)

pub levels_wider : (wires : List Signal) (w : Signal) (all : List Level) → LevelsAreGood wires all → LevelsAreGood (wires ++ w ∷ []) all
unfolding LevelsAreGood
levels_wider wires w [] h = tt
levels_wider wires w (x ∷ more) h = let g = h.0 in (record { nets = all_wider wires w x.nets g.nets; consts = all_wider wires w x.consts g.consts }, levels_wider wires w more h.1)

pub last_good : (wires : List Signal) (w : Signal) (x : Layout) → w.width ≡ width x → IsGood (wires ++ w ∷ []) (signal_is of_wires (length wires) x)
last_good wires w x e = (
  refl,
  omega (arith, length-append wires (w ∷ [])),
  ap (λ xs. get_or xs (length wires) 0) (map-append (λ (s : Signal). s.width) wires (w ∷ [])) ∙ get_or_push (widths wires) w.width 0 (length wires) (length-map wires (λ (s : Signal). s.width)) ∙ e,
)

-- ---- levels

pub levels_push : (wires : List Signal) (all : List Level) (x : Level) → LevelsAreGood wires all → LevelIsGood wires x → LevelsAreGood wires (all ++ x ∷ [])
unfolding LevelsAreGood
levels_push wires [] x f g = (g, tt)
levels_push wires (y ∷ all) x f g = (f.0, levels_push wires all x f.1 g)

pub levels_with : (wires : List Signal) (n : ℕ) (f : Level → Level) (all : List Level) → ((x : Level) → LevelIsGood wires x → LevelIsGood wires (f x)) → LevelsAreGood wires all → LevelsAreGood wires (with_level n f all)
unfolding LevelsAreGood with_level
levels_with wires n f [] g h = tt
levels_with wires zero f (x ∷ more) g h = (g x h.0, h.1)
levels_with wires (suc n) f (x ∷ more) g h = (h.0, levels_with wires n f more g h.1)

-- ---- ports and works

abbrev pub IsPort : List Signal → OpenPort → Type 0
IsPort wires p = IsGood wires (signal_is of_wires p.wire p.layout)

unfoldable pub ArePorts : List Signal → List OpenPort → Type 0
ArePorts wires [] = Unit {0}
ArePorts wires (p ∷ more) = IsPort wires p × ArePorts wires more

-- the wire of a connected port
abbrev pub TaskIsGood : List Signal → Task → Type 0
TaskIsGood wires (assigning to x) = Unit {0}
TaskIsGood wires (running b) = Unit {0}
TaskIsGood wires (connecting w n x actual) = IsGood wires (signal_is of_wires n x)

unfoldable pub WorksAreGood : List Signal → List Standing → Type 0
WorksAreGood wires [] = Unit {0}
WorksAreGood wires (w ∷ more) = TaskIsGood wires w.task × WorksAreGood wires more

pub port_wider : (wires : List Signal) (w : Signal) (n : ℕ) (x : Layout) → IsGood wires (signal_is of_wires n x) → IsGood (wires ++ w ∷ []) (signal_is of_wires n x)
port_wider wires w n x h = wider wires w (signal_is of_wires n x) h

task_wider : (wires : List Signal) (w : Signal) (t : Task) → TaskIsGood wires t → TaskIsGood (wires ++ w ∷ []) t
task_wider wires w (assigning to x) h = tt
task_wider wires w (running b) h = tt
task_wider wires w (connecting d n x actual) h = wider wires w (signal_is of_wires n x) h

pub works_wider : (wires : List Signal) (w : Signal) (all : List Standing) → WorksAreGood wires all → WorksAreGood (wires ++ w ∷ []) all
unfolding WorksAreGood
works_wider wires w [] h = tt
works_wider wires w (x ∷ more) h = (task_wider wires w x.task h.0, works_wider wires w more h.1)

pub works_both : (wires : List Signal) (a b : List Standing) → WorksAreGood wires a → WorksAreGood wires b → WorksAreGood wires (a ++ b)
unfolding WorksAreGood
works_both wires [] b f g = g
works_both wires (x ∷ a) b f g = (f.0, works_both wires a b f.1 g)

pub no_works : (wires : List Signal) → WorksAreGood wires []
unfolding WorksAreGood
no_works wires = tt

pub works_one : (wires : List Signal) (at : Front) (t : Task) → TaskIsGood wires t → WorksAreGood wires (record { at = at; task = t } ∷ [])
unfolding WorksAreGood
works_one wires at t h = (h, tt)

abbrev MaybePort : List Signal → Option OpenPort → Type 0
MaybePort wires None = Unit {0}
MaybePort wires (Some p) = IsPort wires p

chosen_port : (wires : List Signal) (p : OpenPort) (o : Option OpenPort) (b : Bool) → IsPort wires p → MaybePort wires o → MaybePort wires (cond b (Some p) o)
chosen_port wires p o true g h = g
chosen_port wires p o false g h = h

named_port : (wires : List Signal) (n : Name) (all : List OpenPort) → ArePorts wires all → MaybePort wires (port_named n all)
unfolding ArePorts port_named
named_port wires n [] h = tt
named_port wires n (p ∷ more) h = chosen_port wires p (port_named n more) (bytes_eq p.name n) h.0 (named_port wires n more h.1)

connected_good : (wires : List Signal) (at : Front) (o : Option OpenPort) (x : Option Expr) → MaybePort wires o → WorksAreGood wires (connected at o x)
connected_good wires at None x h = no_works wires
connected_good wires at (Some p) None h = no_works wires
connected_good wires at (Some p) (Some x) h = works_one wires at (connecting p.way p.wire p.layout x) h

pub port_works_good : (wires : List Signal) (at : Front) (pins : List Connection) (ports : List OpenPort) → ArePorts wires ports → WorksAreGood wires (port_works at pins ports)
unfolding port_works
port_works_good wires at [] ports h = no_works wires
port_works_good wires at (c ∷ more) ports h =
    works_both wires (connected at (port_named c.0 ports) c.1) (port_works at more ports) (connected_good wires at (port_named c.0 ports) c.1 (named_port wires c.0 ports h)) (port_works_good wires at more ports h)
