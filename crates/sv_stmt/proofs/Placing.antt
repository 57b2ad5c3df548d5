-- The wires of a scene have the widths that names declare, and each target of a block has a place there.
use Rattle.std.proofs.Common.{◌≡◌, ℕ, zero, suc, true, List, [], ◌∷◌, length, get_or, Option, Some, None, Result, Ok, Err, refl, sym, ap, ◌∙◌, subst, arith, IsTrue, eqb, nat_lt, nat_le}
use Rattle.std.specs.Prelude.{is_some}
use Rattle.std.specs.Result.{IfOk}
use Rattle.std.specs.List.{All, AllByRecursion, Contains}
use Rattle.std.proofs.lemmas.List.Elements.{recursion_from_All}
use Rattle.std.proofs.lemmas.Bool.Decides.{nat_tests}
use Rattle.fourvec.proofs.Tables.{right_of}
use Rattle.lhs_alias.specs.declared.segs.WireBit.{WireBit}
use Rattle.svex_arena.specs.Substs.{given_or, entry_at}
use Rattle.sv_tree.specs.declared.stmts.Stmt.{Stmt}
use Rattle.sv_meaning.specs.Layouts.{Scope, Origin, of_wires, of_choice, of_samples, NamedSignal, Declared}
use Rattle.sv_actions.specs.declared.action.Action.{Action}
use Rattle.sv_actions.specs.Texts.{wire_signal, target_signals}
use Rattle.sv_actions.specs.Doing.{Aims, names_all}
use Rattle.sv_stores.specs.declared.scene.Manner.{Manner as Held}
use Rattle.sv_stores.specs.declared.scene.Scene.{Scene}
use Rattle.sv_stores.specs.Scenes.{place_in, width_in, is_narrow}
use Rattle.sv_blocks.specs.declared.wires.Wire.{Wire}
use Rattle.sv_blocks.specs.declared.bits.Marked.{Marked}
use Rattle.sv_blocks.specs.Declaring.{wires_are, IsThere, SameWires, IsBegun, IsMarked}
use Rattle.sv_blocks.specs.Fitting.{Sits}
use Rattle.sv_blocks.proofs.Marking.{same_place}
use Rattle.sv_blocks.proofs.Sitting.{Placed, sit_all}
use Rattle.sv_stmt.specs.Blocks.{AreDeclared, AreThere, AreWires, OneWidth}
use Rattle.sv_stmt.proofs.Rooted.{targets_declared}

-- where names are wires, all of one wire are of its width
pub one_width : (at : Scope) (widths : List ℕ) → AreWires at widths → OneWidth at
one_width at widths w s t d e same = sym (width_is s d) ∙ ap (λ n. get_or widths n 0) same ∙ width_is t e
  where
    width_is : (x : NamedSignal) → Declared at x → get_or widths x.number 0 ≡ x.width
    width_is x k = let h : eqb (get_or widths x.number 0) x.width ≡ true = right_of (nat_lt x.number (length widths)) (eqb (get_or widths x.number 0) x.width) (w.wire x k) in grind (arith, nat_tests, h)

pub same_wires : (scene : Scene) → SameWires scene scene
same_wires scene = record { places = refl; wires = refl; widths = refl; manner = refl; long = refl }

found_there : (places : List (Option ℕ)) (all : List Wire) (s : NamedSignal) → AllByRecursion (IsThere places) all → Contains (wires_are all) s → is_some (entry_at places s.number) ≡ true
found_there places [] s h k = absurd (omega (arith, k.1))
found_there places (x ∷ more) s h (zero, l, e) = subst (λ y. is_some (entry_at places y.number) ≡ true) e h.0
found_there places (x ∷ more) s h (suc i, l, e) = found_there places more s h.1 (i, omega arith, e)

-- the width of a declared name at a place of its wire
width_there : (at : Scope) (named : List NamedSignal) (m : Held) (scene : Scene) (s : NamedSignal) → IsBegun named m scene → AreDeclared at named → OneWidth at → Declared at s → (i : ℕ) → place_in scene s.number ≡ Some i → width_in scene i ≡ s.width
width_there at named m scene s b d one k i e =
    let back = b.sound.back s.number i e in
    one (wire_signal (get_or scene.wires i 0) (width_in scene i)) s (d _ (b.among i back.0)) k back.1

pub all_there : (named : List NamedSignal) (found : List Wire) (scene : Scene) → wires_are found ≡ named → All (IsThere scene.places) found → AreThere named scene
all_there named found scene e there s h = found_there scene.places found s (recursion_from_All (IsThere scene.places) found there) (subst (λ ns. Contains ns s) (sym e) h)

placed : (at : Scope) (named : List NamedSignal) (m : Held) (scene : Scene) → IsBegun named m scene → AreThere named scene → AreDeclared at named → OneWidth at → Placed scene named
placed at named m scene b there d one s h = record {
  there = there s h;
  width = width_there at named m scene s b d one (d s h);
}

le_same : (a b : ℕ) → b ≡ a → nat_le a b ≡ true
le_same a b h = grind (arith, nat_tests, h)

narrow_at : (scene : Scene) (o : Origin) (n w : ℕ) → ((i : ℕ) → place_in scene n ≡ Some i → width_in scene i ≡ w) → IsTrue (is_narrow scene o n w)
narrow_at scene of_choice n w h = refl
narrow_at scene of_samples n w h = refl
narrow_at scene of_wires n w h = go (place_in scene n) h
  where
    go : (x : Option ℕ) → ((i : ℕ) → x ≡ Some i → width_in scene i ≡ w) → given_or (λ i. nat_le w (width_in scene i)) true x ≡ true
    go None k = refl
    go (Some i) k = le_same w (width_in scene i) (k i refl)

-- the actions of a block sit in a scene with the wires that its text names
pub scene_sits : (at : Scope) (body : Stmt) (all : List Action) (m : Held) (start scene : Scene) → SameWires start scene → IsBegun (target_signals at body) m start → AreThere (target_signals at body) start
    → All (Aims (target_signals at body)) all → AreDeclared at (names_all all) → OneWidth at → All (Sits scene) all
scene_sits at body all m start scene same b there aims names one =
    sit_all scene (target_signals at body) all (λ s h. same_place start scene s.number s.width same (placed at (target_signals at body) m start b there (targets_declared at body) one s h)) aims
    (λ s h. narrow_at scene s.owner s.number s.width (λ i p.
    ap (λ xs. get_or xs i 0) same.widths ∙ width_there at (target_signals at body) m start s b (targets_declared at body) one (names s h) i (sym (ap (λ xs. entry_at xs s.number) same.places) ∙ p)))

-- ---- a scene that is made

pub there_by : {E : Type 0} (r : Result Scene E) (named : List NamedSignal) (found : List Wire) → wires_are found ≡ named → IfOk r (λ scene. All (IsThere scene.places) found) → IfOk r (λ scene. AreThere named scene)
there_by (Ok scene) named found e h = all_there named found scene e h
there_by (Err why) named found e h = tt

pub marked_by : {E : Type 0} (r : Result Marked E) (start : Scene) (a b : List WireBit) → a ≡ b → IfOk r (λ m. IsMarked start a m) → IfOk r (λ m. IsMarked start b m)
marked_by (Ok m) start a b e h = subst (λ z. IsMarked start z m) e h
marked_by (Err why) start a b e h = tt
