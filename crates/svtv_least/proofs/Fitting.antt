-- What a bound table promises, of values that are as wide as the wires.
use Rattle.std.proofs.Common.{◌≡◌, ℕ, ◌<◌, List, [], length, map, get_or, sym, ap, ◌∙◌, subst, arith}
use Rattle.std.specs.Prelude.{All, Option, None, Some}
use Rattle.std.proofs.lemmas.List.{get_or-map, length-map}
use Rattle.fourvec.specs.declared.Bit.{Bit}
use Rattle.sv_outside.specs.declared.text.Signal.{Signal}
use Rattle.driver_resolve.specs.Drivers.{widths_of}
use Rattle.flat_net.specs.Flats.{IsSignal}
use Rattle.svtv_table.specs.declared.bound.Bound.{Bound}
use Rattle.svtv_table.specs.declared.bound.Drive.{Drive}
use Rattle.svtv_table.specs.declared.bound.Drive.TheVariants as drive
use Rattle.svtv_table.specs.declared.bound.Sample.{Sample}
use Rattle.svtv_table.specs.declared.bound.VarDecl.{VarDecl}
use Rattle.svtv_table.specs.Binding.{HasWidth, IsAsWide, IsBound, IsSetAsWide, wire_width}
use Rattle.svtv_table.specs.Names.{no_signal}
use Rattle.svtv_table.specs.Stimuli.{drive_value, setting_value}
use Rattle.svtv_runs.specs.Runs.{AreApart, asks_of}
use Rattle.svtv_least.specs.Running.{AreAsWide, Gives, IsGiven, IsOf, Sets}

wire_at : (wires : List Signal) (n : ℕ) → n < length wires → get_or (widths_of wires) n 0 ≡ wire_width wires n
wire_at wires n l = get_or-map (λ (s : Signal). s.width) wires n no_signal 0 l

gives : (vars : List VarDecl) (choice : List (List Bit)) → AreAsWide vars choice → (width : ℕ) (d : Drive) → IsAsWide vars width d → Gives choice width d
gives vars choice h width (drive.Fixed v) w = w
gives vars choice h width (drive.Chosen n flips) w =
    let long : length choice ≡ length vars = sym (length-map choice (λ (v : List Bit). length v)) ∙ ap length h ∙ length-map vars (λ (v : VarDecl). v.width) in
    let l : n < length choice = omega (arith, long, w.0) in
    let nobody : VarDecl = record { name = []; width = 0 } in
    (l, sym (get_or-map (λ (v : List Bit). length v) choice n [] 0 l) ∙ ap (λ ws. get_or ws n 0) h ∙ get_or-map (λ (v : VarDecl). v.width) vars n nobody 0 w.0 ∙ w.1)
gives vars choice h width drive.Free w = tt

sets : (vars : List VarDecl) (choice : List (List Bit)) → AreAsWide vars choice → (width : ℕ) (d : Option Drive) → IsSetAsWide vars width d → Sets choice width d
sets vars choice h width None w = tt
sets vars choice h width (Some d) w = gives vars choice h width d w

pub drives_given : (wires : List Signal) (bound : Bound) (choice : List (List Bit)) (phase : ℕ) (rows : List (ℕ × List Drive)) → IsBound wires bound → AreAsWide bound.vars choice → phase < bound.phases → rows ≡ bound.drives
    → All (IsGiven (Gives choice) (widths_of wires) phase) rows
drives_given wires bound choice phase rows b h l e =
    subst (λ (rs : List (ℕ × List Drive)). All (IsGiven (Gives choice) (widths_of wires) phase) rs) (sym e)
    (λ i d m.
    let row = get_or bound.drives i d in
    let is = b.drives i d m in
    record {
      wire = omega (arith, is.wire, length-map wires (λ (s : Signal). s.width));
      there = omega (arith, is.long, l);
      gives = λ k x n. subst (λ w. Gives choice w (get_or row.1 k x)) (sym (wire_at wires row.0 is.wire)) (gives bound.vars choice h (wire_width wires row.0) (get_or row.1 k x) (is.widths k x n));
    })

pub overs_given : (wires : List Signal) (bound : Bound) (choice : List (List Bit)) (phase : ℕ) (rows : List (ℕ × List (Option Drive))) → IsBound wires bound → AreAsWide bound.vars choice → phase < bound.phases → rows ≡ bound.overs
    → All (IsGiven (Sets choice) (widths_of wires) phase) rows
overs_given wires bound choice phase rows b h l e =
    subst (λ (rs : List (ℕ × List (Option Drive))). All (IsGiven (Sets choice) (widths_of wires) phase) rs) (sym e)
    (λ i d m.
    let row = get_or bound.overs i d in
    let is = b.overs i d m in
    record {
      wire = omega (arith, is.wire, length-map wires (λ (s : Signal). s.width));
      there = omega (arith, is.long, l);
      gives = λ k x n. subst (λ w. Sets choice w (get_or row.1 k x)) (sym (wire_at wires row.0 is.wire)) (sets bound.vars choice h (wire_width wires row.0) (get_or row.1 k x) (is.widths k x n));
    })

pub samples_are_of : (wires : List Signal) (bound : Bound) (widths : List ℕ) (samples : List Sample) → IsBound wires bound → widths ≡ widths_of wires → samples ≡ bound.samples → All (IsOf widths) samples
samples_are_of wires bound widths samples b w e =
    subst (λ ws. All (IsOf ws) samples) (sym w) (subst (λ (ss : List Sample). All (IsOf (widths_of wires)) ss) (sym e)
    (λ i d m.
    let is = b.samples i d m in
    record {
      wire = omega (arith, is.wire, length-map wires (λ (s : Signal). s.width));
      width = is.width ∙ sym (wire_at wires (get_or bound.samples i d).wire is.wire);
    }))

pub samples_wide : (wires : List Signal) (bound : Bound) (samples : List Sample) → All IsSignal wires → IsBound wires bound → samples ≡ bound.samples → All (λ s. HasWidth s.width) samples
samples_wide wires bound samples h b e =
    subst (λ (ss : List Sample). All (λ s. HasWidth s.width) ss) (sym e)
    (λ i d m.
    let is = b.samples i d m in
    let signal = h (get_or bound.samples i d).wire no_signal is.wire in
    subst HasWidth (sym is.width) (signal.some, signal.most))

-- ---- no wire has two rows of one kind

-- no two of the rows are of one wire
abbrev pub Apart : {X : Type 0} → List (ℕ × List X) → Type 0
Apart rows = (i j : ℕ) → i < length rows → j < length rows → (get_or rows i (0, [])).0 ≡ (get_or rows j (0, [])).0 → i ≡ j

-- what is made of each cell changes no wire
pub still_apart : {X Y : Type 0} (f : X → Y) (rows : List (ℕ × List X)) → Apart rows → Apart (map (λ row. (row.0, map f row.1)) rows)
still_apart {X} {Y} f rows h i j l k e =
    let make : ℕ × List X → ℕ × List Y = λ row. (row.0, map f row.1) in
    let none : ℕ × List X = (0, []) in
    let nothing : ℕ × List Y = (0, []) in
    let long : length (map make rows) ≡ length rows = length-map rows make in
    let at : (n : ℕ) → n < length rows → (get_or (map make rows) n nothing).0 ≡ (get_or rows n none).0 = λ n m. ap (λ (x : ℕ × List Y). x.0) (get_or-map make rows n none nothing m) in
    let li : i < length rows = omega (arith, l, long) in
    let lj : j < length rows = omega (arith, k, long) in
    h i j li lj (sym (at i li) ∙ (e ∙ at j lj))

pub apart : (wires : List Signal) (bound : Bound) → IsBound wires bound → (choice : List (List Bit)) → AreApart (asks_of choice bound)
apart wires bound b choice = record {
  stimuli = still_apart (drive_value choice) bound.drives b.apart;
  settings = still_apart (setting_value choice) bound.overs b.overs_apart;
}
