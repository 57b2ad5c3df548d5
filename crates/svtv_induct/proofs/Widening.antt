-- Tables with more variables.
use Rattle.std.proofs.Common.{◌≡◌, ℕ, ◌+◌, ◌<◌, List, [], ◌++◌, length, map, get_or, sym, ap, ◌∙◌, arith}
use Rattle.std.specs.Prelude.{Option, None, Some}
use Rattle.std.specs.List.{All}
use Rattle.std.proofs.lemmas.List.{get_or-append-add, get_or_append_left, length-append, length-map, map-append}
use Rattle.std.proofs.lemmas.List.Elements.{All-append, All-map, All-weaker}
use Rattle.driver_resolve.specs.Drivers.{widths_of}
use Rattle.flat_net.specs.Flats.{IsSignal}
use Rattle.fourvec.specs.declared.Bit.{Bit}
use Rattle.sv_outside.specs.declared.text.Signal.{Signal}
use Rattle.svtv_table.specs.Binding.{HasWidth, IsAsWide, IsBound, IsSetAsWide, var_width, wire_width}
use Rattle.svtv_table.specs.Stimuli.{IsChoice, given}
use Rattle.svtv_table.specs.declared.bound.Bound.{Bound}
use Rattle.svtv_table.specs.declared.bound.Drive.{Drive}
use Rattle.svtv_table.specs.declared.bound.Drive.TheVariants as drive
use Rattle.svtv_table.specs.declared.bound.VarDecl.{VarDecl}
use Rattle.svtv_induct.specs.States.{HaveWires, state_var, state_vars, with_vars}
use Rattle.svtv_induct.proofs.Nodes.{given_wide}
use Rattle.svtv_induct.proofs.States.{state_wide}

-- ---- what more variables change

var_stays : (vars more : List VarDecl) (number : ℕ) → number < length vars → var_width (vars ++ more) number ≡ var_width vars number
var_stays vars more number l = ap (λ (v : VarDecl). v.width) (get_or_append_left vars more (record { name = []; width = 0 }) number l)

drive_fits : (vars more : List VarDecl) (width : ℕ) (d : Drive) → IsAsWide vars width d → IsAsWide (vars ++ more) width d
drive_fits vars more width (drive.Fixed v) h = h
drive_fits vars more width (drive.Chosen number flips) h = (omega (arith, h.0, length-append vars more), var_stays vars more number h.0 ∙ h.1)
drive_fits vars more width drive.Free h = h

setting_fits : (vars more : List VarDecl) (width : ℕ) (d : Option Drive) → IsSetAsWide vars width d → IsSetAsWide (vars ++ more) width d
setting_fits vars more width None h = h
setting_fits vars more width (Some d) h = drive_fits vars more width d h

pub bound_wider : (wires : List Signal) (bound : Bound) (more : List VarDecl) → IsBound wires bound → IsBound wires (record bound { vars = bound.vars ++ more })
bound_wider wires bound more b = record {
  drives = λ k d l.
      let row = b.drives k d l in
      let x = get_or bound.drives k d in
      record {
        wire = row.wire;
        long = row.long;
        widths = All-weaker (IsAsWide bound.vars (wire_width wires x.0)) (IsAsWide (bound.vars ++ more) (wire_width wires x.0)) (λ y h. drive_fits bound.vars more (wire_width wires x.0) y h) x.1 row.widths;
      };
  apart = b.apart;
  overs = λ k d l.
      let row = b.overs k d l in
      let x = get_or bound.overs k d in
      record {
        wire = row.wire;
        long = row.long;
        widths = All-weaker (IsSetAsWide bound.vars (wire_width wires x.0)) (IsSetAsWide (bound.vars ++ more) (wire_width wires x.0)) (λ y h. setting_fits bound.vars more (wire_width wires x.0) y h) x.1 row.widths;
      };
  overs_apart = b.overs_apart;
  samples = b.samples;
}

pub with_vars_bound : (wires : List Signal) (bound : Bound) → IsBound wires bound → IsBound wires (with_vars bound wires)
with_vars_bound wires bound b =
    let once : Bound = record bound { vars = bound.vars ++ state_vars wires } in
    bound_wider wires once (state_vars wires) (bound_wider wires bound (state_vars wires) b)

state_widths : (wires : List Signal) → All IsSignal wires → All (λ (v : VarDecl). HasWidth v.width) (state_vars wires)
state_widths wires h = All-map (λ (v : VarDecl). HasWidth v.width) state_var wires (All-weaker IsSignal (λ (w : Signal). HasWidth w.width) (λ w s. (s.some, s.most)) wires h)

pub with_vars_widths : (wires : List Signal) (bound : Bound) → All IsSignal wires → All (λ (v : VarDecl). HasWidth v.width) bound.vars → All (λ (v : VarDecl). HasWidth v.width) (with_vars bound wires).vars
with_vars_widths wires bound s h =
    let P : VarDecl → Type 0 = λ v. HasWidth v.width in
    All-append P (bound.vars ++ state_vars wires) (state_vars wires) (All-append P bound.vars (state_vars wires) h (state_widths wires s)) (state_widths wires s)

-- ---- the variables of the wires

pub with_vars_long : (wires : List Signal) (bound : Bound) → length (with_vars bound wires).vars ≡ length bound.vars + (length wires + length wires)
with_vars_long wires bound =
    let one = length-append bound.vars (state_vars wires) in
    let two = length-append (bound.vars ++ state_vars wires) (state_vars wires) in
    let many = length-map wires state_var in
    omega (arith, one, two, many)

pub with_vars_wires : (wires : List Signal) (bound : Bound) → HaveWires (with_vars bound wires).vars (widths_of wires) (length bound.vars)
with_vars_wires wires bound =
    let wide : VarDecl → ℕ = λ v. v.width in
    let vars : List VarDecl = (with_vars bound wires).vars in
    let before : List ℕ = map wide bound.vars in
    let ws : List ℕ = widths_of wires in
    let count : length ws ≡ length wires = length-map wires (λ (s : Signal). s.width) in
    let long : length vars ≡ length bound.vars + (length wires + length wires) = with_vars_long wires bound in
    let front : length before ≡ length bound.vars = length-map bound.vars wide in
    let whole : map wide vars ≡ (before ++ ws) ++ ws = map-append wide (bound.vars ++ state_vars wires) (state_vars wires)
    ∙ ap (λ (l : List ℕ). l ++ map wide (state_vars wires)) (map-append wide bound.vars (state_vars wires) ∙ ap (λ (l : List ℕ). before ++ l) (state_wide wires))
    ∙ ap (λ (l : List ℕ). (before ++ ws) ++ l) (state_wide wires) in
    let both : length (before ++ ws) ≡ length bound.vars + length ws = (let e = length-append before ws in omega (arith, e, front)) in
    record {
      first = λ n l. record {
        there = omega (arith, l, count, long);
        wide = ap (λ (xs : List ℕ). get_or xs (length bound.vars + n) 0) whole ∙ get_or_append_left (before ++ ws) ws 0 (length bound.vars + n) (omega (arith, l, both))
            ∙ ap (λ k. get_or (before ++ ws) (k + n) 0) (sym front) ∙ get_or-append-add before ws n 0;
      };
      second = λ n l. record {
        there = omega (arith, l, count, long);
        wide = ap (λ (xs : List ℕ). get_or xs (length bound.vars + length ws + n) 0) whole
            ∙ ap (λ k. get_or ((before ++ ws) ++ ws) (k + n) 0) (sym both) ∙ get_or-append-add (before ++ ws) ws n 0;
      };
    }

-- a choice has two vectors of each wire, which are as wide as it
pub choice_wide : (wires : List Signal) (bound : Bound) (choice : List (List Bit)) → IsChoice (with_vars bound wires).vars choice → (n : ℕ) → n < length wires
    → (length (given choice (length bound.vars + n)) ≡ get_or (widths_of wires) n 0) × (length (given choice (length bound.vars + length wires + n)) ≡ get_or (widths_of wires) n 0)
choice_wide wires bound choice c n l =
    let vars : List VarDecl = (with_vars bound wires).vars in
    let have = with_vars_wires wires bound in
    let count : length (widths_of wires) ≡ length wires = length-map wires (λ (s : Signal). s.width) in
    let inside : n < length (widths_of wires) = omega (arith, l, count) in
    let one = have.first n inside in
    let two = have.second n inside in (
      given_wide vars choice (length bound.vars + n) c one.there ∙ one.wide,
      ap (λ k. length (given choice (length bound.vars + k + n))) (sym count) ∙ given_wide vars choice (length bound.vars + length (widths_of wires) + n) c two.there ∙ two.wide,
    )
