-- The phases of a least run in a dump, one more.
use Rattle.std.proofs.Common.{◌≡◌, ℕ, ◌+◌, List, [], ◌∷◌, ◌++◌, length, get_or, map, sym, ap, ◌∙◌, subst, arith, zero-add}
use Rattle.std.specs.List.{All, range_with_len}
use Rattle.std.proofs.lemmas.List.{ext_get_or, get_or-map, length-map}
use Rattle.std.proofs.lemmas.List.Elements.{All-from_get_or}
use Rattle.std.proofs.lemmas.List.FromFn.{get_or-map-range_with_len, length-map-range_with_len, map-range_with_len_more}
use Rattle.fourvec.specs.declared.Bit.{Bit}
use Rattle.sv_outside.specs.declared.text.Signal.{Signal}
use Rattle.svtv_runs.specs.Runs.{Run}
use Rattle.svtv_runs.specs.Truths.{valuation}
use Rattle.svtv_texts.specs.Phases.{phases_in, wires_in}
use Rattle.vcd_print.proofs.Adding.{last_pushed}
use Rattle.vcd_print.specs.Dumps.{Printed, IsDump, last_phase}
use Rattle.vcd_print.specs.Printed.{IsPhase}

pub phase_more : (wires : List Signal) (r : Run) (phase : ℕ) → phases_in wires (phase + 1) r ≡ phases_in wires phase r ++ wires_in wires r phase ∷ []
phase_more wires r phase = map-range_with_len_more (wires_in wires r) 0 phase phase (zero-add phase)

-- a dump of the phases so far, and the phase behind them
pub dump_more : (wires : List Signal) (r : Run) (phase : ℕ) (values : List (List Bit)) (dump : Printed) → values ≡ wires_in wires r phase → IsDump wires (phases_in wires phase r ++ values ∷ []) dump
    → IsDump wires (phases_in wires (phase + 1) r) dump
dump_more wires r phase values dump is d =
    subst (λ phases. IsDump wires phases dump) (ap (λ v. phases_in wires phase r ++ v ∷ []) is ∙ sym (phase_more wires r phase)) d

pub last_is : (wires : List Signal) (r : Run) (phase : ℕ) → wires_in wires r phase ≡ last_phase (phases_in wires (phase + 1) r)
last_is wires r phase = sym (last_pushed [] (phases_in wires phase r) (wires_in wires r phase)) ∙ ap last_phase (sym (phase_more wires r phase))

-- each phase has a value for each wire, at its width
is_phase : (wires : List Signal) (r : Run) (phase : ℕ) → IsPhase wires (wires_in wires r phase)
is_phase wires r phase =
    let widths : List ℕ = map (λ (w : Signal). w.width) wires in
    let own : ℕ → List Bit = λ n. map (valuation r phase n) (range_with_len 0 (get_or widths n 0)) in
    let many : length (wires_in wires r phase) ≡ length wires = length-map-range_with_len own 0 (length wires) in
    ext_get_or 0 widths (map (λ (v : List Bit). length v) (wires_in wires r phase))
    (length-map wires (λ (w : Signal). w.width) ∙ sym many ∙ sym (length-map (wires_in wires r phase) (λ (v : List Bit). length v)))
    (λ n l. let m = length-map wires (λ (w : Signal). w.width) in
    sym (get_or-map (λ (v : List Bit). length v) (wires_in wires r phase) n [] 0 (omega (arith, l, m, many))
    ∙ ap (λ (v : List Bit). length v) (get_or-map-range_with_len own 0 (length wires) n n [] (omega (arith, l, m)) (zero-add n))
    ∙ length-map-range_with_len (valuation r phase n) 0 (get_or widths n 0)))

pub are_phases : (wires : List Signal) (r : Run) (phases : ℕ) → All (IsPhase wires) (phases_in wires phases r)
are_phases wires r phases = All-from_get_or (IsPhase wires) (phases_in wires phases r) []
    (λ n l. subst (IsPhase wires) (sym (get_or-map-range_with_len (wires_in wires r) 0 phases n n [] (omega (arith, l, length-map-range_with_len (wires_in wires r) 0 phases)) (zero-add n))) (is_phase wires r n))
