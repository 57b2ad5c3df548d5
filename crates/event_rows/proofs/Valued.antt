-- A vector for each wire, of its width.
use Rattle.std.proofs.Common.{◌≡◌, ℕ, ◌<◌, List, [], length, get_or, map, sym, ◌∙◌, arith}
use Rattle.std.proofs.lemmas.List.{ext_get_or, get_or-map, length-map}
use Rattle.sv_outside.specs.declared.text.Signal.{Signal}
use Rattle.svex_shape.specs.Values.{Vector}
use Rattle.driver_resolve.specs.Drivers.{widths_of}
use Rattle.event_sim.specs.Sims.{IsValuation}

pub valued : (wires : List Signal) (values : List Vector) → length values ≡ length wires → ((k : ℕ) → k < length wires → length (get_or values k []) ≡ get_or (widths_of wires) k 0)
    → IsValuation (widths_of wires) values
valued wires values many h =
    let size : Vector → ℕ = λ row. length row in
    let long : length (map size values) ≡ length values = length-map values size in
    ext_get_or 0 (map size values) (widths_of wires) (long ∙ many ∙ sym (length-map wires (λ (s : Signal). s.width)))
    (λ k lt.
    let below : k < length values = omega (arith, lt, long) in
    get_or-map size values k [] 0 below ∙ h k (omega (arith, below, many)))
