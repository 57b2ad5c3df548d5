-- Widths of wires.
use Rattle.std.specs.Prelude.{◌≤◌}
use Rattle.sv_outside.specs.declared.text.Signal.{Signal}

-- 1 to 128 bits
abbrev pub HasBits : Signal → Type 0
HasBits s = (1 ≤ s.width) × (s.width ≤ 128)
