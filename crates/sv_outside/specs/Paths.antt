-- The bytes of paths of signals.
use Rattle.std.specs.Prelude.{◌&&◌, nat_le, ℕ, Bool}

-- a byte that a path may have: it is printed, and no blank
abbrev pub is_path_byte : ℕ → Bool
is_path_byte b = nat_le 33 b && nat_le b 126
