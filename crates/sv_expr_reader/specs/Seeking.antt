-- A walk through tokens that looks for the first one that so many expressions hold.
use Rattle.std.specs.Prelude.{ℕ, ◌+◌, ◌-◌, ◌^◌, min, nat_le, true, false, if◌then◌else◌, [], ◌∷◌}
use Rattle.sv_tree.specs.Nesting.{Depths}
use Rattle.sv_expr_reader.specs.declared.seeking.Seek.{Seek}

-- nothing is passed
abbrev pub start : Seek
start = record { before = 0; found = false }

abbrev pub found_there : Seek → Seek
found_there s = record { before = s.before; found = true }

-- one token more is passed
abbrev pub passed : Seek → Seek
passed s = record { before = min (s.before + 1) (2 ^ 64 - 1); found = false }

abbrev pub at_token : ℕ → ℕ → Seek → Seek
at_token d exprs s = if s.found then s else (if nat_le d exprs then found_there s else passed s)

unfoldable pub seek : ℕ → Depths → Seek → Seek
seek d [] s = s
seek d (n ∷ all) s = seek d all (at_token d n.exprs s)
