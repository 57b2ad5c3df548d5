-- Parameters of modules, where there are some, and ports.
use Rattle.std.proofs.Common.{◌≡◌, ◌<◌, ◌≤◌, List, [], ◌∷◌, length, codes, refl, arith}
use Rattle.sv_tree.specs.declared.design.ParPort.{ParPort}
use Rattle.sv_tree.specs.declared.design.Port.{Port}
use Rattle.sv_write.specs.declared.lexeme.Lexeme.{Lexeme}
use Rattle.sv_write.specs.Forms.{write_par_port, write_port}
use Rattle.sv_write.specs.Writing.{◌⨾◌, mark, commas}
use Rattle.sv_write.specs.Modules.{write_params, write_port_list}

pub some_params : (all : List ParPort) (l : List Lexeme) → 1 ≤ length all → write_params all l ≡ (mark (codes "#") ⨾ mark (codes "(") ⨾ commas write_par_port all ⨾ mark (codes ")")) l
unfolding write_params
some_params [] l le = absurd (omega arith)
some_params (p ∷ all) l le = refl

pub no_params : (all : List ParPort) (l : List Lexeme) → length all < 1 → write_params all l ≡ l
unfolding write_params
no_params [] l lt = refl
no_params (p ∷ all) l lt = absurd (omega arith)

pub ports_are : (all : List Port) (l : List Lexeme) → write_port_list all l ≡ commas write_port all l
unfolding write_port_list
ports_are [] l = refl
ports_are (p ∷ all) l = refl
