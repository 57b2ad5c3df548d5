use Rattle.std.proofs.Common.{◌≡◌, ℕ, List, take}
use Rattle.std.specs.List.{All}
use Rattle.lhs_alias.specs.Segs.{lhs_bits}
use Rattle.lhs_alias.specs.Lies.{LieIn}
use Rattle.sv_elab.specs.Working.{parts_bits}
use Rattle.sv_elab.proofs.joins.together.Given as goal

abbrev pub invariant-parts : goal.invariant-parts
invariant-parts l = record {
  bits : lhs_bits l.all ≡ parts_bits (take l.part-index l.parts);
  lies : (widths : List ℕ) → All (λ p. LieIn widths p.to) l.parts → LieIn widths l.all;
}
