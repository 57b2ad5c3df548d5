use Rattle.std.proofs.Common.{arith}
use Rattle.sv_elab.proofs.Parting.{puts}
use Rattle.sv_elab.proofs.parts.part_driver.Goals as goal

pub returns-clause-ok : goal.returns-clause-ok
returns-clause-ok c = λ widths lies.
    let is = c.width.ensures.is in
    let most = c.width.ensures.most in
    puts widths c.args.arena.now c.sliced.new.arena c.args.value c.bits_of-count.result c.in_ok-value.value c.args.part.now c.in_ok-target.target (omega (arith, is, most)) c.bits_of-count.ensures (record { some = c.requires.some; ends = c.requires.ends }) lies c.in_ok-value.ensures.ok c.in_ok-target.ensures
