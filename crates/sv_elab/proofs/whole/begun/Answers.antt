use Rattle.std.proofs.Common.{refl}
use Rattle.sv_elab.proofs.Making.{nothing_made}
use Rattle.sv_elab.proofs.whole.begun.Goals as goal

pub returns : goal.returns
returns c = λ wires. nothing_made wires c.args.turns (record { arena = c.new.result; drivers = c.new-2.result; joins = c.new-3.result; made = c.args.turns }) refl c.new-2.ensures c.new-3.ensures
