use Rattle.sv_types.proofs.Wholes.{shifted_out}
use Rattle.sv_types.proofs.whole.fits.Goals as goal

pub returns-else-bits-eq128 : goal.returns-else-bits-eq128
returns-else-bits-eq128 c = shifted_out c.args.number c.args.bits
