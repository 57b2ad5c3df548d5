use Rattle.settling.proofs.Classes.{joined-exactly}
use Rattle.settling.proofs.first_bits_tell.Goals as goal

pub returns : goal.returns
returns c = joined-exactly
