use Rattle.sv_token.proofs.Cutting.{one_list_of}
use Rattle.sv_token.proofs.lexer.one_list.Goals as goal

pub returns : goal.returns
returns c file text tokens others h k = one_list_of h k
