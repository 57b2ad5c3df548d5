use Rattle.std.proofs.Common.{◌≡◌, take}
use Rattle.sv_parser.proofs.two_state.all_copied.Given as goal

abbrev pub invariant-token : goal.invariant-token
invariant-token l = l.copy.items ≡ take l.token-index l.tokens
