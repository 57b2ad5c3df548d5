use Rattle.std.proofs.Common.{map, string_bytes}
use Rattle.svtv_words.proofs.Commands.{one_command}
use Rattle.svtv_words.proofs.command.command_of.Goals as goal

pub returns-clause-one : goal.returns-clause-one
returns-clause-one c = one_command (map string_bytes c.args.words.now)
