use Rattle.std.proofs.Common.{◌∙◌, ap}
use Rattle.std.specs.Option.{option_map}
use Rattle.sv_modules.specs.Listed.{modules_of}
use Rattle.sv_levels.specs.Library.{known_is}
use Rattle.sv_levels.proofs.ByNumber.{named_at, not_named}
use Rattle.sv_levels.proofs.library.Library.named.Goals as goal

pub returns-in_err-number : goal.returns-in_err-number
returns-in_err-number c = λ all h. ap (option_map known_is) c.from_residual.ensures ∙ not_named all c.args.name.now (c.in_err-number.ensures.is all h.modules)

pub returns : goal.returns
returns c = λ all h. c.known.ensures all h ∙ named_at (modules_of c.args.self.now.modules) all c.args.name.now c.in_ok-number.number h.modules (c.in_ok-number.ensures.is all h.modules)
