use Rattle.sv_modules.specs.Libraries.{module_name}
use Rattle.sv_modules.specs.Listed.{modules_of}
use Rattle.name_index.proofs.Indexes.{number_within}
use Rattle.sv_modules.proofs.Libraries.{number_is}
use Rattle.sv_modules.proofs.Named.{is_at}
use Rattle.sv_modules.proofs.numbered.Modules.find.Goals as goal

pub returns-clause-is : goal.returns-clause-is
returns-clause-is c = λ all h.
    number_is all (modules_of c.args.self.now) c.args.name.now c.number.result
    (is_at c.args.self.now.numbers (modules_of c.args.self.now) c.args.name.now c.number.result c.number.ensures c.args.self.now.keyed) h

pub returns-clause-within : goal.returns-clause-within
returns-clause-within c = number_within module_name c.args.self.now.numbers (modules_of c.args.self.now) c.args.name.now c.number.result c.args.self.now.keyed c.number.ensures
