use Rattle.sv_meaning.specs.Values.{mean}
use Rattle.sv_typed.specs.declared.ops.Two.TheVariants as two
use Rattle.sv_typing.proofs.OfRules.{two_is}
use Rattle.sv_typing.proofs.rules.two_typed.Goals as goal

pub returns-in-Power : goal.returns-in-Power
returns-in-Power c = λ at n d h k.
    two_is c.args.place c.args.op two.Power (mean at c.args.left.now) n d c.power_typed.result c.in-Power.is (c.power_typed.ensures (mean at c.args.left.now) n d (c.start.ensures at) h k)

pub returns-in-Pair : goal.returns-in-Pair
returns-in-Pair c = λ at n d h k.
    two_is c.args.place c.args.op (two.Pair c.in-Pair.op) (mean at c.args.left.now) n d c.pair_typed.result c.in-Pair.is (c.pair_typed.ensures (mean at c.args.left.now) n d h k)
