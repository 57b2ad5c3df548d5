-- What stands behind names in connections and overrides (IEEE 1800-2017, 23.3.2).
use Rattle.std.specs.Prelude.{Option, Some, None}
use Rattle.sv_tree.specs.declared.word.Word.{Word}
use Rattle.sv_tree.specs.declared.exprs.Expr.{Expr}
use Rattle.sv_meaning.specs.Params.{Connection as Meant, name_alone}
use Rattle.sv_modules.specs.declared.connect.Connection.{Connection}
use Rattle.sv_modules.specs.declared.connect.Joined.{Joined}
use Rattle.sv_modules.specs.declared.connect.Joined.TheVariants.{Same, Open, Given}

abbrev pub joined_is : Word → Joined → Option Expr
joined_is w Same = Some (name_alone w)
joined_is w Open = None
joined_is w (Given x) = Some x.now

abbrev pub connection_is : Connection → Meant
connection_is c = (c.name.now.text, joined_is c.name.now c.joined)
