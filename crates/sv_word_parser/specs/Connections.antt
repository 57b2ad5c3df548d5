-- What stands behind the name of a connection.
use Rattle.std.specs.Prelude.{Option, Some, None}
use Rattle.sv_tree.specs.declared.exprs.Expr.{Expr}
use Rattle.sv_tree.specs.declared.design.Pin.{Pin}
use Rattle.sv_tree.specs.declared.design.Pin.TheVariants as pin_of

-- by what is in the parentheses, where there are any
abbrev pub made_pin : Option (Option Expr) → Pin
made_pin None = pin_of.Same
made_pin (Some None) = pin_of.Open
made_pin (Some (Some x)) = pin_of.Given x
