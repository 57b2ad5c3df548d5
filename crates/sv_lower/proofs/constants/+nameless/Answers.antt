use Rattle.sv_typed.specs.declared.tree.TypedForm.TheVariants as f
use Rattle.sv_lower.specs.Lowering.{no_signal}
use Rattle.sv_lower.proofs.Trees.{each_turned, each_reduced, each_computed, each_moved, each_compared, each_combined, each_power, each_concat, each_repeat, each_standing, each_fitted}
use Rattle.sv_lower.proofs.Unnamed.{none_of_literal, none_of_named, none_of_one, none_of_two, none_of_three, none_of_parts}
use Rattle.sv_lower.proofs.constants.+nameless.Goals as goal

pub is_nameless-returns-in-Turned : goal.is_nameless-returns-in-Turned
is_nameless-returns-in-Turned t c = none_of_one _ _ _ (f.Turned c.in-Turned.field-0) (each_turned no_signal c.in-Turned.field-0) c.in-Turned.is c.get.ensures c.is_nameless.ensures

pub is_nameless-returns-in-Reduced : goal.is_nameless-returns-in-Reduced
is_nameless-returns-in-Reduced t c = none_of_one _ _ _ (f.Reduced c.in-Reduced.field-0) (each_reduced no_signal c.in-Reduced.field-0) c.in-Reduced.is c.get-in-Reduced.ensures c.is_nameless-in-Reduced.ensures

pub is_nameless-returns-in-Power : goal.is_nameless-returns-in-Power
is_nameless-returns-in-Power t c = none_of_one _ _ _ (λ x. f.Power x c.in-Power.field-1) (λ x. each_power no_signal x c.in-Power.field-1) c.in-Power.is c.get-in-Power.ensures c.is_nameless-in-Power.ensures

pub is_nameless-returns-in-Standing : goal.is_nameless-returns-in-Standing
is_nameless-returns-in-Standing t c = none_of_one _ _ _ f.Standing (each_standing no_signal) c.in-Standing.is c.get-in-Standing.ensures c.is_nameless-in-Standing.ensures

pub is_nameless-returns-in-Fitted : goal.is_nameless-returns-in-Fitted
is_nameless-returns-in-Fitted t c = none_of_one _ _ _ f.Fitted (each_fitted no_signal) c.in-Fitted.is c.get-in-Fitted.ensures c.is_nameless-in-Fitted.ensures

pub is_nameless-returns-in-Concat : goal.is_nameless-returns-in-Concat
is_nameless-returns-in-Concat t c = none_of_parts _ _ _ f.Concat (each_concat no_signal) c.in-Concat.is c.as_slice-in-Concat.ensures c.are_nameless.ensures

pub is_nameless-returns-in-Repeat : goal.is_nameless-returns-in-Repeat
is_nameless-returns-in-Repeat t c = none_of_parts _ _ _ (f.Repeat c.in-Repeat.field-0) (each_repeat no_signal c.in-Repeat.field-0) c.in-Repeat.is c.as_slice-in-Repeat.ensures c.are_nameless-in-Repeat.ensures

pub is_nameless-returns-then-is_nameless : goal.is_nameless-returns-then-is_nameless
is_nameless-returns-then-is_nameless t c = none_of_two _ _ _ _ _ (f.Computed c.in-Computed.field-0) (each_computed no_signal c.in-Computed.field-0) c.in-Computed.is c.get-in-Computed.ensures c.get-then-is_nameless.ensures (c.is_nameless-in-Computed.ensures c.if-is_nameless.true) c.is_nameless-then-is_nameless.ensures

pub is_nameless-returns-then-is_nameless-2 : goal.is_nameless-returns-then-is_nameless-2
is_nameless-returns-then-is_nameless-2 t c = none_of_two _ _ _ _ _ (f.Moved c.in-Moved.field-0) (each_moved no_signal c.in-Moved.field-0) c.in-Moved.is c.get-in-Moved.ensures c.get-then-is_nameless-2.ensures (c.is_nameless-in-Moved.ensures c.if-is_nameless-2.true) c.is_nameless-then-is_nameless-2.ensures

pub is_nameless-returns-then-is_nameless-3 : goal.is_nameless-returns-then-is_nameless-3
is_nameless-returns-then-is_nameless-3 t c = none_of_two _ _ _ _ _ (f.Compared c.in-Compared.field-0) (each_compared no_signal c.in-Compared.field-0) c.in-Compared.is c.get-in-Compared.ensures c.get-then-is_nameless-3.ensures (c.is_nameless-in-Compared.ensures c.if-is_nameless-3.true) c.is_nameless-then-is_nameless-3.ensures

pub is_nameless-returns-then-is_nameless-4 : goal.is_nameless-returns-then-is_nameless-4
is_nameless-returns-then-is_nameless-4 t c = none_of_two _ _ _ _ _ (f.Combined c.in-Combined.field-0) (each_combined no_signal c.in-Combined.field-0) c.in-Combined.is c.get-in-Combined.ensures c.get-then-is_nameless-4.ensures (c.is_nameless-in-Combined.ensures c.if-is_nameless-4.true) c.is_nameless-then-is_nameless-4.ensures

pub is_nameless-returns-then-is_nameless-6 : goal.is_nameless-returns-then-is_nameless-6
is_nameless-returns-then-is_nameless-6 t c = none_of_three _ _ _ _ _ _ _ c.in-Chosen.is c.get-in-Chosen.ensures c.get-then-is_nameless-5.ensures c.get-then-is_nameless-6.ensures (c.is_nameless-in-Chosen.ensures c.if-is_nameless-5.true) (c.is_nameless-then-is_nameless-5.ensures c.if-is_nameless-6.true) c.is_nameless-then-is_nameless-6.ensures

pub is_nameless-returns-in-Literal : goal.is_nameless-returns-in-Literal
is_nameless-returns-in-Literal t c = λ h. none_of_literal _ _ c.in-Literal.is

pub is_nameless-returns-then-is_number : goal.is_nameless-returns-then-is_number
is_nameless-returns-then-is_number t c = none_of_named _ _ _ _ c.in-Named.is c.as_slice.ensures (c.is_number.ensures c.if-is_number.true) c.are_picks_nameless.ensures
