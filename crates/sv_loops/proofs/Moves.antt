-- The variable of a loop as a constant, and with an expression beside it.
use Rattle.std.proofs.Common.{◌≡◌, ◌-◌, ◌*◌, true, nat_lt, List, [], length, Some, refl, sym, ap, ◌∙◌, subst, arith, pos}
use Rattle.std.specs.List.{All}
use Rattle.std.proofs.lemmas.List.Elements.{All-from_recursion}
use Rattle.std.proofs.lemmas.Int.{ints}
use Rattle.fourvec.specs.declared.Bit.{Bit}
use Rattle.sv_outside.specs.declared.refusal.TextErr.{TextErr}
use Rattle.sv_tree.specs.declared.word.Word.{Word}
use Rattle.sv_meaning.specs.Layouts.{count_between, number_is}
use Rattle.sv_meaning.specs.Meanings.{Meaning, named, constant_named, chain_layout, chain_bits, chain_faults, all_indices}
use Rattle.sv_typed.specs.declared.tree.Pick.{Pick}
use Rattle.sv_typed.specs.declared.tree.Root.TheVariants.{Number}
use Rattle.sv_typed.specs.declared.tree.Typed.{Typed}
use Rattle.sv_typed.specs.declared.ops.Arithmetic.{Arithmetic}
use Rattle.sv_typed.specs.declared.ops.Pair.TheVariants.{Computed}
use Rattle.sv_typed.specs.Ops.{pair_meaning}
use Rattle.sv_typed.specs.Typed.{Stands, IsSound, IsNamed, RootIsSound, PickIsSound, picked, picked_width, are_constant_picks, names_picked}
use Rattle.sv_typing.specs.Judging.{IsTyped, IsCause}
use Rattle.sv_typing.proofs.Lists.{both_clear}
use Rattle.sv_typing.proofs.OfRules.{cause_right}
use Rattle.sv_loops.specs.Steps.{moved_by}

abbrev variable : Word → List Bit → Meaning
variable w a = named w (Some (number_is a true)) []

with_bits : (w : Word) (a : List Bit) → length a ≡ 32 → variable w a ≡ constant_named true w a true []
with_bits w a h = ap (λ n. constant_named (nat_lt 0 n) w a true []) h

variable_is : (w : Word) (a : List Bit) → length a ≡ 32 → IsNamed (Number a) [] true (constant_named true w a true [])
unfolding chain_layout chain_bits all_indices picked picked_width are_constant_picks names_picked
variable_is w a h = record {
  size = let e : count_between (pos (length a - 1)) (pos 0) * 1 ≡ length a = omega (arith, ints) in e;
  sign = refl;
  value = λ read n s. refl;
  constant = refl;
  literal = refl;
  names = λ x q. q;
}

variable_clear : (w : Word) (a : List Bit) → (constant_named true w a true []).faults true ≡ []
unfolding chain_layout chain_faults
variable_clear w a = refl

pub variable_ok : (w : Word) (a : List Bit) (t : Typed) (picks : List Pick) → length a ≡ 32 → picks ≡ [] → ((m : Meaning) → IsNamed (Number a) picks true m → Stands t m) → (RootIsSound (Number a) → All PickIsSound picks → IsSound t) →
    IsTyped (variable w a) ((variable w a).faults true) t
variable_ok w a t picks h e s i = record {
  clear = ap (λ (m : Meaning). m.faults true) (with_bits w a h) ∙ variable_clear w a;
  stands = s (variable w a) (subst (λ (ps : List Pick). IsNamed (Number a) ps true (variable w a)) (sym e) (subst (IsNamed (Number a) [] true) (sym (with_bits w a h)) (variable_is w a h)));
  sound = i (omega arith, omega arith) (subst (All PickIsSound) (sym e) (All-from_recursion PickIsSound [] tt));
}

pub moved_ok : (op : Arithmetic) (w : Word) (a : List Bit) (m : Meaning) (x y t : Typed) → IsTyped (variable w a) ((variable w a).faults true) x → IsTyped m (m.faults true) y → Stands t (pair_meaning (Computed op) (variable w a) m) → IsSound t →
    IsTyped (moved_by op w a m) ((moved_by op w a m).faults true) t
unfolding Stands
moved_ok op w a m x y t h k s i = record {
  clear = both_clear _ _ h.clear k.clear;
  stands = record { is = ap (λ (z : Meaning). record z { start = m.start }) s.is; names = s.names };
  sound = i;
}

pub moved_cause : (op : Arithmetic) (w : Word) (a : List Bit) (m : Meaning) (e : TextErr) → IsCause (m.faults true) e → IsCause ((moved_by op w a m).faults true) e
moved_cause op w a m e h = cause_right ((variable w a).faults true) (m.faults true) e h
