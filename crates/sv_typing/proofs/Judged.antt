-- What a result of typing says at a result that is known.
use Rattle.std.proofs.Common.{◌≡◌, Result, Ok, Err, subst}
use Rattle.std.specs.List.{Contains}
use Rattle.sv_outside.specs.declared.refusal.Refusal.{Refusal}
use Rattle.sv_outside.specs.declared.refusal.TextErr.{TextErr}
use Rattle.sv_outside.specs.declared.refusal.TextErr.TheVariants.{No, Memory}
use Rattle.sv_typed.specs.declared.tree.Typed.{Typed}
use Rattle.sv_meaning.specs.Faults.{Faults}
use Rattle.sv_meaning.specs.Meanings.{Meaning, fixed_faults}
use Rattle.sv_typing.specs.declared.position.Fixed.{Fixed}
use Rattle.sv_typing.specs.Judging.{IsCause, IsTyped, Types, IsFixed, Fixes}

pub typed_ok : (m : Meaning) (all : Faults) (r : Result Typed TextErr) (t : Typed) → r ≡ Ok t → Types m all r → IsTyped m all t
typed_ok m all r t e h = subst (Types m all) e h

pub typed_err : (m : Meaning) (all : Faults) (r : Result Typed TextErr) (x : TextErr) → r ≡ Err x → Types m all r → IsCause all x
typed_err m all r x e h = subst (Types m all) e h

pub fixed_ok : (m : Meaning) (r : Result Fixed TextErr) (f : Fixed) → r ≡ Ok f → Fixes m r → IsFixed m f
fixed_ok m r f e h = subst (Fixes m) e h

pub fixed_err : (m : Meaning) (r : Result Fixed TextErr) (x : TextErr) → r ≡ Err x → Fixes m r → IsCause (fixed_faults m) x
fixed_err m r x e h = subst (Fixes m) e h

pub cause_from : (f g : Faults) → ((r : Refusal) → Contains f r → Contains g r) → (e : TextErr) → IsCause f e → IsCause g e
cause_from f g h (No r) c = h r c
cause_from f g h Memory c = tt
