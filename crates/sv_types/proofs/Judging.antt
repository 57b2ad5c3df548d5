-- What is judged by itself, one after the other, or under a condition.
use Rattle.std.proofs.Common.{◌≡◌, [], ◌∷◌, Ok, Err, refl, sym, ap, ◌∙◌, subst}
use Rattle.sv_outside.specs.declared.refusal.TextErr.{TextErr}
use Rattle.sv_outside.specs.declared.refusal.TextErr.TheVariants.{No, Memory}
use Rattle.sv_meaning.specs.Faults.{Faults, Judged, faults_of, provided, both, ◌>>=◌}
use Rattle.sv_typing.specs.Judging.{IsCause}
use Rattle.sv_typing.proofs.Lists.{in_left, in_right, none_in}
use Rattle.sv_types.specs.Types.{Refused}

pub both_ok : {A B : Type 0} (j : Judged A) (k : Judged B) (x : A) (y : B) → j ≡ Ok x → k ≡ Ok y → both j k ≡ Ok (x, y)
both_ok j k x y h i = ap (λ z. both z k) h ∙ ap (λ z. both (Ok x) z) i

pub both_left : {A B : Type 0} (j : Judged A) (k : Judged B) (e : TextErr) → Refused j e → Refused (both j k) e
both_left j k Memory h = tt
both_left (Ok x) k (No r) h = absurd (none_in [] r refl h)
both_left (Err all) k (No r) h = in_left all (faults_of k) r h

pub both_right : {A B : Type 0} (j : Judged A) (k : Judged B) (e : TextErr) → Refused k e → Refused (both j k) e
both_right j k Memory h = tt
both_right (Ok x) (Ok y) (No r) h = h
both_right (Ok x) (Err more) (No r) h = h
both_right (Err all) k (No r) h = in_right all (faults_of k) r h

pub then_ok : {A B : Type 0} (j : Judged A) (f : A → Judged B) (x : A) (y : B) → j ≡ Ok x → f x ≡ Ok y → (j >>= f) ≡ Ok y
then_ok j f x y h i = ap (λ z. z >>= f) h ∙ i

pub then_err : {A B : Type 0} (j : Judged A) (f : A → Judged B) (e : TextErr) → Refused j e → Refused (j >>= f) e
then_err j f Memory h = tt
then_err (Ok x) f (No r) h = absurd (none_in [] r refl h)
then_err (Err all) f (No r) h = h

pub refused_as : {A : Type 0} (j k : Judged A) (e : TextErr) → j ≡ k → Refused k e → Refused j e
refused_as j k e h r = subst (λ z. Refused z e) (sym h) r

pub then_in : {A B : Type 0} (j : Judged A) (f : A → Judged B) (x : A) (e : TextErr) → j ≡ Ok x → Refused (f x) e → Refused (j >>= f) e
then_in j f x e h r = refused_as (j >>= f) (f x) e (ap (λ z. z >>= f) h) r

pub provided_ok : {A : Type 0} (a : Faults) (x : A) → a ≡ [] → provided a x ≡ Ok x
provided_ok a x h = ap (λ z. provided z x) h

pub provided_err : {A : Type 0} (a : Faults) (x : A) (e : TextErr) → IsCause a e → Refused (provided a x) e
provided_err a x Memory h = tt
provided_err [] x (No r) h = h
provided_err (f ∷ all) x (No r) h = h
