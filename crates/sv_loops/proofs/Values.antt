-- Constants as the program finds them.
use Rattle.std.proofs.Common.{◌≡◌, max, true, false, not, List, [], ◌∷◌, take, slice_get, Some, Ok, Err, sym, ap, ◌∙◌, subst, Bool, arith}
use Rattle.std.specs.List.{Contains}
use Rattle.fourvec.specs.declared.Bit.{Bit}
use Rattle.fourvec.specs.Bits.{first, is_known, truth_of}
use Rattle.sv_outside.specs.declared.refusal.Place.{Place}
use Rattle.sv_outside.specs.declared.refusal.TextErr.{TextErr}
use Rattle.sv_outside.specs.declared.refusal.TextErr.TheVariants.{No, Memory}
use Rattle.sv_meaning.specs.Faults.{Faults, provided, not_constant}
use Rattle.sv_meaning.specs.Meanings.{Meaning, nowhere, assigned, truth, fixed_faults}
use Rattle.sv_meaning.specs.Params.{converted_faults}
use Rattle.sv_meaning.specs.Deeds.{index_value, fixed_truth, is_taken}
use Rattle.sv_typed.specs.declared.tree.Typed.{Typed}
use Rattle.sv_typed.specs.Typed.{Stands, worth, own}
use Rattle.sv_typing.specs.Judging.{IsTyped, IsCause}
use Rattle.sv_typing.proofs.Lists.{in_second, in_fault, no_fault, then_clear}
use Rattle.sv_typing.proofs.OfRules.{cause_first}
use Rattle.sv_typing.proofs.Fixing.{own_is}
use Rattle.sv_loops.specs.Answers.{Gives}

pub taken_is : (a : List Bit) (b : Bit) → slice_get a 0 ≡ Some b → is_taken (first a) ≡ is_taken b
taken_is [] b h = cc
taken_is (x ∷ a) b h = let e : x ≡ b = cc in ap is_taken e

-- ---- what is judged by its faults

clear_gives : {A : Type 0} (all : Faults) (x y : A) → all ≡ [] → x ≡ y → Gives (provided all x) (Ok y)
clear_gives [] x y e h = h
clear_gives (f ∷ all) x y e h = cc

faulty_gives : {A : Type 0} (all : Faults) (x : A) (e : TextErr) → IsCause all e → Gives (provided all x) (Err e)
faulty_gives [] x (No r) h = absurd (omega (arith, h.1))
faulty_gives [] x Memory h = tt
faulty_gives (f ∷ all) x (No r) h = h
faulty_gives (f ∷ all) x Memory h = tt

-- ---- the value of a loop's variable

assigned_is : (m : Meaning) (t : Typed) → Stands t m → assigned m nowhere 32 ≡ take 32 (worth t nowhere (max 32 t.width) t.signed)
unfolding Stands
assigned_is m t h = ap (λ x. assigned x nowhere 32) h.is

pub index_ok : (m : Meaning) (t : Typed) (a : List Bit) → IsTyped m (m.faults true) t → a ≡ take 32 (worth t nowhere (max 32 t.width) t.signed) → is_known a ≡ true → Gives (index_value m) (Ok a)
index_ok m t a h v k =
    let e : assigned m nowhere 32 ≡ a = assigned_is m t h.stands ∙ sym v in
    clear_gives (converted_faults 32 m) (assigned m nowhere 32) a (then_clear (m.faults true) _ h.clear (no_fault _ not_constant m.start (ap not (ap is_known e ∙ k)))) e

pub index_unknown : (m : Meaning) (t : Typed) (a : List Bit) (p : Place) → IsTyped m (m.faults true) t → m.start ≡ p → a ≡ take 32 (worth t nowhere (max 32 t.width) t.signed) → is_known a ≡ false →
    Gives (index_value m) (Err (No (record { number = not_constant; place = p; count = 0 })))
index_unknown m t a p h s v k =
    faulty_gives (converted_faults 32 m) (assigned m nowhere 32) (No (record { number = not_constant; place = p; count = 0 }))
    (subst (λ q. Contains (converted_faults 32 m) (record { number = not_constant; place = q; count = 0 })) s
    (in_second (m.faults true) _ _ h.clear (in_fault _ not_constant m.start (ap not (ap is_known (assigned_is m t h.stands ∙ sym v) ∙ k)))))

pub index_cause : (m : Meaning) (e : TextErr) → IsCause (m.faults true) e → Gives (index_value m) (Err e)
index_cause m e h = faulty_gives (converted_faults 32 m) (assigned m nowhere 32) e (cause_first (m.faults true) _ e h)

-- ---- conditions

truth_is : (m : Meaning) (t : Typed) → Stands t m → is_taken (truth m nowhere) ≡ is_taken (first (truth_of (own t nowhere)))
unfolding Stands
truth_is m t h = ap (λ x. is_taken (truth x nowhere)) h.is

pub truth_ok : (m : Meaning) (t : Typed) (b : Bool) → IsTyped m (m.faults true) t → b ≡ is_taken (first (truth_of (own t nowhere))) → is_known (own t nowhere) ≡ true → Gives (fixed_truth m) (Ok b)
truth_ok m t b h v k =
    clear_gives (fixed_faults m) (is_taken (truth m nowhere)) b (then_clear (m.faults true) _ h.clear (no_fault _ not_constant m.start (ap not (ap is_known (own_is t m h.stands) ∙ k))))
    (truth_is m t h.stands ∙ sym v)

pub truth_unknown : (m : Meaning) (t : Typed) (p : Place) → IsTyped m (m.faults true) t → m.start ≡ p → is_known (own t nowhere) ≡ false →
    Gives (fixed_truth m) (Err (No (record { number = not_constant; place = p; count = 0 })))
truth_unknown m t p h s k =
    faulty_gives (fixed_faults m) (is_taken (truth m nowhere)) (No (record { number = not_constant; place = p; count = 0 }))
    (subst (λ q. Contains (fixed_faults m) (record { number = not_constant; place = q; count = 0 })) s
    (in_second (m.faults true) _ _ h.clear (in_fault _ not_constant m.start (ap not (ap is_known (own_is t m h.stands) ∙ k)))))

pub truth_cause : (m : Meaning) (e : TextErr) → IsCause (m.faults true) e → Gives (fixed_truth m) (Err e)
truth_cause m e h = faulty_gives (fixed_faults m) (is_taken (truth m nowhere)) e (cause_first (m.faults true) _ e h)
