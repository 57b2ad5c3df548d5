-- Statements one after the other, and what stands against them.
use Rattle.std.proofs.Common.{◌≡◌, ℕ, suc, ◌+◌, ◌<◌, ◌≤◌, List, [], ◌∷◌, ◌++◌, length, take, drop, get_or, refl, sym, ap, ◌∙◌, subst, arith, append_assoc}
use Rattle.std.proofs.lemmas.List.{append-nil, take_all, take-append-drop}
use Rattle.std.proofs.Math.Seq.{take-suc}
use Rattle.std.specs.List.{Contains}
use Rattle.sv_outside.specs.declared.refusal.Refusal.{Refusal}
use Rattle.sv_outside.specs.declared.refusal.TextErr.{TextErr}
use Rattle.sv_meaning.specs.Faults.{Faults, or_then}
use Rattle.sv_meaning.specs.Deeds.{Deed, idle, after}
use Rattle.sv_typing.specs.Judging.{IsCause}
use Rattle.sv_typing.proofs.Lists.{in_left, in_right, in_first, in_second, contains_both}
use Rattle.sv_typing.proofs.Judged.{cause_from}
use Rattle.sv_actions.specs.Listing.{in_order}

-- ---- deeds one after the other

or_assoc : (x y z : Faults) → or_then (or_then x y) z ≡ or_then x (or_then y z)
or_assoc [] y z = refl
or_assoc (f ∷ x) y z = refl

or_none : (x : Faults) → or_then x [] ≡ x
or_none [] = refl
or_none (f ∷ x) = refl

add_assoc : (a b c : ℕ) → (a + b) + c ≡ a + (b + c)
add_assoc a b c = omega arith

overrun_assoc : (a b c : Deed) (made : ℕ) →
    or_then (or_then (a.overrun made) (b.overrun (made + a.turns))) (c.overrun (made + (a.turns + b.turns))) ≡ or_then (a.overrun made) (or_then (b.overrun (made + a.turns)) (c.overrun ((made + a.turns) + b.turns)))
overrun_assoc a b c made =
    ap (λ (n : ℕ). or_then (or_then (a.overrun made) (b.overrun (made + a.turns))) (c.overrun n)) (sym (add_assoc made a.turns b.turns))
    ∙ or_assoc (a.overrun made) (b.overrun (made + a.turns)) (c.overrun ((made + a.turns) + b.turns))

pub after_assoc : (a b c : Deed) → after (after a b) c ≡ after a (after b c)
after_assoc a b c = λ i. record {
  run = λ look store. c.run look (b.run look (a.run look store));
  targets = append_assoc a.targets b.targets c.targets i;
  names = append_assoc a.names b.names c.names i;
  faults = append_assoc a.faults b.faults c.faults i;
  turns = add_assoc a.turns b.turns c.turns i;
  overrun = λ made. overrun_assoc a b c made i;
}

no_more : (n : ℕ) → n + 0 ≡ n
no_more n = omega arith

pub after_idle : (a : Deed) → after a idle ≡ a
after_idle a = λ i. record {
  run = λ look store. a.run look store;
  targets = append-nil a.targets i;
  names = append-nil a.names i;
  faults = append-nil a.faults i;
  turns = no_more a.turns i;
  overrun = λ made. or_none (a.overrun made) i;
}

none_first : (n : ℕ) → 0 + n ≡ n
none_first n = omega arith

pub idle_after : (a : Deed) → after idle a ≡ a
idle_after a = λ i. record {
  run = λ look store. a.run look store;
  targets = a.targets;
  names = a.names;
  faults = a.faults;
  turns = none_first a.turns i;
  overrun = λ made. a.overrun (no_more made i);
}

-- ---- lists

pub order_join : {A : Type 0} (f : A → Deed) (xs ys : List A) → in_order f (xs ++ ys) ≡ after (in_order f xs) (in_order f ys)
unfolding in_order
order_join f [] ys = sym (idle_after (in_order f ys))
order_join f (x ∷ xs) ys = ap (after (f x)) (order_join f xs ys) ∙ sym (after_assoc (f x) (in_order f xs) (in_order f ys))

pub order_one : {A : Type 0} (f : A → Deed) (x : A) → in_order f (x ∷ []) ≡ f x
unfolding in_order
order_one f x = after_idle (f x)

pub order_none : {A : Type 0} (f : A → Deed) → in_order f [] ≡ idle
unfolding in_order
order_none f = refl

pub order_more : {A : Type 0} (f : A → Deed) (xs : List A) (x : A) → in_order f (xs ++ x ∷ []) ≡ after (in_order f xs) (f x)
order_more f xs x = order_join f xs (x ∷ []) ∙ ap (after (in_order f xs)) (order_one f x)

pub take_next : {A : Type 0} (xs : List A) (i : ℕ) (x : A) → i < length xs → x ≡ get_or xs i x → take (i + 1) xs ≡ take i xs ++ x ∷ []
take_next xs i x h e = let n : i + 1 ≡ suc i = omega arith in ap (λ (k : ℕ). take k xs) n ∙ take-suc xs i x h ∙ ap (λ z. take i xs ++ z ∷ []) (sym e)

pub order_next : {A : Type 0} (f : A → Deed) (xs : List A) (i : ℕ) (x : A) → i < length xs → x ≡ get_or xs i x → in_order f (take (i + 1) xs) ≡ after (in_order f (take i xs)) (f x)
order_next f xs i x h e = ap (in_order f) (take_next xs i x h e) ∙ order_more f (take i xs) x

pub order_all : {A : Type 0} (f : A → Deed) (xs : List A) (i : ℕ) → length xs ≤ i → in_order f (take i xs) ≡ in_order f xs
order_all f xs i h = ap (in_order f) (take_all i xs h)

-- ---- refusals

-- what stands against a deed
abbrev pub stands : Deed → ℕ → Faults
stands d made = d.faults ++ d.overrun made

-- what stands against two, the second judged behind the first
abbrev pub joint : Deed → Deed → ℕ → Faults
joint a b made = (a.faults ++ b.faults) ++ or_then (a.overrun made) (b.overrun (made + a.turns))

pub joint_in : (a b : Deed) (made : ℕ) (r : Refusal) → Contains (stands a made) r → Contains (joint a b made) r
joint_in a b made r h =
    contains_both a.faults (a.overrun made) (a.faults ++ b.faults) (or_then (a.overrun made) (b.overrun (made + a.turns))) r (in_left a.faults b.faults r) (in_first (a.overrun made) (b.overrun (made + a.turns)) r) h

pub joint_first : (a b : Deed) (made : ℕ) (e : TextErr) → IsCause (stands a made) e → IsCause (joint a b made) e
joint_first a b made e h = cause_from (stands a made) (joint a b made) (joint_in a b made) e h

pub joint_second : (a b : Deed) (made n : ℕ) (e : TextErr) → a.overrun made ≡ [] → n ≡ made + a.turns → IsCause (stands b n) e → IsCause (joint a b made) e
joint_second a b made n e c k h =
    cause_from (stands b (made + a.turns)) (joint a b made) (λ r. contains_both b.faults (b.overrun (made + a.turns)) (a.faults ++ b.faults) (or_then (a.overrun made) (b.overrun (made + a.turns))) r
    (in_right a.faults b.faults r) (in_second (a.overrun made) (b.overrun (made + a.turns)) r c)) e (subst (λ (m : ℕ). IsCause (stands b m) e) k h)

-- what stands behind more
pub behind_more : (f g o : Faults) (e : TextErr) → IsCause (g ++ o) e → IsCause ((f ++ g) ++ o) e
behind_more f g o e h = cause_from (g ++ o) ((f ++ g) ++ o) (λ r. contains_both g o (f ++ g) o r (in_right f g r) (λ k. k)) e h

-- what is in a front is in the whole
pub order_cause : {A : Type 0} (f : A → Deed) (xs : List A) (i : ℕ) (made : ℕ) (e : TextErr) → IsCause (stands (in_order f (take i xs)) made) e → IsCause (stands (in_order f xs) made) e
order_cause f xs i made e h =
    subst (λ (d : Deed). IsCause (stands d made) e) (sym (order_join f (take i xs) (drop i xs)) ∙ ap (in_order f) (take-append-drop i xs))
    (joint_first (in_order f (take i xs)) (in_order f (drop i xs)) made e h)
