-- Casts to the size or the type that a name gives.
use Rattle.std.proofs.Common.{◌≡◌, ℕ, ◌-◌, ◌*◌, ◌≤◌, Bool, true, false, nat_lt, not, List, [], length, Option, Some, None, Result, Ok, Err, refl, sym, ap, ◌∙◌, subst, arith, pos}
use Rattle.std.proofs.lemmas.Bool.Decides.{nat_tests}
use Rattle.std.proofs.lemmas.Int.{ints}
use Rattle.std.specs.List.{Contains}
use Rattle.fourvec.specs.declared.Bit.{Bit}
use Rattle.fourvec.specs.Bits.{is_known}
use Rattle.fourvec.proofs.Moves.{extend_none}
use Rattle.sv_outside.specs.declared.refusal.TextErr.{TextErr}
use Rattle.sv_tree.specs.declared.word.Word.{Word}
use Rattle.sv_meaning.specs.Faults.{not_constant}
use Rattle.sv_meaning.specs.Layouts.{width, plain, count_between, What, number_is, type_is, signal_is, genvar_is}
use Rattle.sv_meaning.specs.Meanings.{Meaning, from, to_layout, sized_by, named, constant_named, cast_to, constant_of, fixed_faults, chain_bits, chain_layout, chain_faults, all_indices, extend}
use Rattle.sv_typing.specs.declared.position.Fixed.{Fixed}
use Rattle.sv_names.specs.declared.layout.Known.{Known}
use Rattle.std.specs.Result.{IfErr}
use Rattle.sv_typed.specs.declared.tree.Typed.{Typed}
use Rattle.sv_names.specs.declared.layout.Layout as l
use Rattle.sv_names.specs.Kinds.{layout_is}
use Rattle.sv_typing.specs.Casts.{LayoutUnder, CountUnder, Refuses}
use Rattle.sv_typing.specs.Judging.{IsFixed, Fixes, Judges}
use Rattle.sv_typing.proofs.Lists.{in_fault, no_fault}

some_test : (n : ℕ) → 1 ≤ n → nat_lt 0 n ≡ true
some_test n e = grind (arith, nat_tests)

plain_size : (n : ℕ) (s : Bool) → 1 ≤ n → width (plain n s) ≡ n
plain_size n s h = let e : count_between (pos (n - 1)) (pos 0) * 1 ≡ n = omega (arith, ints) in e

extended : (s : Bool) (n : ℕ) (v : List Bit) → n ≡ length v → extend s n v ≡ v
extended true n v h = extend_none v n _ h
extended false n v h = extend_none v n _ h

number_own : (w : Word) (v : List Bit) (s : Bool) → 1 ≤ length v → constant_of (constant_named true w v s []) ≡ v
unfolding chain_bits chain_layout
number_own w v s h = extended s (width (plain (length v) s)) v (plain_size (length v) s h)

number_clear : (w : Word) (v : List Bit) (s : Bool) → 1 ≤ length v → is_known v ≡ true → fixed_faults (constant_named true w v s []) ≡ []
unfolding chain_layout chain_faults
number_clear w v s h k = no_fault _ not_constant w.place (ap not (ap is_known (number_own w v s h) ∙ k))

number_at : (w : Word) (v : List Bit) (s : Bool) (f : Fixed) → 1 ≤ length v → is_known v ≡ true → f.known ≡ record { value = v; signed = s } → f.constant ≡ true → IsFixed (constant_named true w v s []) f
unfolding chain_layout all_indices
number_at w v s f h k e c = record {
  clear = number_clear w v s h k;
  value = number_own w v s h ∙ sym (ap (λ (x : Known). x.value) e);
  signed = sym (ap (λ (x : Known). x.signed) e);
  constant = sym c;
}

pub number_fixed : (w : Word) (v : List Bit) (s : Bool) (f : Fixed) → 1 ≤ length v → is_known v ≡ true → f.known ≡ record { value = v; signed = s } → f.constant ≡ true → IsFixed (named w (Some (number_is v s)) []) f
number_fixed w v s f h k e c = subst (λ b. IsFixed (constant_named b w v s []) f) (sym (some_test (length v) h)) (number_at w v s f h k e c)

number_unknown : (w : Word) (v : List Bit) (s : Bool) → 1 ≤ length v → is_known v ≡ false → Contains (fixed_faults (constant_named true w v s [])) (record { number = not_constant; place = w.place; count = 0 })
unfolding chain_layout chain_faults
number_unknown w v s h k = in_fault _ not_constant w.place (ap not (ap is_known (number_own w v s h) ∙ k))

pub number_unfixed : (w : Word) (v : List Bit) (s : Bool) → 1 ≤ length v → is_known v ≡ false → Contains (fixed_faults (named w (Some (number_is v s)) [])) (record { number = not_constant; place = w.place; count = 0 })
number_unfixed w v s h k = subst (λ b. Contains (fixed_faults (constant_named b w v s [])) (record { number = not_constant; place = w.place; count = 0 })) (sym (some_test (length v) h)) (number_unknown w v s h k)

pub ruleset castings = (number_fixed, number_unfixed)

-- ---- the two kinds of targets

pub cast_type : (w : Word) (o : Option What) (x : l.Layout) (m : Meaning) (c : Bool) (r : Result Typed TextErr) → LayoutUnder o (Some x) → Judges (from w.place (to_layout (layout_is x) m)) c r → Judges (cast_to w o m) c r
cast_type w None x m c r h k = absurd h
cast_type w (Some (number_is v s)) x m c r h k = absurd h
cast_type w (Some (type_is t)) x m c r h k = subst (λ y. Judges (from w.place (to_layout y m)) c r) h.0 k
cast_type w (Some (signal_is o n y)) x m c r h k = absurd h
cast_type w (Some genvar_is) x m c r h k = absurd h

number_start : (b : Bool) (w : Word) (v : List Bit) (s : Bool) → (constant_named b w v s []).start ≡ w.place
unfolding chain_layout
number_start true w v s = refl
number_start false w v s = refl

refused_cast : (k : Meaning → Meaning) (m : Meaning) (c : Bool) (count : Result Fixed TextErr) (r : Result Typed TextErr) → Refuses k c count → IfErr count (λ e. r ≡ Err e) → Judges (k m) c r
refused_cast k m c (Ok f) r h e = absurd h
refused_cast k m c (Err x) r h e = subst (Judges (k m) c) (sym e) (h m)

pub cast_other : (w : Word) (o : Option What) (m : Meaning) (c : Bool) (count : Result Fixed TextErr) (r : Result Typed TextErr) → LayoutUnder o None → CountUnder w o c count →
    ((n : Meaning) → n.start ≡ w.place → Fixes n count → Judges (sized_by n m) c r) → IfErr count (λ e. r ≡ Err e) → Judges (cast_to w o m) c r
cast_other w None m c count r h k j e = refused_cast (cast_to w None) m c count r k e
cast_other w (Some (number_is v s)) m c count r h k j e = j (named w (Some (number_is v s)) []) (number_start (nat_lt 0 (length v)) w v s) k
cast_other w (Some (type_is t)) m c count r h k j e = absurd h
cast_other w (Some (signal_is o n y)) m c count r h k j e = refused_cast (cast_to w (Some (signal_is o n y))) m c count r k e
cast_other w (Some genvar_is) m c count r h k j e = refused_cast (cast_to w (Some genvar_is)) m c count r k e
