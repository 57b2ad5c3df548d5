-- Names with constants above them.
use Rattle.std.proofs.Common.{◌≡◌, List, [], ◌∷◌, ◌++◌, map, Result, Ok, Err, refl, sym, ap, ◌∙◌, append_assoc}
use Rattle.std.specs.Result.{OnOk, OnErr}
use Rattle.std.proofs.lemmas.List.{append-nil}
use Rattle.sv_meaning.specs.Forms.{entries_of}
use Rattle.sv_names.specs.declared.names.Names.{Names}
use Rattle.sv_names.specs.Kinds.{Entry, entry_is, entries_are}
use Rattle.sv_names.proofs.Places.{more_constants}
use Rattle.sv_meaning.specs.Layouts as m
use Rattle.sv_names.specs.Names.{stack_of, loops_of, constants_are}
use Rattle.sv_types.specs.declared.enumerators.Enumerator.{Enumerator}
use Rattle.sv_types.specs.Types.{IsAbove, Left, all_declared, pushed}

pub above_none : (a : Names) → IsAbove a a []
above_none a = record { frames = refl; loops = sym (append-nil (loops_of a)) }

pub above_same : (a b : Names) → stack_of b ≡ stack_of a → loops_of b ≡ loops_of a → IsAbove a b []
above_same a b f l = record { frames = f; loops = l ∙ sym (append-nil (loops_of a)) }

pub above_then : (a b c : Names) (x y : List Entry) → IsAbove a b x → IsAbove b c y → IsAbove a c (x ++ y)
above_then a b c x y h k = record {
  frames = k.frames ∙ h.frames;
  loops = k.loops ∙ ap (λ z. z ++ y) h.loops ∙ append_assoc (loops_of a) x y;
}

pub left_then : (a b c : Names) (x : List Entry) → IsAbove a b x → Left b c → Left a c
left_then a b c x h (y, k) = (x ++ y, above_then a b c x y h k)

-- ---- what constant expressions see

pub with_none : (at : m.Scope) → m.with_names at [] ≡ at
with_none at = λ i. record { all = append-nil at.all i; above = append-nil at.above i }

pub with_both : (at : m.Scope) (a b : List m.Entry) → m.with_names (m.with_names at a) b ≡ m.with_names at (a ++ b)
with_both at a b = λ i. record { all = append_assoc at.all a b i; above = append_assoc at.above a b i }

-- the names are those of the constants
constants_named : (all : List Enumerator) → entries_are (map pushed all) ≡ entries_of (all_declared all)
constants_named [] = refl
constants_named (e ∷ all) = ap (λ z. entry_is (pushed e) ∷ z) (constants_named all)

pub above_names : (a b : Names) (all : List Enumerator) → IsAbove a b (map pushed all) → constants_are b ≡ m.with_names (constants_are a) (entries_of (all_declared all))
above_names a b all h = more_constants a b (map pushed all) h.frames h.loops ∙ ap (m.with_names (constants_are a)) (constants_named all)

-- ---- what holds whatever is answered

pub on_ok_always : {T E : Type 0} (r : Result T E) (P : Type 0) → P → OnOk r P
on_ok_always (Ok x) P h = h
on_ok_always (Err e) P h = tt

pub on_err_always : {T E : Type 0} (r : Result T E) (P : Type 0) → P → OnErr r P
on_err_always (Ok x) P h = tt
on_err_always (Err e) P h = h
