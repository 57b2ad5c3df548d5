-- Casts to the size or the type that a name gives (IEEE 1800-2017, 6.24.1).
use Rattle.std.specs.Prelude.{◌≡◌, Bool, [], Option, Some, None, Result, Ok, Err}
use Rattle.sv_outside.specs.declared.refusal.TextErr.{TextErr}
use Rattle.sv_tree.specs.declared.word.Word.{Word}
use Rattle.sv_meaning.specs.Layouts.{What, number_is, type_is}
use Rattle.sv_meaning.specs.Meanings.{Meaning, named, cast_to}
use Rattle.sv_names.specs.declared.layout.Layout.{Layout}
use Rattle.sv_typing.specs.declared.position.Fixed.{Fixed}
use Rattle.sv_names.specs.Kinds.{layout_is, IsSound}
use Rattle.sv_typing.specs.Judging.{IsCause, Fixes}

-- the layout of a type, where a name stands for one
abbrev pub LayoutUnder : Option What → Option Layout → Type 0
LayoutUnder (Some (type_is t)) (Some x) = (layout_is x ≡ t) × IsSound x
LayoutUnder (Some (type_is t)) None = ⊥
LayoutUnder o (Some x) = ⊥
LayoutUnder o None = Unit {0}

-- refused whatever is cast
abbrev pub Refuses : (Meaning → Meaning) → Bool → Result Fixed TextErr → Type 0
Refuses k c (Ok f) = ⊥
Refuses k c (Err e) = (m : Meaning) → IsCause ((k m).faults c) e

-- the size that a constant gives, where a name stands for no type
abbrev pub CountUnder : Word → Option What → Bool → Result Fixed TextErr → Type 0
CountUnder w (Some (number_is v s)) c r = Fixes (named w (Some (number_is v s)) []) r
CountUnder w (Some (type_is t)) c r = Unit {0}
CountUnder w o c r = Refuses (cast_to w o) c r
