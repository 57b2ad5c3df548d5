-- Names with the variable of a loop above them.
use Rattle.std.proofs.Common.{◌≡◌, List, [], ◌∷◌, ◌++◌, refl}
use Rattle.sv_names.specs.declared.names.Names.{Names}
use Rattle.sv_names.specs.Kinds.{Entry}
use Rattle.sv_names.specs.Names.{names_are, constants_are, stack_of, loops_of}
use Rattle.sv_names.proofs.Places.{more_names, more_constants}
use Rattle.sv_meaning.specs.Layouts.{Name}
use Rattle.sv_meaning.specs.Deeds.{with_index}
use Rattle.sv_loops.specs.Steps.{index_is}
use Rattle.fourvec.specs.declared.Bit.{Bit}

pub entered : (a b : Names) (name : Name) (bits : List Bit) → stack_of b ≡ stack_of a → loops_of b ≡ loops_of a ++ index_is name bits ∷ [] → names_are b ≡ with_index (names_are a) name bits
entered a b name bits f l = more_names a b (index_is name bits ∷ []) f l

-- the same of what a constant expression sees
pub entered_above : (a b : Names) (name : Name) (bits : List Bit) → stack_of b ≡ stack_of a → loops_of b ≡ loops_of a ++ index_is name bits ∷ [] → constants_are b ≡ with_index (constants_are a) name bits
entered_above a b name bits f l = more_constants a b (index_is name bits ∷ []) f l

pub last_off : (a b : List Entry) (x y : Entry) → a ++ x ∷ [] ≡ b ++ y ∷ [] → a ≡ b
last_off [] [] x y h = refl
last_off [] (c ∷ []) x y h = cc
last_off [] (c ∷ (d ∷ b)) x y h = cc
last_off (c ∷ []) [] x y h = cc
last_off (c ∷ (d ∷ a)) [] x y h = cc
last_off (c ∷ a) (d ∷ b) x y h = let t : a ≡ b = last_off a b x y cc in cc

pub none_off : (a b : List Entry) (x : Entry) → a ≡ [] → a ≡ b ++ x ∷ [] → a ≡ b
none_off a [] x h g = cc
none_off a (c ∷ b) x h g = cc
