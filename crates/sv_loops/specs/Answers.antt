-- What an answer of the program has to do with what is judged.
use Rattle.std.specs.Prelude.{◌≡◌, Result, Ok, Err}
use Rattle.std.specs.List.{Contains}
use Rattle.sv_outside.specs.declared.refusal.TextErr.{TextErr}
use Rattle.sv_outside.specs.declared.refusal.TextErr.TheVariants.{No, Memory}
use Rattle.sv_meaning.specs.Faults.{Judged}

-- A value where there is one, the two being related so; a refusal that is among what stands against it; or want of memory.
abbrev pub Answers : {A B : Type 0} → (A → B → Type 0) → Judged A → Result B TextErr → Type 0
Answers r (Ok x) (Ok y) = r x y
Answers r (Ok x) (Err (No e)) = ⊥
Answers r (Err all) (Ok y) = ⊥
Answers r (Err all) (Err (No e)) = Contains all e
Answers r j (Err Memory) = Unit {0}

-- the very value
abbrev pub Gives : {A : Type 0} → Judged A → Result A TextErr → Type 0
Gives j answer = Answers (λ x y. x ≡ y) j answer
