-- The list of directives stands for what each name does.
use Rattle.std.proofs.Common.{◌≡◌, ℕ, List, [], ◌∷◌, false, ◌==◌, refl, arith}
use Rattle.std.proofs.lemmas.Bool.Decides.{nat_tests}
use Rattle.sv_preproc.specs.declared.role.Role.TheVariants as role
use Rattle.sv_preproc.specs.Roles.{command}

-- a text without a backtick at its front is no directive
pub empty_used : (text : List ℕ) → text ≡ [] → role.Used ≡ command text
unfolding command
empty_used text e = rw e refl

pub other_used : (text bs : List ℕ) (b : ℕ) → text ≡ b ∷ bs → (b ≡ 96 → ⊥) → role.Used ≡ command text
unfolding command
other_used text bs b e n = let h : (b == 96) ≡ false = grind (arith, nat_tests, n) in rw (e, h) refl
