-- The words of refusals.
use Rattle.std.proofs.Common.{◌≡◌, ℕ, zero, suc, ◌∷◌, ◌<◌, [], refl, arith, sym}
use Rattle.std.proofs.lemmas.List.{get_or_past}
use Rattle.svtv_report.specs.Refusals.{words, word_of}

past_all : (n : ℕ) → 48 < n → word_of n ≡ []
past_all n above = get_or_past ([] ∷ words) n [] (omega arith)

-- no refusal has a number that is 0 or above 48
pub no_word : (n : ℕ) → (0 < n → 48 < n) → [] ≡ word_of n
no_word zero h = refl
no_word (suc k) h = sym (past_all (suc k) (h (omega arith)))
