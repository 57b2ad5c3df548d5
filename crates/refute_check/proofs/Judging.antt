-- What the check of a log refuses is what its judge refuses.
use Rattle.std.proofs.Common.{◌≡◌, ℕ, ◌↔◌, List, Result, Ok, Err, ap, sym, ◌∙◌}
use Rattle.cnf.specs.Formula.{Formula}
use Rattle.refute_check.specs.Accepted.{IsBadAt}
use Rattle.refute_check.specs.Certs.{Certificate}
use Rattle.refute_check.specs.Entry.{Entry}
use Rattle.refute_check.specs.declared.checker.CheckErr.{CheckErr}
use Rattle.refute_check.specs.declared.checker.CheckErr.TheVariants.{Bad}

err_as : {A B E : Type 0} (x y : E) → ◌≡◌ {A = Result A E} (Err x) (Err y) → ◌≡◌ {A = Result B E} (Err x) (Err y)
err_as x y p = cc

pub bad_as : {A B : Type 0} (formula : Formula) (log : List Entry) (checked : Result A CheckErr) (bad : CheckErr) → checked ≡ Err bad → ((k : ℕ) → (checked ≡ Err (Bad k)) ↔ IsBadAt formula log k)
    → (k : ℕ) → (◌≡◌ {A = Result B CheckErr} (Err bad) (Err (Bad k))) ↔ IsBadAt formula log k
bad_as formula log checked bad is h k = (λ p. (h k).0 (is ∙ err_as bad (Bad k) p), λ q. err_as bad (Bad k) (sym is ∙ (h k).1 q))
