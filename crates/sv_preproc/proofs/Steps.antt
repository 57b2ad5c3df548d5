-- What the steps of items come to.
use Rattle.std.proofs.Common.{◌≡◌, List, Bool, sym, subst, Result, Ok, Err}
use denote.Ref.{Bor}
use Rattle.std.specs.Result.{IfOk, IfErr}
use Rattle.sv_token.specs.declared.lexer.Lined.{Lined}
use Rattle.sv_preproc.specs.declared.error.PreErr.{PreErr}
use Rattle.sv_preproc.specs.declared.error.PreErr.TheVariants.{Memory}
use Rattle.sv_preproc.specs.declared.stepping.Step.{Step}
use Rattle.sv_preproc.specs.declared.stepping.Step.TheVariants as stepped
use Rattle.sv_preproc.specs.Seen.{GoesOn}

-- what a step that goes on comes to
pub goes_on : (r : Result Step PreErr) (P : Bool → List Lined → Type 0) (Q : Step → Type 0) → IfOk r (GoesOn P)
    → ((inside : Bool) (rest : Bor (List Lined)) → P inside rest.now → Q (stepped.Behind inside rest)) → IfOk r Q
goes_on (Ok (stepped.Behind inside rest)) P Q h f = f inside rest h
goes_on (Ok (stepped.Include directive path rest)) P Q h f = absurd h
goes_on (Err e) P Q h f = tt

-- the same, with what holds of the state
pub goes_on_with : (r : Result Step PreErr) (S : Type 0) (P : Bool → List Lined → Type 0) (Q : Step → Type 0) → IfOk r (λ _. S) → IfOk r (GoesOn P)
    → (S → (inside : Bool) (rest : Bor (List Lined)) → P inside rest.now → Q (stepped.Behind inside rest)) → IfOk r Q
goes_on_with (Ok (stepped.Behind inside rest)) S P Q s h f = f s inside rest h
goes_on_with (Ok (stepped.Include directive path rest)) S P Q s h f = absurd h
goes_on_with (Err e) S P Q s h f = tt

-- what holds whether an item is read or not
pub still : {T E : Type 0} (r : Result T E) (P : Type 0) → P → IfOk r (λ _. P)
still (Ok v) P h = h
still (Err e) P h = tt

-- what is said of want of memory
pub wanting : {T : Type 0} (r : Result T PreErr) (Q : PreErr → Type 0) → Q Memory → IfErr r (λ e. e ≡ Memory) → IfErr r Q
wanting (Ok v) Q h e = tt
wanting (Err e) Q h s = subst Q (sym s) h

pub refused_by : {T : Type 0} (r : Result T PreErr) (P Q : PreErr → Type 0) → IfErr r P → ((e : PreErr) → P e → Q e) → IfErr r Q
refused_by (Ok v) P Q h f = tt
refused_by (Err e) P Q h f = f e h
