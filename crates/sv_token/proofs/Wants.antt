-- What is said where memory runs out, and of an error that is handed on.
use Rattle.std.proofs.Common.{◌≡◌, ◌≤◌, ℕ, List, refl, sym, ◌∙◌, ap, subst, length, map, Result, Ok, Err}
use Rattle.std.proofs.lemmas.List.{length-map}
use Rattle.std.specs.Result.{IsErr, IsErrAnd, IfErr}
use Rattle.sv_outside.specs.declared.refusal.Refusal.{Refusal}
use Rattle.sv_outside.specs.declared.refusal.TextErr.{TextErr}
use Rattle.sv_outside.specs.declared.refusal.TextErr.TheVariants.{Memory}
use Rattle.sv_outside.specs.declared.text.Token.{Token}
use Rattle.sv_token.specs.declared.lexer.Lined.{Lined}
use Rattle.sv_token.specs.Cut.{IsWithin, most_tokens}
use Rattle.sv_token.specs.Result.{GivesOnly, IfRefused}

pub unrefused : {V : Type 0} (r : Result V TextErr) (Why : Refusal → Type 0) → IsErrAnd r (λ e. e ≡ Memory) → IfErr r (IfRefused Why)
unrefused (Ok v) Why h = tt
unrefused (Err e) Why h = subst (IfRefused Why) (sym h) tt

pub given_none : {V T : Type 0} (view : V → List T) (r : Result V TextErr) (tokens : List T) → IsErrAnd r (λ e. e ≡ Memory) → GivesOnly view r tokens
given_none view (Ok v) tokens h = absurd h
given_none view (Err e) tokens h = subst (λ x. GivesOnly view (Err x) tokens) (sym h) tt

pub is_err : {V E : Type 0} (r : Result V E) (e : E) → IsErrAnd r (λ x. x ≡ e) → IsErr r
is_err (Ok v) e h = absurd h
is_err (Err x) e h = refl

pub handed_on : {V E : Type 0} (r : Result V E) (e : E) (P : E → Type 0) → IsErrAnd r (λ x. x ≡ e) → P e → IfErr r P
handed_on (Ok v) e P h p = tt
handed_on (Err x) e P h p = subst P (sym h) p

pub within_tokens : (text : List ℕ) (lines : List Lined) (tokens : List Token) → tokens ≡ map (λ a. a.token) lines → IsWithin text lines → IsWithin text tokens
within_tokens text lines tokens e w = (w.0, subst (λ n. n ≤ most_tokens) (sym (ap length e ∙ length-map lines (λ a. a.token))) w.1)
