-- What is answered of a whole text.
use Rattle.std.proofs.Common.{◌≡◌, inl, inr, ℕ, ◌-◌, List, length, Result, Ok, Err, refl, sym, ap, ◌∙◌, subst}
use Rattle.sv_outside.specs.declared.refusal.Place.{Place}
use Rattle.sv_outside.specs.declared.refusal.TextErr.{TextErr}
use Rattle.sv_outside.specs.declared.text.Token.{Token}
use Rattle.sv_tree.specs.declared.design.Source.{Source}
use Rattle.sv_cursor.specs.declared.error.ParseErr.{ParseErr}
use Rattle.sv_cursor.specs.declared.error.ParseErr.TheVariants.{Memory, Syntax, TooDeep}
use Rattle.sv_cursor.specs.Parsers.{Outcome, Reads}
use Rattle.sv_cursor.specs.Refusals.{refused, place_at}
use Rattle.sv_parser.specs.Answers.{Decides}
use Rattle.sv_parser.specs.Source.{source}
use Rattle.sv_parser.specs.Whole.{IsRead, IsParsed, number_at}
use Rattle.sv_parser.proofs.Laws.{decides}

-- ---- what reading says

decided : (tokens : List Token) (r : Outcome Source) → source tokens ≡ r → Decides tokens r
decided tokens r e = subst (λ q. Decides tokens q) e (decides tokens)

syntax_read : (tokens : List Token) (left : ℕ) → source tokens ≡ Err (Syntax left) → IsRead tokens (Err (Syntax left))
syntax_read tokens left e = let d = decided tokens (Err (Syntax left)) e in (d.0, e, d.1, d.2)

pub read_as : (tokens : List Token) (r : Result Source ParseErr) (new : List Token) → Reads (source tokens) r new → IsRead tokens r
read_as tokens (Ok x) new e = let d = decided tokens (Ok (x, new)) e in (d.0, d.2)
read_as tokens (Err (Syntax left)) new h = syntax_read tokens left (h (λ e. absurd (cc)))
read_as tokens (Err (TooDeep deep left)) new h = decided tokens (Err (TooDeep deep left)) (h (λ e. absurd (cc)))
read_as tokens (Err Memory) new h = tt

-- ---- what is answered

module _ (tokens : List Token) (end : Place) where
  pub parsed_ok : (x : Source) → IsRead tokens (Ok x) → IsParsed tokens end (Ok x)
  parsed_ok x h = h

  parsed_syntax : (left : ℕ) → IsRead tokens (Err (Syntax left))
      → IsParsed tokens end (Err (refused (number_at tokens (length tokens - left)) (place_at tokens end (length tokens - left))))
  parsed_syntax left h = inl (record { left = left; inside = h.0; none = h.2; beyond = h.3; stops = h.1; is = refl })

  parsed_deep : (deep left : ℕ) → IsRead tokens (Err (TooDeep deep left)) → IsParsed tokens end (Err (refused 9 (place_at tokens end (length tokens - deep))))
  parsed_deep deep left h = inr (record { number = length tokens - deep; deep = h; is = refl })

  pub syntax_is : (left number : ℕ) (place : Place) (e : TextErr) → IsRead tokens (Err (Syntax left)) → number ≡ number_at tokens (length tokens - left)
      → place ≡ place_at tokens end (length tokens - left) → e ≡ refused number place → IsParsed tokens end (Err e)
  syntax_is left number place e h is_number is_place is =
      subst (λ e. IsParsed tokens end (Err e)) (sym (is ∙ (ap (λ n. refused n place) is_number ∙ ap (refused (number_at tokens (length tokens - left))) is_place))) (parsed_syntax left h)

  pub deep_is : (deep left : ℕ) (place : Place) (e : TextErr) → IsRead tokens (Err (TooDeep deep left)) → place ≡ place_at tokens end (length tokens - deep) → e ≡ refused 9 place → IsParsed tokens end (Err e)
  deep_is deep left place e h is_place is = subst (λ e. IsParsed tokens end (Err e)) (sym (is ∙ ap (refused 9) is_place)) (parsed_deep deep left h)
