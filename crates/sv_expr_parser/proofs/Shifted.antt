-- What holds of the tokens from one on, by numbers among all.
use Rattle.std.proofs.Common.{◌≡◌, inl, inr, ℕ, ◌+◌, ◌-◌, ◌≤◌, List, length, take, drop, slice_get, Ok, Err, refl, sym, ap, ◌∙◌, subst, length-drop, arith}
use Rattle.std.proofs.lemmas.List.{take_all}
use Rattle.sv_outside.specs.declared.refusal.Place.{Place}
use Rattle.sv_outside.specs.declared.text.Token.{Token}
use Rattle.sv_tree.specs.declared.exprs.Expr.{Expr}
use Rattle.sv_cursor.specs.declared.error.ParseErr.TheVariants.{Syntax, TooDeep}
use Rattle.sv_expr_reader.specs.Answers.{IsSpelled}
use Rattle.sv_cursor.proofs.Readers.{drop_more}
use Rattle.sv_cursor.specs.Refusals.{refused, syntax_number_of, place_at}
use Rattle.sv_expr_parser.specs.Parsed.{NoneGoesOn, IsLongest, IsParsed}

module _ (tokens : List Token) (end : Place) (at : ℕ) (le : at ≤ length tokens) where
  len : length (drop at tokens) ≡ length tokens - at
  len = length-drop at tokens

  there : (n : ℕ) → at ≤ n → drop (n - at) (drop at tokens) ≡ drop n tokens
  there n le = let e : at + (n - at) ≡ n = omega arith in drop_more at (n - at) tokens ∙ ap (λ k. drop k tokens) e

  pub from_there : take (length tokens - at) (drop at tokens) ≡ drop at tokens
  from_there = take_all (length tokens - at) (drop at tokens) (omega (arith, len))

  pub ok_shifted : (x : Expr) (n : ℕ) → IsLongest (drop at tokens) (Ok (x, n)) → IsParsed tokens end at (Ok (x, at + n))
  ok_shifted x n h =
      let e : at + n - at ≡ n = omega arith in (
        (omega arith, omega (arith, len, h.0), subst (λ m. IsSpelled x (take m (drop at tokens))) (sym e) h.1),
        λ y g. h.2 y (subst (λ m. IsSpelled y (take m (drop at tokens))) e g.2),
        λ y m g. let a = h.3 y (m - at) (omega (arith, len, g.1)) g.2 in omega (arith, a, g.0),
      )

  pub syntax_shifted : (left : ℕ) → IsLongest (drop at tokens) (Err (Syntax left))
      → IsParsed tokens end at (Err (refused (syntax_number_of (slice_get tokens (length tokens - left))) (place_at tokens end (length tokens - left))))
  syntax_shifted left h = inl (record {
    none = λ y n g. h.2.none y (n - at) (omega (arith, len, g.1)) g.2;
    left = left;
    inside = h.0;
    stops = h.1;
    is = refl;
  })

  pub deep_shifted : (deep left : ℕ) → IsLongest (drop at tokens) (Err (TooDeep deep left)) → IsParsed tokens end at (Err (refused 9 (place_at tokens end (length tokens - deep))))
  deep_shifted deep left h =
      let e : length tokens - deep ≡ at + (length (drop at tokens) - deep) = omega (arith, len, h.0) in
      inr (record {
        number = length (drop at tokens) - deep;
        none = λ y n g stops. h.2.none y (n - at) (omega (arith, len, g.1)) g.2 (subst NoneGoesOn (sym (there n g.0)) stops);
        deep = h.1;
        is = ap (λ n. refused 9 (place_at tokens end n)) e;
      })

  pub left_small : (left : ℕ) → IsLongest (drop at tokens) (Err (Syntax left)) → left ≤ length tokens
  left_small left h = omega (arith, len, h.0)

  pub deep_small : (deep left : ℕ) → IsLongest (drop at tokens) (Err (TooDeep deep left)) → deep ≤ length tokens
  deep_small deep left h = omega (arith, len, h.0)

pub ruleset shifted = (ok_shifted, syntax_shifted, deep_shifted, left_small, deep_small)
