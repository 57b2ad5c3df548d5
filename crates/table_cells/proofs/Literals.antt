-- Which literals are known.
use Rattle.std.proofs.Common.{◌≡◌, ℕ, List, refl, true, false, Some, None, sym, ◌∙◌, ap, cond, ◌&&◌, Bool, Result, Ok, Err}
use Rattle.std.specs.Prelude.{◌↔◌, IsTrue, IsFalse, not}
use Rattle.sv_outside.specs.Literals.{is_literal}
use Rattle.sv_literal.specs.Meaning.{is_wide, is_out_of_range, meaning_of}
use Rattle.sv_literal.specs.declared.meaning.LitErr.{LitErr}
use Rattle.sv_literal.specs.declared.meaning.LitErr.TheVariants.{Shape, Wide, Range}
use Rattle.sv_literal.specs.declared.meaning.Literal.{Literal}
use Rattle.fourvec.specs.Bits.{is_known}
use Rattle.table_cells.specs.Cells.{known_literal, has_value}

-- what `literal` says of its refusals
pub record Refuses (text : List ℕ) (r : Result Literal LitErr) : Type 0 where
  pub shape : (r ≡ Err Shape) ↔ IsFalse (is_literal text)
  pub wide : (r ≡ Err Wide) ↔ IsTrue (is_wide text)
  pub range : (r ≡ Err Range) ↔ IsTrue (is_out_of_range text)

all_three : (a b c : Bool) → (a ≡ false → ⊥) → (b ≡ true → ⊥) → (c ≡ true → ⊥) → (a && not b && not c) ≡ true
all_three true false false p q r = refl
all_three false b c p q r = absurd (p refl)
all_three true true c p q r = absurd (q refl)
all_three true false true p q r = absurd (r refl)

is_accepted : (text : List ℕ) (l : Literal) → Refuses text (Ok l) → has_value text ≡ true
is_accepted text l h = all_three (is_literal text) (is_wide text) (is_out_of_range text)
    (λ e. let p = h.shape.1 e in cc) (λ e. let p = h.wide.1 e in cc) (λ e. let p = h.range.1 e in cc)

not_accepted : (a b c : Bool) (e : LitErr) → (e ≡ Shape → a ≡ false) → (e ≡ Wide → b ≡ true) → (e ≡ Range → c ≡ true) → (a && not b && not c) ≡ false
not_accepted a b c Shape p q r = rw (p refl) refl
not_accepted true b c Wide p q r = rw (q refl) refl
not_accepted false b c Wide p q r = refl
not_accepted true true c Range p q r = refl
not_accepted true false c Range p q r = rw (r refl) refl
not_accepted false b c Range p q r = refl

pub known : (text : List ℕ) (l : Literal) → Refuses text (Ok l) → l ≡ meaning_of text → is_known l.value ≡ true → Some l ≡ known_literal text
unfolding known_literal
known text l h e k = let k' : is_known (meaning_of text).value ≡ true = ap (λ (m : Literal). is_known m.value) (sym e) ∙ k in rw (is_accepted text l h, k') (ap Some e)

pub unknown : (text : List ℕ) (l : Literal) → Refuses text (Ok l) → l ≡ meaning_of text → is_known l.value ≡ false → None ≡ known_literal text
unfolding known_literal
unknown text l h e k = let k' : is_known (meaning_of text).value ≡ false = ap (λ (m : Literal). is_known m.value) (sym e) ∙ k in rw (is_accepted text l h, k') refl

pub refused : (text : List ℕ) (e : LitErr) → Refuses text (Err e) → None ≡ known_literal text
unfolding known_literal
refused text e h =
    let none : has_value text ≡ false = not_accepted (is_literal text) (is_wide text) (is_out_of_range text) e
    (λ s. h.shape.0 (ap Err s)) (λ s. h.wide.0 (ap Err s)) (λ s. h.range.0 (ap Err s)) in
    rw none refl

known_is : (b : Bool) (m l : Literal) → cond b (Some m) None ≡ Some l → l ≡ m
known_is true m l h = cc
known_is false m l h = cc

pub meaning_of_known : (text : List ℕ) (l : Literal) → known_literal text ≡ Some l → l ≡ meaning_of text
unfolding known_literal
meaning_of_known text l h = known_is (has_value text && is_known (meaning_of text).value) (meaning_of text) l h
