-- No token of what is read lies too deep.
use Rattle.std.proofs.Common.{◌≡◌, ℕ, zero, suc, ◌<◌, ◌≤◌, Bool, true, false, if◌then◌else◌, List, [], ◌∷◌, ◌++◌, length, Option, Some, None, Ok, Err, refl, ap, arith}
use Rattle.sv_outside.specs.declared.refusal.Place.{Place}
use Rattle.sv_outside.specs.declared.text.Token.{Token}
use Rattle.sv_tree.specs.declared.word.Word.{Word}
use Rattle.sv_tree.specs.declared.exprs.Sign.{Sign}
use Rattle.sv_tree.specs.declared.exprs.UnaryOp.{UnaryOp}
use Rattle.sv_tree.specs.declared.exprs.RangeMark.{RangeMark}
use Rattle.sv_tree.specs.declared.exprs.Expr.{Expr}
use Rattle.sv_tree.specs.declared.exprs.Expr.TheVariants as e
use Rattle.sv_tree.specs.declared.exprs.Select.{Select}
use Rattle.sv_tree.specs.declared.exprs.Select.TheVariants as sel
use Rattle.sv_tree.specs.GrammarExprs.{is_range}
use Rattle.sv_tree.specs.Nesting.{one, two, three, in_expr, expr_depths, select_depths, each_depths, commas_depths, after_commas_depths}
use Rattle.sv_tree.proofs.MadeExprs as made
use Rattle.sv_cursor.specs.declared.sort.Mark.TheVariants as m
use Rattle.sv_cursor.specs.Tests.{mark_test, id_test, literal_test, system_test, mark, keyword}
use Rattle.sv_cursor.specs.Parsers.{Outcome, Parser, told, token, branch, ◌▷◌, ◌⊗◌, ◌<$>◌, pure, refuse, too_deep, guarded, maybe_read, by_told, cons, many_from, chain_from}
use Rattle.sv_cursor.proofs.Readers.{Meets, then_meets}
use Rattle.sv_expr_words.specs.declared.openers.Opener.{Opener}
use Rattle.sv_expr_words.specs.declared.openers.Opener.TheVariants as open_by
use Rattle.sv_expr_words.specs.declared.openers.SelectOpener.{SelectOpener}
use Rattle.sv_expr_words.specs.declared.openers.SelectOpener.TheVariants as select_by
use Rattle.sv_expr_reader.specs.declared.tails.NameTail.{NameTail}
use Rattle.sv_expr_reader.specs.declared.tails.NameTail.TheVariants as tail
use Rattle.sv_expr_reader.specs.declared.tails.BraceTail.{BraceTail}
use Rattle.sv_expr_reader.specs.declared.tails.BraceTail.TheVariants as braces
use Rattle.sv_expr_words.specs.Signs.{opener_test, select_test, range_test, unary_name, sign_name}
use Rattle.sv_expr_reader.specs.Reading.{peak, height, made_literal, made_name, made_paren, made_brace, made_bracket, parens, cast, literal, member, bracket, select_for, select, selects, name_tail, named, parenthesized, after_comma, more, copies, brace_tail, braced, cast_sign, called, prefixed, prefix_for, prefix}
use Rattle.sv_expr_reader.proofs.Peaks.{nil_peak, one_peak, two_peak, three_peak, peak_append, peak_in}

-- all that is read is so
abbrev pub Always : {A : Type 0} → (A → Type 0) → Parser A → Type 0
Always P p = (i : List Token) → Meets (p i) (λ a j. P a)

any : {A : Type 0} (r : Outcome A) → Meets r (λ a j. Unit {0})
any (Ok p) = tt
any (Err e) = tt

skip_first : {A B : Type 0} (Q : B → Type 0) (p : Parser A) (q : Parser B) → Always Q q → Always (λ (c : A × B). Q c.1) (p ⊗ q)
skip_first Q p q h i = then_meets (p i) _ (λ a j. Unit {0}) _ (any (p i)) (λ a j _. then_meets (q j) _ (λ b k. Q b) _ (h j) (λ b k g. g))

keep_first : {A B : Type 0} (P : A → Type 0) (p : Parser A) (q : Parser B) → Always P p → Always (λ (c : A × B). P c.0) (p ⊗ q)
keep_first P p q h i = then_meets (p i) _ (λ a j. P a) _ (h i) (λ a j g. then_meets (q j) _ (λ b k. Unit {0}) _ (any (q j)) (λ b k _. g))

keep_both : {A B : Type 0} (P : A → Type 0) (Q : B → Type 0) (p : Parser A) (q : Parser B) → Always P p → Always Q q → Always (λ (c : A × B). P c.0 × Q c.1) (p ⊗ q)
keep_both P Q p q f h i = then_meets (p i) _ (λ a j. P a) _ (f i) (λ a j g. then_meets (q j) _ (λ b k. Q b) _ (h j) (λ b k g'. (g, g')))

mapped : {A B : Type 0} (P : A → Type 0) (Q : B → Type 0) (f : A → B) (p : Parser A) → Always P p → ((a : A) → P a → Q (f a)) → Always Q (f <$> p)
mapped P Q f p h up i = then_meets (p i) _ (λ a j. P a) _ (h i) (λ a j g. up a g)

by_branch : {C A : Type 0} (Q : A → Type 0) (q : Option C) (f : C → Parser A) (p : Parser A) → ((c : C) → Always Q (f c)) → Always Q p → Always Q (branch q f p)
by_branch Q None f p h g = g
by_branch Q (Some c) f p h g = h c

told_so : {C A : Type 0} (Q : A → Type 0) (test : Token → Option C) (f : C → Parser A) (p : Parser A) → ((c : C) → Always Q (f c)) → Always Q p → Always Q (by_told test f p)
told_so Q test f p h g i = by_branch Q (told test i) f p h g i

abbrev IfThere : {A : Type 0} → (A → Type 0) → Option A → Type 0
IfThere P None = Unit {0}
IfThere P (Some a) = P a

maybe_so : {C A : Type 0} (P : A → Type 0) (test : Token → Option C) (p : Parser A) → Always P p → Always (IfThere P) (maybe_read test p)
maybe_so P test p h = told_so (IfThere P) test (λ _. Some <$> p) (pure None) (λ _. mapped P (IfThere P) Some p h (λ a g. g)) (λ i. tt)

abbrev Each : {A : Type 0} → (A → Type 0) → List A → Type 0
Each P [] = Unit {0}
Each P (x ∷ all) = P x × Each P all

many_from_so : {C A : Type 0} (P : A → Type 0) (test : Token → Option C) (p : Parser A) → Always P p → (n : ℕ) → Always (Each P) (many_from test p n)
unfolding many_from
many_from_so P test p h zero = λ i. tt
many_from_so {A = A} P test p h (suc n) =
    told_so (Each P) test (λ _. cons <$> (p ⊗ many_from test p n)) (pure [])
    (λ _. mapped (λ (c : A × List A). P c.0 × Each P c.1) (Each P) cons (p ⊗ many_from test p n) (keep_both P (Each P) p (many_from test p n) h (many_from_so P test p h n)) (λ c g. g)) (λ i. tt)

last_or : {A : Type 0} (P : A → Type 0) (b : Bool) (p : Parser (List A)) → Always (Each P) p → Always (Each P) (if b then pure [] else p)
last_or P true p h = λ i. tt
last_or P false p h = h

chain_from_so : {C A : Type 0} (P : A → Type 0) (test : Token → Option C) (is_last : A → Bool) (p : Parser A) → Always P p → (n : ℕ) → Always (Each P) (chain_from test is_last p n)
unfolding chain_from
chain_from_so P test is_last p h zero = λ i. tt
chain_from_so {A = A} P test is_last p h (suc n) =
    told_so (Each P) test (λ _. cons <$> (p ▷ (λ x. if is_last x then pure [] else chain_from test is_last p n))) (pure [])
    (λ _. mapped (λ (c : A × List A). P c.0 × Each P c.1) (Each P) cons (p ▷ (λ x. if is_last x then pure [] else chain_from test is_last p n))
    (λ i. then_meets (p i) _ (λ a j. P a) _ (h i) (λ a j g. then_meets ((if is_last a then pure [] else chain_from test is_last p n) j) _ (λ b k. Each P b) _
    (last_or P (is_last a) (chain_from test is_last p n) (chain_from_so P test is_last p h n) j) (λ b k g'. (g, g')))) (λ c g. g)) (λ i. tt)

too_deep_low : {A : Type 0} (P : A → Type 0) → Always P too_deep
too_deep_low P [] = tt
too_deep_low P (a ∷ i) = tt

-- ---- heights

module _ (d : ℕ) (expr : ℕ → Parser Expr) (bounded : (n : ℕ) (i : List Token) → n ≤ 13 → Meets (expr n i) (λ x j. height x < d)) where
  abbrev Low : Expr → Type 0
  Low x = height x < d

  abbrev Fits : Expr → Type 0
  Fits x = height x < suc d

  part_low : (n : ℕ) → n ≤ 13 → Always Low (expr n)
  part_low n le i = bounded n i le

  parens_low : Always (λ c. Low c.1.0) (parens d expr)
  parens_low = skip_first (λ c. Low c.0) (mark m.LeftParen) (expr 0 ⊗ mark m.RightParen) (keep_first Low (expr 0) (mark m.RightParen) (part_low 0 (omega arith)))

  cast_low : Always Low (cast d expr)
  unfolding cast
  cast_low = mapped (λ c. Low c.1.1.0) Low (λ c. c.1.1.0) (mark m.Tick ⊗ parens d expr) (skip_first (λ c. Low c.1.0) (mark m.Tick) (parens d expr) parens_low) (λ c h. h)

  maybe_cast_low : Always (IfThere Low) (maybe_read (mark_test m.Tick) (cast d expr))
  maybe_cast_low = maybe_so Low (mark_test m.Tick) (cast d expr) cast_low

  in_three : (x : Expr) → Low x → peak (in_expr (three ++ expr_depths x ++ one)) < suc d
  in_three x h = omega (arith, peak_in (three ++ expr_depths x ++ one), peak_append (three ++ expr_depths x) one, peak_append three (expr_depths x), one_peak, three_peak)

  in_one : (x : Expr) → Low x → peak (in_expr (one ++ expr_depths x ++ one)) < suc d
  in_one x h = omega (arith, peak_in (one ++ expr_depths x ++ one), peak_append (one ++ expr_depths x) one, peak_append one (expr_depths x), one_peak)

  literal_fits : Always Fits (literal d expr)
  unfolding literal
  literal_fits = mapped (λ c. IfThere Low c.1) Fits made_literal (token literal_test ⊗ maybe_read (mark_test m.Tick) (cast d expr)) (skip_first (IfThere Low) (token literal_test) (maybe_read (mark_test m.Tick) (cast d expr)) maybe_cast_low) up
    where
      up : (c : Word × Option Expr) → IfThere Low c.1 → Fits (made_literal c)
      up (w, None) h = omega (arith, ap peak (made.nests_literal w), one_peak)
      up (w, Some x) h = omega (arith, ap peak (made.nests_cast_literal w x), in_three x h)

  abbrev SelectLow : Select → Type 0
  SelectLow x = peak (select_depths x) < d

  member_low : Always SelectLow (member d expr)
  unfolding member
  member_low = by_depth d refl
    where
      by_depth : (n : ℕ) → n ≡ d → Always SelectLow (guarded n ((λ c. sel.Member c.0 c.1) <$> (mark m.Dot ⊗ token id_test)))
      by_depth zero same = too_deep_low SelectLow
      by_depth (suc n) same = mapped (λ c. Unit {0}) SelectLow (λ c. sel.Member c.0 c.1) (mark m.Dot ⊗ token id_test) (λ i. any ((mark m.Dot ⊗ token id_test) i)) (λ c h. omega (arith, ap peak (made.nests_member c.0 c.1), two_peak))

  bracket_low : Always SelectLow (bracket d expr)
  unfolding bracket
  bracket_low =
      mapped (λ c. Low c.1.0 × IfThere (λ r. Low r.1) c.1.1.0) SelectLow made_bracket (mark m.LeftBracket ⊗ expr 0 ⊗ maybe_read range_test (token range_test ⊗ expr 0) ⊗ mark m.RightBracket)
      (skip_first (λ c. Low c.0 × IfThere (λ r. Low r.1) c.1.0) (mark m.LeftBracket) (expr 0 ⊗ maybe_read range_test (token range_test ⊗ expr 0) ⊗ mark m.RightBracket)
      (keep_both Low (λ c. IfThere (λ r. Low r.1) c.0) (expr 0) (maybe_read range_test (token range_test ⊗ expr 0) ⊗ mark m.RightBracket) (part_low 0 (omega arith))
      (keep_first (IfThere (λ r. Low r.1)) (maybe_read range_test (token range_test ⊗ expr 0)) (mark m.RightBracket)
      (maybe_so (λ r. Low r.1) range_test (token range_test ⊗ expr 0) (skip_first Low (token range_test) (expr 0) (part_low 0 (omega arith)))))))
      up
    where
      up : (c : Place × (Expr × (Option (RangeMark × Expr) × Place))) → Low c.1.0 × IfThere (λ r. Low r.1) c.1.1.0 → SelectLow (made_bracket c)
      up (p, (x, (None, q))) h = omega (arith, ap peak (made.nests_index p x), peak_append (one ++ expr_depths x) one, peak_append one (expr_depths x), one_peak, h.0)
      up (p, (x, (Some r, q))) h =
          omega (arith, ap peak (made.nests_range p x r.0 r.1), peak_append (one ++ expr_depths x ++ one ++ expr_depths r.1) one, peak_append (one ++ expr_depths x ++ one) (expr_depths r.1), peak_append (one ++ expr_depths x) one, peak_append one (expr_depths x), one_peak, h.0, h.1)

  select_for_low : (c : SelectOpener) → Always SelectLow (select_for d expr c)
  select_for_low select_by.Dot = member_low
  select_for_low select_by.Bracket = bracket_low

  selects_low : Always (Each SelectLow) (selects d expr)
  unfolding selects select
  selects_low i = chain_from_so SelectLow select_test is_range (by_told select_test (select_for d expr) refuse) (told_so SelectLow select_test (select_for d expr) refuse select_for_low (λ i. tt)) (length i) i

  each_low : (x : Select) (all : List Select) → SelectLow x → Each SelectLow all → peak (each_depths select_depths (x ∷ all)) < d
  each_low x [] h g = omega (arith, peak_append (select_depths x) [], nil_peak)
  each_low x (y ∷ all) h g = omega (arith, peak_append (select_depths x) (each_depths select_depths (y ∷ all)), each_low y all g.0 g.1)

  abbrev TailLow : NameTail → Type 0
  TailLow (tail.CastTo x) = Low x
  TailLow (tail.Selected all) = Each SelectLow all

  tail_low : Always TailLow (name_tail d expr)
  unfolding name_tail
  tail_low = told_so TailLow (mark_test m.Tick) (λ _. tail.CastTo <$> cast d expr) (tail.Selected <$> selects d expr)
      (λ _. mapped Low TailLow tail.CastTo (cast d expr) cast_low (λ x h. h)) (mapped (Each SelectLow) TailLow tail.Selected (selects d expr) selects_low (λ all h. h))

  named_fits : Always Fits (named d expr)
  unfolding named
  named_fits = mapped (λ c. TailLow c.1) Fits made_name (token id_test ⊗ name_tail d expr) (skip_first TailLow (token id_test) (name_tail d expr) tail_low) up
    where
      up : (c : Word × NameTail) → TailLow c.1 → Fits (made_name c)
      up (w, tail.CastTo x) h = omega (arith, ap peak (made.nests_cast_name w x), in_three x h)
      up (w, tail.Selected []) h = omega (arith, ap peak (made.nests_name w []), one_peak)
      up (w, tail.Selected (x ∷ all)) h =
          omega (arith, ap peak (made.nests_name w (x ∷ all)), peak_in (one ++ each_depths select_depths (x ∷ all)), peak_append one (each_depths select_depths (x ∷ all)), one_peak, each_low x all h.0 h.1)

  paren_fits : Always Fits (parenthesized d expr)
  unfolding parenthesized
  paren_fits = mapped (λ c. Low c.0.1.0 × IfThere Low c.1) Fits made_paren (parens d expr ⊗ maybe_read (mark_test m.Tick) (cast d expr))
      (keep_both (λ c. Low c.1.0) (IfThere Low) (parens d expr) (maybe_read (mark_test m.Tick) (cast d expr)) parens_low maybe_cast_low) up
    where
      up : (c : (Place × (Expr × Place)) × Option Expr) → Low c.0.1.0 × IfThere Low c.1 → Fits (made_paren c)
      up (p, None) h = omega (arith, ap peak (made.nests_paren p.0 p.1.0), in_one p.1.0 h.0)
      up (p, Some x) h =
          omega (
            arith,
            ap peak (made.nests_cast_paren p.0 p.1.0 x),
            peak_in (one ++ expr_depths p.1.0 ++ three ++ expr_depths x ++ one),
            peak_append (one ++ expr_depths p.1.0 ++ three ++ expr_depths x) one,
            peak_append (one ++ expr_depths p.1.0 ++ three) (expr_depths x),
            peak_append (one ++ expr_depths p.1.0) three,
            peak_append one (expr_depths p.1.0),
            one_peak,
            three_peak,
            h.0,
            h.1,
          )

  after_low : Always Low (after_comma d expr)
  unfolding after_comma
  after_low = mapped (λ c. Low c.1) Low (λ c. c.1) (mark m.Comma ⊗ expr 0) (skip_first Low (mark m.Comma) (expr 0) (part_low 0 (omega arith))) (λ c h. h)

  more_low : Always (Each Low) (more d expr)
  unfolding more
  more_low i = many_from_so Low (mark_test m.Comma) (after_comma d expr) after_low (length i) i

  after_peak : (all : List Expr) → 0 < d → Each Low all → peak (after_commas_depths expr_depths all) < d
  after_peak [] some h = omega (arith, nil_peak)
  after_peak (x ∷ all) some h =
      omega (arith, peak_append (one ++ expr_depths x) (after_commas_depths expr_depths all), peak_append one (expr_depths x), one_peak, after_peak all some h.1, h.0)

  commas_peak : (x : Expr) (all : List Expr) → Low x → Each Low all → peak (commas_depths expr_depths (x ∷ all)) < d
  commas_peak x all h g = omega (arith, peak_append (expr_depths x) (after_commas_depths expr_depths all), after_peak all (omega arith) g)

  abbrev BraceLow : BraceTail → Type 0
  BraceLow (braces.Copied all) = (peak (commas_depths expr_depths all) < d)
  BraceLow (braces.Followed all) = Each Low all

  copies_low : Always (λ all. peak (commas_depths expr_depths all) < d) (copies d expr)
  unfolding copies
  copies_low =
      mapped (λ c. Low c.1.0.0 × Each Low c.1.0.1) (λ all. peak (commas_depths expr_depths all) < d) (λ c. c.1.0.0 ∷ c.1.0.1) (mark m.LeftBrace ⊗ (expr 0 ⊗ more d expr) ⊗ mark m.RightBrace ⊗ mark m.RightBrace)
      (skip_first (λ c. Low c.0.0 × Each Low c.0.1) (mark m.LeftBrace) ((expr 0 ⊗ more d expr) ⊗ mark m.RightBrace ⊗ mark m.RightBrace)
      (keep_first (λ c. Low c.0 × Each Low c.1) (expr 0 ⊗ more d expr) (mark m.RightBrace ⊗ mark m.RightBrace) (keep_both Low (Each Low) (expr 0) (more d expr) (part_low 0 (omega arith)) more_low)))
      (λ c h. commas_peak c.1.0.0 c.1.0.1 h.0 h.1)

  brace_tail_low : Always BraceLow (brace_tail d expr)
  unfolding brace_tail
  brace_tail_low = told_so BraceLow (mark_test m.LeftBrace) (λ _. braces.Copied <$> copies d expr) ((λ c. braces.Followed c.0) <$> (more d expr ⊗ mark m.RightBrace))
      (λ _. mapped (λ all. peak (commas_depths expr_depths all) < d) BraceLow braces.Copied (copies d expr) copies_low (λ all h. h))
      (mapped (λ c. Each Low c.0) BraceLow (λ c. braces.Followed c.0) (more d expr ⊗ mark m.RightBrace) (keep_first (Each Low) (more d expr) (mark m.RightBrace) more_low) (λ c h. h))

  braced_fits : Always Fits (braced d expr)
  unfolding braced
  braced_fits = mapped (λ c. Low c.1.0 × BraceLow c.1.1) Fits made_brace (mark m.LeftBrace ⊗ expr 0 ⊗ brace_tail d expr)
      (skip_first (λ c. Low c.0 × BraceLow c.1) (mark m.LeftBrace) (expr 0 ⊗ brace_tail d expr) (keep_both Low BraceLow (expr 0) (brace_tail d expr) (part_low 0 (omega arith)) brace_tail_low)) up
    where
      up : (c : Place × (Expr × BraceTail)) → Low c.1.0 × BraceLow c.1.1 → Fits (made_brace c)
      up (p, (x, braces.Copied all)) h =
          omega (
            arith,
            ap peak (made.nests_repeat p x all),
            peak_in (one ++ expr_depths x ++ one ++ commas_depths expr_depths all ++ two),
            peak_append (one ++ expr_depths x ++ one ++ commas_depths expr_depths all) two,
            peak_append (one ++ expr_depths x ++ one) (commas_depths expr_depths all),
            peak_append (one ++ expr_depths x) one,
            peak_append one (expr_depths x),
            one_peak,
            two_peak,
            h.0,
            h.1,
          )
      up (p, (x, braces.Followed all)) h =
          omega (arith, ap peak (made.nests_concat p (x ∷ all)), peak_in (one ++ commas_depths expr_depths (x ∷ all) ++ one), peak_append (one ++ commas_depths expr_depths (x ∷ all)) one, peak_append one (commas_depths expr_depths (x ∷ all)), one_peak, commas_peak x all h.0 h.1)

  sign_fits : (g : Sign) → Always Fits (cast_sign d expr g)
  unfolding cast_sign
  sign_fits g = mapped (λ c. Low c.1) Fits (λ c. e.CastSign g c.0 c.1) (keyword (sign_name g) ⊗ cast d expr) (skip_first Low (keyword (sign_name g)) (cast d expr) cast_low) (λ c h. omega (arith, ap peak (made.nests_cast_sign g c.0 c.1), in_three c.1 h))

  called_fits : Always Fits (called d expr)
  unfolding called
  called_fits = mapped (λ c. Low c.1.1.0) Fits (λ c. e.System c.0.0 c.0.1 c.1.1.0) (token system_test ⊗ parens d expr) (skip_first (λ c. Low c.1.0) (token system_test) (parens d expr) parens_low)
      (λ c h. omega (arith, ap peak (made.nests_system c.0.0 c.0.1 c.1.1.0), peak_in (two ++ expr_depths c.1.1.0 ++ one), peak_append (two ++ expr_depths c.1.1.0) one, peak_append two (expr_depths c.1.1.0), one_peak, two_peak, h))

  unary_fits : (op : UnaryOp) → Always Fits (prefixed d expr op)
  unfolding prefixed
  unary_fits op = mapped (λ c. Low c.1) Fits (λ c. e.Unary op c.0 c.1) (mark (unary_name op) ⊗ expr 13) (skip_first Low (mark (unary_name op)) (expr 13) (part_low 13 (omega arith)))
      (λ c h. omega (arith, ap peak (made.nests_unary op c.0 c.1), peak_in (one ++ expr_depths c.1), peak_append one (expr_depths c.1), one_peak, h))

  prefix_for_fits : (c : Opener) → Always Fits (prefix_for d expr c)
  prefix_for_fits open_by.Literal = literal_fits
  prefix_for_fits open_by.Name = named_fits
  prefix_for_fits open_by.Paren = paren_fits
  prefix_for_fits open_by.Brace = braced_fits
  prefix_for_fits (open_by.Sign g) = sign_fits g
  prefix_for_fits (open_by.System f) = called_fits
  prefix_for_fits (open_by.Unary op) = unary_fits op

  pub first_bounded : (i : List Token) → Meets (prefix d expr i) (λ x j. height x < suc d)
  unfolding prefix
  first_bounded = told_so Fits opener_test (prefix_for d expr) refuse prefix_for_fits (λ i. tt)
