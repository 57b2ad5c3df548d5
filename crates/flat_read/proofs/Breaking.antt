-- Where a text breaks the form.
use Rattle.std.proofs.Common.{◌≡◌, ◌≢◌, ℕ, ◌+◌, ◌-◌, ◌^◌, ◌<◌, ◌≤◌, eqb, not, true, List, [], ◌∷◌, ◌++◌, length, codes, take, refl, sym, ap, ◌∙◌, subst, inl, inr, append_assoc, arith}
use Rattle.std.specs.List.{All, list_all}
use Rattle.std.proofs.lemmas.Bool.{eqb-false, cases_eq, and_parts, not-true}
use Rattle.std.proofs.lemmas.List.{append-nil, length-append, length_push, take_at}
use Rattle.std.proofs.lemmas.List.Concat.{flat_map-append}
use Rattle.std.proofs.lemmas.List.Elements.{All-nil, All-cons, All-head, All-tail, All-push}
use Rattle.flat_net.specs.declared.flat.Flat.{Flat}
use Rattle.flat_text.specs.Lines.{Text, ended, text_of, lines_of}
use Rattle.flat_text.specs.FlatTexts.{IsTold, IsUnbroken, AreLinesOf, AreLines, Begin, BreaksAt}
use Rattle.flat_read.specs.Designs.{front_of}
use Rattle.flat_read.specs.States.{IsCut, RefusedLine}
use Rattle.flat_read.proofs.Telling.{lines_are}
use Rattle.flat_read.proofs.Going.{not_whole, begins_front, begins_whole, nothing_behind, goes_on}

-- ---- lines of texts

pub all_unbroken : (t : Text) → list_all (λ b. not (eqb b 10)) t ≡ true → IsUnbroken t
all_unbroken [] h = All-nil (λ b. b ≢ 10)
all_unbroken (b ∷ t) h =
    let parts = and_parts (not (eqb b 10)) (list_all (λ b. not (eqb b 10)) t) h in
    All-cons (λ b. b ≢ 10) b t (eqb-false b 10 (not-true (eqb b 10) parts.0)) (all_unbroken t parts.1)

-- each text has lines, and what stands behind the last line feed
pub record IsSplit (t : Text) : Type 0 where
  pub lines : List Text
  pub rest : Text
  pub split : AreLinesOf t lines rest

pub split_of : (t : Text) → IsSplit t
split_of [] = record { lines = []; rest = []; split = record { is = refl; lines_unbroken = All-nil IsUnbroken; rest_unbroken = All-nil (λ b. b ≢ 10) } }
split_of (b ∷ t) = elim (cases_eq b 10) [ inl e ↦ broken b t e (split_of t) | inr ne ↦ onward b t ne (split_of t) ]
  where
    broken : (b : ℕ) (t : Text) → b ≡ 10 → IsSplit t → IsSplit (b ∷ t)
    broken b t e s = record {
      lines = [] ∷ s.lines;
      rest = s.rest;
      split = record {
        is = (λ i. e i ∷ s.split.is i);
        lines_unbroken = All-cons IsUnbroken [] s.lines (All-nil (λ c. c ≢ 10)) s.split.lines_unbroken;
        rest_unbroken = s.split.rest_unbroken;
      };
    }

    longer : (b : ℕ) (t : Text) (lines : List Text) (rest : Text) → b ≢ 10 → AreLinesOf t lines rest → IsSplit (b ∷ t)
    longer b t [] rest ne s = record {
      lines = [];
      rest = b ∷ rest;
      split = record {
        is = ap (λ l. b ∷ l) s.is;
        lines_unbroken = All-nil IsUnbroken;
        rest_unbroken = All-cons (λ c. c ≢ 10) b rest ne s.rest_unbroken;
      };
    }
    longer b t (l ∷ ls) rest ne s = record {
      lines = (b ∷ l) ∷ ls;
      rest = rest;
      split = record {
        is = ap (λ x. b ∷ x) s.is;
        lines_unbroken = All-cons IsUnbroken (b ∷ l) ls (All-cons (λ c. c ≢ 10) b l ne (All-head IsUnbroken l ls s.lines_unbroken)) (All-tail IsUnbroken l ls s.lines_unbroken);
        rest_unbroken = s.rest_unbroken;
      };
    }

    onward : (b : ℕ) (t : Text) → b ≢ 10 → IsSplit t → IsSplit (b ∷ t)
    onward b t ne s = longer b t s.lines s.rest ne s.split

pub all_join : {X : Type 0} (P : X → Type 0) (xs ys : List X) → All P xs → All P ys → All P (xs ++ ys)
all_join P [] ys h g = g
all_join P (x ∷ xs) ys h g = All-cons P x (xs ++ ys) (All-head P x xs h) (all_join P xs ys (All-tail P x xs h) g)

-- lines before the lines of what stands behind them
joined_split : (whole rest more : Text) (front lines : List Text) → whole ≡ text_of front ++ more → All IsUnbroken front → AreLinesOf more lines rest → AreLinesOf whole (front ++ lines) rest
joined_split whole rest more front lines is unbroken s = record {
  is = is ∙ ap (λ t. text_of front ++ t) s.is ∙ sym (append_assoc (text_of front) (text_of lines) rest) ∙ ap (λ t. t ++ rest) (sym (flat_map-append ended front lines));
  lines_unbroken = all_join IsUnbroken front lines unbroken s.lines_unbroken;
  rest_unbroken = s.rest_unbroken;
}

cut_split : (text line more rest : Text) (lines : List Text) → IsCut text line more → AreLinesOf more lines rest → AreLinesOf text (line ∷ lines) rest
cut_split text line more rest lines c s = record {
  is = c.is ∙ ap (λ t. ended line ++ t) s.is ∙ sym (append_assoc (ended line) (text_of lines) rest);
  lines_unbroken = All-cons IsUnbroken line lines c.unbroken s.lines_unbroken;
  rest_unbroken = s.rest_unbroken;
}

pub text_more : (front : List Text) (whole text line more : Text) → whole ≡ text_of front ++ text → IsCut text line more → whole ≡ text_of (front ++ line ∷ []) ++ more
text_more front whole text line more is c =
    is ∙ ap (λ t. text_of front ++ t) c.is ∙ sym (append_assoc (text_of front) (ended line) more) ∙ ap (λ t. (text_of front ++ t) ++ more) (sym (append-nil (ended line))) ∙ ap (λ t. t ++ more) (sym (flat_map-append ended front (line ∷ [])))

take_front : (front more : List Text) → take (length front) (front ++ more) ≡ front
take_front front more = take_at front more (length front) refl

take_one_more : (front more : List Text) (line : Text) → take (length front + 1) (front ++ line ∷ more) ≡ front ++ line ∷ []
take_one_more front more line = ap (take (length front + 1)) (sym (append_assoc front (line ∷ []) more)) ∙ take_at (front ++ line ∷ []) more (length front + 1) (length_push front line)

less_one : (n : ℕ) → n + 1 - 1 ≡ n
less_one n = omega arith

-- ---- a line that may not come next

pub breaks_at_line : (whole text line more : Text) (shown : Flat) → IsTold shown → whole ≡ text_of (front_of shown) ++ text → All IsUnbroken (front_of shown) → IsCut text line more → ¬ Begin (front_of shown ++ line ∷ []) → BreaksAt whole (length (front_of shown) + 1)
breaks_at_line whole text line more shown told is unbroken c no_way =
    let s = split_of more in
    let front = front_of shown in
    record {
      lines = front ++ line ∷ s.lines;
      rest = s.rest;
      split = joined_split whole s.rest text front (line ∷ s.lines) is unbroken (cut_split text line more s.rest s.lines c s.split);
      some = omega arith;
      within = let e = length-append front (line ∷ s.lines) in omega arith;
      before = subst Begin (sym (ap (λ n. take n (front ++ line ∷ s.lines)) (less_one (length front)) ∙ take_front front (line ∷ s.lines))) (begins_front shown told);
      broken = λ l b. no_way (subst Begin (take_one_more front s.lines line) b);
      missing = λ e. absurd (let a = length-append front (line ∷ s.lines) in omega arith);
    }

pub refused_begins : (shown : Flat) (line : Text) → IsTold shown → length (front_of shown) < 2 ^ 64 - 1 → line ≢ codes "end" → RefusedLine shown line → Begin (front_of shown ++ line ∷ []) → ⊥
refused_begins shown line told few last r b = elim (goes_on shown line told few b) [
  | inl e ↦ last e
  | inr x ↦ r.refused x.0 x.1.0 x.1.1.0 x.1.1.1.0 x.1.1.1.1
]

-- ---- the end of the text

pub breaks_at_end : (whole rest : Text) (shown : Flat) → IsTold shown → whole ≡ text_of (front_of shown) ++ rest → All IsUnbroken (front_of shown) → IsUnbroken rest → BreaksAt whole (length (front_of shown) + 1)
breaks_at_end whole rest shown told is unbroken last =
    let front = front_of shown in
    record {
      lines = front;
      rest = rest;
      split = record { is = is; lines_unbroken = unbroken; rest_unbroken = last };
      some = omega arith;
      within = omega arith;
      before = subst Begin (sym (ap (λ n. take n front) (less_one (length front)) ∙ ap (take (length front)) (sym (append-nil front)) ∙ take_front front [])) (begins_front shown told);
      broken = λ l. absurd (omega arith);
      missing = λ e none w. not_whole shown w;
    }

-- ---- a text that goes on behind the last line

whole_lines : (shown : Flat) → All IsUnbroken (front_of shown) → All IsUnbroken (lines_of shown)
whole_lines shown h = subst (All IsUnbroken) (sym (lines_are shown)) (All-push IsUnbroken (front_of shown) (codes "end") h (all_unbroken (codes "end") refl))

pub breaks_behind : (whole text line more : Text) (shown : Flat) → IsTold shown → whole ≡ text_of (front_of shown) ++ text → All IsUnbroken (front_of shown) → IsCut text line more → line ≡ codes "end" → (more ≡ [] → ⊥) → BreaksAt whole (length (front_of shown) + 2)
breaks_behind whole text line more shown told is unbroken c last goes =
    let s = split_of more in
    let front = front_of shown in
    let all = lines_of shown in
    let long : length all ≡ length front + 1 = ap length (lines_are shown) ∙ length_push front (codes "end") in
    let text_is : whole ≡ text_of all ++ more = text_more front whole text line more is c ∙ ap (λ l. text_of (front ++ l ∷ []) ++ more) last ∙ ap (λ l. text_of l ++ more) (sym (lines_are shown)) in
    let count : length front + 2 - 1 ≡ length all = omega arith in
    record {
      lines = all ++ s.lines;
      rest = s.rest;
      split = joined_split whole s.rest more all s.lines text_is (whole_lines shown unbroken) s.split;
      some = omega arith;
      within = let e = length-append all s.lines in omega arith;
      before = subst Begin (sym (ap (λ n. take n (all ++ s.lines)) count ∙ take_front all s.lines)) (begins_whole shown told);
      broken = λ l b. one_behind all s.lines (length front + 2) (omega arith) l (λ x ls e. nothing_behind shown x (subst Begin (ap (λ y. take (length front + 2) (all ++ y)) e ∙ ap (λ n. take n (all ++ x ∷ ls)) (next (length all) (length front) long) ∙ take_one_more all ls x) b));
      missing = λ e none w. goes (behind_all all s.lines s.rest more (length front + 2) (omega arith) e s.split none);
    }
  where
    next : (m n : ℕ) → m ≡ n + 1 → n + 2 ≡ m + 1
    next m n e = omega arith

    one_behind : (all lines : List Text) (n : ℕ) → n ≡ length all + 1 → n ≤ length (all ++ lines) → ((x : Text) (ls : List Text) → lines ≡ x ∷ ls → ⊥) → ⊥
    one_behind all [] n e l f = absurd (let a = length-append all [] in omega arith)
    one_behind all (x ∷ ls) n e l f = f x ls refl

    behind_all : (all lines : List Text) (rest more : Text) (n : ℕ) → n ≡ length all + 1 → n ≡ length (all ++ lines) + 1 → AreLinesOf more lines rest → rest ≡ [] → more ≡ []
    behind_all all [] rest more n e f s none = s.is ∙ none
    behind_all all (x ∷ ls) rest more n e f s none = absurd (let a = length-append all (x ∷ ls) in omega arith)

-- ---- the first line

pub breaks_first : (text : Text) → ((rest : Text) → text ≡ ended (codes "flat 1") ++ rest → ⊥) → BreaksAt text 1
breaks_first text apart =
    let s = split_of text in
    record {
      lines = s.lines;
      rest = s.rest;
      split = s.split;
      some = omega arith;
      within = omega arith;
      before = inl refl;
      broken = λ l b. first_is s.lines l (λ x ls e. start x (subst Begin (ap (take 1) e) b) (λ k. apart (text_of ls ++ s.rest) (s.split.is ∙ ap (λ y. text_of y ++ s.rest) (e ∙ ap (λ y. y ∷ ls) k) ∙ append_assoc (ended (codes "flat 1")) (text_of ls) s.rest)));
      missing = λ e none w. no_lines s.lines (omega arith) w;
    }
  where
    first_is : (lines : List Text) → 1 ≤ length lines → ((x : Text) (ls : List Text) → lines ≡ x ∷ ls → ⊥) → ⊥
    first_is [] l f = absurd (omega arith)
    first_is (x ∷ ls) l f = f x ls refl

    no_lines : (lines : List Text) → length lines ≡ 0 → AreLines lines → ⊥
    no_lines [] e w = let a : [] ≡ lines_of w.shown = w.are in cc
    no_lines (x ∷ ls) e w = absurd (omega arith)

    start : (x : Text) → Begin (x ∷ []) → (x ≡ codes "flat 1" → ⊥) → ⊥
    start x (inl e) f = cc
    start x (inr (inl w)) f = let a : x ∷ [] ≡ front_of w.shown ++ codes "end" ∷ [] = w.are ∙ lines_are w.shown in absurd (let b = ap length a in let d = length_push (front_of w.shown) (codes "end") in omega arith)
    start x (inr (inr w)) f = f (head (w.are ∙ lines_are w.shown))
      where
        head : x ∷ codes "end" ∷ [] ≡ front_of w.shown ++ codes "end" ∷ [] → x ≡ codes "flat 1"
        head e = cc
