-- What the options are given, one by one.
use Rattle.std.proofs.Common.{◌≡◌, ℕ, ◌≤◌, Bool, true, false, not, cond, eqb, List, [], ◌∷◌, length, Option, Some, None, is_some, IsTrue, refl, sym, ap, ◌∙◌, subst, arith}
use Rattle.std.specs.Prelude.{IfSome, option_map, option_and_then}
use Rattle.std.specs.List.{All}
use Rattle.std.proofs.lemmas.Bool.{true≢false, false≢true, and_parts, and_from, ne_eqb}
use Rattle.std.proofs.lemmas.List.Elements.{All-head, All-tail}
use Rattle.svtv_words.specs.Commands.{Text, Option', top, budget, vcd, is_option, is_among, Setting, IsBudget, IsGood, given, number_behind, Form, IsAllowed, IsBudgetInBounds}
use Rattle.svtv_words.specs.Reading.{budget_of, Texts, texts, nothing_given, text_at, put, is_good, may_give}
use Rattle.svtv_words.proofs.OneWord.{on_if}
use Rattle.svtv_words.proofs.Numbers.{budget_is, budget_found}

-- ---- the table of options

is_same : (o : Option') → is_option o o ≡ true
is_same top = refl
is_same budget = refl
is_same vcd = refl

one_option : (o p : Option') → is_option o p ≡ true → o ≡ p
one_option top top e = refl
one_option budget budget e = refl
one_option vcd vcd e = refl
one_option top budget e = absurd (false≢true e)
one_option top vcd e = absurd (false≢true e)
one_option budget top e = absurd (false≢true e)
one_option budget vcd e = absurd (false≢true e)
one_option vcd top e = absurd (false≢true e)
one_option vcd budget e = absurd (false≢true e)

pub none_given : (o : Option') → text_at o nothing_given ≡ None
none_given top = refl
none_given budget = refl
none_given vcd = refl

text_put : (o : Option') (text : Text) (t : Texts) → text_at o (put o text t) ≡ Some text
text_put top text (texts a b v) = refl
text_put budget text (texts a b v) = refl
text_put vcd text (texts a b v) = refl

text_kept : (o p : Option') (text : Text) (t : Texts) → is_option p o ≡ false → text_at p (put o text t) ≡ text_at p t
text_kept top top text t e = absurd (true≢false e)
text_kept budget budget text t e = absurd (true≢false e)
text_kept vcd vcd text t e = absurd (true≢false e)
text_kept top budget text (texts a b v) e = refl
text_kept top vcd text (texts a b v) e = refl
text_kept budget top text (texts a b v) e = refl
text_kept budget vcd text (texts a b v) e = refl
text_kept vcd top text (texts a b v) e = refl
text_kept vcd budget text (texts a b v) e = refl

pub same_texts : (t u : Texts) → ((o : Option') → text_at o t ≡ text_at o u) → t ≡ u
same_texts (texts a b v) (texts c d w) h = λ i. texts (h top i) (h budget i) (h vcd i)

abbrev pub given_by : (Option' → Option Text) → Texts
given_by f = texts (f top) (f budget) (f vcd)

pub given_by_is : (f : Option' → Option Text) (o : Option') → text_at o (given_by f) ≡ f o
given_by_is f top = refl
given_by_is f budget = refl
given_by_is f vcd = refl

-- ---- good texts

some_letter : (text : Text) → not (eqb (length text) 0) ≡ true → 1 ≤ length text
some_letter [] e = absurd (false≢true e)
some_letter (b ∷ more) e = omega arith

some_number : (text : Text) (r : Option ℕ) → IfSome r (λ n. IsBudget text n) → is_some r ≡ true → (n : ℕ) × IsBudget text n
some_number text None h e = absurd (false≢true e)
some_number text (Some n) h e = (n, h)

good_is : (o : Option') (text : Text) → is_good o text ≡ true → IsGood o text
good_is top text e = some_letter text e
good_is budget text e = some_number text (budget_of text) (budget_is text) e
good_is vcd text e = tt

good_from : (o : Option') (text : Text) → IsGood o text → is_good o text ≡ true
good_from top text h = ap not (ne_eqb (length text) 0 (λ e. omega arith))
good_from budget text h = ap (λ (r : Option ℕ). is_some r) (budget_found text h.0 h.1)
good_from vcd text h = refl

pub may_give_is : (form : Form) (before : Option Text) (o : Option') (text : Text) → may_give form before o text ≡ true → (before ≡ None) × IsAllowed form (record { option = o; text = text })
may_give_is form None o text e = let p = and_parts (is_among o form.options) (is_good o text) e in (refl, record { among = p.0; good = good_is o text p.1 })
may_give_is form (Some before) o text e = absurd (false≢true e)

may_give_from : (form : Form) (before : Option Text) (o : Option') (text : Text) → before ≡ None → IsAllowed form (record { option = o; text = text }) → may_give form before o text ≡ true
may_give_from form None o text e h = and_from (is_among o form.options) (is_good o text) h.among (good_from o text h.good)
may_give_from form (Some before) o text e h = cc

-- ---- an option that was given before or is given later

pub data Joins : Option Text → Option Text → Option Text → Type 0 where
  before : (x : Option Text) → Joins x None x
  later : (x : Option Text) → Joins None x x

-- of each option, what was given before, what these settings give, and what it is then
abbrev pub AllJoin : Texts → List Setting → Texts → Type 0
AllJoin t s u = (o : Option') → Joins (text_at o t) (given o s) (text_at o u)

joins_as : (a b c a' b' c' : Option Text) → a' ≡ a → b' ≡ b → c' ≡ c → Joins a b c → Joins a' b' c'
joins_as a b c a' b' c' p q r h =
    subst (λ (x : Option Text). Joins x b' c') (sym p) (subst (λ (x : Option Text). Joins a x c') (sym q) (subst (λ (x : Option Text). Joins a b x) (sym r) h))

pub joins_none : (x v : Option Text) → Joins x None v → x ≡ v
joins_none x v (before w) = refl
joins_none x v (later w) = refl

pub joined_none : (x v : Option Text) → Joins None x v → x ≡ v
joined_none x v (before w) = refl
joined_none x v (later w) = refl

joins_some : (x : Option Text) (a : Text) (v : Option Text) → Joins x (Some a) v → (x ≡ None) × (v ≡ Some a)
joins_some x a v (later w) = (refl, refl)

joined_some : (a : Text) (x v : Option Text) → Joins (Some a) x v → (x ≡ None) × (v ≡ Some a)
joined_some a x v (before w) = (refl, refl)

-- what is given where this text was put before
pub put_before : (t u : Texts) (o : Option') (text : Text) (s : List Setting) → AllJoin (put o text t) s u → (given o s ≡ None) × (text_at o u ≡ Some text)
put_before t u o text s h = joined_some text (given o s) (text_at o u) (joins_as (text_at o (put o text t)) (given o s) (text_at o u) (Some text) (given o s) (text_at o u) (sym (text_put o text t)) refl refl (h o))

given_first : (o : Option') (text : Text) (s : List Setting) → given o (record { option = o; text = text } ∷ s) ≡ Some text
given_first o text s = ap (λ b. cond b (Some text) (given o s)) (is_same o)

given_other : (o p : Option') (text : Text) (s : List Setting) → is_option p o ≡ false → given p (record { option = o; text = text } ∷ s) ≡ given p s
given_other o p text s e = ap (λ b. cond b (Some text) (given p s)) e

-- the text stands in the words in place of before them
pub joins_more : (t u : Texts) (o : Option') (text : Text) (s : List Setting) → text_at o t ≡ None → AllJoin (put o text t) s u → AllJoin t (record { option = o; text = text } ∷ s) u
joins_more t u o text s free h p = by_same (is_option p o) refl
  where
    by_same : (b : Bool) → is_option p o ≡ b → Joins (text_at p t) (given p (record { option = o; text = text } ∷ s)) (text_at p u)
    by_same true e =
        let P : Option' → Type 0 = λ q. Joins (text_at q t) (given q (record { option = o; text = text } ∷ s)) (text_at q u) in
        subst P (sym (one_option p o e))
        (joins_as None (Some text) (Some text) (text_at o t) (given o (record { option = o; text = text } ∷ s)) (text_at o u) free (given_first o text s) (put_before t u o text s h).1 (later (Some text)))
    by_same false e =
        joins_as (text_at p (put o text t)) (given p s) (text_at p u) (text_at p t) (given p (record { option = o; text = text } ∷ s)) (text_at p u) (sym (text_kept o p text t e)) (given_other o p text s e) refl (h p)

-- the same from the words' side
abbrev FirstIs : Texts → Texts → Option' → Text → Type 0
FirstIs t u o text = (text_at o t ≡ None) × (text_at o u ≡ Some text)

first_joins : (t u : Texts) (o : Option') (text : Text) (s : List Setting) → AllJoin t (record { option = o; text = text } ∷ s) u → FirstIs t u o text
first_joins t u o text s h =
    joins_some (text_at o t) text (text_at o u)
    (joins_as (text_at o t) (given o (record { option = o; text = text } ∷ s)) (text_at o u) (text_at o t) (Some text) (text_at o u) refl (sym (given_first o text s)) refl (h o))

joins_less : (t u : Texts) (o : Option') (text : Text) (s : List Setting) → given o s ≡ None → AllJoin t (record { option = o; text = text } ∷ s) u → AllJoin (put o text t) s u
joins_less t u o text s once h p = by_same (is_option p o) refl
  where
    by_same : (b : Bool) → is_option p o ≡ b → Joins (text_at p (put o text t)) (given p s) (text_at p u)
    by_same true e =
        let P : Option' → Type 0 = λ q. Joins (text_at q (put o text t)) (given q s) (text_at q u) in
        subst P (sym (one_option p o e))
        (joins_as (Some text) None (Some text) (text_at o (put o text t)) (given o s) (text_at o u) (text_put o text t) once (first_joins t u o text s h).1 (before (Some text)))
    by_same false e =
        joins_as (text_at p t) (given p (record { option = o; text = text } ∷ s)) (text_at p u) (text_at p (put o text t)) (given p s) (text_at p u) (text_kept o p text t e) (sym (given_other o p text s e)) refl (h p)

-- a setting that the form allows may be given where it comes once
pub once_given : (t u : Texts) (o : Option') (text : Text) (s : List Setting) (form : Form) → given o s ≡ None → IsAllowed form (record { option = o; text = text })
    → AllJoin t (record { option = o; text = text } ∷ s) u → (may_give form (text_at o t) o text ≡ true) × AllJoin (put o text t) s u
once_given t u o text s form once allowed h = (may_give_from form (text_at o t) o text (first_joins t u o text s h).0 allowed, joins_less t u o text s once h)

-- nothing was given before
pub from_nothing : (s : List Setting) (u : Texts) (o : Option') → AllJoin nothing_given s u → given o s ≡ text_at o u
from_nothing s u o h = joined_none (given o s) (text_at o u) (joins_as (text_at o nothing_given) (given o s) (text_at o u) None (given o s) (text_at o u) (sym (none_given o)) refl refl (h o))

pub all_given : (s : List Setting) → AllJoin nothing_given s (given_by (λ o. given o s))
all_given s o = joins_as None (given o s) (given o s) (text_at o nothing_given) (given o s) (text_at o (given_by (λ p. given p s))) (none_given o) refl (given_by_is (λ p. given p s) o) (later (given o s))

-- ---- what settings give is allowed

abbrev IsAllowedAt : Form → Option' → Text → Type 0
IsAllowedAt form o text = IsTrue (is_among o form.options) × IsGood o text

given_allowed : (form : Form) (o : Option') (s : List Setting) → All (IsAllowed form) s → IfSome (given o s) (IsAllowedAt form o)
given_allowed form o [] h = tt
given_allowed form o (c ∷ s) h =
    let first : IsAllowed form c = All-head (IsAllowed form) c s h in
    on_if (λ r. IfSome r (IsAllowedAt form o)) (is_option o c.option) (Some c.text) (given o s)
    (λ e. subst (λ (p : Option'). IsAllowedAt form p c.text) (sym (one_option o c.option e)) (first.among, first.good))
    (λ _. given_allowed form o s (All-tail (IsAllowed form) c s h))

number_is : (form : Form) (r : Option Text) → IfSome r (IsAllowedAt form budget) → option_and_then budget_of r ≡ option_map (number_behind 0) r
number_is form None h = refl
number_is form (Some text) h = let n = h.1 in budget_found text n.0 n.1 ∙ ap (λ k. Some k) n.1.is

-- the number of the budget that is given
pub given_number : (form : Form) (s : List Setting) → All (IsAllowed form) s → option_and_then budget_of (given budget s) ≡ option_map (number_behind 0) (given budget s)
given_number form s h = number_is form (given budget s) (given_allowed form budget s h)

in_bounds_is : (form : Form) (r : Option Text) → IfSome r (IsAllowedAt form budget) → IsBudgetInBounds (option_map (number_behind 0) r)
in_bounds_is form None h = tt
in_bounds_is form (Some text) h = let n = h.1 in subst (λ (k : ℕ). IsBudgetInBounds (Some k)) n.1.is (n.1.low, n.1.high)

-- which is in bounds
pub given_in_bounds : (form : Form) (s : List Setting) → All (IsAllowed form) s → IsBudgetInBounds (option_map (number_behind 0) (given budget s))
given_in_bounds form s h = in_bounds_is form (given budget s) (given_allowed form budget s h)
