-- The kind of a word is what the word is.
use Rattle.std.proofs.Common.{◌≡◌, Bool, true, false, cond, List, [], ◌∷◌, ◌++◌, length, take, drop, bytes_eq, Option, Some, None, IsTrue, IsFalse, refl, sym, ap, ◌∙◌, arith}
use Rattle.std.specs.Prelude.{codes, IfSome, option_map, option_and_then, unwrap_or}
use Rattle.std.proofs.lemmas.Bool.{false≢true, eqb-true, eq-eqb, both_ways}
use Rattle.std.proofs.lemmas.List.{take-append-drop}
use Rattle.std.proofs.lemmas.Slice.Eq.{bytes_eq-Decides}
use Rattle.svtv_words.specs.Commands.{Text, IsDashed, Option', top, budget, vcd, option_text, takes_text}
use Rattle.svtv_words.specs.Reading.{Kind, a_name, with_text, before_text, on_its_own, the_rest, unknown, is_dashed, text_behind, bare_kind, joined_text, option_kind, every_option, kind_among, kind_by, kind_of}

pub on_if : {A : Type 0} (P : A → Type 0) (b : Bool) (x y : A) → (b ≡ true → P x) → (b ≡ false → P y) → P (cond b x y)
on_if P true x y f g = f refl
on_if P false x y f g = g refl

-- ---- dashed words

pub dashed_is : (w : Text) → is_dashed w ≡ true → IsDashed w
dashed_is [] e = absurd (false≢true e)
dashed_is (b ∷ []) e = absurd (false≢true e)
dashed_is (b ∷ c ∷ more) e = (omega arith, eqb-true b 45 e)

is_dashed_true : (w : Text) → IsDashed w → is_dashed w ≡ true
is_dashed_true [] h = absurd (omega (arith, h.0))
is_dashed_true (b ∷ []) h = absurd (omega (arith, h.0))
is_dashed_true (b ∷ c ∷ more) h = eq-eqb b 45 h.1

pub undashed : (w : Text) → is_dashed w ≡ false → ¬ IsDashed w
undashed w e h = both_ways (is_dashed w) e (is_dashed_true w h)

pub is_dashed_false : (w : Text) → ¬ IsDashed w → is_dashed w ≡ false
is_dashed_false w h = by_case (is_dashed w) (λ e. h (dashed_is w e))
  where
    by_case : (b : Bool) → (b ≡ true → ⊥) → b ≡ false
    by_case true f = absurd (f refl)
    by_case false f = refl

-- ---- what a kind says of its word

abbrev pub Fits : Text → Kind → Type 0
Fits w a_name = ¬ IsDashed w
Fits w (with_text o text) = IsTrue (takes_text o) × (w ≡ option_text o ++ 61 ∷ text)
Fits w (before_text o) = IsTrue (takes_text o) × (w ≡ option_text o)
Fits w (on_its_own o) = IsFalse (takes_text o) × (w ≡ option_text o)
Fits w the_rest = w ≡ codes "--"
Fits w unknown = Unit {0}

behind_is : (front w : Text) → IfSome (text_behind front w) (λ text. w ≡ front ++ text)
behind_is front w = on_if (λ o. IfSome o (λ text. w ≡ front ++ text)) (bytes_eq (take (length front) w) front) (Some (drop (length front) w)) None
    (λ e. sym (take-append-drop (length front) w) ∙ ap (λ x. x ++ drop (length front) w) ((bytes_eq-Decides (take (length front) w) front).0 e)) (λ _. tt)

bare_fits : (w : Text) (o : Option') (b : Bool) → takes_text o ≡ b → w ≡ option_text o → Fits w (bare_kind b o)
bare_fits w o true t e = (t, e)
bare_fits w o false t e = (t, e)

-- the text is joined to the option's word
abbrev IsJoined : Text → Option' → Text → Type 0
IsJoined w o text = IsTrue (takes_text o) × (w ≡ option_text o ++ 61 ∷ text)

marked : (w : Text) (o : Option') (behind : Text) → IsTrue (takes_text o) → w ≡ option_text o ++ behind → (r : Option Text) → IfSome r (λ text. behind ≡ 61 ∷ text) → IfSome r (IsJoined w o)
marked w o behind t e None h = tt
marked w o behind t e (Some text) h = (t, e ∙ ap (λ x. option_text o ++ x) h)

joined_behind : (w : Text) (o : Option') → IsTrue (takes_text o) → (r : Option Text) → IfSome r (λ x. w ≡ option_text o ++ x) → IfSome (option_and_then (text_behind (codes "=")) r) (IsJoined w o)
joined_behind w o t None h = tt
joined_behind w o t (Some behind) h = marked w o behind t h (text_behind (codes "=") behind) (behind_is (codes "=") behind)

joined_is : (w : Text) (o : Option') → IfSome (joined_text o w) (IsJoined w o)
joined_is w o = on_if (λ r. IfSome r (IsJoined w o)) (takes_text o) (option_and_then (text_behind (codes "=")) (text_behind (option_text o) w)) None
    (λ t. joined_behind w o t (text_behind (option_text o) w) (behind_is (option_text o) w)) (λ _. tt)

text_fits : (w : Text) (o : Option') (r : Option Text) → IfSome r (IsJoined w o) → IfSome (option_map (λ text. with_text o text) r) (Fits w)
text_fits w o None h = tt
text_fits w o (Some text) h = h

option_fits : (w : Text) (o : Option') → IfSome (option_kind o w) (Fits w)
unfolding option_kind
option_fits w o = on_if (λ r. IfSome r (Fits w)) (bytes_eq w (option_text o)) (Some (bare_kind (takes_text o) o)) (option_map (λ text. with_text o text) (joined_text o w))
    (λ e. bare_fits w o (takes_text o) refl ((bytes_eq-Decides w (option_text o)).0 e)) (λ _. text_fits w o (joined_text o w) (joined_is w o))

or_fits : (w : Text) (r : Option Kind) (k : Kind) → IfSome r (Fits w) → Fits w k → Fits w (unwrap_or r k)
or_fits w None k h g = g
or_fits w (Some x) k h g = h

among_fits : (w : Text) (all : List Option') → Fits w (kind_among all w)
among_fits w [] = tt
among_fits w (o ∷ more) = or_fits w (option_kind o w) (kind_among more w) (option_fits w o) (among_fits w more)

fits_by : (w : Text) (d r : Bool) (k : Kind) → (d ≡ false → ¬ IsDashed w) → (r ≡ true → w ≡ codes "--") → Fits w k → Fits w (kind_by d r k)
fits_by w false r k hd hr h = hd refl
fits_by w true true k hd hr h = hr refl
fits_by w true false k hd hr h = h

pub fits : (w : Text) → Fits w (kind_of w)
unfolding kind_of
fits w = fits_by w (is_dashed w) (bytes_eq w (codes "--")) (kind_among every_option w) (undashed w) (bytes_eq-Decides w (codes "--")).0 (among_fits w every_option)

-- ---- the kinds of words

pub kind_rest : kind_of (codes "--") ≡ the_rest
unfolding kind_of
kind_rest = refl

kind_bare : (o : Option') → kind_of (option_text o) ≡ bare_kind (takes_text o) o
unfolding kind_of option_kind
kind_bare top = refl
kind_bare budget = refl
kind_bare vcd = refl

pub kind_apart : (o : Option') → IsTrue (takes_text o) → kind_of (option_text o) ≡ before_text o
kind_apart o t = kind_bare o ∙ ap (λ b. bare_kind b o) t

pub kind_alone : (o : Option') → IsFalse (takes_text o) → kind_of (option_text o) ≡ on_its_own o
kind_alone o t = kind_bare o ∙ ap (λ b. bare_kind b o) t

pub kind_joined : (o : Option') (text : Text) → IsTrue (takes_text o) → kind_of (option_text o ++ 61 ∷ text) ≡ with_text o text
unfolding kind_of option_kind
kind_joined top text t = refl
kind_joined budget text t = refl
kind_joined vcd text t = absurd (false≢true t)

pub kind_name : (w : Text) → ¬ IsDashed w → kind_of w ≡ a_name
unfolding kind_of
kind_name w h = ap (λ d. kind_by d (bytes_eq w (codes "--")) (kind_among every_option w)) (is_dashed_false w h)
