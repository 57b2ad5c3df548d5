-- What reading finds is what the words have.
use Rattle.std.proofs.Common.{◌≡◌, ◌≤◌, false, leb, ltb, List, [], ◌∷◌, ◌++◌, length, Option, Some, None, IsTrue, refl, sym, ap, ◌∙◌, subst, append_assoc}
use Rattle.std.specs.Prelude.{codes, option_map, option_and_then, IfSome}
use Rattle.std.specs.List.{All}
use Rattle.std.proofs.lemmas.Bool.{true≢false, leb-true}
use Rattle.std.proofs.lemmas.List.{append-nil}
use Rattle.std.proofs.lemmas.List.Elements.{All-nil, All-cons}
use Rattle.svtv_words.specs.Commands.{Text, IsDashed, Option', option_text, takes_text, Setting, Reads, none, rest, joined, apart, alone, positional, AreOnce, AreNames, Form, IsAllowed}
use Rattle.svtv_words.specs.Reading.{Kind, a_name, with_text, before_text, on_its_own, the_rest, unknown, is_dashed, kind_of, Texts, text_at, put, may_give, Next, anything, text_of, a_positional, Found, found, most_positionals, one_more, with_name, with_setting, with_kind, found_in, is_waiting}
use Rattle.svtv_words.proofs.OneWord.{on_if, undashed, Fits, fits}
use Rattle.svtv_words.proofs.Options.{AllJoin, before, may_give_is, put_before, joins_more}

-- ---- what words add to what was found before them

abbrev pub Follows : Next → List Text → List Text → List Setting → Type 0
Follows anything words p s = Reads words p s
Follows (text_of o) words p s = IsTrue (takes_text o) → Reads (option_text o ∷ words) p s
Follows a_positional words p s = (p ≡ words) × (s ≡ [])

pub record Adds (form : Form) (next : Next) (words names : List Text) (t : Texts) (all : List Text) (u : Texts) : Type 0 where
  pub positionals : List Text
  pub settings : List Setting
  pub follows : Follows next words positionals settings
  pub are_names : AreNames positionals
  pub all_are : all ≡ names ++ positionals
  pub once : AreOnce settings
  pub allowed : All (IsAllowed form) settings
  pub joins : AllJoin t settings u

abbrev pub Sound : Form → List Text → Found → Option Found → Type 0
Sound form words f None = Unit {0}
Sound form words (found next names t) (Some (found last all u)) = is_waiting last ≡ false → Adds form next words names t all u

-- from some words on to one word more
carried : (form : Form) (more words : List Text) (next : Next) (names : List Text) (t : Texts) (next' : Next) (names' : List Text) (t' : Texts)
    → ((all : List Text) (u : Texts) → Adds form next' more names' t' all u → Adds form next words names t all u)
    → (r : Option Found) → Sound form more (found next' names' t') r → Sound form words (found next names t) r
carried form more words next names t next' names' t' k None h = tt
carried form more words next names t next' names' t' k (Some (found last all u)) h = λ e. k all u (h e)

-- what the words behind the next one add
abbrev Onwards : Form → List Text → Type 0
Onwards form more = (f : Found) → Sound form more f (found_in form more f)

-- ---- names

one_more_is : (names : List Text) (w : Text) → IfSome (one_more names w) (λ all. all ≡ names ++ w ∷ [])
one_more_is names w = on_if (λ o. IfSome o (λ all. all ≡ names ++ w ∷ [])) (ltb (length names) most_positionals) (Some (names ++ w ∷ [])) None (λ _. refl) (λ _. tt)

sound_name : (form : Form) (more words : List Text) (next : Next) (names : List Text) (t : Texts) (w : Text)
    → ((put : List Text) → put ≡ names ++ w ∷ [] → 1 ≤ length w → (all : List Text) (u : Texts) → Adds form next more put t all u → Adds form next words names t all u)
    → Onwards form more → Sound form words (found next names t) (option_and_then (found_in form more) (with_name (found next names t) w))
sound_name form more words next names t w add on =
    on_if (λ o. Sound form words (found next names t) (option_and_then (found_in form more) (option_map (λ all. found next all t) o))) (leb 1 (length w)) (one_more names w) None
    (λ e. step (one_more names w) (one_more_is names w) (leb-true 1 (length w) e)) (λ _. tt)
  where
    step : (o : Option (List Text)) → IfSome o (λ all. all ≡ names ++ w ∷ []) → 1 ≤ length w → Sound form words (found next names t) (option_and_then (found_in form more) (option_map (λ all. found next all t) o))
    step None h low = tt
    step (Some all) h low = carried form more words next names t next all t (add all h low) (found_in form more (found next all t)) (on (found next all t))

-- ---- options

abbrev Puts : List Text → List Text → Next → Option' → Text → Type 0
Puts more words next o text = (p : List Text) (s : List Setting) → Reads more p s → Follows next words p (record { option = o; text = text } ∷ s)

add_setting : (form : Form) (more words : List Text) (next : Next) (names : List Text) (t : Texts) (o : Option') (text : Text) → Puts more words next o text
    → text_at o t ≡ None → IsAllowed form (record { option = o; text = text })
    → (all : List Text) (u : Texts) → Adds form anything more names (put o text t) all u → Adds form next words names t all u
add_setting form more words next names t o text puts free allowed all u a =
    record {
      positionals = a.positionals;
      settings = record { option = o; text = text } ∷ a.settings;
      follows = puts a.positionals a.settings a.follows;
      are_names = a.are_names;
      all_are = a.all_are;
      once = ((put_before t u o text a.settings a.joins).0, a.once);
      allowed = All-cons (IsAllowed form) (record { option = o; text = text }) a.settings allowed a.allowed;
      joins = joins_more t u o text a.settings free a.joins;
    }

sound_setting : (form : Form) (more words : List Text) (next : Next) (names : List Text) (t : Texts) (o : Option') (text : Text) → Puts more words next o text
    → Onwards form more → Sound form words (found next names t) (option_and_then (found_in form more) (with_setting form (found next names t) o text))
sound_setting form more words next names t o text puts on =
    on_if (λ r. Sound form words (found next names t) (option_and_then (found_in form more) r)) (may_give form (text_at o t) o text) (Some (found anything names (put o text t))) None
    (λ e. let ok = may_give_is form (text_at o t) o text e in
    carried form more words next names t anything names (put o text t) (add_setting form more words next names t o text puts ok.0 ok.1)
    (found_in form more (found anything names (put o text t))) (on (found anything names (put o text t))))
    (λ _. tt)

-- ---- one word where no option waits

add_name : (form : Form) (more : List Text) (w : Text) (names : List Text) (t : Texts) → ¬ IsDashed w → (put : List Text) → put ≡ names ++ w ∷ [] → 1 ≤ length w
    → (all : List Text) (u : Texts) → Adds form anything more put t all u → Adds form anything (w ∷ more) names t all u
add_name form more w names t plain put is low all u a =
    record {
      positionals = w ∷ a.positionals;
      settings = a.settings;
      follows = positional w plain a.follows;
      are_names = All-cons (λ v. 1 ≤ length v) w a.positionals low a.are_names;
      all_are = a.all_are ∙ ap (λ x. x ++ a.positionals) is ∙ append_assoc names (w ∷ []) a.positionals;
      once = a.once;
      allowed = a.allowed;
      joins = a.joins;
    }

add_rest : (form : Form) (more : List Text) (w : Text) (names : List Text) (t : Texts) → (put : List Text) → put ≡ names ++ w ∷ [] → 1 ≤ length w
    → (all : List Text) (u : Texts) → Adds form a_positional more put t all u → Adds form a_positional (w ∷ more) names t all u
add_rest form more w names t put is low all u a =
    record {
      positionals = w ∷ a.positionals;
      settings = a.settings;
      follows = (ap (λ x. w ∷ x) a.follows.0, a.follows.1);
      are_names = All-cons (λ v. 1 ≤ length v) w a.positionals low a.are_names;
      all_are = a.all_are ∙ ap (λ x. x ++ a.positionals) is ∙ append_assoc names (w ∷ []) a.positionals;
      once = a.once;
      allowed = a.allowed;
      joins = a.joins;
    }

-- the same with other words
add_as : (form : Form) (more words : List Text) (next next' : Next) (names : List Text) (t : Texts) → ((p : List Text) (s : List Setting) → Follows next' more p s → Follows next words p s)
    → (all : List Text) (u : Texts) → Adds form next' more names t all u → Adds form next words names t all u
add_as form more words next next' names t k all u a =
    record {
      positionals = a.positionals;
      settings = a.settings;
      follows = k a.positionals a.settings a.follows;
      are_names = a.are_names;
      all_are = a.all_are;
      once = a.once;
      allowed = a.allowed;
      joins = a.joins;
    }

rest_as : (w : Text) (more : List Text) → w ≡ codes "--" → (p : List Text) (s : List Setting) → (p ≡ more) × (s ≡ []) → Reads (w ∷ more) p s
rest_as w more e p s h =
    subst (λ (x : List Text). Reads (w ∷ more) x s) (sym h.0) (subst (λ (x : List Setting). Reads (w ∷ more) more x) (sym h.1) (subst (λ (x : Text). Reads (x ∷ more) more []) (sym e) rest))

sound_kind : (form : Form) (w : Text) (more names : List Text) (t : Texts) (k : Kind) → Fits w k → Onwards form more
    → Sound form (w ∷ more) (found anything names t) (option_and_then (found_in form more) (with_kind form (found anything names t) w k))
sound_kind form w more names t a_name h on = sound_name form more (w ∷ more) anything names t w (add_name form more w names t h) on
sound_kind form w more names t (with_text o text) h on =
    sound_setting form more (w ∷ more) anything names t o text (λ p s r. subst (λ (x : Text). Reads (x ∷ more) p (record { option = o; text = text } ∷ s)) (sym h.1) (joined o text h.0 r)) on
sound_kind form w more names t (before_text o) h on =
    carried form more (w ∷ more) anything names t (text_of o) names t (add_as form more (w ∷ more) anything (text_of o) names t (λ p s r. subst (λ (x : Text). Reads (x ∷ more) p s) (sym h.1) (r h.0)))
    (found_in form more (found (text_of o) names t)) (on (found (text_of o) names t))
sound_kind form w more names t (on_its_own o) h on =
    sound_setting form more (w ∷ more) anything names t o [] (λ p s r. subst (λ (x : Text). Reads (x ∷ more) p (record { option = o; text = [] } ∷ s)) (sym h.1) (alone o h.0 r)) on
sound_kind form w more names t the_rest h on =
    carried form more (w ∷ more) anything names t a_positional names t (add_as form more (w ∷ more) anything a_positional names t (rest_as w more h))
    (found_in form more (found a_positional names t)) (on (found a_positional names t))
sound_kind form w more names t unknown h on = tt

-- ---- all words

-- no words add nothing
nothing_more : (form : Form) (next : Next) (names : List Text) (t : Texts) → Follows next [] [] [] → Adds form next [] names t names t
nothing_more form next names t follows = record {
  positionals = [];
  settings = [];
  follows = follows;
  are_names = All-nil (λ v. 1 ≤ length v);
  all_are = sym (append-nil names);
  once = tt;
  allowed = All-nil (IsAllowed form);
  joins = λ o. before (text_at o t);
}

pub sound : (form : Form) (words : List Text) (f : Found) → Sound form words f (found_in form words f)
unfolding found_in
sound form [] (found anything names t) = λ _. nothing_more form anything names t none
sound form [] (found (text_of o) names t) = λ e. absurd (true≢false e)
sound form [] (found a_positional names t) = λ _. nothing_more form a_positional names t (refl, refl)
sound form (w ∷ more) (found anything names t) = sound_kind form w more names t (kind_of w) (fits w) (λ f. sound form more f)
sound form (w ∷ more) (found (text_of o) names t) =
    on_if (λ r. Sound form (w ∷ more) (found (text_of o) names t) (option_and_then (found_in form more) r)) (is_dashed w) None (with_setting form (found (text_of o) names t) o w) (λ _. tt)
    (λ e. sound_setting form more (w ∷ more) (text_of o) names t o w (λ p s r takes. apart o w takes (undashed w e) r) (λ f. sound form more f))
sound form (w ∷ more) (found a_positional names t) = sound_name form more (w ∷ more) a_positional names t w (add_rest form more w names t) (λ f. sound form more f)
