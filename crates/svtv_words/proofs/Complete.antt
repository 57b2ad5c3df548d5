-- Reading finds what the words have.
use Rattle.std.proofs.Common.{◌≡◌, ◌+◌, ◌<◌, ◌≤◌, false, cond, List, [], ◌∷◌, ◌++◌, length, Option, Some, None, refl, sym, ap, ◌∙◌, subst, append_assoc, arith}
use Rattle.std.specs.Prelude.{codes, option_map, option_and_then}
use Rattle.std.specs.List.{All}
use Rattle.std.proofs.lemmas.Bool.{le-leb, lt-ltb}
use Rattle.std.proofs.lemmas.List.{append-nil, length-append}
use Rattle.std.proofs.lemmas.List.Elements.{All-head, All-tail}
use Rattle.svtv_words.specs.Commands.{Text, Option', option_text, Setting, Reads, none, rest, joined, apart, alone, positional, AreOnce, AreNames, Form, IsAllowed}
use Rattle.svtv_words.specs.Reading.{Texts, text_at, put, Next, anything, text_of, a_positional, Found, found, most_positionals, one_more, with_name, with_setting, with_kind, found_in, is_waiting}
use Rattle.svtv_words.proofs.OneWord.{is_dashed_false, kind_rest, kind_apart, kind_alone, kind_joined, kind_name}
use Rattle.svtv_words.proofs.Options.{AllJoin, joins_none, same_texts, once_given}

-- ---- settings

-- what one setting more is found as
record Goes (form : Form) (next : Next) (names : List Text) (t : Texts) (o : Option') (text : Text) (s : List Setting) (u : Texts) : Type 0 where
  is : with_setting form (found next names t) o text ≡ Some (found anything names (put o text t))
  once : AreOnce s
  allowed : All (IsAllowed form) s
  joins : AllJoin (put o text t) s u

goes : (form : Form) (next : Next) (names : List Text) (t : Texts) (o : Option') (text : Text) (s : List Setting) (u : Texts) → AreOnce (record { option = o; text = text } ∷ s)
    → All (IsAllowed form) (record { option = o; text = text } ∷ s) → AllJoin t (record { option = o; text = text } ∷ s) u → Goes form next names t o text s u
goes form next names t o text s u once allowed joins =
    let held = once_given t u o text s form once.0 (All-head (IsAllowed form) (record { option = o; text = text }) s allowed) joins in
    record {
      is = ap (λ b. cond b (Some (found anything names (put o text t))) None) held.0;
      once = once.1;
      allowed = All-tail (IsAllowed form) (record { option = o; text = text }) s allowed;
      joins = held.1;
    }

-- ---- names

one_more_fits : (names : List Text) (w : Text) → length names < most_positionals → one_more names w ≡ Some (names ++ w ∷ [])
one_more_fits names w h = ap (λ b. cond b (Some (names ++ w ∷ [])) None) (lt-ltb (length names) most_positionals h)

name_fits : (next : Next) (names : List Text) (t : Texts) (w : Text) → 1 ≤ length w → length names < most_positionals → with_name (found next names t) w ≡ Some (found next (names ++ w ∷ []) t)
name_fits next names t w low few =
    ap (λ b. option_map (λ all. found next all t) (cond b (one_more names w) None)) (le-leb 1 (length w) low) ∙ ap (λ o. option_map (λ all. found next all t) o) (one_more_fits names w few)

fewer : (names p : List Text) (w : Text) → length (names ++ w ∷ p) ≤ most_positionals → (length names < most_positionals) × (length ((names ++ w ∷ []) ++ p) ≤ most_positionals)
fewer names p w h =
    let a : length (names ++ w ∷ p) ≡ length names + length (w ∷ p) = length-append names (w ∷ p) in
    (omega arith, subst (λ (x : List Text). length x ≤ most_positionals) (sym (append_assoc names (w ∷ []) p)) h)

-- ---- all words

pub record Ends (r : Option Found) (names : List Text) (t : Texts) : Type 0 where
  pub last : Next
  pub is : r ≡ Some (found last names t)
  pub ready : is_waiting last ≡ false

as_read : (r r' : Option Found) (names names' : List Text) (t : Texts) → r' ≡ r → names ≡ names' → Ends r names t → Ends r' names' t
as_read r r' names names' t e f h = record { last = h.last; is = e ∙ h.is ∙ ap (λ x. Some (found h.last x t)) f; ready = h.ready }

rest_in : (form : Form) (words names : List Text) (t : Texts) → AreNames words → length (names ++ words) ≤ most_positionals → Ends (found_in form words (found a_positional names t)) (names ++ words) t
unfolding found_in
rest_in form [] names t are few = record { last = a_positional; is = ap (λ x. Some (found a_positional x t)) (sym (append-nil names)); ready = refl }
rest_in form (w ∷ more) names t are few =
    let f = fewer names more w few in
    as_read (found_in form more (found a_positional (names ++ w ∷ []) t)) (found_in form (w ∷ more) (found a_positional names t)) ((names ++ w ∷ []) ++ more) (names ++ w ∷ more) t
    (ap (λ r. option_and_then (found_in form more) r) (name_fits a_positional names t w (All-head (λ v. 1 ≤ length v) w more are) f.0)) (append_assoc names (w ∷ []) more)
    (rest_in form more (names ++ w ∷ []) t (All-tail (λ v. 1 ≤ length v) w more are) f.1)

pub complete : (form : Form) (words p : List Text) (s : List Setting) → Reads words p s → (names : List Text) (t u : Texts)
    → AreNames p → length (names ++ p) ≤ most_positionals → AreOnce s → All (IsAllowed form) s → AllJoin t s u → Ends (found_in form words (found anything names t)) (names ++ p) u
unfolding found_in
complete form words p s none names t u are few once allowed joins =
    let same = same_texts t u (λ o. joins_none (text_at o t) (text_at o u) (joins o)) in
    record { last = anything; is = λ i. Some (found anything (sym (append-nil names) i) (same i)); ready = refl }
complete form words p s (rest {words = more}) names t u are few once allowed joins =
    let same = same_texts t u (λ o. joins_none (text_at o t) (text_at o u) (joins o)) in
    let h = rest_in form more names u are few in
    record { last = h.last; is = ap (λ k. option_and_then (found_in form more) (with_kind form (found anything names t) (codes "--") k)) kind_rest ∙ (λ i. found_in form more (found a_positional names (same i))) ∙ h.is; ready = h.ready }
complete form words p s (joined {words = more} {positionals = q} {settings = c} o text takes r) names t u are few once allowed joins =
    let w = option_text o ++ 61 ∷ text in
    let g = goes form anything names t o text c u once allowed joins in
    let h = complete form more q c r names (put o text t) u are few g.once g.allowed g.joins in
    record { last = h.last; is = ap (λ k. option_and_then (found_in form more) (with_kind form (found anything names t) w k)) (kind_joined o text takes) ∙ ap (λ x. option_and_then (found_in form more) x) g.is ∙ h.is; ready = h.ready }
complete form words p s (apart {words = more} {positionals = q} {settings = c} o text takes plain r) names t u are few once allowed joins =
    let g = goes form (text_of o) names t o text c u once allowed joins in
    let h = complete form more q c r names (put o text t) u are few g.once g.allowed g.joins in
    record {
      last = h.last;
      is = ap (λ k. option_and_then (found_in form (text ∷ more)) (with_kind form (found anything names t) (option_text o) k)) (kind_apart o takes)
          ∙ ap (λ b. option_and_then (found_in form more) (cond b None (with_setting form (found (text_of o) names t) o text))) (is_dashed_false text plain)
          ∙ ap (λ x. option_and_then (found_in form more) x) g.is ∙ h.is;
      ready = h.ready;
    }
complete form words p s (alone {words = more} {positionals = q} {settings = c} o takes r) names t u are few once allowed joins =
    let g = goes form anything names t o [] c u once allowed joins in
    let h = complete form more q c r names (put o [] t) u are few g.once g.allowed g.joins in
    record { last = h.last; is = ap (λ k. option_and_then (found_in form more) (with_kind form (found anything names t) (option_text o) k)) (kind_alone o takes) ∙ ap (λ x. option_and_then (found_in form more) x) g.is ∙ h.is; ready = h.ready }
complete form words p s (positional {words = more} {positionals = q} {settings = c} w plain r) names t u are few once allowed joins =
    let f = fewer names q w few in
    as_read (found_in form more (found anything (names ++ w ∷ []) t)) (found_in form (w ∷ more) (found anything names t)) ((names ++ w ∷ []) ++ q) (names ++ w ∷ q) u
    (ap (λ k. option_and_then (found_in form more) (with_kind form (found anything names t) w k)) (kind_name w plain)
    ∙ ap (λ x. option_and_then (found_in form more) x) (name_fits anything names t w (All-head (λ v. 1 ≤ length v) w q are) f.0))
    (append_assoc names (w ∷ []) q)
    (complete form more q c r (names ++ w ∷ []) t u (All-tail (λ v. 1 ≤ length v) w q are) f.1 once allowed joins)
