-- Parts that are written one behind the other.
use Rattle.std.proofs.Common.{◌≡◌, List, [], ◌∷◌, ◌++◌, codes, IsTrue, Option, Some, None, sym, ap, ◌∙◌, append_assoc}
use Rattle.sv_outside.specs.Words.{is_id}
use Rattle.sv_outside.specs.declared.refusal.Place.{Place}
use Rattle.sv_outside.specs.declared.text.Kind.{Kind}
use Rattle.sv_outside.specs.declared.text.Kind.TheVariants as k
use Rattle.sv_outside.specs.declared.text.Token.{Token}
use Rattle.sv_tree.specs.declared.word.Word.{Word}
use Rattle.sv_tree.specs.Spelling.{Text, Spelled, token, nothing, never, ◌⨟◌, first_at, when, mark, mark_at, key, key_at, system_at, literal, name, maybe, each, after_commas, commas, label, label_of}
use Rattle.sv_write.specs.declared.lexeme.Lexeme.{Lexeme}
use Rattle.sv_write.specs.Writing as w
use Rattle.sv_write.specs.Writing.{Write, lexeme, lexeme_of, lexemes, put, ◌⨾◌}

-- Whatever tokens spell the part, their kinds and texts are what is written.
pub record Law (P : Spelled) (f : Write) : Type 0 where
  pub says : (l : List Lexeme) (i o : List Token) → P i o → l ++ lexemes i ≡ f l ++ lexemes o

-- ---- tokens

put_token : (kind : Kind) (text : Text) (l : List Lexeme) (a : Token) (t : List Token) → a.kind ≡ kind → a.text ≡ text → l ++ lexemes (a ∷ t) ≡ put kind text l ++ lexemes t
unfolding put
put_token kind text l a t ek et = ap (λ x. l ++ x ∷ lexemes t) (ap (λ x. lexeme x a.text) ek ∙ ap (lexeme kind) et) ∙ sym (append_assoc l (lexeme kind text ∷ []) (lexemes t))

law_token : (P : Token → Type 0) (kind : Kind) (text : Text) → ((a : Token) → P a → (a.kind ≡ kind) × (a.text ≡ text)) → Law (token P) (put kind text)
law_token P kind text tells = record { says = by_list }
  where
    by_list : (l : List Lexeme) (i o : List Token) → token P i o → l ++ lexemes i ≡ put kind text l ++ lexemes o
    by_list l [] o h = absurd h
    by_list l (a ∷ t) o h = let e = tells a h.0 in put_token kind text l a t e.0 e.1 ∙ ap (λ t. put kind text l ++ lexemes t) h.1

pub law_mark : (text : Text) → Law (mark text) (w.mark text)
law_mark text = law_token (λ a. (a.kind ≡ k.Mark) × (a.text ≡ text)) k.Mark text (λ a h. h)

pub law_mark_at : (text : Text) (p : Place) → Law (mark_at text p) (w.mark text)
law_mark_at text p = law_token (λ a. (a.kind ≡ k.Mark) × (a.text ≡ text) × (a.place ≡ p)) k.Mark text (λ a h. (h.0, h.1))

pub law_key : (text : Text) → Law (key text) (w.key text)
law_key text = law_token (λ a. (a.kind ≡ k.Word) × (a.text ≡ text)) k.Word text (λ a h. h)

pub law_key_at : (text : Text) (p : Place) → Law (key_at text p) (w.key text)
law_key_at text p = law_token (λ a. (a.kind ≡ k.Word) × (a.text ≡ text) × (a.place ≡ p)) k.Word text (λ a h. (h.0, h.1))

pub law_system_at : (text : Text) (p : Place) → Law (system_at text p) (w.system text)
law_system_at text p = law_token (λ a. (a.kind ≡ k.System) × (a.text ≡ text) × (a.place ≡ p)) k.System text (λ a h. (h.0, h.1))

pub law_literal : (x : Word) → Law (literal x) (w.literal x)
law_literal x = law_token (λ a. (a.kind ≡ k.Literal) × (a.text ≡ x.text) × (a.place ≡ x.place)) k.Literal x.text (λ a h. (h.0, h.1))

pub law_name : (x : Word) → Law (name x) (w.name x)
law_name x = law_token (λ a. (a.kind ≡ k.Word) × (a.text ≡ x.text) × (a.place ≡ x.place) × IsTrue (is_id x.text)) k.Word x.text (λ a h. (h.0, h.1))

-- ---- parts

infixr 30 ◌▹◌
pub ◌▹◌ : {P Q : Spelled} {f g : Write} → Law P f → Law Q g → Law (P ⨟ Q) (f ⨾ g)
◌▹◌ {f = f} p q = record { says = λ l i o h. p.says l i h.0 h.1 ∙ q.says (f l) h.0 o h.2 }

pub law_nothing : Law nothing w.nothing
law_nothing = record { says = λ l i o h. ap (λ i. l ++ lexemes i) h }

pub law_never : (f : Write) → Law never f
law_never f = record { says = λ l i o h. absurd h }

pub law_when : {C : Type 0} {P : Spelled} {f : Write} → Law P f → Law (when C P) f
law_when p = record { says = λ l i o h. p.says l i o h.1 }

pub law_first : (p : Place) {P : Spelled} {f : Write} → Law P f → Law (first_at p P) f
law_first p q = record { says = λ l i o h. q.says l i o h.1 }

pub law_maybe : {A : Type 0} {P : A → Spelled} {f : A → Write} → ((x : A) → Law (P x) (f x)) → (x : Option A) → Law (maybe P x) (w.maybe f x)
law_maybe q None = law_nothing
law_maybe q (Some x) = q x

-- ---- lists

pub law_each : {A : Type 0} {P : A → Spelled} {f : A → Write} → ((x : A) → Law (P x) (f x)) → (all : List A) → Law (each P all) (w.each f all)
unfolding w.each
law_each q [] = law_nothing
law_each q (x ∷ all) = q x ▹ law_each q all

law_after_commas : {A : Type 0} {P : A → Spelled} {f : A → Write} → ((x : A) → Law (P x) (f x)) → (all : List A) → Law (after_commas P all) (w.after_commas f all)
unfolding w.each
law_after_commas q [] = law_nothing
law_after_commas q (x ∷ all) = law_mark (codes ",") ▹ q x ▹ law_after_commas q all

pub law_commas : {A : Type 0} {P : A → Spelled} {f : A → Write} → ((x : A) → Law (P x) (f x)) → (all : List A) → Law (commas P all) (w.commas f all)
law_commas q [] = law_never w.nothing
law_commas q (x ∷ all) = q x ▹ law_after_commas q all

pub law_label : (n : Word) (x : Option Word) → Law (label n x) (w.label x)
law_label n None = law_nothing
law_label n (Some x) = law_when (law_mark (codes ":") ▹ law_name x)

pub law_label_of : (b x : Option Word) → Law (label_of b x) (w.label x)
law_label_of (Some n) x = law_label n x
law_label_of None None = law_nothing
law_label_of None (Some x) = law_never (w.label (Some x))
