-- Words that are told by their texts.
use Rattle.std.proofs.Common.{◌≡◌, Bool, true, false, List, [], ◌∷◌, Some, None, refl, ◌∙◌, ap, arith}
use Rattle.std.specs.Str.{bytes_eq}
use Rattle.std.proofs.lemmas.Slice.Eq.{bytes_eq-Decides}
use Rattle.sv_outside.specs.declared.refusal.Place.{Place}
use Rattle.sv_outside.specs.declared.text.Kind.{Kind}
use Rattle.sv_outside.specs.declared.text.Kind.TheVariants as k
use Rattle.sv_outside.specs.declared.text.Token.{Token}
use Rattle.sv_tree.specs.Spelling.{Text, mark as mark_spelled, key, key_at}
use Rattle.sv_tree.specs.Nesting.{Nesting}
use Rattle.sv_cursor.specs.Tests.{if_so}
use Rattle.sv_cursor.specs.Parsers.{told, token}
use Rattle.sv_cursor.proofs.Sorted.{equal}
use Rattle.sv_cursor.proofs.Readers.{Told, one_nest, token_reader, less_reader, moved_told, moved_less}
use Rattle.sv_expr_reader.proofs.Tokens.{outside, Any}
use Rattle.goal_tree.proofs.Rules.{Fixed, placed_key, some_key}
use Rattle.goal_tree.specs.Reading.{is_word_of, word_test}

equal_to_itself : (t : Text) → bytes_eq t t ≡ true
equal_to_itself t = grind (arith, bytes_eq-Decides)

so_some : {A : Type 0} (b : Bool) (x y : A) → if_so b x ≡ Some y → (b ≡ true) × (x ≡ y)
so_some true x y h = (refl, cc)
so_some false x y h = absurd (cc)

kind_so : (text : Text) (kd : Kind) (t : Text) → is_word_of text kd t ≡ true → (kd ≡ k.Word) × (t ≡ text)
kind_so text k.Word t h = (refl, equal t text h)
kind_so text _ t h = absurd (cc)

word_so : (text : Text) (a : Token) (p : Place) → word_test text a ≡ Some p → (a.kind ≡ k.Word) × (a.text ≡ text) × (a.place ≡ p)
unfolding word_test
word_so text a p h =
    let g = so_some (is_word_of text a.kind a.text) a.place p h in
    let e = kind_so text a.kind a.text g.0 in (e.0, e.1, g.1)

word_tells : (text : Text) (a : Token) (p : Place) → (a.kind ≡ k.Word) × (a.text ≡ text) × (a.place ≡ p) → word_test text a ≡ Some p
unfolding word_test
word_tells text a p h =
    ap (λ kd. if_so (is_word_of text kd a.text) a.place) h.0 ∙ (ap (λ t. if_so (bytes_eq t text) a.place) h.1 ∙ (ap (λ b. if_so b a.place) (equal_to_itself text) ∙ ap Some h.2))

pub key_at_of : (text : Text) (p : Place) (i o : List Token) → Told (word_test text) p i o → key_at text p i o
key_at_of text p [] o h = absurd h
key_at_of text p (a ∷ i) o h = (word_so text a p h.0, h.1)

pub told_of_key_at : (text : Text) (p : Place) (i o : List Token) → key_at text p i o → Told (word_test text) p i o
told_of_key_at text p [] o h = absurd h
told_of_key_at text p (a ∷ i) o h = (word_tells text a p h.0, h.1)

abbrev pub the_word : (Bad : Nesting → Type 0) → Text → Fixed Bad
the_word Bad text = record {
  spelled = key text;
  at = key_at text;
  parser = token (word_test text);
  reads = λ depth. less_reader Bad depth depth (Told (word_test text)) (Told (word_test text)) (key_at text) (key_at text) (one_nest outside) Any Any (token (word_test text))
      (token_reader Bad depth outside (word_test text) Any) (omega arith) (key_at_of text) (told_of_key_at text) (λ o h. h);
  moved = moved_less (Told (word_test text)) (key_at text) (one_nest outside) (moved_told outside (word_test text)) (told_of_key_at text);
  placed = placed_key text;
  some = some_key text;
}

pub word_begins : (text : Text) (i o : List Token) → key text i o → (p : Place) × (told (word_test text) i ≡ Some p)
word_begins text [] o h = absurd h
word_begins text (a ∷ i) o h = (a.place, word_tells text a a.place (h.0.0, h.0.1, refl))

-- another word
pub other_word : (text here : Text) (i o : List Token) → bytes_eq here text ≡ false → key here i o → told (word_test text) i ≡ None
unfolding word_test
other_word text here [] o e h = refl
other_word text here (a ∷ i) o e h =
    ap (λ kd. if_so (is_word_of text kd a.text) a.place) h.0.0 ∙ (ap (λ t. if_so (bytes_eq t text) a.place) h.0.1 ∙ ap (λ b. if_so b a.place) e)

-- a mark
pub no_word : (text here : Text) (i o : List Token) → mark_spelled here i o → told (word_test text) i ≡ None
unfolding word_test
no_word text here [] o h = refl
no_word text here (a ∷ i) o h = ap (λ kd. if_so (is_word_of text kd a.text) a.place) h.0.0
