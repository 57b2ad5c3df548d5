-- What a reader says of the words of a line, by what it says of what they say.
use Rattle.std.proofs.Common.{◌≡◌, Bool, true, false, Option, Some, None, sym, ap, ◌∙◌, subst}
use Rattle.std.specs.Prelude.{Result, IfOk}
use Rattle.std.proofs.lemmas.Result.{IfOk-weaker}
use Rattle.flat_net.specs.declared.flat.Flat.{Flat}
use Rattle.flat_text.specs.Lines.{Text}
use Rattle.flat_words.proofs.Forms.{IsWhole, same_some}
use Rattle.flat_lines.specs.Items.{Item}
use Rattle.flat_read.specs.declared.reader.Reader.{Reader}
use Rattle.flat_read.specs.States.{Judged, Added, CannotCome, Took, Refused}

pub none_refused : (A : Type 0) (make : A → Item) (Fits : A → Type 0) (print : A → Text) (p : Text → Option A) (shown : Flat) (text : Text) → IsWhole A Fits print p → None ≡ p text → Refused A make Fits print shown text
none_refused A make Fits print p shown text f h = record { refused = λ a e fits comes told. no a (h ∙ ap p e ∙ f.takes a fits) }
  where
    no : (a : A) → None ≡ Some a → ⊥
    no a k = cc

pub some_judged : (A : Type 0) (make : A → Item) (Fits : A → Type 0) (print : A → Text) (p : Text → Option A) (shown : Flat) (text : Text) (new : Reader) (a : A) (b : Bool) → IsWhole A Fits print p → Some a ≡ p text → Judged b (Added shown (make a) new) (CannotCome shown (make a))
    → Judged b (Took A make Fits print shown text new) (Refused A make Fits print shown text)
some_judged A make Fits print p shown text new a true f h k = let inner = f.gives text a (sym h) in record { it = a; is = inner.0; fits = inner.1; added = k }
some_judged A make Fits print p shown text new a false f h k = record { refused = λ x e fits. subst (λ y. CannotCome shown (make y)) (same_some a x (h ∙ ap p e ∙ f.takes x fits)) k }

pub added_judged : {E : Type 0} (r : Result Bool E) (A : Type 0) (make : A → Item) (Fits : A → Type 0) (print : A → Text) (p : Text → Option A) (shown : Flat) (text : Text) (new : Reader) (a : A) → IsWhole A Fits print p → Some a ≡ p text → IfOk r (λ b. Judged b (Added shown (make a) new) (CannotCome shown (make a)))
    → IfOk r (λ b. Judged b (Took A make Fits print shown text new) (Refused A make Fits print shown text))
added_judged r A make Fits print p shown text new a f h k =
    IfOk-weaker r (λ b. Judged b (Added shown (make a) new) (CannotCome shown (make a))) (λ b. Judged b (Took A make Fits print shown text new) (Refused A make Fits print shown text)) (λ b j. some_judged A make Fits print p shown text new a b f h j) k
