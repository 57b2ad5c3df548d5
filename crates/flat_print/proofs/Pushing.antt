-- Texts with one line more.
use Rattle.std.proofs.Common.{◌≡◌, ℕ, ◌+◌, ◌<◌, List, [], ◌∷◌, ◌++◌, length, take, get_or, sym, ap, ◌∙◌, subst, append_assoc}
use Rattle.std.specs.List.{All, flat_map}
use Rattle.std.proofs.lemmas.List.{take_more, flat_map_more}
use Rattle.std.proofs.lemmas.List.Elements.{All-push}
use Rattle.flat_text.specs.Lines.{Text}

pub text_more : {X : Type 0} (f : X → Text) (front text more : Text) (xs : List X) (i : ℕ) (x : X) → text ≡ front ++ flat_map f (take i xs) → x ≡ get_or xs i x → i < length xs → more ≡ text ++ f x → more ≡ front ++ flat_map f (take (i + 1) xs)
text_more f front text more xs i x before is within after =
    after ∙ ap (λ t. t ++ f x) before ∙ flat_map_more f front (take i xs) x ∙ ap (λ y. front ++ flat_map f (take i xs ++ y ∷ [])) is ∙ ap (λ l. front ++ flat_map f l) (sym (take_more xs i x within))

pub all_more : {X : Type 0} (P : X → Type 0) (xs : List X) (i : ℕ) (x : X) → All P (take i xs) → x ≡ get_or xs i x → i < length xs → P x → All P (take (i + 1) xs)
all_more P xs i x before is within here = subst (All P) (sym (take_more xs i x within)) (All-push P (take i xs) (get_or xs i x) before (subst P is here))

pub four_more : (t t1 t2 t3 t4 a b c d : Text) → t1 ≡ t ++ a → t2 ≡ t1 ++ b → t3 ≡ t2 ++ c → t4 ≡ t3 ++ d → t4 ≡ t ++ (a ++ (b ++ (c ++ d)))
four_more t t1 t2 t3 t4 a b c d e1 e2 e3 e4 =
    e4 ∙ ap (λ x. x ++ d) (e3 ∙ ap (λ x. x ++ c) (e2 ∙ ap (λ x. x ++ b) e1)) ∙ regroup t a b c d
  where
    regroup : (t a b c d : Text) → (((t ++ a) ++ b) ++ c) ++ d ≡ t ++ (a ++ (b ++ (c ++ d)))
    regroup t a b c d = simp append_assoc
