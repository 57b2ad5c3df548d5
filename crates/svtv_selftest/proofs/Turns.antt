-- Texts with one part more.
use Rattle.std.proofs.Common.{◌≡◌, ℕ, ◌+◌, ◌<◌, zero, suc, List, [], ◌∷◌, ◌++◌, length, take, get_or, sym, ap, ◌∙◌, append_assoc, append-nil, add-one, arith, Result, Ok, Err}
use Rattle.std.specs.Prelude.{OnOk}
use Rattle.std.specs.List.{flat_map, range_with_len}
use Rattle.std.proofs.lemmas.List.{take_more, flat_map_more}
use Rattle.svtv_selftest.specs.Texts.{Text, each_from}

-- ---- parts

pub part_more : {X : Type 0} (f : X → Text) (front text more : Text) (xs : List X) (i : ℕ) (x : X) → text ≡ front ++ flat_map f (take i xs) → x ≡ get_or xs i x → i < length xs → more ≡ text ++ f x → more ≡ front ++ flat_map f (take (i + 1) xs)
part_more f front text more xs i x before is within after =
    after ∙ ap (λ t. t ++ f x) before ∙ flat_map_more f front (take i xs) x ∙ ap (λ y. front ++ flat_map f (take i xs ++ y ∷ [])) is ∙ ap (λ l. front ++ flat_map f l) (sym (take_more xs i x within))

-- ---- numbers

range_last : (a n j : ℕ) → a + n ≡ j → range_with_len a (suc n) ≡ range_with_len a n ++ j ∷ []
range_last a zero j e = ap (λ k. k ∷ []) (let f : a ≡ j = omega (arith, e) in f)
range_last a (suc n) j e = ap (λ ks. a ∷ ks) (range_last (a + 1) n j (omega (arith, e)))

pub none_yet : (a : ℕ) (f : ℕ → Text) (text : Text) → text ≡ text ++ each_from a 0 f
unfolding each_from
none_yet a f text = sym (append-nil text)

pub each_more : (a n j : ℕ) (f : ℕ → Text) (front text more : Text) → a + n ≡ j → text ≡ front ++ each_from a n f → more ≡ text ++ f j → more ≡ front ++ each_from a (n + 1) f
unfolding each_from
each_more a n j f front text more e before after =
    after ∙ ap (λ t. t ++ f j) before ∙ flat_map_more f front (range_with_len a n) j ∙ ap (λ l. front ++ flat_map f l) (sym (ap (range_with_len a) (add-one n) ∙ range_last a n j e))

-- ---- whole texts

-- a text that is put behind nothing
pub alone : (empty text parts : Text) → empty ≡ [] → text ≡ empty ++ parts → text ≡ parts
alone empty text parts e h = h ∙ ap (λ t. t ++ parts) e

pub on_ok : {A E : Type 0} (r : Result A E) (P Q : Type 0) → (P → Q) → OnOk r P → OnOk r Q
on_ok (Ok x) P Q f h = f h
on_ok (Err e) P Q f h = tt

pub five_more : (t t1 t2 t3 t4 t5 a b c d e : Text) → t1 ≡ t ++ a → t2 ≡ t1 ++ b → t3 ≡ t2 ++ c → t4 ≡ t3 ++ d → t5 ≡ t4 ++ e → t5 ≡ t ++ (a ++ (b ++ (c ++ (d ++ e))))
five_more t t1 t2 t3 t4 t5 a b c d e e1 e2 e3 e4 e5 =
    e5 ∙ ap (λ x. x ++ e) (e4 ∙ ap (λ x. x ++ d) (e3 ∙ ap (λ x. x ++ c) (e2 ∙ ap (λ x. x ++ b) e1))) ∙ regroup t a b c d e
  where
    regroup : (t a b c d e : Text) → ((((t ++ a) ++ b) ++ c) ++ d) ++ e ≡ t ++ (a ++ (b ++ (c ++ (d ++ e))))
    regroup t a b c d e = simp append_assoc
