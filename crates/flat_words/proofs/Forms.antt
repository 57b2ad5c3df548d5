-- Readers that read just what a printer prints, and how they are put together.
use Rattle.std.proofs.Common.{◌≡◌, Bool, true, false, cond, [], ◌++◌, length, take, drop, eqb, Option, Some, None, refl, sym, ap, ◌∙◌, subst, append_assoc}
use Rattle.std.specs.Prelude.{bytes_eq}
use Rattle.std.proofs.lemmas.Bool.{eqb-true}
use Rattle.std.proofs.lemmas.List.{append-nil, nil_from_length, take_at, drop_at, take-append-drop}
use Rattle.std.proofs.lemmas.Slice.Eq.{bytes_eq-Decides}
use Rattle.flat_text.specs.Lines.{Text}
use Rattle.flat_words.specs.Readers.{Reader, chain, behind, before, both, made, where_, closed, whole}

-- Of what is printed of a value that fits, before a text that stops it, the value is read; and whatever is read fits, and is printed so.
pub record IsForm (A : Type 0) (Fits : A → Type 0) (Stops : Text → Type 0) (print : A → Text) (p : Reader A) : Type 0 where
  pub takes : (a : A) (rest : Text) → Fits a → Stops rest → p (print a ++ rest) ≡ Some (a, rest)
  pub gives : (t : Text) (a : A) (rest : Text) → p t ≡ Some (a, rest) → (t ≡ print a ++ rest) × Fits a

pub chain_some : {A B : Type 0} (o : Option A) (f : A → Option B) (b : B) → chain o f ≡ Some b → (a : A) × ((o ≡ Some a) × (f a ≡ Some b))
chain_some None f b h = cc
chain_some (Some a) f b h = (a, (refl, h))

pub same_some : {A : Type 0} (a b : A) → Some a ≡ Some b → a ≡ b
same_some a b h = cc

-- ---- marks

pub behind_takes : (mark rest : Text) → behind mark (mark ++ rest) ≡ Some rest
unfolding behind
behind_takes mark rest =
    ap (λ b. cond b (Some (drop (length mark) (mark ++ rest))) None) ((bytes_eq-Decides mark (take (length mark) (mark ++ rest))).1 (sym (take_at mark rest (length mark) refl)))
    ∙ ap Some (drop_at mark rest (length mark) refl)

pub behind_gives : (mark t rest : Text) → behind mark t ≡ Some rest → t ≡ mark ++ rest
unfolding behind
behind_gives mark t rest h = either (bytes_eq mark (take (length mark) t)) refl
  where
    either : (b : Bool) → bytes_eq mark (take (length mark) t) ≡ b → t ≡ mark ++ rest
    either true e =
        let front : mark ≡ take (length mark) t = (bytes_eq-Decides mark (take (length mark) t)).0 e in
        let back : drop (length mark) t ≡ rest = same_some (drop (length mark) t) rest (ap (λ b. cond b (Some (drop (length mark) t)) None) (sym e) ∙ h) in
        sym (take-append-drop (length mark) t) ∙ ap (λ m. m ++ drop (length mark) t) (sym front) ∙ ap (λ r. mark ++ r) back
    either false e = let no : None ≡ Some rest = ap (λ b. cond b (Some (drop (length mark) t)) None) (sym e) ∙ h in cc

pub before_form : (A : Type 0) (Fits : A → Type 0) (Stops : Text → Type 0) (print : A → Text) (p : Reader A) (mark : Text) → IsForm A Fits Stops print p → IsForm A Fits Stops (λ a. mark ++ print a) (before mark p)
unfolding before
before_form A Fits Stops print p mark f = record {
  takes = λ a rest fits stops. ap (λ t. chain (behind mark t) p) (append_assoc mark (print a) rest) ∙ ap (λ o. chain o p) (behind_takes mark (print a ++ rest)) ∙ f.takes a rest fits stops;
  gives = λ t a rest h.
      let cut = chain_some (behind mark t) p (a, rest) h in
      let inner = f.gives cut.0 a rest cut.1.1 in
      (behind_gives mark t cut.0 cut.1.0 ∙ ap (λ r. mark ++ r) inner.0 ∙ sym (append_assoc mark (print a) rest), inner.1);
}

-- ---- one after the other

pub both_form : (A B : Type 0) (FitsA : A → Type 0) (FitsB : B → Type 0) (StopsA StopsB : Text → Type 0) (print : A → Text) (show : B → Text) (p : Reader A) (q : Reader B)
    → IsForm A FitsA StopsA print p → IsForm B FitsB StopsB show q → ((b : B) (rest : Text) → FitsB b → StopsB rest → StopsA (show b ++ rest))
    → IsForm (A × B) (λ x. FitsA x.0 × FitsB x.1) StopsB (λ x. print x.0 ++ show x.1) (both p q)
unfolding both
both_form A B FitsA FitsB StopsA StopsB print show p q f g meets = record {
  takes = λ x rest fits stops.
      ap (λ t. chain (p t) (λ y. chain (q y.1) (λ z. Some ((y.0, z.0), z.1)))) (append_assoc (print x.0) (show x.1) rest)
      ∙ ap (λ o. chain o (λ y. chain (q y.1) (λ z. Some ((y.0, z.0), z.1)))) (f.takes x.0 (show x.1 ++ rest) fits.0 (meets x.1 rest fits.1 stops))
      ∙ ap (λ o. chain o (λ z. Some ((x.0, z.0), z.1))) (g.takes x.1 rest fits.1 stops);
  gives = λ t x rest h.
      let first = chain_some (p t) (λ y. chain (q y.1) (λ z. Some ((y.0, z.0), z.1))) (x, rest) h in
      let second = chain_some (q first.0.1) (λ z. Some ((first.0.0, z.0), z.1)) (x, rest) first.1.1 in
      let is = same_some ((first.0.0, second.0.0), second.0.1) (x, rest) second.1.1 in
      let one = f.gives t first.0.0 first.0.1 first.1.0 in
      let two = g.gives first.0.1 second.0.0 second.0.1 second.1.0 in
      let whole : t ≡ (print first.0.0 ++ show second.0.0) ++ second.0.1 = one.0 ∙ ap (λ r. print first.0.0 ++ r) two.0 ∙ sym (append_assoc (print first.0.0) (show second.0.0) second.0.1) in
      subst (λ (y : (A × B) × Text). (t ≡ (print y.0.0 ++ show y.0.1) ++ y.1) × (FitsA y.0.0 × FitsB y.0.1)) is (whole, (one.1, two.1));
}

-- what is made of what is read, where it can be taken apart again
pub made_form : (A B : Type 0) (Fits : A → Type 0) (FitsB : B → Type 0) (Stops : Text → Type 0) (print : A → Text) (show : B → Text) (p : Reader A) (f : A → B) (back : B → A)
    → ((b : B) → FitsB b → f (back b) ≡ b) → ((b : B) → FitsB b → Fits (back b)) → ((a : A) → Fits a → FitsB (f a)) → ((a : A) → Fits a → show (f a) ≡ print a)
    → IsForm A Fits Stops print p → IsForm B FitsB Stops show (made f p)
unfolding made
made_form A B Fits FitsB Stops print show p f back same fits_back fits_on shows g = record {
  takes = λ b rest fits stops.
      ap (λ t. chain (p (t ++ rest)) (λ x. Some (f x.0, x.1))) (ap show (sym (same b fits)) ∙ shows (back b) (fits_back b fits))
      ∙ ap (λ o. chain o (λ x. Some (f x.0, x.1))) (g.takes (back b) rest (fits_back b fits) stops) ∙ ap (λ y. Some (y, rest)) (same b fits);
  gives = λ t b rest h.
      let cut = chain_some (p t) (λ x. Some (f x.0, x.1)) (b, rest) h in
      let is = same_some (f cut.0.0, cut.0.1) (b, rest) cut.1.1 in
      let inner = g.gives t cut.0.0 cut.0.1 cut.1.0 in
      subst (λ (y : B × Text). (t ≡ show y.0 ++ y.1) × FitsB y.0) is (inner.0 ∙ ap (λ r. r ++ cut.0.1) (sym (shows cut.0.0 inner.1)), fits_on cut.0.0 inner.1);
}

pub where_form : (A : Type 0) (Fits : A → Type 0) (Stops : Text → Type 0) (print : A → Text) (p : Reader A) (test : A → Bool) → IsForm A Fits Stops print p → IsForm A (λ a. Fits a × (test a ≡ true)) Stops print (where_ test p)
unfolding where_
where_form A Fits Stops print p test f = record {
  takes = λ a rest fits stops. ap (λ o. chain o (λ x. cond (test x.0) (Some x) None)) (f.takes a rest fits.0 stops) ∙ ap (λ b. cond b (Some (a, rest)) None) fits.1;
  gives = λ t a rest h.
      let cut = chain_some (p t) (λ x. cond (test x.0) (Some x) None) (a, rest) h in
      let told = passes (test cut.0.0) refl cut.0 (a, rest) cut.1.1 in
      let inner = f.gives t cut.0.0 cut.0.1 cut.1.0 in
      subst (λ (y : A × Text). (t ≡ print y.0 ++ y.1) × (Fits y.0 × (test y.0 ≡ true))) told.1 (inner.0, (inner.1, told.0));
}
  where
    passes : (b : Bool) {c : Bool} → c ≡ b → (x y : A × Text) → cond b (Some x) None ≡ Some y → (c ≡ true) × (x ≡ y)
    passes true e x y h = (e, same_some x y h)
    passes false e x y h = cc

-- the same, where other words say what fits
pub form_as : (A : Type 0) (Fits Other : A → Type 0) (Stops : Text → Type 0) (print : A → Text) (p : Reader A) → ((a : A) → Fits a → Other a) → ((a : A) → Other a → Fits a) → IsForm A Fits Stops print p → IsForm A Other Stops print p
form_as A Fits Other Stops print p to from f = record {
  takes = λ a rest fits stops. f.takes a rest (from a fits) stops;
  gives = λ t a rest h. let inner = f.gives t a rest h in (inner.0, to a inner.1);
}

-- the same, where less stops it
pub form_stops : (A : Type 0) (Fits : A → Type 0) (Stops Less : Text → Type 0) (print : A → Text) (p : Reader A) → ((t : Text) → Less t → Stops t) → IsForm A Fits Stops print p → IsForm A Fits Less print p
form_stops A Fits Stops Less print p less f = record {
  takes = λ a rest fits stops. f.takes a rest fits (less rest stops);
  gives = f.gives;
}

-- the same, where the printer is another of the same texts
pub form_prints : (A : Type 0) (Fits : A → Type 0) (Stops : Text → Type 0) (print show : A → Text) (p : Reader A) → ((a : A) → show a ≡ print a) → IsForm A Fits Stops print p → IsForm A Fits Stops show p
form_prints A Fits Stops print show p same f = record {
  takes = λ a rest fits stops. ap (λ t. p (t ++ rest)) (same a) ∙ f.takes a rest fits stops;
  gives = λ t a rest h. let inner = f.gives t a rest h in (inner.0 ∙ ap (λ r. r ++ rest) (sym (same a)), inner.1);
}

pub closed_form : (A : Type 0) (Fits : A → Type 0) (Stops : Text → Type 0) (print : A → Text) (p : Reader A) (mark : Text) → ((rest : Text) → Stops (mark ++ rest)) → IsForm A Fits Stops print p → IsForm A Fits (λ t. Unit {0}) (λ a. print a ++ mark) (closed p mark)
unfolding closed
closed_form A Fits Stops print p mark meets f = record {
  takes = λ a rest fits stops.
      ap (λ t. chain (p t) (λ x. chain (behind mark x.1) (λ r. Some (x.0, r)))) (append_assoc (print a) mark rest)
      ∙ ap (λ o. chain o (λ x. chain (behind mark x.1) (λ r. Some (x.0, r)))) (f.takes a (mark ++ rest) fits (meets rest))
      ∙ ap (λ o. chain o (λ r. Some (a, r))) (behind_takes mark rest);
  gives = λ t a rest h.
      let first = chain_some (p t) (λ x. chain (behind mark x.1) (λ r. Some (x.0, r))) (a, rest) h in
      let second = chain_some (behind mark first.0.1) (λ r. Some (first.0.0, r)) (a, rest) first.1.1 in
      let is = same_some (first.0.0, second.0) (a, rest) second.1.1 in
      let inner = f.gives t first.0.0 first.0.1 first.1.0 in
      let all : t ≡ (print first.0.0 ++ mark) ++ second.0 = inner.0 ∙ ap (λ r. print first.0.0 ++ r) (behind_gives mark first.0.1 second.0 second.1.0) ∙ sym (append_assoc (print first.0.0) mark second.0) in
      subst (λ (y : A × Text). (t ≡ (print y.0 ++ mark) ++ y.1) × Fits y.0) is (all, inner.1);
}

-- what is made of what is read
pub made_takes : {A B : Type 0} (f : A → B) (p : Reader A) (t : Text) (a : A) (rest : Text) → p t ≡ Some (a, rest) → made f p t ≡ Some (f a, rest)
unfolding made
made_takes f p t a rest h = ap (λ o. chain o (λ x. Some (f x.0, x.1))) h

pub made_gives : {A B : Type 0} (f : A → B) (p : Reader A) (t : Text) (b : B) (rest : Text) → made f p t ≡ Some (b, rest) → (a : A) × ((p t ≡ Some (a, rest)) × (f a ≡ b))
unfolding made
made_gives {A} {B} f p t b rest h =
    let cut = chain_some (p t) (λ x. Some (f x.0, x.1)) (b, rest) h in
    let is = same_some (f cut.0.0, cut.0.1) (b, rest) cut.1.1 in
    (cut.0.0, (cut.1.0 ∙ ap (λ (y : B × Text). Some (cut.0.0, y.1)) is, ap (λ (y : B × Text). y.0) is))

-- what is read of a whole line
pub record IsWhole (A : Type 0) (Fits : A → Type 0) (print : A → Text) (p : Text → Option A) : Type 0 where
  pub takes : (a : A) → Fits a → p (print a) ≡ Some a
  pub gives : (t : Text) (a : A) → p t ≡ Some a → (t ≡ print a) × Fits a

pub whole_form : (A : Type 0) (Fits : A → Type 0) (Stops : Text → Type 0) (print : A → Text) (p : Reader A) → Stops [] → IsForm A Fits Stops print p → IsWhole A Fits print (whole p)
unfolding whole
whole_form A Fits Stops print p end f = record {
  takes = λ a fits. ap (λ t. chain (p t) (λ x. cond (eqb (length x.1) 0) (Some x.0) None)) (sym (append-nil (print a))) ∙ ap (λ o. chain o (λ x. cond (eqb (length x.1) 0) (Some x.0) None)) (f.takes a [] fits end);
  gives = λ t a h.
      let cut = chain_some (p t) (λ x. cond (eqb (length x.1) 0) (Some x.0) None) a h in
      told t a cut.0 cut.1.0 (eqb (length cut.0.1) 0) refl cut.1.1;
}
  where
    told : (t : Text) (a : A) (x : A × Text) → p t ≡ Some x → (b : Bool) → eqb (length x.1) 0 ≡ b → cond b (Some x.0) None ≡ Some a → (t ≡ print a) × Fits a
    told t a x h false e k = cc
    told t a x h true e k =
        let inner = f.gives t x.0 x.1 h in
        let end : x.1 ≡ [] = nil_from_length x.1 (eqb-true (length x.1) 0 e) in
        subst (λ (y : A). (t ≡ print y) × Fits y) (same_some x.0 a k) (inner.0 ∙ ap (λ r. print x.0 ++ r) end ∙ append-nil (print x.0), inner.1)
