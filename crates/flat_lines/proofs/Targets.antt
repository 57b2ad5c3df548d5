-- Segments and lists of them are read just as they are printed.
use Rattle.std.proofs.Common.{◌≡◌, ℕ, zero, suc, ◌≤◌, List, [], ◌∷◌, ◌++◌, length, codes, decimal, Option, Some, None, refl, sym, ap, ◌∙◌, subst, append_assoc, arith}
use Rattle.std.specs.List.{flat_map}
use Rattle.std.proofs.lemmas.List.{append-nil, length-append}
use Rattle.lhs_alias.specs.declared.segs.Seg.{Seg}
use Rattle.flat_text.specs.Lines.{Text, seg_text, lhs_text}
use Rattle.flat_words.specs.Readers.{chain, behind, before, both, closed, number, byte}
use Rattle.flat_words.proofs.Forms.{IsForm, same_some, chain_some, behind_takes, behind_gives, before_form, both_form, closed_form, made_form}
use Rattle.flat_words.specs.Fits.{FitsNumber, FitsByte}
use Rattle.flat_lines.specs.Fits.{FitsSeg, EachFits, FitsLhs}
use Rattle.flat_words.proofs.Written.{StopsDigits, number_form, byte_form}
use Rattle.flat_lines.specs.Items.{seg_of, seg, segs, segs_by, lhs, put_before}

-- ---- segments

pub seg_form : IsForm Seg FitsSeg (λ t. Unit {0}) seg_text seg
unfolding seg
seg_form =
    made_form (ℕ × (ℕ × ℕ)) Seg (λ x. FitsNumber x.0 × (FitsByte x.1.0 × FitsByte x.1.1)) FitsSeg (λ t. Unit {0}) (λ x. decimal x.0 ++ ((codes "[" ++ decimal x.1.0) ++ ((codes "+:" ++ decimal x.1.1) ++ codes "]"))) seg_text
    (both number (both (λ s. before (codes "[") byte s) (λ s. closed (λ r. before (codes "+:") byte r) (codes "]") s))) seg_of (λ s. (s.wire, (s.lo, s.width))) (λ s h. refl) (λ s h. h) (λ x h. h) (λ x h. refl)
    (both_form ℕ (ℕ × ℕ) FitsNumber (λ y. FitsByte y.0 × FitsByte y.1) StopsDigits (λ t. Unit {0}) decimal (λ y. (codes "[" ++ decimal y.0) ++ ((codes "+:" ++ decimal y.1) ++ codes "]")) number (both (λ s. before (codes "[") byte s) (λ s. closed (λ r. before (codes "+:") byte r) (codes "]") s)) number_form
    (both_form ℕ ℕ FitsByte FitsByte StopsDigits (λ t. Unit {0}) (λ n. codes "[" ++ decimal n) (λ n. (codes "+:" ++ decimal n) ++ codes "]") (λ s. before (codes "[") byte s) (λ s. closed (λ r. before (codes "+:") byte r) (codes "]") s) (before_form ℕ FitsByte StopsDigits decimal byte (codes "[") byte_form)
    (closed_form ℕ FitsByte StopsDigits (λ n. codes "+:" ++ decimal n) (λ r. before (codes "+:") byte r) (codes "]") (λ rest. refl) (before_form ℕ FitsByte StopsDigits decimal byte (codes "+:") byte_form)) (λ b rest fits stops. refl)) (λ b rest fits stops. refl))

-- ---- more segments

put_twice : (front : List Seg) (s : Seg) (o : Option (List Seg × Text)) → put_before front (put_before (s ∷ []) o) ≡ put_before (front ++ s ∷ []) o
put_twice front s None = refl
put_twice front s (Some (more, rest)) = ap (λ l. Some (l, rest)) (sym (append_assoc front (s ∷ []) more))

put_some : (s : Seg) (o : Option (List Seg × Text)) (y : List Seg × Text) → put_before (s ∷ []) o ≡ Some y → (x : List Seg × Text) × ((o ≡ Some x) × ((s ∷ x.0, x.1) ≡ y))
put_some s None y h = cc
put_some s (Some x) y h = (x, (refl, same_some (s ∷ x.0, x.1) y h))

pub comma_shorter : (t r : Text) → behind (codes ",") t ≡ Some r → length t ≡ suc (length r)
comma_shorter t r h = ap length (behind_gives (codes ",") t r h)

pub seg_shorter : (t rest : Text) (s : Seg) → seg t ≡ Some (s, rest) → length rest ≤ length t
seg_shorter t rest s h = let e = ap length (seg_form.gives t s rest h).0 ∙ length-append (seg_text s) rest in omega arith

pub more_step : (front : List Seg) (n : ℕ) (t r rest : Text) (s : Seg) (whole : Option (List Seg × Text)) → length t ≤ n → behind (codes ",") t ≡ Some r → seg r ≡ Some (s, rest) → put_before front (segs n t) ≡ whole
    → (m : ℕ) × ((length rest ≤ m) × (put_before (front ++ s ∷ []) (segs m rest) ≡ whole))
unfolding segs
more_step front zero t r rest s whole few cut h so_far = absurd (omega (arith, comma_shorter t r cut))
more_step front (suc n) t r rest s whole few cut h so_far = (
  n,
  (
    let short : length t ≡ suc (length r) = comma_shorter t r cut in let shorter : length rest ≤ length r = seg_shorter r rest s h in omega arith,
    sym (ap (λ o. put_before front (segs_by (λ x. put_before (x.0 ∷ []) (segs n x.1)) o t)) cut ∙ ap (λ o. put_before front (chain o (λ x. put_before (x.0 ∷ []) (segs n x.1)))) h ∙ put_twice front s (segs n rest)) ∙ so_far,
  ),
)

pub more_stops : (front : List Seg) (n : ℕ) (t r : Text) (whole : Option (List Seg × Text)) → length t ≤ n → behind (codes ",") t ≡ Some r → seg r ≡ None → put_before front (segs n t) ≡ whole → None ≡ whole
unfolding segs
more_stops front zero t r whole few cut h so_far = absurd (omega (arith, comma_shorter t r cut))
more_stops front (suc n) t r whole few cut h so_far =
    sym (ap (λ o. put_before front (segs_by (λ x. put_before (x.0 ∷ []) (segs n x.1)) o t)) cut ∙ ap (λ o. put_before front (chain o (λ x. put_before (x.0 ∷ []) (segs n x.1)))) h) ∙ so_far

pub more_ends : (front : List Seg) (n : ℕ) (t : Text) (whole : Option (List Seg × Text)) → behind (codes ",") t ≡ None → put_before front (segs n t) ≡ whole → Some (front, t) ≡ whole
unfolding segs
more_ends front zero t whole cut so_far = ap (λ l. Some (l, t)) (sym (append-nil front)) ∙ so_far
more_ends front (suc n) t whole cut so_far =
    ap (λ l. Some (l, t)) (sym (append-nil front)) ∙ sym (ap (λ o. put_before front (segs_by (λ x. put_before (x.0 ∷ []) (segs n x.1)) o t)) cut) ∙ so_far

-- ---- lists of segments

-- what does not go on with a comma
abbrev pub StopsSegs : Text → Type 0
StopsSegs rest = behind (codes ",") rest ≡ None

pub stops_at_end : StopsSegs []
unfolding behind
stops_at_end = refl

pub stops_at_blank : (rest : Text) → StopsSegs (32 ∷ rest)
unfolding behind
stops_at_blank rest = refl

segs_take : (n : ℕ) (more : List Seg) (rest : Text) → length (flat_map (λ t. 44 ∷ seg_text t) more) ≤ n → EachFits more → StopsSegs rest → segs n (flat_map (λ t. 44 ∷ seg_text t) more ++ rest) ≡ Some (more, rest)
unfolding segs
segs_take zero [] rest l fits stops = refl
segs_take (suc n) [] rest l fits stops = ap (λ o. segs_by (λ x. put_before (x.0 ∷ []) (segs n x.1)) o rest) stops
segs_take zero (s ∷ more) rest l fits stops = absurd (omega arith)
segs_take (suc n) (s ∷ more) rest l fits stops =
    let later : Text = flat_map (λ t. 44 ∷ seg_text t) more in
    let grouped : (44 ∷ seg_text s ++ later) ++ rest ≡ codes "," ++ (seg_text s ++ (later ++ rest)) = ap (λ r. 44 ∷ r) (append_assoc (seg_text s) later rest) in
    let f : Seg × Text → Option (List Seg × Text) = λ x. put_before (x.0 ∷ []) (segs n x.1) in
    ap (segs (suc n)) grouped ∙ ap (λ o. segs_by f o (codes "," ++ (seg_text s ++ (later ++ rest)))) (behind_takes (codes ",") (seg_text s ++ (later ++ rest)))
    ∙ ap (λ o. chain o f) (seg_form.takes s (later ++ rest) fits.0 tt) ∙ ap (put_before (s ∷ [])) (segs_take n more rest (fewer s later n l) fits.1 stops)
  where
    fewer : (s : Seg) (later : Text) (n : ℕ) → length (44 ∷ seg_text s ++ later) ≤ suc n → length later ≤ n
    fewer s later n l = let e = length-append (seg_text s) later in omega arith

segs_give : (n : ℕ) (t : Text) (more : List Seg) (rest : Text) → segs n t ≡ Some (more, rest) → (t ≡ flat_map (λ t. 44 ∷ seg_text t) more ++ rest) × EachFits more
unfolding segs
segs_give zero t more rest h = subst (λ (y : List Seg × Text). (t ≡ flat_map (λ t. 44 ∷ seg_text t) y.0 ++ y.1) × EachFits y.0) (same_some ([], t) (more, rest) h) (refl, tt)
segs_give (suc n) t more rest h = either (behind (codes ",") t) refl h (segs_give n)
  where
    either : (o : Option Text) → behind (codes ",") t ≡ o → segs_by (λ x. put_before (x.0 ∷ []) (segs n x.1)) o t ≡ Some (more, rest) → ((t : Text) (more : List Seg) (rest : Text) → segs n t ≡ Some (more, rest) → (t ≡ flat_map (λ t. 44 ∷ seg_text t) more ++ rest) × EachFits more)
        → (t ≡ flat_map (λ t. 44 ∷ seg_text t) more ++ rest) × EachFits more
    either None e h later = subst (λ (y : List Seg × Text). (t ≡ flat_map (λ t. 44 ∷ seg_text t) y.0 ++ y.1) × EachFits y.0) (same_some ([], t) (more, rest) h) (refl, tt)
    either (Some r) e h later =
        let first = chain_some (seg r) (λ x. put_before (x.0 ∷ []) (segs n x.1)) (more, rest) h in
        let one = seg_form.gives r first.0.0 first.0.1 first.1.0 in
        let put = put_some (first.0.0) (segs n first.0.1) (more, rest) first.1.1 in
        let all = later first.0.1 put.0.0 put.0.1 put.1.0 in
        subst (λ (y : List Seg × Text). (t ≡ flat_map (λ t. 44 ∷ seg_text t) y.0 ++ y.1) × EachFits y.0) put.1.1
        (behind_gives (codes ",") t r e ∙ ap (λ x. 44 ∷ x) (one.0 ∙ ap (λ x. seg_text first.0.0 ++ x) all.0 ∙ sym (append_assoc (seg_text first.0.0) (flat_map (λ t. 44 ∷ seg_text t) put.0.0) put.0.1)), (one.1, all.1))

pub lhs_form : IsForm (List Seg) FitsLhs StopsSegs lhs_text lhs
unfolding lhs
lhs_form = record { takes = lhs_takes; gives = lhs_gives }
  where
    lhs_takes : (l : List Seg) (rest : Text) → FitsLhs l → StopsSegs rest → lhs (lhs_text l ++ rest) ≡ Some (l, rest)
    lhs_takes [] rest fits stops = absurd fits
    lhs_takes (s ∷ more) rest fits stops =
        let later : Text = flat_map (λ t. 44 ∷ seg_text t) more in
        let f : Seg × Text → Option (List Seg × Text) = λ x. put_before (x.0 ∷ []) (segs (length x.1) x.1) in
        ap lhs (append_assoc (seg_text s) later rest) ∙ ap (λ o. chain o f) (seg_form.takes s (later ++ rest) fits.0 tt)
        ∙ ap (put_before (s ∷ [])) (segs_take (length (later ++ rest)) more rest (longer later rest) fits.1 stops)
      where
        longer : (a b : Text) → length a ≤ length (a ++ b)
        longer a b = let e = length-append a b in omega arith

    lhs_gives : (t : Text) (l : List Seg) (rest : Text) → lhs t ≡ Some (l, rest) → (t ≡ lhs_text l ++ rest) × FitsLhs l
    lhs_gives t l rest h =
        let first = chain_some (seg t) (λ x. put_before (x.0 ∷ []) (segs (length x.1) x.1)) (l, rest) h in
        let one = seg_form.gives t first.0.0 first.0.1 first.1.0 in
        let put = put_some first.0.0 (segs (length first.0.1) first.0.1) (l, rest) first.1.1 in
        let all = segs_give (length first.0.1) first.0.1 put.0.0 put.0.1 put.1.0 in
        subst (λ (y : List Seg × Text). (t ≡ lhs_text y.0 ++ y.1) × FitsLhs y.0) put.1.1
        (one.0 ∙ ap (λ x. seg_text first.0.0 ++ x) all.0 ∙ sym (append_assoc (seg_text first.0.0) (flat_map (λ t. 44 ∷ seg_text t) put.0.0) put.0.1), (one.1, all.1))
