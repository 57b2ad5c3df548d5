-- What is found of invariants, one more.
use Rattle.std.proofs.Common.{◌≡◌, ℕ, zero, suc, ◌+◌, ◌<◌, ◌≤◌, List, [], ◌∷◌, ◌++◌, length, get_or, map, take, Option, refl, sym, ◌∙◌, ap, subst, arith, length-append}
use Rattle.std.specs.List.{AllZip}
use Rattle.fourvec.specs.declared.Bit.{Bit}
use Rattle.goal_tree.specs.declared.tree.GoalTree.{GoalTree}
use Rattle.svtv_periods.specs.Periods.{Course}
use Rattle.svtv_report.specs.declared.held.Held.{Held}
use Rattle.svtv_invariants.specs.Deciding.{IsDecided}
use Rattle.svtv_invariants.specs.Finding.{AreAsLong, AreDecided, IsOneMore}
use Rattle.svtv_invariants.specs.declared.deciding.Decided.{Decided}
use Rattle.svtv_invariants.specs.declared.finding.Findings.{Findings}

-- ---- lists side by side

pub zip_long : {A B : Type 0} (R : A → B → Type 0) (xs : List A) (ys : List B) → AllZip R xs ys → length xs ≡ length ys
zip_long R [] [] z = refl
zip_long R [] (y ∷ ys) z = absurd z
zip_long R (x ∷ xs) [] z = absurd z
zip_long R (x ∷ xs) (y ∷ ys) z = ap suc (zip_long R xs ys z.1)

pub zip_at : {A B : Type 0} (R : A → B → Type 0) (xs : List A) (ys : List B) (i : ℕ) (d : A) (e : B) → AllZip R xs ys → i < length ys → R (get_or xs i d) (get_or ys i e)
zip_at R [] [] i d e z l = absurd (omega (arith, l))
zip_at R [] (y ∷ ys) i d e z l = absurd z
zip_at R (x ∷ xs) [] i d e z l = absurd z
zip_at R (x ∷ xs) (y ∷ ys) zero d e z l = z.0
zip_at R (x ∷ xs) (y ∷ ys) (suc i) d e z l = zip_at R xs ys i d e z.1 (omega (arith, l))

zip_more : {A B : Type 0} (R : A → B → Type 0) (xs : List A) (ys : List B) (x : A) (y : B) → AllZip R xs ys → R x y → AllZip R (xs ++ x ∷ []) (ys ++ y ∷ [])
zip_more R [] [] x y z r = (r, tt)
zip_more R [] (b ∷ ys) x y z r = absurd z
zip_more R (a ∷ xs) [] x y z r = absurd z
zip_more R (a ∷ xs) (b ∷ ys) x y z r = (z.0, zip_more R xs ys x y z.1 r)

take_more : {A : Type 0} (xs : List A) (i : ℕ) (d : A) → i < length xs → take (i + 1) xs ≡ take i xs ++ get_or xs i d ∷ []
take_more [] i d l = absurd (omega (arith, l))
take_more (x ∷ xs) zero d l = refl
take_more (x ∷ xs) (suc i) d l = let e : suc i + 1 ≡ suc (i + 1) = omega arith in ap (λ n. take n (x ∷ xs)) e ∙ ap (λ ys. x ∷ ys) (take_more xs i d (omega (arith, l)))

map_last : {A B : Type 0} (f : A → B) (xs : List A) (x : A) → map f (xs ++ x ∷ []) ≡ map f xs ++ f x ∷ []
map_last f [] x = refl
map_last f (y ∷ ys) x = ap (λ zs. f y ∷ zs) (map_last f ys x)

pub mapped_more : {A B : Type 0} (f : A → B) (xs : List A) (i : ℕ) (d : A) → i < length xs → map f (take i xs) ++ f (get_or xs i d) ∷ [] ≡ map f (take (i + 1) xs)
mapped_more f xs i d l = sym (map_last f (take i xs) (get_or xs i d)) ∙ sym (ap (map f) (take_more xs i d l))

longer : {A B : Type 0} (xs more : List A) (ns all : List B) (x : A) (n : B) → more ≡ xs ++ x ∷ [] → all ≡ ns ++ n ∷ [] → length xs ≡ length ns → length more ≡ length all
longer xs more ns all x n e f l =
    ap length e ∙ (length-append xs (x ∷ []) ∙ ((let g : length xs + 1 ≡ length ns + 1 = omega (arith, l) in g) ∙ (sym (length-append ns (n ∷ [])) ∙ sym (ap length f))))

pub no_tree : GoalTree
no_tree = record { name = record { text = []; place = record { file = 0; line = 0; column = 0 } }; hyps = []; claims = [] }

-- ---- one more

pub more_long : (x z : Findings) (name : List ℕ) (y : Decided) → AreAsLong x → IsOneMore x name y z → AreAsLong z
more_long x z name y h m = record {
  verdicts = longer x.verdicts z.verdicts x.names z.names y.verdict name m.verdicts m.names h.verdicts;
  before = longer x.before z.before x.names z.names y.before name m.before m.names h.before;
  shown = longer x.shown z.shown x.names z.names y.shown name m.shown m.names h.shown;
}

pub more_names : {G : Type 0} (f : G → List ℕ) (goals : List G) (i : ℕ) (goal : G) (x z : Findings) (y : Decided) → i < length goals → goal ≡ get_or goals i goal → x.names ≡ map f (take i goals) → IsOneMore x (f goal) y z
    → z.names ≡ map f (take (i + 1) goals)
more_names f goals i goal x z y l e h m =
    m.names ∙ ap (λ (ns : List (List ℕ)). ns ++ f goal ∷ []) h ∙ ap (λ g. map f (take i goals) ++ f g ∷ []) e ∙ mapped_more f goals i goal l

pub none_decided : (c : Course) (budget : Option ℕ) (x : Findings) → x.verdicts ≡ [] → x.before ≡ [] → x.shown ≡ [] → AreDecided c [] budget x
none_decided c budget x v b s = record { found = []; each = tt; verdicts = v; before = b; shown = s }

pub more_decided : (c : Course) (goals : List GoalTree) (budget : Option ℕ) (i : ℕ) (x z : Findings) (name : List ℕ) (y : Decided) → i < length goals → AreDecided c (take i goals) budget x
    → IsDecided c (get_or goals i no_tree) budget y → IsOneMore x name y z → AreDecided c (take (i + 1) goals) budget z
more_decided c goals budget i x z name y l h d m = record {
  found = h.found ++ y ∷ [];
  each = subst (λ gs. AllZip (λ goal w. IsDecided c goal budget w) gs (h.found ++ y ∷ [])) (sym (take_more goals i no_tree l))
      (zip_more (λ goal w. IsDecided c goal budget w) (take i goals) h.found (get_or goals i no_tree) y h.each d);
  verdicts = m.verdicts ∙ ap (λ (vs : List Held). vs ++ y.verdict ∷ []) h.verdicts ∙ sym (map_last (λ (w : Decided). w.verdict) h.found y);
  before = m.before ∙ ap (λ (vs : List (List (List Bit))). vs ++ y.before ∷ []) h.before ∙ sym (map_last (λ (w : Decided). w.before) h.found y);
  shown = m.shown ∙ ap (λ (vs : List (List (List Bit))). vs ++ y.shown ∷ []) h.shown ∙ sym (map_last (λ (w : Decided). w.shown) h.found y);
}

pub take_whole : {A : Type 0} (xs : List A) (i : ℕ) → length xs ≤ i → take i xs ≡ xs
take_whole [] zero l = refl
take_whole [] (suc i) l = refl
take_whole (x ∷ xs) zero l = absurd (omega (arith, l))
take_whole (x ∷ xs) (suc i) l = ap (λ ys. x ∷ ys) (take_whole xs i (omega (arith, l)))
