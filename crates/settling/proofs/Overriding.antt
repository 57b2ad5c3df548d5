-- The laws of overriding.
use Rattle.std.proofs.Common.{◌≡◌, Bool, true, false, ◌||◌, not, List, [], ◌∷◌, ◌++◌, map, refl, sym, ap, ◌∙◌, subst, cond}
use Rattle.std.specs.Prelude.{filter}
use Rattle.std.specs.List.{list_any}
use Rattle.fourvec.specs.declared.Bit.{Bit}
use Rattle.fourvec.specs.declared.Bit.TheVariants.{Zero, One}
use Rattle.lhs_alias.specs.declared.segs.WireBit.{WireBit}
use Rattle.lhs_alias.specs.Segs.{bit}
use Rattle.settling.specs.Settling.{Link, Contribution, first_bit, same_bit, is_one_class, given_to}
use Rattle.settling.specs.Least.{More}
use Rattle.settling.specs.Overriding.{is_given, overridden, OverridingTells, NoneOverridden, OverridingRises}
use Rattle.settling.proofs.Classes.{same-name}
use Rattle.settling.proofs.More.{more-append}

-- ---- two rows by hand: wires 3 and 2 are joined, and the second is overridden with 1

-- the class takes what overrides it
cut : overridden ((bit 3 1, bit 2 4) ∷ []) ((bit 2 4, One) ∷ []) ((bit 3 1, Zero) ∷ (bit 5 0, Zero) ∷ []) ≡ (bit 5 0, Zero) ∷ (bit 2 4, One) ∷ []
unfolding first_bit overridden
cut = refl

-- what has no overridden bit keeps what it is given
kept : given_to ((bit 3 1, bit 2 4) ∷ []) (bit 5 0) (overridden ((bit 3 1, bit 2 4) ∷ []) ((bit 2 4, One) ∷ []) ((bit 3 1, Zero) ∷ (bit 5 0, Zero) ∷ [])) ≡ Zero ∷ []
unfolding first_bit overridden
kept = refl

-- ---- none is overridden

all-kept : (all : List Contribution) → filter (λ c. not false) all ++ [] ≡ all
all-kept [] = refl
all-kept (c ∷ all) = ap (λ l. c ∷ l) (all-kept all)

pub none_overridden : NoneOverridden
unfolding overridden
none_overridden links all = all-kept all

-- ---- what a class has

pub given_to-append : (links : List Link) (b : WireBit) (a c : List Contribution) → given_to links b (a ++ c) ≡ given_to links b a ++ given_to links b c
given_to-append links b [] c = refl
given_to-append links b (x ∷ a) c = pick (is_one_class links x.0 b) (given_to-append links b a c)
  where
    pick : (t : Bool) → given_to links b (a ++ c) ≡ given_to links b a ++ given_to links b c
        → map (λ d. d.1) (cond t (x ∷ filter (λ d. is_one_class links d.0 b) (a ++ c)) (filter (λ d. is_one_class links d.0 b) (a ++ c)))
        ≡ map (λ d. d.1) (cond t (x ∷ filter (λ d. is_one_class links d.0 b) a) (filter (λ d. is_one_class links d.0 b) a)) ++ given_to links b c
    pick true e = ap (λ l. x.1 ∷ l) e
    pick false e = e

-- bits of one class are in the class of the same bits
same-given : (links : List Link) (over : List Contribution) (a b : WireBit) → is_one_class links a b ≡ true → is_given links over a ≡ is_given links over b
same-given links over a b e = ap (λ x. list_any (λ c. same_bit (first_bit links c.0) x) over) (same-name _ _ e)

-- where nothing is given to a class, its list is empty
none-given : (links : List Link) (b : WireBit) (over : List Contribution) → is_given links over b ≡ false → given_to links b over ≡ []
none-given links b [] e = refl
none-given links b (c ∷ over) e = pick (is_one_class links c.0 b) e (λ q. none-given links b over q)
  where
    pick : (t : Bool) → (t || is_given links over b) ≡ false → (is_given links over b ≡ false → given_to links b over ≡ [])
        → map (λ d. d.1) (cond t (c ∷ filter (λ d. is_one_class links d.0 b) over) (filter (λ d. is_one_class links d.0 b) over)) ≡ []
    pick true q rest = let k : true ≡ false = q in cc
    pick false q rest = rest q

-- what is left of a class: nothing, where it has an overridden bit
left-of : (links : List Link) (over : List Contribution) (b : WireBit) (all : List Contribution)
    → given_to links b (filter (λ c. not (is_given links over c.0)) all) ≡ cond (is_given links over b) [] (given_to links b all)
left-of links over b [] = none (is_given links over b)
  where
    none : (t : Bool) → given_to links b [] ≡ cond t [] (given_to links b [])
    none true = refl
    none false = refl
left-of links over b (x ∷ all) = pick (is_given links over x.0) refl (left-of links over b all)
  where
    rest : List Contribution
    rest = filter (λ c. not (is_given links over c.0)) all

    own : List Contribution
    own = filter (λ d. is_one_class links d.0 b) all

    cut_out : (t : Bool) → is_one_class links x.0 b ≡ t → is_given links over x.0 ≡ true → given_to links b rest ≡ cond (is_given links over b) [] (given_to links b all)
        → given_to links b rest ≡ cond (is_given links over b) [] (map (λ d. d.1) (cond t (x ∷ own) own))
    cut_out true e f r = r ∙ rw (sym (same-given links over x.0 b e) ∙ f) refl
    cut_out false e f r = r

    keep : (t : Bool) → is_one_class links x.0 b ≡ t → is_given links over x.0 ≡ false → given_to links b rest ≡ cond (is_given links over b) [] (given_to links b all)
        → map (λ d. d.1) (cond t (x ∷ filter (λ d. is_one_class links d.0 b) rest) (filter (λ d. is_one_class links d.0 b) rest))
        ≡ cond (is_given links over b) [] (map (λ d. d.1) (cond t (x ∷ own) own))
    keep true e f r =
        let g : is_given links over b ≡ false = sym (same-given links over x.0 b e) ∙ f in
        ap (λ l. x.1 ∷ l) (r ∙ ap (λ t. cond t [] (given_to links b all)) g) ∙ sym (ap (λ t. cond t [] (x.1 ∷ given_to links b all)) g)
    keep false e f r = r

    pick : (g : Bool) → is_given links over x.0 ≡ g → given_to links b rest ≡ cond (is_given links over b) [] (given_to links b all)
        → given_to links b (cond (not g) (x ∷ rest) rest) ≡ cond (is_given links over b) [] (given_to links b (x ∷ all))
    pick true e r = cut_out (is_one_class links x.0 b) refl e r
    pick false e r = keep (is_one_class links x.0 b) refl e r

nothing-more : (all : List Bit) → all ++ [] ≡ all
nothing-more [] = refl
nothing-more (x ∷ all) = ap (λ l. x ∷ l) (nothing-more all)

pub overriding_tells : OverridingTells
unfolding overridden
overriding_tells links over all b =
    given_to-append links b (filter (λ c. not (is_given links over c.0)) all) over ∙ ap (λ l. l ++ given_to links b over) (left-of links over b all)
    ∙ pick (is_given links over b) refl
  where
    pick : (t : Bool) → is_given links over b ≡ t → cond t [] (given_to links b all) ++ given_to links b over ≡ cond t (given_to links b over) (given_to links b all)
    pick true e = refl
    pick false e = ap (λ l. given_to links b all ++ l) (none-given links b over e) ∙ nothing-more (given_to links b all)

-- ---- it rises

-- where the same bits are given something, the same classes are
same-bits : (links : List Link) (b : WireBit) (over higher : List Contribution) → More over higher → is_given links over b ≡ is_given links higher b
same-bits links b [] [] h = refl
same-bits links b [] (d ∷ rest) h = absurd h
same-bits links b (c ∷ all) [] h = absurd h
same-bits links b (c ∷ all) (d ∷ rest) h = ap (λ x. is_one_class links x b || is_given links all b) h.0 ∙ ap (λ t. is_one_class links d.0 b || t) (same-bits links b all rest h.2)

filter-rises : (links : List Link) (over higher : List Contribution) → More over higher → (all more : List Contribution) → More all more
    → More (filter (λ c. not (is_given links over c.0)) all) (filter (λ c. not (is_given links higher c.0)) more)
filter-rises links over higher h [] [] k = tt
filter-rises links over higher h [] (y ∷ more) k = absurd k
filter-rises links over higher h (x ∷ all) [] k = absurd k
filter-rises links over higher h (x ∷ all) (y ∷ more) k =
    subst (λ t. More (cond (not (is_given links over x.0)) (x ∷ filter (λ c. not (is_given links over c.0)) all) (filter (λ c. not (is_given links over c.0)) all))
    (cond (not t) (y ∷ filter (λ c. not (is_given links higher c.0)) more) (filter (λ c. not (is_given links higher c.0)) more)))
    (same-bits links x.0 over higher h ∙ ap (λ b. is_given links higher b) k.0)
    (pick (not (is_given links over x.0)) (filter-rises links over higher h all more k.2))
  where
    pick : (t : Bool) → More (filter (λ c. not (is_given links over c.0)) all) (filter (λ c. not (is_given links higher c.0)) more)
        → More (cond t (x ∷ filter (λ c. not (is_given links over c.0)) all) (filter (λ c. not (is_given links over c.0)) all))
        (cond t (y ∷ filter (λ c. not (is_given links higher c.0)) more) (filter (λ c. not (is_given links higher c.0)) more))
    pick true r = (k.0, k.1, r)
    pick false r = r

pub overriding_rises : OverridingRises
unfolding overridden
overriding_rises links over higher all more h k = more-append _ _ _ _ (filter-rises links over higher h all more k) h
