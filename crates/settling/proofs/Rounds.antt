-- Rounds from X: each gives every class the resolution of what is given to it, and after some of them nothing changes.
use Rattle.std.proofs.Common.{◌≡◌, ℕ, zero, suc, Bool, true, false, List, [], ◌∷◌, map, refl, sym, subst, cond}
use Rattle.std.specs.Prelude.{filter}
use Rattle.fourvec.specs.declared.Bit.{Bit}
use Rattle.fourvec.specs.declared.Bit.TheVariants.{Zero, One, Unknown, Floating}
use Rattle.fourvec.specs.Bits.{bit_below, res_bit, all_pairs}
use Rattle.fourvec.specs.Laws.{Below}
use Rattle.fourvec.proofs.Order as order
use Rattle.fourvec.proofs.Tables.{left_of}
use Rattle.lhs_alias.specs.declared.segs.WireBit.{WireBit}
use Rattle.lhs_alias.specs.Segs.{bit}
use Rattle.settling.specs.Settling.{Store, Link, Contribution, is_one_class, given_to, Resolves, SettlesBy}
use Rattle.settling.specs.Events.{resolved, step}
use Rattle.settling.specs.Least.{Under, More, Giving, Rises}

-- ---- the order of bits and stores

pub below-refl : (b : Bit) → bit_below b b ≡ true
below-refl Zero = refl
below-refl One = refl
below-refl Unknown = refl
below-refl Floating = refl

-- bits of one list, one by one
pub below-trans : (a b c : Bit) → bit_below a b ≡ true → bit_below b c ≡ true → bit_below a c ≡ true
unfolding all_pairs
below-trans a b c h k = left_of _ _ (order.below-trans (a ∷ []) (b ∷ []) (c ∷ []) (order.one_below a b h) (order.one_below b c k))

pub under-refl : (s : Store) → Under s s
under-refl s n k = below-refl (s n k)

pub under-trans : (s t u : Store) → Under s t → Under t u → Under s u
under-trans s t u h k n m = below-trans (s n m) (t n m) (u n m) (h n m) (k n m)

abbrev pub no_value : Store
no_value n k = Unknown

pub no_value-under : (s : Store) → Under no_value s
no_value-under s n k = refl

-- ---- what a class is given

head-of : (x y : Bit) (a c : List Bit) → Below (x ∷ a) (y ∷ c) → bit_below x y ≡ true
unfolding all_pairs
head-of x y a c h = left_of _ _ h

both-of : (x y : Bit) (a c : List Bit) → bit_below x y ≡ true → Below a c → Below (x ∷ a) (y ∷ c)
unfolding all_pairs
both-of x y a c h k = order.both _ _ h k

pub given-more : (links : List Link) (b : WireBit) (all more : List Contribution) → More all more → Below (given_to links b all) (given_to links b more)
unfolding all_pairs
given-more links b [] [] h = refl
given-more links b [] (d ∷ rest) h = absurd h
given-more links b (c ∷ all) [] h = absurd h
given-more links b (c ∷ all) (d ∷ rest) h =
    subst (λ x. Below (given_to links b (c ∷ all)) (map (λ e. e.1) (filter (λ e. is_one_class links e.0 b) (let y : Contribution = (x, d.1) in y ∷ rest)))) h.0
    (pick (given-more links b all rest h.2) (is_one_class links c.0 b))
  where
    pick : Below (given_to links b all) (given_to links b rest) → (t : Bool) → Below (map (λ e. e.1) (cond t (c ∷ filter (λ e. is_one_class links e.0 b) all) (filter (λ e. is_one_class links e.0 b) all)))
        (map (λ e. e.1) (cond t (let y : Contribution = (c.0, d.1) in y ∷ filter (λ e. is_one_class links e.0 b) rest) (filter (λ e. is_one_class links e.0 b) rest)))
    pick k true = both-of c.1 d.1 (given_to links b all) (given_to links b rest) h.1 k
    pick k false = k

resolved-rises : (a c : List Bit) → Below a c → bit_below (resolved a) (resolved c) ≡ true
unfolding all_pairs
resolved-rises [] [] h = refl
resolved-rises [] (y ∷ c) h = refl
resolved-rises (x ∷ a) [] h = cc
resolved-rises (x ∷ a) (y ∷ c) h = head-of _ _ [] [] (order.over_monotone res_bit Floating refl (x ∷ a) (y ∷ c) h)

-- ---- rounds

unfoldable pub rounds : List Link → Giving → ℕ → Store
rounds links gives zero = no_value
rounds links gives (suc i) = step links gives (rounds links gives i)

pub step-rises : (links : List Link) (gives more : Giving) (s t : Store) → More (gives s) (more t) → Under (step links gives s) (step links more t)
step-rises links gives more s t h n k = resolved-rises _ _ (given-more links (bit n k) (gives s) (more t) h)

pub rounds-up : (links : List Link) (gives : Giving) → Rises gives → (i : ℕ) → Under (rounds links gives i) (rounds links gives (suc i))
unfolding rounds
rounds-up links gives r zero = no_value-under (rounds links gives (suc zero))
rounds-up links gives r (suc i) = step-rises links gives gives _ _ (r _ _ (rounds-up links gives r i))

-- below a settling over more
pub below-resolution : (x : Bit) (a c : List Bit) → Below a c → Resolves x c → bit_below (resolved a) x ≡ true
unfolding all_pairs
below-resolution x [] c h e = refl
below-resolution x (y ∷ a) [] h e = cc
below-resolution x (y ∷ a) (z ∷ c) h e = subst (λ w. bit_below (resolved (y ∷ a)) w ≡ true) (sym e) (resolved-rises (y ∷ a) (z ∷ c) h)

pub rounds-below : (links : List Link) (gives more : Giving) → Rises gives → ((s : Store) → More (gives s) (more s)) → Rises more
    → (t : Store) → SettlesBy links (more t) t → (i : ℕ) → Under (rounds links gives i) t
unfolding rounds
rounds-below links gives more r q p t e zero n k = no_value-under t n k
rounds-below links gives more r q p t e (suc i) n k =
    below-resolution (t n k) (given_to links (bit n k) (gives (rounds links gives i))) (given_to links (bit n k) (more t))
    (order.below-trans _ _ _ (given-more links (bit n k) _ _ (r _ _ (rounds-below links gives more r q p t e i))) (given-more links (bit n k) _ _ (q t)))
    (e.1 (bit n k))
