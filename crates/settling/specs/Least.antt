-- The least settling, where what is given rises with the valuation: that it exists, and that it rises too.
use Rattle.std.specs.Prelude.{◌≡◌, ℕ, List, [], ◌∷◌, IsTrue}
use Rattle.fourvec.specs.Bits.{bit_below}
use Rattle.settling.specs.Settling.{Store, Link, Contribution, SettlesBy}

-- each bit is X or the other's
abbrev pub Under : Store → Store → Type 0
Under s t = (n k : ℕ) → IsTrue (bit_below (s n k) (t n k))

-- the same bits in the same order, and more of each
abbrev pub More : List Contribution → List Contribution → Type 0
More [] [] = Unit {0}
More [] (d ∷ rest) = ⊥
More (c ∷ all) [] = ⊥
More (c ∷ all) (d ∷ rest) = (c.0 ≡ d.0) × IsTrue (bit_below c.1 d.1) × More all rest

-- what is given in each valuation
abbrev pub Giving : Type 0
Giving = Store → List Contribution

-- with more in the valuation there is more of each
abbrev pub Rises : Giving → Type 0
Rises gives = (s t : Store) → Under s t → More (gives s) (gives t)

-- a settling below every settling
pub record IsLeast (links : List Link) (gives : Giving) (now : Store) : Type 0 where
  pub settles : SettlesBy links (gives now) now
  pub least : (t : Store) → SettlesBy links (gives t) t → Under now t

-- there is a least settling
abbrev pub LeastExists : Type 0
LeastExists = (links : List Link) (gives : Giving) → Rises gives → (now : Store) × IsLeast links gives now

-- where more is given, it has more
abbrev pub LeastRises : Type 0
LeastRises = (links : List Link) (gives more : Giving) → Rises gives → Rises more → ((s : Store) → More (gives s) (more s))
    → (now later : Store) → IsLeast links gives now → IsLeast links more later → Under now later
