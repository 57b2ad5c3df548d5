-- The laws over the definitions.
use Rattle.std.specs.Prelude.{◌≡◌, ◌≢◌, [], ◌∷◌, Some}
use Rattle.sv_meaning.specs.Layouts.{Name, Scope, with_names, What, find}
use Rattle.settling.specs.Settling.{Store}
use Rattle.settling.specs.Least.{Under, More, IsLeast}
use Rattle.sv_meaning.specs.Designs.{Design, Overriding, contributions, links_of, given_in}

-- Each contribution rises with the previous and the present valuation.
abbrev pub ContributionsRise : Type 0
ContributionsRise = (d : Design) (prev now before later : Store) → Under prev before → Under now later → More (contributions d prev now) (contributions d before later)

-- a name stands for what it was declared as last, whatever was declared before
abbrev pub LastIsFound : Type 0
LastIsFound = (n : Name) (at : Scope) (x : What) → find n (with_names at ((n, x) ∷ [])) ≡ Some x

-- a declaration changes no other name
abbrev pub OthersStay : Type 0
OthersStay = (n m : Name) (at : Scope) (x : What) → m ≢ n → find n (with_names at ((m, x) ∷ [])) ≡ find n at

-- the least valuation that settles over a previous one, a stimulus and an overriding
abbrev pub IsLeastSettling : Design → Store → Overriding → Store → Store → Type 0
IsLeastSettling d stim o prev now = IsLeast (links_of d.works) (given_in d stim o prev) now

-- there is one
abbrev pub LeastSettlingExists : Type 0
LeastSettlingExists = (d : Design) (stim : Store) (o : Overriding) (prev : Store) → (now : Store) × IsLeastSettling d stim o prev now

-- the same wires are overridden, each bit by X or the other's
pub record IsLess (o p : Overriding) : Type 0 where
  pub wires : o.wires ≡ p.wires
  pub values : Under o.values p.values

-- It rises with the stimulus, with the previous valuation, and with what a fixed set of wires is set to.
abbrev pub LeastSettlingRises : Type 0
LeastSettlingRises = (d : Design) (stim : Store) (o : Overriding) (prev more : Store) (p : Overriding) (before now later : Store)
    → Under stim more → IsLess o p → Under prev before
    → IsLeastSettling d stim o prev now → IsLeastSettling d more p before later → Under now later
