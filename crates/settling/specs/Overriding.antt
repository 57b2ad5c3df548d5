-- Settlings of which a part is set from outside: a class of joined bits with an overridden bit takes what overrides it, and nothing else.
use Rattle.std.specs.Prelude.{◌≡◌, Bool, not, List, [], ◌++◌, filter, if◌then◌else◌}
use Rattle.std.specs.List.{list_any}
use Rattle.lhs_alias.specs.declared.segs.WireBit.{WireBit}
use Rattle.settling.specs.Settling.{Link, Contribution, is_one_class, given_to}
use Rattle.settling.specs.Least.{More}

-- something is given to the class of the bit
abbrev pub is_given : List Link → List Contribution → WireBit → Bool
is_given links all b = list_any (λ c. is_one_class links c.0 b) all

-- What is given where some bits are overridden: what is given to classes without an overridden bit, and what overrides.
unfoldable pub overridden : List Link → List Contribution → List Contribution → List Contribution
overridden links over all = filter (λ c. not (is_given links over c.0)) all ++ over

-- ---- laws

-- A class with an overridden bit has what overrides it alone, and any other class what it would have.
abbrev pub OverridingTells : Type 0
OverridingTells = (links : List Link) (over all : List Contribution) (b : WireBit)
    → given_to links b (overridden links over all) ≡ (if is_given links over b then given_to links b over else given_to links b all)

-- where nothing is overridden, all stays
abbrev pub NoneOverridden : Type 0
NoneOverridden = (links : List Link) (all : List Contribution) → overridden links [] all ≡ all

-- where more is given and what overrides has more, there is more
abbrev pub OverridingRises : Type 0
OverridingRises = (links : List Link) (over higher all more : List Contribution) → More over higher → More all more
    → More (overridden links over all) (overridden links higher more)
