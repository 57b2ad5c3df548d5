-- Flat designs that mean what designs of scopes mean.
use Rattle.std.specs.Prelude.{◌≡◌, ◌↔◌, ℕ, Bool, true, false, ◌||◌, ◌==◌, List, [], ◌∷◌, ◌++◌, Option, IsTrue}
use Rattle.std.specs.List.{All}
use Rattle.sv_outside.specs.declared.text.Signal.{Signal}
use Rattle.settling.specs.Settling.{Store}
use Rattle.svex_shape.specs.declared.shape.VarName.{VarName}
use Rattle.svex_shape.specs.declared.shape.VarName.TheVariants.{Now}
use Rattle.svex_shape.specs.declared.shape.Shape.{Shape}
use Rattle.svex_shape.specs.Values.{each_variable}
use Rattle.driver_resolve.specs.declared.driver.Driver.{Driver}
use Rattle.driver_resolve.specs.Drivers.{Phase, drivers_give}
use Rattle.flat_net.specs.declared.flat.Flat.{Flat}
use Rattle.flat_net.specs.Flats as f
use Rattle.sv_meaning.specs.Designs as designs
use Rattle.sv_tree.specs.declared.design.Source.{Source}
use Rattle.sv_meaning.specs.Faults.{Judged, provided, ◌>>=◌}
use Rattle.sv_meaning.specs.Layouts.{Name}
use Rattle.sv_hierarchy.specs.Scopes.{design}
use Rattle.sv_meaning.specs.Designs.{Work, Design, gives, names_now, design_faults}

-- ---- drivers by what they stem from

unfoldable pub has_number : ℕ → List ℕ → Bool
has_number n [] = false
has_number n (m ∷ more) = m == n || has_number n more

-- a present value of one of these wires, or any other value
abbrev pub names_only : List ℕ → VarName → ℕ → Bool
names_only all (Now n) w = has_number n all
names_only all name w = true

-- Drivers that stem from one assignment, port or block: they give what it contributes, in its order, and name in the present only
-- wires that it names there.
pub record Stem (wires : List Signal) (shapes : List Shape) (w : Work) (drivers : List Driver) : Type 0 where
  pub gives : (p : Phase) → drivers_give shapes drivers p ≡ gives w p.previous p.present
  pub names : All (λ d. IsTrue (each_variable (names_only (names_now wires w)) shapes d.value)) drivers

-- the drivers of works, one work after another
pub data AllStem (wires : List Signal) (shapes : List Shape) : List Work → List Driver → Type 0 where
  none : AllStem wires shapes [] []
  more : {before : List Work} {w : Work} {drivers own : List Driver} → AllStem wires shapes before drivers → Stem wires shapes w own → AllStem wires shapes (before ++ w ∷ []) (drivers ++ own)

-- ---- the whole

-- the design that a source means, against which nothing stands
abbrev pub sound_design : Source → Option Name → Judged Design
sound_design source top = design source top >>= λ d. provided (design_faults d) d

-- A flat design has the wires, the contributions and the joined bits of a design against which nothing stands, so the two have the
-- same settlings.
pub record IsElaborated (d : Design) (flat : Flat) : Type 0 where
  pub clear : design_faults d ≡ []
  pub sound : f.IsFlat flat
  pub wires : flat.wires ≡ d.wires
  pub stem : AllStem d.wires flat.arena d.works flat.drivers
  pub links : f.links_of flat.joins ≡ designs.links_of d.works
  pub given : (stim : Store) (o : designs.Overriding) (prev now : Store) → f.given_in flat o.wires (designs.outside stim o) prev now ≡ designs.given_in d stim o prev now
  pub settles : (stim : Store) (o : designs.Overriding) (prev now : Store) → designs.Settles d stim o prev now ↔ f.Settles flat o.wires (designs.outside stim o) prev now
