-- The paths of the wires of a design against which nothing stands.
use Rattle.std.proofs.Common.{◌≡◌, ◌∙◌, Option, Ok, subst}
use Rattle.sv_tree.specs.declared.design.Source.{Source}
use Rattle.sv_meaning.specs.Faults.{provided}
use Rattle.sv_meaning.specs.Layouts.{Name}
use Rattle.sv_meaning.specs.Designs.{Design, design_faults}
use Rattle.sv_hierarchy.specs.Scopes.{State, design, design_of, scopes}
use Rattle.scope_laws.specs.Wires.{HaveParts}
use Rattle.scope_laws.proofs.Plain.{bind_ok, provided_ok, same_ok}
use Rattle.scope_laws.proofs.Printing.{wires_have_parts}
use Rattle.sv_elab.specs.Elaborated.{sound_design}

-- they have parts that a value change dump can print
pub sound_parts : (source : Source) (top : Option Name) (d : Design) → sound_design source top ≡ Ok d → HaveParts d.wires
sound_parts source top d h =
    let a = bind_ok (design source top) (λ x. provided (design_faults x) x) d h in
    let b = bind_ok (scopes source top) (λ st. Ok (design_of st)) a.0 a.1 in
    let st : State = b.0 in
    let same : design_of st ≡ d = same_ok (design_of st) a.0 b.2 ∙ provided_ok (design_faults a.0) a.0 d a.2 in
    subst (λ (x : Design). HaveParts x.wires) same (wires_have_parts source top st b.1)
