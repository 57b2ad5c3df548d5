-- Instances that are still to be opened.
use Rattle.std.proofs.Common.{◌≡◌, List, [], ◌∷◌, ◌++◌, map, Option, refl, sym, ap, ◌∙◌}
use Rattle.std.proofs.lemmas.List.{map-append}
use Rattle.std.specs.Option.{option_copied}
use Rattle.std.specs.Borrow.{Bor}
use Rattle.std.proofs.Common.{Some, None}
use Rattle.sv_tree.specs.declared.design.One.{One}
use Rattle.sv_tree.specs.declared.design.Inst.{Inst}
use Rattle.sv_hierarchy.specs.Scopes.{State, child_of, flat_pins, here, path_of}
use Rattle.sv_levels.specs.declared.tasks.Child.{Child}
use Rattle.sv_levels.specs.Levels.{front_is}
use Rattle.sv_levels.specs.Tasks.{child_is, lent}

pub lent_is : {A : Type 0} (x : Option (Bor A)) → lent x ≡ option_copied x
lent_is None = refl
lent_is (Some x) = refl

pub children_more : (s : State) (inst : Inst) (one : One) (a b : List Child) (x : Child) → b ≡ a ++ x ∷ [] → s.children ≡ map child_is a → front_is x.at ≡ here s → x.of_module.now ≡ inst.of_module → x.name.now ≡ one.name →
    x.path ≡ path_of s one.name.text → option_copied x.params ≡ flat_pins inst.params → option_copied x.pins ≡ one.pins → s.children ++ child_of inst one s ∷ [] ≡ map child_is b
children_more s inst one a b x h k at m n p ps qs =
    sym (ap (map child_is) h ∙ map-append child_is a (x ∷ [])
    ∙ λ i. sym k i ++ record { at = at i; of_module = m i; name = n i; path = p i; params = (lent_is x.params ∙ ps) i; pins = (lent_is x.pins ∙ qs) i } ∷ [])
