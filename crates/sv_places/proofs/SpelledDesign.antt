-- Each place that a tree keeps is that of a token: instances, items, modules and the whole text. A lemma for each production, in the form that SpelledExprs tells:
-- it follows the chain of its grammar, so each line is one part of that chain, and what keeps no place is only passed.
use Rattle.std.proofs.Common.{List, [], ◌∷◌, Option, codes, subst}
use Rattle.std.specs.Prelude.{IfSome}
use mathlib.Core.Former.{Count}
use Rattle.sv_outside.specs.declared.refusal.Place.{Place}
use Rattle.sv_outside.specs.declared.text.Token.{Token}
use Rattle.std.proofs.Common.{Bool, true, false}
use Rattle.sv_tree.specs.declared.design.AssignPair.{AssignPair}
use Rattle.sv_tree.specs.declared.design.ParPort.{ParPort}
use Rattle.sv_tree.specs.declared.design.Port.{Port}
use Rattle.sv_tree.specs.declared.design.Pin.{Pin}
use Rattle.sv_tree.specs.declared.design.Pin.TheVariants as pin
use Rattle.sv_tree.specs.declared.design.NamedPin.{NamedPin}
use Rattle.sv_tree.specs.declared.design.Pins.{Pins}
use Rattle.sv_tree.specs.declared.design.Pins.TheVariants as pins
use Rattle.sv_tree.specs.declared.design.One.{One}
use Rattle.sv_tree.specs.declared.design.Inst.{Inst as InstTree}
use Rattle.sv_tree.specs.declared.design.Item.{Item, Net, Variable, Typedef, Param, Genvar, Assign, Always, Inst, For', If', Generate', Row_of-Item, end_of-Item, more_of-Item, end_of-Gen, more_of-Gen, Held-Item-If-3, None', Some'}
use Rattle.sv_tree.specs.declared.design.Gen.{Gen, Block', Single'}
use Rattle.sv_tree.specs.declared.design.Module.{Module}
use Rattle.sv_tree.specs.declared.design.SourcePart.{SourcePart}
use Rattle.sv_tree.specs.declared.design.SourcePart.TheVariants as source_part
use Rattle.sv_tree.specs.declared.design.Source.{Source}
use Rattle.sv_tree.specs.GrammarExprs.{Spells}
use Rattle.sv_tree.specs.GrammarForms.{SpellsType, SpellsParPort, SpellsPort}
use Rattle.sv_tree.specs.GrammarStmts.{block_name}
use Rattle.sv_tree.specs.GrammarDesign.{SpellsPair, SpellsPin, SpellsNamed, SpellsPins, SpellsOne, SpellsGiven, SpellsInst, genvar_if, SpellsItem, SpellsGen, SpellsElse, SpellsItems, SpellsParams, port_list, SpellsPorts, SpellsModule, SpellsPart, SpellsSource}
use Rattle.sv_places.specs.Within.{Each, InWord, InExpr, InType, InPair, InPin, InNamedPin, InPins, InOne, InInst, InItem, InGen, InOther, InItems, InParPort, InPort, InModule, InPart, Within}
use Rattle.sv_places.proofs.SpelledExprs.{Has, Gives, Passes, past_mark, past_key, key_in, name_in, names_in, first_in, maybe_in, each_in, commas_in, label_in, label_of_in, expr_in}
use Rattle.sv_places.proofs.SpelledForms.{past_net, given_in, type_in, typedef_in, par_port_in, param_in, port_in}
use Rattle.sv_places.proofs.SpelledStmts.{target_in, step_in, block_name_in, block_in}

module _ (P : Place → Type 0) where
  pair_in : (p : AssignPair) → Gives P (SpellsPair p) (InPair P p)
  pair_in p i o h k =
      let s0 = target_in P p.target i h.0 h.1 k in
      let s1 = given_in P p.value h.0 o h.2 s0.1 in
      ((s0.0, s1.0), s1.1)

  -- ---- instances

  pin_in : (x : Pin) → Gives P (SpellsPin x) (InPin P x)
  pin_in pin.Same i o h k = (tt, subst (Has P) h k)
  pin_in pin.Open i o h k =
      let s0 = past_mark P (codes "(") i h.0 h.1 k in
      let s1 = past_mark P (codes ")") h.0 o h.2 s0 in
      (tt, s1)
  pin_in (pin.Given x) i o h k =
      let s0 = past_mark P (codes "(") i h.0 h.1 k in
      let s1 = expr_in P x 0 h.0 h.2.0 h.2.1 s0 in
      let s2 = past_mark P (codes ")") h.2.0 o h.2.2 s1.1 in
      (s1.0, s2)

  named_in : (p : NamedPin) → Gives P (SpellsNamed p) (InNamedPin P p)
  named_in p i o h k =
      let s0 = past_mark P (codes ".") i h.0 h.1 k in
      let s1 = name_in P p.name h.0 h.2.0 h.2.1 s0 in
      let s2 = pin_in p.pin h.2.0 o h.2.2 s1.1 in
      ((s1.0, s2.0), s2.1)

  pins_in : (x : Pins) → Gives P (SpellsPins x) (InPins P x)
  pins_in (pins.Named all) = commas_in P SpellsNamed (InNamedPin P) named_in all
  pins_in (pins.Ordered all) = commas_in P (Spells 0) (InExpr P) (λ y. expr_in P y 0) all

  one_in : (x : One) → Gives P (SpellsOne x) (InOne P x)
  one_in x i o h k =
      let s0 = name_in P x.name i h.0 h.1 k in
      let s1 = past_mark P (codes "(") h.0 h.2.0 h.2.1 s0.1 in
      let s2 = maybe_in P SpellsPins (InPins P) pins_in x.pins h.2.0 h.2.2.0 h.2.2.1 s1 in
      let s3 = past_mark P (codes ")") h.2.2.0 o h.2.2.2 s2.1 in
      ((s0.0, s2.0), s3)

  some_in : (p : Option Pins) → Gives P (SpellsGiven p) (IfSome p (InPins P))
  some_in p i o h k =
      let s0 = past_mark P (codes "#") i h.0 h.1 k in
      let s1 = past_mark P (codes "(") h.0 h.2.0 h.2.1 s0 in
      let s2 = maybe_in P SpellsPins (InPins P) pins_in p h.2.0 h.2.2.0 h.2.2.1 s1 in
      let s3 = past_mark P (codes ")") h.2.2.0 o h.2.2.2 s2.1 in
      (s2.0, s3)

  inst_in : (x : InstTree) → Gives P (SpellsInst x) (InInst P x)
  inst_in x i o h k =
      let s0 = name_in P x.of_module i h.0 h.1 k in
      let s1 = maybe_in P SpellsGiven (λ p. IfSome p (InPins P)) some_in x.params h.0 h.2.0 h.2.1 s0.1 in
      let s2 = commas_in P SpellsOne (InOne P) one_in x.list h.2.0 h.2.2.0 h.2.2.1 s1.1 in
      let s3 = past_mark P (codes ";") h.2.2.0 o h.2.2.2 s2.1 in
      ((s0.0, s1.0, s2.0), s3)

  -- ---- items

  past_genvar : (b : Bool) → Passes P (genvar_if b)
  past_genvar true i o h k = past_key P (codes "genvar") i o h k
  past_genvar false i o h k = subst (Has P) h k

  mutual
    item_in : (x : Item) → Gives P (SpellsItem x) (InItem P x)
    item_in (Net w t names) i o h k =
        let s0 = past_net P w i h.0 h.1 k in
        let s1 = maybe_in P SpellsType (InType P) (type_in P) t h.0 h.2.0 h.2.1 s0 in
        let s2 = names_in P names h.2.0 h.2.2.0 h.2.2.1 s1.1 in
        let s3 = past_mark P (codes ";") h.2.2.0 o h.2.2.2 s2.1 in
        ((s1.0, s2.0), s3)
    item_in (Variable t names) i o h k =
        let s0 = type_in P t i h.0 h.1 k in
        let s1 = names_in P names h.0 h.2.0 h.2.1 s0.1 in
        let s2 = past_mark P (codes ";") h.2.0 o h.2.2 s1.1 in
        ((s0.0, s1.0), s2)
    item_in (Typedef d) i o h k = typedef_in P d i o h k
    item_in (Param p) i o h k = param_in P p i o h k
    item_in (Genvar names) i o h k =
        let s0 = past_key P (codes "genvar") i h.0 h.1 k in
        let s1 = names_in P names h.0 h.2.0 h.2.1 s0 in
        let s2 = past_mark P (codes ";") h.2.0 o h.2.2 s1.1 in
        (s1.0, s2)
    item_in (Assign all) i o h k =
        let s0 = past_key P (codes "assign") i h.0 h.1 k in
        let s1 = commas_in P SpellsPair (InPair P) pair_in all h.0 h.2.0 h.2.1 s0 in
        let s2 = past_mark P (codes ";") h.2.0 o h.2.2 s1.1 in
        (s1.0, s2)
    item_in (Always b) i o h k = block_in P b i o h k
    item_in (Inst x) i o h k = inst_in x i o h k
    item_in (For' p header v start test next r (more_of-Gen x end_of-Gen)) i o h k =
        let s0 = key_in P (codes "for") p i h.0 h.1 k in
        let s1 = past_mark P (codes "(") h.0 h.2.0 h.2.1 s0.1 in
        let s2 = past_genvar header h.2.0 h.2.2.0 h.2.2.1 s1 in
        let s3 = name_in P v h.2.2.0 h.2.2.2.0 h.2.2.2.1 s2 in
        let s4 = past_mark P (codes "=") h.2.2.2.0 h.2.2.2.2.0 h.2.2.2.2.1 s3.1 in
        let s5 = expr_in P start 0 h.2.2.2.2.0 h.2.2.2.2.2.0 h.2.2.2.2.2.1 s4 in
        let s6 = past_mark P (codes ";") h.2.2.2.2.2.0 h.2.2.2.2.2.2.0 h.2.2.2.2.2.2.1 s5.1 in
        let s7 = expr_in P test 0 h.2.2.2.2.2.2.0 h.2.2.2.2.2.2.2.0 h.2.2.2.2.2.2.2.1 s6 in
        let s8 = past_mark P (codes ";") h.2.2.2.2.2.2.2.0 h.2.2.2.2.2.2.2.2.0 h.2.2.2.2.2.2.2.2.1 s7.1 in
        let s9 = step_in P v next h.2.2.2.2.2.2.2.2.0 h.2.2.2.2.2.2.2.2.2.0 h.2.2.2.2.2.2.2.2.2.1 s8 in
        let s10 = past_mark P (codes ")") h.2.2.2.2.2.2.2.2.2.0 h.2.2.2.2.2.2.2.2.2.2.0 h.2.2.2.2.2.2.2.2.2.2.1 s9.1 in
        let s11 = gen_in x h.2.2.2.2.2.2.2.2.2.2.0 o h.2.2.2.2.2.2.2.2.2.2.2 s10 in
        ((s0.0, s3.0, s5.0, s7.0, s9.0, s11.0), s11.1)
    item_in (If' p c r (more_of-Gen x end_of-Gen) other) i o h k =
        let s0 = key_in P (codes "if") p i h.0 h.1 k in
        let s1 = past_mark P (codes "(") h.0 h.2.0 h.2.1 s0.1 in
        let s2 = expr_in P c 0 h.2.0 h.2.2.0 h.2.2.1 s1 in
        let s3 = past_mark P (codes ")") h.2.2.0 h.2.2.2.0 h.2.2.2.1 s2.1 in
        let s4 = gen_in x h.2.2.2.0 h.2.2.2.2.0 h.2.2.2.2.1 s3 in
        let s5 = other_in _ other h.2.2.2.2.0 o h.2.2.2.2.2 s4.1 in
        ((s0.0, s2.0, s4.0, s5.0), s5.1)
    item_in (Generate' s all) i o h k =
        let s0 = past_key P (codes "generate") i h.0 h.1 k in
        let s1 = items_in all h.0 h.2.0 h.2.1 s0 in
        let s2 = past_key P (codes "endgenerate") h.2.0 o h.2.2 s1.1 in
        (s1.0, s2)

    gen_in : (x : Gen) → Gives P (SpellsGen x) (InGen P x)
    gen_in (Block' p b s all e) i o h k =
        let s0 = key_in P (codes "begin") p i h.0 h.1 k in
        let s1 = maybe_in P block_name (InWord P) (block_name_in P) b h.0 h.2.0 h.2.1 s0.1 in
        let s2 = items_in all h.2.0 h.2.2.0 h.2.2.1 s1.1 in
        let s3 = past_key P (codes "end") h.2.2.0 h.2.2.2.0 h.2.2.2.1 s2.1 in
        let s4 = label_of_in P b e h.2.2.2.0 o h.2.2.2.2 s3 in
        ((s0.0, s1.0, s2.0, s4.0), s4.1)
    gen_in (Single' p r (more_of-Item x end_of-Item)) i o h k =
        let s0 = item_in x i o h.1 k in
        ((first_in P p i h.0 k, s0.0), s0.1)

    other_in : (closed : Bool) (x : Held-Item-If-3) → Gives P (SpellsElse closed x) (InOther P x)
    other_in closed None' i o h k = (tt, subst (Has P) h k)
    other_in closed (Some' r (more_of-Gen x end_of-Gen)) i o h k =
        let s0 = past_key P (codes "else") i h.1.0 h.1.1 k in
        let s1 = gen_in x h.1.0 o h.1.2 s0 in
        (s1.0, s1.1)

    items_in : {m : Count} (all : Row_of-Item m) → Gives P (SpellsItems all) (InItems P all)
    items_in end_of-Item i o h k = (tt, subst (Has P) h k)
    items_in (more_of-Item x all) i o h k =
        let s0 = item_in x i h.0 h.1 k in
        let s1 = items_in all h.0 o h.2 s0.1 in
        ((s0.0, s1.0), s1.1)

  -- ---- modules

  params_in : (all : List ParPort) → Gives P (SpellsParams all) (Each (InParPort P) all)
  params_in [] i o h k = (tt, subst (Has P) h k)
  params_in (p ∷ more) i o h k =
      let s0 = past_mark P (codes "#") i h.0 h.1 k in
      let s1 = past_mark P (codes "(") h.0 h.2.0 h.2.1 s0 in
      let s2 = commas_in P SpellsParPort (InParPort P) (par_port_in P) (p ∷ more) h.2.0 h.2.2.0 h.2.2.1 s1 in
      let s3 = past_mark P (codes ")") h.2.2.0 o h.2.2.2 s2.1 in
      (s2.0, s3)

  port_list_in : (all : List Port) → Gives P (port_list all) (Each (InPort P) all)
  port_list_in [] i o h k = (tt, subst (Has P) h k)
  port_list_in (p ∷ more) i o h k = commas_in P SpellsPort (InPort P) (port_in P) (p ∷ more) i o h k

  ports_in : (all : List Port) → Gives P (SpellsPorts all) (Each (InPort P) all)
  ports_in all i o h k =
      let s0 = past_mark P (codes "(") i h.1.0 h.1.1 k in
      let s1 = port_list_in all h.1.0 h.1.2.0 h.1.2.1 s0 in
      let s2 = past_mark P (codes ")") h.1.2.0 o h.1.2.2 s1.1 in
      (s1.0, s2)

  module_in : (m : Module) → Gives P (SpellsModule m) (InModule P m)
  module_in m i o h k =
      let s0 = past_key P (codes "module") i h.0 h.1 k in
      let s1 = name_in P m.name h.0 h.2.0 h.2.1 s0 in
      let s2 = params_in m.params h.2.0 h.2.2.0 h.2.2.1 s1.1 in
      let s3 = maybe_in P SpellsPorts (Each (InPort P)) ports_in m.ports h.2.2.0 h.2.2.2.0 h.2.2.2.1 s2.1 in
      let s4 = past_mark P (codes ";") h.2.2.2.0 h.2.2.2.2.0 h.2.2.2.2.1 s3.1 in
      let s5 = each_in P SpellsItem (InItem P) item_in m.items h.2.2.2.2.0 h.2.2.2.2.2.0 h.2.2.2.2.2.1 s4 in
      let s6 = past_key P (codes "endmodule") h.2.2.2.2.2.0 h.2.2.2.2.2.2.0 h.2.2.2.2.2.2.1 s5.1 in
      let s7 = label_in P m.name m.label h.2.2.2.2.2.2.0 o h.2.2.2.2.2.2.2 s6 in
      ((s1.0, s2.0, s3.0, s5.0, s7.0), s7.1)

  part_in : (x : SourcePart) → Gives P (SpellsPart x) (InPart P x)
  part_in (source_part.Module m) i o h k = module_in m i o h k
  part_in (source_part.Typedef d) i o h k = typedef_in P d i o h k
  part_in (source_part.Param p) i o h k = param_in P p i o h k

  pub source_in : (x : Source) (tokens : List Token) → SpellsSource x tokens [] → Has P tokens → Within P x
  source_in x tokens h k = (each_in P SpellsPart (InPart P) part_in x.parts tokens [] h k).0
