-- The grammar of modules and their items (A.1, A.2.1, A.4, A.6.1).
use Rattle.std.specs.Prelude.{◌≡◌, Bool, true, false, List, [], ◌∷◌, codes, Option, Some, None}
use mathlib.Core.Former.{Count}
use Rattle.sv_tree.specs.declared.design.AssignPair.{AssignPair}
use Rattle.sv_tree.specs.declared.design.ParPort.{ParPort}
use Rattle.sv_tree.specs.declared.design.Port.{Port}
use Rattle.sv_tree.specs.declared.design.Pin.{Pin}
use Rattle.sv_tree.specs.declared.design.Pin.TheVariants as pin
use Rattle.sv_tree.specs.declared.design.NamedPin.{NamedPin}
use Rattle.sv_tree.specs.declared.design.Pins.{Pins}
use Rattle.sv_tree.specs.declared.design.Pins.TheVariants as pins
use Rattle.sv_tree.specs.declared.design.One.{One}
use Rattle.sv_tree.specs.declared.design.Inst.{Inst as InstTree}
use Rattle.sv_tree.specs.declared.design.Item.{Item, Net, Variable, Typedef, Param, Genvar, Assign, Always, Inst, For', If', Generate', Row_of-Item, end_of-Item, more_of-Item, end_of-Gen, more_of-Gen, Held-Item-If-3, None', Some'}
use Rattle.sv_tree.specs.declared.design.Gen.{Gen, Block', Single'}
use Rattle.sv_tree.specs.declared.design.Module.{Module}
use Rattle.sv_tree.specs.declared.design.SourcePart.{SourcePart}
use Rattle.sv_tree.specs.declared.design.SourcePart.TheVariants as source_part
use Rattle.sv_tree.specs.declared.design.Source.{Source}
use Rattle.sv_tree.specs.Spelling.{Spelled, nothing, ◌⨟◌, first_at, when, mark, key, key_at, name, maybe, each, commas, label, label_of}
use Rattle.sv_tree.specs.GrammarExprs.{Spells}
use Rattle.sv_tree.specs.GrammarForms.{SpellsType, SpellsTypedef, SpellsParPort, SpellsParam, SpellsPort, net_key, given}
use Rattle.sv_tree.specs.GrammarStmts.{is_closed as is_closed_stmt, SpellsLvalue, SpellsStep, SpellsBlock, block_name}

abbrev pub SpellsPair : AssignPair → Spelled
SpellsPair p = SpellsLvalue p.target ⨟ given p.value

-- ---- instances

abbrev pub SpellsPin : Pin → Spelled
SpellsPin pin.Same = nothing
SpellsPin pin.Open = mark (codes "(") ⨟ mark (codes ")")
SpellsPin (pin.Given x) = mark (codes "(") ⨟ Spells 0 x ⨟ mark (codes ")")

abbrev pub SpellsNamed : NamedPin → Spelled
SpellsNamed p = mark (codes ".") ⨟ name p.name ⨟ SpellsPin p.pin

abbrev pub SpellsPins : Pins → Spelled
SpellsPins (pins.Named all) = commas SpellsNamed all
SpellsPins (pins.Ordered all) = commas (Spells 0) all

abbrev pub SpellsOne : One → Spelled
SpellsOne o = name o.name ⨟ mark (codes "(") ⨟ maybe SpellsPins o.pins ⨟ mark (codes ")")

abbrev pub SpellsGiven : Option Pins → Spelled
SpellsGiven p = mark (codes "#") ⨟ mark (codes "(") ⨟ maybe SpellsPins p ⨟ mark (codes ")")

abbrev pub SpellsInst : InstTree → Spelled
SpellsInst i = name i.of_module ⨟ maybe SpellsGiven i.params ⨟ commas SpellsOne i.list ⨟ mark (codes ";")

-- ---- items

abbrev pub genvar_if : Bool → Spelled
genvar_if true = key (codes "genvar")
genvar_if false = nothing

-- An `if` with no `else` at its end would take one that follows, also one in a block.
abbrev mutual
  pub is_closed : Item → Bool
  is_closed (For' p header v start test next r (more_of-Gen x end_of-Gen)) = is_closed_gen x
  is_closed (If' p c r (more_of-Gen x end_of-Gen) other) = is_closed_else other
  is_closed (Always b) = is_closed_stmt b.body
  is_closed x = true

  pub is_closed_gen : Gen → Bool
  is_closed_gen (Block' p b s all e) = true
  is_closed_gen (Single' p r (more_of-Item x end_of-Item)) = is_closed x

  pub is_closed_else : Held-Item-If-3 → Bool
  is_closed_else None' = false
  is_closed_else (Some' r (more_of-Gen x end_of-Gen)) = is_closed_gen x

abbrev mutual
  pub SpellsItem : Item → Spelled
  SpellsItem (Net w t names) = net_key w ⨟ maybe SpellsType t ⨟ commas name names ⨟ mark (codes ";")
  SpellsItem (Variable t names) = SpellsType t ⨟ commas name names ⨟ mark (codes ";")
  SpellsItem (Typedef d) = SpellsTypedef d
  SpellsItem (Param p) = SpellsParam p
  SpellsItem (Genvar names) = key (codes "genvar") ⨟ commas name names ⨟ mark (codes ";")
  SpellsItem (Assign all) = key (codes "assign") ⨟ commas SpellsPair all ⨟ mark (codes ";")
  SpellsItem (Always b) = SpellsBlock b
  SpellsItem (Inst i) = SpellsInst i
  SpellsItem (For' p header v start test next r (more_of-Gen x end_of-Gen)) =
      key_at (codes "for") p ⨟ mark (codes "(") ⨟ genvar_if header ⨟ name v ⨟ mark (codes "=") ⨟ Spells 0 start ⨟ mark (codes ";") ⨟ Spells 0 test ⨟ mark (codes ";")
      ⨟ SpellsStep v next ⨟ mark (codes ")") ⨟ SpellsGen x
  SpellsItem (If' p c r (more_of-Gen x end_of-Gen) other) =
      key_at (codes "if") p ⨟ mark (codes "(") ⨟ Spells 0 c ⨟ mark (codes ")") ⨟ SpellsGen x ⨟ SpellsElse (is_closed_gen x) other
  SpellsItem (Generate' s all) = key (codes "generate") ⨟ SpellsItems all ⨟ key (codes "endgenerate")

  pub SpellsGen : Gen → Spelled
  SpellsGen (Block' p b s all e) = key_at (codes "begin") p ⨟ maybe block_name b ⨟ SpellsItems all ⨟ key (codes "end") ⨟ label_of b e
  SpellsGen (Single' p r (more_of-Item x end_of-Item)) = first_at p (SpellsItem x)

  -- An `else` belongs to the nearest `if`.
  pub SpellsElse : Bool → Held-Item-If-3 → Spelled
  SpellsElse closed None' = nothing
  SpellsElse closed (Some' r (more_of-Gen x end_of-Gen)) = when (closed ≡ true) (key (codes "else") ⨟ SpellsGen x)

  pub SpellsItems : {m : Count} → Row_of-Item m → Spelled
  SpellsItems end_of-Item = nothing
  SpellsItems (more_of-Item x all) = SpellsItem x ⨟ SpellsItems all

-- ---- modules

abbrev pub SpellsParams : List ParPort → Spelled
SpellsParams [] = nothing
SpellsParams all = mark (codes "#") ⨟ mark (codes "(") ⨟ commas SpellsParPort all ⨟ mark (codes ")")

-- The first port has a direction.
abbrev pub HasWay : List Port → Type 0
HasWay [] = Unit {0}
HasWay (p ∷ more) = is_given p.way ≡ true
  where
    is_given : {A : Type 0} → Option A → Bool
    is_given None = false
    is_given (Some x) = true

abbrev pub port_list : List Port → Spelled
port_list [] = nothing
port_list all = commas SpellsPort all

abbrev pub SpellsPorts : List Port → Spelled
SpellsPorts all = when (HasWay all) (mark (codes "(") ⨟ port_list all ⨟ mark (codes ")"))

abbrev pub SpellsModule : Module → Spelled
SpellsModule m =
    key (codes "module") ⨟ name m.name ⨟ SpellsParams m.params ⨟ maybe SpellsPorts m.ports ⨟ mark (codes ";")
    ⨟ each SpellsItem m.items ⨟ key (codes "endmodule") ⨟ label m.name m.label

abbrev pub SpellsPart : SourcePart → Spelled
SpellsPart (source_part.Module m) = SpellsModule m
SpellsPart (source_part.Typedef d) = SpellsTypedef d
SpellsPart (source_part.Param p) = SpellsParam p

-- the whole text
abbrev pub SpellsSource : Source → Spelled
SpellsSource s = each SpellsPart s.parts
