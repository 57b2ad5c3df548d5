-- Modules and their items take one token for each entry of their depths.
use Rattle.std.proofs.Common.{◌≡◌, ℕ, Bool, true, false, ◌++◌, length, codes, Option, Some, None, length-append, arith}
use Rattle.std.proofs.lemmas.List.{length-map}
use Rattle.sv_tree.specs.declared.forms.Typedef.{Typedef as TypedefTree}
use Rattle.sv_tree.specs.declared.stmts.Edge.{Edge}
use Rattle.sv_tree.specs.declared.stmts.Edge.TheVariants as edge
use Rattle.sv_tree.specs.declared.stmts.Event.{Event}
use Rattle.sv_tree.specs.declared.stmts.EventMark.{EventMark}
use Rattle.sv_tree.specs.declared.stmts.EventMark.TheVariants as event_mark
use Rattle.sv_tree.specs.declared.stmts.NextEvent.{NextEvent}
use Rattle.sv_tree.specs.declared.stmts.Events.{Events}
use Rattle.sv_tree.specs.declared.stmts.BlockKind.{BlockKind}
use Rattle.sv_tree.specs.declared.stmts.BlockKind.TheVariants as kind
use Rattle.sv_tree.specs.declared.stmts.Block.{Block}
use Rattle.sv_tree.specs.declared.design.ParamType.{ParamType}
use Rattle.sv_tree.specs.declared.design.ParamType.TheVariants as param_type
use Rattle.sv_tree.specs.declared.design.ParamWord.{ParamWord}
use Rattle.sv_tree.specs.declared.design.ParamWord.TheVariants as param_word
use Rattle.sv_tree.specs.declared.design.ParamBits.{ParamBits}
use Rattle.sv_tree.specs.declared.design.ParamBits.TheVariants as param_bits
use Rattle.sv_tree.specs.declared.exprs.Sign.{Sign}
use Rattle.sv_tree.specs.declared.forms.Range.{Range}
use Rattle.sv_tree.specs.declared.design.ParPort.{ParPort}
use Rattle.sv_tree.specs.declared.design.ParamItem.{ParamItem}
use Rattle.sv_tree.specs.declared.design.Param.{Param as ParamTree}
use Rattle.sv_tree.specs.declared.design.Way.{Way}
use Rattle.sv_tree.specs.declared.design.Way.TheVariants as way
use Rattle.sv_tree.specs.declared.design.NetWord.{NetWord}
use Rattle.sv_tree.specs.declared.design.NetWord.TheVariants as net_word
use Rattle.sv_tree.specs.declared.design.Port.{Port}
use Rattle.sv_tree.specs.declared.design.AssignPair.{AssignPair}
use Rattle.sv_tree.specs.declared.design.Pin.{Pin}
use Rattle.sv_tree.specs.declared.design.Pin.TheVariants as pin
use Rattle.sv_tree.specs.declared.design.NamedPin.{NamedPin}
use Rattle.sv_tree.specs.declared.design.Pins.{Pins}
use Rattle.sv_tree.specs.declared.design.Pins.TheVariants as pins
use Rattle.sv_tree.specs.declared.design.One.{One}
use Rattle.sv_tree.specs.declared.design.Inst.{Inst as InstTree}
use Rattle.sv_tree.specs.declared.design.Item.{Item, Net, Variable, Typedef, Param, Genvar, Assign, Always, Inst, For', If', Generate', Row_of-Item, end_of-Item, more_of-Item, end_of-Gen, more_of-Gen, Held-Item-If-3, None', Some'}
use Rattle.sv_tree.specs.declared.design.Gen.{Gen, Block', Single'}
use Rattle.sv_tree.specs.Spelling.{Spelled, ◌⨟◌, first_at, maybe}
use Rattle.sv_tree.specs.GrammarExprs.{Spells}
use Rattle.sv_tree.specs.GrammarForms.{sign_key, SpellsRange, SpellsType, SpellsTypedef, param_bits_key, param_key, SpellsParamType, SpellsParPort, SpellsParamItem, SpellsParam, way_key, net_key, SpellsPort}
use Rattle.sv_tree.specs.GrammarStmts.{edge_key, SpellsEvent, SpellsEventMark, SpellsNextEvent, SpellsEvents, SpellsKind, SpellsBlock, block_name}
use Rattle.sv_tree.specs.GrammarDesign.{SpellsPair, SpellsPin, SpellsNamed, SpellsPins, SpellsOne, SpellsGiven, SpellsInst, genvar_if, is_closed_gen, SpellsItem, SpellsGen, SpellsElse, SpellsItems}
use Rattle.sv_tree.specs.Nesting.{Depths, in_generate, if_given, word_depths, label_depths, expr_depths}
use Rattle.sv_tree.specs.NestingDesign.{range_depths, type_depths, typedef_depths, param_type_depths, par_port_depths, param_item_depths, param_depths, port_depths, if_true, event_depths, next_event_depths, events_depths, kind_depths, block_depths, pair_depths, pin_depths, named_depths, pins_depths, one_depths, override_depths, inst_depths, item_depths, gen_depths, other_depths, items_depths}
use Rattle.sv_tree.proofs.Counted.{Counted, counted_as, ◌⋈◌, counted_token, counted_nothing, counted_never, counted_when, counted_mark, counted_key, counted_key_at, counted_name, counted_expr, counted_maybe, counted_each, counted_commas, counted_names, counted_sign, counted_whole, counted_range, counted_given, counted_type, counted_lvalue, counted_step, counted_stmt, counted_block_name, counted_label_of}

pub counted_typedef : (d : TypedefTree) → Counted (SpellsTypedef d) (length (typedef_depths d))
counted_typedef d = counted_as _ (simp length-append (omega arith)) (counted_key (codes "typedef") ⋈ counted_type d.form ⋈ counted_name d.name ⋈ counted_mark (codes ";"))

-- ---- parameters and ports

counted_param_bits : (w : ParamBits) → Counted (param_bits_key w) 1
counted_param_bits param_bits.Bit = counted_token _
counted_param_bits param_bits.Logic = counted_token _
counted_param_bits param_bits.Reg = counted_token _

counted_param_key : (w : ParamWord) → Counted (param_key w) 1
counted_param_key param_word.Parameter = counted_token _
counted_param_key param_word.Localparam = counted_token _

counted_bits_type : (w : Option ParamBits) (s : Option Sign) (r : Option Range)
    → Counted (maybe param_bits_key w ⨟ maybe sign_key s ⨟ maybe SpellsRange r) (length (if_given word_depths w ++ if_given word_depths s ++ if_given range_depths r))
counted_bits_type w s r =
    counted_as _ (simp length-append (omega arith))
    (counted_maybe param_bits_key word_depths counted_param_bits w ⋈ counted_maybe sign_key word_depths counted_sign s ⋈ counted_maybe SpellsRange range_depths counted_range r)

pub counted_param_type : (t : ParamType) → Counted (SpellsParamType t) (length (param_type_depths t))
counted_param_type (param_type.Whole w s) = counted_as _ (omega arith) (counted_whole w ⋈ counted_maybe sign_key word_depths counted_sign s)
counted_param_type (param_type.Bits None None None) = counted_never _
counted_param_type (param_type.Bits None None (Some r)) = counted_bits_type None None (Some r)
counted_param_type (param_type.Bits None (Some s) r) = counted_bits_type None (Some s) r
counted_param_type (param_type.Bits (Some w) s r) = counted_bits_type (Some w) s r

pub counted_par_port : (p : ParPort) → Counted (SpellsParPort p) (length (par_port_depths p))
counted_par_port p =
    counted_as _ (simp length-append (omega arith))
    (counted_maybe param_key word_depths counted_param_key p.word ⋈ counted_maybe SpellsParamType param_type_depths counted_param_type p.form ⋈ counted_name p.name ⋈ counted_given p.value)

pub counted_param_item : (x : ParamItem) → Counted (SpellsParamItem x) (length (param_item_depths x))
counted_param_item x = counted_as _ (simp length-append (omega arith)) (counted_name x.name ⋈ counted_given x.value)

pub counted_param : (p : ParamTree) → Counted (SpellsParam p) (length (param_depths p))
counted_param p =
    counted_as _ (simp length-append (omega arith))
    (counted_param_key p.word ⋈ counted_maybe SpellsParamType param_type_depths counted_param_type p.form ⋈ counted_commas SpellsParamItem param_item_depths counted_param_item p.list ⋈ counted_mark (codes ";"))

counted_way : (w : Way) → Counted (way_key w) 1
counted_way way.Input = counted_token _
counted_way way.Output = counted_token _
counted_way way.Inout = counted_token _

pub counted_net : (w : NetWord) → Counted (net_key w) 1
counted_net net_word.Wire = counted_token _
counted_net net_word.Tri = counted_token _

pub counted_port : (p : Port) → Counted (SpellsPort p) (length (port_depths p))
counted_port p =
    counted_as _ (simp length-append (omega arith))
    (counted_maybe way_key word_depths counted_way p.way ⋈ counted_maybe net_key word_depths counted_net p.kind ⋈ counted_maybe SpellsType type_depths counted_type p.form ⋈ counted_name p.name)

-- ---- blocks

counted_edge : (e : Edge) → Counted (edge_key e) 1
counted_edge edge.Pos = counted_token _
counted_edge edge.Neg = counted_token _

pub counted_event : (e : Event) → Counted (SpellsEvent e) (length (event_depths e))
counted_event e = counted_as _ (omega arith) (counted_edge e.edge ⋈ counted_name e.name)

pub counted_event_mark : (m : EventMark) → Counted (SpellsEventMark m) 1
counted_event_mark event_mark.Or = counted_token _
counted_event_mark event_mark.Comma = counted_token _

pub counted_next_event : (e : NextEvent) → Counted (SpellsNextEvent e) (length (next_event_depths e))
counted_next_event e = counted_as _ (omega arith) (counted_event_mark e.mark ⋈ counted_event e.event)

pub counted_events : (all : Events) → Counted (SpellsEvents all) (length (events_depths all))
counted_events all =
    counted_as _ (simp length-append (omega arith))
    (counted_mark (codes "@") ⋈ counted_mark (codes "(") ⋈ counted_event all.first ⋈ counted_each SpellsNextEvent next_event_depths counted_next_event all.more ⋈ counted_mark (codes ")"))

pub counted_kind : (k : BlockKind) → Counted (SpellsKind k) (length (kind_depths k))
counted_kind kind.Comb = counted_token _
counted_kind kind.Latch = counted_token _
counted_kind (kind.Ff all) = counted_as _ (simp length-append (omega arith)) (counted_key (codes "always_ff") ⋈ counted_events all)
counted_kind (kind.Always all) = counted_as _ (simp length-append (omega arith)) (counted_key (codes "always") ⋈ counted_events all)
counted_kind kind.Star = counted_as _ (omega arith) (counted_key (codes "always") ⋈ counted_mark (codes "@") ⋈ counted_mark (codes "*"))
counted_kind kind.StarParen =
    counted_as _ (omega arith) (counted_key (codes "always") ⋈ counted_mark (codes "@") ⋈ counted_mark (codes "(") ⋈ counted_mark (codes "*") ⋈ counted_mark (codes ")"))

pub counted_block : (b : Block) → Counted (SpellsBlock b) (length (block_depths b))
counted_block b = counted_as _ (simp length-append (omega arith)) (counted_kind b.kind ⋈ counted_stmt b.body)

-- ---- instances

pub counted_pair : (p : AssignPair) → Counted (SpellsPair p) (length (pair_depths p))
counted_pair p = counted_as _ (simp length-append (omega arith)) (counted_lvalue p.target ⋈ counted_given p.value)

pub counted_pin : (p : Pin) → Counted (SpellsPin p) (length (pin_depths p))
counted_pin pin.Same = counted_nothing
counted_pin pin.Open = counted_as _ (omega arith) (counted_mark (codes "(") ⋈ counted_mark (codes ")"))
counted_pin (pin.Given x) = counted_as _ (simp length-append (omega arith)) (counted_mark (codes "(") ⋈ counted_expr 0 x ⋈ counted_mark (codes ")"))

pub counted_named : (p : NamedPin) → Counted (SpellsNamed p) (length (named_depths p))
counted_named p = counted_as _ (simp length-append (omega arith)) (counted_mark (codes ".") ⋈ counted_name p.name ⋈ counted_pin p.pin)

pub counted_pins : (p : Pins) → Counted (SpellsPins p) (length (pins_depths p))
counted_pins (pins.Named all) = counted_commas SpellsNamed named_depths counted_named all
counted_pins (pins.Ordered all) = counted_commas (Spells 0) expr_depths (counted_expr 0) all

pub counted_one : (x : One) → Counted (SpellsOne x) (length (one_depths x))
counted_one x = counted_as _ (simp length-append (omega arith)) (counted_name x.name ⋈ counted_mark (codes "(") ⋈ counted_maybe SpellsPins pins_depths counted_pins x.pins ⋈ counted_mark (codes ")"))

pub counted_override : (p : Option Pins) → Counted (SpellsGiven p) (length (override_depths p))
counted_override p = counted_as _ (simp length-append (omega arith)) (counted_mark (codes "#") ⋈ counted_mark (codes "(") ⋈ counted_maybe SpellsPins pins_depths counted_pins p ⋈ counted_mark (codes ")"))

pub counted_inst : (x : InstTree) → Counted (SpellsInst x) (length (inst_depths x))
counted_inst x =
    counted_as _ (simp length-append (omega arith))
    (counted_name x.of_module ⋈ counted_maybe SpellsGiven override_depths counted_override x.params ⋈ counted_commas SpellsOne one_depths counted_one x.list ⋈ counted_mark (codes ";"))

-- ---- items

counted_genvar_if : (b : Bool) → Counted (genvar_if b) (length (if_true b))
counted_genvar_if true = counted_key (codes "genvar")
counted_genvar_if false = counted_nothing

counted_first_at : (p : _) {P : Spelled} {n : ℕ} → Counted P n → Counted (first_at p P) n
counted_first_at p c = record { count = λ i o h. c.count i o h.1; rest = λ i o h. c.rest i o h.1 }

pub length_in_generate : (d : Depths) → length (in_generate d) ≡ length d
unfolding in_generate
length_in_generate d = length-map d _

mutual
  unfolding item_depths

  pub counted_item : (x : Item) → Counted (SpellsItem x) (length (item_depths x))
  counted_item (Net w t names) = counted_as _ (simp length-append (omega arith)) (counted_net w ⋈ counted_maybe SpellsType type_depths counted_type t ⋈ counted_names names ⋈ counted_mark (codes ";"))
  counted_item (Variable t names) = counted_as _ (simp length-append (omega arith)) (counted_type t ⋈ counted_names names ⋈ counted_mark (codes ";"))
  counted_item (Typedef d) = counted_typedef d
  counted_item (Param p) = counted_param p
  counted_item (Genvar names) = counted_as _ (simp length-append (omega arith)) (counted_key (codes "genvar") ⋈ counted_names names ⋈ counted_mark (codes ";"))
  counted_item (Assign all) = counted_as _ (simp length-append (omega arith)) (counted_key (codes "assign") ⋈ counted_commas SpellsPair pair_depths counted_pair all ⋈ counted_mark (codes ";"))
  counted_item (Always b) = counted_block b
  counted_item (Inst i) = counted_inst i
  counted_item (For' p header v start test next r (more_of-Gen x end_of-Gen)) =
      counted_as _ (simp (length_in_generate, length-append) (omega arith))
      (counted_key_at (codes "for") p ⋈ counted_mark (codes "(") ⋈ counted_genvar_if header ⋈ counted_name v ⋈ counted_mark (codes "=") ⋈ counted_expr 0 start ⋈ counted_mark (codes ";") ⋈ counted_expr 0 test ⋈ counted_mark (codes ";")
      ⋈ counted_step v next ⋈ counted_mark (codes ")") ⋈ counted_gen x)
  counted_item (If' p c r (more_of-Gen x end_of-Gen) other) =
      counted_as _ (simp (length_in_generate, length-append) (omega arith))
      (counted_key_at (codes "if") p ⋈ counted_mark (codes "(") ⋈ counted_expr 0 c ⋈ counted_mark (codes ")") ⋈ counted_gen x ⋈ counted_other (is_closed_gen x) other)
  counted_item (Generate' s all) = counted_as _ (simp (length_in_generate, length-append) (omega arith)) (counted_key (codes "generate") ⋈ counted_items all ⋈ counted_key (codes "endgenerate"))

  pub counted_gen : (x : Gen) → Counted (SpellsGen x) (length (gen_depths x))
  counted_gen (Block' p b s all e) =
      counted_as _ (simp length-append (omega arith))
      (counted_key_at (codes "begin") p ⋈ counted_maybe block_name label_depths counted_block_name b ⋈ counted_items all ⋈ counted_key (codes "end") ⋈ counted_label_of b e)
  counted_gen (Single' p r (more_of-Item x end_of-Item)) = counted_first_at p (counted_item x)

  counted_other : (closed : Bool) (other : Held-Item-If-3) → Counted (SpellsElse closed other) (length (other_depths other))
  counted_other closed None' = counted_nothing
  counted_other closed (Some' r (more_of-Gen x end_of-Gen)) = counted_when (counted_as _ (omega arith) (counted_key (codes "else") ⋈ counted_gen x))

  counted_items : {m : _} (all : Row_of-Item m) → Counted (SpellsItems all) (length (items_depths all))
  counted_items end_of-Item = counted_nothing
  counted_items (more_of-Item x all) = counted_as _ (simp length-append (omega arith)) (counted_item x ⋈ counted_items all)
