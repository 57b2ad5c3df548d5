-- The places that a tree keeps: P holds of each. By cases on trees, as the grammar is: each production has the places of its own words and marks,
-- and those of its parts. Two laws hold these definitions in place. A tree that is spelled keeps places of its tokens alone, so they ask no more
-- than a text gives; and whatever stands against a tree stands at a place that it keeps, or where the text begins, so they leave none out.
use Rattle.std.specs.Prelude.{List, [], ◌∷◌, IfSome}
use mathlib.Core.Former.{Count}
use Rattle.sv_outside.specs.declared.refusal.Place.{Place}
use Rattle.sv_tree.specs.declared.word.Word.{Word}
use Rattle.sv_tree.specs.declared.exprs.Expr.{Expr, Literal, Name', Paren', Concat', Repeat', CastLiteral', CastName', CastParen', CastSign', System', Unary', Binary', Choose', Row_of-Expr, end_of-Expr, more_of-Expr, Row_of-Select, end_of-Select, more_of-Select}
use Rattle.sv_tree.specs.declared.exprs.Select.{Select, Member, Index', Range'}
use Rattle.sv_tree.specs.declared.forms.Range.{Range}
use Rattle.sv_tree.specs.declared.forms.EnumLabel.{EnumLabel}
use Rattle.sv_tree.specs.declared.forms.TypeTree.{TypeTree, Vector, Integer, Struct', Enum, Named, Row_of-Member, end_of-Member, more_of-Member}
use Rattle.sv_tree.specs.declared.forms.Member.{Member as MemberTree, Of', end_of-TypeTree, more_of-TypeTree}
use Rattle.sv_tree.specs.declared.forms.Typedef.{Typedef as TypedefTree}
use Rattle.sv_tree.specs.declared.stmts.Lvalue.{Lvalue, Name, Concat' as Targets', Row_of-Lvalue, end_of-Lvalue, more_of-Lvalue}
use Rattle.sv_tree.specs.declared.stmts.Step.{Step}
use Rattle.sv_tree.specs.declared.stmts.Step.TheVariants as step
use Rattle.sv_tree.specs.declared.stmts.Event.{Event}
use Rattle.sv_tree.specs.declared.stmts.Events.{Events}
use Rattle.sv_tree.specs.declared.stmts.BlockKind.{BlockKind}
use Rattle.sv_tree.specs.declared.stmts.BlockKind.TheVariants as kind
use Rattle.sv_tree.specs.declared.stmts.Block.{Block}
use Rattle.sv_tree.specs.declared.stmts.Stmt.{Stmt, Empty, Block', If', Case', For', Assign, Row_of-Stmt, end_of-Stmt, more_of-Stmt, Row_of-Arm, end_of-Arm, more_of-Arm, Held-Stmt-If-3, None', Some'}
use Rattle.sv_tree.specs.declared.stmts.Arm.{Labels', Default'}
use Rattle.sv_tree.specs.declared.design.ParamType.{ParamType}
use Rattle.sv_tree.specs.declared.design.ParamType.TheVariants as param_type
use Rattle.sv_tree.specs.declared.design.ParPort.{ParPort}
use Rattle.sv_tree.specs.declared.design.ParamItem.{ParamItem}
use Rattle.sv_tree.specs.declared.design.Param.{Param as ParamTree}
use Rattle.sv_tree.specs.declared.design.Port.{Port}
use Rattle.sv_tree.specs.declared.design.AssignPair.{AssignPair}
use Rattle.sv_tree.specs.declared.design.Pin.{Pin}
use Rattle.sv_tree.specs.declared.design.Pin.TheVariants as pin
use Rattle.sv_tree.specs.declared.design.NamedPin.{NamedPin}
use Rattle.sv_tree.specs.declared.design.Pins.{Pins}
use Rattle.sv_tree.specs.declared.design.Pins.TheVariants as pins
use Rattle.sv_tree.specs.declared.design.One.{One}
use Rattle.sv_tree.specs.declared.design.Inst.{Inst as InstTree}
use Rattle.sv_tree.specs.declared.design.Item.{Item, Net, Variable, Typedef, Param, Genvar, Assign as Assigns, Always, Inst, For' as Loop', If' as Condition', Generate', Row_of-Item, end_of-Item, more_of-Item, end_of-Gen, more_of-Gen, Held-Item-If-3, None' as NoElse', Some' as Else'}
use Rattle.sv_tree.specs.declared.design.Gen.{Gen, Block' as Begin', Single'}
use Rattle.sv_tree.specs.declared.design.Module.{Module}
use Rattle.sv_tree.specs.declared.design.SourcePart.{SourcePart}
use Rattle.sv_tree.specs.declared.design.SourcePart.TheVariants as source_part
use Rattle.sv_tree.specs.declared.design.Source.{Source}
use Rattle.sv_meaning.specs.Meanings.{nowhere_in_text}

-- Q of each element
abbrev pub Each : {A : Type 0} → (A → Type 0) → List A → Type 0
Each Q [] = Unit {0}
Each Q (x ∷ more) = Q x × Each Q more

module _ (P : Place → Type 0) where
  abbrev pub InWord : Word → Type 0
  InWord w = P w.place

  -- ---- expressions

  abbrev mutual
    pub InExpr : Expr → Type 0
    InExpr (Literal w) = InWord w
    InExpr (Name' w s all) = InWord w × InSelects all
    InExpr (Paren' p s (more_of-Expr x end_of-Expr)) = P p × InExpr x
    InExpr (Concat' p s all) = P p × InExprs all
    InExpr (Repeat' p r (more_of-Expr n end_of-Expr) s all) = P p × InExpr n × InExprs all
    InExpr (CastLiteral' w s (more_of-Expr x end_of-Expr)) = InWord w × InExpr x
    InExpr (CastName' w s (more_of-Expr x end_of-Expr)) = InWord w × InExpr x
    InExpr (CastParen' p r (more_of-Expr n end_of-Expr) s (more_of-Expr x end_of-Expr)) = P p × InExpr n × InExpr x
    InExpr (CastSign' g p s (more_of-Expr x end_of-Expr)) = P p × InExpr x
    InExpr (System' f p s (more_of-Expr x end_of-Expr)) = P p × InExpr x
    InExpr (Unary' op p s (more_of-Expr x end_of-Expr)) = P p × InExpr x
    InExpr (Binary' s (more_of-Expr x end_of-Expr) op p r (more_of-Expr y end_of-Expr)) = InExpr x × P p × InExpr y
    InExpr (Choose' s (more_of-Expr c end_of-Expr) r (more_of-Expr x end_of-Expr) q (more_of-Expr y end_of-Expr)) = InExpr c × InExpr x × InExpr y

    pub InExprs : {m : Count} → Row_of-Expr m → Type 0
    InExprs end_of-Expr = Unit {0}
    InExprs (more_of-Expr x all) = InExpr x × InExprs all

    pub InSelect : Select → Type 0
    InSelect (Member p w) = P p × InWord w
    InSelect (Index' p s (more_of-Expr x end_of-Expr)) = P p × InExpr x
    InSelect (Range' p s (more_of-Expr x end_of-Expr) m r (more_of-Expr y end_of-Expr)) = P p × InExpr x × InExpr y

    pub InSelects : {m : Count} → Row_of-Select m → Type 0
    InSelects end_of-Select = Unit {0}
    InSelects (more_of-Select x all) = InSelect x × InSelects all

  -- ---- types

  abbrev pub InRange : Range → Type 0
  InRange r = P r.place × InExpr r.left × InExpr r.right

  abbrev pub InLabel : EnumLabel → Type 0
  InLabel x = InWord x.name × IfSome x.value InExpr

  -- A structure without a member, or with members without a name, which no text spells, is refused at no place. It counts as keeping that.
  abbrev pub InNames : List Word → Type 0
  InNames [] = P nowhere_in_text
  InNames (w ∷ more) = InWord w × Each InWord more

  abbrev mutual
    pub InType : TypeTree → Type 0
    InType (Vector word s ranges) = Each InRange ranges
    InType Integer = Unit {0}
    InType (Struct' s r all ranges) = InMembers all × Each InRange ranges
    InType (Enum word s r all) = IfSome r InRange × Each InLabel all
    InType (Named w ranges) = InWord w × Each InRange ranges

    -- at least one
    pub InMembers : {m : Count} → Row_of-Member m → Type 0
    InMembers end_of-Member = P nowhere_in_text
    InMembers (more_of-Member x all) = InMember x × MoreIn all

    pub MoreIn : {m : Count} → Row_of-Member m → Type 0
    MoreIn end_of-Member = Unit {0}
    MoreIn (more_of-Member x all) = InMember x × MoreIn all

    pub InMember : MemberTree → Type 0
    InMember (Of' r (more_of-TypeTree t end_of-TypeTree) names) = InType t × InNames names

  abbrev pub InTypedef : TypedefTree → Type 0
  InTypedef d = InType d.form × InWord d.name

  -- ---- statements

  abbrev mutual
    pub InTarget : Lvalue → Type 0
    InTarget (Name w all) = InWord w × Each InSelect all
    InTarget (Targets' p s all) = P p × InTargets all

    pub InTargets : {m : Count} → Row_of-Lvalue m → Type 0
    InTargets end_of-Lvalue = Unit {0}
    InTargets (more_of-Lvalue x all) = InTarget x × InTargets all

  abbrev pub InStep : Step → Type 0
  InStep (step.After w m) = InWord w
  InStep (step.Before m w) = InWord w
  InStep (step.Assign w m x) = InWord w × InExpr x

  abbrev mutual
    pub InStmt : Stmt → Type 0
    InStmt Empty = Unit {0}
    InStmt (Block' p b s all e) = P p × IfSome b InWord × InStmts all × IfSome e InWord
    InStmt (If' u c r (more_of-Stmt x end_of-Stmt) other) = InExpr c × InStmt x × InElse other
    InStmt (Case' u word x s all) = InExpr x × InArms all
    InStmt (For' p form v start test next r (more_of-Stmt body end_of-Stmt)) = P p × InWord v × InExpr start × InExpr test × InStep next × InStmt body
    InStmt (Assign to m p x) = InTarget to × P p × InExpr x

    pub InElse : Held-Stmt-If-3 → Type 0
    InElse None' = Unit {0}
    InElse (Some' r (more_of-Stmt x end_of-Stmt)) = InStmt x

    pub InStmts : {m : Count} → Row_of-Stmt m → Type 0
    InStmts end_of-Stmt = Unit {0}
    InStmts (more_of-Stmt x all) = InStmt x × InStmts all

    pub InArms : {m : Count} → Row_of-Arm m → Type 0
    InArms end_of-Arm = Unit {0}
    InArms (more_of-Arm (Labels' xs r (more_of-Stmt x end_of-Stmt)) all) = Each InExpr xs × InStmt x × InArms all
    InArms (more_of-Arm (Default' colon r (more_of-Stmt x end_of-Stmt)) all) = InStmt x × InArms all

  abbrev pub InEvent : Event → Type 0
  InEvent e = InWord e.name

  abbrev pub InEvents : Events → Type 0
  InEvents all = InEvent all.first × Each (λ next. InEvent next.event) all.more

  abbrev pub InKind : BlockKind → Type 0
  InKind kind.Comb = Unit {0}
  InKind kind.Latch = Unit {0}
  InKind (kind.Ff all) = InEvents all
  InKind (kind.Always all) = InEvents all
  InKind kind.Star = Unit {0}
  InKind kind.StarParen = Unit {0}

  abbrev pub InBlock : Block → Type 0
  InBlock b = InKind b.kind × InStmt b.body

  -- ---- parameters, ports and instances

  abbrev pub InParamType : ParamType → Type 0
  InParamType (param_type.Whole word s) = Unit {0}
  InParamType (param_type.Bits word s r) = IfSome r InRange

  abbrev pub InParPort : ParPort → Type 0
  InParPort p = IfSome p.form InParamType × InWord p.name × InExpr p.value

  abbrev pub InParamItem : ParamItem → Type 0
  InParamItem i = InWord i.name × InExpr i.value

  abbrev pub InParam : ParamTree → Type 0
  InParam p = IfSome p.form InParamType × Each InParamItem p.list

  abbrev pub InPort : Port → Type 0
  InPort p = IfSome p.form InType × InWord p.name

  abbrev pub InPair : AssignPair → Type 0
  InPair p = InTarget p.target × InExpr p.value

  abbrev pub InPin : Pin → Type 0
  InPin pin.Same = Unit {0}
  InPin pin.Open = Unit {0}
  InPin (pin.Given x) = InExpr x

  abbrev pub InNamedPin : NamedPin → Type 0
  InNamedPin p = InWord p.name × InPin p.pin

  abbrev pub InPins : Pins → Type 0
  InPins (pins.Named all) = Each InNamedPin all
  InPins (pins.Ordered all) = Each InExpr all

  abbrev pub InOne : One → Type 0
  InOne o = InWord o.name × IfSome o.pins InPins

  abbrev pub InInst : InstTree → Type 0
  InInst i = InWord i.of_module × IfSome i.params (λ given. IfSome given InPins) × Each InOne i.list

  -- ---- items and modules

  abbrev mutual
    pub InItem : Item → Type 0
    InItem (Net word t names) = IfSome t InType × Each InWord names
    InItem (Variable t names) = InType t × Each InWord names
    InItem (Typedef d) = InTypedef d
    InItem (Param p) = InParam p
    InItem (Genvar names) = Each InWord names
    InItem (Assigns all) = Each InPair all
    InItem (Always b) = InBlock b
    InItem (Inst i) = InInst i
    InItem (Loop' p header v start test next r (more_of-Gen x end_of-Gen)) = P p × InWord v × InExpr start × InExpr test × InStep next × InGen x
    InItem (Condition' p c r (more_of-Gen x end_of-Gen) other) = P p × InExpr c × InGen x × InOther other
    InItem (Generate' s all) = InItems all

    pub InGen : Gen → Type 0
    InGen (Begin' p b s all e) = P p × IfSome b InWord × InItems all × IfSome e InWord
    InGen (Single' p r (more_of-Item x end_of-Item)) = P p × InItem x

    pub InOther : Held-Item-If-3 → Type 0
    InOther NoElse' = Unit {0}
    InOther (Else' r (more_of-Gen x end_of-Gen)) = InGen x

    pub InItems : {m : Count} → Row_of-Item m → Type 0
    InItems end_of-Item = Unit {0}
    InItems (more_of-Item x all) = InItem x × InItems all

  abbrev pub InModule : Module → Type 0
  InModule m = InWord m.name × Each InParPort m.params × IfSome m.ports (Each InPort) × Each InItem m.items × IfSome m.label InWord

  abbrev pub InPart : SourcePart → Type 0
  InPart (source_part.Module m) = InModule m
  InPart (source_part.Typedef d) = InTypedef d
  InPart (source_part.Param p) = InParam p

  abbrev pub Within : Source → Type 0
  Within source = Each InPart source.parts
