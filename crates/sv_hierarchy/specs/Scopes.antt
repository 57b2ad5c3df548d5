-- The scopes of a design: its instances and generate blocks, their names, its wires, and all that contributes.
use Rattle.std.specs.Prelude.{ℕ, zero, suc, ◌+◌, Bool, true, false, ◌&&◌, ◌||◌, not, nat_lt, List, [], ◌∷◌, ◌++◌, length, map, take, bytes_eq, Option, Some, None, Ok, Err, decimal, codes, if◌then◌else◌}
use Rattle.std.specs.Fmt.{signed_decimal}
use mathlib.Core.Former.{Count}
use Rattle.fourvec.specs.declared.Bit.{Bit}
use Rattle.fourvec.specs.Bits.{signed}
use Rattle.sv_tree.specs.declared.word.Word.{Word}
use Rattle.sv_tree.specs.declared.exprs.Expr.{Expr}
use Rattle.sv_tree.specs.declared.forms.TypeTree.{TypeTree}
use Rattle.sv_tree.specs.declared.forms.Typedef.{Typedef as TypedefTree}
use Rattle.sv_tree.specs.declared.stmts.Lvalue.{Lvalue}
use Rattle.sv_tree.specs.declared.stmts.Block.{Block}
use Rattle.sv_tree.specs.declared.design.ParamWord.{ParamWord}
use Rattle.sv_tree.specs.declared.design.ParamWord.TheVariants as param_word
use Rattle.sv_tree.specs.declared.design.ParamType.{ParamType}
use Rattle.sv_tree.specs.declared.design.ParPort.{ParPort}
use Rattle.sv_tree.specs.declared.design.ParamItem.{ParamItem}
use Rattle.sv_tree.specs.declared.design.Param.{Param as ParamTree}
use Rattle.sv_tree.specs.declared.design.Way.{Way}
use Rattle.sv_tree.specs.declared.design.Way.TheVariants as way
use Rattle.sv_tree.specs.declared.design.Port.{Port}
use Rattle.sv_tree.specs.declared.design.AssignPair.{AssignPair}
use Rattle.sv_tree.specs.declared.design.Pins.{Pins}
use Rattle.sv_tree.specs.declared.design.One.{One}
use Rattle.sv_tree.specs.declared.design.Inst.{Inst as InstTree}
use Rattle.sv_tree.specs.declared.design.Module.{Module}
use Rattle.sv_tree.specs.declared.design.Source.{Source}
use Rattle.sv_tree.specs.declared.design.SourcePart.{SourcePart}
use Rattle.sv_tree.specs.declared.design.SourcePart.TheVariants as source_part
use Rattle.sv_tree.specs.declared.design.Item.{Item, Net, Variable, Typedef, Param, Genvar, Assign, Always, Inst, For', If', Generate', Row_of-Item, end_of-Item, more_of-Item, end_of-Gen, more_of-Gen, Held-Item-If-3, None', Some'}
use Rattle.sv_tree.specs.declared.design.Gen.{Gen, Block', Single'}
use Rattle.sv_outside.specs.declared.refusal.Place.{Place}
use Rattle.sv_outside.specs.declared.text.Signal.{Signal}
use Rattle.sv_outside.specs.Words.{is_word}
use Rattle.sv_meaning.specs.Faults.{Faults, fault, fault_if, or_then, Judged, provided, faults_of, ◌>>=◌, bad_token, unknown_module, unknown_name, twice, instance_deep, too_many_bits, top_unclear}
use Rattle.sv_meaning.specs.Layouts.{Name, Entry, Layout, scalar, width, Scope, scope_of, What, type_is, signal_is, genvar_is, of_wires, find}
use Rattle.sv_meaning.specs.Names.{has_name}
use Rattle.sv_meaning.specs.Meanings.{Meaning}
use Rattle.sv_meaning.specs.Values.{mean}
use Rattle.sv_meaning.specs.Forms.{Declared, entry_of, form}
use Rattle.sv_meaning.specs.Deeds.{index_entry, turns, turn_faults, fixed_truth}
use Rattle.sv_meaning.specs.Designs.{Work, assignment, block, port, Design, design_faults}
use Rattle.sv_meaning.specs.Params.{ParamKind, kept, param_kind, value_as, Connection, connections, is_parameter}

-- ---- scopes, IEEE 1800-2017 section 23.9

-- A place in a scope: so many of its nets and variables, and so many of its constants and types, are declared above.
pub record Front : Type 0 where
  pub level : ℕ
  pub nets : ℕ
  pub consts : ℕ

-- A scope with names of its own. The file level is the first; the instances and generate blocks come after it, in the order in which
-- they begin.
pub record Level : Type 0 where
  pub path : Name
  -- its module, by the number in the text
  pub module_number : ℕ
  -- the scope that it stands in: that of the instantiation, where it is an instance
  pub parent : ℕ
  -- the places in the scopes whose names it sees, the outermost first
  pub around : List Front
  -- its nets and variables, behind the variable of the loop that it is a turn of
  pub nets : List Entry
  -- its constants, types and genvars
  pub consts : List Entry

abbrev pub no_level : Level
no_level = record { path = []; module_number = 0; parent = 0; around = []; nets = []; consts = [] }

unfoldable pub level_at : List Level → ℕ → Level
level_at [] n = no_level
level_at (x ∷ more) zero = x
level_at (x ∷ more) (suc n) = level_at more n

-- the levels with another in the place of one
unfoldable pub with_level : ℕ → (Level → Level) → List Level → List Level
with_level n f [] = []
with_level zero f (x ∷ more) = f x ∷ more
with_level (suc n) f (x ∷ more) = x ∷ with_level n f more

-- A constant expression sees what is declared above it. In one scope a name is declared once, and hides the variable of the loop.
unfoldable pub seen_along : List Level → List Front → List Entry
seen_along all [] = []
seen_along all (f ∷ more) = (take f.nets (level_at all f.level).nets ++ take f.consts (level_at all f.level).consts) ++ seen_along all more

-- All else sees the constants and types declared above it, and all nets and variables of the scopes around it.
unfoldable pub live_along : List Level → List Front → List Entry
live_along all [] = []
live_along all (f ∷ more) = ((level_at all f.level).nets ++ take f.consts (level_at all f.level).consts) ++ live_along all more

abbrev pub fronts_at : List Level → Front → List Front
fronts_at all f = (level_at all f.level).around ++ f ∷ []

-- what a constant expression sees at a place
abbrev pub seen_at : List Level → Front → Scope
seen_at all f = scope_of (seen_along all (fronts_at all f))

-- what any expression sees there
abbrev pub live_at : List Level → Front → Scope
live_at all f = record { all = live_along all (fronts_at all f); above = seen_along all (fronts_at all f) }

-- ---- what is found

-- what contributes or joins
pub data Task : Type 0 where
  assigning : Lvalue → Expr → Task
  running : Block → Task
  -- a connected port: its direction, wire and layout, and the actual in the scope of the instantiation
  connecting : Way → ℕ → Layout → Expr → Task

pub record Standing : Type 0 where
  pub at : Front
  pub task : Task

-- an expression that is given to a parameter, and where it is read
pub record Given : Type 0 where
  pub name : Name
  pub at : Front
  pub value : Expr

-- an instance that is still to be opened
pub record Child : Type 0 where
  pub at : Front
  pub of_module : Word
  pub name : Word
  pub path : Name
  pub params : Option Pins
  pub pins : Option Pins

-- Where a walk through the items of a scope stands.
pub record State : Type 0 where
  -- all scopes so far, and the number of the one that is read
  pub levels : List Level
  pub me : ℕ
  -- whether a name is declared in that one, and how many generate constructs it has
  pub taken : Name → Bool
  pub constructs : ℕ
  -- what its parameters are given
  pub overridden : List Given
  -- the bits of all wires with the instances below the top, and the turns of generate loops
  pub bits : ℕ
  pub turns : ℕ
  pub wires : List Signal
  pub works : List Standing
  -- the instances below this one
  pub children : List Child

abbrev pub nothing_taken : Name → Bool
nothing_taken n = false

abbrev pub Walk : Type 0
Walk = State → Judged State

abbrev pub stay : Walk
stay st = Ok st

abbrev pub then_walk : Walk → Walk → Walk
then_walk f g st = f st >>= g

unfoldable pub walk_all : {A : Type 0} → (A → Walk) → List A → Walk
walk_all f [] st = Ok st
walk_all f (x ∷ more) st = f x st >>= walk_all f more

abbrev pub mine : State → Level
mine st = level_at st.levels st.me

abbrev pub here : State → Front
here st = record { level = st.me; nets = length (mine st).nets; consts = length (mine st).consts }

abbrev pub seen : State → Scope
seen st = seen_at st.levels (here st)

-- ---- declarations, sections 6.5, 6.18 and 6.20

-- A name is a simple identifier (5.6): a letter or an underscore, and letters, digits, underscores and dollars behind it.
abbrev pub is_name : Name → Bool
is_name n = is_word n

-- what stands against the declaration of a name in a scope that has taken it or not; only a tree that no text spells declares what is no name
abbrev pub name_faults : Bool → Place → Name → Faults
name_faults taken p n = or_then (fault_if (not (is_name n)) bad_token p) (fault_if taken twice p)

-- a name is declared once in its scope
abbrev pub declare_at : Place → Name → Walk
declare_at p n st = provided (name_faults (st.taken n) p n) (record st { taken = λ other. has_name other (n ∷ []) || st.taken other })

abbrev pub declare : Word → Walk
declare w st = declare_at w.place w.text st

abbrev pub with_const : Entry → Level → Level
with_const e x = record x { consts = x.consts ++ e ∷ [] }

abbrev pub with_net : Entry → Level → Level
with_net e x = record x { nets = x.nets ++ e ∷ [] }

abbrev pub see_const : Entry → State → State
see_const e st = record st { levels = with_level st.me (with_const e) st.levels }

-- a constant, a type or a genvar
abbrev pub add_constant : Declared → Walk
add_constant d st = declare d.0 st >>= λ s. Ok (see_const (entry_of d) s)

abbrev pub add_constants : List Declared → Walk
add_constants all st = walk_all add_constant all st

-- the bits of all wires and the instances below the top are no more than these (this project's bound)
abbrev pub most_bits : ℕ
most_bits = 1048576

abbrev pub size_faults : Place → ℕ → Faults
size_faults p bits = fault_if (nat_lt most_bits bits) too_many_bits p

abbrev pub dot : Name
dot = codes "."

-- what stands before the names of a scope in paths; the top has no name there
abbrev pub prefix_of : Name → Name
prefix_of [] = []
prefix_of (c ∷ more) = (c ∷ more) ++ dot

abbrev pub path_of : State → Name → Name
path_of st n = prefix_of (mine st).path ++ n

abbrev pub with_wire : Bool → Layout → Name → State → State
with_wire input x n s = record s {
  levels = with_level s.me (with_net (n, signal_is of_wires (length s.wires) x)) s.levels;
  bits = s.bits + width x;
  wires = s.wires ++ record { path = path_of s n; width = width x; input = input } ∷ [];
}

abbrev pub add_wire : Bool → Layout → Word → Walk
add_wire input x w st =
    declare w st >>= λ s. provided (size_faults w.place (s.bits + width x)) (with_wire input x w.text s)

-- the layout of a type, whose enumerators become names here
abbrev pub formed : TypeTree → State → Judged (Layout × State)
formed t st = form (seen st) t >>= λ x. (add_constants x.1 st >>= λ s. Ok (x.0, s))

abbrev pub with_form : TypeTree → (Layout → Walk) → Walk
with_form t f st = formed t st >>= λ x. f x.0 x.1

abbrev pub with_form_or_bit : Option TypeTree → (Layout → Walk) → Walk
with_form_or_bit None f st = f (scalar false) st
with_form_or_bit (Some t) f st = with_form t f st

abbrev pub add_typedef : TypedefTree → Walk
add_typedef d st = with_form d.form (λ x. add_constant (d.name, type_is x)) st

-- what an instance gives, or the expression of the declaration
unfoldable pub given_or : Name → List Given → Given → Given
given_or n [] other = other
given_or n (g ∷ more) other = if bytes_eq g.name n then g else given_or n more other

abbrev pub overriding : ParamWord → List Given → List Given
overriding param_word.Parameter all = all
overriding param_word.Localparam all = []

abbrev pub meant : List Level → Given → Meaning
meant levels g = mean (seen_at levels g.at) g.value

abbrev pub given_to : ParamWord → Word → Expr → State → Given
given_to word w x st = given_or w.text (overriding word st.overridden) (record { name = w.text; at = here st; value = x })

abbrev pub add_param : ParamWord → ParamKind → Word → Expr → Walk
add_param word k w x st = value_as k (meant st.levels (given_to word w x st)) >>= λ v. add_constant (w, v) st

abbrev pub add_param_item : ParamWord → ParamKind → ParamItem → Walk
add_param_item word k i st = add_param word k i.name i.value st

-- The type of a declaration is read once, where it stands, for all its parameters.
abbrev pub add_params : ParamTree → Walk
add_params p st = param_kind (seen st) p.form >>= λ k. walk_all (add_param_item p.word k) p.list st

abbrev pub add_genvar : Word → Walk
add_genvar w st = add_constant (w, genvar_is) st

abbrev pub add_work : Task → Walk
add_work t st = Ok (record st { works = st.works ++ record { at = here st; task = t } ∷ [] })

abbrev pub add_assignment : AssignPair → Walk
add_assignment p st = add_work (assigning p.target p.value) st

-- ---- instances, section 23.3

abbrev pub flat_pins : Option (Option Pins) → Option Pins
flat_pins None = None
flat_pins (Some x) = x

abbrev pub child_of : InstTree → One → State → Child
child_of i o s = record { at = here s; of_module = i.of_module; name = o.name; path = path_of s o.name.text; params = flat_pins i.params; pins = o.pins }

abbrev pub add_child : InstTree → One → Walk
add_child i o st = declare o.name st >>= λ s. Ok (record s { children = s.children ++ child_of i o s ∷ [] })

-- ---- generate blocks, section 27

-- a block of that name in a path is begun, with the variable of the loop that it is a turn of
abbrev pub inner : Name → List Entry → State → State
inner part more st = record st {
  levels = st.levels ++ record {
    path = path_of st part;
    module_number = (mine st).module_number;
    parent = st.me;
    around = fronts_at st.levels (here st);
    nets = more;
    consts = [];
  } ∷ [];
  me = length st.levels;
  taken = nothing_taken;
  constructs = 0;
  overridden = [];
}

-- back in the scope around the block
abbrev pub outer : State → State → State
outer st last = record last { me = st.me; taken = st.taken; constructs = st.constructs; overridden = st.overridden }

abbrev pub enclosed : Name → List Entry → Walk → Walk
enclosed part more body st = body (inner part more st) >>= λ last. Ok (outer st last)

-- A block without a label is named by the number of its construct (27.6; here all constructs of the scope count).
abbrev pub block_name : Option Word → ℕ → Name
block_name None n = codes "genblk" ++ decimal n
block_name (Some w) n = w.text

-- where the name of a block stands, or else its first token
abbrev pub block_place : Option Word → Place → Place
block_place None p = p
block_place (Some w) p = w.place

abbrev pub block_walk : Option Word → Place → ℕ → Walk → Walk
block_walk label p n body st = declare_at (block_place label p) (block_name label n) st >>= enclosed (block_name label n) [] body

-- a block of a loop, by the value of the variable
abbrev pub turn_name : Name → List Bit → Name
turn_name g bits = g ++ (codes "[" ++ (signed_decimal (signed bits) ++ codes "]"))

abbrev pub count_turn : Place → Walk
count_turn p st = provided (turn_faults p st.turns) (record st { turns = suc st.turns })

abbrev pub turn_walk : Place → Name → Name → Walk → List Bit → Walk
turn_walk p g v body bits st = count_turn p st >>= enclosed (turn_name g bits) (index_entry v bits ∷ []) body

-- what stands under a loop: the place of the loop, the label of its block and where that begins, and its items
pub record Body : Type 0 where
  pub loop : Place
  pub label : Option Word
  pub start : Place
  pub items : Walk

-- The name of a loop with no turns is not declared.
abbrev pub turns_walk : Body → Name → ℕ → List (List Bit) → Walk
turns_walk b v n [] st = Ok st
turns_walk b v n all st =
    declare_at (block_place b.label b.start) (block_name b.label n) st >>= walk_all (turn_walk b.loop (block_name b.label n) v b.items) all

abbrev pub genvar_faults : Bool → Word → Option What → Faults
genvar_faults true w found = []
genvar_faults false w (Some genvar_is) = []
genvar_faults false w found = fault unknown_name w.place

abbrev pub next_construct : Walk
next_construct st = Ok (record st { constructs = suc st.constructs })

-- What an item does as an item, and as the only item of a branch of the construct of a number, which begins at a place.
pub record Act : Type 0 where
  pub item : Walk
  pub branch : Place → ℕ → Walk

-- What stands under a generate construct: its label, where it begins, its items, and what they do as a branch.
pub record Branch : Type 0 where
  pub label : Option Word
  pub start : Place
  pub body : Walk
  pub branch : ℕ → Walk

-- alone in a branch it has a block of its own
abbrev pub act_of : Walk → Act
act_of f = record { item = f; branch = λ p n. block_walk None p n f }

abbrev pub chosen_branch : Bool → Branch → (ℕ → Walk) → ℕ → Walk
chosen_branch true x other n st = x.branch n st
chosen_branch false x other n st = other n st

abbrev pub conditional : Expr → Branch → (ℕ → Walk) → ℕ → Walk
conditional c x other n st = fixed_truth (mean (seen st) c) >>= λ b. chosen_branch b x other n st

abbrev pub numbered : (ℕ → Walk) → Walk
numbered f st = next_construct st >>= λ s. f s.constructs s

abbrev pub body_of : Place → Branch → Body
body_of p x = record { loop = p; label = x.label; start = x.start; items = x.body }

abbrev pub loop_walk : Bool → Word → Body → (Scope → Judged (List (List Bit))) → ℕ → Walk
loop_walk header v b values n st =
    provided (genvar_faults header v (find v.text (seen st))) (seen st) >>= values >>= λ all. turns_walk b v.text n all st

unfoldable mutual
  pub act : Item → Act
  act (Net word t names) = act_of (with_form_or_bit t (λ x. walk_all (add_wire false x) names))
  act (Variable t names) = act_of (with_form t (λ x. walk_all (add_wire false x) names))
  act (Typedef d) = act_of (add_typedef d)
  act (Param p) = act_of (add_params p)
  act (Genvar names) = act_of (walk_all add_genvar names)
  act (Assign all) = act_of (walk_all add_assignment all)
  act (Always b) = act_of (add_work (running b))
  act (Inst i) = act_of (walk_all (add_child i) i.list)
  act (Generate' s all) = act_of (acts all)
  act (For' p header v start test next r (more_of-Gen x end_of-Gen)) =
      act_of (numbered (loop_walk header v (body_of p (under x)) (λ at. turns p at v.text start test next)))
  act (If' p c r (more_of-Gen x end_of-Gen) other) =
      record { item = numbered (conditional c (under x) (under_else other)); branch = λ q. conditional c (under x) (under_else other) }

  pub acts : {m : Count} → Row_of-Item m → Walk
  acts end_of-Item = stay
  acts (more_of-Item x all) = then_walk (act x).item (acts all)

  pub under : Gen → Branch
  under (Block' p label s all e) = record { label = label; start = p; body = acts all; branch = λ n. block_walk label p n (acts all) }
  under (Single' p r (more_of-Item x end_of-Item)) = record { label = None; start = p; body = (act x).item; branch = (act x).branch p }

  pub under_else : Held-Item-If-3 → ℕ → Walk
  under_else None' n = stay
  under_else (Some' r (more_of-Gen x end_of-Gen)) n = (under x).branch n

-- ---- a module's header, section 23.2

-- what an entry of the parameter list takes over from the one before it: its word, and its type where neither is written

abbrev pub word_or : Option ParamWord → ParamWord → ParamWord
word_or None before = before
word_or (Some w) before = w

abbrev pub kind_or : Option ParamWord → Option ParamType → ParamKind → Scope → Judged ParamKind
kind_or None None before at = Ok before
kind_or (Some w) None before at = Ok kept
kind_or w (Some t) before at = param_kind at (Some t)

unfoldable pub header_params : ParamWord → ParamKind → List ParPort → Walk
header_params w k [] st = Ok st
header_params w k (p ∷ more) st =
    kind_or p.word p.form k (seen st) >>= λ j. add_param (word_or p.word w) j p.name p.value st >>= header_params (word_or p.word w) j more

pub record OpenPort : Type 0 where
  pub name : Name
  pub way : Way
  pub wire : ℕ
  pub layout : Layout

abbrev pub is_input : Way → Bool
is_input way.Input = true
is_input way.Output = false
is_input way.Inout = true

abbrev pub or_way : Option Way → Way → Way
or_way (Some w) before = w
or_way None before = before

abbrev pub is_bare : Port → Bool
is_bare p = is_nothing p.way && (is_nothing p.kind && is_nothing p.form)
  where
    is_nothing : {A : Type 0} → Option A → Bool
    is_nothing None = true
    is_nothing (Some x) = false

abbrev pub add_port : Bool → Way → Layout → Word → State → Judged (OpenPort × State)
add_port top d x w st =
    add_wire (top && is_input d) x w st >>= λ s. Ok (record { name = w.text; way = d; wire = length st.wires; layout = x }, s)

-- The direction and layout of the port before stand for those that are left out. With a kind or a direction and no type it is one bit.
abbrev pub port_form : Port → Layout → State → Judged (Layout × State)
port_form p before st = if is_bare p then Ok (before, st) else form_of p.form
  where
    form_of : Option TypeTree → Judged (Layout × State)
    form_of None = Ok (scalar false, st)
    form_of (Some t) = formed t st

-- The first port has a direction, so what stands before it does not count.
unfoldable pub header_ports : Bool → Way → Layout → List Port → State → Judged (List OpenPort × State)
header_ports top before x [] st = Ok ([], st)
header_ports top before x (p ∷ more) st = do
  found ← port_form p x st
  one ← add_port top (or_way p.way before) found.0 p.name found.1
  rest ← header_ports top (or_way p.way before) found.0 more one.1
  Ok (one.0 ∷ rest.0, rest.1)

abbrev pub ports_of : Module → List Port
ports_of m = all m.ports
  where
    all : Option (List Port) → List Port
    all None = []
    all (Some ports) = ports

-- ---- the parameters that an instance may give, section 6.20.1: those of the module's list or, where it has none, of its own items

unfoldable pub list_params : ParamWord → List ParPort → List Name
list_params w [] = []
list_params w (p ∷ more) = (if is_parameter (word_of p.word) then p.name.text ∷ [] else []) ++ list_params (word_of p.word) more
  where
    word_of : Option ParamWord → ParamWord
    word_of None = w
    word_of (Some v) = v

unfoldable pub item_names : List ParamItem → List Name
item_names [] = []
item_names (i ∷ more) = i.name.text ∷ item_names more

unfoldable mutual
  pub body_params : Item → List Name
  body_params (Param p) = if is_parameter p.word then item_names p.list else []
  body_params (Generate' s all) = all_body_params all
  body_params x = []

  pub all_body_params : {m : Count} → Row_of-Item m → List Name
  all_body_params end_of-Item = []
  all_body_params (more_of-Item x all) = body_params x ++ all_body_params all

unfoldable pub params_of_items : List Item → List Name
params_of_items [] = []
params_of_items (x ∷ more) = body_params x ++ params_of_items more

abbrev pub params_from : List ParPort → List Item → List Name
params_from [] all = params_of_items all
params_from list all = list_params param_word.Parameter list

abbrev pub open_params : Module → List Name
open_params m = params_from m.params m.items

-- ---- modules and instances

-- a module with its number in the text, and how many names of the file level are declared above it
pub record Known : Type 0 where
  pub tree : Module
  pub number : ℕ
  pub above : ℕ

abbrev pub Library : Type 0
Library = List Known

unfoldable pub module_named : Name → Library → Option Known
module_named n [] = None
module_named n (m ∷ more) = if bytes_eq m.tree.name.text n then Some m else module_named n more

-- an instance is begun; it sees the names of the file level that are declared above its module
abbrev pub begun : Known → Name → ℕ → List Given → State → State
begun m path parent params st = record st {
  levels = st.levels ++ record {
    path = path;
    module_number = m.number;
    parent = parent;
    around = record { level = 0; nets = 0; consts = m.above } ∷ [];
    nets = [];
    consts = [];
  } ∷ [];
  me = length st.levels;
  taken = nothing_taken;
  constructs = 0;
  overridden = params;
  children = [];
}

unfoldable pub port_named : Name → List OpenPort → Option OpenPort
port_named n [] = None
port_named n (p ∷ more) = if bytes_eq p.name n then Some p else port_named n more

unfoldable pub port_texts : List Port → List Name
port_texts [] = []
port_texts (p ∷ more) = p.name.text ∷ port_texts more

abbrev pub connected : Front → Option OpenPort → Option Expr → List Standing
connected at (Some p) (Some x) = record { at = at; task = connecting p.way p.wire p.layout x } ∷ []
connected at p x = []

unfoldable pub port_works : Front → List Connection → List OpenPort → List Standing
port_works at [] ports = []
port_works at (c ∷ more) ports = connected at (port_named c.0 ports) c.1 ++ port_works at more ports

-- What an instance has without its children: its ports, what these are connected to, and its declarations in text order with generate
-- blocks in their place.
abbrev pub instance_walk : Bool → Module → Front → List Connection → Walk
instance_walk top m at pins st = do
  s ← header_params param_word.Parameter kept m.params st
  found ← header_ports top way.Input (scalar false) (ports_of m) s
  walk_all (λ x. (act x).item) m.items (record found.1 { works = found.1.works ++ port_works at pins found.0 })

-- the parameters that an instance gives
unfoldable pub given_by : Front → List Connection → List Given
given_by at [] = []
given_by at ((n, None) ∷ more) = given_by at more
given_by at ((n, Some x) ∷ more) = record { name = n; at = at; value = x } ∷ given_by at more

abbrev pub module_of : Library → Child → Judged Known
module_of all c = known (module_named c.of_module.text all)
  where
    known : Option Known → Judged Known
    known None = Err (fault unknown_module c.of_module.place)
    known (Some m) = Ok m

-- one instance more
abbrev pub count_instance : Child → Walk
count_instance c st = provided (size_faults c.name.place (suc st.bits)) (record st { bits = suc st.bits })

-- the children that were found, each by such a walk
abbrev pub below : (Child → Walk) → Walk
below f st = walk_all f st.children (record st { children = [] })

-- An instance below another: what it has itself, and then its child instances in text order, each whole. No more than so many levels.
unfoldable pub child : ℕ → Library → Child → Walk
child zero all c st = Err (fault instance_deep c.name.place)
child (suc deep) all c st = do
  m ← module_of all c
  params ← connections (seen_at st.levels c.at) (open_params m.tree) c.params
  pins ← connections (seen_at st.levels c.at) (port_texts (ports_of m.tree)) c.pins
  more ← count_instance c st
  own ← instance_walk false m.tree c.at pins (begun m c.path c.at.level (given_by c.at params) more)
  last ← below (child deep all) own
  Ok (outer st last)

-- ---- the file level

abbrev pub file_state : State
file_state = record {
  levels = no_level ∷ [];
  me = 0;
  taken = nothing_taken;
  constructs = 0;
  overridden = [];
  bits = 0;
  turns = 0;
  wires = [];
  works = [];
  children = [];
}

abbrev pub is_there : Option Known → Bool
is_there None = false
is_there (Some m) = true

-- the modules, numbered in the order of the text, and the file level; modules have names of their own space (3.13)
unfoldable pub library : List SourcePart → Library → State → Judged (Library × State)
library [] all st = Ok (all, st)
library (source_part.Module m ∷ more) all st =
    provided (fault_if (is_there (module_named m.name.text all)) twice m.name.place) (record { tree = m; number = length all; above = (here st).consts })
    >>= λ k. library more (all ++ k ∷ []) st
library (source_part.Typedef d ∷ more) all st = add_typedef d st >>= library more all
library (source_part.Param p ∷ more) all st = add_params p st >>= library more all

-- ---- the top: the one module that no module text instantiates

unfoldable mutual
  pub instantiated : Item → List Name
  instantiated (Inst i) = i.of_module.text ∷ []
  instantiated (Generate' s all) = all_instantiated all
  instantiated (For' p header v start test next r (more_of-Gen x end_of-Gen)) = instantiated_under x
  instantiated (If' p c r (more_of-Gen x end_of-Gen) other) = instantiated_under x ++ instantiated_else other
  instantiated x = []

  pub all_instantiated : {m : Count} → Row_of-Item m → List Name
  all_instantiated end_of-Item = []
  all_instantiated (more_of-Item x all) = instantiated x ++ all_instantiated all

  pub instantiated_under : Gen → List Name
  instantiated_under (Block' p label s all e) = all_instantiated all
  instantiated_under (Single' p r (more_of-Item x end_of-Item)) = instantiated x

  pub instantiated_else : Held-Item-If-3 → List Name
  instantiated_else None' = []
  instantiated_else (Some' r (more_of-Gen x end_of-Gen)) = instantiated_under x

unfoldable pub instantiated_by : List Item → List Name
instantiated_by [] = []
instantiated_by (x ∷ more) = instantiated x ++ instantiated_by more

unfoldable pub all_used : Library → List Name
all_used [] = []
all_used (m ∷ more) = instantiated_by m.tree.items ++ all_used more

unfoldable pub unused : List Name → Library → Library
unused used [] = []
unused used (m ∷ more) = if has_name m.tree.name.text used then unused used more else m ∷ unused used more

-- the start of the design's file
abbrev pub design_start : Place
design_start = record { file = 0; line = 1; column = 1 }

abbrev pub unclear : ℕ → Faults
unclear n = record { number = top_unclear; place = design_start; count = n } ∷ []

abbrev pub the_one : Library → Judged Known
the_one [] = Err (unclear 0)
the_one (m ∷ []) = Ok m
the_one (m ∷ n ∷ more) = Err (unclear (length (m ∷ n ∷ more)))

abbrev pub top_named : Option Known → Judged Known
top_named None = Err (fault unknown_module design_start)
top_named (Some m) = Ok m

abbrev pub top_module : Library → Option Name → Judged Known
top_module all None = the_one (unused (all_used all) all)
top_module all (Some n) = top_named (module_named n all)

-- ---- the whole

-- how deep instances may be nested, the top not counted (this project's bound)
abbrev pub deepest : ℕ
deepest = 32

-- the top, which nothing is connected to, with all that is below it
abbrev pub from_top : Library → Known → Walk
from_top all m st = instance_walk true m.tree (here st) [] (begun m [] 0 [] st) >>= below (child deepest all)

-- The scopes, the wires, and all that contributes or joins
abbrev pub scopes : Source → Option Name → Judged State
scopes source top = do
  file ← library source.parts [] file_state
  m ← top_module file.0 top
  from_top file.0 m file.1

-- an instance or a generate block, with all names that it sees
pub record Instance : Type 0 where
  pub path : Name
  pub module_number : ℕ
  pub parent : Option ℕ
  pub scope : Scope

-- the number of an instance or block; the file level is none
abbrev pub instance_number : ℕ → Option ℕ
instance_number zero = None
instance_number (suc n) = Some n

abbrev pub end_of_level : ℕ → Level → Front
end_of_level n x = record { level = n; nets = length x.nets; consts = length x.consts }

unfoldable pub instances_from : ℕ → List Level → List Level → List Instance
instances_from n all [] = []
instances_from n all (x ∷ more) =
    record { path = x.path; module_number = x.module_number; parent = instance_number x.parent; scope = live_at all (end_of_level n x) }
    ∷ instances_from (suc n) all more

abbrev pub behind : List Level → List Level
behind [] = []
behind (x ∷ more) = more

-- Each instance comes before its generate blocks, and these before the instances below it.
abbrev pub instances : State → List Instance
instances st = instances_from 1 st.levels (behind st.levels)

abbrev pub work_of : Scope → Task → Work
work_of at (assigning to x) = assignment at to x
work_of at (running b) = block at b
work_of at (connecting w n x actual) = port at w n x actual

abbrev pub work_at : List Level → Standing → Work
work_at levels s = work_of (live_at levels s.at) s.task

abbrev pub design_of : State → Design
design_of st = record { wires = st.wires; works = map (work_at st.levels) st.works; turns = st.turns }

-- the design that a source means, where its scopes are sound
abbrev pub design : Source → Option Name → Judged Design
design source top = scopes source top >>= λ st. Ok (design_of st)

-- what stands against a source with such a top
abbrev pub source_faults : Source → Option Name → Faults
source_faults source top = faults_of (design source top >>= λ d. provided (design_faults d) d)
