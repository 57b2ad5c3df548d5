-- Each wire of a design has a path whose parts are names that were declared, or such a name with a number in brackets behind it, as the
-- turn of a loop has; and only a simple identifier is declared. So each step of a walk keeps it that the paths of all scopes so far, of all
-- instances that are still to be opened and of all wires have such parts: a scope or an instance hands its path on to what is declared in
-- it. The steps are those of the definition, one lemma each.
use Rattle.std.proofs.Common.{◌≡◌, ℕ, zero, suc, Bool, true, false, ◌&&◌, List, [], ◌∷◌, ◌++◌, length, Option, Some, None, Ok, All, subst}
use Rattle.std.proofs.lemmas.List.Elements.{All-nil, All-cons, All-head, All-tail, All-push, All-weaker}
use mathlib.Core.Former.{Count}
use Rattle.fourvec.specs.declared.Bit.{Bit}
use Rattle.sv_outside.specs.declared.refusal.Place.{Place}
use Rattle.sv_tree.specs.declared.word.Word.{Word}
use Rattle.sv_tree.specs.declared.exprs.Expr.{Expr}
use Rattle.sv_tree.specs.declared.forms.TypeTree.{TypeTree}
use Rattle.sv_tree.specs.declared.forms.Typedef.{Typedef as TypedefTree}
use Rattle.sv_tree.specs.declared.design.ParamWord.{ParamWord}
use Rattle.sv_tree.specs.declared.design.ParamWord.TheVariants as param_word
use Rattle.sv_tree.specs.declared.design.ParPort.{ParPort}
use Rattle.sv_tree.specs.declared.design.Param.{Param as ParamTree}
use Rattle.sv_tree.specs.declared.design.Way.{Way}
use Rattle.sv_tree.specs.declared.design.Way.TheVariants as way
use Rattle.sv_tree.specs.declared.design.NetWord.{NetWord}
use Rattle.sv_tree.specs.declared.design.Port.{Port}
use Rattle.sv_tree.specs.declared.design.AssignPair.{AssignPair}
use Rattle.sv_tree.specs.declared.design.One.{One}
use Rattle.sv_tree.specs.declared.design.Inst.{Inst as InstTree}
use Rattle.sv_tree.specs.declared.design.Module.{Module}
use Rattle.sv_tree.specs.declared.design.Source.{Source}
use Rattle.sv_tree.specs.declared.design.SourcePart.{SourcePart}
use Rattle.sv_tree.specs.declared.design.SourcePart.TheVariants as source_part
use Rattle.sv_tree.specs.declared.design.Item.{Item, Net, Variable, Typedef, Param, Genvar, Assign, Always, Inst, For', If', Generate', Row_of-Item, end_of-Item, more_of-Item, end_of-Gen, more_of-Gen, Held-Item-If-3, None', Some'}
use Rattle.sv_tree.specs.declared.design.Gen.{Gen, Block', Single'}
use Rattle.sv_outside.specs.declared.text.Signal.{Signal}
use Rattle.sv_meaning.specs.Faults.{Judged, provided, ◌>>=◌, fault_if, twice}
use Rattle.sv_meaning.specs.Layouts.{Name, Entry, Layout, scalar, width, Scope, What, type_is, signal_is, genvar_is, of_wires, find}
use Rattle.sv_meaning.specs.Forms.{Declared, Formed, entry_of, form}
use Rattle.sv_meaning.specs.Values.{mean}
use Rattle.sv_meaning.specs.Deeds.{index_entry, turns, fixed_truth}
use Rattle.sv_meaning.specs.Params.{Connection, connections, ParamKind, kept, param_kind, value_as}
use Rattle.sv_hierarchy.specs.Scopes.{Level, Front, State, Walk, stay, then_walk, here, mine, level_at, with_level, no_level, fronts_at, Task, assigning, running, Standing, Child, seen_at, genvar_faults, open_params, port_texts, is_there, module_named, Given, walk_all, name_faults, declare_at, declare, with_const, with_net, see_const, add_constant, add_constants, with_wire, add_wire, path_of, formed, with_form, with_form_or_bit, add_typedef, meant, given_to, seen, add_param, add_param_item, add_params, add_genvar, add_work, add_assignment, add_child, child_of, inner, enclosed, block_name, block_place, block_walk, turn_name, count_turn, turn_walk, Body, turns_walk, loop_walk, Act, Branch, act_of, chosen_branch, conditional, numbered, body_of, act, acts, under, under_else, word_or, kind_or, header_params, OpenPort, is_input, or_way, add_port, port_form, header_ports, ports_of, Known, Library, begun, port_works, instance_walk, given_by, module_of, count_instance, below, child, file_state, library, top_module, deepest, scopes}
use Rattle.scope_laws.specs.Wires.{HaveParts, HavePaths, IsPath}
use Rattle.scope_laws.proofs.Plain.{same_ok, bind_ok, provided_ok, no_faults}
use Rattle.scope_laws.proofs.Names.{HasParts, IsStep, IsText, clear_name, is_path, is_text, joined, no_text, turn_named}

-- ---- paths

abbrev HasText : Level → Type 0
HasText x = IsText x.path

abbrev OpensText : Child → Type 0
OpensText c = IsText c.path

abbrev HasPath : Signal → Type 0
HasPath w = HasParts w.path

abbrev Inv : State → Type 0
Inv st = All HasText st.levels × All OpensText st.children × All HasPath st.wires

abbrev Keeps : Walk → Type 0
Keeps f = (st last : State) → Inv st → f st ≡ Ok last → Inv last

level_text : (all : List Level) (n : ℕ) → All HasText all → IsText (level_at all n).path
unfolding level_at
level_text [] n h = no_text
level_text (x ∷ more) zero h = All-head HasText x more h
level_text (x ∷ more) (suc n) h = level_text more n (All-tail HasText x more h)

levels_with : (n : ℕ) (f : Level → Level) (all : List Level) → ((x : Level) → HasText x → HasText (f x)) → All HasText all → All HasText (with_level n f all)
unfolding with_level
levels_with n f [] g h = All-nil HasText
levels_with zero f (x ∷ more) g h = All-cons HasText (f x) more (g x (All-head HasText x more h)) (All-tail HasText x more h)
levels_with (suc n) f (x ∷ more) g h = All-cons HasText x (with_level n f more) (All-head HasText x more h) (levels_with n f more g (All-tail HasText x more h))

path_here : (st : State) (n : Name) → Inv st → IsStep n → HasParts (path_of st n)
path_here st n i g = joined (mine st).path n (level_text st.levels st.me i.0) g

-- ---- steps together

all_keep : {A : Type 0} (f : A → Walk) (all : List A) → ((x : A) → Keeps (f x)) → Keeps (walk_all f all)
unfolding walk_all
all_keep f [] k st last i h = subst Inv (same_ok st last h) i
all_keep f (x ∷ more) k st last i h = let b = bind_ok (f x st) (walk_all f more) last h in all_keep f more k b.0 last (k x st b.0 i b.1) b.2

-- ---- declarations

-- what is declared is a name
declared : (p : Place) (n : Name) (st last : State) → Inv st → declare_at p n st ≡ Ok last → Inv last × IsStep n
declared p n st last i h = (subst Inv (provided_ok _ _ last h) i, clear_name (st.taken n) p n (no_faults (name_faults (st.taken n) p n) _ last h))

constant_keeps : (d : Declared) → Keeps (add_constant d)
constant_keeps d st last i h =
    let b = bind_ok (declare d.0 st) (λ s. Ok (see_const (entry_of d) s)) last h in
    let s : State = b.0 in
    let g = (declared d.0.place d.0.text st s i b.1).0 in
    subst Inv (same_ok (see_const (entry_of d) s) last b.2) (levels_with s.me (with_const (entry_of d)) s.levels (λ x t. t) g.0, g.1, g.2)

constants_keep : (all : List Declared) → Keeps (add_constants all)
constants_keep all = all_keep add_constant all constant_keeps

wire_seen : (input : Bool) (x : Layout) (n : Name) (s : State) → Inv s → IsStep n → Inv (with_wire input x n s)
wire_seen input x n s i g =
    let w : Signal = record { path = path_of s n; width = width x; input = input } in
    (levels_with s.me (with_net (n, signal_is of_wires (length s.wires) x)) s.levels (λ y t. t) i.0, i.1, All-push HasPath s.wires w i.2 (path_here s n i g))

wire_keeps : (input : Bool) (x : Layout) (w : Word) → Keeps (add_wire input x w)
wire_keeps input x w st last i h =
    let b = bind_ok (declare w st) _ last h in
    let s : State = b.0 in
    let d = declared w.place w.text st s i b.1 in
    subst Inv (provided_ok _ (with_wire input x w.text s) last b.2) (wire_seen input x w.text s d.0 d.1)

formed_keeps : (t : TypeTree) (st : State) (y : Layout × State) → Inv st → formed t st ≡ Ok y → Inv y.1
formed_keeps t st y i h =
    let a = bind_ok (form (seen st) t) _ y h in
    let x : Formed = a.0 in
    let b = bind_ok (add_constants x.1 st) (λ s. Ok (x.0, s)) y a.2 in
    let s : State = b.0 in
    subst (λ (z : Layout × State). Inv z.1) (same_ok (x.0, s) y b.2) (constants_keep x.1 st s i b.1)

form_keeps : (t : TypeTree) (f : Layout → Walk) → ((x : Layout) → Keeps (f x)) → Keeps (with_form t f)
form_keeps t f k st last i h =
    let b = bind_ok (formed t st) (λ x. f x.0 x.1) last h in
    k b.0.0 b.0.1 last (formed_keeps t st b.0 i b.1) b.2

form_or_bit_keeps : (t : Option TypeTree) (f : Layout → Walk) → ((x : Layout) → Keeps (f x)) → Keeps (with_form_or_bit t f)
form_or_bit_keeps None f k = k (scalar false)
form_or_bit_keeps (Some t) f k = form_keeps t f k

typedef_keeps : (d : TypedefTree) → Keeps (add_typedef d)
typedef_keeps d = form_keeps d.form (λ x. add_constant (d.name, type_is x)) (λ x. constant_keeps (d.name, type_is x))

param_keeps : (word : ParamWord) (k : ParamKind) (w : Word) (x : Expr) → Keeps (add_param word k w x)
param_keeps word k w x st last i h =
    let b = bind_ok (value_as k (meant st.levels (given_to word w x st))) (λ v. add_constant (w, v) st) last h in
    let v : What = b.0 in
    constant_keeps (w, v) st last i b.2

params_keep : (p : ParamTree) → Keeps (add_params p)
params_keep p st last i h =
    let b = bind_ok (param_kind (seen st) p.form) _ last h in
    all_keep (add_param_item p.word b.0) p.list (λ x. param_keeps p.word b.0 x.name x.value) st last i b.2

genvar_keeps : (w : Word) → Keeps (add_genvar w)
genvar_keeps w = constant_keeps (w, genvar_is)

work_keeps : (t : Task) → Keeps (add_work t)
work_keeps t st last i h =
    let w : Standing = record { at = here st; task = t } in
    subst Inv (same_ok (record st { works = st.works ++ w ∷ [] }) last h) i

child_added : (c : InstTree) (o : One) (s : State) → Inv s → IsStep o.name.text → Inv (record s { children = s.children ++ child_of c o s ∷ [] })
child_added c o s i g = (i.0, All-push OpensText s.children (child_of c o s) i.1 (is_text (path_of s o.name.text) (path_here s o.name.text i g)), i.2)

child_keeps : (c : InstTree) (o : One) → Keeps (add_child c o)
child_keeps c o st last i h =
    let b = bind_ok (declare o.name st) _ last h in
    let s : State = b.0 in
    let d = declared o.name.place o.name.text st s i b.1 in
    subst Inv (same_ok (record s { children = s.children ++ child_of c o s ∷ [] }) last b.2) (child_added c o s d.0 d.1)

-- ---- generate blocks

inside : (part : Name) (more : List Entry) (st : State) → IsStep part → Inv st → Inv (inner part more st)
inside part more st g i =
    let x : Level = record { path = path_of st part; module_number = (mine st).module_number; parent = st.me; around = fronts_at st.levels (here st); nets = more; consts = [] } in
    (All-push HasText st.levels x i.0 (is_text x.path (path_here st part i g)), i.1, i.2)

enclosed_keeps : (part : Name) (more : List Entry) (body : Walk) → IsStep part → Keeps body → Keeps (enclosed part more body)
enclosed_keeps part more body g k st last i h =
    let b = bind_ok (body (inner part more st)) _ last h in
    subst Inv (same_ok _ last b.2) (k (inner part more st) b.0 (inside part more st g i) b.1)

block_keeps : (label : Option Word) (p : Place) (n : ℕ) (body : Walk) → Keeps body → Keeps (block_walk label p n body)
block_keeps label p n body k st last i h =
    let b = bind_ok (declare_at (block_place label p) (block_name label n) st) _ last h in
    let d = declared (block_place label p) (block_name label n) st b.0 i b.1 in
    enclosed_keeps (block_name label n) [] body d.1 k b.0 last d.0 b.2

turn_keeps : (p : Place) (g v : Name) (body : Walk) (bits : List Bit) → IsStep g → Keeps body → Keeps (turn_walk p g v body bits)
turn_keeps p g v body bits s k st last i h =
    let b = bind_ok (count_turn p st) _ last h in
    enclosed_keeps (turn_name g bits) (index_entry v bits ∷ []) body (turn_named g bits s) k b.0 last (subst Inv (provided_ok _ _ b.0 b.1) i) b.2

-- the name of a loop is declared before its turns
turns_keep : (b : Body) (v : Name) (n : ℕ) (all : List (List Bit)) → Keeps b.items → Keeps (turns_walk b v n all)
turns_keep b v n [] k st last i h = subst Inv (same_ok st last h) i
turns_keep b v n (x ∷ more) k st last i h =
    let g : Name = block_name b.label n in
    let d = bind_ok (declare_at (block_place b.label b.start) g st) _ last h in
    let named = declared (block_place b.label b.start) g st d.0 i d.1 in
    all_keep (turn_walk b.loop g v b.items) (x ∷ more) (λ bits. turn_keeps b.loop g v b.items bits named.1 k) d.0 last named.0 d.2

loop_keeps : (header : Bool) (v : Word) (b : Body) (values : Scope → Judged (List (List Bit))) (n : ℕ) → Keeps b.items → Keeps (loop_walk header v b values n)
loop_keeps header v b values n k st last i h =
    let d = bind_ok (provided (genvar_faults header v (find v.text (seen st))) (seen st) >>= values) (λ all. turns_walk b v.text n all st) last h in
    turns_keep b v.text n d.0 k st last i d.2

-- ---- items

stay_keeps : Keeps stay
stay_keeps st last i h = subst Inv (same_ok st last h) i

two_keep : (f g : Walk) → Keeps f → Keeps g → Keeps (then_walk f g)
two_keep f g a b st last i h = let d = bind_ok (f st) g last h in b d.0 last (a st d.0 i d.1) d.2

record KeepsAct (a : Act) : Type 0 where
  item : Keeps a.item
  branch : (p : Place) (n : ℕ) → Keeps (a.branch p n)

record KeepsBranch (b : Branch) : Type 0 where
  body : Keeps b.body
  branch : (n : ℕ) → Keeps (b.branch n)

of_walk : (f : Walk) → Keeps f → KeepsAct (act_of f)
of_walk f k = record { item = k; branch = λ p n. block_keeps None p n f k }

chosen_keeps : (b : Bool) (x : Branch) (other : ℕ → Walk) (n : ℕ) → KeepsBranch x → ((n : ℕ) → Keeps (other n)) → Keeps (chosen_branch b x other n)
chosen_keeps true x other n k g = k.branch n
chosen_keeps false x other n k g = g n

conditional_keeps : (c : Expr) (x : Branch) (other : ℕ → Walk) (n : ℕ) → KeepsBranch x → ((n : ℕ) → Keeps (other n)) → Keeps (conditional c x other n)
conditional_keeps c x other n k g st last i h = let b = bind_ok (fixed_truth (mean (seen st) c)) (λ b. chosen_branch b x other n st) last h in chosen_keeps b.0 x other n k g st last i b.2

numbered_keeps : (f : ℕ → Walk) → ((n : ℕ) → Keeps (f n)) → Keeps (numbered f)
numbered_keeps f k st last i h = k (suc st.constructs) (record st { constructs = suc st.constructs }) last i h

mutual
  unfolding act

  act_keeps : (x : Item) → KeepsAct (act x)
  act_keeps (Net word t names) = of_walk _ (form_or_bit_keeps t (λ x. walk_all (add_wire false x) names) (λ x. all_keep (add_wire false x) names (wire_keeps false x)))
  act_keeps (Variable t names) = of_walk _ (form_keeps t (λ x. walk_all (add_wire false x) names) (λ x. all_keep (add_wire false x) names (wire_keeps false x)))
  act_keeps (Typedef d) = of_walk _ (typedef_keeps d)
  act_keeps (Param p) = of_walk _ (params_keep p)
  act_keeps (Genvar names) = of_walk _ (all_keep add_genvar names genvar_keeps)
  act_keeps (Assign all) = of_walk _ (all_keep add_assignment all (λ (p : AssignPair). work_keeps (assigning p.target p.value)))
  act_keeps (Always b) = of_walk _ (work_keeps (running b))
  act_keeps (Inst i) = of_walk _ (all_keep (add_child i) i.list (child_keeps i))
  act_keeps (Generate' s all) = of_walk _ (acts_keep all)
  act_keeps (For' p header v start test next r (more_of-Gen x end_of-Gen)) =
      of_walk _ (numbered_keeps (loop_walk header v (body_of p (under x)) (λ at. turns p at v.text start test next)) (λ n. loop_keeps header v (body_of p (under x)) (λ at. turns p at v.text start test next) n (under_keeps x).body))
  act_keeps (If' p c r (more_of-Gen x end_of-Gen) other) = record {
    item = numbered_keeps (conditional c (under x) (under_else other)) (λ n. conditional_keeps c (under x) (under_else other) n (under_keeps x) (else_keeps other));
    branch = λ q n. conditional_keeps c (under x) (under_else other) n (under_keeps x) (else_keeps other);
  }

  acts_keep : {m : Count} (all : Row_of-Item m) → Keeps (acts all)
  acts_keep end_of-Item = stay_keeps
  acts_keep (more_of-Item x all) = two_keep (act x).item (acts all) (act_keeps x).item (acts_keep all)

  under_keeps : (x : Gen) → KeepsBranch (under x)
  under_keeps (Block' p label s all e) = record { body = acts_keep all; branch = λ n. block_keeps label p n (acts all) (acts_keep all) }
  under_keeps (Single' p r (more_of-Item x end_of-Item)) = record { body = (act_keeps x).item; branch = (act_keeps x).branch p }

  else_keeps : (x : Held-Item-If-3) (n : ℕ) → Keeps (under_else x n)
  else_keeps None' n = stay_keeps
  else_keeps (Some' r (more_of-Gen x end_of-Gen)) n = (under_keeps x).branch n

-- ---- headers

header_keeps : (w : ParamWord) (k : ParamKind) (all : List ParPort) → Keeps (header_params w k all)
unfolding header_params
header_keeps w k [] st last i h = subst Inv (same_ok st last h) i
header_keeps w k (p ∷ more) st last i h =
    let a = bind_ok (kind_or p.word p.form k (seen st)) _ last h in
    let b = bind_ok (add_param (word_or p.word w) a.0 p.name p.value st) _ last a.2 in
    header_keeps (word_or p.word w) a.0 more b.0 last (param_keeps (word_or p.word w) a.0 p.name p.value st b.0 i b.1) b.2

port_keeps : (top : Bool) (d : Way) (x : Layout) (w : Word) (st : State) (y : OpenPort × State) → Inv st → add_port top d x w st ≡ Ok y → Inv y.1
port_keeps top d x w st y i h =
    let b = bind_ok (add_wire (top && is_input d) x w st) _ y h in
    let p : OpenPort = record { name = w.text; way = d; wire = length st.wires; layout = x } in
    subst (λ (z : OpenPort × State). Inv z.1) (same_ok (p, b.0) y b.2) (wire_keeps (top && is_input d) x w st b.0 i b.1)

abbrev Is : {A : Type 0} → Judged A → A → Type 0
Is j y = j ≡ Ok y

port_form_keeps : (p : Port) (before : Layout) (st : State) (y : Layout × State) → Inv st → port_form p before st ≡ Ok y → Inv y.1
port_form_keeps p before st y i h = go p.way p.kind p.form p.name h
  where
    plain : (x : Layout) → Is (Ok (x, st)) y → Inv y.1
    plain x e = subst (λ (z : Layout × State). Inv z.1) (same_ok (x, st) y e) i

    typed : (t : TypeTree) → formed t st ≡ Ok y → Inv y.1
    typed t e = formed_keeps t st y i e

    go : (w : Option Way) (k : Option NetWord) (t : Option TypeTree) (n : Word) → port_form (record { way = w; kind = k; form = t; name = n }) before st ≡ Ok y → Inv y.1
    go None None None n e = plain before e
    go None None (Some t) n e = typed t e
    go None (Some k) None n e = plain (scalar false) e
    go None (Some k) (Some t) n e = typed t e
    go (Some w) None None n e = plain (scalar false) e
    go (Some w) None (Some t) n e = typed t e
    go (Some w) (Some k) None n e = plain (scalar false) e
    go (Some w) (Some k) (Some t) n e = typed t e

ports_keep : (top : Bool) (before : Way) (x : Layout) (all : List Port) (st : State) (y : List OpenPort × State) → Inv st → header_ports top before x all st ≡ Ok y → Inv y.1
unfolding header_ports
ports_keep top before x [] st y i h = subst (λ (z : List OpenPort × State). Inv z.1) (same_ok ([], st) y h) i
ports_keep top before x (p ∷ more) st y i h =
    let a = bind_ok (port_form p x st) _ y h in
    let b = bind_ok (add_port top (or_way p.way before) a.0.0 p.name a.0.1) _ y a.2 in
    let c = bind_ok (header_ports top (or_way p.way before) a.0.0 more b.0.1) _ y b.2 in
    let form = port_form_keeps p x st a.0 i a.1 in
    let one = port_keeps top (or_way p.way before) a.0.0 p.name a.0.1 b.0 form b.1 in
    subst (λ (z : List OpenPort × State). Inv z.1) (same_ok (b.0.0 ∷ c.0.0, c.0.1) y c.2) (ports_keep top (or_way p.way before) a.0.0 more b.0.1 c.0 one c.1)

-- ---- instances

begun_named : (m : Known) (path : Name) (parent : ℕ) (params : List Given) (st : State) → IsText path → Inv st → Inv (begun m path parent params st)
begun_named m path parent params st g i =
    let x : Level = record { path = path; module_number = m.number; parent = parent; around = record { level = 0; nets = 0; consts = m.above } ∷ []; nets = []; consts = [] } in
    (All-push HasText st.levels x i.0 g, All-nil OpensText, i.2)

instance_keeps : (top : Bool) (m : Module) (at : Front) (pins : List Connection) → Keeps (instance_walk top m at pins)
instance_keeps top m at pins st last i h =
    let a = bind_ok (header_params param_word.Parameter kept m.params st) _ last h in
    let b = bind_ok (header_ports top way.Input (scalar false) (ports_of m) a.0) _ last a.2 in
    let found = ports_keep top way.Input (scalar false) (ports_of m) a.0 b.0 (header_keeps param_word.Parameter kept m.params st a.0 i a.1) b.1 in
    all_keep (λ x. (act x).item) m.items (λ x. (act_keeps x).item) (record b.0.1 { works = b.0.1.works ++ port_works at pins b.0.0 }) last found b.2

children_keep : (f : Child → Walk) → ((c : Child) → OpensText c → Keeps (f c)) → (all : List Child) → All OpensText all → Keeps (walk_all f all)
unfolding walk_all
children_keep f k [] g st last i h = subst Inv (same_ok st last h) i
children_keep f k (c ∷ more) g st last i h =
    let b = bind_ok (f c st) (walk_all f more) last h in
    children_keep f k more (All-tail OpensText c more g) b.0 last (k c (All-head OpensText c more g) st b.0 i b.1) b.2

below_keeps : (f : Child → Walk) → ((c : Child) → OpensText c → Keeps (f c)) → Keeps (below f)
below_keeps f k st last i h = children_keep f k st.children i.1 (record st { children = [] }) last (i.0, All-nil OpensText, i.2) h

child_walk_keeps : (deep : ℕ) (all : Library) (c : Child) → OpensText c → Keeps (child deep all c)
unfolding child
child_walk_keeps zero all c t st last i h = cc
child_walk_keeps (suc deep) all c t st last i h =
    let a = bind_ok (module_of all c) _ last h in
    let b = bind_ok (connections (seen_at st.levels c.at) (open_params a.0.tree) c.params) _ last a.2 in
    let d = bind_ok (connections (seen_at st.levels c.at) (port_texts (ports_of a.0.tree)) c.pins) _ last b.2 in
    let e = bind_ok (count_instance c st) _ last d.2 in
    let counted : Inv e.0 = subst Inv (provided_ok _ _ e.0 e.1) i in
    let now : State = begun a.0 c.path c.at.level (given_by c.at b.0) e.0 in
    let f = bind_ok (instance_walk false a.0.tree c.at d.0 now) _ last e.2 in
    let own : Inv f.0 = instance_keeps false a.0.tree c.at d.0 now f.0 (begun_named a.0 c.path c.at.level (given_by c.at b.0) e.0 t counted) f.1 in
    let g = bind_ok (below (child deep all) f.0) _ last f.2 in
    subst Inv (same_ok _ last g.2) (below_keeps (child deep all) (child_walk_keeps deep all) f.0 g.0 own g.1)

-- ---- the file level, and the whole

library_keeps : (parts : List SourcePart) (all : Library) (st : State) (y : Library × State) → Inv st → library parts all st ≡ Ok y → Inv y.1
unfolding library
library_keeps [] all st y i h = subst (λ (z : Library × State). Inv z.1) (same_ok (all, st) y h) i
library_keeps (source_part.Module m ∷ more) all st y i h =
    let b = bind_ok (provided (fault_if (is_there (module_named m.name.text all)) twice m.name.place) (record { tree = m; number = length all; above = (here st).consts })) _ y h in
    library_keeps more (all ++ b.0 ∷ []) st y i b.2
library_keeps (source_part.Typedef d ∷ more) all st y i h = let b = bind_ok (add_typedef d st) _ y h in library_keeps more all b.0 y (typedef_keeps d st b.0 i b.1) b.2
library_keeps (source_part.Param p ∷ more) all st y i h = let b = bind_ok (add_params p st) _ y h in library_keeps more all b.0 y (params_keep p st b.0 i b.1) b.2

file_named : Inv file_state
file_named = (All-cons HasText no_level [] no_text (All-nil HasText), All-nil OpensText, All-nil HasPath)

walked : (source : Source) (top : Option Name) (st : State) → scopes source top ≡ Ok st → Inv st
walked source top st h =
    let a = bind_ok (library source.parts [] file_state) _ st h in
    let b = bind_ok (top_module a.0.0 top) _ st a.2 in
    let file : Inv a.0.1 = library_keeps source.parts [] file_state a.0 file_named a.1 in
    let now : State = begun b.0 [] 0 [] a.0.1 in
    let c = bind_ok (instance_walk true b.0.tree (here a.0.1) [] now) _ st b.2 in
    let own : Inv c.0 = instance_keeps true b.0.tree (here a.0.1) [] now c.0 (begun_named b.0 [] 0 [] a.0.1 no_text file) c.1 in
    below_keeps (child deepest a.0.0) (child_walk_keeps deepest a.0.0) c.0 st own c.2

pub wires_have_parts : (source : Source) (top : Option Name) (st : State) → scopes source top ≡ Ok st → HaveParts st.wires
wires_have_parts source top st h = (walked source top st h).2

pub wires_are_printed : (source : Source) (top : Option Name) (st : State) → scopes source top ≡ Ok st → HavePaths st.wires
wires_are_printed source top st h = All-weaker HasPath (λ (w : Signal). IsPath w.path) (λ w g. is_path w.path g) st.wires (wires_have_parts source top st h)
