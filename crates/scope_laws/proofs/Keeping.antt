-- Each step of a walk through the items of a design keeps it so that each signal of a scope is a wire.
use Rattle.std.proofs.Common.{◌≡◌, ℕ, zero, suc, Bool, true, false, ◌&&◌, List, [], ◌∷◌, ◌++◌, length, Option, Some, None, Ok, refl, sym, ap, ◌∙◌, subst}
use mathlib.Core.Former.{Count}
use Rattle.fourvec.specs.declared.Bit.{Bit}
use Rattle.sv_outside.specs.declared.refusal.Place.{Place}
use Rattle.sv_tree.specs.declared.word.Word.{Word}
use Rattle.sv_tree.specs.declared.exprs.Expr.{Expr}
use Rattle.sv_tree.specs.declared.forms.TypeTree.{TypeTree}
use Rattle.sv_tree.specs.declared.forms.Typedef.{Typedef as TypedefTree}
use Rattle.sv_tree.specs.declared.design.ParamWord.{ParamWord}
use Rattle.sv_tree.specs.declared.design.ParamWord.TheVariants as param_word
use Rattle.sv_tree.specs.declared.design.ParPort.{ParPort}
use Rattle.sv_tree.specs.declared.design.Param.{Param as ParamTree}
use Rattle.sv_tree.specs.declared.design.Way.{Way}
use Rattle.sv_tree.specs.declared.design.Way.TheVariants as way
use Rattle.sv_tree.specs.declared.design.NetWord.{NetWord}
use Rattle.sv_tree.specs.declared.design.Port.{Port}
use Rattle.sv_tree.specs.declared.design.AssignPair.{AssignPair}
use Rattle.sv_tree.specs.declared.design.One.{One}
use Rattle.sv_tree.specs.declared.design.Inst.{Inst as InstTree}
use Rattle.sv_tree.specs.declared.design.Module.{Module}
use Rattle.sv_tree.specs.declared.design.Source.{Source}
use Rattle.sv_tree.specs.declared.design.SourcePart.{SourcePart}
use Rattle.sv_tree.specs.declared.design.SourcePart.TheVariants as source_part
use Rattle.sv_tree.specs.declared.design.Item.{Item, Net, Variable, Typedef, Param, Genvar, Assign, Always, Inst, For', If', Generate', Row_of-Item, end_of-Item, more_of-Item, end_of-Gen, more_of-Gen, Held-Item-If-3, None', Some'}
use Rattle.sv_tree.specs.declared.design.Gen.{Gen, Block', Single'}
use Rattle.sv_outside.specs.declared.text.Signal.{Signal}
use Rattle.sv_meaning.specs.Faults.{Judged, provided, ◌>>=◌, fault_if, twice}
use Rattle.sv_meaning.specs.Layouts.{Name, Entry, Layout, scalar, width, Scope, What, type_is, signal_is, genvar_is, of_wires, find}
use Rattle.sv_meaning.specs.Forms.{Declared, Formed, entry_of, form}
use Rattle.sv_meaning.specs.Values.{mean}
use Rattle.sv_meaning.specs.Deeds.{index_entry, turns, fixed_truth}
use Rattle.sv_meaning.specs.Params.{Connection, connections, ParamKind, kept, param_kind, value_as}
use Rattle.sv_hierarchy.specs.Scopes.{Front, State, Walk, stay, then_walk, here, Task, assigning, running, Child, seen_at, genvar_faults, open_params, port_texts, is_there, module_named, Given, walk_all, declare_at, declare, with_const, with_net, see_const, add_constant, add_constants, with_wire, add_wire, path_of, formed, with_form, with_form_or_bit, add_typedef, meant, given_to, seen, add_param, add_param_item, add_params, add_genvar, add_work, add_assignment, add_child, inner, enclosed, block_name, block_place, block_walk, turn_name, count_turn, turn_walk, Body, turns_walk, loop_walk, Act, Branch, act_of, chosen_branch, conditional, numbered, body_of, act, acts, under, under_else, word_or, kind_or, header_params, OpenPort, is_input, or_way, add_port, port_form, header_ports, ports_of, Known, Library, begun, port_works, instance_walk, given_by, module_of, count_instance, below, child, file_state, library, top_module, deepest, scopes}
use Rattle.scope_laws.proofs.Good.{IsGood, AreGood, LevelsAreGood, none_good, one_good, both_good, levels_wider, last_good, levels_push, levels_with, IsPort, ArePorts, TaskIsGood, WorksAreGood, port_wider, works_wider, works_both, works_one, port_works_good}
use Rattle.scope_laws.proofs.Plain.{same_ok, bind_ok, provided_ok, IsPlain, ArePlain, form_plain, value_plain}

abbrev pub Inv : State → Type 0
Inv st = LevelsAreGood st.wires st.levels × WorksAreGood st.wires st.works

abbrev pub Keeps : Walk → Type 0
Keeps f = (st last : State) → Inv st → f st ≡ Ok last → Inv last

-- ---- steps together

then_keeps : (st last : State) (j : Judged State) (g : Walk) → ((mid : State) → j ≡ Ok mid → Inv mid) → Keeps g → (j >>= g) ≡ Ok last → Inv last
then_keeps st last j g f k h = let b = bind_ok j g last h in k b.0 last (f b.0 b.1) b.2

pub all_keep : {A : Type 0} (f : A → Walk) (all : List A) → ((x : A) → Keeps (f x)) → Keeps (walk_all f all)
unfolding walk_all
all_keep f [] k st last i h = subst Inv (same_ok st last h) i
all_keep f (x ∷ more) k st last i h = let b = bind_ok (f x st) (walk_all f more) last h in all_keep f more k b.0 last (k x st b.0 i b.1) b.2

-- ---- declarations

declared : (p : Place) (n : Name) → Keeps (declare_at p n)
declared p n st last i h = subst Inv (provided_ok _ _ last h) i

constant_seen : (e : Entry) (st : State) → Inv st → IsGood st.wires e.1 → Inv (see_const e st)
constant_seen e st i g = (levels_with st.wires st.me (with_const e) st.levels (λ x h. record { nets = h.nets; consts = both_good st.wires x.consts (e ∷ []) h.consts (one_good st.wires e g) }) i.0, i.1)

constant_keeps : (d : Declared) → IsPlain d.1 → Keeps (add_constant d)
constant_keeps d p st last i h =
    let b = bind_ok (declare d.0 st) (λ s. Ok (see_const (entry_of d) s)) last h in
    let s : State = b.0 in
    subst Inv (same_ok (see_const (entry_of d) s) last b.2) (constant_seen (entry_of d) s (declared d.0.place d.0.text st s i b.1) (p s.wires))

constants_keep : (all : List Declared) → ArePlain all → Keeps (add_constants all)
unfolding walk_all ArePlain
constants_keep [] p st last i h = subst Inv (same_ok st last h) i
constants_keep (d ∷ more) p st last i h = let b = bind_ok (add_constant d st) (walk_all add_constant more) last h in constants_keep more p.1 b.0 last (constant_keeps d p.0 st b.0 i b.1) b.2

wire_seen : (input : Bool) (x : Layout) (n : Name) (s : State) → Inv s → Inv (with_wire input x n s)
wire_seen input x n s i =
    let w : Signal = record { path = path_of s n; width = width x; input = input } in
    let e : Entry = (n, signal_is of_wires (length s.wires) x) in (
      levels_with (s.wires ++ w ∷ []) s.me (with_net e) s.levels
          (λ y h. record { nets = both_good (s.wires ++ w ∷ []) y.nets (e ∷ []) h.nets (one_good (s.wires ++ w ∷ []) e (last_good s.wires w x refl)); consts = h.consts }) (levels_wider s.wires w s.levels i.0),
      works_wider s.wires w s.works i.1,
    )

wire_keeps : (input : Bool) (x : Layout) (w : Word) → Keeps (add_wire input x w)
wire_keeps input x w st last i h =
    let b = bind_ok (declare w st) _ last h in
    let s : State = b.0 in
    subst Inv (provided_ok _ (with_wire input x w.text s) last b.2) (wire_seen input x w.text s (declared w.place w.text st s i b.1))

formed_keeps : (t : TypeTree) (st : State) (y : Layout × State) → Inv st → formed t st ≡ Ok y → Inv y.1
formed_keeps t st y i h =
    let a = bind_ok (form (seen st) t) _ y h in
    let x : Formed = a.0 in
    let b = bind_ok (add_constants x.1 st) (λ s. Ok (x.0, s)) y a.2 in
    let s : State = b.0 in
    subst (λ (z : Layout × State). Inv z.1) (same_ok (x.0, s) y b.2) (constants_keep x.1 (form_plain (seen st) t x a.1) st s i b.1)

form_keeps : (t : TypeTree) (f : Layout → Walk) → ((x : Layout) → Keeps (f x)) → Keeps (with_form t f)
form_keeps t f k st last i h =
    let b = bind_ok (formed t st) (λ x. f x.0 x.1) last h in
    k b.0.0 b.0.1 last (formed_keeps t st b.0 i b.1) b.2

form_or_bit_keeps : (t : Option TypeTree) (f : Layout → Walk) → ((x : Layout) → Keeps (f x)) → Keeps (with_form_or_bit t f)
form_or_bit_keeps None f k = k (scalar false)
form_or_bit_keeps (Some t) f k = form_keeps t f k

typedef_keeps : (d : TypedefTree) → Keeps (add_typedef d)
typedef_keeps d = form_keeps d.form (λ x. add_constant (d.name, type_is x)) (λ x. constant_keeps (d.name, type_is x) (λ wires. tt))

param_keeps : (word : ParamWord) (k : ParamKind) (w : Word) (x : Expr) → Keeps (add_param word k w x)
param_keeps word k w x st last i h =
    let b = bind_ok (value_as k (meant st.levels (given_to word w x st))) (λ v. add_constant (w, v) st) last h in
    let v : What = b.0 in
    constant_keeps (w, v) (value_plain k (meant st.levels (given_to word w x st)) v b.1) st last i b.2

params_keep : (p : ParamTree) → Keeps (add_params p)
params_keep p st last i h =
    let b = bind_ok (param_kind (seen st) p.form) _ last h in
    all_keep (add_param_item p.word b.0) p.list (λ x. param_keeps p.word b.0 x.name x.value) st last i b.2

genvar_keeps : (w : Word) → Keeps (add_genvar w)
genvar_keeps w = constant_keeps (w, genvar_is) (λ wires. tt)

work_keeps : (t : Task) → ((wires : List Signal) → TaskIsGood wires t) → Keeps (add_work t)
work_keeps t g st last i h =
    let now : State = record st { works = st.works ++ record { at = here st; task = t } ∷ [] } in
    subst Inv (same_ok now last h) (i.0, works_both st.wires st.works (record { at = here st; task = t } ∷ []) i.1 (works_one st.wires (here st) t (g st.wires)))

child_keeps : (c : InstTree) (o : One) → Keeps (add_child c o)
child_keeps c o st last i h =
    let b = bind_ok (declare o.name st) _ last h in
    subst Inv (same_ok _ last b.2) (declared o.name.place o.name.text st b.0 i b.1)

-- ---- generate blocks

inside : (part : Name) (more : List Entry) (st : State) → AreGood st.wires more → Inv st → Inv (inner part more st)
inside part more st g i = (levels_push st.wires st.levels _ i.0 (record { nets = g; consts = none_good st.wires }), i.1)

enclosed_keeps : (part : Name) (more : List Entry) (body : Walk) → ((wires : List Signal) → AreGood wires more) → Keeps body → Keeps (enclosed part more body)
enclosed_keeps part more body g k st last i h =
    let b = bind_ok (body (inner part more st)) _ last h in
    subst Inv (same_ok _ last b.2) (k (inner part more st) b.0 (inside part more st (g st.wires) i) b.1)

block_keeps : (label : Option Word) (p : Place) (n : ℕ) (body : Walk) → Keeps body → Keeps (block_walk label p n body)
block_keeps label p n body k st last i h =
    let b = bind_ok (declare_at (block_place label p) (block_name label n) st) _ last h in
    enclosed_keeps (block_name label n) [] body none_good k b.0 last (declared (block_place label p) (block_name label n) st b.0 i b.1) b.2

turn_keeps : (p : Place) (g v : Name) (body : Walk) (bits : List Bit) → Keeps body → Keeps (turn_walk p g v body bits)
turn_keeps p g v body bits k st last i h =
    let b = bind_ok (count_turn p st) _ last h in
    enclosed_keeps (turn_name g bits) (index_entry v bits ∷ []) body (λ wires. one_good wires (index_entry v bits) tt) k b.0 last (subst Inv (provided_ok _ _ b.0 b.1) i) b.2

turns_keep : (b : Body) (v : Name) (n : ℕ) (all : List (List Bit)) → Keeps b.items → Keeps (turns_walk b v n all)
turns_keep b v n [] k st last i h = subst Inv (same_ok st last h) i
turns_keep b v n (x ∷ more) k st last i h =
    let d = bind_ok (declare_at (block_place b.label b.start) (block_name b.label n) st) _ last h in
    all_keep (turn_walk b.loop (block_name b.label n) v b.items) (x ∷ more) (λ bits. turn_keeps b.loop (block_name b.label n) v b.items bits k) d.0 last
    (declared (block_place b.label b.start) (block_name b.label n) st d.0 i d.1) d.2

loop_keeps : (header : Bool) (v : Word) (b : Body) (values : Scope → Judged (List (List Bit))) (n : ℕ) → Keeps b.items → Keeps (loop_walk header v b values n)
loop_keeps header v b values n k st last i h =
    let d = bind_ok (provided (genvar_faults header v (find v.text (seen st))) (seen st) >>= values) (λ all. turns_walk b v.text n all st) last h in
    turns_keep b v.text n d.0 k st last i d.2

-- ---- items

stay_keeps : Keeps stay
stay_keeps st last i h = subst Inv (same_ok st last h) i

two_keep : (f g : Walk) → Keeps f → Keeps g → Keeps (then_walk f g)
two_keep f g a b st last i h = let d = bind_ok (f st) g last h in b d.0 last (a st d.0 i d.1) d.2

pub record KeepsAct (a : Act) : Type 0 where
  pub item : Keeps a.item
  pub branch : (p : Place) (n : ℕ) → Keeps (a.branch p n)

pub record KeepsBranch (b : Branch) : Type 0 where
  pub body : Keeps b.body
  pub branch : (n : ℕ) → Keeps (b.branch n)

of_walk : (f : Walk) → Keeps f → KeepsAct (act_of f)
of_walk f k = record { item = k; branch = λ p n. block_keeps None p n f k }

chosen_keeps : (b : Bool) (x : Branch) (other : ℕ → Walk) (n : ℕ) → KeepsBranch x → ((n : ℕ) → Keeps (other n)) → Keeps (chosen_branch b x other n)
chosen_keeps true x other n k g = k.branch n
chosen_keeps false x other n k g = g n

conditional_keeps : (c : Expr) (x : Branch) (other : ℕ → Walk) (n : ℕ) → KeepsBranch x → ((n : ℕ) → Keeps (other n)) → Keeps (conditional c x other n)
conditional_keeps c x other n k g st last i h = let b = bind_ok (fixed_truth (mean (seen st) c)) (λ b. chosen_branch b x other n st) last h in chosen_keeps b.0 x other n k g st last i b.2

numbered_keeps : (f : ℕ → Walk) → ((n : ℕ) → Keeps (f n)) → Keeps (numbered f)
numbered_keeps f k st last i h = k (suc st.constructs) (record st { constructs = suc st.constructs }) last i h

mutual
  unfolding act

  pub act_keeps : (x : Item) → KeepsAct (act x)
  act_keeps (Net word t names) = of_walk _ (form_or_bit_keeps t (λ x. walk_all (add_wire false x) names) (λ x. all_keep (add_wire false x) names (wire_keeps false x)))
  act_keeps (Variable t names) = of_walk _ (form_keeps t (λ x. walk_all (add_wire false x) names) (λ x. all_keep (add_wire false x) names (wire_keeps false x)))
  act_keeps (Typedef d) = of_walk _ (typedef_keeps d)
  act_keeps (Param p) = of_walk _ (params_keep p)
  act_keeps (Genvar names) = of_walk _ (all_keep add_genvar names genvar_keeps)
  act_keeps (Assign all) = of_walk _ (all_keep add_assignment all (λ (p : AssignPair). work_keeps (assigning p.target p.value) (λ wires. tt)))
  act_keeps (Always b) = of_walk _ (work_keeps (running b) (λ wires. tt))
  act_keeps (Inst i) = of_walk _ (all_keep (add_child i) i.list (child_keeps i))
  act_keeps (Generate' s all) = of_walk _ (acts_keep all)
  act_keeps (For' p header v start test next r (more_of-Gen x end_of-Gen)) =
      of_walk _ (numbered_keeps (loop_walk header v (body_of p (under x)) (λ at. turns p at v.text start test next)) (λ n. loop_keeps header v (body_of p (under x)) (λ at. turns p at v.text start test next) n (under_keeps x).body))
  act_keeps (If' p c r (more_of-Gen x end_of-Gen) other) = record {
    item = numbered_keeps (conditional c (under x) (under_else other)) (λ n. conditional_keeps c (under x) (under_else other) n (under_keeps x) (else_keeps other));
    branch = λ q n. conditional_keeps c (under x) (under_else other) n (under_keeps x) (else_keeps other);
  }

  acts_keep : {m : Count} (all : Row_of-Item m) → Keeps (acts all)
  acts_keep end_of-Item = stay_keeps
  acts_keep (more_of-Item x all) = two_keep (act x).item (acts all) (act_keeps x).item (acts_keep all)

  under_keeps : (x : Gen) → KeepsBranch (under x)
  under_keeps (Block' p label s all e) = record { body = acts_keep all; branch = λ n. block_keeps label p n (acts all) (acts_keep all) }
  under_keeps (Single' p r (more_of-Item x end_of-Item)) = record { body = (act_keeps x).item; branch = (act_keeps x).branch p }

  else_keeps : (x : Held-Item-If-3) (n : ℕ) → Keeps (under_else x n)
  else_keeps None' n = stay_keeps
  else_keeps (Some' r (more_of-Gen x end_of-Gen)) n = (under_keeps x).branch n

-- ---- headers

pub header_keeps : (w : ParamWord) (k : ParamKind) (all : List ParPort) → Keeps (header_params w k all)
unfolding header_params
header_keeps w k [] st last i h = subst Inv (same_ok st last h) i
header_keeps w k (p ∷ more) st last i h =
    let a = bind_ok (kind_or p.word p.form k (seen st)) _ last h in
    let b = bind_ok (add_param (word_or p.word w) a.0 p.name p.value st) _ last a.2 in
    header_keeps (word_or p.word w) a.0 more b.0 last (param_keeps (word_or p.word w) a.0 p.name p.value st b.0 i b.1) b.2

-- ---- the wires of ports

constant_wires : (d : Declared) (st last : State) → add_constant d st ≡ Ok last → last.wires ≡ st.wires
constant_wires d st last h =
    let b = bind_ok (declare d.0 st) (λ s. Ok (see_const (entry_of d) s)) last h in
    sym (ap (λ (z : State). z.wires) (same_ok (see_const (entry_of d) b.0) last b.2)) ∙ sym (ap (λ (z : State). z.wires) (provided_ok _ _ b.0 b.1))

constants_wires : (all : List Declared) (st last : State) → add_constants all st ≡ Ok last → last.wires ≡ st.wires
unfolding walk_all
constants_wires [] st last h = sym (ap (λ (z : State). z.wires) (same_ok st last h))
constants_wires (d ∷ more) st last h = let b = bind_ok (add_constant d st) (walk_all add_constant more) last h in constants_wires more b.0 last b.2 ∙ constant_wires d st b.0 b.1

pub formed_wires : (t : TypeTree) (st : State) (y : Layout × State) → formed t st ≡ Ok y → y.1.wires ≡ st.wires
formed_wires t st y h =
    let a = bind_ok (form (seen st) t) _ y h in
    let b = bind_ok (add_constants a.0.1 st) (λ s. Ok (a.0.0, s)) y a.2 in
    sym (ap (λ (z : Layout × State). z.1.wires) (same_ok (a.0.0, b.0) y b.2)) ∙ constants_wires a.0.1 st b.0 b.1

-- what an added wire leaves
pub record Added (x : Layout) (st last : State) : Type 0 where
  pub wire : Signal
  pub is : last.wires ≡ st.wires ++ wire ∷ []
  pub wide : wire.width ≡ width x

pub wire_added : (input : Bool) (x : Layout) (w : Word) (st last : State) → add_wire input x w st ≡ Ok last → Added x st last
wire_added input x w st last h =
    let b = bind_ok (declare w st) _ last h in
    let same : st.wires ≡ b.0.wires = ap (λ (z : State). z.wires) (provided_ok _ _ b.0 b.1) in
    record {
      wire = record { path = path_of b.0 w.text; width = width x; input = input };
      is = sym (ap (λ (z : State). z.wires) (provided_ok _ (with_wire input x w.text b.0) last b.2)) ∙ ap (λ (xs : List Signal). xs ++ record { path = path_of b.0 w.text; width = width x; input = input } ∷ []) (sym same);
      wide = refl;
    }

abbrev Wider : List Signal → List Signal → Type 0
Wider a b = (n : ℕ) (x : Layout) → IsGood a (signal_is of_wires n x) → IsGood b (signal_is of_wires n x)

added_wider : (x : Layout) (st last : State) → Added x st last → Wider st.wires last.wires
added_wider x st last a n y g = subst (λ ws. IsGood ws (signal_is of_wires n y)) (sym a.is) (port_wider st.wires a.wire n y g)

abbrev Ported : State → OpenPort × State → Type 0
Ported st y = Inv y.1 × Wider st.wires y.1.wires × IsPort y.1.wires y.0

port_keeps : (top : Bool) (d : Way) (x : Layout) (w : Word) (st : State) (y : OpenPort × State) → Inv st → add_port top d x w st ≡ Ok y → Ported st y
port_keeps top d x w st y i h =
    let b = bind_ok (add_wire (top && is_input d) x w st) _ y h in
    let a = wire_added (top && is_input d) x w st b.0 b.1 in
    let p : OpenPort = record { name = w.text; way = d; wire = length st.wires; layout = x } in
    subst (Ported st) (same_ok (p, b.0) y b.2) (
      wire_keeps (top && is_input d) x w st b.0 i b.1,
      added_wider x st b.0 a,
      subst (λ ws. IsPort ws p) (sym a.is) (last_good st.wires a.wire x a.wide),
    )

abbrev Is : {A : Type 0} → Judged A → A → Type 0
Is j y = j ≡ Ok y

abbrev Taken : State → Layout × State → Type 0
Taken st y = Inv y.1 × (y.1.wires ≡ st.wires)

port_form_keeps : (p : Port) (before : Layout) (st : State) (y : Layout × State) → Inv st → port_form p before st ≡ Ok y → Taken st y
port_form_keeps p before st y i h = go p.way p.kind p.form p.name h
  where
    plain : (x : Layout) → Is (Ok (x, st)) y → Taken st y
    plain x e = subst (Taken st) (same_ok (x, st) y e) (i, refl)

    typed : (t : TypeTree) → formed t st ≡ Ok y → Taken st y
    typed t e = (formed_keeps t st y i e, formed_wires t st y e)

    go : (w : Option Way) (k : Option NetWord) (t : Option TypeTree) (n : Word) → port_form (record { way = w; kind = k; form = t; name = n }) before st ≡ Ok y → Taken st y
    go None None None n e = plain before e
    go None None (Some t) n e = typed t e
    go None (Some k) None n e = plain (scalar false) e
    go None (Some k) (Some t) n e = typed t e
    go (Some w) None None n e = plain (scalar false) e
    go (Some w) None (Some t) n e = typed t e
    go (Some w) (Some k) None n e = plain (scalar false) e
    go (Some w) (Some k) (Some t) n e = typed t e

abbrev PortsFound : State → List OpenPort × State → Type 0
PortsFound st y = Inv y.1 × Wider st.wires y.1.wires × ArePorts y.1.wires y.0

ports_keep : (top : Bool) (before : Way) (x : Layout) (all : List Port) (st : State) (y : List OpenPort × State) → Inv st → header_ports top before x all st ≡ Ok y → PortsFound st y
unfolding header_ports ArePorts
ports_keep top before x [] st y i h = subst (PortsFound st) (same_ok ([], st) y h) (i, (λ n z g. g), tt)
ports_keep top before x (p ∷ more) st y i h =
    let a = bind_ok (port_form p x st) _ y h in
    let b = bind_ok (add_port top (or_way p.way before) a.0.0 p.name a.0.1) _ y a.2 in
    let c = bind_ok (header_ports top (or_way p.way before) a.0.0 more b.0.1) _ y b.2 in
    let form = port_form_keeps p x st a.0 i a.1 in
    let one = port_keeps top (or_way p.way before) a.0.0 p.name a.0.1 b.0 form.0 b.1 in
    let rest = ports_keep top (or_way p.way before) a.0.0 more b.0.1 c.0 one.0 c.1 in
    subst (PortsFound st) (same_ok (b.0.0 ∷ c.0.0, c.0.1) y c.2) (
      rest.0,
      (λ n z g. rest.1 n z (one.1 n z (subst (λ ws. IsGood ws (signal_is of_wires n z)) (sym form.1) g))),
      (rest.1 b.0.0.wire b.0.0.layout one.2, rest.2),
    )

-- ---- instances

pub begun_good : (m : Known) (path : Name) (parent : ℕ) (params : List Given) (st : State) → Inv st → Inv (begun m path parent params st)
begun_good m path parent params st i = (levels_push st.wires st.levels _ i.0 (record { nets = none_good st.wires; consts = none_good st.wires }), i.1)

pub instance_keeps : (top : Bool) (m : Module) (at : Front) (pins : List Connection) → Keeps (instance_walk top m at pins)
instance_keeps top m at pins st last i h =
    let a = bind_ok (header_params param_word.Parameter kept m.params st) _ last h in
    let b = bind_ok (header_ports top way.Input (scalar false) (ports_of m) a.0) _ last a.2 in
    let found = ports_keep top way.Input (scalar false) (ports_of m) a.0 b.0 (header_keeps param_word.Parameter kept m.params st a.0 i a.1) b.1 in
    all_keep (λ x. (act x).item) m.items (λ x. (act_keeps x).item) (record b.0.1 { works = b.0.1.works ++ port_works at pins b.0.0 }) last
    (found.0.0, works_both b.0.1.wires b.0.1.works (port_works at pins b.0.0) found.0.1 (port_works_good b.0.1.wires at pins b.0.0 found.2)) b.2

below_keeps : (f : Child → Walk) → ((c : Child) → Keeps (f c)) → Keeps (below f)
below_keeps f k st last i h = all_keep f st.children k (record st { children = [] }) last i h

child_walk_keeps : (deep : ℕ) (all : Library) (c : Child) → Keeps (child deep all c)
unfolding child
child_walk_keeps zero all c st last i h = cc
child_walk_keeps (suc deep) all c st last i h =
    let a = bind_ok (module_of all c) _ last h in
    let b = bind_ok (connections (seen_at st.levels c.at) (open_params a.0.tree) c.params) _ last a.2 in
    let d = bind_ok (connections (seen_at st.levels c.at) (port_texts (ports_of a.0.tree)) c.pins) _ last b.2 in
    let e = bind_ok (count_instance c st) _ last d.2 in
    let counted : Inv e.0 = subst Inv (provided_ok _ _ e.0 e.1) i in
    let f = bind_ok (instance_walk false a.0.tree c.at d.0 (begun a.0 c.path c.at.level (given_by c.at b.0) e.0)) _ last e.2 in
    let own : Inv f.0 = instance_keeps false a.0.tree c.at d.0 (begun a.0 c.path c.at.level (given_by c.at b.0) e.0) f.0 (begun_good a.0 c.path c.at.level (given_by c.at b.0) e.0 counted) f.1 in
    let g = bind_ok (below (child deep all) f.0) _ last f.2 in
    subst Inv (same_ok _ last g.2) (below_keeps (child deep all) (child_walk_keeps deep all) f.0 g.0 own g.1)

-- ---- the file level, and the whole

pub library_keeps : (parts : List SourcePart) (all : Library) (st : State) (y : Library × State) → Inv st → library parts all st ≡ Ok y → Inv y.1
unfolding library
library_keeps [] all st y i h = subst (λ (z : Library × State). Inv z.1) (same_ok (all, st) y h) i
library_keeps (source_part.Module m ∷ more) all st y i h =
    let b = bind_ok (provided (fault_if (is_there (module_named m.name.text all)) twice m.name.place) (record { tree = m; number = length all; above = (here st).consts })) _ y h in
    library_keeps more (all ++ b.0 ∷ []) st y i b.2
library_keeps (source_part.Typedef d ∷ more) all st y i h = let b = bind_ok (add_typedef d st) _ y h in library_keeps more all b.0 y (typedef_keeps d st b.0 i b.1) b.2
library_keeps (source_part.Param p ∷ more) all st y i h = let b = bind_ok (add_params p st) _ y h in library_keeps more all b.0 y (params_keep p st b.0 i b.1) b.2

pub file_good : Inv file_state
unfolding LevelsAreGood AreGood WorksAreGood
file_good = ((record { nets = tt; consts = tt }, tt), tt)

pub scopes_good : (source : Source) (top : Option Name) (st : State) → scopes source top ≡ Ok st → Inv st
scopes_good source top st h =
    let a = bind_ok (library source.parts [] file_state) _ st h in
    let b = bind_ok (top_module a.0.0 top) _ st a.2 in
    let file : Inv a.0.1 = library_keeps source.parts [] file_state a.0 file_good a.1 in
    let c = bind_ok (instance_walk true b.0.tree (here a.0.1) [] (begun b.0 [] 0 [] a.0.1)) _ st b.2 in
    below_keeps (child deepest a.0.0) (child_walk_keeps deepest a.0.0) c.0 st (instance_keeps true b.0.tree (here a.0.1) [] (begun b.0 [] 0 [] a.0.1) c.0 (begun_good b.0 [] 0 [] a.0.1 file) c.1) c.2
