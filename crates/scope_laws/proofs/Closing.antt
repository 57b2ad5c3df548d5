-- The scopes that an instance stands in are complete where its ports are numbered: each step of a walk leaves the first scopes as they
-- are, and what an instance is connected to is numbered below its ports.
use Rattle.std.proofs.Common.{◌≡◌, ℕ, zero, suc, ◌+◌, ◌<◌, ◌≤◌, Bool, true, false, ◌&&◌, List, [], ◌∷◌, ◌++◌, length, Option, Some, None, Ok, refl, ap, ◌∙◌, subst, arith, length-append, inl, inr}
use mathlib.Core.Former.{Count}
use Rattle.std.specs.List.{Contains}
use Rattle.fourvec.specs.declared.Bit.{Bit}
use Rattle.sv_outside.specs.declared.refusal.Place.{Place}
use Rattle.sv_tree.specs.declared.word.Word.{Word}
use Rattle.sv_tree.specs.declared.exprs.Expr.{Expr}
use Rattle.sv_tree.specs.declared.forms.TypeTree.{TypeTree}
use Rattle.sv_tree.specs.declared.forms.Typedef.{Typedef as TypedefTree}
use Rattle.sv_tree.specs.declared.design.ParamWord.{ParamWord}
use Rattle.sv_tree.specs.declared.design.ParamWord.TheVariants as param_word
use Rattle.sv_tree.specs.declared.design.ParPort.{ParPort}
use Rattle.sv_tree.specs.declared.design.Param.{Param as ParamTree}
use Rattle.sv_tree.specs.declared.design.Way.{Way}
use Rattle.sv_tree.specs.declared.design.Way.TheVariants as way
use Rattle.sv_tree.specs.declared.design.NetWord.{NetWord}
use Rattle.sv_tree.specs.declared.design.Port.{Port}
use Rattle.sv_tree.specs.declared.design.AssignPair.{AssignPair}
use Rattle.sv_tree.specs.declared.design.One.{One}
use Rattle.sv_tree.specs.declared.design.Inst.{Inst as InstTree}
use Rattle.sv_tree.specs.declared.design.Module.{Module}
use Rattle.sv_tree.specs.declared.design.Source.{Source}
use Rattle.sv_tree.specs.declared.design.SourcePart.{SourcePart}
use Rattle.sv_tree.specs.declared.design.SourcePart.TheVariants as source_part
use Rattle.sv_tree.specs.declared.design.Item.{Item, Net, Variable, Typedef, Param, Genvar, Assign, Always, Inst, For', If', Generate', Row_of-Item, end_of-Item, more_of-Item, end_of-Gen, more_of-Gen, Held-Item-If-3, None', Some'}
use Rattle.sv_tree.specs.declared.design.Gen.{Gen, Block', Single'}
use Rattle.sv_meaning.specs.Faults.{Judged, provided, ◌>>=◌, fault_if, twice}
use Rattle.sv_meaning.specs.Layouts.{Name, Entry, Layout, scalar, Scope, What, type_is, signal_is, genvar_is, of_wires, find, NamedSignal, DeclaredIn, Declared as DeclaredSignal}
use Rattle.sv_meaning.specs.Forms.{Declared, Formed, entry_of, form}
use Rattle.sv_meaning.specs.Values.{mean}
use Rattle.sv_meaning.specs.Deeds.{index_entry, turns, fixed_truth}
use Rattle.sv_meaning.specs.Params.{Connection, connections, ParamKind, kept, param_kind, value_as}
use Rattle.sv_hierarchy.specs.Scopes.{Level, Front, State, Walk, stay, then_walk, here, mine, Task, assigning, running, connecting, Standing, Child, fronts_at, seen_at, live_at, genvar_faults, open_params, port_texts, is_there, module_named, Given, walk_all, declare_at, declare, with_const, with_net, see_const, add_constant, add_constants, with_wire, add_wire, formed, with_form, with_form_or_bit, add_typedef, meant, given_to, seen, add_param, add_param_item, add_params, add_genvar, add_work, add_assignment, add_child, child_of, inner, enclosed, block_name, block_place, block_walk, turn_name, count_turn, turn_walk, Body, turns_walk, loop_walk, Act, Branch, act_of, chosen_branch, conditional, numbered, body_of, act, acts, under, under_else, word_or, kind_or, header_params, OpenPort, is_input, or_way, add_port, port_form, header_ports, ports_of, Known, Library, begun, port_works, instance_walk, given_by, module_of, count_instance, below, child, file_state, no_level, library, top_module, deepest, scopes}
use Rattle.scope_laws.proofs.Plain.{same_ok, bind_ok, provided_ok}
use Rattle.scope_laws.proofs.Keeping.{Inv, header_keeps, library_keeps, instance_keeps, begun_good, formed_wires, wire_added, file_good}
use Rattle.scope_laws.proofs.Seen.{live_good, seen_good}
use Rattle.scope_laws.proofs.Above.{AreNear, near_last, LevelsNear, levels_near_wider, levels_near_push, level_near, starts_long, starts_on, NearAt, live_kept, IsBelow, AreBelow, good_below, SeesBelow, StandsAbove, TaskAbove, WorksAbove, works_on, above_both, above_one, PortsFrom, ports_from_lower, port_works_above, ChildrenNear, children_wider, children_last, no_children, Shape, shape_with}

abbrev Held : List Level → List Level → State → Type 0
Held base old st = Shape old st.levels st.me st.children × WorksAbove base st.works

abbrev Holds : Walk → Type 0
Holds f = (base old : List Level) (st last : State) → Held base old st → f st ≡ Ok last → Held base old last

all_hold : {A : Type 0} (f : A → Walk) (all : List A) → ((x : A) → Holds (f x)) → Holds (walk_all f all)
unfolding walk_all
all_hold f [] k base old st last i h = subst (Held base old) (same_ok st last h) i
all_hold f (x ∷ more) k base old st last i h = let b = bind_ok (f x st) (walk_all f more) last h in all_hold f more k base old b.0 last (k x base old st b.0 i b.1) b.2

-- ---- declarations

declared : (p : Place) (n : Name) → Holds (declare_at p n)
declared p n base old st last i h = subst (Held base old) (provided_ok _ _ last h) i

constant_holds : (d : Declared) → Holds (add_constant d)
constant_holds d base old st last i h =
    let b = bind_ok (declare d.0 st) (λ s. Ok (see_const (entry_of d) s)) last h in
    let s : State = b.0 in
    let g = declared d.0.place d.0.text base old st s i b.1 in
    subst (Held base old) (same_ok (see_const (entry_of d) s) last b.2) (shape_with old s.levels s.me s.children (with_const (entry_of d)) (λ x. refl) g.0, g.1)

constants_hold : (all : List Declared) → Holds (add_constants all)
constants_hold all = all_hold add_constant all constant_holds

wire_holds : (input : Bool) (x : Layout) (w : Word) → Holds (add_wire input x w)
wire_holds input x w base old st last i h =
    let b = bind_ok (declare w st) _ last h in
    let s : State = b.0 in
    let g = declared w.place w.text base old st s i b.1 in
    subst (Held base old) (provided_ok _ (with_wire input x w.text s) last b.2)
    (shape_with old s.levels s.me s.children (with_net (w.text, signal_is of_wires (length s.wires) x)) (λ y. refl) g.0, g.1)

formed_holds : (t : TypeTree) (base old : List Level) (st : State) (y : Layout × State) → Held base old st → formed t st ≡ Ok y → Held base old y.1
formed_holds t base old st y i h =
    let a = bind_ok (form (seen st) t) _ y h in
    let x : Formed = a.0 in
    let b = bind_ok (add_constants x.1 st) (λ s. Ok (x.0, s)) y a.2 in
    let s : State = b.0 in
    subst (λ (z : Layout × State). Held base old z.1) (same_ok (x.0, s) y b.2) (constants_hold x.1 base old st s i b.1)

form_holds : (t : TypeTree) (f : Layout → Walk) → ((x : Layout) → Holds (f x)) → Holds (with_form t f)
form_holds t f k base old st last i h =
    let b = bind_ok (formed t st) (λ x. f x.0 x.1) last h in
    k b.0.0 base old b.0.1 last (formed_holds t base old st b.0 i b.1) b.2

form_or_bit_holds : (t : Option TypeTree) (f : Layout → Walk) → ((x : Layout) → Holds (f x)) → Holds (with_form_or_bit t f)
form_or_bit_holds None f k = k (scalar false)
form_or_bit_holds (Some t) f k = form_holds t f k

typedef_holds : (d : TypedefTree) → Holds (add_typedef d)
typedef_holds d = form_holds d.form (λ x. add_constant (d.name, type_is x)) (λ x. constant_holds (d.name, type_is x))

param_holds : (word : ParamWord) (k : ParamKind) (w : Word) (x : Expr) → Holds (add_param word k w x)
param_holds word k w x base old st last i h =
    let b = bind_ok (value_as k (meant st.levels (given_to word w x st))) (λ v. add_constant (w, v) st) last h in
    let v : What = b.0 in
    constant_holds (w, v) base old st last i b.2

params_hold : (p : ParamTree) → Holds (add_params p)
params_hold p base old st last i h =
    let b = bind_ok (param_kind (seen st) p.form) _ last h in
    all_hold (add_param_item p.word b.0) p.list (λ x. param_holds p.word b.0 x.name x.value) base old st last i b.2

genvar_holds : (w : Word) → Holds (add_genvar w)
genvar_holds w = constant_holds (w, genvar_is)

work_holds : (t : Task) → ((base : List Level) (at : Front) → TaskAbove base at t) → Holds (add_work t)
work_holds t g base old st last i h =
    let w : Standing = record { at = here st; task = t } in
    subst (Held base old) (same_ok (record st { works = st.works ++ w ∷ [] }) last h) (i.0, above_both base st.works (w ∷ []) i.1 (above_one base w (g base (here st))))

child_added : (base old : List Level) (c : InstTree) (o : One) (s : State) → Held base old s → Held base old (record s { children = s.children ++ child_of c o s ∷ [] })
child_added base old c o s i =
    let g = i.0 in
    (record { starts = g.starts; behind = g.behind; there = g.there; near = g.near; below = children_last (length s.levels) s.children (child_of c o s) g.below g.there }, i.1)

child_holds : (c : InstTree) (o : One) → Holds (add_child c o)
child_holds c o base old st last i h =
    let b = bind_ok (declare o.name st) _ last h in
    let s : State = b.0 in
    subst (Held base old) (same_ok (record s { children = s.children ++ child_of c o s ∷ [] }) last b.2) (child_added base old c o s (declared o.name.place o.name.text base old st s i b.1))

-- ---- generate blocks

one_longer : (all : List Level) (x : Level) → length (all ++ x ∷ []) ≡ suc (length all)
one_longer all x = let e = length-append all (x ∷ []) in omega (arith, e)

pushed : (old now : List Level) (me : ℕ) (children : List Child) (x : Level) → Shape old now me children → AreNear (length now) x.around → Shape now (now ++ x ∷ []) (length now) children
pushed old now me children x s h =
    let long = one_longer now x in
    record {
      starts = (x ∷ [], refl);
      behind = omega arith;
      there = omega (arith, long);
      near = levels_near_wider (length now) (length (now ++ x ∷ [])) (now ++ x ∷ []) (omega (arith, long)) (levels_near_push (length now) now x s.near h);
      below = children_wider (length now) (length (now ++ x ∷ [])) children (omega (arith, long)) s.below;
    }

left : (old now last : List Level) (me inside : ℕ) (children more : List Child) → Shape old now me children → Shape now last inside more → Shape old last me more
left old now last me inside children more s t =
    let long = starts_long now last t.starts in
    let h = s.there in
    record { starts = starts_on old now last s.starts t.starts; behind = s.behind; there = omega (arith, h, long); near = t.near; below = t.below }

enclosed_holds : (part : Name) (more : List Entry) (body : Walk) → Holds body → Holds (enclosed part more body)
enclosed_holds part more body k base old st last i h =
    let b = bind_ok (body (inner part more st)) _ last h in
    let g = i.0 in
    let seen : AreNear (length st.levels) ((mine st).around ++ here st ∷ []) = near_last (length st.levels) (mine st).around (here st) (level_near (length st.levels) st.levels st.me g.near) g.there in
    let inside = k base st.levels (inner part more st) b.0 (pushed old st.levels st.me st.children _ g seen, i.1) b.1 in
    subst (Held base old) (same_ok _ last b.2) (left old st.levels b.0.levels st.me b.0.me st.children b.0.children g inside.0, inside.1)

block_holds : (label : Option Word) (p : Place) (n : ℕ) (body : Walk) → Holds body → Holds (block_walk label p n body)
block_holds label p n body k base old st last i h =
    let b = bind_ok (declare_at (block_place label p) (block_name label n) st) _ last h in
    enclosed_holds (block_name label n) [] body k base old b.0 last (declared (block_place label p) (block_name label n) base old st b.0 i b.1) b.2

turn_holds : (p : Place) (g v : Name) (body : Walk) (bits : List Bit) → Holds body → Holds (turn_walk p g v body bits)
turn_holds p g v body bits k base old st last i h =
    let b = bind_ok (count_turn p st) _ last h in
    enclosed_holds (turn_name g bits) (index_entry v bits ∷ []) body k base old b.0 last (subst (Held base old) (provided_ok _ _ b.0 b.1) i) b.2

turns_hold : (b : Body) (v : Name) (n : ℕ) (all : List (List Bit)) → Holds b.items → Holds (turns_walk b v n all)
turns_hold b v n [] k base old st last i h = subst (Held base old) (same_ok st last h) i
turns_hold b v n (x ∷ more) k base old st last i h =
    let d = bind_ok (declare_at (block_place b.label b.start) (block_name b.label n) st) _ last h in
    all_hold (turn_walk b.loop (block_name b.label n) v b.items) (x ∷ more) (λ bits. turn_holds b.loop (block_name b.label n) v b.items bits k) base old d.0 last
    (declared (block_place b.label b.start) (block_name b.label n) base old st d.0 i d.1) d.2

loop_holds : (header : Bool) (v : Word) (b : Body) (values : Scope → Judged (List (List Bit))) (n : ℕ) → Holds b.items → Holds (loop_walk header v b values n)
loop_holds header v b values n k base old st last i h =
    let d = bind_ok (provided (genvar_faults header v (find v.text (seen st))) (seen st) >>= values) (λ all. turns_walk b v.text n all st) last h in
    turns_hold b v.text n d.0 k base old st last i d.2

-- ---- items

stay_holds : Holds stay
stay_holds base old st last i h = subst (Held base old) (same_ok st last h) i

two_hold : (f g : Walk) → Holds f → Holds g → Holds (then_walk f g)
two_hold f g a b base old st last i h = let d = bind_ok (f st) g last h in b base old d.0 last (a base old st d.0 i d.1) d.2

record HoldsAct (a : Act) : Type 0 where
  item : Holds a.item
  branch : (p : Place) (n : ℕ) → Holds (a.branch p n)

record HoldsBranch (b : Branch) : Type 0 where
  body : Holds b.body
  branch : (n : ℕ) → Holds (b.branch n)

of_walk : (f : Walk) → Holds f → HoldsAct (act_of f)
of_walk f k = record { item = k; branch = λ p n. block_holds None p n f k }

chosen_holds : (b : Bool) (x : Branch) (other : ℕ → Walk) (n : ℕ) → HoldsBranch x → ((n : ℕ) → Holds (other n)) → Holds (chosen_branch b x other n)
chosen_holds true x other n k g = k.branch n
chosen_holds false x other n k g = g n

conditional_holds : (c : Expr) (x : Branch) (other : ℕ → Walk) (n : ℕ) → HoldsBranch x → ((n : ℕ) → Holds (other n)) → Holds (conditional c x other n)
conditional_holds c x other n k g base old st last i h =
    let b = bind_ok (fixed_truth (mean (seen st) c)) (λ b. chosen_branch b x other n st) last h in chosen_holds b.0 x other n k g base old st last i b.2

numbered_holds : (f : ℕ → Walk) → ((n : ℕ) → Holds (f n)) → Holds (numbered f)
numbered_holds f k base old st last i h = k (suc st.constructs) base old (record st { constructs = suc st.constructs }) last i h

mutual
  unfolding act

  act_holds : (x : Item) → HoldsAct (act x)
  act_holds (Net word t names) = of_walk _ (form_or_bit_holds t (λ x. walk_all (add_wire false x) names) (λ x. all_hold (add_wire false x) names (wire_holds false x)))
  act_holds (Variable t names) = of_walk _ (form_holds t (λ x. walk_all (add_wire false x) names) (λ x. all_hold (add_wire false x) names (wire_holds false x)))
  act_holds (Typedef d) = of_walk _ (typedef_holds d)
  act_holds (Param p) = of_walk _ (params_hold p)
  act_holds (Genvar names) = of_walk _ (all_hold add_genvar names genvar_holds)
  act_holds (Assign all) = of_walk _ (all_hold add_assignment all (λ (p : AssignPair). work_holds (assigning p.target p.value) (λ base at. tt)))
  act_holds (Always b) = of_walk _ (work_holds (running b) (λ base at. tt))
  act_holds (Inst i) = of_walk _ (all_hold (add_child i) i.list (child_holds i))
  act_holds (Generate' s all) = of_walk _ (acts_hold all)
  act_holds (For' p header v start test next r (more_of-Gen x end_of-Gen)) =
      of_walk _ (numbered_holds (loop_walk header v (body_of p (under x)) (λ at. turns p at v.text start test next)) (λ n. loop_holds header v (body_of p (under x)) (λ at. turns p at v.text start test next) n (under_holds x).body))
  act_holds (If' p c r (more_of-Gen x end_of-Gen) other) = record {
    item = numbered_holds (conditional c (under x) (under_else other)) (λ n. conditional_holds c (under x) (under_else other) n (under_holds x) (else_holds other));
    branch = λ q n. conditional_holds c (under x) (under_else other) n (under_holds x) (else_holds other);
  }

  acts_hold : {m : Count} (all : Row_of-Item m) → Holds (acts all)
  acts_hold end_of-Item = stay_holds
  acts_hold (more_of-Item x all) = two_hold (act x).item (acts all) (act_holds x).item (acts_hold all)

  under_holds : (x : Gen) → HoldsBranch (under x)
  under_holds (Block' p label s all e) = record { body = acts_hold all; branch = λ n. block_holds label p n (acts all) (acts_hold all) }
  under_holds (Single' p r (more_of-Item x end_of-Item)) = record { body = (act_holds x).item; branch = (act_holds x).branch p }

  else_holds : (x : Held-Item-If-3) (n : ℕ) → Holds (under_else x n)
  else_holds None' n = stay_holds
  else_holds (Some' r (more_of-Gen x end_of-Gen)) n = (under_holds x).branch n

-- ---- headers

header_holds : (w : ParamWord) (k : ParamKind) (all : List ParPort) → Holds (header_params w k all)
unfolding header_params
header_holds w k [] base old st last i h = subst (Held base old) (same_ok st last h) i
header_holds w k (p ∷ more) base old st last i h =
    let a = bind_ok (kind_or p.word p.form k (seen st)) _ last h in
    let b = bind_ok (add_param (word_or p.word w) a.0 p.name p.value st) _ last a.2 in
    header_holds (word_or p.word w) a.0 more base old b.0 last (param_holds (word_or p.word w) a.0 p.name p.value base old st b.0 i b.1) b.2

abbrev Ported : List Level → List Level → State → OpenPort × State → Type 0
Ported base old st y = Held base old y.1 × (length st.wires ≤ length y.1.wires) × (length st.wires ≤ y.0.wire)

port_holds : (top : Bool) (d : Way) (x : Layout) (w : Word) (base old : List Level) (st : State) (y : OpenPort × State) → Held base old st → add_port top d x w st ≡ Ok y → Ported base old st y
port_holds top d x w base old st y i h =
    let b = bind_ok (add_wire (top && is_input d) x w st) _ y h in
    let a = wire_added (top && is_input d) x w st b.0 b.1 in
    let long : length b.0.wires ≡ length st.wires + 1 = ap length a.is ∙ length-append st.wires (a.wire ∷ []) in
    subst (Ported base old st) (same_ok (record { name = w.text; way = d; wire = length st.wires; layout = x }, b.0) y b.2)
    (wire_holds (top && is_input d) x w base old st b.0 i b.1, omega (arith, long), omega arith)

abbrev Is : {A : Type 0} → Judged A → A → Type 0
Is j y = j ≡ Ok y

abbrev Taken : List Level → List Level → State → Layout × State → Type 0
Taken base old st y = Held base old y.1 × (y.1.wires ≡ st.wires)

port_form_holds : (p : Port) (before : Layout) (base old : List Level) (st : State) (y : Layout × State) → Held base old st → port_form p before st ≡ Ok y → Taken base old st y
port_form_holds p before base old st y i h = go p.way p.kind p.form p.name h
  where
    plain : (x : Layout) → Is (Ok (x, st)) y → Taken base old st y
    plain x e = subst (Taken base old st) (same_ok (x, st) y e) (i, refl)

    typed : (t : TypeTree) → formed t st ≡ Ok y → Taken base old st y
    typed t e = (formed_holds t base old st y i e, formed_wires t st y e)

    go : (w : Option Way) (k : Option NetWord) (t : Option TypeTree) (n : Word) → port_form (record { way = w; kind = k; form = t; name = n }) before st ≡ Ok y → Taken base old st y
    go None None None n e = plain before e
    go None None (Some t) n e = typed t e
    go None (Some k) None n e = plain (scalar false) e
    go None (Some k) (Some t) n e = typed t e
    go (Some w) None None n e = plain (scalar false) e
    go (Some w) None (Some t) n e = typed t e
    go (Some w) (Some k) None n e = plain (scalar false) e
    go (Some w) (Some k) (Some t) n e = typed t e

abbrev PortsFound : List Level → List Level → State → List OpenPort × State → Type 0
PortsFound base old st y = Held base old y.1 × PortsFrom (length st.wires) y.0

ports_hold : (top : Bool) (before : Way) (x : Layout) (all : List Port) (base old : List Level) (st : State) (y : List OpenPort × State) → Held base old st → header_ports top before x all st ≡ Ok y → PortsFound base old st y
unfolding header_ports PortsFrom
ports_hold top before x [] base old st y i h = subst (PortsFound base old st) (same_ok ([], st) y h) (i, tt)
ports_hold top before x (p ∷ more) base old st y i h =
    let a = bind_ok (port_form p x st) _ y h in
    let b = bind_ok (add_port top (or_way p.way before) a.0.0 p.name a.0.1) _ y a.2 in
    let c = bind_ok (header_ports top (or_way p.way before) a.0.0 more b.0.1) _ y b.2 in
    let form = port_form_holds p x base old st a.0 i a.1 in
    let one = port_holds top (or_way p.way before) a.0.0 p.name base old a.0.1 b.0 form.0 b.1 in
    let rest = ports_hold top (or_way p.way before) a.0.0 more base old b.0.1 c.0 one.0 c.1 in
    let same : length a.0.1.wires ≡ length st.wires = ap length form.1 in
    subst (PortsFound base old st) (same_ok (b.0.0 ∷ c.0.0, c.0.1) y c.2)
    (rest.0, (let h = one.2 in omega (arith, same, h), ports_from_lower (length st.wires) (length b.0.1.wires) c.0.0 (let h = one.1 in omega (arith, same, h)) rest.1))

-- ---- instances

instance_holds : (top : Bool) (m : Module) (at : Front) (pins : List Connection) (old : List Level) (st last : State) → Held old old st → Inv st → NearAt old at → instance_walk top m at pins st ≡ Ok last → Held old old last
instance_holds top m at pins old st last i good near h =
    let a = bind_ok (header_params param_word.Parameter kept m.params st) _ last h in
    let b = bind_ok (header_ports top way.Input (scalar false) (ports_of m) a.0) _ last a.2 in
    let params = header_holds param_word.Parameter kept m.params old old st a.0 i a.1 in
    let found = ports_hold top way.Input (scalar false) (ports_of m) old old a.0 b.0 params b.1 in
    let levels = (header_keeps param_word.Parameter kept m.params st a.0 good a.1).0 in
    let seen : SeesBelow (length a.0.wires) (live_at a.0.levels at) = record {
      all = good_below a.0.wires (length a.0.wires) (live_at a.0.levels at).all (omega arith) (live_good a.0.wires a.0.levels (fronts_at a.0.levels at) levels);
      above = good_below a.0.wires (length a.0.wires) (live_at a.0.levels at).above (omega arith) (seen_good a.0.wires a.0.levels (fronts_at a.0.levels at) levels);
    } in
    let shape = params.0 in
    let stands : StandsAbove old at (length a.0.wires) = record { near = near; below = subst (SeesBelow (length a.0.wires)) (live_kept old a.0.levels at shape.starts near) seen } in
    all_hold (λ x. (act x).item) m.items (λ x. (act_holds x).item) old old (record b.0.1 { works = b.0.1.works ++ port_works at pins b.0.0 }) last
    (found.0.0, above_both old b.0.1.works (port_works at pins b.0.0) found.0.1 (port_works_above old at (length a.0.wires) pins b.0.0 stands found.1)) b.2

-- between instances
abbrev Whole : State → Type 0
Whole st = Inv st × LevelsNear (length st.levels) st.levels × ChildrenNear (length st.levels) st.children × WorksAbove st.levels st.works

abbrev Goes : State → State → Type 0
Goes st last = Whole last × (length st.levels ≤ length last.levels)

children_go : (f : Child → Walk) → ((c : Child) (st last : State) → Whole st → c.at.level < length st.levels → f c st ≡ Ok last → Goes st last)
    → (all : List Child) (st last : State) → Whole st → ChildrenNear (length st.levels) all → walk_all f all st ≡ Ok last → Goes st last
unfolding walk_all ChildrenNear
children_go f k [] st last i n h = subst (Goes st) (same_ok st last h) (i, omega arith)
children_go f k (c ∷ more) st last i n h =
    let b = bind_ok (f c st) (walk_all f more) last h in
    let one = k c st b.0 i n.0 b.1 in
    let rest = children_go f k more b.0 last one.0 (children_wider (length st.levels) (length b.0.levels) more one.1 n.1) b.2 in
    (rest.0, let p = one.1 in let q = rest.1 in omega (arith, p, q))

below_goes : (f : Child → Walk) → ((c : Child) (st last : State) → Whole st → c.at.level < length st.levels → f c st ≡ Ok last → Goes st last)
    → (st last : State) → Whole st → below f st ≡ Ok last → Goes st last
below_goes f k st last i h = children_go f k st.children (record st { children = [] }) last (i.0, i.1, no_children (length st.levels), i.3) i.2 h

begun_held : (m : Known) (path : Name) (parent : ℕ) (params : List Given) (st : State) → Whole st → Held st.levels st.levels (begun m path parent params st)
unfolding AreNear
begun_held m path parent params st i =
    let x : Level = record { path = path; module_number = m.number; parent = parent; around = record { level = 0; nets = 0; consts = m.above } ∷ []; nets = []; consts = [] } in
    let long = one_longer st.levels x in (
      record {
        starts = (x ∷ [], refl);
        behind = omega arith;
        there = omega (arith, long);
        near = levels_near_push (length (st.levels ++ x ∷ [])) st.levels x (levels_near_wider (length st.levels) (length (st.levels ++ x ∷ [])) st.levels (omega (arith, long)) i.1) (omega (arith, long), tt);
        below = no_children _;
      },
      i.3,
    )

-- an instance is walked, whose place is in the scopes so far
instance_goes : (top : Bool) (m : Known) (path : Name) (parent : ℕ) (params : List Given) (at : Front) (pins : List Connection) (st last : State) → Whole st → at.level < length st.levels
    → instance_walk top m.tree at pins (begun m path parent params st) ≡ Ok last → Goes st last
instance_goes top m path parent params at pins st last i n h =
    let good : Inv (begun m path parent params st) = begun_good m path parent params st i.0 in
    let near : NearAt st.levels at = record { level = n; around = level_near (length st.levels) st.levels at.level i.1 } in
    let held = instance_holds top m.tree at pins st.levels (begun m path parent params st) last (begun_held m path parent params st i) good near h in
    let shape = held.0 in
    ((instance_keeps top m.tree at pins (begun m path parent params st) last good h, shape.near, shape.below, works_on st.levels last.levels last.works shape.starts held.1), starts_long st.levels last.levels shape.starts)

child_goes : (deep : ℕ) (all : Library) (c : Child) (st last : State) → Whole st → c.at.level < length st.levels → child deep all c st ≡ Ok last → Goes st last
unfolding child
child_goes zero all c st last i n h = cc
child_goes (suc deep) all c st last i n h =
    let a = bind_ok (module_of all c) _ last h in
    let b = bind_ok (connections (seen_at st.levels c.at) (open_params a.0.tree) c.params) _ last a.2 in
    let d = bind_ok (connections (seen_at st.levels c.at) (port_texts (ports_of a.0.tree)) c.pins) _ last b.2 in
    let e = bind_ok (count_instance c st) _ last d.2 in
    let counted : Goes st e.0 = subst (Goes st) (provided_ok _ _ e.0 e.1) (i, omega arith) in
    let f = bind_ok (instance_walk false a.0.tree c.at d.0 (begun a.0 c.path c.at.level (given_by c.at b.0) e.0)) _ last e.2 in
    let own = instance_goes false a.0 c.path c.at.level (given_by c.at b.0) c.at d.0 e.0 f.0 counted.0 (let q = counted.1 in omega (arith, n, q)) f.1 in
    let g = bind_ok (below (child deep all) f.0) _ last f.2 in
    let rest = below_goes (child deep all) (child_goes deep all) f.0 g.0 own.0 g.1 in
    subst (Goes st) (same_ok _ last g.2) (rest.0, let p = counted.1 in let q = own.1 in let r = rest.1 in omega (arith, p, q, r))

-- ---- the file level, and the whole

library_holds : (parts : List SourcePart) (all : Library) (st : State) (y : Library × State) → Held [] [] st → library parts all st ≡ Ok y → Held [] [] y.1
unfolding library
library_holds [] all st y i h = subst (λ (z : Library × State). Held [] [] z.1) (same_ok (all, st) y h) i
library_holds (source_part.Module m ∷ more) all st y i h =
    let b = bind_ok (provided (fault_if (is_there (module_named m.name.text all)) twice m.name.place) (record { tree = m; number = length all; above = (here st).consts })) _ y h in
    library_holds more (all ++ b.0 ∷ []) st y i b.2
library_holds (source_part.Typedef d ∷ more) all st y i h = let b = bind_ok (add_typedef d st) _ y h in library_holds more all b.0 y (typedef_holds d [] [] st b.0 i b.1) b.2
library_holds (source_part.Param p ∷ more) all st y i h = let b = bind_ok (add_params p st) _ y h in library_holds more all b.0 y (params_hold p [] [] st b.0 i b.1) b.2

file_held : Held [] [] file_state
unfolding AreNear LevelsNear ChildrenNear WorksAbove
file_held = (record { starts = (no_level ∷ [], refl); behind = omega arith; there = omega arith; near = (tt, tt); below = tt }, tt)

scopes_whole : (source : Source) (top : Option Name) (st : State) → scopes source top ≡ Ok st → Whole st
scopes_whole source top st h =
    let a = bind_ok (library source.parts [] file_state) _ st h in
    let b = bind_ok (top_module a.0.0 top) _ st a.2 in
    let held = library_holds source.parts [] file_state a.0 file_held a.1 in
    let shape = held.0 in
    let file : Whole a.0.1 = (library_keeps source.parts [] file_state a.0 file_good a.1, shape.near, shape.below, works_on [] a.0.1.levels a.0.1.works shape.starts held.1) in
    let c = bind_ok (instance_walk true b.0.tree (here a.0.1) [] (begun b.0 [] 0 [] a.0.1)) _ st b.2 in
    let own = instance_goes true b.0 [] 0 [] (here a.0.1) [] a.0.1 c.0 file shape.there c.1 in
    (below_goes (child deepest a.0.0) (child_goes deepest a.0.0) c.0 st own.0 c.2).0

entry_below : (n : ℕ) (all : List Entry) (e : Entry) → AreBelow n all → Contains all e → IsBelow n e.1
unfolding AreBelow
entry_below n [] e h (i, l, same) = absurd (omega arith)
entry_below n (x ∷ more) e h (zero, l, same) = subst (λ (y : Entry). IsBelow n y.1) same h.0
entry_below n (x ∷ more) e h (suc i, l, same) = entry_below n more e h.1 (i, omega arith, same)

work_above : (base : List Level) (all : List Standing) (w : Standing) → WorksAbove base all → Contains all w → TaskAbove base w.at w.task
unfolding WorksAbove
work_above base [] w h (i, l, same) = absurd (omega arith)
work_above base (x ∷ more) w h (zero, l, same) = subst (λ (y : Standing). TaskAbove base y.at y.task) same h.0
work_above base (x ∷ more) w h (suc i, l, same) = work_above base more w h.1 (i, omega arith, same)

declared_below : (n : ℕ) (all : List Entry) (s : NamedSignal) → AreBelow n all → DeclaredIn all s → s.number < n
declared_below n all s h d = entry_below n all (d.name, signal_is s.owner s.number d.layout) h d.is_there

sees_below : (n : ℕ) (at : Scope) (s : NamedSignal) → SeesBelow n at → DeclaredSignal at s → s.number < n
sees_below n at s h (inl d) = declared_below n at.all s h.all d
sees_below n at s h (inr d) = declared_below n at.above s h.above d

pub ports_stand_above : (source : Source) (top : Option Name) (st : State) → scopes source top ≡ Ok st → (at : Front) (d : Way) (n : ℕ) (x : Layout) (actual : Expr) → Contains st.works (record { at = at; task = connecting d n x actual })
    → (s : NamedSignal) → DeclaredSignal (live_at st.levels at) s → s.number < n
ports_stand_above source top st h at d n x actual i s named =
    let w = work_above st.levels st.works (record { at = at; task = connecting d n x actual }) (scopes_whole source top st h).3 i in
    sees_below n (live_at st.levels at) s w.below named
