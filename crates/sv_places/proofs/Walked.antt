-- What stands against the scopes of a source stands at places that its tree keeps. A walk through the items of a design keeps in its state what
-- is judged later: works, instances that are still to be opened, and the expressions that are given to parameters; so each step keeps it that
-- all these are parts of the tree, and tells of the tree's places alone. It keeps it too that each type that is declared has a bit, since a
-- structure of no bits is refused at no place. The steps are those of the definition, one lemma each.
use Rattle.std.proofs.Common.{◌≡◌, ℕ, zero, suc, Bool, true, false, ◌&&◌, List, [], ◌∷◌, ◌++◌, length, map, take, Option, Some, None, bytes_eq, refl, inl, arith}
use Rattle.std.specs.Prelude.{IfSome, if◌then◌else◌}
use mathlib.Core.Former.{Count}
use Rattle.fourvec.specs.declared.Bit.{Bit}
use Rattle.sv_outside.specs.declared.refusal.Place.{Place}
use Rattle.sv_tree.specs.declared.word.Word.{Word}
use Rattle.sv_tree.specs.declared.exprs.Expr.{Expr}
use Rattle.sv_tree.specs.declared.forms.TypeTree.{TypeTree}
use Rattle.sv_tree.specs.declared.forms.Typedef.{Typedef as TypedefTree}
use Rattle.sv_tree.specs.declared.design.ParamWord.{ParamWord}
use Rattle.sv_tree.specs.declared.design.ParamWord.TheVariants as param_word
use Rattle.sv_tree.specs.declared.design.ParamType.{ParamType}
use Rattle.sv_tree.specs.declared.design.ParPort.{ParPort}
use Rattle.sv_tree.specs.declared.design.Param.{Param as ParamTree}
use Rattle.sv_tree.specs.declared.design.Way.{Way}
use Rattle.sv_tree.specs.declared.design.Way.TheVariants as way
use Rattle.sv_tree.specs.declared.design.NetWord.{NetWord}
use Rattle.sv_tree.specs.declared.design.Port.{Port}
use Rattle.sv_tree.specs.declared.design.Pins.{Pins}
use Rattle.sv_tree.specs.declared.design.One.{One}
use Rattle.sv_tree.specs.declared.design.Inst.{Inst as InstTree}
use Rattle.sv_tree.specs.declared.design.Module.{Module}
use Rattle.sv_tree.specs.declared.design.Source.{Source}
use Rattle.sv_tree.specs.declared.design.SourcePart.{SourcePart}
use Rattle.sv_tree.specs.declared.design.SourcePart.TheVariants as source_part
use Rattle.sv_tree.specs.declared.design.Item.{Item, Net, Variable, Typedef, Param, Genvar, Assign, Always, Inst, For', If', Generate', Row_of-Item, end_of-Item, more_of-Item, end_of-Gen, more_of-Gen, Held-Item-If-3, None', Some'}
use Rattle.sv_tree.specs.declared.design.Gen.{Gen, Block', Single'}
use Rattle.sv_meaning.specs.Faults.{Judged, provided, ◌>>=◌, fault_if, twice, loop_long, too_many_bits}
use Rattle.sv_meaning.specs.Layouts.{Name, Entry, Layout, scalar, width, Scope, What, type_is, genvar_is, find}
use Rattle.sv_meaning.specs.Forms.{Declared, entry_of, form}
use Rattle.sv_meaning.specs.Values.{mean}
use Rattle.sv_meaning.specs.Deeds.{index_entry, turns, turn_faults, fixed_truth}
use Rattle.sv_meaning.specs.Designs.{Design, design_faults}
use Rattle.sv_meaning.specs.Params.{Connection, connections, ParamKind, kept, param_kind, value_as}
use Rattle.sv_hierarchy.specs.Scopes.{Front, Level, level_at, with_level, seen_along, fronts_at, with_const, State, Walk, stay, then_walk, here, Task, assigning, running, connecting, Standing, Given, Child, seen_at, seen, walk_all, name_faults, declare_at, declare, add_constant, add_constants, with_wire, add_wire, formed, with_form, with_form_or_bit, add_typedef, given_or, overriding, meant, given_to, add_param, add_param_item, add_params, add_genvar, add_work, add_assignment, flat_pins, add_child, inner, enclosed, block_name, block_place, block_walk, turn_name, count_turn, turn_walk, Body, turns_walk, genvar_faults, loop_walk, Act, Branch, act_of, chosen_branch, conditional, numbered, body_of, act, acts, under, under_else, word_or, kind_or, header_params, OpenPort, is_input, or_way, add_port, port_form, header_ports, ports_of, Known, Library, module_named, is_there, begun, port_named, port_texts, open_params, connected, port_works, instance_walk, given_by, module_of, count_instance, below, child, file_state, library, unused, all_used, design_start, the_one, top_named, top_module, deepest, from_top, scopes, work_of, work_at, design, source_faults}
use Rattle.sv_places.specs.Within.{Each, InWord, InExpr, InType, InTypedef, InTarget, InBlock, InParamType, InParPort, InParamItem, InParam, InPort, InPair, InPins, InOne, InItem, InGen, InOther, InItems, InModule, InPart, Within}
use Rattle.sv_places.proofs.Told.{Told, Any, JudgedIn, told_then, told_if, provided_in, bind_in, weaker_in, told_of, each_append, each_push}
use Rattle.sv_places.proofs.Meant.{mean_in}
use Rattle.sv_places.proofs.Formed.{Wide, WhatIn, EntryIn, ScopeIn, DeclaredAt, FormedIn, ConnectionIn, form_in, kind_in, value_in, connections_in}
use Rattle.sv_places.proofs.Stated.{WorkIn, truth_in, turns_in, works_told}

-- ---- what a state keeps of the tree

abbrev GivenIn : (Place → Type 0) → Given → Type 0
GivenIn P g = InExpr P g.value

abbrev TaskIn : (Place → Type 0) → Task → Type 0
TaskIn P (assigning to x) = InTarget P to × InExpr P x
TaskIn P (running b) = InBlock P b
TaskIn P (connecting w n x actual) = InExpr P actual

abbrev StandingIn : (Place → Type 0) → Standing → Type 0
StandingIn P s = TaskIn P s.task

abbrev ChildIn : (Place → Type 0) → Child → Type 0
ChildIn P c = InWord P c.of_module × InWord P c.name × IfSome c.params (InPins P) × IfSome c.pins (InPins P)

-- each type that is declared has a bit
abbrev LevelIn : (Place → Type 0) → Level → Type 0
LevelIn P x = Each (EntryIn P) x.nets × Each (EntryIn P) x.consts

abbrev StateIn : (Place → Type 0) → State → Type 0
StateIn P st = Each (GivenIn P) st.overridden × Each (StandingIn P) st.works × Each (ChildIn P) st.children × Each (LevelIn P) st.levels

abbrev WalkIn : (Place → Type 0) → Walk → Type 0
WalkIn P f = (st : State) → StateIn P st → JudgedIn P (StateIn P) (f st)

-- of a value that is found with a state
abbrev WithState : (Place → Type 0) → {A : Type 0} → A × State → Type 0
WithState P z = StateIn P z.1

abbrev WithLayout : (Place → Type 0) → Layout × State → Type 0
WithLayout P z = Wide P (width z.0) × StateIn P z.1

abbrev BodyIn : (Place → Type 0) → Body → Type 0
BodyIn P b = P b.loop × IfSome b.label (InWord P) × P b.start × WalkIn P b.items

abbrev ActIn : (Place → Type 0) → Act → Type 0
ActIn P a = WalkIn P a.item × ((p : Place) → P p → (n : ℕ) → WalkIn P (a.branch p n))

abbrev BranchIn : (Place → Type 0) → Branch → Type 0
BranchIn P x = IfSome x.label (InWord P) × P x.start × WalkIn P x.body × ((n : ℕ) → WalkIn P (x.branch n))

abbrev KnownIn : (Place → Type 0) → Known → Type 0
KnownIn P k = InModule P k.tree

abbrev LibraryIn : (Place → Type 0) → Library × State → Type 0
LibraryIn P z = Each (KnownIn P) z.0 × StateIn P z.1

abbrev DesignIn : (Place → Type 0) → Design → Type 0
DesignIn P d = Each (WorkIn P) d.works

module _ (P : Place → Type 0) where
  -- ---- steps together

  stay_in : WalkIn P stay
  stay_in st i = i

  two_in : (f g : Walk) → WalkIn P f → WalkIn P g → WalkIn P (then_walk f g)
  two_in f g h k st i = bind_in P (StateIn P) (StateIn P) (f st) g (h st i) k

  all_in : {A : Type 0} (Q : A → Type 0) (f : A → Walk) → ((x : A) → Q x → WalkIn P (f x)) → (all : List A) → Each Q all → WalkIn P (walk_all f all)
  unfolding walk_all
  all_in Q f k [] h st i = i
  all_in Q f k (x ∷ more) h st i = bind_in P (StateIn P) (StateIn P) (f x st) (walk_all f more) (k x h.0 st i) (all_in Q f k more h.1)

  -- ---- names

  level_at_in : (all : List Level) (n : ℕ) → Each (LevelIn P) all → LevelIn P (level_at all n)
  unfolding level_at
  level_at_in [] n h = (tt, tt)
  level_at_in (x ∷ more) zero h = h.0
  level_at_in (x ∷ more) (suc n) h = level_at_in more n h.1

  with_level_in : (n : ℕ) (f : Level → Level) (all : List Level) → ((x : Level) → LevelIn P x → LevelIn P (f x)) → Each (LevelIn P) all → Each (LevelIn P) (with_level n f all)
  unfolding with_level
  with_level_in n f [] k h = tt
  with_level_in zero f (x ∷ more) k h = (k x h.0, h.1)
  with_level_in (suc n) f (x ∷ more) k h = (h.0, with_level_in n f more k h.1)

  take_in : (n : ℕ) (all : List Entry) → Each (EntryIn P) all → Each (EntryIn P) (take n all)
  take_in zero all h = tt
  take_in (suc n) [] h = tt
  take_in (suc n) (e ∷ more) h = (h.0, take_in n more h.1)

  along_in : (all : List Level) (fronts : List Front) → Each (LevelIn P) all → Each (EntryIn P) (seen_along all fronts)
  unfolding seen_along
  along_in all [] h = tt
  along_in all (f ∷ more) h =
      let own : LevelIn P (level_at all f.level) = level_at_in all f.level h in
      each_append (EntryIn P) _ (seen_along all more)
      (each_append (EntryIn P) (take f.nets (level_at all f.level).nets) (take f.consts (level_at all f.level).consts) (take_in f.nets (level_at all f.level).nets own.0) (take_in f.consts (level_at all f.level).consts own.1))
      (along_in all more h)

  seen_in : (st : State) → StateIn P st → ScopeIn P (seen st)
  seen_in st i = along_in st.levels (fronts_at st.levels (here st)) i.3

  -- ---- declarations

  name_told : (taken : Bool) (p : Place) (n : Name) → P p → Told P (name_faults taken p n)
  name_told taken p n h = search (told_then P, told_if P)

  declare_at_in : (p : Place) (n : Name) → P p → WalkIn P (declare_at p n)
  declare_at_in p n h st i = provided_in P (StateIn P) (name_faults (st.taken n) p n) _ (name_told (st.taken n) p n h) i

  declare_in : (w : Word) → InWord P w → WalkIn P (declare w)
  declare_in w h = declare_at_in w.place w.text h

  constant_in : (d : Declared) → DeclaredAt P d → WalkIn P (add_constant d)
  constant_in d h st i =
      bind_in P (StateIn P) (StateIn P) (declare d.0 st) _ (declare_in d.0 h.0 st i)
      (λ s k. (k.0, k.1, k.2, with_level_in s.me (with_const (entry_of d)) s.levels (λ x l. (l.0, each_push (EntryIn P) x.consts (entry_of d) l.1 h.1)) k.3))

  constants_in : (all : List Declared) → Each (DeclaredAt P) all → WalkIn P (add_constants all)
  constants_in all h = all_in (DeclaredAt P) add_constant constant_in all h

  wire_in : (input : Bool) (x : Layout) (w : Word) → InWord P w → WalkIn P (add_wire input x w)
  wire_in input x w h st i =
      bind_in P (StateIn P) (StateIn P) (declare w st) _ (declare_in w h st i)
      (λ s k. provided_in P (StateIn P) _ (with_wire input x w.text s) (told_if P _ too_many_bits w.place h)
      (k.0, k.1, k.2, with_level_in s.me _ s.levels (λ y l. (each_push (EntryIn P) y.nets _ l.0 tt, l.1)) k.3))

  formed_in : (t : TypeTree) (st : State) → InType P t → StateIn P st → JudgedIn P (WithLayout P) (formed t st)
  formed_in t st h i =
      bind_in P (FormedIn P) (WithLayout P) (form (seen st) t) _ (form_in P (seen st) t (seen_in st i) h)
      (λ x k. bind_in P (StateIn P) (WithLayout P) (add_constants x.1 st) _ (constants_in x.1 k.1 st i) (λ s l. (k.0, l)))

  stated_in : (t : TypeTree) (st : State) → InType P t → StateIn P st → JudgedIn P (WithState P) (formed t st)
  stated_in t st h i = weaker_in P (WithLayout P) (WithState P) (λ x k. k.1) (formed t st) (formed_in t st h i)

  with_form_in : (t : TypeTree) (f : Layout → Walk) → InType P t → ((x : Layout) → Wide P (width x) → WalkIn P (f x)) → WalkIn P (with_form t f)
  with_form_in t f h k st i = bind_in P (WithLayout P) (StateIn P) (formed t st) _ (formed_in t st h i) (λ x l. k x.0 l.0 x.1 l.1)

  form_or_bit_in : (t : Option TypeTree) (f : Layout → Walk) → IfSome t (InType P) → ((x : Layout) → Wide P (width x) → WalkIn P (f x)) → WalkIn P (with_form_or_bit t f)
  form_or_bit_in None f h k = k (scalar false) (inl (omega arith))
  form_or_bit_in (Some t) f h k = with_form_in t f h k

  typedef_in : (d : TypedefTree) → InTypedef P d → WalkIn P (add_typedef d)
  typedef_in d h = with_form_in d.form (λ x. add_constant (d.name, type_is x)) h.0 (λ x w. constant_in (d.name, type_is x) (h.1, w))

  if_given : (b : Bool) (g other : Given) → GivenIn P g → GivenIn P other → GivenIn P (if b then g else other)
  if_given true g other h k = h
  if_given false g other h k = k

  given_or_in : (n : Name) (all : List Given) (other : Given) → Each (GivenIn P) all → GivenIn P other → GivenIn P (given_or n all other)
  unfolding given_or
  given_or_in n [] other h k = k
  given_or_in n (g ∷ more) other h k = if_given (bytes_eq g.name n) g (given_or n more other) h.0 (given_or_in n more other h.1 k)

  overriding_in : (word : ParamWord) (all : List Given) → Each (GivenIn P) all → Each (GivenIn P) (overriding word all)
  overriding_in param_word.Parameter all h = h
  overriding_in param_word.Localparam all h = tt

  param_in : (word : ParamWord) (kind : ParamKind) (w : Word) (x : Expr) → InWord P w → InExpr P x → WalkIn P (add_param word kind w x)
  param_in word kind w x q k st i =
      let g : Given = given_to word w x st in
      let own : GivenIn P g = given_or_in w.text (overriding word st.overridden) (record { name = w.text; at = here st; value = x }) (overriding_in word st.overridden i.0) k in
      bind_in P (WhatIn P) (StateIn P) (value_as kind (meant st.levels g)) _ (value_in P kind (meant st.levels g) (mean_in P (seen_at st.levels g.at) g.value own))
      (λ v u. constant_in (w, v) (q, u) st i)

  params_in : (p : ParamTree) → InParam P p → WalkIn P (add_params p)
  params_in p h st i =
      bind_in P Any (StateIn P) (param_kind (seen st) p.form) _ (kind_in P (seen st) p.form h.0)
      (λ kind u. all_in (InParamItem P) (add_param_item p.word kind) (λ x k. param_in p.word kind x.name x.value k.0 k.1) p.list h.1 st i)

  genvar_in : (w : Word) → InWord P w → WalkIn P (add_genvar w)
  genvar_in w h = constant_in (w, genvar_is) (h, tt)

  work_in : (t : Task) → TaskIn P t → WalkIn P (add_work t)
  work_in t h st i = (i.0, each_push (StandingIn P) st.works (record { at = here st; task = t }) i.1 h, i.2, i.3)

  flat_in : (x : Option (Option Pins)) → IfSome x (λ given. IfSome given (InPins P)) → IfSome (flat_pins x) (InPins P)
  flat_in None h = tt
  flat_in (Some x) h = h

  child_added : (c : InstTree) (o : One) → InWord P c.of_module → IfSome c.params (λ given. IfSome given (InPins P)) → InOne P o → WalkIn P (add_child c o)
  child_added c o q h k st i =
      bind_in P (StateIn P) (StateIn P) (declare o.name st) _ (declare_in o.name k.0 st i)
      (λ s l. (l.0, l.1, each_push (ChildIn P) s.children _ l.2 (q, k.0, flat_in c.params h, k.1), l.3))

  -- ---- generate blocks

  enclosed_in : (part : Name) (more : List Entry) (body : Walk) → Each (EntryIn P) more → WalkIn P body → WalkIn P (enclosed part more body)
  enclosed_in part more body e h st i =
      bind_in P (StateIn P) (StateIn P) (body (inner part more st)) _ (h (inner part more st) (tt, i.1, i.2, each_push (LevelIn P) st.levels _ i.3 (e, tt)))
      (λ last k. (i.0, k.1, k.2, k.3))

  place_in : (label : Option Word) (p : Place) → IfSome label (InWord P) → P p → P (block_place label p)
  place_in None p h q = q
  place_in (Some w) p h q = h

  block_in : (label : Option Word) (p : Place) (n : ℕ) (body : Walk) → IfSome label (InWord P) → P p → WalkIn P body → WalkIn P (block_walk label p n body)
  block_in label p n body h q k st i =
      bind_in P (StateIn P) (StateIn P) (declare_at (block_place label p) (block_name label n) st) _
      (declare_at_in (block_place label p) (block_name label n) (place_in label p h q) st i) (enclosed_in (block_name label n) [] body tt k)

  count_in : (p : Place) → P p → WalkIn P (count_turn p)
  count_in p h st i = provided_in P (StateIn P) (turn_faults p st.turns) _ (told_if P _ loop_long p h) i

  turn_in : (p : Place) (g v : Name) (body : Walk) (bits : List Bit) → P p → WalkIn P body → WalkIn P (turn_walk p g v body bits)
  turn_in p g v body bits h k st i =
      bind_in P (StateIn P) (StateIn P) (count_turn p st) _ (count_in p h st i) (enclosed_in (turn_name g bits) (index_entry v bits ∷ []) body (tt, tt) k)

  each_any : {A : Type 0} (all : List A) → Each Any all
  each_any [] = tt
  each_any (x ∷ more) = (tt, each_any more)

  turns_walk_in : (b : Body) (v : Name) (n : ℕ) (all : List (List Bit)) → BodyIn P b → WalkIn P (turns_walk b v n all)
  turns_walk_in b v n [] h st i = i
  turns_walk_in b v n (x ∷ more) h st i =
      bind_in P (StateIn P) (StateIn P) (declare_at (block_place b.label b.start) (block_name b.label n) st) _
      (declare_at_in (block_place b.label b.start) (block_name b.label n) (place_in b.label b.start h.1 h.2) st i)
      (all_in Any (turn_walk b.loop (block_name b.label n) v b.items) (λ bits u. turn_in b.loop (block_name b.label n) v b.items bits h.0 h.3) (x ∷ more) (each_any (x ∷ more)))

  genvar_told : (header : Bool) (w : Word) (x : Option What) → InWord P w → Told P (genvar_faults header w x)
  genvar_told true w x h = tt
  genvar_told false w (Some genvar_is) h = tt
  genvar_told false w x h = (h, tt)

  loop_in : (header : Bool) (v : Word) (b : Body) (values : Scope → Judged (List (List Bit))) (n : ℕ)
      → InWord P v → BodyIn P b → ((at : Scope) → JudgedIn P Any (values at)) → WalkIn P (loop_walk header v b values n)
  loop_in header v b values n q h k st i =
      bind_in P Any (StateIn P) (provided (genvar_faults header v (find v.text (seen st))) (seen st) >>= values) _
      (bind_in P Any Any (provided (genvar_faults header v (find v.text (seen st))) (seen st)) values
      (provided_in P Any (genvar_faults header v (find v.text (seen st))) (seen st) (genvar_told header v (find v.text (seen st)) q) tt) (λ at u. k at))
      (λ all u. turns_walk_in b v.text n all h st i)

  chosen_in : (b : Bool) (x : Branch) (other : ℕ → Walk) (n : ℕ) → BranchIn P x → WalkIn P (other n) → WalkIn P (chosen_branch b x other n)
  chosen_in true x other n h k = h.3 n
  chosen_in false x other n h k = k

  conditional_in : (c : Expr) (x : Branch) (other : ℕ → Walk) (n : ℕ) → InExpr P c → BranchIn P x → WalkIn P (other n) → WalkIn P (conditional c x other n)
  conditional_in c x other n q h k st i =
      bind_in P Any (StateIn P) (fixed_truth (mean (seen st) c)) _ (truth_in P (mean (seen st) c) (mean_in P (seen st) c q)) (λ b u. chosen_in b x other n h k st i)

  numbered_in : (f : ℕ → Walk) → ((n : ℕ) → WalkIn P (f n)) → WalkIn P (numbered f)
  numbered_in f h st i = h (suc st.constructs) (record st { constructs = suc st.constructs }) i

  act_of_in : (f : Walk) → WalkIn P f → ActIn P (act_of f)
  act_of_in f h = (h, λ p q n. block_in None p n f tt q h)

  mutual
    unfolding act acts under under_else

    act_in : (x : Item) → InItem P x → ActIn P (act x)
    act_in (Net word t names) h = act_of_in _ (form_or_bit_in t (λ x. walk_all (add_wire false x) names) h.0 (λ x u. all_in (InWord P) (add_wire false x) (wire_in false x) names h.1))
    act_in (Variable t names) h = act_of_in _ (with_form_in t (λ x. walk_all (add_wire false x) names) h.0 (λ x u. all_in (InWord P) (add_wire false x) (wire_in false x) names h.1))
    act_in (Typedef d) h = act_of_in _ (typedef_in d h)
    act_in (Param p) h = act_of_in _ (params_in p h)
    act_in (Genvar names) h = act_of_in _ (all_in (InWord P) add_genvar genvar_in names h)
    act_in (Assign all) h = act_of_in _ (all_in (InPair P) add_assignment (λ p k. work_in (assigning p.target p.value) k) all h)
    act_in (Always b) h = act_of_in (add_work (running b)) (work_in (running b) h)
    act_in (Inst c) h = act_of_in _ (all_in (InOne P) (add_child c) (λ o k. child_added c o h.0 h.1 k) c.list h.2)
    act_in (Generate' s all) h = act_of_in _ (acts_in all h)
    act_in (For' p header v start test next r (more_of-Gen x end_of-Gen)) h =
        let b = under_in x h.5 in
        act_of_in _ (numbered_in (loop_walk header v (body_of p (under x)) (λ at. turns p at v.text start test next))
        (λ n. loop_in header v (body_of p (under x)) (λ at. turns p at v.text start test next) n h.1 (h.0, b.0, b.1, b.2)
        (λ at. turns_in P p at v.text start test next h.0 h.2 h.3 h.4)))
    act_in (If' p c r (more_of-Gen x end_of-Gen) other) h =
        let one : (n : ℕ) → WalkIn P (conditional c (under x) (under_else other) n) = λ n. conditional_in c (under x) (under_else other) n h.1 (under_in x h.2) (else_in other n h.3) in
        (numbered_in (conditional c (under x) (under_else other)) one, λ q k n. one n)

    acts_in : {m : Count} (all : Row_of-Item m) → InItems P all → WalkIn P (acts all)
    acts_in end_of-Item h = stay_in
    acts_in (more_of-Item x all) h = two_in (act x).item (acts all) (act_in x h.0).0 (acts_in all h.1)

    under_in : (x : Gen) → InGen P x → BranchIn P (under x)
    under_in (Block' p label s all e) h = (h.1, h.0, acts_in all h.2, λ n. block_in label p n (acts all) h.1 h.0 (acts_in all h.2))
    under_in (Single' p r (more_of-Item x end_of-Item)) h = (tt, h.0, (act_in x h.1).0, (act_in x h.1).1 p h.0)

    else_in : (x : Held-Item-If-3) (n : ℕ) → InOther P x → WalkIn P (under_else x n)
    else_in None' n h = stay_in
    else_in (Some' r (more_of-Gen x end_of-Gen)) n h = (under_in x h).3 n

  -- ---- headers

  kind_or_in : (word : Option ParamWord) (t : Option ParamType) (before : ParamKind) (at : Scope) → IfSome t (InParamType P) → JudgedIn P Any (kind_or word t before at)
  kind_or_in None None before at h = tt
  kind_or_in (Some w) None before at h = tt
  kind_or_in None (Some t) before at h = kind_in P at (Some t) h
  kind_or_in (Some w) (Some t) before at h = kind_in P at (Some t) h

  header_in : (word : ParamWord) (before : ParamKind) (all : List ParPort) → Each (InParPort P) all → WalkIn P (header_params word before all)
  unfolding header_params
  header_in word before [] k st i = i
  header_in word before (p ∷ more) k st i =
      bind_in P Any (StateIn P) (kind_or p.word p.form before (seen st)) _ (kind_or_in p.word p.form before (seen st) k.0.0)
      (λ kind u. bind_in P (StateIn P) (StateIn P) (add_param (word_or p.word word) kind p.name p.value st) _
      (param_in (word_or p.word word) kind p.name p.value k.0.1 k.0.2 st i) (header_in (word_or p.word word) kind more k.1))

  port_in : (top : Bool) (d : Way) (x : Layout) (w : Word) (st : State) → InWord P w → StateIn P st → JudgedIn P (WithState P) (add_port top d x w st)
  port_in top d x w st h i = bind_in P (StateIn P) (WithState P) (add_wire (top && is_input d) x w st) _ (wire_in (top && is_input d) x w h st i) (λ s k. k)

  port_form_in : (p : Port) (before : Layout) (st : State) → InPort P p → StateIn P st → JudgedIn P (WithState P) (port_form p before st)
  port_form_in p before st h i = go p.way p.kind p.form p.name h.0
    where
      go : (w : Option Way) (k : Option NetWord) (t : Option TypeTree) (n : Word) → IfSome t (InType P) → JudgedIn P (WithState P) (port_form (record { way = w; kind = k; form = t; name = n }) before st)
      go None None None n l = i
      go None None (Some t) n l = stated_in t st l i
      go None (Some k) None n l = i
      go None (Some k) (Some t) n l = stated_in t st l i
      go (Some w) None None n l = i
      go (Some w) None (Some t) n l = stated_in t st l i
      go (Some w) (Some k) None n l = i
      go (Some w) (Some k) (Some t) n l = stated_in t st l i

  ports_in : (top : Bool) (before : Way) (x : Layout) (all : List Port) (st : State) → Each (InPort P) all → StateIn P st → JudgedIn P (WithState P) (header_ports top before x all st)
  unfolding header_ports
  ports_in top before x [] st h i = i
  ports_in top before x (p ∷ more) st h i =
      bind_in P (WithState P) (WithState P) (port_form p x st) _ (port_form_in p x st h.0 i)
      (λ found k. bind_in P (WithState P) (WithState P) (add_port top (or_way p.way before) found.0 p.name found.1) _ (port_in top (or_way p.way before) found.0 p.name found.1 h.0.1 k)
      (λ one l. bind_in P (WithState P) (WithState P) (header_ports top (or_way p.way before) found.0 more one.1) _ (ports_in top (or_way p.way before) found.0 more one.1 h.1 l) (λ rest n. n)))

  ports_of_in : (m : Module) → IfSome m.ports (Each (InPort P)) → Each (InPort P) (ports_of m)
  ports_of_in m h = go m.ports h
    where
      go : (x : Option (List Port)) → IfSome x (Each (InPort P)) → Each (InPort P) (ports_of (record m { ports = x }))
      go None k = tt
      go (Some all) k = k

  -- ---- instances

  connected_in : (at : Front) (p : Option OpenPort) (x : Option Expr) → IfSome x (InExpr P) → Each (StandingIn P) (connected at p x)
  connected_in at None x h = tt
  connected_in at (Some p) None h = tt
  connected_in at (Some p) (Some x) h = (h, tt)

  port_works_in : (at : Front) (all : List Connection) (ports : List OpenPort) → Each (ConnectionIn P) all → Each (StandingIn P) (port_works at all ports)
  unfolding port_works
  port_works_in at [] ports h = tt
  port_works_in at (c ∷ more) ports h =
      each_append (StandingIn P) (connected at (port_named c.0 ports) c.1) (port_works at more ports) (connected_in at (port_named c.0 ports) c.1 h.0) (port_works_in at more ports h.1)

  given_by_in : (at : Front) (all : List Connection) → Each (ConnectionIn P) all → Each (GivenIn P) (given_by at all)
  unfolding given_by
  given_by_in at [] h = tt
  given_by_in at ((n, None) ∷ more) h = given_by_in at more h.1
  given_by_in at ((n, Some x) ∷ more) h = (h.0, given_by_in at more h.1)

  instance_in : (top : Bool) (m : Module) (at : Front) (pins : List Connection) → InModule P m → Each (ConnectionIn P) pins → WalkIn P (instance_walk top m at pins)
  instance_in top m at pins h k st i =
      bind_in P (StateIn P) (StateIn P) (header_params param_word.Parameter kept m.params st) _ (header_in param_word.Parameter kept m.params h.1 st i)
      (λ s l. bind_in P (WithState P) (StateIn P) (header_ports top way.Input (scalar false) (ports_of m) s) _ (ports_in top way.Input (scalar false) (ports_of m) s (ports_of_in m h.2) l)
      (λ found n. all_in (InItem P) (λ x. (act x).item) (λ x e. (act_in x e).0) m.items h.3 _
      (n.0, each_append (StandingIn P) found.1.works (port_works at pins found.0) n.1 (port_works_in at pins found.0 k), n.2, n.3)))

  if_known : (b : Bool) (k : Known) (other : Option Known) → KnownIn P k → IfSome other (KnownIn P) → IfSome (if b then Some k else other) (KnownIn P)
  if_known true k other h l = h
  if_known false k other h l = l

  known_in : (n : Name) (all : Library) → Each (KnownIn P) all → IfSome (module_named n all) (KnownIn P)
  unfolding module_named
  known_in n [] h = tt
  known_in n (m ∷ more) h = if_known (bytes_eq m.tree.name.text n) m (module_named n more) h.0 (known_in n more h.1)

  module_in : (all : Library) (c : Child) → Each (KnownIn P) all → ChildIn P c → JudgedIn P (KnownIn P) (module_of all c)
  module_in all c h k = go (module_named c.of_module.text all) refl (known_in c.of_module.text all h)
    where
      go : (x : Option Known) → module_named c.of_module.text all ≡ x → IfSome x (KnownIn P) → JudgedIn P (KnownIn P) (module_of all c)
      go None e l = rw e (k.0, tt)
      go (Some m) e l = rw e l

  instances_in : (c : Child) → ChildIn P c → WalkIn P (count_instance c)
  instances_in c h st i = provided_in P (StateIn P) _ _ (told_if P _ too_many_bits c.name.place h.1) i

  below_in : (f : Child → Walk) → ((c : Child) → ChildIn P c → WalkIn P (f c)) → WalkIn P (below f)
  below_in f k st i = all_in (ChildIn P) f k st.children i.2 (record st { children = [] }) (i.0, i.1, tt, i.3)

  child_in : (deep : ℕ) (all : Library) (c : Child) → Each (KnownIn P) all → ChildIn P c → WalkIn P (child deep all c)
  unfolding child
  child_in zero all c h k st i = (k.1, tt)
  child_in (suc deep) all c h k st i =
      bind_in P (KnownIn P) (StateIn P) (module_of all c) _ (module_in all c h k)
      (λ m own. bind_in P (Each (ConnectionIn P)) (StateIn P) (connections (seen_at st.levels c.at) (open_params m.tree) c.params) _ (connections_in P (seen_at st.levels c.at) (open_params m.tree) c.params k.2)
      (λ params a. bind_in P (Each (ConnectionIn P)) (StateIn P) (connections (seen_at st.levels c.at) (port_texts (ports_of m.tree)) c.pins) _ (connections_in P (seen_at st.levels c.at) (port_texts (ports_of m.tree)) c.pins k.3)
      (λ pins b. bind_in P (StateIn P) (StateIn P) (count_instance c st) _ (instances_in c k st i)
      (λ more d. bind_in P (StateIn P) (StateIn P) (instance_walk false m.tree c.at pins (begun m c.path c.at.level (given_by c.at params) more)) _
      (instance_in false m.tree c.at pins own b (begun m c.path c.at.level (given_by c.at params) more) (given_by_in c.at params a, d.1, tt, each_push (LevelIn P) more.levels _ d.3 (tt, tt)))
      (λ opened e. bind_in P (StateIn P) (StateIn P) (below (child deep all) opened) _ (below_in (child deep all) (λ x l. child_in deep all x h l) opened e)
      (λ last l. (i.0, l.1, l.2, l.3)))))))

  -- ---- the file level, and the whole

  library_in : (parts : List SourcePart) (all : Library) (st : State) → Each (InPart P) parts → Each (KnownIn P) all → StateIn P st → JudgedIn P (LibraryIn P) (library parts all st)
  unfolding library
  library_in [] all st h k i = (k, i)
  library_in (source_part.Module m ∷ more) all st h k i =
      bind_in P (KnownIn P) (LibraryIn P) (provided (fault_if (is_there (module_named m.name.text all)) twice m.name.place) (record { tree = m; number = length all; above = (here st).consts })) _
      (provided_in P (KnownIn P) _ _ (told_if P _ twice m.name.place h.0.0) h.0)
      (λ own l. library_in more (all ++ own ∷ []) st h.1 (each_push (KnownIn P) all own k l) i)
  library_in (source_part.Typedef d ∷ more) all st h k i = bind_in P (StateIn P) (LibraryIn P) (add_typedef d st) _ (typedef_in d h.0 st i) (λ s l. library_in more all s h.1 k l)
  library_in (source_part.Param p ∷ more) all st h k i = bind_in P (StateIn P) (LibraryIn P) (add_params p st) _ (params_in p h.0 st i) (λ s l. library_in more all s h.1 k l)

  if_unused : (b : Bool) (m : Known) (rest : Library) → KnownIn P m → Each (KnownIn P) rest → Each (KnownIn P) (if b then rest else m ∷ rest)
  if_unused true m rest h k = k
  if_unused false m rest h k = (h, k)

  unused_in : (used : List Name) (all : Library) → Each (KnownIn P) all → Each (KnownIn P) (unused used all)
  unfolding unused
  unused_in used [] h = tt
  unused_in used (m ∷ more) h = if_unused _ m (unused used more) h.0 (unused_in used more h.1)

  one_in : (all : Library) → P design_start → Each (KnownIn P) all → JudgedIn P (KnownIn P) (the_one all)
  one_in [] q h = (q, tt)
  one_in (m ∷ []) q h = h.0
  one_in (m ∷ n ∷ more) q h = (q, tt)

  top_named_in : (x : Option Known) → P design_start → IfSome x (KnownIn P) → JudgedIn P (KnownIn P) (top_named x)
  top_named_in None q h = (q, tt)
  top_named_in (Some m) q h = h

  top_in : (all : Library) (top : Option Name) → P design_start → Each (KnownIn P) all → JudgedIn P (KnownIn P) (top_module all top)
  top_in all None q h = one_in (unused (all_used all) all) q (unused_in (all_used all) all h)
  top_in all (Some n) q h = top_named_in (module_named n all) q (known_in n all h)

  from_top_in : (all : Library) (m : Known) → Each (KnownIn P) all → KnownIn P m → WalkIn P (from_top all m)
  from_top_in all m h k st i =
      bind_in P (StateIn P) (StateIn P) (instance_walk true m.tree (here st) [] (begun m [] 0 [] st)) _ (instance_in true m.tree (here st) [] k tt (begun m [] 0 [] st) (tt, i.1, tt, each_push (LevelIn P) st.levels _ i.3 (tt, tt)))
      (below_in (child deepest all) (λ c l. child_in deepest all c h l))

  scopes_in : (source : Source) (top : Option Name) → P design_start → Within P source → JudgedIn P (StateIn P) (scopes source top)
  scopes_in source top q h =
      bind_in P (LibraryIn P) (StateIn P) (library source.parts [] file_state) _ (library_in source.parts [] file_state h tt (tt, tt, tt, ((tt, tt), tt)))
      (λ file k. bind_in P (KnownIn P) (StateIn P) (top_module file.0 top) _ (top_in file.0 top q k.0) (λ m l. from_top_in file.0 m k.0 l file.1 k.1))

  work_of_in : (at : Scope) (t : Task) → TaskIn P t → WorkIn P (work_of at t)
  work_of_in at (assigning to x) h = h
  work_of_in at (running b) h = h
  work_of_in at (connecting w n x actual) h = h

  works_in : (st : State) (all : List Standing) → Each (StandingIn P) all → Each (WorkIn P) (map (work_at st.levels) all)
  works_in st [] h = tt
  works_in st (w ∷ more) h = (work_of_in _ w.task h.0, works_in st more h.1)

  design_in : (source : Source) (top : Option Name) → P design_start → Within P source → JudgedIn P (DesignIn P) (design source top)
  design_in source top q h = bind_in P (StateIn P) (DesignIn P) (scopes source top) _ (scopes_in source top q h) (λ st i. works_in st st.works i.1)

  pub source_told : (source : Source) (top : Option Name) → P design_start → Within P source → Told P (source_faults source top)
  source_told source top q h =
      told_of P Any (design source top >>= λ d. provided (design_faults d) d)
      (bind_in P (DesignIn P) Any (design source top) _ (design_in source top q h) (λ d k. provided_in P Any (design_faults d) d (works_told P d.turns d.works k) tt))
