-- No two connected ports have one wire: the ports of an instance have new ones, each connection names another port, and no other step
-- of a walk connects.
use Rattle.std.proofs.Common.{◌≡◌, ◌≢◌, ℕ, zero, suc, ◌+◌, ◌<◌, ◌≤◌, Bool, true, false, ◌&&◌, ◌||◌, List, [], ◌∷◌, ◌++◌, length, map, Option, Some, None, Ok, Err, cond, refl, sym, ap, ◌∙◌, subst, arith, rules, length-append, append_assoc}
use Rattle.std.specs.Prelude.{bytes_eq, not, All, AllPairs}
use Rattle.std.proofs.lemmas.List.{append-nil}
use Rattle.std.proofs.lemmas.List.Elements.{All-nil, All-cons, All-append, All-weaker}
use Rattle.std.proofs.lemmas.List.Kept.{AllPairs-cons}
use Rattle.std.proofs.lemmas.Slice.Eq.{bytes_eq-Decides}
use mathlib.Core.Former.{Count}
use Rattle.fourvec.specs.declared.Bit.{Bit}
use Rattle.sv_outside.specs.declared.refusal.Place.{Place}
use Rattle.sv_outside.specs.declared.text.Signal.{Signal}
use Rattle.sv_tree.specs.declared.word.Word.{Word}
use Rattle.sv_tree.specs.declared.exprs.Expr.{Expr}
use Rattle.sv_tree.specs.declared.forms.TypeTree.{TypeTree}
use Rattle.sv_tree.specs.declared.forms.Typedef.{Typedef as TypedefTree}
use Rattle.sv_tree.specs.declared.design.ParamWord.{ParamWord}
use Rattle.sv_tree.specs.declared.design.ParamWord.TheVariants as param_word
use Rattle.sv_tree.specs.declared.design.ParPort.{ParPort}
use Rattle.sv_tree.specs.declared.design.Param.{Param as ParamTree}
use Rattle.sv_tree.specs.declared.design.Way.{Way}
use Rattle.sv_tree.specs.declared.design.Way.TheVariants as way
use Rattle.sv_tree.specs.declared.design.NetWord.{NetWord}
use Rattle.sv_tree.specs.declared.design.Port.{Port}
use Rattle.sv_tree.specs.declared.design.AssignPair.{AssignPair}
use Rattle.sv_tree.specs.declared.design.NamedPin.{NamedPin}
use Rattle.sv_tree.specs.declared.design.Pins.{Pins}
use Rattle.sv_tree.specs.declared.design.Pins.TheVariants as pins
use Rattle.sv_tree.specs.declared.design.One.{One}
use Rattle.sv_tree.specs.declared.design.Inst.{Inst as InstTree}
use Rattle.sv_tree.specs.declared.design.Module.{Module}
use Rattle.sv_tree.specs.declared.design.Source.{Source}
use Rattle.sv_tree.specs.declared.design.SourcePart.{SourcePart}
use Rattle.sv_tree.specs.declared.design.SourcePart.TheVariants as source_part
use Rattle.sv_tree.specs.declared.design.Item.{Item, Net, Variable, Typedef, Param, Genvar, Assign, Always, Inst, For', If', Generate', Row_of-Item, end_of-Item, more_of-Item, end_of-Gen, more_of-Gen, Held-Item-If-3, None', Some'}
use Rattle.sv_tree.specs.declared.design.Gen.{Gen, Block', Single'}
use Rattle.sv_meaning.specs.Faults.{Judged, provided, both, ◌>>=◌, fault_if, bad_token, twice, port_unknown, port_twice}
use Rattle.sv_meaning.specs.Layouts.{Name, Layout, scalar, Scope, What, type_is, genvar_is, find}
use Rattle.sv_meaning.specs.Names.{has_name}
use Rattle.sv_meaning.specs.Forms.{Declared, Formed, entry_of, form}
use Rattle.sv_meaning.specs.Values.{mean}
use Rattle.sv_meaning.specs.Deeds.{index_entry, turns, fixed_truth}
use Rattle.sv_meaning.specs.Params.{Connection, connections, by_name, in_order, joined_pins, pin_faults, ParamKind, kept, param_kind, value_as}
use Rattle.sv_hierarchy.specs.Scopes.{Front, State, Walk, stay, then_walk, here, Task, assigning, running, connecting, Standing, Child, seen_at, genvar_faults, open_params, port_texts, is_there, module_named, walk_all, is_name, name_faults, declare_at, declare, see_const, add_constant, add_constants, with_wire, add_wire, formed, with_form, with_form_or_bit, add_typedef, meant, given_to, seen, add_param, add_param_item, add_params, add_genvar, add_work, add_assignment, add_child, child_of, inner, outer, enclosed, block_name, block_place, block_walk, turn_name, count_turn, turn_walk, Body, turns_walk, loop_walk, Act, Branch, act_of, chosen_branch, conditional, numbered, body_of, act, acts, under, under_else, word_or, kind_or, header_params, OpenPort, is_input, or_way, add_port, port_form, header_ports, ports_of, Library, begun, port_named, connected, port_works, instance_walk, given_by, module_of, count_instance, below, child, file_state, library, top_module, deepest, scopes}
use Rattle.scope_laws.specs.Wires.{port_wire, connected_wires}
use Rattle.scope_laws.proofs.Pairs.{pairs_none, pairs_both}
use Rattle.scope_laws.proofs.Good.{WorksAreGood, TaskIsGood}
use Rattle.scope_laws.proofs.Plain.{same_ok, bind_ok, provided_ok, no_faults, then_clear, if_not}
use Rattle.scope_laws.proofs.Keeping.{Inv, header_keeps, instance_keeps, begun_good, library_keeps, file_good, wire_added, formed_wires}

-- ---- numbers

-- numbers below another, and numbers from it on
apart_at : (k : ℕ) (a b : List ℕ) → All (λ m. m < k) a → All (λ m. k ≤ m) b → All (λ m. All (λ n. m ≢ n) b) a
apart_at k a b f g = All-weaker (λ m. m < k) (λ m. All (λ n. m ≢ n) b) (λ m l. All-weaker (λ n. k ≤ n) (λ n. m ≢ n) (λ n e same. omega (arith, l, e, same)) b g) a f

-- ---- names

same_text : (n : Name) → bytes_eq n n ≡ true
same_text n = search (bytes_eq-Decides n n, rules)

other_text : (n m : Name) → m ≢ n → bytes_eq m n ≡ false
other_text n m h = search (bytes_eq-Decides m n, h, rules)

neither : (a b : Bool) → a ≡ false → b ≡ false → (a || b) ≡ false
neither a b e f = ap (λ z. z || b) e ∙ f

not_left : (a b : Bool) → (a || b) ≡ false → a ≡ false
not_left true b e = cc
not_left false b e = refl

not_right : (a b : Bool) → (a || b) ≡ false → b ≡ false
not_right true b e = cc
not_right false b e = e

or_right : (a b : Bool) → b ≡ true → (a || b) ≡ true
or_right true b e = refl
or_right false b e = e

-- none of the names is taken
unfoldable AreFree : (Name → Bool) → List Name → Type 0
AreFree taken [] = Unit {0}
AreFree taken (n ∷ more) = (taken n ≡ false) × AreFree taken more

-- no name comes again
unfoldable AreApart : List Name → Type 0
AreApart [] = Unit {0}
AreApart (n ∷ more) = (has_name n more ≡ false) × AreApart more

free_before : (old new : Name → Bool) (names : List Name) → ((n : Name) → new n ≡ false → old n ≡ false) → AreFree new names → AreFree old names
unfolding AreFree
free_before old new [] f h = tt
free_before old new (n ∷ more) f h = (f n h.0, free_before old new more f h.1)

-- a name that is taken is none of those that are not
unnamed : (taken : Name → Bool) (n : Name) (names : List Name) → taken n ≡ true → AreFree taken names → has_name n names ≡ false
unfolding AreFree has_name
unnamed taken n [] e h = refl
unnamed taken n (m ∷ more) e h = neither (bytes_eq m n) (has_name n more) (other_text n m differs) (unnamed taken n more e h.1)
  where
    differs : m ≢ n
    differs same = let z : true ≡ false = sym e ∙ ap taken (sym same) ∙ h.0 in cc

-- a name is in a list that begins with it
first_named : (n : Name) (more : List Name) → has_name n (n ∷ more) ≡ true
unfolding has_name
first_named n more = ap (λ b. b || has_name n more) (same_text n)

-- ---- steps that connect nothing

abbrev wired : State → List ℕ
wired st = connected_wires st.works

pub wires_both : (a b : List Standing) → connected_wires (a ++ b) ≡ connected_wires a ++ connected_wires b
unfolding connected_wires
wires_both [] b = refl
wires_both (w ∷ a) b = ap (λ (z : List ℕ). port_wire w.task ++ z) (wires_both a b) ∙ sym (append_assoc (port_wire w.task) (connected_wires a) (connected_wires b))

abbrev Quiet : Walk → Type 0
Quiet f = (st last : State) → f st ≡ Ok last → wired last ≡ wired st

same_wired : (st last : State) → st ≡ last → wired last ≡ wired st
same_wired st last e = sym (ap (λ (z : State). wired z) e)

all_quiet : {A : Type 0} (f : A → Walk) (all : List A) → ((x : A) → Quiet (f x)) → Quiet (walk_all f all)
unfolding walk_all
all_quiet f [] k st last h = same_wired st last (same_ok st last h)
all_quiet f (x ∷ more) k st last h = let b = bind_ok (f x st) (walk_all f more) last h in all_quiet f more k b.0 last b.2 ∙ k x st b.0 b.1

declared : (p : Place) (n : Name) → Quiet (declare_at p n)
declared p n st last h = same_wired _ last (provided_ok _ _ last h)

constant_quiet : (d : Declared) → Quiet (add_constant d)
constant_quiet d st last h =
    let b = bind_ok (declare d.0 st) (λ s. Ok (see_const (entry_of d) s)) last h in
    let s : State = b.0 in
    same_wired (see_const (entry_of d) s) last (same_ok (see_const (entry_of d) s) last b.2) ∙ declared d.0.place d.0.text st s b.1

constants_quiet : (all : List Declared) → Quiet (add_constants all)
constants_quiet all = all_quiet add_constant all constant_quiet

wire_quiet : (input : Bool) (x : Layout) (w : Word) → Quiet (add_wire input x w)
wire_quiet input x w st last h =
    let b = bind_ok (declare w st) _ last h in
    let s : State = b.0 in
    same_wired (with_wire input x w.text s) last (provided_ok _ (with_wire input x w.text s) last b.2) ∙ declared w.place w.text st s b.1

formed_quiet : (t : TypeTree) (st : State) (y : Layout × State) → formed t st ≡ Ok y → wired y.1 ≡ wired st
formed_quiet t st y h =
    let a = bind_ok (form (seen st) t) _ y h in
    let x : Formed = a.0 in
    let b = bind_ok (add_constants x.1 st) (λ s. Ok (x.0, s)) y a.2 in
    let s : State = b.0 in
    sym (ap (λ (z : Layout × State). wired z.1) (same_ok (x.0, s) y b.2)) ∙ constants_quiet x.1 st s b.1

form_quiet : (t : TypeTree) (f : Layout → Walk) → ((x : Layout) → Quiet (f x)) → Quiet (with_form t f)
form_quiet t f k st last h =
    let b = bind_ok (formed t st) (λ x. f x.0 x.1) last h in
    k b.0.0 b.0.1 last b.2 ∙ formed_quiet t st b.0 b.1

form_or_bit_quiet : (t : Option TypeTree) (f : Layout → Walk) → ((x : Layout) → Quiet (f x)) → Quiet (with_form_or_bit t f)
form_or_bit_quiet None f k = k (scalar false)
form_or_bit_quiet (Some t) f k = form_quiet t f k

typedef_quiet : (d : TypedefTree) → Quiet (add_typedef d)
typedef_quiet d = form_quiet d.form (λ x. add_constant (d.name, type_is x)) (λ x. constant_quiet (d.name, type_is x))

param_quiet : (word : ParamWord) (k : ParamKind) (w : Word) (x : Expr) → Quiet (add_param word k w x)
param_quiet word k w x st last h =
    let b = bind_ok (value_as k (meant st.levels (given_to word w x st))) (λ v. add_constant (w, v) st) last h in
    let v : What = b.0 in
    constant_quiet (w, v) st last b.2

params_quiet : (p : ParamTree) → Quiet (add_params p)
params_quiet p st last h =
    let b = bind_ok (param_kind (seen st) p.form) _ last h in
    all_quiet (add_param_item p.word b.0) p.list (λ x. param_quiet p.word b.0 x.name x.value) st last b.2

genvar_quiet : (w : Word) → Quiet (add_genvar w)
genvar_quiet w = constant_quiet (w, genvar_is)

work_quiet : (t : Task) → port_wire t ≡ [] → Quiet (add_work t)
unfolding connected_wires
work_quiet t e st last h =
    let w : Standing = record { at = here st; task = t } in
    let now : State = record st { works = st.works ++ w ∷ [] } in
    same_wired now last (same_ok now last h) ∙ wires_both st.works (w ∷ []) ∙ ap (λ (z : List ℕ). connected_wires st.works ++ (z ++ [])) e ∙ append-nil (connected_wires st.works)

child_quiet : (c : InstTree) (o : One) → Quiet (add_child c o)
child_quiet c o st last h =
    let b = bind_ok (declare o.name st) _ last h in
    let s : State = b.0 in
    let now : State = record s { children = s.children ++ child_of c o s ∷ [] } in
    same_wired now last (same_ok now last b.2) ∙ declared o.name.place o.name.text st s b.1

-- ---- generate blocks

enclosed_quiet : (part : Name) (more : List (Name × What)) (body : Walk) → Quiet body → Quiet (enclosed part more body)
enclosed_quiet part more body k st last h =
    let b = bind_ok (body (inner part more st)) _ last h in
    let s : State = b.0 in
    same_wired (outer st s) last (same_ok (outer st s) last b.2) ∙ k (inner part more st) s b.1

block_quiet : (label : Option Word) (p : Place) (n : ℕ) (body : Walk) → Quiet body → Quiet (block_walk label p n body)
block_quiet label p n body k st last h =
    let b = bind_ok (declare_at (block_place label p) (block_name label n) st) _ last h in
    enclosed_quiet (block_name label n) [] body k b.0 last b.2 ∙ declared (block_place label p) (block_name label n) st b.0 b.1

turn_quiet : (p : Place) (g v : Name) (body : Walk) (bits : List Bit) → Quiet body → Quiet (turn_walk p g v body bits)
turn_quiet p g v body bits k st last h =
    let b = bind_ok (count_turn p st) _ last h in
    enclosed_quiet (turn_name g bits) (index_entry v bits ∷ []) body k b.0 last b.2 ∙ same_wired _ b.0 (provided_ok _ _ b.0 b.1)

turns_quiet : (b : Body) (v : Name) (n : ℕ) (all : List (List Bit)) → Quiet b.items → Quiet (turns_walk b v n all)
turns_quiet b v n [] k st last h = same_wired st last (same_ok st last h)
turns_quiet b v n (x ∷ more) k st last h =
    let d = bind_ok (declare_at (block_place b.label b.start) (block_name b.label n) st) _ last h in
    all_quiet (turn_walk b.loop (block_name b.label n) v b.items) (x ∷ more) (λ bits. turn_quiet b.loop (block_name b.label n) v b.items bits k) d.0 last d.2
    ∙ declared (block_place b.label b.start) (block_name b.label n) st d.0 d.1

loop_quiet : (header : Bool) (v : Word) (b : Body) (values : Scope → Judged (List (List Bit))) (n : ℕ) → Quiet b.items → Quiet (loop_walk header v b values n)
loop_quiet header v b values n k st last h =
    let d = bind_ok (provided (genvar_faults header v (find v.text (seen st))) (seen st) >>= values) (λ all. turns_walk b v.text n all st) last h in
    turns_quiet b v.text n d.0 k st last d.2

-- ---- items

stay_quiet : Quiet stay
stay_quiet st last h = same_wired st last (same_ok st last h)

two_quiet : (f g : Walk) → Quiet f → Quiet g → Quiet (then_walk f g)
two_quiet f g a b st last h = let d = bind_ok (f st) g last h in b d.0 last d.2 ∙ a st d.0 d.1

record QuietAct (a : Act) : Type 0 where
  item : Quiet a.item
  branch : (p : Place) (n : ℕ) → Quiet (a.branch p n)

record QuietBranch (b : Branch) : Type 0 where
  body : Quiet b.body
  branch : (n : ℕ) → Quiet (b.branch n)

of_walk : (f : Walk) → Quiet f → QuietAct (act_of f)
of_walk f k = record { item = k; branch = λ p n. block_quiet None p n f k }

chosen_quiet : (b : Bool) (x : Branch) (other : ℕ → Walk) (n : ℕ) → QuietBranch x → ((n : ℕ) → Quiet (other n)) → Quiet (chosen_branch b x other n)
chosen_quiet true x other n k g = k.branch n
chosen_quiet false x other n k g = g n

conditional_quiet : (c : Expr) (x : Branch) (other : ℕ → Walk) (n : ℕ) → QuietBranch x → ((n : ℕ) → Quiet (other n)) → Quiet (conditional c x other n)
conditional_quiet c x other n k g st last h = let b = bind_ok (fixed_truth (mean (seen st) c)) (λ b. chosen_branch b x other n st) last h in chosen_quiet b.0 x other n k g st last b.2

numbered_quiet : (f : ℕ → Walk) → ((n : ℕ) → Quiet (f n)) → Quiet (numbered f)
numbered_quiet f k st last h = k (suc st.constructs) (record st { constructs = suc st.constructs }) last h

mutual
  unfolding act

  act_quiet : (x : Item) → QuietAct (act x)
  act_quiet (Net word t names) = of_walk _ (form_or_bit_quiet t (λ x. walk_all (add_wire false x) names) (λ x. all_quiet (add_wire false x) names (wire_quiet false x)))
  act_quiet (Variable t names) = of_walk _ (form_quiet t (λ x. walk_all (add_wire false x) names) (λ x. all_quiet (add_wire false x) names (wire_quiet false x)))
  act_quiet (Typedef d) = of_walk _ (typedef_quiet d)
  act_quiet (Param p) = of_walk _ (params_quiet p)
  act_quiet (Genvar names) = of_walk _ (all_quiet add_genvar names genvar_quiet)
  act_quiet (Assign all) = of_walk _ (all_quiet add_assignment all (λ (p : AssignPair). work_quiet (assigning p.target p.value) refl))
  act_quiet (Always b) = of_walk _ (work_quiet (running b) refl)
  act_quiet (Inst i) = of_walk _ (all_quiet (add_child i) i.list (child_quiet i))
  act_quiet (Generate' s all) = of_walk _ (acts_quiet all)
  act_quiet (For' p header v start test next r (more_of-Gen x end_of-Gen)) =
      of_walk _ (numbered_quiet (loop_walk header v (body_of p (under x)) (λ at. turns p at v.text start test next)) (λ n. loop_quiet header v (body_of p (under x)) (λ at. turns p at v.text start test next) n (under_quiet x).body))
  act_quiet (If' p c r (more_of-Gen x end_of-Gen) other) = record {
    item = numbered_quiet (conditional c (under x) (under_else other)) (λ n. conditional_quiet c (under x) (under_else other) n (under_quiet x) (else_quiet other));
    branch = λ q n. conditional_quiet c (under x) (under_else other) n (under_quiet x) (else_quiet other);
  }

  acts_quiet : {m : Count} (all : Row_of-Item m) → Quiet (acts all)
  acts_quiet end_of-Item = stay_quiet
  acts_quiet (more_of-Item x all) = two_quiet (act x).item (acts all) (act_quiet x).item (acts_quiet all)

  under_quiet : (x : Gen) → QuietBranch (under x)
  under_quiet (Block' p label s all e) = record { body = acts_quiet all; branch = λ n. block_quiet label p n (acts all) (acts_quiet all) }
  under_quiet (Single' p r (more_of-Item x end_of-Item)) = record { body = (act_quiet x).item; branch = (act_quiet x).branch p }

  else_quiet : (x : Held-Item-If-3) (n : ℕ) → Quiet (under_else x n)
  else_quiet None' n = stay_quiet
  else_quiet (Some' r (more_of-Gen x end_of-Gen)) n = (under_quiet x).branch n

header_quiet : (w : ParamWord) (k : ParamKind) (all : List ParPort) → Quiet (header_params w k all)
unfolding header_params
header_quiet w k [] st last h = same_wired st last (same_ok st last h)
header_quiet w k (p ∷ more) st last h =
    let a = bind_ok (kind_or p.word p.form k (seen st)) _ last h in
    let b = bind_ok (add_param (word_or p.word w) a.0 p.name p.value st) _ last a.2 in
    header_quiet (word_or p.word w) a.0 more b.0 last b.2 ∙ param_quiet (word_or p.word w) a.0 p.name p.value st b.0 b.1

-- ---- names that stay taken

abbrev Remembers : State → State → Type 0
Remembers st last = (n : Name) → st.taken n ≡ true → last.taken n ≡ true

declare_remembers : (p : Place) (m : Name) (st last : State) → declare_at p m st ≡ Ok last → Remembers st last
declare_remembers p m st last h = subst (Remembers st) (provided_ok _ _ last h) (λ n e. or_right (has_name n (m ∷ [])) (st.taken n) e)

constant_remembers : (d : Declared) (st last : State) → add_constant d st ≡ Ok last → Remembers st last
constant_remembers d st last h =
    let b = bind_ok (declare d.0 st) (λ s. Ok (see_const (entry_of d) s)) last h in
    let s : State = b.0 in
    subst (Remembers st) (same_ok (see_const (entry_of d) s) last b.2) (declare_remembers d.0.place d.0.text st s b.1)

constants_remember : (all : List Declared) (st last : State) → add_constants all st ≡ Ok last → Remembers st last
unfolding walk_all
constants_remember [] st last h = subst (Remembers st) (same_ok st last h) (λ n e. e)
constants_remember (d ∷ more) st last h =
    let b = bind_ok (add_constant d st) (walk_all add_constant more) last h in λ n e. constants_remember more b.0 last b.2 n (constant_remembers d st b.0 b.1 n e)

formed_remembers : (t : TypeTree) (st : State) (y : Layout × State) → formed t st ≡ Ok y → Remembers st y.1
formed_remembers t st y h =
    let a = bind_ok (form (seen st) t) _ y h in
    let x : Formed = a.0 in
    let b = bind_ok (add_constants x.1 st) (λ s. Ok (x.0, s)) y a.2 in
    let s : State = b.0 in
    subst (λ (z : Layout × State). Remembers st z.1) (same_ok (x.0, s) y b.2) (constants_remember x.1 st s b.1)

untaken : {A : Type 0} (b : Bool) (p : Place) (n : Name) (x y : A) → provided (name_faults b p n) x ≡ Ok y → b ≡ false
untaken b p n x y h = if_not b twice p (then_clear (fault_if (not (is_name n)) bad_token p) (fault_if b twice p) (no_faults (name_faults b p n) x y h))

not_yet : (st last : State) → Remembers st last → (n : Name) → last.taken n ≡ false → st.taken n ≡ false
not_yet st last r n h = go (st.taken n) refl
  where
    go : (b : Bool) → st.taken n ≡ b → b ≡ false
    go true e = let z : true ≡ false = sym (r n e) ∙ h in cc
    go false e = refl

-- a name that is declared was not taken, and is now
record Declares (n : Name) (st last : State) : Type 0 where
  free : st.taken n ≡ false
  now : last.taken n ≡ true
  stays : Remembers st last

wire_declares : (input : Bool) (x : Layout) (w : Word) (st last : State) → add_wire input x w st ≡ Ok last → Declares w.text st last
wire_declares input x w st last h =
    let b = bind_ok (declare w st) _ last h in
    let s : State = b.0 in
    let made : with_wire input x w.text s ≡ last = provided_ok _ (with_wire input x w.text s) last b.2 in
    let now : State = record st { taken = λ other. has_name other (w.text ∷ []) || st.taken other } in
    let told : now ≡ s = provided_ok _ now s b.1 in
    let own : now.taken w.text ≡ true = ap (λ z. z || st.taken w.text) (first_named w.text []) in
    record {
      free = untaken (st.taken w.text) w.place w.text now s b.1;
      now = subst (λ (z : State). z.taken w.text ≡ true) made (subst (λ (z : State). z.taken w.text ≡ true) told own);
      stays = subst (Remembers st) made (declare_remembers w.place w.text st s b.1);
    }

-- ---- the ports of a header

-- each has its wire above that of the one before
unfoldable Ascend : ℕ → List OpenPort → Type 0
Ascend k [] = Unit {0}
Ascend k (p ∷ more) = (k ≤ p.wire) × Ascend (suc p.wire) more

record Formed-port (st : State) (y : Layout × State) : Type 0 where
  quiet : wired y.1 ≡ wired st
  wires : y.1.wires ≡ st.wires
  stays : Remembers st y.1

abbrev Is : {A : Type 0} → Judged A → A → Type 0
Is j y = j ≡ Ok y

form_found : (p : Port) (before : Layout) (st : State) (y : Layout × State) → port_form p before st ≡ Ok y → Formed-port st y
form_found p before st y h = go p.way p.kind p.form p.name h
  where
    plain : (x : Layout) → Is (Ok (x, st)) y → Formed-port st y
    plain x e = subst (Formed-port st) (same_ok (x, st) y e) (record { quiet = refl; wires = refl; stays = λ n t. t })

    typed : (t : TypeTree) → formed t st ≡ Ok y → Formed-port st y
    typed t e = record { quiet = formed_quiet t st y e; wires = formed_wires t st y e; stays = formed_remembers t st y e }

    go : (w : Option Way) (k : Option NetWord) (t : Option TypeTree) (n : Word) → port_form (record { way = w; kind = k; form = t; name = n }) before st ≡ Ok y → Formed-port st y
    go None None None n e = plain before e
    go None None (Some t) n e = typed t e
    go None (Some k) None n e = plain (scalar false) e
    go None (Some k) (Some t) n e = typed t e
    go (Some w) None None n e = plain (scalar false) e
    go (Some w) None (Some t) n e = typed t e
    go (Some w) (Some k) None n e = plain (scalar false) e
    go (Some w) (Some k) (Some t) n e = typed t e

record Found-port (n : Name) (st : State) (y : OpenPort × State) : Type 0 where
  quiet : wired y.1 ≡ wired st
  wires : length y.1.wires ≡ suc (length st.wires)
  wire : y.0.wire ≡ length st.wires
  declares : Declares n st y.1

port_found : (top : Bool) (d : Way) (x : Layout) (w : Word) (st : State) (y : OpenPort × State) → add_port top d x w st ≡ Ok y → Found-port w.text st y
port_found top d x w st y h =
    let b = bind_ok (add_wire (top && is_input d) x w st) _ y h in
    let s : State = b.0 in
    let p : OpenPort = record { name = w.text; way = d; wire = length st.wires; layout = x } in
    let a = wire_added (top && is_input d) x w st s b.1 in
    let long : length s.wires ≡ length st.wires + 1 = ap length a.is ∙ length-append st.wires (a.wire ∷ []) in
    subst (Found-port w.text st) (same_ok (p, s) y b.2) (record {
      quiet = wire_quiet (top && is_input d) x w st s b.1;
      wires = omega (arith, long);
      wire = refl;
      declares = wire_declares (top && is_input d) x w st s b.1;
    })

record Found-ports (st : State) (names : List Name) (y : List OpenPort × State) : Type 0 where
  quiet : wired y.1 ≡ wired st
  ascend : Ascend (length st.wires) y.0
  free : AreFree st.taken names
  apart : AreApart names

ports_found : (top : Bool) (before : Way) (x : Layout) (all : List Port) (st : State) (y : List OpenPort × State) → header_ports top before x all st ≡ Ok y → Found-ports st (port_texts all) y
unfolding header_ports port_texts Ascend AreFree AreApart
ports_found top before x [] st y h = subst (Found-ports st []) (same_ok ([], st) y h) (record { quiet = refl; ascend = tt; free = tt; apart = tt })
ports_found top before x (p ∷ more) st y h =
    let a = bind_ok (port_form p x st) _ y h in
    let b = bind_ok (add_port top (or_way p.way before) a.0.0 p.name a.0.1) _ y a.2 in
    let c = bind_ok (header_ports top (or_way p.way before) a.0.0 more b.0.1) _ y b.2 in
    let shape = form_found p x st a.0 a.1 in
    let one = port_found top (or_way p.way before) a.0.0 p.name a.0.1 b.0 b.1 in
    let rest = ports_found top (or_way p.way before) a.0.0 more b.0.1 c.0 c.1 in
    let own = one.declares in
    let same : length a.0.1.wires ≡ length st.wires = ap length shape.wires in
    let behind : length b.0.1.wires ≡ suc b.0.0.wire = (let e = one.wires in let f = one.wire in omega (arith, e, f)) in
    subst (Found-ports st (port_texts (p ∷ more))) (same_ok (b.0.0 ∷ c.0.0, c.0.1) y c.2) (record {
      quiet = rest.quiet ∙ one.quiet ∙ shape.quiet;
      ascend = ((let f = one.wire in omega (arith, same, f)), subst (λ (k : ℕ). Ascend k c.0.0) behind rest.ascend);
      free = (
        not_yet st a.0.1 shape.stays p.name.text own.free,
        free_before st.taken b.0.1.taken (port_texts more) (not_yet st b.0.1 (λ n e. own.stays n (shape.stays n e))) rest.free,
      );
      apart = (unnamed b.0.1.taken p.name.text (port_texts more) own.now rest.free, rest.apart);
    })

-- ---- connections

abbrev names_of : List Connection → List Name
names_of all = map (λ (c : Connection). c.0) all

both_ok : {A B : Type 0} (j : Judged A) (k : Judged B) (y : A × B) → both j k ≡ Ok y → (j ≡ Ok y.0) × (k ≡ Ok y.1)
both_ok (Ok x) (Ok z) y h = let e = same_ok (x, z) y h in (λ i. Ok ((e i).0), λ i. Ok ((e i).1))
both_ok (Ok x) (Err all) y h = cc
both_ok (Err all) k y h = cc

record Named-once (used : List Name) (all : List Connection) : Type 0 where
  free : AreFree (λ n. has_name n used) (names_of all)
  apart : AreApart (names_of all)

named_once : (names used : List Name) (list : List NamedPin) (y : List Connection) → by_name names used list ≡ Ok y → Named-once used y
unfolding by_name AreFree AreApart has_name
named_once names used [] y h = subst (Named-once used) (same_ok [] y h) (record { free = tt; apart = tt })
named_once names used (x ∷ more) y h =
    let a = bind_ok (both (provided (pin_faults names used x.name) x) (by_name names (x.name.text ∷ used) more)) _ y h in
    let z : NamedPin × List Connection = a.0 in
    let b = both_ok (provided (pin_faults names used x.name) x) (by_name names (x.name.text ∷ used) more) z a.1 in
    let rest = named_once names (x.name.text ∷ used) more z.1 b.1 in
    let same : x ≡ z.0 = provided_ok (pin_faults names used x.name) x z.0 b.0 in
    let new : has_name x.name.text used ≡ false =
    if_not (has_name x.name.text used) port_twice x.name.place (then_clear (fault_if (not (has_name x.name.text names)) port_unknown x.name.place) (fault_if (has_name x.name.text used) port_twice x.name.place) (no_faults (pin_faults names used x.name) x z.0 b.0)) in
    let own : Named-once used (joined_pins x z.1) = record {
      free = (new, free_before (λ n. has_name n used) (λ n. has_name n (x.name.text ∷ used)) (names_of z.1) (λ n e. not_right (bytes_eq x.name.text n) (has_name n used) e) rest.free);
      apart = (unnamed (λ n. has_name n (x.name.text ∷ used)) x.name.text (names_of z.1) (first_named x.name.text used) rest.free, rest.apart);
    } in
    subst (Named-once used) (same_ok (joined_pins z.0 z.1) y a.2) (subst (λ (w : NamedPin). Named-once used (joined_pins w z.1)) same own)

record Ordered (names : List Name) (all : List Connection) : Type 0 where
  fewer : (m : Name) → has_name m names ≡ false → has_name m (names_of all) ≡ false
  apart : AreApart names → AreApart (names_of all)

ordered_once : (at : Scope) (names : List Name) (list : List Expr) (y : List Connection) → in_order at names list ≡ Ok y → Ordered names y
unfolding in_order AreApart has_name
ordered_once at names [] y h = subst (Ordered names) (same_ok [] y h) (record { fewer = λ m e. refl; apart = λ e. tt })
ordered_once at [] (x ∷ more) y h = cc
ordered_once at (n ∷ names) (x ∷ more) y h =
    let a = bind_ok (in_order at names more) _ y h in
    let z : List Connection = a.0 in
    let rest = ordered_once at names more z a.1 in
    subst (Ordered (n ∷ names)) (same_ok ((n, Some x) ∷ z) y a.2) (record {
      fewer = λ m e. neither (bytes_eq n m) (has_name m (names_of z)) (not_left (bytes_eq n m) (has_name m names) e) (rest.fewer m (not_right (bytes_eq n m) (has_name m names) e));
      apart = λ e. (rest.fewer n e.0, rest.apart e.1);
    })

connected_once : (at : Scope) (names : List Name) (list : Option Pins) (y : List Connection) → connections at names list ≡ Ok y → AreApart names → AreApart (names_of y)
unfolding AreApart
connected_once at names None y h e = subst (λ (z : List Connection). AreApart (names_of z)) (same_ok [] y h) tt
connected_once at names (Some (pins.Named all)) y h e = (named_once names [] all y h).apart
connected_once at names (Some (pins.Ordered all)) y h e = (ordered_once at names all y h).apart e

-- ---- the wires of connected ports

abbrev Finds : Name → List OpenPort → OpenPort → Type 0
Finds n ports p = port_named n ports ≡ Some p

-- what a name finds: the first port, which has that name, or one of the others
found_first : (b : Bool) (x p : OpenPort) (o : Option OpenPort) (P : Type 0) → cond b (Some x) o ≡ Some p → (b ≡ true → x ≡ p → P) → (b ≡ false → o ≡ Some p → P) → P
found_first true x p o P h f g = f refl (let z : Some x ≡ Some p = h in cc)
found_first false x p o P h f g = g refl h

above_first : (k : ℕ) (n : Name) (ports : List OpenPort) (p : OpenPort) → Ascend k ports → Finds n ports p → k ≤ p.wire
unfolding Ascend port_named
above_first k n [] p a h = cc
above_first k n (x ∷ more) p a h =
    found_first (bytes_eq x.name n) x p (port_named n more) (k ≤ p.wire) h (λ t e. subst (λ (q : OpenPort). k ≤ q.wire) e a.0)
    (λ t e. let up = above_first (suc x.wire) n more p a.1 e in let own = a.0 in omega (arith, up, own))

text_is : (n m : Name) → bytes_eq m n ≡ true → m ≡ n
text_is n m h = search (bytes_eq-Decides m n, h, rules)

-- two names that find one wire are one
one_name : (k : ℕ) (n m : Name) (ports : List OpenPort) (p q : OpenPort) → Ascend k ports → Finds n ports p → Finds m ports q → p.wire ≡ q.wire → n ≡ m
unfolding Ascend port_named
one_name k n m [] p q a h g e = cc
one_name k n m (x ∷ more) p q a h g e =
    found_first (bytes_eq x.name n) x p (port_named n more) (n ≡ m) h
    (λ t s. found_first (bytes_eq x.name m) x q (port_named m more) (n ≡ m) g (λ u r. sym (text_is n x.name t) ∙ text_is m x.name u)
    (λ u r. let up = above_first (suc x.wire) m more q a.1 r in let same : x.wire ≡ q.wire = ap (λ (z : OpenPort). z.wire) s ∙ e in absurd (omega (arith, up, same))))
    (λ t s. found_first (bytes_eq x.name m) x q (port_named m more) (n ≡ m) g
    (λ u r. let up = above_first (suc x.wire) n more p a.1 s in let same : x.wire ≡ p.wire = ap (λ (z : OpenPort). z.wire) r ∙ sym e in absurd (omega (arith, up, same)))
    (λ u r. one_name (suc x.wire) n m more p q a.1 s r e))

-- the wire that one connection brings
one_connected : (P : ℕ → Type 0) (at : Front) (o : Option OpenPort) (x : Option Expr) → ((p : OpenPort) → o ≡ Some p → P p.wire) → All P (connected_wires (connected at o x))
unfolding connected_wires
one_connected P at None x f = All-nil P
one_connected P at (Some p) None f = All-nil P
one_connected P at (Some p) (Some x) f = All-cons P p.wire [] (f p refl) (All-nil P)

all_connected : (P : ℕ → Type 0) (at : Front) (list : List Connection) (ports : List OpenPort) → ((c : Name) (p : OpenPort) → has_name c (names_of list) ≡ true → Finds c ports p → P p.wire) → All P (connected_wires (port_works at list ports))
unfolding port_works has_name connected_wires
all_connected P at [] ports f = All-nil P
all_connected P at (c ∷ more) ports f =
    subst (All P) (sym (wires_both (connected at (port_named c.0 ports) c.1) (port_works at more ports)))
    (All-append P (connected_wires (connected at (port_named c.0 ports) c.1)) (connected_wires (port_works at more ports))
    (one_connected P at (port_named c.0 ports) c.1 (λ p e. f c.0 p (first_named c.0 (names_of more)) e))
    (all_connected P at more ports (λ d p i e. f d p (or_right (bytes_eq c.0 d) (has_name d (names_of more)) i) e)))

one_pair : (at : Front) (o : Option OpenPort) (x : Option Expr) → AllPairs ◌≢◌ (connected_wires (connected at o x))
unfolding connected_wires
one_pair at None x = pairs_none ◌≢◌
one_pair at (Some p) None = pairs_none ◌≢◌
one_pair at (Some p) (Some x) = AllPairs-cons ◌≢◌ p.wire [] (All-nil (λ m. p.wire ≢ m)) (pairs_none ◌≢◌)

ports_apart : (at : Front) (k : ℕ) (list : List Connection) (ports : List OpenPort) → Ascend k ports → AreApart (names_of list) → AllPairs ◌≢◌ (connected_wires (port_works at list ports))
unfolding port_works AreApart connected_wires
ports_apart at k [] ports a h = pairs_none ◌≢◌
ports_apart at k (c ∷ more) ports a h =
    let own = connected_wires (connected at (port_named c.0 ports) c.1) in
    let rest = connected_wires (port_works at more ports) in
    let P : ℕ → Type 0 = λ m. All (λ n. m ≢ n) rest in
    let differs : (p q : OpenPort) (d : Name) → has_name d (names_of more) ≡ true → Finds c.0 ports p → Finds d ports q → p.wire ≢ q.wire =
    λ p q d i f g e.
    let same : c.0 ≡ d = one_name k c.0 d ports p q a f g e in
    let z : true ≡ false = sym i ∙ ap (λ (m : Name). has_name m (names_of more)) (sym same) ∙ h.0 in
    cc in
    subst (AllPairs ◌≢◌) (sym (wires_both (connected at (port_named c.0 ports) c.1) (port_works at more ports)))
    (pairs_both ◌≢◌ own rest (one_pair at (port_named c.0 ports) c.1) (ports_apart at k more ports a h.1)
    (one_connected P at (port_named c.0 ports) c.1 (λ p f. all_connected (λ n. p.wire ≢ n) at more ports (λ d q i g. differs p q d i f g))))

ports_above : (at : Front) (k : ℕ) (list : List Connection) (ports : List OpenPort) → Ascend k ports → All (λ m. k ≤ m) (connected_wires (port_works at list ports))
ports_above at k list ports a = all_connected (λ m. k ≤ m) at list ports (λ c p i e. above_first k c ports p a e)

task_below : (wires : List Signal) (t : Task) → TaskIsGood wires t → All (λ m. m < length wires) (port_wire t)
task_below wires (assigning to x) h = All-nil (λ m. m < length wires)
task_below wires (running b) h = All-nil (λ m. m < length wires)
task_below wires (connecting d n x actual) h = All-cons (λ m. m < length wires) n [] h.1 (All-nil (λ m. m < length wires))

works_below : (wires : List Signal) (all : List Standing) → WorksAreGood wires all → All (λ m. m < length wires) (connected_wires all)
unfolding WorksAreGood connected_wires
works_below wires [] h = All-nil (λ m. m < length wires)
works_below wires (w ∷ more) h = All-append (λ m. m < length wires) (port_wire w.task) (connected_wires more) (task_below wires w.task h.0) (works_below wires more h.1)

-- ---- instances

abbrev Own : State → Type 0
Own st = Inv st × AllPairs ◌≢◌ (wired st)

instance_own : (top : Bool) (m : Module) (at : Front) (list : List Connection) (st last : State) → Own st → (AreApart (port_texts (ports_of m)) → AreApart (names_of list)) → instance_walk top m at list st ≡ Ok last → Own last
instance_own top m at list st last i once h =
    let a = bind_ok (header_params param_word.Parameter kept m.params st) _ last h in
    let b = bind_ok (header_ports top way.Input (scalar false) (ports_of m) a.0) _ last a.2 in
    let s : State = a.0 in
    let ports : List OpenPort = b.0.0 in
    let t : State = b.0.1 in
    let now : State = record t { works = t.works ++ port_works at list ports } in
    let found = ports_found top way.Input (scalar false) (ports_of m) s b.0 b.1 in
    let new = connected_wires (port_works at list ports) in
    let inv : Inv s = header_keeps param_word.Parameter kept m.params st s i.0 a.1 in
    let before : wired s ≡ wired st = header_quiet param_word.Parameter kept m.params st s a.1 in
    let apart : AllPairs ◌≢◌ (wired s ++ new) =
    pairs_both ◌≢◌ (wired s) new (subst (AllPairs ◌≢◌) (sym before) i.1) (ports_apart at (length s.wires) list ports found.ascend (once found.apart))
    (apart_at (length s.wires) (wired s) new (works_below s.wires s.works inv.1) (ports_above at (length s.wires) list ports found.ascend)) in
    let all : wired now ≡ wired s ++ new = wires_both t.works (port_works at list ports) ∙ ap (λ (z : List ℕ). z ++ new) found.quiet in
    let quiet : wired last ≡ wired now = all_quiet (λ x. (act x).item) m.items (λ x. (act_quiet x).item) now last b.2 in
    (instance_keeps top m at list st last i.0 h, subst (AllPairs ◌≢◌) (sym (quiet ∙ all)) apart)

abbrev KeepsOwn : Walk → Type 0
KeepsOwn f = (st last : State) → Own st → f st ≡ Ok last → Own last

all_own : {A : Type 0} (f : A → Walk) (all : List A) → ((x : A) → KeepsOwn (f x)) → KeepsOwn (walk_all f all)
unfolding walk_all
all_own f [] k st last i h = subst Own (same_ok st last h) i
all_own f (x ∷ more) k st last i h = let b = bind_ok (f x st) (walk_all f more) last h in all_own f more k b.0 last (k x st b.0 i b.1) b.2

below_own : (f : Child → Walk) → ((c : Child) → KeepsOwn (f c)) → KeepsOwn (below f)
below_own f k st last i h = all_own f st.children k (record st { children = [] }) last i h

child_own : (deep : ℕ) (all : Library) (c : Child) → KeepsOwn (child deep all c)
unfolding child
child_own zero all c st last i h = cc
child_own (suc deep) all c st last i h =
    let a = bind_ok (module_of all c) _ last h in
    let b = bind_ok (connections (seen_at st.levels c.at) (open_params a.0.tree) c.params) _ last a.2 in
    let d = bind_ok (connections (seen_at st.levels c.at) (port_texts (ports_of a.0.tree)) c.pins) _ last b.2 in
    let e = bind_ok (count_instance c st) _ last d.2 in
    let counted : Own e.0 = subst Own (provided_ok _ _ e.0 e.1) i in
    let f = bind_ok (instance_walk false a.0.tree c.at d.0 (begun a.0 c.path c.at.level (given_by c.at b.0) e.0)) _ last e.2 in
    let own : Own f.0 =
    instance_own false a.0.tree c.at d.0 (begun a.0 c.path c.at.level (given_by c.at b.0) e.0) f.0 (begun_good a.0 c.path c.at.level (given_by c.at b.0) e.0 counted.0, counted.1)
    (connected_once (seen_at st.levels c.at) (port_texts (ports_of a.0.tree)) c.pins d.0 d.1) f.1 in
    let g = bind_ok (below (child deep all) f.0) _ last f.2 in
    subst Own (same_ok _ last g.2) (below_own (child deep all) (child_own deep all) f.0 g.0 own g.1)

-- ---- the file level, and the whole

library_quiet : (parts : List SourcePart) (all : Library) (st : State) (y : Library × State) → library parts all st ≡ Ok y → wired y.1 ≡ wired st
unfolding library
library_quiet [] all st y h = sym (ap (λ (z : Library × State). wired z.1) (same_ok (all, st) y h))
library_quiet (source_part.Module m ∷ more) all st y h =
    let b = bind_ok (provided (fault_if (is_there (module_named m.name.text all)) twice m.name.place) (record { tree = m; number = length all; above = (here st).consts })) _ y h in
    library_quiet more (all ++ b.0 ∷ []) st y b.2
library_quiet (source_part.Typedef d ∷ more) all st y h = let b = bind_ok (add_typedef d st) _ y h in library_quiet more all b.0 y b.2 ∙ typedef_quiet d st b.0 b.1
library_quiet (source_part.Param p ∷ more) all st y h = let b = bind_ok (add_params p st) _ y h in library_quiet more all b.0 y b.2 ∙ params_quiet p st b.0 b.1

file_apart : AllPairs ◌≢◌ (wired file_state)
unfolding connected_wires
file_apart = pairs_none ◌≢◌

pub wires_are_distinct : (source : Source) (top : Option Name) (st : State) → scopes source top ≡ Ok st → AllPairs ◌≢◌ (connected_wires st.works)
unfolding AreApart
wires_are_distinct source top st h =
    let a = bind_ok (library source.parts [] file_state) _ st h in
    let b = bind_ok (top_module a.0.0 top) _ st a.2 in
    let file : Own a.0.1 = (library_keeps source.parts [] file_state a.0 file_good a.1, subst (AllPairs ◌≢◌) (sym (library_quiet source.parts [] file_state a.0 a.1)) file_apart) in
    let c = bind_ok (instance_walk true b.0.tree (here a.0.1) [] (begun b.0 [] 0 [] a.0.1)) _ st b.2 in
    let own : Own c.0 = instance_own true b.0.tree (here a.0.1) [] (begun b.0 [] 0 [] a.0.1) c.0 (begun_good b.0 [] 0 [] a.0.1 file.0, file.1) (λ e. tt) c.1 in
    (below_own (child deepest a.0.0) (child_own deepest a.0.0) c.0 st own c.2).1
