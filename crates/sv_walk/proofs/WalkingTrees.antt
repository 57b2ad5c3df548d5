-- What items and branches are walked as, by their forms.
use Rattle.std.proofs.Common.{◌≡◌, ℕ, suc, List, [], ◌∷◌, length, Bool, true, false, Option, Some, None, Result, Ok, Err, refl, sym, ap, ◌∙◌, subst}
use Rattle.std.specs.Result.{IsErrAnd}
use Rattle.fourvec.specs.declared.Bit.{Bit}
use Rattle.sv_outside.specs.declared.refusal.Place.{Place}
use Rattle.sv_outside.specs.declared.refusal.TextErr.{TextErr}
use Rattle.sv_tree.specs.declared.word.Word.{Word}
use Rattle.sv_tree.specs.declared.exprs.Expr.{Expr}
use Rattle.sv_tree.specs.declared.stmts.Step.{Step}
use Rattle.sv_tree.specs.declared.stmts.Block.{Block}
use Rattle.sv_tree.specs.declared.forms.TypeTree.{TypeTree}
use Rattle.sv_tree.specs.declared.forms.Typedef.{Typedef as TypedefTree}
use Rattle.sv_tree.specs.declared.design.NetWord.{NetWord}
use Rattle.sv_tree.specs.declared.design.AssignPair.{AssignPair}
use Rattle.sv_tree.specs.declared.design.Param.{Param}
use Rattle.sv_tree.specs.declared.design.Inst.{Inst}
use Rattle.sv_tree.specs.declared.design.Item.{Item, Net, Variable, Typedef, Param as Params, Genvar, Assign, Always, Inst as Insts, For', If', Generate', end_of-Gen, more_of-Gen, None', Some'}
use Rattle.sv_tree.specs.declared.design.Item.TheVariants as it
use Rattle.sv_tree.specs.declared.design.Gen.{Gen}
use Rattle.sv_tree.specs.declared.design.Gen.TheVariants as ge
use Rattle.sv_tree.specs.declared.design.Gen.TheBlock.{shape-the_row-Item-0, hidden-the_row-Item-0, shape-the_row-Item-1, hidden-the_row-Item-1, shape-the_row-Gen-2, hidden-the_row-Gen-2}
use Rattle.sv_meaning.specs.Faults.{Judged, ◌>>=◌}
use Rattle.sv_meaning.specs.Deeds.{fixed_truth}
use Rattle.sv_meaning.specs.Values.{mean}
use Rattle.sv_hierarchy.specs.Scopes.{State, Walk, walk_all, act, acts, under, add_wire, add_typedef, add_params, add_genvar, add_assignment, add_work, add_child, running, with_form, with_form_or_bit, numbered, conditional, chosen_branch, block_walk, seen, turns_walk, body_of, then_walk, next_construct, turn_walk, block_name}
use Rattle.sv_loops.specs.Answers.{Answers, Gives}
use Rattle.sv_walk.specs.Items.{BeginsLoop, OpensLoop, else_of, items_walk}
use Rattle.sv_walk.specs.Walks.{state_of}
use Rattle.sv_walk.specs.declared.walker.Walker.{Walker}
use Rattle.sv_walk.specs.declared.walker.Open.{Open}
use Rattle.sv_levels.specs.declared.loops.Turns.{Turns}
use Rattle.sv_walk.proofs.Declaring.{refused_as, refused_then}
use Rattle.sv_walk.specs.Looping.{loop_judged}
use Rattle.sv_walk.proofs.Walking.{Ends, handed_walk, same_ends}
use Rattle.sv_walk.proofs.WalkingBlocks.{loop_refused, loop_turns}

row_walk : (all : List Item) → acts (hidden-the_row-Item-0 all) ≡ items_walk all
unfolding act walk_all shape-the_row-Item-0 hidden-the_row-Item-0 shape-the_row-Item-1 hidden-the_row-Item-1 shape-the_row-Gen-2 hidden-the_row-Gen-2 denote.Hole.Carrier.hidden
row_walk [] = refl
row_walk (x ∷ all) = ap (λ (g : Walk). then_walk (act x).item g) (row_walk all)

pub net_walk : (w : NetWord) (t : Option TypeTree) (names : List Word) → (act (it.Net w t names)).item ≡ with_form_or_bit t (λ x. walk_all (add_wire false x) names)
unfolding act
net_walk w t names = refl

pub variable_walk : (t : TypeTree) (names : List Word) → (act (it.Variable t names)).item ≡ with_form t (λ x. walk_all (add_wire false x) names)
unfolding act
variable_walk t names = refl

pub typedef_walk : (d : TypedefTree) → (act (it.Typedef d)).item ≡ add_typedef d
unfolding act
typedef_walk d = refl

pub param_walk : (p : Param) → (act (it.Param p)).item ≡ add_params p
unfolding act
param_walk p = refl

pub genvar_walk : (names : List Word) → (act (it.Genvar names)).item ≡ walk_all add_genvar names
unfolding act
genvar_walk names = refl

pub assign_walk : (all : List AssignPair) → (act (it.Assign all)).item ≡ walk_all add_assignment all
unfolding act
assign_walk all = refl

pub always_walk : (b : Block) → (act (it.Always b)).item ≡ add_work (running b)
unfolding act
always_walk b = refl

pub inst_walk : (i : Inst) → (act (it.Inst i)).item ≡ walk_all (add_child i) i.list
unfolding act
inst_walk i = refl

pub generate_walk : (all : List Item) → (act (it.Generate all)).item ≡ items_walk all
unfolding act shape-the_row-Item-0 hidden-the_row-Item-0 shape-the_row-Item-1 hidden-the_row-Item-1 shape-the_row-Gen-2 hidden-the_row-Gen-2 denote.Hole.Carrier.hidden
generate_walk all = row_walk all

pub for_walk : (p : Place) (header : Bool) (v : Word) (start test : Expr) (next : Step) (x : Gen) (s : State) → (act (it.For p header v start test next x)).item s ≡
    (loop_judged p header v start test next s >>= λ all. turns_walk (body_of p (under x)) v.text (suc s.constructs) all (record s { constructs = suc s.constructs }))
unfolding act shape-the_row-Item-0 hidden-the_row-Item-0 shape-the_row-Item-1 hidden-the_row-Item-1 shape-the_row-Gen-2 hidden-the_row-Gen-2 denote.Hole.Carrier.hidden
for_walk p header v start test next x s = refl

pub if_walk : (p : Place) (c : Expr) (x : Gen) (other : Option Gen) → (act (it.If p c x other)).item ≡ numbered (conditional c (under x) (else_of other))
unfolding act shape-the_row-Item-0 hidden-the_row-Item-0 shape-the_row-Item-1 hidden-the_row-Item-1 shape-the_row-Gen-2 hidden-the_row-Gen-2 denote.Hole.Carrier.hidden
if_walk p c x None = refl
if_walk p c x (Some y) = refl

pub block_body : (p : Place) (b : Option Word) (all : List Item) (e : Option Word) → (under (ge.Block p b all e)).body ≡ items_walk all
unfolding act shape-the_row-Item-0 hidden-the_row-Item-0 shape-the_row-Item-1 hidden-the_row-Item-1 shape-the_row-Gen-2 hidden-the_row-Gen-2 denote.Hole.Carrier.hidden
block_body p b all e = row_walk all

pub single_body : (p : Place) (x : Item) → (under (ge.Single p x)).body ≡ (act x).item
unfolding act shape-the_row-Item-0 hidden-the_row-Item-0 shape-the_row-Item-1 hidden-the_row-Item-1 shape-the_row-Gen-2 hidden-the_row-Gen-2 denote.Hole.Carrier.hidden
single_body p x = refl

pub block_branch : (p : Place) (b : Option Word) (all : List Item) (e : Option Word) (n : ℕ) → (under (ge.Block p b all e)).branch n ≡ block_walk b p n (items_walk all)
unfolding act shape-the_row-Item-0 hidden-the_row-Item-0 shape-the_row-Item-1 hidden-the_row-Item-1 shape-the_row-Gen-2 hidden-the_row-Gen-2 denote.Hole.Carrier.hidden
block_branch p b all e n = ap (λ (g : Walk). block_walk b p n g) (row_walk all)

pub if_branch : (p q : Place) (c : Expr) (x : Gen) (other : Option Gen) (n : ℕ) → (under (ge.Single q (it.If p c x other))).branch n ≡ conditional c (under x) (else_of other) n
unfolding act shape-the_row-Item-0 hidden-the_row-Item-0 shape-the_row-Item-1 hidden-the_row-Item-1 shape-the_row-Gen-2 hidden-the_row-Gen-2 denote.Hole.Carrier.hidden
if_branch p q c x None n = refl
if_branch p q c x (Some y) n = refl

pub single_branch : (p : Place) (x : Item) (n : ℕ) → ((q : Place) (c : Expr) (y : Gen) (other : Option Gen) → x ≡ it.If q c y other → ⊥) → (under (ge.Single p x)).branch n ≡ block_walk None p n (act x).item
unfolding act shape-the_row-Item-0 hidden-the_row-Item-0 shape-the_row-Item-1 hidden-the_row-Item-1 shape-the_row-Gen-2 hidden-the_row-Gen-2 denote.Hole.Carrier.hidden
single_branch p (Net w t names) n h = refl
single_branch p (Variable t names) n h = refl
single_branch p (Typedef d) n h = refl
single_branch p (Params d) n h = refl
single_branch p (Genvar names) n h = refl
single_branch p (Assign all) n h = refl
single_branch p (Always b) n h = refl
single_branch p (Insts i) n h = refl
single_branch p (Generate' r all) n h = refl
single_branch p (For' q header v start test next r (more_of-Gen x end_of-Gen)) n h = refl
single_branch p (If' q c r (more_of-Gen x end_of-Gen) None') n h = absurd (h q c x None refl)
single_branch p (If' q c r (more_of-Gen x end_of-Gen) (Some' k (more_of-Gen y end_of-Gen))) n h = absurd (h q c x (Some y) refl)

pub block_head : (p : Place) (b : Option Word) (all : List Item) (e : Option Word) → ((under (ge.Block p b all e)).label ≡ b) × ((under (ge.Block p b all e)).start ≡ p)
unfolding act shape-the_row-Item-0 hidden-the_row-Item-0 shape-the_row-Item-1 hidden-the_row-Item-1 shape-the_row-Gen-2 hidden-the_row-Gen-2 denote.Hole.Carrier.hidden
block_head p b all e = (refl, refl)

pub single_head : (p : Place) (x : Item) → ((under (ge.Single p x)).label ≡ None) × ((under (ge.Single p x)).start ≡ p)
unfolding act shape-the_row-Item-0 hidden-the_row-Item-0 shape-the_row-Item-1 hidden-the_row-Item-1 shape-the_row-Gen-2 hidden-the_row-Gen-2 denote.Hole.Carrier.hidden
single_head p x = (refl, refl)

-- ---- conditionals

pub taken_branch : (c : Expr) (x : Gen) (other : Option Gen) (n : ℕ) (s : State) → fixed_truth (mean (seen s) c) ≡ Ok true → conditional c (under x) (else_of other) n s ≡ (under x).branch n s
taken_branch c x other n s e = ap (λ (j : Judged Bool). j >>= λ b. chosen_branch b (under x) (else_of other) n s) e

pub other_branch : (c : Expr) (x : Gen) (other : Option Gen) (n : ℕ) (s : State) → fixed_truth (mean (seen s) c) ≡ Ok false → conditional c (under x) (else_of other) n s ≡ else_of other n s
other_branch c x other n s e = ap (λ (j : Judged Bool). j >>= λ b. chosen_branch b (under x) (else_of other) n s) e

pub if_is : (p : Place) (c : Expr) (x : Gen) (other : Option Gen) (item : Item) (s q : State) → item ≡ it.If p c x other → next_construct s ≡ Ok q → (act item).item s ≡ conditional c (under x) (else_of other) q.constructs q
if_is p c x other item s q e h =
    ap (λ (y : Item). (act y).item s) e ∙ ap (λ (f : Walk). f s) (if_walk p c x other) ∙ ap (λ (j : Judged State). j >>= λ y. conditional c (under x) (else_of other) y.constructs y) h

pub if_counted : (p : Place) (c : Expr) (x : Gen) (other : Option Gen) (item : Item) (s t u : State) (y : Result (Unit {0}) TextErr) (e : TextErr) (z : Result (Unit {0}) TextErr) → item ≡ it.If p c x other → y ≡ Err e →
    Ends t (next_construct s) y → IsErrAnd z (λ d. d ≡ e) → Ends u ((act item).item s) z
if_counted p c x other item s t u y e z i h k r =
    same_ends u ((act item).item s) (numbered (conditional c (under x) (else_of other)) s) z (ap (λ (w : Item). (act w).item s) i ∙ ap (λ (f : Walk). f s) (if_walk p c x other))
    (handed_walk t u (next_construct s) (λ w. conditional c (under x) (else_of other) w.constructs w) y e z h k r)

-- ---- loops

for_is : (p : Place) (header : Bool) (v : Word) (start test : Expr) (next : Step) (x : Gen) (item : Item) (s : State) → item ≡ it.For p header v start test next x →
    (act item).item s ≡ (loop_judged p header v start test next s >>= λ all. turns_walk (body_of p (under x)) v.text (suc s.constructs) all (record s { constructs = suc s.constructs }))
for_is p header v start test next x item s e = ap (λ (y : Item). (act y).item s) e ∙ for_walk p header v start test next x s

for_valued : (p : Place) (header : Bool) (v : Word) (start test : Expr) (next : Step) (x : Gen) (item : Item) (s : State) (found : List (List Bit)) → item ≡ it.For p header v start test next x →
    loop_judged p header v start test next s ≡ Ok found → (act item).item s ≡ turns_walk (body_of p (under x)) v.text (suc s.constructs) found (record s { constructs = suc s.constructs })
for_valued p header v start test next x item s found e h =
    for_is p header v start test next x item s e ∙ ap (λ (j : Judged (List (List Bit))). j >>= λ all. turns_walk (body_of p (under x)) v.text (suc s.constructs) all (record s { constructs = suc s.constructs })) h

pub for_unvalued : (p : Place) (header : Bool) (v : Word) (start test : Expr) (next : Step) (x : Gen) (item : Item) (w : Walker) (o q : Open) (e : TextErr) (z : Result Turns TextErr) →
    item ≡ it.For p header v start test next x → Gives (loop_judged p header v start test next (state_of w o)) (Err e) → IsErrAnd z (λ d. d ≡ e) → OpensLoop item p v x w o q z
for_unvalued p header v start test next x item w o q e (Ok turns) i h r = absurd r
for_unvalued p header v start test next x item w o q e (Err y) i h r =
    let s = state_of w o in
    subst (λ (f : TextErr). OpensLoop item p v x w o q (Err f)) (sym r)
    (subst (λ (j : Judged State). Answers (λ (a : State) (b : State). a ≡ b) j (Err e)) (sym (for_is p header v start test next x item s i))
    (refused_then (λ a b. a ≡ b) (λ (a : State) (b : State). a ≡ b) (loop_judged p header v start test next s) (λ all. turns_walk (body_of p (under x)) v.text (suc s.constructs) all (record s { constructs = suc s.constructs })) e h))

pub for_begun : (p : Place) (header : Bool) (v : Word) (start test : Expr) (next : Step) (x : Gen) (item : Item) (w : Walker) (o q : Open) (found : List (List Bit)) (r : Result Turns TextErr) → item ≡ it.For p header v start test next x →
    loop_judged p header v start test next (state_of w o) ≡ Ok found → BeginsLoop x found w o q r → OpensLoop item p v x w o q r
for_begun p header v start test next x item w o q found (Ok turns) i h b = (
  for_valued p header v start test next x item (state_of w o) found i h ∙ loop_turns p v.text x found (state_of w o) (state_of w q) b.before
      ∙ ap (λ (l : List (List Bit)). walk_all (turn_walk p (block_name (under x).label (length q.constructs.items)) v.text (under x).body) l (state_of w q)) (sym b.values_are),
  b.name,
)
for_begun p header v start test next x item w o q found (Err e) i h b =
    let s = state_of w o in
    subst (λ (j : Judged State). Answers (λ (a : State) (c : State). a ≡ c) j (Err e)) (sym (for_valued p header v start test next x item s found i h))
    (refused_as (λ (st : State) (u : Unit {0}). st ≡ s) (λ (a : State) (c : State). a ≡ c) (turns_walk (body_of p (under x)) v.text (suc s.constructs) found (record s { constructs = suc s.constructs })) e (loop_refused p v.text x found s s e b))
