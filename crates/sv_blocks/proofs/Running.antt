-- Steps over nodes, one after another and side by side.
use Rattle.std.proofs.Common.{◌≡◌, ℕ, zero, suc, ◌+◌, ◌<◌, ◌≤◌, Bool, List, [], ◌∷◌, ◌++◌, length, drop, get_or, Option, refl, sym, ap, ◌∙◌, inl, inr, subst, arith, OnOk, Result, Ok, Err}
use Rattle.std.specs.List.{Contains}
use Rattle.std.proofs.lemmas.List.Elements.{Contains-append_left, Contains-append_right, Contains-append_cases}
use Rattle.std.proofs.lemmas.List.{drop_more, drop_all, at_drop_more, at_drop_all}
use Rattle.fourvec.specs.declared.Bit.{Bit}
use Rattle.fourvec.specs.Bits.{first, truth_of}
use Rattle.svex_shape.specs.declared.shape.VarName.{VarName}
use Rattle.svex_shape.specs.declared.shape.Shape.{Shape}
use Rattle.svex_arena.specs.Arenas.{Extends}
use Rattle.svex_arena.proofs.Keeping.{extends_on}
use Rattle.svex_arena.proofs.Steps.{value-extends, variables-extends}
use Rattle.driver_resolve.specs.Drivers.{bitwise}
use Rattle.settling.specs.Settling.{Store}
use Rattle.sv_meaning.specs.Layouts.{Read, NamedSignal}
use Rattle.sv_meaning.specs.Deeds.{merged}
use Rattle.sv_typed.specs.declared.tree.Typed.{Typed}
use Rattle.sv_typed.specs.Typed.{own, names_of, names_together}
use Rattle.sv_targets.specs.declared.targets.TypedTarget.{TypedTarget}
use Rattle.sv_lower.specs.Nodes.{bits_at_node}
use Rattle.sv_actions.specs.declared.action.Action.{Action}
use Rattle.sv_actions.specs.declared.action.Action.TheVariants as act
use Rattle.sv_actions.specs.declared.action.Arm.{Arm}
use Rattle.sv_actions.specs.declared.action.Case.{Case}
use Rattle.sv_actions.specs.Doing.{run, run_all, names, names_all, label_matches}
use Rattle.sv_stores.specs.declared.scene.Scene.{Scene}
use Rattle.sv_stores.specs.Scenes.{store_of, reads_in, Allows, HoldsIn, AreNodes, IsScene, Yields, Ran}
use Rattle.sv_blocks.specs.Sides.{Merges}
use Rattle.sv_blocks.specs.Overlays.{over}
use Rattle.sv_blocks.specs.Writing.{assigns, assign_names}
use Rattle.sv_blocks.specs.Running.{arm_run, arms_run, arm_names, arms_names, RanArm, RanArms}
use Rattle.sv_stores.proofs.Stores.{store_kept, holds_kept}
use Rattle.sv_stores.proofs.Yielding.{allows_left, allows_right}
use Rattle.sv_blocks.proofs.Overlaying.{over_none}
use Rattle.sv_blocks.proofs.Merging.{merges_later}
use Rattle.sv_blocks.proofs.Acting.{run_assign, run_choose, run_match, names_assign, names_choose, names_match, labels_and_bodies}

-- ---- what lies over a state that is put back

-- what actions left is put back: the state is as before, and what is handed on makes of it what they left
pub back_is : (before during back : List ℕ) (none kept : List (Option ℕ)) → none ≡ [] → over kept during ≡ over none before → back ≡ over kept during → back ≡ before
back_is before during back none kept e k is = is ∙ k ∙ over_none none before e

pub puts_are : (before during back : List ℕ) (none puts : List (Option ℕ)) → none ≡ [] → back ≡ before → over puts back ≡ over none during → over puts before ≡ during
puts_are before during back none puts e is k = ap (over puts) (sym is) ∙ k ∙ over_none none during e

pub nodes_over : (scene : Scene) (shapes : List Shape) (a b : List ℕ) (puts : List (Option ℕ)) → a ≡ b → AreNodes scene shapes (over puts a) → AreNodes scene shapes (over puts b)
nodes_over scene shapes a b puts e h = subst (λ xs. AreNodes scene shapes (over puts xs)) e h

-- a step, as the arena grows behind it
pub ran_later : (scene : Scene) (old mid new : List Shape) (before during after : List ℕ) (f : (Store → Read) → Store → Store) (a : List NamedSignal) → IsScene scene → AreNodes scene mid during → Extends mid new → after ≡ during → Ran scene old mid before during f a → Ran scene old new before after f a
ran_later scene old mid new before during after f a sc are e is h =
    subst (λ xs. Ran scene old new before xs f a) (sym is) (record {
      value = λ bits. store_kept scene mid new bits during sc are e ∙ h.value bits;
      mentions = λ p q v. holds_kept scene mid new p during are e (h.mentions p q v);
    })

-- a step, as the arena grows before it
pub ran_sooner : (scene : Scene) (old mid new : List Shape) (before after : List ℕ) (f : (Store → Read) → Store → Store) (a : List NamedSignal) → IsScene scene → AreNodes scene old before → Extends old mid → Ran scene mid new before after f a → Ran scene old new before after f a
ran_sooner scene old mid new before after f a sc are e h = record {
  value = λ bits. h.value bits ∙ ap (f (reads_in scene bits)) (store_kept scene old mid bits before sc are e);
  mentions = λ p q v. h.mentions p q (holds_kept scene old mid p before are e v);
}

-- ---- other functions and other names

pub ran_as : (scene : Scene) (old new : List Shape) (before after : List ℕ) (f g : (Store → Read) → Store → Store) (a b : List NamedSignal) → ((look : Store → Read) (store : Store) → g look store ≡ f look store) → ((s : NamedSignal) → Contains a s → Contains b s)
    → Ran scene old new before after f a → Ran scene old new before after g b
ran_as scene old new before after f g a b e c h = record {
  value = λ bits. h.value bits ∙ sym (e (reads_in scene bits) (store_of scene old bits before));
  mentions = λ p q v. h.mentions p (λ s i. q s (c s i)) v;
}

-- ---- actions, one after another

-- so many actions are run
pub record RanSome (scene : Scene) (old new : List Shape) (before after : List ℕ) (all : List Action) (i : ℕ) : Type 0 where
  pub value : (bits : VarName → ℕ → Bit) → run_all (drop i all) (reads_in scene bits) (store_of scene new bits after) ≡ run_all all (reads_in scene bits) (store_of scene old bits before)
  pub mentions : (p : VarName → ℕ → Bool) → Allows scene p (names_all all) → HoldsIn p old before → HoldsIn p new after

pub some_none : (scene : Scene) (old : List Shape) (nodes : List ℕ) (all : List Action) → RanSome scene old old nodes nodes all 0
some_none scene old nodes all = record { value = λ bits. refl; mentions = λ p a v. v }

names_at : (all : List Action) (i : ℕ) (x : Action) → i < length all → x ≡ get_or all i x → (s : NamedSignal) → Contains (names x) s → Contains (names_all all) s
unfolding names_all
names_at [] i x l e s h = absurd (omega arith)
names_at (y ∷ more) zero x l e s h = Contains-append_left (names y) (names_all more) s (subst (λ z. Contains (names z) s) e h)
names_at (y ∷ more) (suc i) x l e s h = Contains-append_right (names y) (names_all more) s (names_at more i x (omega arith) e s h)

run_on : (all : List Action) (i : ℕ) (x : Action) (look : Store → Read) (store : Store) → i < length all → x ≡ get_or all i x → run_all (drop i all) look store ≡ run_all (drop (i + 1) all) look (run x look store)
unfolding run_all
run_on all i x look store l e = at_drop_more (λ xs. run_all xs look store) all i x l ∙ ap (λ y. run_all (drop (i + 1) all) look (run y look store)) (sym e)

pub some_more : (scene : Scene) (old mid new : List Shape) (before nodes after : List ℕ) (all : List Action) (i : ℕ) (x : Action) → i < length all → x ≡ get_or all i x
    → RanSome scene old mid before nodes all i → Ran scene mid new nodes after (run x) (names x) → RanSome scene old new before after all (i + 1)
some_more scene old mid new before nodes after all i x l e h k = record {
  value = λ bits.
      ap (λ st. run_all (drop (i + 1) all) (reads_in scene bits) st) (k.value bits) ∙ sym (run_on all i x (reads_in scene bits) (store_of scene mid bits nodes) l e) ∙ h.value bits;
  mentions = λ p a v. k.mentions p (λ s c. a s (names_at all i x l e s c)) (h.mentions p a v);
}

pub some_end : (scene : Scene) (old new : List Shape) (before after : List ℕ) (all : List Action) (i : ℕ) → length all ≤ i → RanSome scene old new before after all i → Ran scene old new before after (run_all all) (names_all all)
unfolding run_all
some_end scene old new before after all i l h = record {
  value = λ bits. sym (at_drop_all (λ xs. run_all xs (reads_in scene bits) (store_of scene new bits after)) all i l) ∙ h.value bits;
  mentions = h.mentions;
}

-- ---- a choice

pub ran_assign : (scene : Scene) (old new : List Shape) (before after : List ℕ) (x : Action) (to xs : List TypedTarget) (v : Typed) → x ≡ act.Assign to v → xs ≡ to → Ran scene old new before after (assigns xs v) (assign_names xs v) → Ran scene old new before after (run x) (names x)
ran_assign scene old new before after x to xs v e d h =
    ran_as scene old new before after (assigns xs v) (run x) (assign_names xs v) (names x)
    (λ look store. run_assign x to v e look store ∙ ap (λ ts. assigns ts v look store) (sym d))
    (λ s i. subst (λ ns. Contains ns s) (ap (λ ts. assign_names ts v) d ∙ sym (names_assign x to v e)) i) h

pub ran_choose : (scene : Scene) (old one two low new : List Shape) (before left right after : List ℕ) (x : Action) (c : Typed) (a b : List Action) (truth : ℕ) → IsScene scene → AreNodes scene old before → x ≡ act.Choose c a b
    → Extends old one → Extends one two → Extends two low → AreNodes scene two left
    → Yields scene old one before (λ read. truth_of (own c read)) (names_of c) 1 truth
    → Ran scene one two before left (run_all a) (names_all a) → Ran scene two low before right (run_all b) (names_all b) → Merges scene low new truth left right after
    → Ran scene old new before after (run x) (names x)
ran_choose scene old one two low new before left right after x c a b truth sc are e f g h arl t k j m =
    let F : (Store → Read) → Store → Store = λ look store. merged (first (truth_of (own c (look store)))) (run_all a look store) (run_all b look store) in
    ran_as scene old new before after F (run x) (names_of c ++ (names_all a ++ names_all b)) (names x)
    (λ look store. run_choose x c a b e look store)
    (λ s i. subst (λ ns. Contains ns s) (sym (names_choose x c a b e)) i)
    (record {
      value = λ bits.
          let look = reads_in scene bits in
          let store = store_of scene old bits before in
          let start_is : store_of scene one bits before ≡ store = store_kept scene old one bits before sc are f in
          let right_is : store_of scene two bits before ≡ store = store_kept scene old two bits before sc are (extends_on old one two f g) in
          let truth_is : bits_at_node bits low truth ≡ truth_of (own c (look store)) = value-extends (bitwise bits) one low truth (extends_on one two low g h) t.within ∙ t.value bits in
          m.value bits
          ∙ ap (λ v. merged (first v) (store_of scene low bits left) (store_of scene low bits right)) truth_is
          ∙ ap (λ st. merged (first (truth_of (own c (look store)))) st (store_of scene low bits right)) (store_kept scene two low bits left sc arl h ∙ k.value bits ∙ ap (λ st. run_all a look st) start_is)
          ∙ ap (λ st. merged (first (truth_of (own c (look store)))) (run_all a look store) st) (j.value bits ∙ ap (λ st. run_all b look st) right_is);
      mentions = λ p q v.
          let rest = allows_right scene p (names_of c) (names_all a ++ names_all b) q in
          let held = holds_kept scene old one p before are f v in
          m.mentions p (variables-extends p one low truth (extends_on one two low g h) t.within ∙ t.mentions p (allows_left scene p (names_of c) (names_all a ++ names_all b) q) v)
          (holds_kept scene two low p left arl h (k.mentions p (allows_left scene p (names_all a) (names_all b) rest) held))
          (j.mentions p (allows_right scene p (names_all a) (names_all b) rest) (holds_kept scene old two p before are (extends_on old one two f g) v));
    })

-- ---- arms

pub ran_arm : (scene : Scene) (old one two new : List Shape) (start left before after : List ℕ) (c : Case) (arm : Arm) (truth : ℕ) → IsScene scene → AreNodes scene old start → AreNodes scene old before → Extends old one → Extends one two → AreNodes scene two left
    → Yields scene old one start (λ read. label_matches c read arm.labels) (names_of c.value ++ names_together arm.labels) 1 truth
    → Ran scene one two start left (run_all arm.body) (names_all arm.body) → Merges scene two new truth left before after → RanArm scene old new c arm start before after
ran_arm scene old one two new start left before after c arm truth sc are arb f g arl t k m = record {
  value = λ bits.
      let look = reads_in scene bits in
      let store = store_of scene old bits start in
      m.value bits
      ∙ ap (λ v. merged (first v) (store_of scene two bits left) (store_of scene two bits before)) (value-extends (bitwise bits) one two truth g t.within ∙ t.value bits)
      ∙ ap (λ st. merged (first (label_matches c (look store) arm.labels)) st (store_of scene two bits before))
      (k.value bits ∙ ap (λ st. run_all arm.body look st) (store_kept scene old one bits start sc are f))
      ∙ ap (λ st. merged (first (label_matches c (look store) arm.labels)) (run_all arm.body look store) st) (store_kept scene old two bits before sc arb (extends_on old one two f g));
  mentions = λ p q u v.
      let first_names = allows_left scene p (names_of c.value ++ names_together arm.labels) (names_all arm.body) q in
      m.mentions p (variables-extends p one two truth g t.within ∙ t.mentions p first_names u)
      (k.mentions p (allows_right scene p (names_of c.value ++ names_together arm.labels) (names_all arm.body) q) (holds_kept scene old one p start are f u))
      (holds_kept scene old two p before arb (extends_on old one two f g) v);
}

pub arms_none : (scene : Scene) (old : List Shape) (c : Case) (arms : List Arm) (start before : List ℕ) (at : ℕ) → at ≡ length arms → RanArms scene old old c (drop at arms) start before before
unfolding arms_run
arms_none scene old c arms start before at e = record {
  value = λ bits. sym (ap (λ xs. arms_run c xs (reads_in scene bits) (store_of scene old bits start) (store_of scene old bits before)) (drop_all at arms (omega arith)));
  mentions = λ p q u v. v;
}

arms_names_on : (c : Case) (arms : List Arm) (i : ℕ) (a : Arm) (s : NamedSignal) → i < length arms → a ≡ get_or arms i a → (Contains (arm_names c a) s → Contains (arms_names c (drop i arms)) s) × (Contains (arms_names c (drop (i + 1) arms)) s → Contains (arms_names c (drop i arms)) s)
unfolding arms_names
arms_names_on c arms i a s l e =
    let is : drop i arms ≡ a ∷ drop (i + 1) arms = drop_more arms i a l ∙ ap (λ x. x ∷ drop (i + 1) arms) (sym e) in (
      λ h. subst (λ xs. Contains (arms_names c xs) s) (sym is) (Contains-append_left (arm_names c a) (arms_names c (drop (i + 1) arms)) s h),
      λ h. subst (λ xs. Contains (arms_names c xs) s) (sym is) (Contains-append_right (arm_names c a) (arms_names c (drop (i + 1) arms)) s h),
    )

arms_run_on : (c : Case) (arms : List Arm) (i : ℕ) (a : Arm) (look : Store → Read) (store rest : Store) → i < length arms → a ≡ get_or arms i a → arms_run c (drop i arms) look store rest ≡ arm_run c a look store (arms_run c (drop (i + 1) arms) look store rest)
unfolding arms_run
arms_run_on c arms i a look store rest l e = ap (λ xs. arms_run c xs look store rest) (drop_more arms i a l ∙ ap (λ x. x ∷ drop (i + 1) arms) (sym e))

pub arms_more : (scene : Scene) (old mid new : List Shape) (c : Case) (arms : List Arm) (i j : ℕ) (a : Arm) (start before nodes after : List ℕ) → IsScene scene → AreNodes scene old start → Extends old mid → i < length arms → j ≡ i + 1 → a ≡ get_or arms i a
    → RanArms scene old mid c (drop j arms) start before nodes → RanArm scene mid new c a start nodes after → RanArms scene old new c (drop i arms) start before after
arms_more scene old mid new c arms i j a start before nodes after sc are e l next is h k = record {
  value = λ bits.
      let look = reads_in scene bits in
      let store = store_of scene old bits start in
      k.value bits
      ∙ ap (λ st. arm_run c a look st (store_of scene mid bits nodes)) (store_kept scene old mid bits start sc are e)
      ∙ ap (λ st. arm_run c a look store st) (h.value bits ∙ ap (λ m. arms_run c (drop m arms) look store (store_of scene old bits before)) next)
      ∙ sym (arms_run_on c arms i a look store (store_of scene old bits before) l is);
  mentions = λ p q u v.
      k.mentions p (λ s x. q s ((arms_names_on c arms i a s l is).0 x)) (holds_kept scene old mid p start are e u)
      (h.mentions p (λ s x. q s ((arms_names_on c arms i a s l is).1 (subst (λ m. Contains (arms_names c (drop m arms)) s) next x))) u v);
}

pub arms_end : (scene : Scene) (old new : List Shape) (c : Case) (arms : List Arm) (at : ℕ) (start before after : List ℕ) → at ≡ 0 → RanArms scene old new c (drop at arms) start before after → RanArms scene old new c arms start before after
arms_end scene old new c arms at start before after e h = let P : ℕ → Type 0 = λ n. RanArms scene old new c (drop n arms) start before after in subst P e h

-- ---- a case statement

either_in : (a b d : List NamedSignal) (s : NamedSignal) → (Contains a s → Contains d s) → (Contains b s → Contains d s) → Contains (a ++ b) s → Contains d s
either_in a b d s f g h = elim (Contains-append_cases a b s h) [ inl x ↦ f x | inr y ↦ g y ]

arm_names_in : (c : Case) (arms : List Arm) (s : NamedSignal) → Contains (arms_names c arms) s → Contains (names_of c.value ++ labels_and_bodies arms) s
unfolding arms_names labels_and_bodies
arm_names_in c [] s h = Contains-append_right (names_of c.value) [] s h
arm_names_in c (a ∷ more) s h =
    let rest = names_together a.labels ++ (names_all a.body ++ labels_and_bodies more) in
    let body = names_all a.body ++ labels_and_bodies more in
    let whole = names_of c.value ++ rest in
    either_in (arm_names c a) (arms_names c more) whole s
    (either_in (names_of c.value ++ names_together a.labels) (names_all a.body) whole s
    (either_in (names_of c.value) (names_together a.labels) whole s (Contains-append_left (names_of c.value) rest s)
    (λ x. Contains-append_right (names_of c.value) rest s (Contains-append_left (names_together a.labels) body s x)))
    (λ x. Contains-append_right (names_of c.value) rest s (Contains-append_right (names_together a.labels) body s (Contains-append_left (names_all a.body) (labels_and_bodies more) s x))))
    (λ x. either_in (names_of c.value) (labels_and_bodies more) whole s (Contains-append_left (names_of c.value) rest s)
    (λ y. Contains-append_right (names_of c.value) rest s (Contains-append_right (names_together a.labels) body s (Contains-append_right (names_all a.body) (labels_and_bodies more) s y)))
    (arm_names_in c more s x)) h

match_names : (c : Case) (arms : List Arm) (other : List Action) (s : NamedSignal) → Contains (names_all other ++ arms_names c arms) s → Contains (names_of c.value ++ (labels_and_bodies arms ++ names_all other)) s
match_names c arms other s h =
    let rest = labels_and_bodies arms ++ names_all other in
    let whole = names_of c.value ++ rest in
    either_in (names_all other) (arms_names c arms) whole s
    (λ x. Contains-append_right (names_of c.value) rest s (Contains-append_right (labels_and_bodies arms) (names_all other) s x))
    (λ x. either_in (names_of c.value) (labels_and_bodies arms) whole s (Contains-append_left (names_of c.value) rest s)
    (λ y. Contains-append_right (names_of c.value) rest s (Contains-append_left (labels_and_bodies arms) (names_all other) s y))
    (arm_names_in c arms s x)) h

pub ran_match : (scene : Scene) (old mid new : List Shape) (before start rest after : List ℕ) (x : Action) (c : Case) (arms xs : List Arm) (other os : List Action) → IsScene scene → AreNodes scene old before → start ≡ before → x ≡ act.Match c arms other → xs ≡ arms → os ≡ other
    → Extends old mid → Ran scene old mid before rest (run_all os) (names_all os) → RanArms scene mid new c xs start rest after → Ran scene old new before after (run x) (names x)
ran_match scene old mid new before start rest after x c arms xs other os sc are same e dx d_other f k m =
    let F : (Store → Read) → Store → Store = λ look store. arms_run c xs look store (run_all os look store) in
    ran_as scene old new before after F (run x) (names_all os ++ arms_names c xs) (names x)
    (λ look store. run_match x c arms other e look store ∙ ap (λ ys. arms_run c ys look store (run_all other look store)) (sym dx) ∙ ap (λ ys. arms_run c xs look store (run_all ys look store)) (sym d_other))
    (λ s i. subst (λ ns. Contains ns s) (sym (names_match x c arms other e))
    (match_names c arms other s (subst (λ ys. Contains (names_all ys ++ arms_names c arms) s) d_other (subst (λ ys. Contains (names_all os ++ arms_names c ys) s) dx i))))
    (record {
      value = λ bits.
          let look = reads_in scene bits in
          let store = store_of scene old bits before in
          m.value bits
          ∙ ap (λ st. arms_run c xs look st (store_of scene mid bits rest)) (ap (λ ys. store_of scene mid bits ys) same ∙ store_kept scene old mid bits before sc are f)
          ∙ ap (λ st. arms_run c xs look store st) (k.value bits);
      mentions = λ p q v.
          m.mentions p (allows_right scene p (names_all os) (arms_names c xs) q) (subst (HoldsIn p mid) (sym same) (holds_kept scene old mid p before are f v))
          (k.mentions p (allows_left scene p (names_all os) (arms_names c xs) q) v);
    })

-- ---- what holds of a result where it is there

pub on_ok : {T E : Type 0} (r : Result T E) (A B : Type 0) → (A → B) → OnOk r A → OnOk r B
on_ok (Ok x) A B f h = f h
on_ok (Err e) A B f h = tt

pub kept_on : {T E : Type 0} (r : Result T E) (before back after : List ℕ) (p q : List (Option ℕ)) → back ≡ before → OnOk r (over q after ≡ over p back) → OnOk r (over q after ≡ over p before)
kept_on r before back after p q e h = on_ok r (over q after ≡ over p back) (over q after ≡ over p before) (λ k. k ∙ ap (over p) e) h

-- ---- an arm, under other names of its parts

pub ran_arm_by : (scene : Scene) (old one two new : List Shape) (start left before after : List ℕ) (c : Case) (arm : Arm) (labels : List Typed) (body : List Action) (truth : ℕ) → IsScene scene → AreNodes scene old start → AreNodes scene old before
    → labels ≡ arm.labels → body ≡ arm.body → Extends old one → Extends one two → AreNodes scene two left
    → Yields scene old one start (λ read. label_matches c read labels) (names_of c.value ++ names_together labels) 1 truth
    → Ran scene one two start left (run_all body) (names_all body) → Merges scene two new truth left before after → RanArm scene old new c arm start before after
ran_arm_by scene old one two new start left before after c arm labels body truth sc are arb dl db f g arl t k m =
    ran_arm scene old one two new start left before after c arm truth sc are arb f g arl
    (subst (λ xs. Yields scene old one start (λ read. label_matches c read xs) (names_of c.value ++ names_together xs) 1 truth) dl t)
    (subst (λ xs. Ran scene one two start left (run_all xs) (names_all xs)) db k) m

-- ---- what branches lay over one state

pub ran_choose_apart : (scene : Scene) (old one two low mid new : List Shape) (before n1 n2 s after : List ℕ) (pa pb pm : List (Option ℕ)) (x : Action) (c : Typed) (a b : List Action) (truth : ℕ) → IsScene scene → AreNodes scene old before → x ≡ act.Choose c a b
    → n1 ≡ before → n2 ≡ n1 → s ≡ n2 → after ≡ over pm n2 → Extends old one → Extends one two → Extends two low → Extends mid new → AreNodes scene two (over pa before)
    → Yields scene old one before (λ read. truth_of (own c read)) (names_of c) 1 truth
    → Ran scene one two before (over pa before) (run_all a) (names_all a) → Ran scene two low n1 (over pb n1) (run_all b) (names_all b) → Merges scene low mid truth (over pa s) (over pb s) (over pm s)
    → Ran scene old new before after (run x) (names x)
ran_choose_apart scene old one two low mid new before n1 n2 s after pa pb pm x c a b truth sc are e e1 e2 e3 is f g h ext arl t k j m =
    let same : n2 ≡ before = e2 ∙ e1 in
    let right : Ran scene two low before (over pb before) (run_all b) (names_all b) = subst (λ xs. Ran scene two low xs (over pb xs) (run_all b) (names_all b)) e1 j in
    let both : Merges scene low mid truth (over pa before) (over pb before) (over pm before) = subst (λ xs. Merges scene low mid truth (over pa xs) (over pb xs) (over pm xs)) (e3 ∙ same) m in
    ran_choose scene old one two low new before (over pa before) (over pb before) after x c a b truth sc are e f g h arl t k right
    (merges_later scene low mid new truth (over pa before) (over pb before) (over pm before) after sc ext (is ∙ ap (over pm) same) both)

pub ran_arm_apart : (scene : Scene) (old one two new : List Shape) (start s : List ℕ) (p r q : List (Option ℕ)) (c : Case) (arm : Arm) (labels : List Typed) (body : List Action) (truth : ℕ) → IsScene scene → AreNodes scene old start → AreNodes scene old (over r start)
    → s ≡ start → labels ≡ arm.labels → body ≡ arm.body → Extends old one → Extends one two → AreNodes scene two (over p start)
    → Yields scene old one start (λ read. label_matches c read labels) (names_of c.value ++ names_together labels) 1 truth
    → Ran scene one two start (over p start) (run_all body) (names_all body) → Merges scene two new truth (over p s) (over r s) (over q s) → RanArm scene old new c arm start (over r start) (over q start)
ran_arm_apart scene old one two new start s p r q c arm labels body truth sc are arb e dl db f g arl t k m =
    ran_arm_by scene old one two new start (over p start) (over r start) (over q start) c arm labels body truth sc are arb dl db f g arl t k
    (subst (λ xs. Merges scene two new truth (over p xs) (over r xs) (over q xs)) e m)

pub arm_over : (scene : Scene) (old new : List Shape) (c : Case) (arm : Arm) (a b : List ℕ) (r q : List (Option ℕ)) → a ≡ b → RanArm scene old new c arm a (over r a) (over q a) → RanArm scene old new c arm b (over r b) (over q b)
arm_over scene old new c arm a b r q e h = subst (λ xs. RanArm scene old new c arm xs (over r xs) (over q xs)) e h

pub ran_match_apart : (scene : Scene) (old mid low new : List Shape) (before start back after : List ℕ) (p q : List (Option ℕ)) (x : Action) (c : Case) (arms xs : List Arm) (other os : List Action) → IsScene scene → AreNodes scene old before
    → start ≡ before → back ≡ start → after ≡ over q back → x ≡ act.Match c arms other → xs ≡ arms → os ≡ other → Extends old mid → Extends low new → AreNodes scene low (over q start)
    → Ran scene old mid before (over p before) (run_all os) (names_all os) → RanArms scene mid low c xs start (over p start) (over q start) → Ran scene old new before after (run x) (names x)
ran_match_apart scene old mid low new before start back after p q x c arms xs other os sc are e1 e2 is e dx d_other f g there k m =
    let all : RanArms scene mid low c xs before (over p before) (over q before) = subst (λ ys. RanArms scene mid low c xs ys (over p ys) (over q ys)) e1 m in
    ran_later scene old low new before (over q before) after (run x) (names x) sc (nodes_over scene low start before q e1 there) g (is ∙ ap (over q) (e2 ∙ e1))
    (ran_match scene old mid low before before (over p before) (over q before) x c arms xs other os sc are refl e dx d_other f k all)
