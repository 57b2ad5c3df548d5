-- What statements leave rises with the store and with what names read.
use Rattle.std.proofs.Common.{◌≡◌, ℕ, ◌≤◌, max, Bool, true, false, List, [], ◌∷◌, ◌++◌, take, drop, map, refl, arith, IsTrue, Option, Some, None, Ok, Err, ℤ, cond, ◌==◌, slice_index_or}
use mathlib.Core.Former.{Count}
use Rattle.fourvec.specs.declared.Bit.{Bit}
use Rattle.fourvec.specs.declared.Bit.TheVariants.{Zero, One, Unknown, Floating}
use Rattle.fourvec.specs.Bits.{bit_below, all_pairs, first, each_pair, keep_bit, and_of, choose, truth_of}
use Rattle.fourvec.specs.Laws.{Below}
use Rattle.fourvec.proofs.Order as order
use Rattle.fourvec.proofs.Monotone as laws
use Rattle.fourvec.proofs.Tables.{left_of}
use Rattle.sv_tree.specs.declared.exprs.Expr.{Expr}
use Rattle.sv_tree.specs.declared.exprs.Select.{Select}
use Rattle.sv_tree.specs.declared.stmts.Lvalue.{Lvalue, Name, Concat', Row_of-Lvalue, end_of-Lvalue, more_of-Lvalue}
use Rattle.sv_tree.specs.declared.stmts.Stmt.{Stmt, Empty, Block', If', Case', For', Assign, Row_of-Stmt, end_of-Stmt, more_of-Stmt, Row_of-Arm, end_of-Arm, more_of-Arm, Held-Stmt-If-3, None', Some'}
use Rattle.sv_tree.specs.declared.stmts.Arm.{Labels', Default'}
use Rattle.sv_meaning.specs.Layouts.{Layout, width, Scope, constant_scope, What, number_is, type_is, signal_is, genvar_is, of_wires, of_choice, of_samples, Read, find}
use Rattle.sv_literal.specs.declared.meaning.Literal.{Literal}
use Rattle.sv_outside.specs.declared.refusal.Place.{Place}
use Rattle.sv_meaning.specs.Faults.{Faults, Judged}
use Rattle.sv_meaning.specs.Meanings.{Meaning, free_faults, own, assigned, truth, Step, Part, step_in, bits_at, with_part}
use Rattle.sv_meaning.specs.Values.{mean, step}
use Rattle.settling.specs.Settling.{Store}
use Rattle.sv_meaning.specs.Targets.{Target, target_of, targets, targets_of, lvalue_faults, widths as widths_of, put_at, put, with_wire, write, write_all}
use Rattle.sv_meaning.specs.Deeds.{Deed, deed, deed_else, deeds, arms, after, merged, either, assign, CaseArm, longest, all_signed, same_value, mask, matches, case_chain, labels_of, case_of, in_turn, in_turns, with_index, one_turn, turns, is_casez}
use Rattle.settling.specs.Least.{Under}
use Rattle.sv_meaning.proofs.Good.{Rises, Good, own_rises}
use Rattle.sv_meaning.proofs.Rising.{good, good-step, AllGood, GoodSteps, OnPart, on-step, PlaceRises, SamePlace, bits_at-rise, bits_from-rise}

abbrev pub Looks : (Store → Read) → (Store → Read) → Type 0
Looks f g = (s t : Store) → Under s t → Rises (f s) (g t)

-- ---- writing

put_at-rise : (p q : Option ℤ) (a c x y : List Bit) → SamePlace p q → Below a c → Below x y → Below (put_at p a x) (put_at q c y)
put_at-rise None None a c x y e h g = laws.kept_below_each x y a c g h
put_at-rise None (Some i) a c x y e h g = laws.kept_below_overlaid x y a c i g h
put_at-rise (Some i) q a c x y e h g = rw e (laws.overlaid_monotone a c x y h g i)

put-rises : (r t : Read) → Rises r t → (x : Layout) (all : List Step) → GoodSteps all → (a c p q : List Bit) → Below a c → Below p q → Below (put r x all a p) (put t x all c q)
unfolding put
put-rises r t i x [] g a c p q h k = k
put-rises r t i x (s ∷ more) g a c p q h k = go (step_in x s) (on-step x s g.0)
    (λ o e. put_at-rise (o.place r) (o.place t) a c _ _ (e r t i) h
    (put-rises r t i o.layout more g.1 (bits_at (o.place r) (width o.layout) a) (bits_at (o.place t) (width o.layout) c) p q
    (bits_at-rise (o.place r) (o.place t) (width o.layout) a c (e r t i) h) k))
  where
    go : (o : Option Part) → OnPart o
        → ((o : Part) → PlaceRises o.place → Below (put_at (o.place r) a (put r o.layout more (bits_at (o.place r) (width o.layout) a) p)) (put_at (o.place t) c (put t o.layout more (bits_at (o.place t) (width o.layout) c) q)))
        → Below (with_part o a (λ o. put_at (o.place r) a (put r o.layout more (bits_at (o.place r) (width o.layout) a) p)))
        (with_part o c (λ o. put_at (o.place t) c (put t o.layout more (bits_at (o.place t) (width o.layout) c) q)))
    go None e f = h
    go (Some o) e f = f o e

with_wire-rises : (n : ℕ) (a c : List Bit) (s t : Store) → Below a c → Under s t → Under (with_wire n a s) (with_wire n c t)
with_wire-rises n a c s t h u m k = pick (m == n)
  where
    pick : (b : Bool) → bit_below (cond b (slice_index_or a k (s m k)) (s m k)) (cond b (slice_index_or c k (t m k)) (t m k)) ≡ true
    pick true = order.below-get_or-at k a c (s m k) (t m k) h (u m k)
    pick false = u m k

abbrev pub GoodTargets : List Target → Type 0
GoodTargets [] = Unit {0}
GoodTargets (t ∷ more) = GoodSteps t.steps × GoodTargets more

write-rises : (r v : Read) → Rises r v → (t : Target) → GoodSteps t.steps → (a c : List Bit) (s u : Store) → Below a c → Under s u → Under (write r t a s) (write v t c u)
write-rises r v i t g a c s u h k =
    let olds = bits_from-rise (s t.wire) (u t.wire) (k t.wire) 0 (width t.layout) in
    with_wire-rises t.wire _ _ s u (put-rises r v i t.layout t.steps g _ _ a c olds h) k

write_all-rises : (f g : Store → Read) → Looks f g → (all : List Target) → GoodTargets all → (a c : List Bit) (s u : Store) → Below a c → Under s u → Under (write_all f all a s) (write_all g all c u)
unfolding write_all
write_all-rises f g l [] e a c s u h k = k
write_all-rises f g l (t ∷ more) e a c s u h k =
    write_all-rises f g l more e.1 (take (widths_of more) a) (take (widths_of more) c) (write (f s) t (drop (widths_of more) a) s) (write (g u) t (drop (widths_of more) c) u)
    (order.below-take (widths_of more) a c h)
    (write-rises (f s) (g u) (l s u k) t e.0 (drop (widths_of more) a) (drop (widths_of more) c) s u (order.below-drop (widths_of more) a c h) k)

good-steps-list : (at : Scope) (all : List Select) → GoodSteps (map (step at) all)
good-steps-list at [] = tt
good-steps-list at (x ∷ more) = (good-step at x, good-steps-list at more)

good-target : (x : Option What) (all : List Step) → GoodSteps all → GoodSteps (target_of x all).steps
good-target None all g = tt
good-target (Some (number_is v s)) all g = tt
good-target (Some (type_is t)) all g = tt
good-target (Some genvar_is) all g = tt
good-target (Some (signal_is of_wires n x)) all g = g
good-target (Some (signal_is of_choice n x)) all g = tt
good-target (Some (signal_is of_samples n x)) all g = tt

good-both : (a b : List Target) → GoodTargets a → GoodTargets b → GoodTargets (a ++ b)
good-both [] b g h = h
good-both (t ∷ more) b g h = (g.0, good-both more b g.1 h)

mutual
  unfolding targets

  good-targets : (index at : Scope) (x : Lvalue) → GoodTargets (targets index at x)
  good-targets index at (Name w all) = (good-target (find w.text at) (map (step index) all) (good-steps-list index all), tt)
  good-targets index at (Concat' p s all) = good-targets_of index at all

  good-targets_of : {m : Count} (index at : Scope) (all : Row_of-Lvalue m) → GoodTargets (targets_of index at all)
  good-targets_of index at end_of-Lvalue = tt
  good-targets_of index at (more_of-Lvalue x all) = good-both (targets index at x) (targets_of index at all) (good-targets index at x) (good-targets_of index at all)

-- ---- statements

abbrev pub GoodDeed : Deed → Type 0
GoodDeed a = (f g : Store → Read) → Looks f g → (s t : Store) → Under s t → Under (a.run f s) (a.run g t)

good-after : (a b : Deed) → GoodDeed a → GoodDeed b → GoodDeed (after a b)
good-after a b g h f e l s t u = h f e l (a.run f s) (a.run e t) (g f e l s t u)

-- the choice of one bit
abbrev picked : Bit → Bit → Bit → Bit
picked One a b = a
picked Zero a b = b
picked t a b = keep_bit a b

picked-list : (t a b : Bit) → choose keep_bit t (a ∷ []) (b ∷ []) ≡ picked t a b ∷ []
unfolding each_pair
picked-list One a b = refl
picked-list Zero a b = refl
picked-list Unknown a b = refl
picked-list Floating a b = refl

merged-picked : (t : Bit) (a b : Store) (n k : ℕ) → merged t a b n k ≡ picked t (a n k) (b n k)
merged-picked One a b n k = refl
merged-picked Zero a b n k = refl
merged-picked Unknown a b n k = refl
merged-picked Floating a b n k = refl

picked-rises : (t v a b c d : Bit) → IsTrue (bit_below t v) → IsTrue (bit_below a c) → IsTrue (bit_below b d) → IsTrue (bit_below (picked t a b) (picked v c d))
unfolding all_pairs
picked-rises t v a b c d h g k =
    let both = order.choose_below keep_bit refl refl t v (a ∷ []) (b ∷ []) (c ∷ []) (d ∷ []) refl h (order.one_below a c g) (order.one_below b d k) in
    let lists : Below (picked t a b ∷ []) (picked v c d ∷ []) = rw (picked-list t a b, picked-list v c d) at both in
    left_of _ _ lists

pub merged-rises : (t v : Bit) (a b c d : Store) → IsTrue (bit_below t v) → Under a c → Under b d → Under (merged t a b) (merged v c d)
merged-rises t v a b c d h g k n m = rw (merged-picked t a b n m, merged-picked v c d n m) (picked-rises t v (a n m) (b n m) (c n m) (d n m) h (g n m) (k n m))

abbrev pub TestRises : (Read → Bit) → Type 0
TestRises f = (r t : Read) → Rises r t → IsTrue (bit_below (f r) (f t))

good-either : (test : Read → Bit) (a b : Deed) → TestRises test → GoodDeed a → GoodDeed b → GoodDeed (either test a b)
good-either test a b i g h f e l s t u =
    merged-rises (test (f s)) (test (e t)) (a.run f s) (b.run f s) (a.run e t) (b.run e t) (i (f s) (e t) (l s t u)) (g f e l s t u) (h f e l s t u)

truth-rises : (m : Meaning) → Good m → TestRises (truth m)
truth-rises m g r t i = order.first_below (truth_of (own m r)) (truth_of (own m t)) (laws.truth_monotone (own m r) (own m t) (own_rises m g r t i))

good-assign : (to : List Target) (why : Faults) (m : Meaning) → GoodTargets to → Good m → GoodDeed (assign to why m)
good-assign to why m e g f h l s t u =
    write_all-rises f h l to e (assigned m (f s) (widths_of to)) (assigned m (h t) (widths_of to)) s t
    (order.below-take (widths_of to) _ _ (g.rises (f s) (h t) (l s t u) (max (widths_of to) m.size) m.sign (omega arith))) u

-- ---- `case`

abbrev pub GoodLabels : ℕ → List Meaning → Type 0
GoodLabels w [] = Unit {0}
GoodLabels w (m ∷ more) = Good m × (m.size ≤ w) × GoodLabels w more

same-rises : (z : Bool) (w : ℕ) (s : Bool) (l : Option Literal) (a b c d : List Bit) → Below a c → Below b d → Below (same_value z w s l a b) (same_value z w s l c d)
same-rises true w s (Some l) a b c d h g =
    laws.eq_monotone (and_of a (mask w s l)) (and_of b (mask w s l)) (and_of c (mask w s l)) (and_of d (mask w s l))
    (laws.and_monotone a (mask w s l) c (mask w s l) h (order.below-refl (mask w s l))) (laws.and_monotone b (mask w s l) d (mask w s l) g (order.below-refl (mask w s l)))
same-rises true w s None a b c d h g = laws.eq_monotone a b c d h g
same-rises false w s l a b c d h g = laws.eq_monotone a b c d h g

matches-rise : (z : Bool) (w : ℕ) (s : Bool) (x : Meaning) → Good x → x.size ≤ w → (all : List Meaning) → GoodLabels w all → (r t : Read) → Rises r t → Below (matches z w s x r all) (matches z w s x t all)
unfolding matches
matches-rise z w s x g k [] e r t i = order.below-refl _
matches-rise z w s x g k (m ∷ more) e r t i =
    laws.or_monotone _ _ _ _
    (same-rises z w s m.literal (x.value r w s) (m.value r w s) (x.value t w s) (m.value t w s) (g.rises r t i w s k) (e.0.rises r t i w s e.1))
    (matches-rise z w s x g k more e.2 r t i)

abbrev pub GoodArms : ℕ → List CaseArm → Type 0
GoodArms w [] = Unit {0}
GoodArms w (a ∷ more) = GoodLabels w a.labels × GoodDeed a.body × GoodArms w more

good-chain : (z : Bool) (w : ℕ) (s : Bool) (x : Meaning) → Good x → x.size ≤ w → (all : List CaseArm) → GoodArms w all → (other : Deed) → GoodDeed other → GoodDeed (case_chain z w s x all other)
unfolding case_chain
good-chain z w s x g k [] e other h = h
good-chain z w s x g k (a ∷ more) e other h =
    good-either (λ read. first (matches z w s x read a.labels)) a.body (case_chain z w s x more other)
    (λ r t i. order.first_below _ _ (matches-rise z w s x g k a.labels e.0 r t i)) e.1 (good-chain z w s x g k more e.2 other h)

good-turns : (p : Place) (body : List Bit → Deed) → ((bits : List Bit) → GoodDeed (body bits)) → (all : List (List Bit)) → GoodDeed (in_turn p body all)
unfolding in_turn
good-turns p body g [] f e l s t u = u
good-turns p body g (bits ∷ more) f e l s t u = good-after (one_turn p (body bits)) (in_turn p body more) (g bits) (good-turns p body g more) f e l s t u

good-in_turns : (p : Place) (body : List Bit → Deed) → ((bits : List Bit) → GoodDeed (body bits)) → (all : Judged (List (List Bit))) → GoodDeed (in_turns p body all)
good-in_turns p body g (Err why) f e l s t u = u
good-in_turns p body g (Ok all) f e l s t u = good-turns p body g all f e l s t u

-- ---- all statements

longest-append : (a b : List Meaning) → longest (a ++ b) ≡ max (longest a) (longest b)
unfolding longest
longest-append [] b = omega arith
longest-append (m ∷ more) b = let e = longest-append more b in omega (arith, e)

labels-within : (w : ℕ) (all : List Meaning) → AllGood all → longest all ≤ w → GoodLabels w all
unfolding longest
labels-within w [] g h = tt
labels-within w (m ∷ more) g h = (g.0, omega (arith, h), labels-within w more g.1 (omega (arith, h)))

abbrev pub RawArms : List CaseArm → Type 0
RawArms [] = Unit {0}
RawArms (a ∷ more) = AllGood a.labels × GoodDeed a.body × RawArms more

arms-within : (w : ℕ) (all : List CaseArm) → RawArms all → longest (labels_of all) ≤ w → GoodArms w all
unfolding labels_of
arms-within w [] g h = tt
arms-within w (a ∷ more) g h =
    let e = longest-append a.labels (labels_of more) in
    (labels-within w a.labels g.0 (omega (arith, e, h)), g.1, arms-within w more g.2 (omega (arith, e, h)))

good-case : (z : Bool) (x : Meaning) (all : List CaseArm) (other : Deed) → Good x → RawArms all → GoodDeed other → GoodDeed (case_of z x (all, other))
unfolding longest
good-case z x all other g e h =
    good-chain z (longest (x ∷ labels_of all)) (all_signed (x ∷ labels_of all)) x g (omega arith) all (arms-within (longest (x ∷ labels_of all)) all e (omega arith)) other h

good-labels-list : (at : Scope) (xs : List Expr) → AllGood (map (mean at) xs)
good-labels-list at [] = tt
good-labels-list at (x ∷ more) = (good at x, good-labels-list at more)

abbrev pub GoodCase : List CaseArm × Deed → Type 0
GoodCase a = RawArms a.0 × GoodDeed a.1

mutual
  unfolding deed

  pub good-deed : (x : Stmt) (at : Scope) → GoodDeed (deed x at)
  good-deed Empty at = λ f e l s t u. u
  good-deed (Block' p b s all e) at = good-deeds all at
  good-deed (If' u c r (more_of-Stmt x end_of-Stmt) other) at =
      good-either (truth (mean at c)) (deed x at) (deed_else other at) (truth-rises (mean at c) (good at c)) (good-deed x at) (good-deed_else other at)
  good-deed (Case' u word x s all) at = good-case (is_casez word) (mean at x) (arms all at).0 (arms all at).1 (good at x) (good-arms all at).0 (good-arms all at).1
  good-deed (For' p form name start test next r (more_of-Stmt body end_of-Stmt)) at =
      good-in_turns p (λ bits. deed body (with_index at name.text bits)) (λ bits. good-deed body (with_index at name.text bits)) (turns p (constant_scope at) name.text start test next)
  good-deed (Assign to mark p x) at = good-assign (targets at at to) (lvalue_faults free_faults at at to) (mean at x) (good-targets at at to) (good at x)

  pub good-deed_else : (x : Held-Stmt-If-3) (at : Scope) → GoodDeed (deed_else x at)
  good-deed_else None' at = λ f e l s t u. u
  good-deed_else (Some' r (more_of-Stmt x end_of-Stmt)) at = good-deed x at

  pub good-deeds : {m : Count} (all : Row_of-Stmt m) (at : Scope) → GoodDeed (deeds all at)
  good-deeds end_of-Stmt at = λ f e l s t u. u
  good-deeds (more_of-Stmt x all) at = good-after (deed x at) (deeds all at) (good-deed x at) (good-deeds all at)

  pub good-arms : {m : Count} (all : Row_of-Arm m) (at : Scope) → GoodCase (arms all at)
  good-arms end_of-Arm at = (tt, λ f e l s t u. u)
  good-arms (more_of-Arm (Labels' xs r (more_of-Stmt x end_of-Stmt)) all) at = ((good-labels-list at xs, good-deed x at, (good-arms all at).0), (good-arms all at).1)
  good-arms (more_of-Arm (Default' colon r (more_of-Stmt x end_of-Stmt)) all) at = ((good-arms all at).0, good-deed x at)
