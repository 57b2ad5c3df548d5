-- Each visit keeps what is known of a walk, and what its stack makes of the nodes so far.
use Rattle.std.proofs.Common.{◌≡◌, ℕ, ◌<◌, ◌≤◌, ◌+◌, not, Bool, true, false, cond, eqb, ◌||◌, List, [], ◌∷◌, ◌++◌, length, map, reverse, set, get_or, refl, sym, ap, ◌∙◌, subst, inl, inr, count_by, arith}
use Rattle.std.proofs.lemmas.Bool.{eq-eqb, ne_eqb, cases_eq}
use Rattle.std.specs.List.{All}
use Rattle.std.proofs.lemmas.List.Elements.{All-head, All-tail}
use Rattle.std.proofs.lemmas.List.{get_or_default, length-set, get_or-set_same, get_or-set_other, length-append, length-map, length-reverse}
use Rattle.std.proofs.lemmas.List.Sums.{sum_by-set}
use Rattle.svex_shape.specs.declared.shape.Shape.{Shape}
use Rattle.svex_shape.specs.declared.shape.Shape.TheVariants.{Const, Var, Unary, Binary, Cond, Pick, Slice, Zext, Sext, DynSlice, DynPut}
use Rattle.svex_shape.specs.Shapes.{OnChildren, ChildrenBelow, shape_at}
use Rattle.driver_resolve.specs.declared.driver.Driver.{Driver}
use Rattle.svex_arena.proofs.Numbering.{ReadsChildren, node_step}
use Rattle.flat_print.specs.declared.visits.Visit.{Visit}
use Rattle.flat_print.specs.declared.visits.Visit.TheVariants.{Enter, Leave}
use Rattle.flat_print.specs.Printed.{has, put, puts, place_in, children_of, children_put, below_node}
use Rattle.flat_print.specs.Walks.{Each, node_of, finish, Under, waits, IsApart, IsWalk, work_left}
use Rattle.flat_print.proofs.Stacks.{each_front, each_join, each_last, each_map, each_both, each_all, each_entered, finish_last, finish_none, finish_entered, falls_join, falls_front, falls_last, falls_entered, under_lower, under_left, waits_join, waits_entered, waits_one, waits_none, waits_not, has_push, place_kept, place_last}

-- ---- children

-- what holds of the children of a shape holds of each of the list
pub each_child : (P : ℕ → Type 0) (s : Shape) → OnChildren P s → Each P (children_of s)
each_child P (Const v) h = tt
each_child P (Var name w) h = tt
each_child P (Unary op a) h = (h, tt)
each_child P (Binary op a b) h = (h.0, (h.1, tt))
each_child P (Cond c a b) h = (h.0, (h.1, (h.2, tt)))
each_child P (Pick c a b) h = (h.0, (h.1, (h.2, tt)))
each_child P (Slice a lo w) h = (h, tt)
each_child P (Zext a w) h = (h, tt)
each_child P (Sext a w) h = (h, tt)
each_child P (DynSlice a at spot) h = (h.0, (h.1, tt))
each_child P (DynPut a at spot put) h = (h.0, (h.1, (h.2, tt)))

pub on_children : (P : ℕ → Type 0) (s : Shape) → Each P (children_of s) → OnChildren P s
on_children P (Const v) h = tt
on_children P (Var name w) h = tt
on_children P (Unary op a) h = h.0
on_children P (Binary op a b) h = (h.0, h.1.0)
on_children P (Cond c a b) h = (h.0, h.1.0, h.1.1.0)
on_children P (Pick c a b) h = (h.0, h.1.0, h.1.1.0)
on_children P (Slice a lo w) h = h.0
on_children P (Zext a w) h = h.0
on_children P (Sext a w) h = h.0
on_children P (DynSlice a at spot) h = (h.0, h.1.0)
on_children P (DynPut a at spot put) h = (h.0, h.1.0, h.1.1.0)

few_children : (s : Shape) → length (children_of s) ≤ 3
few_children (Const v) = omega arith
few_children (Var name w) = omega arith
few_children (Unary op a) = omega arith
few_children (Binary op a b) = omega arith
few_children (Cond c a b) = omega arith
few_children (Pick c a b) = omega arith
few_children (Slice a lo w) = omega arith
few_children (Zext a w) = omega arith
few_children (Sext a w) = omega arith
few_children (DynSlice a at spot) = omega arith
few_children (DynPut a at spot put) = omega arith

puts_same : (f g : ℕ → List ℕ → List ℕ) (ks : List ℕ) → Each (λ k. f k ≡ g k) ks → puts f ks ≡ puts g ks
unfolding puts
puts_same f g [] h = λ i. λ done. done
puts_same f g (k ∷ ks) h = λ i. λ done. puts_same f g ks h.1 i (cond (has k done) done (h.0 i done ++ (k ∷ [])))

pub children_read : ReadsChildren children_put
children_read f g s h = puts_same f g (children_of s) (each_child (λ k. f k ≡ g k) s h)

-- what a node is made of is its children
pub below_step : (shapes : List Shape) (k : ℕ) → ChildrenBelow k (shape_at shapes k) → below_node shapes k ≡ puts (below_node shapes) (children_of (shape_at shapes k))
below_step shapes k h = node_step children_put (λ done. done) children_read shapes k h

-- ---- truths

or_right : (a b : Bool) → (a || b) ≡ false → b ≡ false
or_right true b h = cc
or_right false b h = h

or_left : (a b : Bool) → (a || b) ≡ false → a ≡ false
or_left true b h = cc
or_left false b h = refl

or_false : (a : Bool) → (a || false) ≡ a
or_false true = refl
or_false false = refl

or_true : (a : Bool) → (a || true) ≡ true
or_true true = refl
or_true false = refl

or_turned : (a b c : Bool) → (a || (b || c)) ≡ ((a || c) || b)
or_turned true b c = refl
or_turned false true c = sym (or_true c)
or_turned false false c = sym (or_false c)

not_less : (m n : ℕ) → m < n → m ≡ n → ⊥
not_less m n l e = omega arith

-- ---- a node that is seen already

pub skips : (shapes : List Shape) (s : List Visit) (seen : List Bool) (numbers order : List ℕ) (k : ℕ) → IsWalk shapes (s ++ Enter k ∷ []) seen numbers order → IsWalk shapes s seen numbers order
skips shapes s seen numbers order k w = record {
  marks = w.marks;
  places = w.places;
  within = each_front (λ v. node_of v < length shapes) s (Enter k ∷ []) w.within;
  falls = falls_front s (Enter k ∷ []) w.falls;
  marked = λ j. w.marked j ∙ ap (λ b. has j order || b) (waits_join j s (Enter k ∷ []) ∙ ap (λ b. waits j s || b) (waits_none j k) ∙ or_false (waits j s));
  apart = each_front (IsApart order) s (Enter k ∷ []) w.apart;
  inside = w.inside;
  numbered = w.numbered;
}

-- where nothing is below it, the node that is seen has its place
has_place : (shapes : List Shape) (s : List Visit) (seen : List Bool) (numbers order : List ℕ) (k : ℕ) → IsWalk shapes (s ++ Enter k ∷ []) seen numbers order → has k order ≡ get_or seen k false
has_place shapes s seen numbers order k w =
    sym (or_false (has k order)) ∙ ap (λ b. has k order || b) (sym (waits_not k s (falls_last s (Enter k) w.falls)))
    ∙ sym ((skips shapes s seen numbers order k w).marked k)

pub skip_goes : (shapes : List Shape) (s : List Visit) (seen : List Bool) (numbers order : List ℕ) (k : ℕ) → IsWalk shapes (s ++ Enter k ∷ []) seen numbers order → get_or seen k false ≡ true
    → finish (below_node shapes) s order ≡ finish (below_node shapes) (s ++ Enter k ∷ []) order
skip_goes shapes s seen numbers order k w h =
    sym (finish_last (below_node shapes) s (Enter k) order ∙ ap (λ b. finish (below_node shapes) s (cond b order (below_node shapes k order ++ (k ∷ [])))) (has_place shapes s seen numbers order k w ∙ h))

-- ---- a node that is entered

pub enters : (shapes : List Shape) (s : List Visit) (seen : List Bool) (numbers order : List ℕ) (k : ℕ) → IsWalk shapes (s ++ Enter k ∷ []) seen numbers order → get_or seen k false ≡ false → ChildrenBelow k (shape_at shapes k)
    → IsWalk shapes ((s ++ Leave k ∷ []) ++ map Enter (reverse (children_of (shape_at shapes k)))) (set seen k true) numbers order
enters shapes s seen numbers order k w fresh below =
    let ks : List ℕ = children_of (shape_at shapes k) in
    let lower : Each (λ c. c < k) ks = each_child (λ c. c < k) (shape_at shapes k) below in
    let inside : k < length shapes = each_last (λ v. node_of v < length shapes) s (Enter k) w.within in
    let old = skips shapes s seen numbers order k w in
    let under : Each (λ u. Under u (Enter k)) s = falls_last s (Enter k) w.falls in
    record {
      marks = length-set seen k true ∙ w.marks;
      places = w.places;
      within = each_join (λ v. node_of v < length shapes) (s ++ Leave k ∷ []) (map Enter (reverse ks))
          (each_join (λ v. node_of v < length shapes) s (Leave k ∷ []) old.within (inside, tt))
          (each_entered (λ v. node_of v < length shapes) ks (each_map (λ c. c < k) (λ c. c < length shapes) (λ c l. omega arith) ks lower));
      falls = falls_join (s ++ Leave k ∷ []) (map Enter (reverse ks))
          (falls_join s (Leave k ∷ []) old.falls (tt, tt) (each_map (λ u. Under u (Enter k)) (λ u. Each (Under u) (Leave k ∷ [])) (λ u h. (under_left u k h, tt)) s under))
          (falls_entered ks)
          (each_join (λ u. Each (Under u) (map Enter (reverse ks))) s (Leave k ∷ [])
          (each_map (λ u. Under u (Enter k)) (λ u. Each (Under u) (map Enter (reverse ks))) (λ u h. each_entered (Under u) ks (each_map (λ c. c < k) (λ c. Under u (Enter c)) (λ c l. under_lower u c k l h) ks lower)) s under)
          (each_entered (Under (Leave k)) ks lower, tt));
      marked = λ j. marks_at shapes s seen numbers order k ks w old inside j;
      apart = each_join (IsApart order) (s ++ Leave k ∷ []) (map Enter (reverse ks))
          (each_join (IsApart order) s (Leave k ∷ []) old.apart (has_place shapes s seen numbers order k w ∙ fresh, tt))
          (each_entered (IsApart order) ks (each_all (λ c. Unit {0}) (λ c. tt) ks));
      inside = w.inside;
      numbered = w.numbered;
    }
  where
    marks_at : (shapes : List Shape) (s : List Visit) (seen : List Bool) (numbers order : List ℕ) (k : ℕ) (ks : List ℕ) → IsWalk shapes (s ++ Enter k ∷ []) seen numbers order → IsWalk shapes s seen numbers order → k < length shapes → (j : ℕ)
        → get_or (set seen k true) j false ≡ (has j order || waits j ((s ++ Leave k ∷ []) ++ map Enter (reverse ks)))
    marks_at shapes s seen numbers order k ks w old inside j =
        let waiting : waits j ((s ++ Leave k ∷ []) ++ map Enter (reverse ks)) ≡ (waits j s || eqb j k) =
        waits_join j (s ++ Leave k ∷ []) (map Enter (reverse ks)) ∙ ap (λ b. waits j (s ++ Leave k ∷ []) || b) (waits_entered j ks) ∙ or_false (waits j (s ++ Leave k ∷ []))
        ∙ waits_join j s (Leave k ∷ []) ∙ ap (λ b. waits j s || b) (waits_one j k) in
        elim (cases_eq j k) [
          | inl e ↦ ap (λ n. get_or (set seen k true) n false) e ∙ get_or-set_same seen k true false (omega (arith, w.marks))
              ∙ sym (or_true (has j order)) ∙ ap (λ b. has j order || b) (sym (or_true (waits j s))) ∙ ap (λ b. has j order || (waits j s || b)) (sym (eq-eqb j k e)) ∙ ap (λ b. has j order || b) (sym waiting)
          | inr ne ↦ get_or-set_other seen k j true false ne ∙ old.marked j ∙ ap (λ b. has j order || b) (sym (or_false (waits j s)))
              ∙ ap (λ b. has j order || (waits j s || b)) (sym (ne_eqb j k ne)) ∙ ap (λ b. has j order || b) (sym waiting)
        ]

pub enter_goes : (shapes : List Shape) (s : List Visit) (seen : List Bool) (numbers order : List ℕ) (k : ℕ) → IsWalk shapes (s ++ Enter k ∷ []) seen numbers order → get_or seen k false ≡ false → ChildrenBelow k (shape_at shapes k)
    → finish (below_node shapes) ((s ++ Leave k ∷ []) ++ map Enter (reverse (children_of (shape_at shapes k)))) order ≡ finish (below_node shapes) (s ++ Enter k ∷ []) order
enter_goes shapes s seen numbers order k w fresh below =
    let b = below_node shapes in
    let ks : List ℕ = children_of (shape_at shapes k) in
    finish_entered b (s ++ Leave k ∷ []) ks order ∙ finish_last b s (Leave k) (puts b ks order)
    ∙ ap (λ f. finish b s (f order ++ (k ∷ []))) (sym (below_step shapes k below))
    ∙ ap (λ x. finish b s (cond x order (below_node shapes k order ++ (k ∷ [])))) (sym (has_place shapes s seen numbers order k w ∙ fresh))
    ∙ sym (finish_last b s (Enter k) order)

pub enter_less : (shapes : List Shape) (s : List Visit) (seen : List Bool) (numbers order : List ℕ) (k : ℕ) → IsWalk shapes (s ++ Enter k ∷ []) seen numbers order → get_or seen k false ≡ false
    → work_left (set seen k true) ((s ++ Leave k ∷ []) ++ map Enter (reverse (children_of (shape_at shapes k)))) ≤ work_left seen s
enter_less shapes s seen numbers order k w fresh =
    let inside : k < length seen = subst (λ n. k < n) (sym w.marks) (each_last (λ v. node_of v < length shapes) s (Enter k) w.within) in
    let fewer : count_by (λ b. not b) (set seen k true) + cond (not (get_or seen k false)) 1 0 ≡ count_by (λ b. not b) seen + 0 = sum_by-set (λ b. cond (not b) 1 0) seen k true false inside in
    let one_less : count_by (λ b. not b) (set seen k true) + 1 ≡ count_by (λ b. not b) seen + 0 = ap (λ x. count_by (λ b. not b) (set seen k true) + cond (not x) 1 0) (sym fresh) ∙ fewer in
    let few = few_children (shape_at shapes k) in
    let long = length-append (s ++ Leave k ∷ []) (map Enter (reverse (children_of (shape_at shapes k)))) in
    let front = length-append s (Leave k ∷ []) in
    let back = length-map (reverse (children_of (shape_at shapes k))) Enter in
    let turned = length-reverse (children_of (shape_at shapes k)) in
    omega arith

-- ---- a node that is left

pub leaves : (shapes : List Shape) (s : List Visit) (seen : List Bool) (numbers order : List ℕ) (k : ℕ) → IsWalk shapes (s ++ Leave k ∷ []) seen numbers order → IsWalk shapes s seen (set numbers k (length order)) (order ++ k ∷ [])
leaves shapes s seen numbers order k w =
    let inside : k < length shapes = each_last (λ v. node_of v < length shapes) s (Leave k) w.within in
    let apart : has k order ≡ false = each_last (IsApart order) s (Leave k) w.apart in
    let under : Each (λ u. Under u (Leave k)) s = falls_last s (Leave k) w.falls in
    record {
      marks = w.marks;
      places = length-set numbers k (length order) ∙ w.places;
      within = each_front (λ v. node_of v < length shapes) s (Leave k ∷ []) w.within;
      falls = falls_front s (Leave k ∷ []) w.falls;
      marked = λ j. w.marked j ∙ ap (λ b. has j order || b) (waits_join j s (Leave k ∷ []) ∙ ap (λ b. waits j s || b) (waits_one j k)) ∙ or_turned (has j order) (waits j s) (eqb j k)
          ∙ ap (λ b. b || waits j s) (sym (has_push j k order));
      apart = each_both (IsApart order) (λ u. Under u (Leave k)) (IsApart (order ++ k ∷ [])) (λ u a h. still_apart order k u a h) s (each_front (IsApart order) s (Leave k ∷ []) w.apart) under;
      inside = λ j h. within_more (length shapes) order k j inside (w.inside j) h;
      numbered = λ j h. number_at (length shapes) numbers order k j (subst (λ n. k < n) (sym w.places) inside) apart (w.numbered j) h;
    }
  where
    still_apart : (order : List ℕ) (k : ℕ) (u : Visit) → IsApart order u → Under u (Leave k) → IsApart (order ++ k ∷ []) u
    still_apart order k (Enter i) a h = tt
    still_apart order k (Leave i) a h = has_push i k order ∙ ap (λ b. b || eqb i k) a ∙ ne_eqb i k (λ e. not_less k i h (sym e))

    within_more : (n : ℕ) (order : List ℕ) (k j : ℕ) → k < n → (has j order ≡ true → j < n) → has j (order ++ k ∷ []) ≡ true → j < n
    within_more n order k j l old h = elim (cases_eq j k) [
      | inl e ↦ subst (λ m. m < n) (sym e) l
      | inr ne ↦ old (sym (or_false (has j order)) ∙ ap (λ b. has j order || b) (sym (ne_eqb j k ne)) ∙ sym (has_push j k order) ∙ h)
    ]

    number_at : (n : ℕ) (numbers order : List ℕ) (k j : ℕ) → k < length numbers → has k order ≡ false → (has j order ≡ true → get_or numbers j 0 ≡ place_in order j) → has j (order ++ k ∷ []) ≡ true
        → get_or (set numbers k (length order)) j 0 ≡ place_in (order ++ k ∷ []) j
    number_at n numbers order k j l apart old h = elim (cases_eq j k) [
      | inl e ↦ ap (λ m. get_or (set numbers k (length order)) m 0) e ∙ get_or-set_same numbers k (length order) 0 l ∙ sym (place_last k order apart) ∙ ap (λ m. place_in (order ++ k ∷ []) m) (sym e)
      | inr ne ↦ (let here : has j order ≡ true = sym (or_false (has j order)) ∙ ap (λ b. has j order || b) (sym (ne_eqb j k ne)) ∙ sym (has_push j k order) ∙ h in
          get_or-set_other numbers k j (length order) 0 ne ∙ old here ∙ sym (place_kept j order (k ∷ []) here))
    ]

pub leave_goes : (shapes : List Shape) (s : List Visit) (order : List ℕ) (k : ℕ) → finish (below_node shapes) s (order ++ k ∷ []) ≡ finish (below_node shapes) (s ++ Leave k ∷ []) order
leave_goes shapes s order k = sym (finish_last (below_node shapes) s (Leave k) order)

-- ---- the walk as code has it

pub at_visit : (shapes : List Shape) (s : List Visit) (seen : List Bool) (numbers order : List ℕ) (v u : Visit) → v ≡ u → IsWalk shapes (s ++ v ∷ []) seen numbers order → IsWalk shapes (s ++ u ∷ []) seen numbers order
at_visit shapes s seen numbers order v u e w = subst (λ x. IsWalk shapes (s ++ x ∷ []) seen numbers order) e w

pub same_walk : (shapes : List Shape) (s t : List Visit) (seen seen2 : List Bool) (numbers numbers2 order order2 : List ℕ) → t ≡ s → seen2 ≡ seen → numbers2 ≡ numbers → order2 ≡ order → IsWalk shapes s seen numbers order → IsWalk shapes t seen2 numbers2 order2
same_walk shapes s t seen seen2 numbers numbers2 order order2 a b c d w =
    subst (λ x. IsWalk shapes x seen2 numbers2 order2) (sym a) (subst (λ x. IsWalk shapes s x numbers2 order2) (sym b) (subst (λ x. IsWalk shapes s seen x order2) (sym c) (subst (λ x. IsWalk shapes s seen numbers x) (sym d) w)))

-- what is read of a mark
pub mark_read : (seen : List Bool) (i k : ℕ) (r b : Bool) → r ≡ get_or seen i r → i ≡ k → k < length seen → r ≡ b → get_or seen k false ≡ b
mark_read seen i k r b is e l h = get_or_default seen k false r l ∙ ap (λ n. get_or seen n r) (sym e) ∙ sym is ∙ h

pub begins : (shapes : List Shape) (ks : List ℕ) (stack : List Visit) (seen : List Bool) (numbers order : List ℕ) → stack ≡ map Enter (reverse ks) → Each (λ k. k < length shapes) ks → length seen ≡ length shapes → ((k : ℕ) → get_or seen k false ≡ false) → length numbers ≡ length shapes → order ≡ []
    → IsWalk shapes stack seen numbers order
unfolding has
begins shapes ks stack seen numbers order is within marks none places first =
    same_walk shapes (map Enter (reverse ks)) stack seen seen numbers numbers [] order is refl refl first (record {
      marks = marks;
      places = places;
      within = each_entered (λ v. node_of v < length shapes) ks within;
      falls = falls_entered ks;
      marked = λ k. none k ∙ sym (waits_entered k ks);
      apart = each_entered (IsApart []) ks (each_all (λ c. Unit {0}) (λ c. tt) ks);
      inside = λ k h. no k h;
      numbered = λ k h. no k h;
    })
  where
    no : {A : Type 0} (k : ℕ) → false ≡ true → A
    no k h = cc

pub roots_within : (n : ℕ) (drivers : List Driver) → All (λ d. d.value < n) drivers → Each (λ k. k < n) (map (λ d. d.value) drivers)
roots_within n [] h = tt
roots_within n (d ∷ more) h = (All-head (λ x. x.value < n) d more h, roots_within n more (All-tail (λ x. x.value < n) d more h))

pub ends : (shapes : List Shape) (ks : List ℕ) (stack : List Visit) (first last : List ℕ) → stack ≡ map Enter (reverse ks) → first ≡ [] → last ≡ finish (below_node shapes) stack first → last ≡ puts (below_node shapes) ks []
ends shapes ks stack first last is none e =
    e ∙ ap (λ t. finish (below_node shapes) t first) is ∙ ap (λ t. finish (below_node shapes) (map Enter (reverse ks)) t) none
    ∙ finish_entered (below_node shapes) [] ks [] ∙ finish_none (below_node shapes) (puts (below_node shapes) ks [])
