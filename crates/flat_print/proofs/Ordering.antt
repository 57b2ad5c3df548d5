-- The order in which nodes are printed: each once, behind its children, and only such as drivers reach.
use Rattle.std.proofs.Common.{◌≡◌, ◌⊎◌, ℕ, zero, suc, ◌<◌, ◌≤◌, Bool, true, false, cond, eqb, ◌||◌, List, [], ◌∷◌, ◌++◌, length, get_or, refl, sym, ap, ◌∙◌, subst, inl, inr, arith}
use Rattle.std.proofs.lemmas.Bool.{eq-eqb, ne_eqb, cases_eq}
use Rattle.std.proofs.lemmas.List.{get_or_append_left, get_or_push, length_push}
use Rattle.svex_shape.specs.declared.shape.Shape.{Shape}
use Rattle.svex_shape.specs.Shapes.{OnChildren, ChildrenBelow, shape_at}
use Rattle.svex_arena.proofs.Numbering.{every_node, map_children, join_children}
use Rattle.flat_print.specs.Printed.{has, put, puts, place_in, children_of, below_node}
use Rattle.flat_print.specs.Walks.{Each}
use Rattle.flat_print.proofs.Stacks.{each_map, has_push, place_kept, place_last, place_within}
use Rattle.flat_print.proofs.Walking.{each_child, on_children, below_step}

-- ---- what is known of an order

-- its nodes stand once, behind their children, and have what is handed down to children
pub record IsOrder (P : ℕ → Type 0) (shapes : List Shape) (done : List ℕ) : Type 0 where
  pub once : (i : ℕ) → i < length done → place_in done (get_or done i 0) ≡ i
  pub made : (i : ℕ) → i < length done → OnChildren (λ c. (has c done ≡ true) × (place_in done c < i)) (shape_at shapes (get_or done i 0))
  pub each : (i : ℕ) → i < length done → P (get_or done i 0)

-- what a node adds: itself, and nodes of lower numbers
pub record Adds (P : ℕ → Type 0) (shapes : List Shape) (k : ℕ) (done new : List ℕ) : Type 0 where
  pub order : IsOrder P shapes new
  pub it : has k new ≡ true
  pub kept : (j : ℕ) → has j done ≡ true → has j new ≡ true
  pub lower : (j : ℕ) → has j new ≡ true → (has j done ≡ true) ⊎ (j ≤ k)

no_order : (P : ℕ → Type 0) (shapes : List Shape) → IsOrder P shapes []
no_order P shapes = record {
  once = λ i l. absurd (omega arith);
  made = λ i l. absurd (omega arith);
  each = λ i l. absurd (omega arith);
}

or_true : (a : Bool) → (a || true) ≡ true
or_true true = refl
or_true false = refl

or_false : (a : Bool) → (a || false) ≡ a
or_false true = refl
or_false false = refl

pub has_at : (l : List ℕ) (i : ℕ) → i < length l → has (get_or l i 0) l ≡ true
unfolding has
has_at [] i h = absurd (omega arith)
has_at (x ∷ l) zero h = ap (λ b. b || has x l) (eq-eqb x x refl)
has_at (x ∷ l) (suc i) h = ap (λ b. eqb (get_or l i 0) x || b) (has_at l i (omega arith)) ∙ or_true (eqb (get_or l i 0) x)

-- a node behind its children
pushed : (P : ℕ → Type 0) (shapes : List Shape) (done : List ℕ) (k : ℕ) → IsOrder P shapes done → has k done ≡ false → P k → OnChildren (λ c. has c done ≡ true) (shape_at shapes k) → IsOrder P shapes (done ++ k ∷ [])
pushed P shapes done k o fresh p children = record {
  once = λ i l. elim (cases_eq i (length done)) [
    | inl e ↦ ap (λ n. place_in (done ++ k ∷ []) n) (last i e) ∙ place_last k done fresh ∙ sym e
    | inr ne ↦ (let inner : i < length done = within i l ne in
        ap (λ n. place_in (done ++ k ∷ []) n) (front i inner) ∙ place_kept (get_or done i 0) done (k ∷ []) (there i inner) ∙ o.once i inner)
  ];
  made = λ i l. elim (cases_eq i (length done)) [
    | inl e ↦ subst (λ n. OnChildren (λ c. (has c (done ++ k ∷ []) ≡ true) × (place_in (done ++ k ∷ []) c < i)) (shape_at shapes n)) (sym (last i e))
        (map_children (λ c. has c done ≡ true) (λ c. (has c (done ++ k ∷ []) ≡ true) × (place_in (done ++ k ∷ []) c < i)) (λ c h. (still c h, subst (λ n. n < i) (sym (place_kept c done (k ∷ []) h)) (subst (λ n. place_in done c < n) (sym e) (place_within c done h)))) (shape_at shapes k) children)
    | inr ne ↦ (let inner : i < length done = within i l ne in
        subst (λ n. OnChildren (λ c. (has c (done ++ k ∷ []) ≡ true) × (place_in (done ++ k ∷ []) c < i)) (shape_at shapes n)) (sym (front i inner))
        (map_children (λ c. (has c done ≡ true) × (place_in done c < i)) (λ c. (has c (done ++ k ∷ []) ≡ true) × (place_in (done ++ k ∷ []) c < i)) (λ c h. (still c h.0, subst (λ n. n < i) (sym (place_kept c done (k ∷ []) h.0)) h.1)) (shape_at shapes (get_or done i 0)) (o.made i inner)))
  ];
  each = λ i l. elim (cases_eq i (length done)) [
    | inl e ↦ subst P (sym (last i e)) p
    | inr ne ↦ subst P (sym (front i (within i l ne))) (o.each i (within i l ne))
  ];
}
  where
    within : (i : ℕ) → i < length (done ++ k ∷ []) → (i ≡ length done → ⊥) → i < length done
    within i l ne = omega (arith, length_push done k)

    last : (i : ℕ) → i ≡ length done → get_or (done ++ k ∷ []) i 0 ≡ k
    last i e = get_or_push done k 0 i (sym e)

    front : (i : ℕ) → i < length done → get_or (done ++ k ∷ []) i 0 ≡ get_or done i 0
    front i l = get_or_append_left done (k ∷ []) 0 i l

    still : (c : ℕ) → has c done ≡ true → has c (done ++ k ∷ []) ≡ true
    still c h = has_push c k done ∙ ap (λ b. b || eqb c k) h

    there : (i : ℕ) → i < length done → has (get_or done i 0) done ≡ true
    there i l = has_at done i l

-- ---- what nodes add

pub record AddAll (P : ℕ → Type 0) (shapes : List Shape) (k : ℕ) (ks done new : List ℕ) : Type 0 where
  pub order : IsOrder P shapes new
  pub all : Each (λ c. has c new ≡ true) ks
  pub kept : (j : ℕ) → has j done ≡ true → has j new ≡ true
  pub lower : (j : ℕ) → has j new ≡ true → (has j done ≡ true) ⊎ (j < k)

abbrev AddsNode : (ℕ → Type 0) → List Shape → ℕ → Type 0
AddsNode P shapes k = P k → (done : List ℕ) → IsOrder P shapes done → Adds P shapes k done (put (below_node shapes) k done)

puts_add : (P : ℕ → Type 0) (shapes : List Shape) (k : ℕ) (ks : List ℕ) → Each (λ c. c < k) ks → Each P ks → Each (AddsNode P shapes) ks → (done : List ℕ) → IsOrder P shapes done → AddAll P shapes k ks done (puts (below_node shapes) ks done)
unfolding puts
puts_add P shapes k [] low ps h done o = record { order = o; all = tt; kept = λ j t. t; lower = λ j t. inl t }
puts_add P shapes k (c ∷ ks) low ps h done o =
    let first : Adds P shapes c done (put (below_node shapes) c done) = h.0 ps.0 done o in
    let rest = puts_add P shapes k ks low.1 ps.1 h.1 (put (below_node shapes) c done) first.order in
    record {
      order = rest.order;
      all = (rest.kept c first.it, rest.all);
      kept = λ j t. rest.kept j (first.kept j t);
      lower = λ j t. elim (rest.lower j t) [
        | inl there ↦ (elim (first.lower j there) [ inl before ↦ inl before | inr le ↦ inr (below_bound j c k le low.0) ])
        | inr lt ↦ inr lt
      ];
    }
  where
    below_bound : (j c k : ℕ) → j ≤ c → c < k → j < k
    below_bound j c k le lt = omega arith

both_each : (P Q : ℕ → Type 0) (s : Shape) → OnChildren P s → OnChildren Q s → Each (λ c. P c × Q c) (children_of s)
both_each P Q s h g = each_child (λ c. P c × Q c) s (join_children P Q s h g)

pub node_adds : (P : ℕ → Type 0) (shapes : List Shape) → ((k : ℕ) → k < length shapes → ChildrenBelow k (shape_at shapes k)) → ((k : ℕ) → k < length shapes → P k → OnChildren P (shape_at shapes k)) → (k : ℕ) → k < length shapes → AddsNode P shapes k
node_adds P shapes children down k l = every_node (AddsNode P shapes) shapes children turn k l
  where
    added : (n : ℕ) (done mid : List ℕ) → P n → has n done ≡ false → AddAll P shapes n (children_of (shape_at shapes n)) done mid → Adds P shapes n done (mid ++ n ∷ [])
    added n done mid p fresh a =
        let new : has n mid ≡ false = absent (has n mid) refl in
        record {
          order = pushed P shapes mid n a.order new p (on_children (λ c. has c mid ≡ true) (shape_at shapes n) a.all);
          it = has_push n n mid ∙ ap (λ b. has n mid || b) (eq-eqb n n refl) ∙ or_true (has n mid);
          kept = λ j t. has_push j n mid ∙ ap (λ b. b || eqb j n) (a.kept j t);
          lower = λ j t. elim (cases_eq j n) [
            | inl e ↦ inr (omega arith)
            | inr ne ↦ (elim (a.lower j (sym (or_false (has j mid)) ∙ ap (λ b. has j mid || b) (sym (ne_eqb j n ne)) ∙ sym (has_push j n mid) ∙ t)) [ inl before ↦ inl before | inr lt ↦ inr (omega arith) ])
          ];
        }
      where
        absent : (b : Bool) → has n mid ≡ b → has n mid ≡ false
        absent false e = e
        absent true e = elim (a.lower n e) [ inl before ↦ cc | inr lt ↦ absurd (omega arith) ]

    turn : (n : ℕ) → n < length shapes → OnChildren (AddsNode P shapes) (shape_at shapes n) → AddsNode P shapes n
    turn n l b p done o = either (has n done) refl
      where
        either : (x : Bool) → has n done ≡ x → Adds P shapes n done (cond (has n done) done (below_node shapes n done ++ (n ∷ [])))
        either true e = subst (Adds P shapes n done) (ap (λ x. cond x done (below_node shapes n done ++ (n ∷ []))) (sym e)) (record { order = o; it = e; kept = λ j t. t; lower = λ j t. inl t })
        either false e =
            subst (Adds P shapes n done) (ap (λ f. f done ++ (n ∷ [])) (sym (below_step shapes n (children n l))) ∙ ap (λ x. cond x done (below_node shapes n done ++ (n ∷ []))) (sym e))
            (added n done (puts (below_node shapes) (children_of (shape_at shapes n)) done) p e
            (puts_add P shapes n (children_of (shape_at shapes n)) (each_child (λ c. c < n) (shape_at shapes n) (children n l)) (each_child P (shape_at shapes n) (down n l p)) (each_child (AddsNode P shapes) (shape_at shapes n) b) done o))

-- the nodes that roots reach
pub roots_order : (P : ℕ → Type 0) (shapes : List Shape) → ((k : ℕ) → k < length shapes → ChildrenBelow k (shape_at shapes k)) → ((k : ℕ) → k < length shapes → P k → OnChildren P (shape_at shapes k)) → (roots : List ℕ) → Each (λ k. k < length shapes) roots → Each P roots
    → IsOrder P shapes (puts (below_node shapes) roots []) × Each (λ k. has k (puts (below_node shapes) roots []) ≡ true) roots
roots_order P shapes children down roots within ps =
    let all = puts_add P shapes (length shapes) roots within ps (each_map (λ k. k < length shapes) (AddsNode P shapes) (λ k l. node_adds P shapes children down k l) roots within) [] (no_order P shapes) in
    (all.order, all.all)
