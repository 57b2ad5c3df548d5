-- Loops over members, marks and groups.
use Rattle.std.proofs.Common.{◌≡◌, ℕ, ◌+◌, ◌-◌, ◌<◌, ◌≤◌, Bool, true, false, cond, List, [], ◌∷◌, ◌++◌, length, get_or, set, drop, None, Some, Result, Ok, Err, refl, sym, ap, ◌∙◌, subst, inl, inr, arith}
use Rattle.std.specs.Prelude.{slice_index, slice_index_or}
use Rattle.std.specs.Result.{IsErrAnd}
use Rattle.std.proofs.lemmas.Bool.{cases_eq, lt-ltb, le-ltb}
use Rattle.std.proofs.lemmas.List.{drop_more, get_or-set_same, get_or-set_other, length-set, get_or_append_left, get_or_push, length-append, drop_all}
use Rattle.fourvec.specs.Bits.{all_x}
use Rattle.lhs_alias.specs.declared.segs.Seg.{Seg}
use Rattle.svex_shape.specs.declared.shape.Shape.{Shape}
use Rattle.svex_shape.specs.declared.shape.Shape.TheVariants.{Const}
use Rattle.svex_shape.specs.Shapes.{shape_at}
use Rattle.svex_arena.specs.Arenas.{Extends}
use Rattle.svex_arena.specs.Marks.{IsMarked}
use Rattle.net_equations.specs.declared.group.ComposeErr.{ComposeErr}
use Rattle.net_equations.specs.Equations.{seg_at}
use Rattle.net_equations.specs.Groups.{bits_in, first_wide}
use Rattle.svex_compose.specs.Starting.{AreStarted}
use Rattle.svex_compose.specs.Grouping.{AreMarked}

-- ---- bits

member-next : (members : List ℕ) (at : ℕ) → 0 < at → at ≤ length members → drop (at - 1) members ≡ slice_index members (at - 1) ∷ drop at members
member-next members at some most =
    drop_more members (at - 1) 0 (omega (arith, some, most)) ∙ ap (λ k. slice_index members (at - 1) ∷ drop k members) (let e : at - 1 + 1 ≡ at = omega (arith, some) in e)

pub weigh_more : (segs : List Seg) (members : List ℕ) (at width bits sum : ℕ) → 0 < at → at ≤ length members → width ≡ (seg_at segs (slice_index members (at - 1))).width
    → bits ≡ bits_in segs (drop at members) → sum ≡ width + bits → sum ≡ bits_in segs (drop (at - 1) members)
unfolding bits_in
weigh_more segs members at width bits sum some most w b s =
    s ∙ (λ j. w j + b j) ∙ sym (ap (bits_in segs) (member-next members at some most))

pub weigh_none : (segs : List Seg) (members : List ℕ) (at : ℕ) → length members ≤ at → 0 ≡ bits_in segs (drop at members)
unfolding bits_in
weigh_none segs members at all = sym (ap (bits_in segs) (drop_all at members all))

-- ---- marks

pub marks_none : (members : List ℕ) (old : List Bool) → AreMarked members old old 0
marks_none members old = record { size = refl; stays = λ i h. h; set = λ j lt. absurd (omega (arith, lt)); only = λ i none. refl }

pub marks_more : (members : List ℕ) (old mid : List Bool) (n : ℕ) → slice_index members n < length mid → AreMarked members old mid n → AreMarked members old (set mid (slice_index members n) true) (n + 1)
marks_more members old mid n lt h =
    let m = slice_index members n in
    let here : get_or (set mid m true) m false ≡ true = get_or-set_same mid m true false lt in
    let stays : (i : ℕ) → IsMarked mid i → IsMarked (set mid m true) i = λ i t. elim (cases_eq i m) [
      | inl is ↦ ap (λ k. get_or (set mid m true) k false) is ∙ here
      | inr ne ↦ get_or-set_other mid m i true false ne ∙ t
    ] in
    record {
      size = length-set mid m true ∙ h.size;
      stays = λ i t. stays i (h.stays i t);
      set = λ j l. elim (cases_eq j n) [
        | inl is ↦ ap (λ k. get_or (set mid m true) (slice_index members k) false) is ∙ here
        | inr ne ↦ stays (slice_index members j) (h.set j (omega (arith, l, ne)))
      ];
      only = λ i none. get_or-set_other mid m i true false (λ is. none n (omega arith) (sym is)) ∙ h.only i (λ j l. none j (omega (arith, l)));
    }

-- ---- nodes before the first round

pub started_none : (shapes : List Shape) (segs : List Seg) (nodes : List ℕ) → nodes ≡ [] → AreStarted shapes segs nodes (length nodes)
started_none shapes segs nodes e =
    let zero_long : length nodes ≡ 0 = ap length e in
    record {
      size = refl;
      there = λ i lt. absurd (omega (arith, lt, zero_long));
      shape = λ i lt. absurd (omega (arith, lt, zero_long));
    }

pub started_more : (old new : List Shape) (segs : List Seg) (nodes more : List ℕ) (node width : ℕ) → Extends old new → node < length new → shape_at new node ≡ Const (all_x width) → (seg_at segs (length nodes)).width ≡ width
    → more ≡ nodes ++ node ∷ [] → AreStarted old segs nodes (length nodes) → AreStarted new segs more (length more)
started_more old new segs nodes more node width e lt shape w pushed h =
    let long : length more ≡ length nodes + 1 = let x = length-append nodes (node ∷ []) in omega (arith, ap length pushed, x) in
    let last : slice_index more (length nodes) ≡ node = ap (λ l. get_or l (length nodes) 0) pushed ∙ get_or_push nodes node 0 (length nodes) refl in
    let rest : (i : ℕ) → i < length nodes → slice_index more i ≡ slice_index nodes i = λ i l. ap (λ x. get_or x i 0) pushed ∙ get_or_append_left nodes (node ∷ []) 0 i l in
    record {
      size = refl;
      there = λ i l. elim (cases_eq i (length nodes)) [
        | inl is ↦ subst (λ x. x < length new) (sym (ap (slice_index more) is ∙ last)) lt
        | inr ne ↦ let k : i < length nodes = omega (arith, l, ne, long) in omega (arith, h.there i k, e.longer, rest i k)
      ];
      shape = λ i l. elim (cases_eq i (length nodes)) [
        | inl is ↦ ap (shape_at new) (ap (slice_index more) is ∙ last) ∙ shape ∙ ap (λ v. Const (all_x v)) (sym w ∙ ap (λ k. (seg_at segs k).width) (sym is))
        | inr ne ↦ let k : i < length nodes = omega (arith, l, ne, long) in ap (shape_at new) (rest i k) ∙ e.same (slice_index nodes i) (h.there i k) ∙ h.shape i k
      ];
    }

-- ---- wide groups

-- the next group is wide, or the look goes on behind it
pub wide_here : (segs : List Seg) (groups : List (List ℕ)) (at n : ℕ) (g : List ℕ) → at < length groups → slice_index_or groups at [] ≡ g → n ≡ bits_in segs g → 1024 < n
    → first_wide segs groups ≡ first_wide segs (drop at groups) → first_wide segs groups ≡ Some n
unfolding first_wide
wide_here segs groups at n g lt is same wide h =
    let list : drop at groups ≡ g ∷ drop (at + 1) groups = drop_more groups at [] lt ∙ ap (λ x. x ∷ drop (at + 1) groups) is in
    h ∙ ap (first_wide segs) list
    ∙ ap (λ b. cond b (Some (bits_in segs g)) (first_wide segs (drop (at + 1) groups))) (lt-ltb 1024 (bits_in segs g) (omega (arith, wide, same)))
    ∙ ap (λ k. Some k) (sym same)

pub wide_on : (segs : List Seg) (groups : List (List ℕ)) (at : ℕ) (g : List ℕ) → at < length groups → slice_index_or groups at [] ≡ g → bits_in segs g ≤ 1024
    → first_wide segs groups ≡ first_wide segs (drop at groups) → first_wide segs groups ≡ first_wide segs (drop (at + 1) groups)
unfolding first_wide
wide_on segs groups at g lt is narrow h =
    let list : drop at groups ≡ g ∷ drop (at + 1) groups = drop_more groups at [] lt ∙ ap (λ x. x ∷ drop (at + 1) groups) is in
    h ∙ ap (first_wide segs) list
    ∙ ap (λ b. cond b (Some (bits_in segs g)) (first_wide segs (drop (at + 1) groups))) (le-ltb 1024 (bits_in segs g) narrow)

pub wide_end : (segs : List Seg) (groups : List (List ℕ)) (at : ℕ) → length groups ≤ at → first_wide segs groups ≡ first_wide segs (drop at groups) → first_wide segs groups ≡ None
unfolding first_wide
wide_end segs groups at all h = h ∙ ap (first_wide segs) (drop_all at groups all)

-- what `?` returns is the error that came
pub same_err : (r : Result (Unit {0}) ComposeErr) (e x : ComposeErr) → IsErrAnd r (λ y. y ≡ e) → r ≡ Err x → (let q : Result (Unit {0}) ComposeErr = Err e in q) ≡ Err x
same_err (Ok v) e x h q = absurd h
same_err (Err y) e x h q = (λ j. Err (sym h j)) ∙ q
