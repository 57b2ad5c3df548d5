-- The gates of a goal fit its room.
use Rattle.std.proofs.Common.{◌≡◌, ℕ, zero, suc, ◌+◌, ◌*◌, ◌<◌, ◌≤◌, ◌⊎◌, Bool, true, false, ◌&&◌, cond, eqb, List, length, get_or, take, Option, Some, None, refl, sym, ap, ◌∙◌, subst, arith, inl, inr, ⊎_elim, get_or-take, length-take-le, slice_index, eq-eqb, ne_eqb, ◌-◌}
use Rattle.std.proofs.lemmas.Bool.{cases_eq, cases_lt, false≢true}
use Rattle.aig.specs.declared.gate.Gate.{Gate}
use Rattle.fourvec.proofs.Tables.{left_of, right_of}
use Rattle.fourvec.proofs.Order.{both}
use Rattle.svex_arena.specs.Marks.{IsMarked, IsClosed, HasRoots}
use Rattle.svex_arena.specs.Marks.IsReached.{as_root}
use Rattle.svex_arena.proofs.Numbering.{map_children, join_children}
use Rattle.svex_arena.proofs.Substituting.{children_renamed}
use Rattle.svex_blast.specs.Sizes.{gates_to, gates_of}
use Rattle.svex_shape.specs.declared.shape.Shape.{Shape}
use Rattle.svex_shape.specs.Shapes.{OnChildren, shape_at, width_at}
use Rattle.svtv_choices.specs.Choices.{bits_of}
use Rattle.goal_gates.specs.Goals.{Goal}
use Rattle.goal_gates.specs.Gating.{AreFew}
use Rattle.goal_gates.specs.Rooms.{AreReached, FitsRoom, room}
use Rattle.goal_gates.proofs.Copies.{Reached, replacement, children_reached, answer_shape, answer_other, answer_gates, own_answer, replaced_sample, chosen_stays_at}
use Rattle.goal_gates.proofs.Sums.{total, gates_total, total_le, total_hit, hit, hit_by, hit_from, marks_of, marks_long, marks_at}
use Rattle.goal_gates.proofs.Told.{IsPut, roots_of, count_of, roots_long, root_hyp, root_claim, root_sample, bits_same}

-- ---- what can be decided of finitely many numbers

-- no contradiction needs more than that each of the first n numbers has the property or not
decided : (P : ℕ → Type 0) (n : ℕ) → (((k : ℕ) → k < n → P k ⊎ (P k → ⊥)) → ⊥) → ⊥
decided P zero h = h (λ k l. absurd (omega (arith, l)))
decided P (suc n) h =
    decided P n (λ d.
    let last : (P n ⊎ (P n → ⊥)) → ⊥ = λ x. h (λ k l. elim (cases_eq k n) [
      | inl e ↦ subst (λ j. P j ⊎ (P j → ⊥)) (sym e) x
      | inr ne ↦ d k (omega (arith, l, ne))
    ]) in
    last (inr (λ y. last (inl y))))

pub record IsTest (P : ℕ → Type 0) (n : ℕ) (r : ℕ → Bool) : Type 0 where
  pub sound : (k : ℕ) → k < n → r k ≡ true → P k
  pub complete : (k : ℕ) → k < n → P k → r k ≡ true

tests : (P : ℕ → Type 0) (n : ℕ) → ((k : ℕ) → k < n → P k ⊎ (P k → ⊥)) → (r : ℕ → Bool) × IsTest P n r
tests P zero d = (λ k. false, record { sound = λ k l. absurd (omega (arith, l)); complete = λ k l. absurd (omega (arith, l)) })
tests P (suc n) d = with_last (tests P n (λ k l. d k (omega (arith, l)))) (d n (omega arith))
  where
    with_last : (r : ℕ → Bool) × IsTest P n r → (P n ⊎ (P n → ⊥)) → (r : ℕ → Bool) × IsTest P (suc n) r
    with_last t (inl y) = (
      λ k. cond (eqb k n) true (t.0 k),
      record {
        sound = λ k l e. elim (cases_eq k n) [
          | inl same ↦ subst P (sym same) y
          | inr ne ↦ t.1.sound k (omega (arith, l, ne)) (sym (ap (λ c. cond c true (t.0 k)) (ne_eqb k n ne)) ∙ e)
        ];
        complete = λ k l h. elim (cases_eq k n) [
          | inl same ↦ ap (λ c. cond c true (t.0 k)) (eq-eqb k n same)
          | inr ne ↦ ap (λ c. cond c true (t.0 k)) (ne_eqb k n ne) ∙ t.1.complete k (omega (arith, l, ne)) h
        ];
      },
    )
    with_last t (inr never) = (
      λ k. cond (eqb k n) false (t.0 k),
      record {
        sound = λ k l e. elim (cases_eq k n) [
          | inl same ↦ absurd (false≢true (sym (ap (λ c. cond c false (t.0 k)) (eq-eqb k n same)) ∙ e))
          | inr ne ↦ t.1.sound k (omega (arith, l, ne)) (sym (ap (λ c. cond c false (t.0 k)) (ne_eqb k n ne)) ∙ e)
        ];
        complete = λ k l h. elim (cases_eq k n) [
          | inl same ↦ absurd (never (subst P same h))
          | inr ne ↦ ap (λ c. cond c false (t.0 k)) (ne_eqb k n ne) ∙ t.1.complete k (omega (arith, l, ne)) h
        ];
      },
    )

-- ---- the nodes whose answers are new nodes of their own

abbrev is_kept : Option ℕ → Bool
is_kept None = true
is_kept (Some other) = false

abbrev taken : Goal → List Bool → (ℕ → Bool) → ℕ → Bool
taken g marks r k = get_or marks k false && (r k && is_kept (replacement g k))

kept_none : (o : Option ℕ) → is_kept o ≡ true → o ≡ None
kept_none None h = refl
kept_none (Some other) h = cc

answer_hit : (g : Goal) (new : List Shape) (answers : List ℕ) (p : IsPut g new answers) (marks : List Bool) (r : ℕ → Bool) → AreReached g marks → IsTest (Reached g) (length g.shapes) r
    → (k : ℕ) → k < length g.shapes → IsMarked marks k → Reached g k → hit (taken g marks r) p.answered.answer (length g.shapes) (p.answered.answer k) ≡ true
answer_hit g new answers p marks r m t k l is reached = by_cases (replacement g k) refl
  where
    by_cases : (o : Option ℕ) → replacement g k ≡ o → hit (taken g marks r) p.answered.answer (length g.shapes) (p.answered.answer k) ≡ true
    by_cases None e =
        hit_by (taken g marks r) p.answered.answer (length g.shapes) k l (both (get_or marks k false) (r k && is_kept (replacement g k)) is (both (r k) (is_kept (replacement g k)) (t.complete k l reached) (ap is_kept e)))
    by_cases (Some other) e =
        let x = replaced_sample g.samples (length g.shapes) (width_at g.shapes) (shape_at g.shapes k) other e in
        let s : ℕ = get_or g.samples x.at 0 in
        let there : s < length g.shapes = p.samples x.at 0 x.within in
        let is_there : IsMarked marks s = m.sampled k x.at x.width l is x.is x.within in
        let root : Reached g s =
        as_root (length g.hyps + length g.claims + x.at) s (omega (arith, x.within, roots_long g)) (root_sample g x.at 0 x.within) in
        let own : p.answered.answer s ≡ s = own_answer g new answers p s there root (p.chosen x.at 0 x.within) in
        let stays : replacement g s ≡ None = chosen_stays_at g s p.arena there (p.chosen x.at 0 x.within) in
        let here : hit (taken g marks r) p.answered.answer (length g.shapes) (p.answered.answer s) ≡ true =
        hit_by (taken g marks r) p.answered.answer (length g.shapes) s there (both (get_or marks s false) (r s && is_kept (replacement g s)) is_there (both (r s) (is_kept (replacement g s)) (t.complete s there root) (ap is_kept stays))) in
        ap (hit (taken g marks r) p.answered.answer (length g.shapes)) (answer_other g new answers p k other reached e ∙ (x.node ∙ sym own)) ∙ here

-- the marks of the answers for what is taken
abbrev marks_in : (g : Goal) (new : List Shape) (answers : List ℕ) → IsPut g new answers → List Bool → (ℕ → Bool) → List Bool
marks_in g new answers p marks r = marks_of (hit (taken g marks r) p.answered.answer (length g.shapes)) (length new)

answer_marked : (g : Goal) (new : List Shape) (answers : List ℕ) (p : IsPut g new answers) (marks : List Bool) (r : ℕ → Bool) → AreReached g marks → IsTest (Reached g) (length g.shapes) r
    → (k : ℕ) → k < length g.shapes → IsMarked marks k → Reached g k → IsMarked (marks_in g new answers p marks r) (p.answered.answer k)
answer_marked g new answers p marks r m t k l is reached =
    marks_at (hit (taken g marks r) p.answered.answer (length g.shapes)) (length new) (p.answered.answer k) (p.answered.answered k reached).within ∙ answer_hit g new answers p marks r m t k l is reached

closed_in : (g : Goal) (new : List Shape) (answers : List ℕ) (p : IsPut g new answers) (marks : List Bool) (r : ℕ → Bool) → AreReached g marks → IsTest (Reached g) (length g.shapes) r → IsClosed new (marks_in g new answers p marks r) 0
closed_in g new answers p marks r m t = record {
  children = λ k from l is.
      let lt : k < length new = omega (arith, l, marks_long (hit (taken g marks r) p.answered.answer (length g.shapes)) (length new)) in
      let h = hit_from (taken g marks r) p.answered.answer (length g.shapes) k (sym (marks_at (hit (taken g marks r) p.answered.answer (length g.shapes)) (length new) k lt) ∙ is) in
      let j : ℕ = h.0 in
      let s : Shape = shape_at g.shapes j in
      let f : ℕ → ℕ = p.answered.answer in
      let marked : IsMarked marks j = left_of (get_or marks j false) (r j && is_kept (replacement g j)) h.2 in
      let rest : (r j && is_kept (replacement g j)) ≡ true = right_of (get_or marks j false) (r j && is_kept (replacement g j)) h.2 in
      let reached : Reached g j = t.sound j h.1 (left_of (r j) (is_kept (replacement g j)) rest) in
      let none : replacement g j ≡ None = kept_none (replacement g j) (right_of (r j) (is_kept (replacement g j)) rest) in
      let within : OnChildren (λ c. IsMarked (marks_in g new answers p marks r) (f c)) s =
      map_children (λ c. ((c < j) × IsMarked marks c) × Reached g c) (λ c. IsMarked (marks_in g new answers p marks r) (f c))
      (λ c x. answer_marked g new answers p marks r m t c (let y = x.0.0 in omega (arith, y, h.1)) x.0.1 x.1) s
      (join_children (λ c. (c < j) × IsMarked marks c) (Reached g) s
      (join_children (λ c. c < j) (IsMarked marks) s (p.arena.children j h.1) (m.children.children j (omega arith) (omega (arith, h.1, m.long)) marked))
      (children_reached g j reached)) in
      subst (OnChildren (IsMarked (marks_in g new answers p marks r))) (sym (ap (shape_at new) h.3 ∙ answer_shape g new answers p j reached none))
      (children_renamed (IsMarked (marks_in g new answers p marks r)) f s within);
}

root_marked : (g : Goal) (marks : List Bool) → AreReached g marks → (i : ℕ) → i < count_of g → IsMarked marks (slice_index (roots_of g) i)
root_marked g marks m i l = ⊎_elim
    (λ lt. ap (λ k. get_or marks k false) (root_hyp g i 0 lt) ∙ m.hyps i 0 lt)
    (λ ge. let e : i ≡ length g.hyps + (i - length g.hyps) = omega (arith, ge) in
    ap (λ k. get_or marks k false) (ap (slice_index (roots_of g)) e ∙ root_claim g (i - length g.hyps) 0 (omega (arith, l, ge))) ∙ m.claims (i - length g.hyps) 0 (omega (arith, l, ge)))
    (cases_lt i (length g.hyps))

root_there : (g : Goal) (new : List Shape) (answers : List ℕ) → IsPut g new answers → (i : ℕ) → i < count_of g → slice_index (roots_of g) i < length g.shapes
root_there g new answers p i l = ⊎_elim
    (λ lt. subst (λ k. k < length g.shapes) (sym (root_hyp g i 0 lt)) (p.hyps i 0 lt))
    (λ ge. let e : i ≡ length g.hyps + (i - length g.hyps) = omega (arith, ge) in
    subst (λ k. k < length g.shapes) (sym (ap (slice_index (roots_of g)) e ∙ root_claim g (i - length g.hyps) 0 (omega (arith, l, ge)))) (p.claims (i - length g.hyps) 0 (omega (arith, l, ge))))
    (cases_lt i (length g.hyps))

roots_in : (g : Goal) (new : List Shape) (answers : List ℕ) (p : IsPut g new answers) (marks : List Bool) (r : ℕ → Bool) → AreReached g marks → IsTest (Reached g) (length g.shapes) r
    → HasRoots (take (count_of g) answers) (marks_in g new answers p marks r) (count_of g)
roots_in g new answers p marks r m t = record {
  marked_roots = λ i l.
      let long : i < length (roots_of g) = omega (arith, l, roots_long g) in
      ap (λ k. get_or (marks_in g new answers p marks r) k false) (get_or-take (count_of g) answers i 0 l ∙ p.answered.at i long)
      ∙ answer_marked g new answers p marks r m t (slice_index (roots_of g) i) (root_there g new answers p i l) (root_marked g marks m i l) (as_root i (slice_index (roots_of g) i) long refl);
}

gates_in : (g : Goal) (new : List Shape) (answers : List ℕ) (p : IsPut g new answers) (marks : List Bool) (r : ℕ → Bool) → AreReached g marks → IsTest (Reached g) (length g.shapes) r
    → gates_to new (marks_in g new answers p marks r) (length (marks_in g new answers p marks r)) ≤ gates_to g.shapes marks (length marks)
gates_in g new answers p marks r m t =
    let n : ℕ = length new in
    let len : ℕ = length g.shapes in
    let f : ℕ → ℕ = p.answered.answer in
    let image : ℕ → Bool = hit (taken g marks r) f len in
    let there : List Bool = marks_in g new answers p marks r in
    let new_gates : ℕ → ℕ = λ k. gates_of (width_at new) (shape_at new k) in
    let old_gates : ℕ → ℕ = λ k. gates_of (width_at g.shapes) (shape_at g.shapes k) in
    let a : gates_to new there (length there) ≡ total (λ k. get_or there k false) new_gates n = ap (gates_to new there) (marks_long image n) ∙ gates_total new there n in
    let b : total (λ k. get_or there k false) new_gates n ≤ total image new_gates n = total_le (λ k. get_or there k false) image new_gates new_gates n (λ k l e. (sym (marks_at image n k l) ∙ e, omega arith)) in
    let c : total image new_gates n ≤ total (taken g marks r) (λ k. new_gates (f k)) len = total_hit (taken g marks r) f new_gates len n in
    let d : total (taken g marks r) (λ k. new_gates (f k)) len ≤ total (λ k. get_or marks k false) old_gates len =
    total_le (taken g marks r) (λ k. get_or marks k false) (λ k. new_gates (f k)) old_gates len
    (λ k l e.
    let rest : (r k && is_kept (replacement g k)) ≡ true = right_of (get_or marks k false) (r k && is_kept (replacement g k)) e in
    let same : new_gates (f k) ≡ old_gates k = answer_gates g new answers p k l (t.sound k l (left_of (r k) (is_kept (replacement g k)) rest)) (kept_none (replacement g k) (right_of (r k) (is_kept (replacement g k)) rest)) in
    (left_of (get_or marks k false) (r k && is_kept (replacement g k)) e, omega (arith, same))) in
    let e : gates_to g.shapes marks (length marks) ≡ total (λ k. get_or marks k false) old_gates len = ap (gates_to g.shapes marks) m.long ∙ gates_total g.shapes marks len in
    omega (arith, a, b, c, d, e)

-- ---- the room

room_flat : (g : Goal) (marks : List Bool) → bits_of g.vars ≡ 0 → room g marks ≡ 1
room_flat g marks e = ap (λ c. cond c 1 (1 + bits_of g.vars + 4 * (length g.hyps + length g.claims) + gates_to g.shapes marks (length marks))) (eq-eqb (bits_of g.vars) 0 e)

room_full : (g : Goal) (marks : List Bool) → (bits_of g.vars ≡ 0 → ⊥) → room g marks ≡ 1 + bits_of g.vars + 4 * (length g.hyps + length g.claims) + gates_to g.shapes marks (length marks)
room_full g marks ne = ap (λ c. cond c 1 (1 + bits_of g.vars + 4 * (length g.hyps + length g.claims) + gates_to g.shapes marks (length marks))) (ne_eqb (bits_of g.vars) 0 ne)

within_room : (g : Goal) (new : List Shape) (answers : List ℕ) (gates : List Gate) (p : IsPut g new answers) → AreFew g.vars new (take (count_of g) answers) gates → (marks : List Bool) (r : ℕ → Bool) → AreReached g marks → IsTest (Reached g) (length g.shapes) r
    → length gates ≤ room g marks
within_room g new answers gates p few marks r m t = elim (cases_eq (bits_of g.vars) 0) [
  | inl e ↦ omega (arith, room_flat g marks e, few.flat (bits_same g.vars ∙ e))
  | inr ne ↦
      let there : List Bool = marks_in g new answers p marks r in
      let long : length (take (count_of g) answers) ≡ count_of g = length-take-le (count_of g) answers (omega (arith, p.answered.size, roots_long g)) in
      let most = few.nodes there (marks_long (hit (taken g marks r) p.answered.answer (length g.shapes)) (length new)) (subst (HasRoots (take (count_of g) answers) there) (sym long) (roots_in g new answers p marks r m t)) (closed_in g new answers p marks r m t) in
      omega (arith, room_full g marks ne, most, long, bits_same g.vars, gates_in g new answers p marks r m t)
]

pub fits_room : (g : Goal) (new : List Shape) (answers : List ℕ) (gates : List Gate) → IsPut g new answers → AreFew g.vars new (take (count_of g) answers) gates → FitsRoom g gates
fits_room g new answers gates p few marks m = ⊎_elim
    (λ over. absurd (decided (Reached g) (length g.shapes) (λ d.
    let t = tests (Reached g) (length g.shapes) d in
    let within : length gates ≤ room g marks = within_room g new answers gates p few marks t.0 m t.1 in
    absurd (omega (arith, over, within)))))
    (λ fits. fits)
    (cases_lt (room g marks) (length gates))
