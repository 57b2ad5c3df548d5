-- Choices between what two branches lay over one store.
use Rattle.std.proofs.Common.{◌≡◌, ◌≢◌, ℕ, ◌+◌, ◌<◌, ◌≤◌, List, [], length, get_or, Option, Some, None, sym, ap, ◌∙◌, inl, inr, subst, arith}
use Rattle.std.proofs.lemmas.List.{get_or_read}
use Rattle.fourvec.specs.Bits.{pick_of}
use Rattle.svex_shape.specs.declared.shape.Shape.{Shape}
use Rattle.svex_shape.specs.Shapes.{width_at}
use Rattle.svex_arena.specs.Arenas.{IsArena, Extends}
use Rattle.svex_arena.specs.Substs.{entry_at, given_or}
use Rattle.svex_arena.proofs.Steps.{width-extends}
use Rattle.sv_lower.specs.Nodes.{FromThree}
use Rattle.sv_stores.specs.declared.scene.Scene.{Scene}
use Rattle.sv_stores.specs.Scenes.{width_in, AreNodes, IsScene}
use Rattle.sv_blocks.specs.Sides.{Merges, ChosenAt}
use Rattle.sv_blocks.specs.Overlays.{node_over, over, Covers}
use Rattle.sv_blocks.proofs.Merging.{chosen_same, three_later, three_earlier, merges_all}
use Rattle.sv_blocks.proofs.Overlaying.{over_long, over_at, over_none, Walked, walked_more, walked_all, uncovered}

-- ---- at one place

pub over_within : (scene : Scene) (shapes : List Shape) (puts : List (Option ℕ)) (nodes : List ℕ) (at node : ℕ) → AreNodes scene shapes (over puts nodes) → at < length nodes → entry_at puts at ≡ Some node → node < length shapes
over_within scene shapes puts nodes at node are l e =
    subst (λ n. n < length shapes) (over_at puts nodes at l ∙ ap (given_or (λ n. n) (get_or nodes at 0)) e) (are.within at (let g = over_long puts nodes in omega arith))

pub over_width : (scene : Scene) (shapes : List Shape) (puts : List (Option ℕ)) (nodes : List ℕ) (at node : ℕ) → AreNodes scene shapes (over puts nodes) → at < length nodes → entry_at puts at ≡ Some node → width_at shapes node ≡ width_in scene at
over_width scene shapes puts nodes at node are l e =
    subst (λ n. width_at shapes n ≡ width_in scene at) (over_at puts nodes at l ∙ ap (given_or (λ n. n) (get_or nodes at 0)) e) (are.width at (let g = over_long puts nodes in omega arith))

stands_over : (puts : List (Option ℕ)) (nodes : List ℕ) (at stood : ℕ) → at < length nodes → stood ≡ get_or nodes at stood → get_or (over puts nodes) at 0 ≡ node_over puts at stood
stands_over puts nodes at stood l is = over_at puts nodes at l ∙ ap (node_over puts at) (sym (get_or_read nodes at stood l is 0))

pub side_within : (scene : Scene) (shapes : List Shape) (puts : List (Option ℕ)) (nodes : List ℕ) (at stood x : ℕ) → AreNodes scene shapes (over puts nodes) → at < length nodes → stood ≡ get_or nodes at stood → x ≡ node_over puts at stood → x < length shapes
side_within scene shapes puts nodes at stood x are l is e =
    subst (λ n. n < length shapes) (stands_over puts nodes at stood l is ∙ sym e) (are.within at (let g = over_long puts nodes in omega arith))

pub side_width : (scene : Scene) (shapes : List Shape) (puts : List (Option ℕ)) (nodes : List ℕ) (at stood x : ℕ) → AreNodes scene shapes (over puts nodes) → at < length nodes → stood ≡ get_or nodes at stood → x ≡ node_over puts at stood → width_at shapes x ≡ width_in scene at
side_width scene shapes puts nodes at stood x are l is e =
    subst (λ n. width_at shapes n ≡ width_in scene at) (stands_over puts nodes at stood l is ∙ sym e) (are.width at (let g = over_long puts nodes in omega arith))

pub chosen_put : (old new : List Shape) (truth : ℕ) (pa pb q : List (Option ℕ)) (nodes : List ℕ) (at stood x y node : ℕ) → at < length nodes → stood ≡ get_or nodes at stood → x ≡ node_over pa at stood → y ≡ node_over pb at stood → entry_at q at ≡ Some node
    → FromThree old new (λ c x y. pick_of c x y) truth x y (width_at old x) node → ChosenAt old new truth (over pa nodes) (over pb nodes) (over q nodes) at
chosen_put old new truth pa pb q nodes at stood x y node l is ex ey eq h =
    let F : ℕ → ℕ → ℕ → Type 0 = λ a b n. FromThree old new (λ c x y. pick_of c x y) truth a b (width_at old a) n in
    let n : node ≡ get_or (over q nodes) at 0 = sym (stands_over q nodes at stood l is ∙ ap (given_or (λ n. n) stood) eq) in
    let a : x ≡ get_or (over pa nodes) at 0 = ex ∙ sym (stands_over pa nodes at stood l is) in
    let b : y ≡ get_or (over pb nodes) at 0 = ey ∙ sym (stands_over pb nodes at stood l is) in
    subst (λ z. F z (get_or (over pb nodes) at 0) (get_or (over q nodes) at 0)) a (subst (λ z. F x z (get_or (over q nodes) at 0)) b (subst (λ z. F x y z) n h))

-- ---- places, one after another

choice_none : (old : List Shape) (truth : ℕ) (pa pb : List (Option ℕ)) (nodes : List ℕ) (i : ℕ) → i < length nodes → get_or (over pa nodes) i 0 < length old → entry_at pa i ≡ None → entry_at pb i ≡ None → ChosenAt old old truth (over pa nodes) (over pb nodes) nodes i
choice_none old truth pa pb nodes i l within ea eb =
    let A = get_or (over pa nodes) i 0 in
    let B = get_or (over pb nodes) i 0 in
    let x = get_or nodes i 0 in
    let a : A ≡ x = over_at pa nodes i l ∙ ap (given_or (λ n. n) x) ea in
    let b : B ≡ x = over_at pb nodes i l ∙ ap (given_or (λ n. n) x) eb in
    subst (λ z. FromThree old old (λ c x y. pick_of c x y) truth A B (width_at old A) z) a (chosen_same old truth A B within (a ∙ sym b))

pub choices_none : (scene : Scene) (old : List Shape) (truth : ℕ) (pa pb q : List (Option ℕ)) (nodes places : List ℕ) → AreNodes scene old (over pa nodes) → Covers places pa → Covers places pb → q ≡ []
    → Walked (λ i. ChosenAt old old truth (over pa nodes) (over pb nodes) (over q nodes) i) places 0 (length nodes)
choices_none scene old truth pa pb q nodes places are ca cb e i l = elim (uncovered pa places i ca) [
  | inr w ↦ inr w
  | inl ea ↦ elim (uncovered pb places i cb) [
    | inr w ↦ inr w
    | inl eb ↦
        inl (subst (λ xs. ChosenAt old old truth (over pa nodes) (over pb nodes) xs i) (sym (over_none q nodes e))
        (choice_none old truth pa pb nodes i l (are.within i (let g = over_long pa nodes in omega arith)) ea eb))
  ]
]

pub choices_more : (scene : Scene) (old mid new : List Shape) (truth : ℕ) (a b nodes : List ℕ) (p q : List (Option ℕ)) (places : List ℕ) (k x : ℕ) → AreNodes scene old a → AreNodes scene old b → length a ≡ length nodes → truth < length old → k < length places → get_or places k 0 ≡ x → Extends old mid → Extends mid new
    → Walked (λ i. ChosenAt old mid truth a b (over p nodes) i) places k (length nodes) → (x < length nodes → ChosenAt mid new truth a b (over q nodes) x) → ((i : ℕ) → i ≢ x → entry_at q i ≡ entry_at p i)
    → Walked (λ i. ChosenAt old new truth a b (over q nodes) i) places (k + 1) (length nodes)
choices_more scene old mid new truth a b nodes p q places k x ra rb long t lk is e f h here others =
    walked_more (λ i. ChosenAt old mid truth a b (over p nodes) i) (λ i. ChosenAt old new truth a b (over q nodes) i) places k (length nodes) x lk is kept now h
  where
    kept : (i : ℕ) → i < length nodes → i ≢ x → ChosenAt old mid truth a b (over p nodes) i → ChosenAt old new truth a b (over q nodes) i
    kept i l n g =
        let same : get_or (over p nodes) i 0 ≡ get_or (over q nodes) i 0 = over_at p nodes i l ∙ ap (given_or (λ n. n) (get_or nodes i 0)) (sym (others i n)) ∙ sym (over_at q nodes i l) in
        subst (λ z. FromThree old new (λ c x y. pick_of c x y) truth (get_or a i 0) (get_or b i 0) (width_at old (get_or a i 0)) z) same (three_later old mid new (λ c x y. pick_of c x y) _ _ _ _ _ f g)

    now : x < length nodes → ChosenAt old new truth a b (over q nodes) x
    now l =
        let la : get_or a x 0 < length old = ra.within x (omega arith) in
        let lb : get_or b x 0 < length old = rb.within x (let g = ra.long in let d = rb.long in omega arith) in
        three_earlier old mid new (λ c x y. pick_of c x y) truth (get_or a x 0) (get_or b x 0) _ (get_or (over q nodes) x 0) e t la lb
        (subst (λ w. FromThree mid new (λ c x y. pick_of c x y) truth (get_or a x 0) (get_or b x 0) w (get_or (over q nodes) x 0)) (width-extends old mid (get_or a x 0) e la) (here l))

pub choices_end : (scene : Scene) (old new : List Shape) (truth : ℕ) (pa b : List (Option ℕ)) (nodes : List ℕ) (q : List (Option ℕ)) (places : List ℕ) (k : ℕ) → IsScene scene → IsArena old → AreNodes scene old (over pa nodes) → AreNodes scene old (over b nodes) → length places ≤ k
    → Walked (λ i. ChosenAt old new truth (over pa nodes) (over b nodes) (over q nodes) i) places k (length nodes) → Merges scene old new truth (over pa nodes) (over b nodes) (over q nodes)
choices_end scene old new truth pa b nodes q places k sc ar ra rb e h =
    merges_all scene old new truth (over pa nodes) (over b nodes) (over q nodes) (length nodes) sc ar ra rb (sym (over_long pa nodes))
    (record { long = over_long q nodes; at = walked_all (λ i. ChosenAt old new truth (over pa nodes) (over b nodes) (over q nodes) i) places k (length nodes) e h })
