-- The bits that actions write, and their marks.
use Rattle.std.proofs.Common.{◌≡◌, ◌≢◌, ℕ, ◌+◌, ◌*◌, ◌<◌, ◌≤◌, eqb, Bool, true, false, cond, ◌&&◌, ◌||◌, List, [], ◌∷◌, ◌++◌, length, take, drop, set, reverse, get_or, Option, Some, None, refl, sym, ap, ◌∙◌, ◌⊎◌, inl, inr, subst, arith, nat_lt, append_assoc, get_or-set_same, get_or-set_other, length-set}
use Rattle.std.proofs.lemmas.List.{append-nil, take_all, drop_more, drop_all, reverse-append}
use Rattle.std.proofs.lemmas.Bool.{cases_lt, cases_eq}
use Rattle.std.proofs.lemmas.Bool.Decides.{nat_tests}
use Rattle.fourvec.proofs.Tables.{left_of, right_of}
use Rattle.lhs_alias.specs.declared.segs.WireBit.{WireBit}
use Rattle.lhs_alias.specs.Segs.{bit}
use Rattle.settling.specs.Settling.{same_bit}
use Rattle.svex_arena.specs.Substs.{entry_at}
use Rattle.sv_meaning.specs.Blocks.{has_bit, distinct}
use Rattle.sv_meaning.specs.Targets.{present}
use Rattle.sv_lower.proofs.Trees.{taken_more}
use Rattle.sv_typed.specs.declared.tree.Typed.{Typed}
use Rattle.sv_targets.specs.declared.targets.TypedTarget.{TypedTarget}
use Rattle.sv_targets.specs.Slots.{slots_of}
use Rattle.sv_actions.specs.declared.action.Action.{Action}
use Rattle.sv_actions.specs.declared.action.Action.TheVariants as act
use Rattle.sv_actions.specs.declared.action.Case.{Case}
use Rattle.sv_actions.specs.declared.action.Arm.{Arm}
use Rattle.sv_actions.specs.Doing.{writes, writes_all}
use Rattle.sv_stores.specs.declared.scene.Scene.{Scene}
use Rattle.sv_stores.specs.Scenes.{place_in, mark_at, is_written, IsScene}
use Rattle.sv_blocks.specs.Running.{arms_bits}
use Rattle.sv_blocks.specs.Fitting.{HasPlace, BitSits}
use Rattle.std.specs.Prelude.{is_some}
use Rattle.sv_blocks.specs.Declaring.{HasMarks, IsMarkOf, SameWires, IsSoFar, IsMarked}
use Rattle.sv_stores.proofs.Stores.{written_at, written_none}
use Rattle.sv_blocks.proofs.Acting.{writes_assign, writes_choose, writes_match}

-- ---- bits, one after another

present_push : (front : List (Option WireBit)) (o : Option WireBit) → present (front ++ o ∷ []) ≡ present front ++ present (o ∷ [])
unfolding present
present_push [] o = refl
present_push (None ∷ front) o = present_push front o
present_push (Some b ∷ front) o = ap (λ xs. b ∷ xs) (present_push front o)

pub present_more : (all : List (Option WireBit)) (i : ℕ) (o : Option WireBit) (front bits : List WireBit) → i < length all → o ≡ get_or all i o → bits ≡ front ++ present (take i all) → bits ++ present (o ∷ []) ≡ front ++ present (take (i + 1) all)
present_more all i o front bits l e h =
    ap (λ xs. xs ++ present (o ∷ [])) h ∙ append_assoc front (present (take i all)) (present (o ∷ [])) ∙ ap (λ xs. front ++ xs) (sym (ap present (taken_more all i o l e) ∙ present_push (take i all) o))

pub present_some : (b : WireBit) → present (Some b ∷ []) ≡ b ∷ []
unfolding present
present_some b = refl

pub present_none : present {A = WireBit} (None ∷ []) ≡ []
unfolding present
present_none = refl

pub present_begin : (all : List (Option WireBit)) (front : List WireBit) → front ≡ front ++ present (take 0 all)
unfolding present
present_begin all front = sym (append-nil front)

pub present_end : (all slots : List (Option WireBit)) (i : ℕ) (front bits : List WireBit) → length all ≤ i → all ≡ slots → bits ≡ front ++ present (take i all) → bits ≡ front ++ present slots
present_end all slots i front bits l e h = h ∙ ap (λ xs. front ++ present xs) (take_all i all l ∙ e)

writes_push : (front : List Action) (x : Action) → writes_all (front ++ x ∷ []) ≡ writes_all front ++ writes x
unfolding writes_all
writes_push [] x = append-nil (writes x)
writes_push (y ∷ front) x = ap (λ b. writes y ++ b) (writes_push front x) ∙ sym (append_assoc (writes y) (writes_all front) (writes x))

pub writes_more : (all : List Action) (i : ℕ) (x : Action) (front bits new : List WireBit) → i < length all → x ≡ get_or all i x → bits ≡ front ++ writes_all (take i all) → new ≡ bits ++ writes x → new ≡ front ++ writes_all (take (i + 1) all)
writes_more all i x front bits new l e h k =
    k ∙ ap (λ xs. xs ++ writes x) h ∙ append_assoc front (writes_all (take i all)) (writes x) ∙ ap (λ xs. front ++ xs) (sym (ap writes_all (taken_more all i x l e) ∙ writes_push (take i all) x))

pub writes_begin : (all : List Action) (front : List WireBit) → front ≡ front ++ writes_all (take 0 all)
unfolding writes_all
writes_begin all front = sym (append-nil front)

pub writes_end : (all : List Action) (i : ℕ) (front bits : List WireBit) → length all ≤ i → bits ≡ front ++ writes_all (take i all) → bits ≡ front ++ writes_all all
writes_end all i front bits l h = h ∙ ap (λ xs. front ++ writes_all xs) (take_all i all l)

arms_push : (front : List Arm) (x : Arm) → arms_bits (front ++ x ∷ []) ≡ arms_bits front ++ writes_all x.body
unfolding arms_bits
arms_push [] x = append-nil (writes_all x.body)
arms_push (y ∷ front) x = ap (λ b. writes_all y.body ++ b) (arms_push front x) ∙ sym (append_assoc (writes_all y.body) (arms_bits front) (writes_all x.body))

pub arms_bits_more : (all : List Arm) (i : ℕ) (x : Arm) (front bits new : List WireBit) → i < length all → x ≡ get_or all i x → bits ≡ front ++ arms_bits (take i all) → new ≡ bits ++ writes_all x.body → new ≡ front ++ arms_bits (take (i + 1) all)
arms_bits_more all i x front bits new l e h k =
    k ∙ ap (λ xs. xs ++ writes_all x.body) h ∙ append_assoc front (arms_bits (take i all)) (writes_all x.body) ∙ ap (λ xs. front ++ xs) (sym (ap arms_bits (taken_more all i x l e) ∙ arms_push (take i all) x))

pub arms_bits_begin : (all : List Arm) (front : List WireBit) → front ≡ front ++ arms_bits (take 0 all)
unfolding arms_bits
arms_bits_begin all front = sym (append-nil front)

pub arms_bits_end : (all : List Arm) (i : ℕ) (front bits : List WireBit) → length all ≤ i → bits ≡ front ++ arms_bits (take i all) → bits ≡ front ++ arms_bits all
arms_bits_end all i front bits l h = h ∙ ap (λ xs. front ++ arms_bits xs) (take_all i all l)

pub bits_assign : (x : Action) (to ts : List TypedTarget) (v : Typed) (old new : List WireBit) → x ≡ act.Assign to v → ts ≡ to → new ≡ old ++ present (slots_of ts) → new ≡ old ++ writes x
bits_assign x to ts v old new e d h = h ∙ ap (λ ys. old ++ present (slots_of ys)) d ∙ ap (λ ys. old ++ ys) (sym (writes_assign x to v e))

pub bits_choose : (x : Action) (c : Typed) (a b ta tb : List Action) (old mid new : List WireBit) → x ≡ act.Choose c a b → ta ≡ a → tb ≡ b → mid ≡ old ++ writes_all ta → new ≡ mid ++ writes_all tb → new ≡ old ++ writes x
bits_choose x c a b ta tb old mid new e da db h k =
    k ∙ ap (λ ys. ys ++ writes_all tb) h ∙ append_assoc old (writes_all ta) (writes_all tb)
    ∙ ap (λ ys. old ++ (writes_all ys ++ writes_all tb)) da ∙ ap (λ ys. old ++ (writes_all a ++ writes_all ys)) db ∙ ap (λ ys. old ++ ys) (sym (writes_choose x c a b e))

pub bits_match : (x : Action) (c : Case) (arms ta : List Arm) (other tb : List Action) (old mid new : List WireBit) → x ≡ act.Match c arms other → ta ≡ arms → tb ≡ other → mid ≡ old ++ arms_bits ta → new ≡ mid ++ writes_all tb → new ≡ old ++ writes x
bits_match x c arms ta other tb old mid new e da db h k =
    k ∙ ap (λ ys. ys ++ writes_all tb) h ∙ append_assoc old (arms_bits ta) (writes_all tb)
    ∙ ap (λ ys. old ++ (arms_bits ys ++ writes_all tb)) da ∙ ap (λ ys. old ++ (arms_bits arms ++ writes_all ys)) db ∙ ap (λ ys. old ++ ys) (sym (writes_match x c arms other e))

-- ---- the same wires

pub same_scene : (a b : Scene) → SameWires a b → IsScene a → IsScene b
same_scene a b s h = record {
  long = ap length s.widths ∙ h.long ∙ sym (ap length s.wires);
  back = λ n i e. subst (λ xs. (i < length xs) × (get_or xs i 0 ≡ n)) (sym s.wires) (h.back n i (sym (ap (λ xs. entry_at xs n) s.places) ∙ e));
  some = λ i l. subst (λ xs. 1 ≤ get_or xs i 0) (sym s.widths) (h.some i (subst (λ xs. i < length xs) s.widths l));
  most = λ i l. subst (λ xs. get_or xs i 0 ≤ 128) (sym s.widths) (h.most i (subst (λ xs. i < length xs) s.widths l));
}

pub same_marks : (a b : Scene) → SameWires a b → HasMarks a → HasMarks b
same_marks a b s h = s.long ∙ h ∙ ap (λ xs. length xs * 128) (sym s.wires)

pub same_place : (a b : Scene) (n w : ℕ) → SameWires a b → HasPlace a n w → HasPlace b n w
same_place a b n w s h = record {
  there = ap (λ xs. is_some (entry_at xs n)) s.places ∙ h.there;
  width = λ i e. ap (λ xs. get_or xs i 0) s.widths ∙ h.width i (sym (ap (λ xs. entry_at xs n) s.places) ∙ e);
}

pub same_bit_sits : (a b : Scene) (x : WireBit) → SameWires a b → BitSits a x → BitSits b x
same_bit_sits a b x s h = record {
  there = ap (λ xs. is_some (entry_at xs x.wire)) s.places ∙ h.there;
  near = λ i e. subst (λ n. x.at < n) (sym (ap (λ xs. get_or xs i 0) s.widths)) (h.near i (sym (ap (λ xs. entry_at xs x.wire) s.places) ∙ e));
}

-- the mark of a bit stands among the marks
pub mark_room : (scene : Scene) (b : WireBit) (at : ℕ) → IsScene scene → HasMarks scene → BitSits scene b → place_in scene b.wire ≡ Some at → (at * 128 + b.at < length scene.marks) × (b.at < 128)
mark_room scene b at sc marks h e =
    let l = (sc.back b.wire at e).0 in
    let near = h.near at e in
    let most = sc.most at (let g = sc.long in omega arith) in
    (omega arith, omega arith)

-- ---- one mark more

lt_true : (a b : ℕ) → a < b → nat_lt a b ≡ true
lt_true a b h = grind (arith, nat_tests, h)

lt_false : (a b : ℕ) → b ≤ a → nat_lt a b ≡ false
lt_false a b h = grind (arith, nat_tests, h)

eq_true : (a b : ℕ) → a ≡ b → eqb a b ≡ true
eq_true a b h = grind (arith, nat_tests, h)

eq_false : (a b : ℕ) → a ≢ b → eqb a b ≡ false
eq_false a b h = grind (arith, nat_tests, h)

and_right : (x y : Bool) → y ≡ false → (x && y) ≡ false
and_right true y e = e
and_right false y e = refl

mark_is : (marks : List Bool) (i k m : ℕ) → k < 128 → m ≡ i * 128 + k → mark_at marks i k ≡ get_or marks m false
mark_is marks i k m l e = ap (λ b. b && get_or marks (i * 128 + k) false) (lt_true k 128 l) ∙ ap (λ n. get_or marks n false) (sym e)

mark_far : (marks : List Bool) (i k : ℕ) → 128 ≤ k → mark_at marks i k ≡ false
mark_far marks i k l = ap (λ b. b && get_or marks (i * 128 + k) false) (lt_false k 128 l)

-- the mark of a bit is whether the block writes it
mark_tells : (scene : Scene) (b : WireBit) (m : ℕ) → IsMarkOf scene b m → is_written scene b.wire b.at ≡ get_or scene.marks m false
mark_tells scene b m h = written_at scene b.wire b.at h.place h.is ∙ mark_is scene.marks h.place b.at m h.near h.at

-- another bit keeps its mark
mark_other : (marks : List Bool) (p at m i k : ℕ) → m ≡ p * 128 + at → at < 128 → ((i ≢ p) ⊎ (k ≢ at)) → mark_at (set marks m true) i k ≡ mark_at marks i k
mark_other marks p at m i k e near other = elim (cases_lt k 128) [
  | inl lt ↦
      let apart : i * 128 + k ≢ m = (λ same. elim other [ inl ne ↦ ne (omega arith) | inr ne ↦ ne (omega arith) ]) in
      ap (λ b. nat_lt k 128 && b) (get_or-set_other marks m (i * 128 + k) true false apart)
  | inr le ↦ mark_far (set marks m true) i k le ∙ sym (mark_far marks i k le)
]

or_false : (x y : Bool) → x ≡ false → (x || y) ≡ y
or_false x y e = ap (λ b. b || y) e

or_true : (x y : Bool) → x ≡ true → (x || y) ≡ true
or_true x y e = ap (λ b. b || y) e

or_keeps : (x y : Bool) → (x ≡ true → y ≡ true) → (x || y) ≡ y
or_keeps true y h = sym (h refl)
or_keeps false y h = refl

same_apart : (b : WireBit) (n k : ℕ) → ((b.wire ≢ n) ⊎ (b.at ≢ k)) → same_bit b (bit n k) ≡ false
same_apart b n k (inl ne) = ap (λ x. x && eqb b.at k) (eq_false b.wire n ne)
same_apart b n k (inr ne) = and_right (eqb b.wire n) (eqb b.at k) (eq_false b.at k ne)

same_equal : (b : WireBit) (n k : ℕ) → b.wire ≡ n → b.at ≡ k → same_bit b (bit n k) ≡ true
same_equal b n k e d = ap (λ x. x && eqb b.at k) (eq_true b.wire n e) ∙ eq_true b.at k d

-- ---- a bit more

abbrev pub with_marks : Scene → List Bool → Scene
with_marks scene marks = record { places = scene.places; wires = scene.wires; widths = scene.widths; marks = marks; manner = scene.manner }

some_same : (a b : ℕ) → Some a ≡ Some b → a ≡ b
some_same a b e = cc

-- two wires at one place are one
one_place : (start scene : Scene) (n m i : ℕ) → IsScene start → SameWires start scene → place_in scene n ≡ Some i → place_in scene m ≡ Some i → n ≡ m
one_place start scene n m i sc same e d =
    sym (sc.back n i (sym (ap (λ xs. entry_at xs n) same.places) ∙ e)).1 ∙ (sc.back m i (sym (ap (λ xs. entry_at xs m) same.places) ∙ d)).1

is_apart : (scene : Scene) (n m i p : ℕ) → place_in scene n ≡ Some i → place_in scene m ≡ Some p → i ≢ p → m ≢ n
is_apart scene n m i p e d ne same = ne (some_same i p (sym e ∙ ap (place_in scene) (sym same) ∙ d))

-- the marks with one more
marked_new_at : (start scene : Scene) (all : List WireBit) (marks : List Bool) (b : WireBit) (m n k : ℕ) → IsScene start → SameWires start scene → ((n k : ℕ) → is_written scene n k ≡ has_bit (bit n k) all) → (h : IsMarkOf scene b m) → m < length scene.marks
    → marks ≡ set scene.marks m true → (o : Option ℕ) → place_in scene n ≡ o → is_written (with_marks scene marks) n k ≡ has_bit (bit n k) (b ∷ all)
unfolding has_bit
marked_new_at start scene all marks b m n k sc same tells h l e None d =
    let apart : b.wire ≢ n = (λ q. let g : Some h.place ≡ None = sym h.is ∙ ap (place_in scene) q ∙ d in cc) in
    written_none (with_marks scene marks) n k d ∙ sym (or_false (same_bit b (bit n k)) (has_bit (bit n k) all) (same_apart b n k (inl apart)) ∙ sym (tells n k) ∙ written_none scene n k d)
marked_new_at start scene all marks b m n k sc same tells h l e (Some i) d =
    written_at (with_marks scene marks) n k i d ∙ ap (λ ms. mark_at ms i k) e ∙ by_place (cases_eq i h.place) (cases_eq k b.at)
  where
    kept : ((i ≢ h.place) ⊎ (k ≢ b.at)) → ((b.wire ≢ n) ⊎ (b.at ≢ k)) → mark_at (set scene.marks m true) i k ≡ (same_bit b (bit n k) || has_bit (bit n k) all)
    kept other apart =
        mark_other scene.marks h.place b.at m i k h.at h.near other
        ∙ sym (or_false (same_bit b (bit n k)) (has_bit (bit n k) all) (same_apart b n k apart) ∙ sym (tells n k) ∙ written_at scene n k i d)

    by_place : ((i ≡ h.place) ⊎ (i ≢ h.place)) → ((k ≡ b.at) ⊎ (k ≢ b.at)) → mark_at (set scene.marks m true) i k ≡ (same_bit b (bit n k) || has_bit (bit n k) all)
    by_place (inl ei) (inl ek) =
        let near : k < 128 = (let g = h.near in omega arith) in
        let here : m ≡ i * 128 + k = (let g = h.at in omega arith) in
        let wire : b.wire ≡ n = one_place start scene b.wire n i sc same (h.is ∙ ap Some (sym ei)) d in
        mark_is (set scene.marks m true) i k m near here ∙ get_or-set_same scene.marks m true false l
        ∙ sym (or_true (same_bit b (bit n k)) (has_bit (bit n k) all) (same_equal b n k wire (sym ek)))
    by_place (inr ne) q = kept (inl ne) (inl (is_apart scene n b.wire i h.place d h.is ne))
    by_place (inl ei) (inr ne) = kept (inr ne) (inr (λ q. ne (sym q)))

unmarked : (scene : Scene) (all : List WireBit) (b : WireBit) (m : ℕ) (v : Bool) → ((n k : ℕ) → is_written scene n k ≡ has_bit (bit n k) all) → IsMarkOf scene b m → get_or scene.marks m false ≡ v → has_bit b all ≡ v
unmarked scene all b m v tells h e = sym (tells b.wire b.at) ∙ mark_tells scene b m h ∙ e

pub so_far_new : (start scene : Scene) (all bits more : List WireBit) (marks : List Bool) (b : WireBit) (m : ℕ) → IsScene start → IsSoFar start scene all bits → IsMarkOf scene b m → m < length scene.marks → get_or scene.marks m false ≡ false
    → marks ≡ set scene.marks m true → more ≡ bits ++ b ∷ [] → IsSoFar start (with_marks scene marks) (b ∷ all) more
unfolding distinct
so_far_new start scene all bits more marks b m sc s h l off e d = record {
  same = record { places = s.same.places; wires = s.same.wires; widths = s.same.widths; manner = s.same.manner; long = ap length e ∙ length-set scene.marks m true ∙ s.same.long };
  marked = λ n k. marked_new_at start scene all marks b m n k sc s.same s.marked h l e (place_in scene n) refl;
  bits_are =
      ap reverse d ∙ reverse-append bits (b ∷ []) ∙ ap (λ xs. b ∷ xs) s.bits_are
      ∙ sym (ap (λ x. cond x (distinct all) (b ∷ distinct all)) (unmarked scene all b m false s.marked h off));
}

eq_from : (a c : ℕ) → eqb a c ≡ true → a ≡ c
eq_from a c t = grind (arith, nat_tests, t)

bit_is : (x : WireBit) (n k : ℕ) → same_bit x (bit n k) ≡ true → x ≡ bit n k
bit_is x n k t = λ i. record { wire = eq_from x.wire n (left_of _ _ t) i; at = eq_from x.at k (right_of _ _ t) i }

pub so_far_same : (start scene : Scene) (all bits : List WireBit) (b : WireBit) (m : ℕ) → IsSoFar start scene all bits → IsMarkOf scene b m → get_or scene.marks m false ≡ true → IsSoFar start scene (b ∷ all) bits
unfolding distinct has_bit
so_far_same start scene all bits b m s h on = record {
  same = s.same;
  marked = λ n k. s.marked n k ∙ sym (or_keeps (same_bit b (bit n k)) (has_bit (bit n k) all) (λ t. ap (λ x. has_bit x all) (sym (bit_is b n k t)) ∙ unmarked scene all b m true s.marked h on));
  bits_are = s.bits_are ∙ sym (ap (λ x. cond x (distinct all) (b ∷ distinct all)) (unmarked scene all b m true s.marked h on));
}

pub so_far_none : (start : Scene) (all : List WireBit) (at : ℕ) → ((n k : ℕ) → is_written start n k ≡ false) → at ≡ length all → IsSoFar start start (drop at all) []
unfolding distinct has_bit
so_far_none start all at clear e =
    let P : List WireBit → Type 0 = λ xs. IsSoFar start start xs [] in
    subst P (sym (drop_all at all (omega arith))) (record {
      same = record { places = refl; wires = refl; widths = refl; manner = refl; long = refl };
      marked = clear;
      bits_are = refl;
    })

pub so_far_step : (start scene : Scene) (all bits : List WireBit) (i : ℕ) (b : WireBit) → i < length all → b ≡ get_or all i b → IsSoFar start scene (b ∷ drop (i + 1) all) bits → IsSoFar start scene (drop i all) bits
so_far_step start scene all bits i b l e h =
    let P : List WireBit → Type 0 = λ xs. IsSoFar start scene xs bits in
    subst P (sym (drop_more all i b l ∙ ap (λ x. x ∷ drop (i + 1) all) (sym e))) h

pub so_far_at : (start scene : Scene) (all bits : List WireBit) (i j : ℕ) → j ≡ i → IsSoFar start scene (drop j all) bits → IsSoFar start scene (drop i all) bits
so_far_at start scene all bits i j e h = let P : ℕ → Type 0 = λ n. IsSoFar start scene (drop n all) bits in subst P e h

pub marked_all : (start scene : Scene) (all bits new : List WireBit) (at : ℕ) → at ≡ 0 → new ≡ reverse bits → IsSoFar start scene (drop at all) bits → IsMarked start all (record { scene = scene; bits = new })
marked_all start scene all bits new at e d h =
    let P : ℕ → Type 0 = λ n. IsSoFar start scene (drop n all) bits in
    let k : IsSoFar start scene all bits = subst P e h in
    record { same = k.same; marked = k.marked; bits_are = d ∙ k.bits_are }
