-- Nodes over those of a store: place by place, as nodes are put there, and by a walk over the places.
use Rattle.std.proofs.Common.{◌≡◌, ◌≢◌, ℕ, zero, suc, ◌+◌, ◌<◌, ◌≤◌, true, false, cond, List, [], ◌∷◌, ◌++◌, length, set, get_or, Option, Some, None, is_some, refl, sym, ap, ◌∙◌, ◌⊎◌, inl, inr, subst, arith, length-set, get_or-set_same, get_or-set_other}
use Rattle.std.specs.List.{Contains}
use Rattle.std.specs.Map.{lookup, keys_of}
use Rattle.std.specs.Ordering.{nat_cmp, is_eq}
use Rattle.std.specs.BTreeMap.{is_at}
use Rattle.std.proofs.lemmas.List.{get_or_read, get_or_default}
use Rattle.std.proofs.lemmas.List.Elements.{Contains-append_left, Contains-append_right}
use Rattle.std.proofs.lemmas.Bool.{cases_eq}
use Rattle.svex_arena.specs.Substs.{entry_at, given_or}
use Rattle.wire_places.specs.Laying.{laid}
use Rattle.wire_places.proofs.Laying.{laid_at}
use Rattle.sv_blocks.specs.Overlays.{node_over, over, Covers, PutsOver}

-- ---- the keys of a map

other_key : (q n : ℕ) → q ≢ n → is_eq (nat_cmp q n) ≡ false
other_key q n h = grind (arith)

found_key : (es : List (ℕ × ℕ)) (i : ℕ) → is_some (lookup (is_at (nat_cmp i)) es) ≡ true → Contains (keys_of es) i
found_key [] i h = cc
found_key (e ∷ es) i h = by_case (found_key es i) (cases_eq i e.0)
  where
    by_case : (is_some (lookup (is_at (nat_cmp i)) es) ≡ true → Contains (keys_of es) i) → ((i ≡ e.0) ⊎ (i ≢ e.0)) → Contains (e.0 ∷ keys_of es) i
    by_case more (inl s) = (0, omega arith, sym s)
    by_case more (inr a) =
        let k = more (ap (λ b. is_some (cond b (Some e.1) (lookup (is_at (nat_cmp i)) es))) (sym (other_key i e.0 a)) ∙ h) in
        (suc k.0, (let l = k.1 in omega arith), k.2)

pub covers_keys : (es : List (ℕ × ℕ)) (puts : List (Option ℕ)) → laid es ≡ puts → Covers (keys_of es) puts
covers_keys es puts e i h = found_key es i (ap is_some (sym (laid_at es i)) ∙ ap (λ xs. is_some (get_or xs i None)) e ∙ h)

pub covers_left : (a b : List ℕ) (puts : List (Option ℕ)) → Covers a puts → Covers (a ++ b) puts
covers_left a b puts h i l = Contains-append_left a b i (h i l)

pub covers_right : (a b : List ℕ) (puts : List (Option ℕ)) → Covers b puts → Covers (a ++ b) puts
covers_right a b puts h i l = Contains-append_right a b i (h i l)

-- ---- place by place

pub over_long : (puts : List (Option ℕ)) (nodes : List ℕ) → length (over puts nodes) ≡ length nodes
unfolding over
over_long [] nodes = refl
over_long (p ∷ puts) [] = refl
over_long (p ∷ puts) (x ∷ nodes) = ap suc (over_long puts nodes)

pub over_at : (puts : List (Option ℕ)) (nodes : List ℕ) (i : ℕ) → i < length nodes → get_or (over puts nodes) i 0 ≡ node_over puts i (get_or nodes i 0)
unfolding over
over_at [] nodes i l = refl
over_at (p ∷ puts) [] i l = absurd (omega arith)
over_at (p ∷ puts) (x ∷ nodes) zero l = refl
over_at (p ∷ puts) (x ∷ nodes) (suc i) l = over_at puts nodes i (omega arith)

pub over_none : (puts : List (Option ℕ)) (nodes : List ℕ) → puts ≡ [] → over puts nodes ≡ nodes
unfolding over
over_none puts nodes e = ap (λ p. over p nodes) e

pub same_nodes : (xs ys : List ℕ) → length xs ≡ length ys → ((i : ℕ) → i < length xs → get_or xs i 0 ≡ get_or ys i 0) → xs ≡ ys
same_nodes [] [] e h = refl
same_nodes [] (y ∷ ys) e h = absurd (omega arith)
same_nodes (x ∷ xs) [] e h = absurd (omega arith)
same_nodes (x ∷ xs) (y ∷ ys) e h = ap (λ z. z ∷ xs) (h 0 (omega arith)) ∙ ap (λ zs. y ∷ zs) (same_nodes xs ys (omega arith) (λ i l. h (suc i) (omega arith)))

over_same : (p q : List (Option ℕ)) (xs ys : List ℕ) → length xs ≡ length ys → ((i : ℕ) → i < length xs → node_over p i (get_or xs i 0) ≡ node_over q i (get_or ys i 0)) → over p xs ≡ over q ys
over_same p q xs ys e h =
    same_nodes (over p xs) (over q ys) (over_long p xs ∙ e ∙ sym (over_long q ys))
    (λ i l.
    let m : i < length xs = omega (arith, over_long p xs) in
    over_at p xs i m ∙ h i m ∙ sym (over_at q ys i (omega arith)))

-- ---- a node is put

-- where what stood there is kept, what lies over the store is as before
pub over_kept : (p q : List (Option ℕ)) (xs ys : List ℕ) (at x y : ℕ) → at < length xs → x ≡ get_or xs at x → ys ≡ set xs at y → entry_at q at ≡ Some (node_over p at x) → ((i : ℕ) → i ≢ at → entry_at q i ≡ entry_at p i) → over q ys ≡ over p xs
over_kept p q xs ys at x y l is put here others = over_same q p ys xs (ap length put ∙ length-set xs at y) (λ i m. by_place i (cases_eq i at))
  where
    by_place : (i : ℕ) → ((i ≡ at) ⊎ (i ≢ at)) → node_over q i (get_or ys i 0) ≡ node_over p i (get_or xs i 0)
    by_place i (inl s) =
        let P : ℕ → Type 0 = λ j. node_over q j (get_or ys j 0) ≡ node_over p j (get_or xs j 0) in
        subst P (sym s) (ap (given_or (λ n. n) (get_or ys at 0)) here ∙ ap (node_over p at) (get_or_read xs at x l is 0))
    by_place i (inr n) =
        ap (given_or (λ n. n) (get_or ys i 0)) (others i n) ∙ ap (λ zs. node_over p i (get_or zs i 0)) put ∙ ap (node_over p i) (get_or-set_other xs at i y 0 n)

given_none : (o : Option ℕ) (x : ℕ) → o ≡ None → x ≡ given_or (λ n. n) x o
given_none o x e = sym (ap (given_or (λ n. n) x) e)

given_twice : (o : Option ℕ) (x : ℕ) → given_or (λ n. n) (given_or (λ n. n) x o) o ≡ given_or (λ n. n) x o
given_twice None x = refl
given_twice (Some y) x = refl

pub put_none : (puts : List (Option ℕ)) (at : ℕ) (nodes : List ℕ) → None ≡ entry_at puts at → PutsOver puts at nodes nodes
put_none puts at nodes e = record { long = refl; here = λ l. given_none (entry_at puts at) (get_or nodes at 0) (sym e); others = λ i n. refl }

pub put_past : (puts : List (Option ℕ)) (at : ℕ) (nodes : List ℕ) → length nodes ≤ at → PutsOver puts at nodes nodes
put_past puts at nodes m = record { long = refl; here = λ l. absurd (omega arith); others = λ i n. refl }

pub put_some : (puts : List (Option ℕ)) (at x : ℕ) (before after : List ℕ) → at < length before → Some x ≡ entry_at puts at → after ≡ set before at x → PutsOver puts at before after
put_some puts at x before after l e is = record {
  long = ap length is ∙ length-set before at x;
  here = λ m. ap (λ xs. get_or xs at 0) is ∙ get_or-set_same before at x 0 l ∙ ap (given_or (λ n. n) (get_or before at 0)) e;
  others = λ i n. ap (λ xs. get_or xs i 0) is ∙ get_or-set_other before at i x 0 n;
}

pub put_same : (puts : List (Option ℕ)) (at : ℕ) (before after : List ℕ) → PutsOver puts at before after → over puts after ≡ over puts before
put_same puts at before after h = over_same puts puts after before h.long (λ i l. by_place i (let e = h.long in omega arith) (cases_eq i at))
  where
    by_place : (i : ℕ) → i < length before → ((i ≡ at) ⊎ (i ≢ at)) → node_over puts i (get_or after i 0) ≡ node_over puts i (get_or before i 0)
    by_place i l (inl s) =
        let P : ℕ → Type 0 = λ j. node_over puts j (get_or after j 0) ≡ node_over puts j (get_or before j 0) in
        let m : at < length before = omega arith in
        subst P (sym s) (ap (node_over puts at) (h.here m) ∙ given_twice (entry_at puts at) (get_or before at 0))
    by_place i l (inr n) = ap (node_over puts i) (h.others i n)

-- ---- a walk over places

-- a place is still to come
pub record Waits (places : List ℕ) (k i : ℕ) : Type 0 where
  pub at : ℕ
  pub from : k ≤ at
  pub within : at < length places
  pub is : get_or places at i ≡ i

-- at each place there is what is wanted, or it is still to come
abbrev pub Walked : (ℕ → Type 0) → List ℕ → ℕ → ℕ → Type 0
Walked Good places k count = (i : ℕ) → i < count → Good i ⊎ Waits places k i

waits_all : (places : List ℕ) (i : ℕ) → Contains places i → Waits places 0 i
waits_all places i c = record { at = c.0; from = omega arith; within = c.1; is = c.2 }

pub walked_more : (G H : ℕ → Type 0) (places : List ℕ) (k count x : ℕ) → k < length places → get_or places k 0 ≡ x → ((i : ℕ) → i < count → i ≢ x → G i → H i) → (x < count → H x) → Walked G places k count → Walked H places (k + 1) count
walked_more G H places k count x lk is keep here h i l = by_place (cases_eq i x)
  where
    not_now : i ≢ x → (at : ℕ) → get_or places at i ≡ i → at ≢ k
    not_now n at e s =
        let y : get_or places k i ≡ i = ap (λ j. get_or places j i) (sym s) ∙ e in
        n (sym y ∙ get_or_default places k i 0 lk ∙ is)

    behind : i ≢ x → Waits places k i → Waits places (k + 1) i
    behind n w = record { at = w.at; from = (let a = w.from in let b = not_now n w.at w.is in omega arith); within = w.within; is = w.is }

    by_place : ((i ≡ x) ⊎ (i ≢ x)) → H i ⊎ Waits places (k + 1) i
    by_place (inl s) = inl (subst H (sym s) (here (omega arith)))
    by_place (inr n) = elim (h i l) [ inl g ↦ inl (keep i l n g) | inr w ↦ inr (behind n w) ]

pub walked_all : (G : ℕ → Type 0) (places : List ℕ) (k count : ℕ) → length places ≤ k → Walked G places k count → (i : ℕ) → i < count → G i
walked_all G places k count e h i l = elim (h i l) [ inl g ↦ g | inr w ↦ absurd (let a = w.from in let b = w.within in omega arith) ]

-- where no node lies over a place, or else the place is among those of the walk
covered : (puts : List (Option ℕ)) (places : List ℕ) (i : ℕ) → Covers places puts → (o : Option ℕ) → entry_at puts i ≡ o → (entry_at puts i ≡ None) ⊎ Waits places 0 i
covered puts places i c None e = inl e
covered puts places i c (Some x) e = inr (waits_all places i (c i (ap is_some e)))

pub uncovered : (puts : List (Option ℕ)) (places : List ℕ) (i : ℕ) → Covers places puts → (entry_at puts i ≡ None) ⊎ Waits places 0 i
uncovered puts places i c = covered puts places i c (entry_at puts i) refl

-- ---- all nodes are put

-- the nodes over the first places stand there
abbrev pub PutSome : List (Option ℕ) → List ℕ → List ℕ → List ℕ → ℕ → Type 0
PutSome puts places start nodes k = Walked (λ i. get_or nodes i 0 ≡ get_or (over puts start) i 0) places k (length start)

pub all_none : (puts : List (Option ℕ)) (places start : List ℕ) → Covers places puts → PutSome puts places start start 0
all_none puts places start c i l = elim (uncovered puts places i c) [
  | inl e ↦ inl (given_none (entry_at puts i) (get_or start i 0) e ∙ sym (over_at puts start i l))
  | inr w ↦ inr w
]

pub all_more : (puts : List (Option ℕ)) (places start mid after : List ℕ) (k x : ℕ) → k < length places → get_or places k 0 ≡ x → over puts mid ≡ over puts start → PutsOver puts x mid after → PutSome puts places start mid k → PutSome puts places start after (k + 1)
all_more puts places start mid after k x l is same put h =
    walked_more (λ i. get_or mid i 0 ≡ get_or (over puts start) i 0) (λ i. get_or after i 0 ≡ get_or (over puts start) i 0) places k (length start) x l is
    (λ i m n g. put.others i n ∙ g)
    (λ m. let d : x < length mid = omega (arith, over_long puts mid, over_long puts start, ap length same) in put.here d ∙ sym (over_at puts mid x d) ∙ ap (λ xs. get_or xs x 0) same) h

pub all_end : (puts : List (Option ℕ)) (places start nodes : List ℕ) (k : ℕ) → length places ≤ k → over puts nodes ≡ over puts start → PutSome puts places start nodes k → nodes ≡ over puts start
all_end puts places start nodes k e same h =
    let long : length nodes ≡ length start = omega (arith, over_long puts nodes, over_long puts start, ap length same) in
    same_nodes nodes (over puts start) (long ∙ sym (over_long puts start)) (λ i l. walked_all (λ j. get_or nodes j 0 ≡ get_or (over puts start) j 0) places k (length start) e h i (omega arith))
