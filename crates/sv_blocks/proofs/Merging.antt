-- One of two stores, by a truth.
use Rattle.std.proofs.Common.{◌≡◌, ℕ, zero, suc, ◌+◌, ◌<◌, ◌≤◌, List, [], ◌∷◌, ◌++◌, length, get_or, Option, Some, None, refl, sym, ap, ◌∙◌, ◌⊎◌, inl, inr, subst, arith}
use Rattle.std.proofs.lemmas.List.{get_or_append_left, get_or_push, length_push}
use Rattle.std.proofs.lemmas.Bool.{cases_lt}
use Rattle.fourvec.specs.declared.Bit.{Bit}
use Rattle.fourvec.specs.declared.Bit.TheVariants.{Zero, One, Unknown, Floating}
use Rattle.fourvec.specs.Bits.{keep_bit, each_pair, first, choose, pick_of}
use Rattle.fourvec.proofs.Order.{both}
use Rattle.svex_shape.specs.declared.shape.VarName.{VarName}
use Rattle.svex_shape.specs.declared.shape.Shape.{Shape}
use Rattle.svex_shape.specs.declared.shape.Shape.TheVariants.{Pick}
use Rattle.svex_shape.specs.Shapes.{width_at, width_of}
use Rattle.svex_shape.specs.Values.{value_of, each_variable_of}
use Rattle.svex_arena.specs.Arenas.{IsArena, Extends}
use Rattle.svex_arena.proofs.Steps.{value-extends, width-extends, variables-extends}
use Rattle.driver_resolve.specs.Drivers.{bitwise}
use Rattle.settling.specs.Settling.{Store}
use Rattle.sv_meaning.specs.Deeds.{merged}
use Rattle.sv_lower.specs.Nodes.{bits_at_node, IsMade, FromThree}
use Rattle.sv_lower.proofs.Sizing.{length-node}
use Rattle.sv_stores.specs.declared.scene.Scene.{Scene}
use Rattle.sv_stores.specs.Scenes.{place_in, base, store_of, AreNodes, IsScene, Shows}
use Rattle.sv_blocks.specs.Sides.{Merges}
use Rattle.sv_stores.proofs.Stores.{store_at, store_none, inside, shows_kept, nodes_kept, store_kept, holds_kept}

-- ---- choices between bits

pub keep_same : (x : Bit) → keep_bit x x ≡ x
keep_same Zero = refl
keep_same One = refl
keep_same Unknown = refl
keep_same Floating = refl

pair_same : (v : List Bit) → each_pair keep_bit v v ≡ v
unfolding each_pair
pair_same [] = refl
pair_same (x ∷ v) = ap (λ y. y ∷ each_pair keep_bit v v) (keep_same x) ∙ ap (λ y. x ∷ y) (pair_same v)

choose_same : (t : Bit) (v : List Bit) → choose keep_bit t v v ≡ v
choose_same One v = refl
choose_same Zero v = refl
choose_same Unknown v = pair_same v
choose_same Floating v = pair_same v

pick_same : (c v : List Bit) → pick_of c v v ≡ v
unfolding pick_of
pick_same c v = choose_same (first c) v

pair_get : (a b : List Bit) (k : ℕ) (d : Bit) → length a ≡ length b → get_or (each_pair keep_bit a b) k d ≡ keep_bit (get_or a k d) (get_or b k d)
unfolding each_pair
pair_get [] [] k d e = sym (keep_same d)
pair_get [] (y ∷ b) k d e = absurd (omega arith)
pair_get (x ∷ a) [] k d e = absurd (omega arith)
pair_get (x ∷ a) (y ∷ b) zero d e = refl
pair_get (x ∷ a) (y ∷ b) (suc k) d e = pair_get a b k d (omega arith)

choose_get : (t : Bit) (a b : List Bit) (k : ℕ) (d : Bit) (A B : Store) (n : ℕ) → length a ≡ length b → A n k ≡ get_or a k d → B n k ≡ get_or b k d → get_or (choose keep_bit t a b) k d ≡ merged t A B n k
choose_get One a b k d A B n e f g = sym f
choose_get Zero a b k d A B n e f g = sym g
choose_get Unknown a b k d A B n e f g = pair_get a b k d e ∙ ap (λ x. keep_bit x (get_or b k d)) (sym f) ∙ ap (λ y. keep_bit (A n k) y) (sym g)
choose_get Floating a b k d A B n e f g = pair_get a b k d e ∙ ap (λ x. keep_bit x (get_or b k d)) (sym f) ∙ ap (λ y. keep_bit (A n k) y) (sym g)

merged_same : (t : Bit) (A B : Store) (n k : ℕ) (d : Bit) → A n k ≡ d → B n k ≡ d → d ≡ merged t A B n k
merged_same One A B n k d f g = sym f
merged_same Zero A B n k d f g = sym g
merged_same Unknown A B n k d f g = sym (keep_same d) ∙ ap (λ x. keep_bit x d) (sym f) ∙ ap (λ y. keep_bit (A n k) y) (sym g)
merged_same Floating A B n k d f g = sym (keep_same d) ∙ ap (λ x. keep_bit x d) (sym f) ∙ ap (λ y. keep_bit (A n k) y) (sym g)

pick_get : (c a b : List Bit) (k : ℕ) (d : Bit) (A B : Store) (n : ℕ) → length a ≡ length b → A n k ≡ get_or a k d → B n k ≡ get_or b k d → get_or (pick_of c a b) k d ≡ merged (first c) A B n k
unfolding pick_of
pick_get c a b k d A B n e f g = choose_get (first c) a b k d A B n e f g

-- ---- one node

pub chosen_same : (old : List Shape) (truth a b : ℕ) → a < length old → a ≡ b → FromThree old old (λ c x y. pick_of c x y) truth a b (width_at old a) a
chosen_same old truth a b l e = record {
  within = l;
  width = refl;
  value = λ bits. sym (ap (λ x. pick_of (bits_at_node bits old truth) (bits_at_node bits old a) (bits_at_node bits old x)) (sym e) ∙ pick_same (bits_at_node bits old truth) (bits_at_node bits old a));
  mentions = λ p t x y. x;
}

pub chosen_pick : (old new : List Shape) (truth a b n : ℕ) → IsMade old (Pick truth a b) new n → FromThree old new (λ c x y. pick_of c x y) truth a b (width_at old a) n
unfolding width_of value_of each_variable_of
chosen_pick old new truth a b n h = record {
  within = h.within;
  width = h.width;
  value = λ bits. h.value (bitwise bits);
  mentions = λ p t x y. h.variables p ∙ both _ _ t (both _ _ x y);
}

-- ---- nodes, one after another

-- so many nodes are chosen
pub record Chooses (old new : List Shape) (truth : ℕ) (a b nodes : List ℕ) (count : ℕ) : Type 0 where
  pub long : length nodes ≡ count
  pub at : (i : ℕ) → i < count → FromThree old new (λ c x y. pick_of c x y) truth (get_or a i 0) (get_or b i 0) (width_at old (get_or a i 0)) (get_or nodes i 0)

pub chooses_none : (old new : List Shape) (truth : ℕ) (a b : List ℕ) → Chooses old new truth a b [] 0
chooses_none old new truth a b = record { long = refl; at = λ i l. absurd (omega arith) }

pub three_later : (old mid new : List Shape) (f : List Bit → List Bit → List Bit → List Bit) (c a b w n : ℕ) → Extends mid new → FromThree old mid f c a b w n → FromThree old new f c a b w n
three_later old mid new f c a b w n e h = record {
  within = let g = h.within in let k = e.longer in omega arith;
  width = width-extends mid new n e h.within ∙ h.width;
  value = λ bits. value-extends (bitwise bits) mid new n e h.within ∙ h.value bits;
  mentions = λ p t x y. variables-extends p mid new n e h.within ∙ h.mentions p t x y;
}

pub three_earlier : (old mid new : List Shape) (f : List Bit → List Bit → List Bit → List Bit) (c a b w n : ℕ) → Extends old mid → c < length old → a < length old → b < length old → FromThree mid new f c a b w n → FromThree old new f c a b w n
three_earlier old mid new f c a b w n e lc la lb h = record {
  within = h.within;
  width = h.width;
  value = λ bits.
      h.value bits ∙ ap (λ v. f v (bits_at_node bits mid a) (bits_at_node bits mid b)) (value-extends (bitwise bits) old mid c e lc)
      ∙ ap (λ v. f (bits_at_node bits old c) v (bits_at_node bits mid b)) (value-extends (bitwise bits) old mid a e la)
      ∙ ap (λ v. f (bits_at_node bits old c) (bits_at_node bits old a) v) (value-extends (bitwise bits) old mid b e lb);
  mentions = λ p t x y. h.mentions p (variables-extends p old mid c e lc ∙ t) (variables-extends p old mid a e la ∙ x) (variables-extends p old mid b e lb ∙ y);
}

push_below : (nodes : List ℕ) (x i : ℕ) → i < length nodes → get_or (nodes ++ x ∷ []) i 0 ≡ get_or nodes i 0
push_below nodes x i l = get_or_append_left nodes (x ∷ []) 0 i l

pub chooses_more : (scene : Scene) (old mid new : List Shape) (truth : ℕ) (a b nodes : List ℕ) (count x y n : ℕ) → AreNodes scene old a → AreNodes scene old b → truth < length old → count < length a → x ≡ get_or a count 0 → y ≡ get_or b count 0 → Extends old mid → Extends mid new
    → Chooses old mid truth a b nodes count → FromThree mid new (λ c x y. pick_of c x y) truth x y (width_at mid x) n → Chooses old new truth a b (nodes ++ n ∷ []) (count + 1)
chooses_more scene old mid new truth a b nodes count x y n ra rb t l ex ey e f h k = record {
  long = length_push nodes n ∙ ap (λ m. m + 1) h.long;
  at = λ i m. by_place i m (cases_lt i count);
}
  where
    Goal : ℕ → ℕ → Type 0
    Goal i node = FromThree old new (λ c x y. pick_of c x y) truth (get_or a i 0) (get_or b i 0) (width_at old (get_or a i 0)) node

    la : get_or a count 0 < length old
    la = ra.within count l

    lb : get_or b count 0 < length old
    lb = rb.within count (let g = ra.long in let d = rb.long in omega arith)

    at_count : FromThree old new (λ c x y. pick_of c x y) truth (get_or a count 0) (get_or b count 0) (width_at old (get_or a count 0)) n
    at_count =
        let P : ℕ → Type 0 = λ z. FromThree mid new (λ c x y. pick_of c x y) truth z y (width_at mid z) n in
        let Q : ℕ → Type 0 = λ z. FromThree mid new (λ c x y. pick_of c x y) truth (get_or a count 0) z (width_at mid (get_or a count 0)) n in
        let R : ℕ → Type 0 = λ w. FromThree mid new (λ c x y. pick_of c x y) truth (get_or a count 0) (get_or b count 0) w n in
        three_earlier old mid new (λ c x y. pick_of c x y) truth (get_or a count 0) (get_or b count 0) _ n e t la lb (subst R (width-extends old mid (get_or a count 0) e la) (subst Q ey (subst P ex k)))

    by_place : (i : ℕ) → i < count + 1 → ((i < count) ⊎ (count ≤ i)) → Goal i (get_or (nodes ++ n ∷ []) i 0)
    by_place i m (inl lt) =
        subst (Goal i) (sym (push_below nodes n i (let g = h.long in omega arith))) (three_later old mid new (λ c x y. pick_of c x y) truth _ _ _ _ f (h.at i lt))
    by_place i m (inr le) =
        let same : i ≡ count = omega arith in
        let Q : ℕ → Type 0 = λ j. Goal j (get_or (nodes ++ n ∷ []) j 0) in
        subst Q (sym same) (subst (Goal count) (sym (get_or_push nodes n 0 count h.long)) at_count)

-- ---- stores

choose_bit : (scene : Scene) (old new : List Shape) (truth : ℕ) (a b nodes : List ℕ) (bits : VarName → ℕ → Bit) (n k : ℕ) → IsScene scene → IsArena old → AreNodes scene old a → AreNodes scene old b → Chooses old new truth a b nodes (length a) → (o : Option ℕ) → place_in scene n ≡ o
    → store_of scene new bits nodes n k ≡ merged (first (bits_at_node bits old truth)) (store_of scene old bits a) (store_of scene old bits b) n k
choose_bit scene old new truth a b nodes bits n k sc ar ra rb h None e =
    store_none scene new bits nodes n k e
    ∙ merged_same (first (bits_at_node bits old truth)) (store_of scene old bits a) (store_of scene old bits b) n k (base scene.manner bits n k) (store_none scene old bits a n k e) (store_none scene old bits b n k e)
choose_bit scene old new truth a b nodes bits n k sc ar ra rb h (Some i) e =
    let la = inside scene old a n i sc ra e in
    let lb = inside scene old b n i sc rb e in
    let same : length (bits_at_node bits old (get_or a i 0)) ≡ length (bits_at_node bits old (get_or b i 0)) =
    length-node bits old (get_or a i 0) ar (ra.within i la) ∙ ra.width i la ∙ sym (length-node bits old (get_or b i 0) ar (rb.within i lb) ∙ rb.width i lb) in
    store_at scene new bits nodes n k i e
    ∙ ap (λ v. get_or v k (base scene.manner bits n k)) ((h.at i la).value bits)
    ∙ pick_get (bits_at_node bits old truth) (bits_at_node bits old (get_or a i 0)) (bits_at_node bits old (get_or b i 0)) k (base scene.manner bits n k) (store_of scene old bits a) (store_of scene old bits b) n same
    (store_at scene old bits a n k i e) (store_at scene old bits b n k i e)

choose_store : (scene : Scene) (old new : List Shape) (truth : ℕ) (a b nodes : List ℕ) (bits : VarName → ℕ → Bit) → IsScene scene → IsArena old → AreNodes scene old a → AreNodes scene old b → Chooses old new truth a b nodes (length a)
    → store_of scene new bits nodes ≡ merged (first (bits_at_node bits old truth)) (store_of scene old bits a) (store_of scene old bits b)
choose_store scene old new truth a b nodes bits sc ar ra rb h = λ x n k. choose_bit scene old new truth a b nodes bits n k sc ar ra rb h (place_in scene n) refl x

pub merges_all : (scene : Scene) (old new : List Shape) (truth : ℕ) (a b nodes : List ℕ) (count : ℕ) → IsScene scene → IsArena old → AreNodes scene old a → AreNodes scene old b → count ≡ length a → Chooses old new truth a b nodes count → Merges scene old new truth a b nodes
merges_all scene old new truth a b nodes count sc ar ra rb c g =
    let h : Chooses old new truth a b nodes (length a) = subst (λ m. Chooses old new truth a b nodes m) c g in
    record {
      nodes_are = record {
        long = h.long ∙ ra.long;
        within = λ i l. (h.at i (let m = h.long in omega arith)).within;
        width = λ i l. let k : i < length a = (let m = h.long in omega arith) in (h.at i k).width ∙ ra.width i k;
      };
      value = λ bits. choose_store scene old new truth a b nodes bits sc ar ra rb h;
      mentions = λ p t x y i l. let k : i < length a = (let m = h.long in omega arith) in (h.at i k).mentions p t (x i k) (y i (let d = ra.long in let f = rb.long in omega arith));
    }

-- ---- what names see, one after another

pub record ShowsSome (scene : Scene) (shapes : List Shape) (nodes seen : List ℕ) (count : ℕ) : Type 0 where
  pub long : length seen ≡ count
  pub at : (i : ℕ) → i < count → Shows scene shapes i (get_or nodes i 0) (get_or seen i 0)

pub shows_none : (scene : Scene) (shapes : List Shape) (nodes : List ℕ) → ShowsSome scene shapes nodes [] 0
shows_none scene shapes nodes = record { long = refl; at = λ i l. absurd (omega arith) }

pub shows_more : (scene : Scene) (old mid new : List Shape) (nodes seen : List ℕ) (count node n : ℕ) → AreNodes scene old nodes → count < length nodes → node ≡ get_or nodes count 0 → Extends old mid → Extends mid new
    → ShowsSome scene mid nodes seen count → Shows scene new count node n → ShowsSome scene new nodes (seen ++ n ∷ []) (count + 1)
shows_more scene old mid new nodes seen count node n are l is e f h k = record {
  long = length_push seen n ∙ ap (λ m. m + 1) h.long;
  at = λ i m. by_place i m (cases_lt i count);
}
  where
    Goal : ℕ → ℕ → Type 0
    Goal i x = Shows scene new i (get_or nodes i 0) x

    by_place : (i : ℕ) → i < count + 1 → ((i < count) ⊎ (count ≤ i)) → Goal i (get_or (seen ++ n ∷ []) i 0)
    by_place i m (inl lt) =
        let there : get_or nodes i 0 < length mid = (let g = are.within i (omega arith) in let d = e.longer in omega arith) in
        subst (Goal i) (sym (push_below seen n i (let g = h.long in omega arith))) (shows_kept scene mid new i (get_or nodes i 0) (get_or seen i 0) f there (h.at i lt))
    by_place i m (inr le) =
        let same : i ≡ count = omega arith in
        let Q : ℕ → Type 0 = λ j. Goal j (get_or (seen ++ n ∷ []) j 0) in
        let R : ℕ → Type 0 = λ x. Shows scene new count x n in
        subst Q (sym same) (subst (Goal count) (sym (get_or_push seen n 0 count h.long)) (subst R is k))

pub merges_later : (scene : Scene) (old mid new : List Shape) (truth : ℕ) (a b nodes after : List ℕ) → IsScene scene → Extends mid new → after ≡ nodes → Merges scene old mid truth a b nodes → Merges scene old new truth a b after
merges_later scene old mid new truth a b nodes after sc e is h =
    let P : List ℕ → Type 0 = λ xs. Merges scene old new truth a b xs in
    subst P (sym is) (record {
      nodes_are = nodes_kept scene mid new nodes h.nodes_are e;
      value = λ bits. store_kept scene mid new bits nodes sc h.nodes_are e ∙ h.value bits;
      mentions = λ p t x y. holds_kept scene mid new p nodes h.nodes_are e (h.mentions p t x y);
    })
