-- The joins of a flat design are made in their order: no bit is joined twice.
use Rattle.std.proofs.Common.{◌≡◌, ◌≢◌, ◌⊎◌, ℕ, ◌+◌, ◌<◌, List, [], ◌∷◌, ◌++◌, length, get_or, map, take, drop, refl, sym, ap, ◌∙◌, subst, inl, inr, arith, take-append-drop, drop-cons, add-one, get_or-append-add, length-append}
use Rattle.std.specs.Prelude.{Any, Result, Ok, Err, IsOk}
use Rattle.std.specs.List.{zip, Contains}
use Rattle.std.proofs.lemmas.List.{get_or_append_left, map-append}
use Rattle.std.proofs.lemmas.List.Elements.{Contains-append_left}
use Rattle.lhs_alias.specs.declared.joins.JoinErr.{JoinErr}
use Rattle.lhs_alias.specs.declared.joins.JoinErr.TheVariants.{Taken, Memory}
use Rattle.lhs_alias.specs.declared.segs.WireBit.{WireBit}
use Rattle.lhs_alias.specs.Segs.{lhs_bits}
use Rattle.lhs_alias.specs.Pairs.{IsChild, AreDistinct, HaveOwnChildren}
use Rattle.lhs_alias.proofs.Chains.{child-stands}
use Rattle.settling.specs.Settling.{Link}
use Rattle.flat_net.specs.declared.flat.Join.{Join}
use Rattle.flat_net.specs.Flats.{links_of}
use Rattle.event_nets.proofs.Laying.{links-append}

abbrev child : Link → WireBit
child pair = pair.0

-- ---- bits of which no two are equal

apart : (a b : List WireBit) (x : WireBit) → AreDistinct (a ++ b) → Contains a x → Contains b x → ⊥
apart a b x h c d =
    let lt : c.0 < length a = c.1 in
    let below : d.0 < length b = d.1 in
    h c.0 (length a + d.0) x (omega (arith, lt)) (omega (arith, below, length-append a b))
    (get_or_append_left a b x c.0 lt ∙ c.2 ∙ sym d.2 ∙ sym (get_or-append-add a b d.0 x))

middle : (a b c : List WireBit) → AreDistinct (a ++ (b ++ c)) → AreDistinct b
middle a b c h i j d lt l e =
    h (length a + i) (length a + j) d (omega (arith, lt)) (omega (arith, l, length-append a (b ++ c), length-append b c))
    (at i (omega (arith, lt, l)) ∙ e ∙ sym (at j l))
  where
    at : (k : ℕ) → k < length b → get_or (a ++ (b ++ c)) (length a + k) d ≡ get_or b k d
    at k lt = get_or-append-add a (b ++ c) k d ∙ get_or_append_left b c d k lt

-- ---- what is joined by one join, and by the others

children-zip : (a b : List WireBit) → length a ≡ length b → map child (zip a b) ≡ a
children-zip [] b e = refl
children-zip (x ∷ a) [] e = absurd (omega (arith, e))
children-zip (x ∷ a) (y ∷ b) e = ap (λ l. x ∷ l) (children-zip a b (omega (arith, e)))

children-split : (joins : List Join) (i : ℕ) (j : Join) → i < length joins → get_or joins i j ≡ j → length (lhs_bits j.child) ≡ length (lhs_bits j.parent)
    → map child (links_of joins) ≡ map child (links_of (take i joins)) ++ (lhs_bits j.child ++ map child (links_of (drop (i + 1) joins)))
unfolding links_of
children-split joins i j lt is even =
    let own : List Link = zip (lhs_bits j.child) (lhs_bits j.parent) in
    let later : List Link = links_of (drop (i + 1) joins) in
    let behind : drop i joins ≡ j ∷ drop (i + 1) joins = drop-cons joins i j lt ∙ ap (λ n. get_or joins i j ∷ drop n joins) (sym (add-one i)) ∙ ap (λ x. x ∷ drop (i + 1) joins) is in
    let split : links_of joins ≡ links_of (take i joins) ++ (own ++ later) =
    ap links_of (sym (take-append-drop i joins) ∙ ap (λ l. take i joins ++ l) behind) ∙ links-append (take i joins) (j ∷ drop (i + 1) joins) in
    ap (λ l. map child l) split ∙ map-append child (links_of (take i joins)) (own ++ later)
    ∙ ap (λ l. map child (links_of (take i joins)) ++ l) (map-append child own later ∙ ap (λ l. l ++ map child later) (children-zip (lhs_bits j.child) (lhs_bits j.parent) even))

any_elim : {X : Type 0} (P : X → Type 0) (xs : List X) (Q : Type 0) → Any P xs → ((x : X) → Contains xs x → P x → Q) → Q
any_elim P xs Q a f = f a.1 (a.0, a.2, a.3) a.4

-- no bit of a join is joined as a child before it
join-free : (joins : List Join) (i : ℕ) (j : Join) → i < length joins → get_or joins i j ≡ j → length (lhs_bits j.child) ≡ length (lhs_bits j.parent) → HaveOwnChildren (links_of joins)
    → Any (IsChild (links_of (take i joins))) (lhs_bits j.child) ⊎ (¬ AreDistinct (lhs_bits j.child)) → ⊥
join-free joins i j lt is even own taken = elim taken [
  | inl twice ↦ any_elim (IsChild before) (lhs_bits j.child) ⊥ twice (λ x here c.
      apart (map child before) (lhs_bits j.child ++ later) x all (child-stands before x c.0 c.1) (Contains-append_left (lhs_bits j.child) later x here))
  | inr alike ↦ alike (middle (map child before) (lhs_bits j.child) later all)
]
  where
    before : List Link
    before = links_of (take i joins)

    later : List WireBit
    later = map child (links_of (drop (i + 1) joins))

    all : AreDistinct (map child before ++ (lhs_bits j.child ++ later))
    all = subst (λ (l : List WireBit). AreDistinct l) (children-split joins i j lt is even) own

only-these : {U : Type 0} (r : Result U JoinErr) → (r ≡ Err Taken → ⊥) → (r ≡ Err Memory → ⊥) → IsOk r
only-these (Ok u) t m = refl
only-these (Err Taken) t m = absurd (t refl)
only-these (Err Memory) t m = absurd (m refl)

pub is-joined : {U : Type 0} (r : Result U JoinErr) (joins : List Join) (i : ℕ) (j : Join) → i < length joins → get_or joins i j ≡ j → length (lhs_bits j.child) ≡ length (lhs_bits j.parent)
    → HaveOwnChildren (links_of joins) → (r ≡ Err Taken → Any (IsChild (links_of (take i joins))) (lhs_bits j.child) ⊎ (¬ AreDistinct (lhs_bits j.child))) → r ≢ Err Memory → IsOk r
is-joined r joins i j lt is even own taken memory = only-these r (λ e. join-free joins i j lt is even own (taken e)) memory
