-- One join more: whether none of its child's bits was joined before.
use Rattle.std.proofs.Common.{◌≡◌, ◌≢◌, ◌⊎◌, ℕ, ◌+◌, ◌<◌, Bool, List, [], ◌∷◌, ◌++◌, length, map, inl, inr, refl, sym, ap, ◌∙◌, subst, append_assoc, arith}
use Rattle.std.specs.Prelude.{Any, Result, Ok, Err, IfOk, OnOk, is_ok, Option, Some, None}
use Rattle.std.specs.List.{zip, Contains}
use Rattle.std.proofs.lemmas.List.{append-nil, get_or_append_left, map-append, length-append}
use Rattle.std.proofs.Common.{get_or-append-add}
use Rattle.std.proofs.lemmas.Result.{IfOk-weaker}
use Rattle.lhs_alias.specs.declared.joins.JoinErr.{JoinErr}
use Rattle.lhs_alias.specs.declared.joins.JoinErr.TheVariants.{Taken, Memory}
use Rattle.lhs_alias.specs.declared.segs.WireBit.{WireBit}
use Rattle.lhs_alias.specs.Segs.{lhs_bits}
use Rattle.lhs_alias.specs.Pairs.{IsChild, AreDistinct, HaveOwnChildren}
use Rattle.lhs_alias.specs.Joined.{Kept, Stands, widths_of}
use Rattle.lhs_alias.proofs.Chains.{child-stands}
use Rattle.settling.specs.Settling.{Link}
use Rattle.flat_net.specs.declared.flat.Join.{Join}
use Rattle.flat_net.specs.Flats.{links_of, IsJoin}
use Rattle.flat_read.specs.States.{HasMade, Judged}

pub links_more : (joins : List Join) (j : Join) → links_of (joins ++ j ∷ []) ≡ links_of joins ++ zip (lhs_bits j.child) (lhs_bits j.parent)
unfolding links_of
links_more [] j = append-nil (zip (lhs_bits j.child) (lhs_bits j.parent))
links_more (i ∷ joins) j = ap (λ l. zip (lhs_bits i.child) (lhs_bits i.parent) ++ l) (links_more joins j) ∙ sym (append_assoc (zip (lhs_bits i.child) (lhs_bits i.parent)) (links_of joins) (zip (lhs_bits j.child) (lhs_bits j.parent)))

pub links_none : links_of [] ≡ []
unfolding links_of
links_none = refl

-- ---- bits of which no two are equal

apart : (a b : List WireBit) (x : WireBit) → AreDistinct (a ++ b) → Contains a x → Contains b x → ⊥
apart a b x h c d =
    let lt : c.0 < length a = c.1 in
    let below : d.0 < length b = d.1 in
    h c.0 (length a + d.0) x (omega (arith, lt)) (omega (arith, below, length-append a b))
    (get_or_append_left a b x c.0 lt ∙ c.2 ∙ sym d.2 ∙ sym (get_or-append-add a b d.0 x))

behind : (a b : List WireBit) → AreDistinct (a ++ b) → AreDistinct b
behind a b h i j d lt l e =
    h (length a + i) (length a + j) d (omega (arith, lt)) (omega (arith, l, length-append a b)) (get_or-append-add a b i d ∙ e ∙ sym (get_or-append-add a b j d))

children-zip : (a b : List WireBit) → length a ≡ length b → map (λ (pair : Link). pair.0) (zip a b) ≡ a
children-zip [] b e = refl
children-zip (x ∷ a) [] e = absurd (omega (arith, e))
children-zip (x ∷ a) (y ∷ b) e = ap (λ l. x ∷ l) (children-zip a b (omega (arith, e)))

any_elim : {X : Type 0} (P : X → Type 0) (xs : List X) (Q : Type 0) → Any P xs → ((x : X) → Contains xs x → P x → Q) → Q
any_elim P xs Q a f = f a.1 (a.0, a.2, a.3) a.4

-- where a bit is taken, one is joined twice
taken_twice : (links : List Link) (child parent : List WireBit) → length child ≡ length parent → Any (IsChild links) child ⊎ (¬ AreDistinct child) → HaveOwnChildren (links ++ zip child parent) → ⊥
taken_twice links child parent even taken own =
    let all : AreDistinct (map (λ (pair : Link). pair.0) links ++ child) = subst AreDistinct (map-append (λ (pair : Link). pair.0) links (zip child parent) ∙ ap (λ l. map (λ (pair : Link). pair.0) links ++ l) (children-zip child parent even)) own in
    elim taken [
      | inl twice ↦ any_elim (IsChild links) child ⊥ twice (λ x here c. apart (map (λ (pair : Link). pair.0) links) child x all (child-stands links x c.0 c.1) here)
      | inr alike ↦ alike (behind (map (λ (pair : Link). pair.0) links) child all)
    ]

-- ---- what code answers

pub laid_none : (made : Option Kept) (widths : List ℕ) (joins : List Join) {E : Type 0} (r : Result Kept E) → made ≡ None → HasMade made widths joins → IfOk r (λ j. Stands j []) → IfOk r (λ j. Stands j (links_of joins))
laid_none made widths joins r e h stands =
    let none : joins ≡ [] = subst (λ m. HasMade m widths joins) e h in
    IfOk-weaker r (λ j. Stands j []) (λ j. Stands j (links_of joins)) (λ j s. subst (Stands j) (sym (ap links_of none ∙ links_none)) s) stands

pub one_more : (joins : List Join) (j : Join) → joins ++ j ∷ [] ≢ []
one_more [] j e = cc
one_more (i ∷ joins) j e = cc

pub united : (before after : Kept) (widths : List ℕ) (joins : List Join) (j : Join) (r : Result (Unit {0}) JoinErr) (free : Bool) → IsJoin widths j → widths_of before ≡ widths → Stands before (links_of joins) → widths_of after ≡ widths_of before
    → OnOk r ((pairs : List Link) → Stands before pairs → Stands after (pairs ++ zip (lhs_bits j.child) (lhs_bits j.parent)))
    → (r ≡ Err Taken → (pairs : List Link) → Stands before pairs → Any (IsChild pairs) (lhs_bits j.child) ⊎ (¬ AreDistinct (lhs_bits j.child))) → r ≢ Err Memory → free ≡ is_ok r
    → Judged free (HasMade (Some after) widths (joins ++ j ∷ [])) (¬ HaveOwnChildren (links_of (joins ++ j ∷ [])))
united before after widths joins j (Ok u) free sound wide stands same made taken memory e =
    subst (λ b. Judged b (HasMade (Some after) widths (joins ++ j ∷ [])) (¬ HaveOwnChildren (links_of (joins ++ j ∷ [])))) (sym e)
    (one_more joins j, (same ∙ wide, subst (Stands after) (sym (links_more joins j)) (made (links_of joins) stands)))
united before after widths joins j (Err Taken) free sound wide stands same made taken memory e =
    subst (λ b. Judged b (HasMade (Some after) widths (joins ++ j ∷ [])) (¬ HaveOwnChildren (links_of (joins ++ j ∷ [])))) (sym e)
    (λ own. taken_twice (links_of joins) (lhs_bits j.child) (lhs_bits j.parent) sound.falls.as_many (taken refl (links_of joins) stands) (subst HaveOwnChildren (links_more joins j) own))
united before after widths joins j (Err Memory) free sound wide stands same made taken memory e = absurd (memory refl)
