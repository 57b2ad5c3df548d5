-- A map of names after a change.
use Rattle.std.proofs.Common.{◌≡◌, ℕ, List, [], Option, Some, None, Bool, true, false, cond, refl, sym, ◌∙◌, ap, subst, ⊎_elim}
use Rattle.std.specs.Map.{lookup, IsKeyTest, AreApart, KeepsOthers}
use Rattle.std.specs.Str.{bytes_eq}
use Rattle.std.specs.Cmp.Lexicographic.{nat_list_eq_equiv, bytes_decides}
use Rattle.std.specs.Prelude.{Vec, OnOk, OnErr, Result, Ok, Err}
use Rattle.std.specs.declared.alloc.Global.{Global}
use Rattle.std.proofs.lemmas.Bool.{cases_Bool}
use Rattle.indexmap.specs.IndexMap.{IndexMap, get_by, UpdatesBy, IsUnchanged}
use Rattle.name_index.specs.Under.{under, Puts, Keeps}
use Rattle.name_index.specs.declared.map.NameMap.{NameMap}

module _ {X : Type 0} (eq : X → X → Bool) where
  others_keep : {Y : Type 0} (test : X → Bool) (old new : List (X × Y)) → KeepsOthers eq test old new
      → (other : X → Bool) → IsKeyTest eq other → AreApart test other → lookup other new ≡ lookup other old
  unfolding KeepsOthers
  others_keep test old new h = h

-- g is w at bs, and f at other bytes
by_bytes : (f g : List ℕ → Option ℕ) (bs : List ℕ) (w : Option ℕ) → g bs ≡ w → ((cs : List ℕ) → bytes_eq bs cs ≡ false → g cs ≡ f cs) → (cs : List ℕ) → g cs ≡ cond (bytes_eq bs cs) w (f cs)
by_bytes f g bs w here other cs =
    ⊎_elim
    (λ y. subst (λ l. g l ≡ w) ((bytes_decides bs cs).0 y) here ∙ sym (ap (λ b. cond b w (f cs)) y))
    (λ n. other cs n ∙ sym (ap (λ b. cond b w (f cs)) n))
    (cases_Bool (bytes_eq bs cs))

apart : (bs cs ks : List ℕ) → bytes_eq bs cs ≡ false → bytes_eq bs ks ≡ true → bytes_eq cs ks ≡ false
apart bs cs ks n y = nat_list_eq_equiv.symm cs ks ∙ sym (nat_list_eq_equiv.congr bs ks cs y) ∙ n

module _ {S : Type 0} where
  abbrev at : IndexMap (Vec ℕ Global) ℕ S → List ℕ → Option ℕ
  at m name = get_by (λ key. bytes_eq name key.items) m

  updated : (m n : IndexMap (Vec ℕ Global) ℕ S) (bs : List ℕ) (w : Option ℕ) → UpdatesBy (λ x y. bytes_eq x.items y.items) (λ key. bytes_eq bs key.items) m n w
      → (cs : List ℕ) → at n cs ≡ cond (bytes_eq bs cs) w (at m cs)
  updated m n bs w h = by_bytes (at m) (at n) bs w h.1
      (λ cs e. others_keep (λ x y. bytes_eq x.items y.items) _ _ _ h.3 _ (λ x y. nat_list_eq_equiv.congr cs x.items y.items) (λ k. apart bs cs k.items e))

pub puts : (m n : NameMap) (bs : List ℕ) (w : Option ℕ) → UpdatesBy (λ x y. bytes_eq x.items y.items) (λ key. bytes_eq bs key.items) m.values n.values w → Puts m bs w n
unfolding under
puts m n bs w h = updated m.values n.values bs w h

-- the same where the key that was put is a copy of the name
pub puts_at : (m n : NameMap) (key name : List ℕ) (w : Option ℕ) → key ≡ name → UpdatesBy (λ x y. bytes_eq x.items y.items) (λ k. bytes_eq key k.items) m.values n.values w → Puts m name w n
puts_at m n key name w e h = subst (λ bs. Puts m bs w n) e (puts m n key w h)

pub keeps : (m n : NameMap) → IsUnchanged m.values n.values → Keeps m n
unfolding under
keeps m n e o = ap (λ es. lookup (λ key. bytes_eq o key.items) es) e

pub under_none : (m : NameMap) → m.values.entries ≡ [] → (o : List ℕ) → under m o ≡ None
unfolding under
under_none m e o = ap (λ es. lookup (λ key. bytes_eq o key.items) es) e

pub on_err : {A E : Type 0} (r : Result A E) (P : Type 0) → P → OnErr r P
on_err (Ok x) P p = tt
on_err (Err e) P p = p
