-- Nets are put at the end of those that wait, and taken out.
use Rattle.std.proofs.Common.{◌≡◌, ℕ, zero, suc, ◌+◌, ◌<◌, false, cond, not, eqb, List, [], ◌∷◌, ◌++◌, length, get_or, take, refl, sym, ap, ◌∙◌, subst, inl, inr, arith, append_assoc}
use Rattle.std.specs.Prelude.{Contains}
use Rattle.std.proofs.lemmas.Bool.{cases_eq, ne_eqb}
use Rattle.std.proofs.lemmas.List.{take_more, append-nil}
use Rattle.std.proofs.lemmas.List.Elements.{All-nil, All-push, All-weaker, Contains-append_left, Contains-append_right}
use Rattle.idx_list.specs.Order.{without}
use Rattle.event_sim.specs.Queues.{IsWoken}
use Rattle.node_memo.proofs.Rows.{has-one}
use Rattle.event_sim.proofs.Resting.{filter-at}

-- ---- nets are woken

pub woken-none : (old : List ℕ) → IsWoken [] old old
woken-none old = record { all = All-nil (Contains old); behind = ([], sym (append-nil old), All-nil (Contains [])) }

-- a net that waits stays where it is
pub woken-had : (lows old now : List ℕ) (i : ℕ) → i < length lows → IsWoken (take i lows) old now → Contains now (get_or lows i 0) → IsWoken (take (i + 1) lows) old now
woken-had lows old now i lt w h =
    subst (λ (l : List ℕ). IsWoken l old now) (sym (take_more lows i 0 lt)) (record {
      all = All-push (Contains now) (take i lows) (get_or lows i 0) w.all h;
      behind = (
        w.behind.0,
        w.behind.1,
        All-weaker (Contains (take i lows)) (Contains (take i lows ++ get_or lows i 0 ∷ [])) (λ x c. Contains-append_left (take i lows) (get_or lows i 0 ∷ []) x c) w.behind.0 w.behind.2,
      );
    })

-- one that does not is put behind the others
pub woken-put : (lows old now new : List ℕ) (i : ℕ) → i < length lows → IsWoken (take i lows) old now → new ≡ now ++ get_or lows i 0 ∷ [] → IsWoken (take (i + 1) lows) old new
woken-put lows old now new i lt w e =
    let x = get_or lows i 0 in
    subst (λ (l : List ℕ). IsWoken l old new) (sym (take_more lows i 0 lt)) (subst (λ (l : List ℕ). IsWoken (take i lows ++ x ∷ []) old l) (sym e) (record {
      all = All-push (Contains (now ++ x ∷ [])) (take i lows) x
          (All-weaker (Contains now) (Contains (now ++ x ∷ [])) (λ y c. Contains-append_left now (x ∷ []) y c) (take i lows) w.all)
          (Contains-append_right now (x ∷ []) x (has-one x x refl));
      behind = (
        w.behind.0 ++ x ∷ [],
        ap (λ l. l ++ x ∷ []) w.behind.1 ∙ append_assoc old w.behind.0 (x ∷ []),
        All-push (Contains (take i lows ++ x ∷ [])) w.behind.0 x
            (All-weaker (Contains (take i lows)) (Contains (take i lows ++ x ∷ [])) (λ y c. Contains-append_left (take i lows) (x ∷ []) y c) w.behind.0 w.behind.2)
            (Contains-append_right (take i lows) (x ∷ []) x (has-one x x refl)),
      );
    }))

-- what waited waits
pub woken-kept : (lows old new : List ℕ) → IsWoken lows old new → (k : ℕ) → Contains old k → Contains new k
woken-kept lows old new w k h = subst (λ (l : List ℕ). Contains l k) (sym w.behind.1) (Contains-append_left old w.behind.0 k h)

-- ---- a net is taken out

pub without-none : (x : ℕ) (items : List ℕ) → (Contains items x → ⊥) → without x items ≡ items
without-none x [] h = refl
without-none x (y ∷ items) h =
    let ne : eqb y x ≡ false = ne_eqb y x (λ e. h (zero, omega arith, e)) in
    ap (λ t. cond (not t) (y ∷ without x items) (without x items)) ne
    ∙ ap (λ l. y ∷ l) (without-none x items (λ c. h (let lt = c.1 in (suc c.0, omega (arith, lt), c.2))))

pub without-keeps : (x : ℕ) (items : List ℕ) (k : ℕ) → Contains items k → Contains (x ∷ without x items) k
without-keeps x items k h = elim (cases_eq k x) [
  | inl e ↦ (zero, omega arith, sym e)
  | inr ne ↦ Contains-append_right (x ∷ []) (without x items) k
      (filter-at (λ y. not (eqb y x)) items k h.0 h.1 h.2 (ap (λ t. not t) (ne_eqb k x ne)))
]
