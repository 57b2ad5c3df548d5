-- Nodes are forgotten, and the nets to which their values are given wait.
use Rattle.std.proofs.Common.{◌≡◌, ℕ, ◌+◌, ◌<◌, Bool, true, false, List, [], ◌∷◌, length, get_or, set, take, refl, sym, ap, ◌∙◌, subst, inl, inr}
use Rattle.std.specs.Prelude.{All, Contains, IfSome}
use Rattle.std.proofs.lemmas.Bool.{cases_eq, false≢true, false_from_ne_true}
use Rattle.std.proofs.lemmas.List.{get_or-set_other, take_more}
use Rattle.std.proofs.lemmas.List.Elements.{All-push, All-weaker, Contains-append_cases}
use Rattle.svex_shape.specs.Values.{Vector}
use Rattle.node_memo.specs.declared.memo.Memo.{Memo}
use Rattle.node_memo.specs.Memos.{is_fresh, StayFresh, IsForgotten}
use Rattle.event_nets.specs.declared.gift.Gift.{Gift}
use Rattle.event_nets.specs.declared.gift.Source.{Source}
use Rattle.event_nets.specs.declared.gift.Source.TheVariants.{Value, Stimulus}
use Rattle.event_nets.specs.Needs.{node_of}
use Rattle.event_sim.specs.Queues.{StayWaiting, IsGivenFresh, AreForgotten, AreUnread}
use Rattle.node_memo.proofs.Rows.{one-has}

pub stays-gone : (old new : Memo) → StayFresh new old → (k : ℕ) → is_fresh old.fresh.items k ≡ false → is_fresh new.fresh.items k ≡ false
stays-gone old new h k off = false_from_ne_true (is_fresh new.fresh.items k) (λ on. false≢true (sym off ∙ h k on))

some-rises : (old new : Memo) → StayFresh old new → (from : Source) → IfSome (node_of from) (λ k. is_fresh old.fresh.items k ≡ true) → IfSome (node_of from) (λ k. is_fresh new.fresh.items k ≡ true)
some-rises old new stay (Value k) on = stay k on
some-rises old new stay (Stimulus n) on = tt

pub given-rises : (old new : Memo) → StayFresh old new → (g : Gift) → IsGivenFresh old g → IsGivenFresh new g
given-rises old new stay g h = some-rises old new stay g.from h

pub forgotten-none : (takers : List (List ℕ)) (memo : Memo) (waiting : List ℕ) → AreForgotten takers memo memo waiting waiting
forgotten-none takers memo waiting = record {
  values = refl;
  fewer = λ k h. h;
  woken = λ k on off. absurd (false≢true (sym off ∙ on));
  kept = λ k h. h;
}

pub forgotten-both : (takers : List (List ℕ)) (a b c : Memo) (u v w : List ℕ) → AreForgotten takers a b u v → AreForgotten takers b c v w → AreForgotten takers a c u w
forgotten-both takers a b c u v w p q = record {
  values = q.values ∙ p.values;
  fewer = λ k h. p.fewer k (q.fewer k h);
  woken = λ k on off. pick k on off (is_fresh b.fresh.items k) refl;
  kept = λ k h. q.kept k (p.kept k h);
}
  where
    pick : (k : ℕ) → is_fresh a.fresh.items k ≡ true → is_fresh c.fresh.items k ≡ false → (t : Bool) → is_fresh b.fresh.items k ≡ t → All (Contains w) (get_or takers k [])
    pick k on off true e = q.woken k e off
    pick k on off false e = All-weaker (Contains v) (Contains w) q.kept (get_or takers k []) (p.woken k on e)

-- one node, and those that reach it
pub forgotten-one : (takers : List (List ℕ)) (old new : Memo) (node : ℕ) (before after : List ℕ) → IsForgotten old node new
    → ((k : ℕ) → Contains new.stale.items k → All (Contains after) (get_or takers k [])) → StayWaiting before after → AreForgotten takers old new before after
forgotten-one takers old new node before after f woken kept = record {
  values = f.values;
  fewer = f.fewer;
  woken = λ k on off. woken k (f.told k on off);
  kept = kept;
}

-- one node more is forgotten
pub gone-more : (nodes : List ℕ) (i : ℕ) (old new : Memo) → i < length nodes → All (λ k. is_fresh old.fresh.items k ≡ false) (take i nodes) → StayFresh new old
    → is_fresh new.fresh.items (get_or nodes i 0) ≡ false → All (λ k. is_fresh new.fresh.items k ≡ false) (take (i + 1) nodes)
gone-more nodes i old new lt h fewer gone =
    subst (λ (l : List ℕ). All (λ k. is_fresh new.fresh.items k ≡ false) l) (sym (take_more nodes i 0 lt))
    (All-push (λ k. is_fresh new.fresh.items k ≡ false) (take i nodes) (get_or nodes i 0)
    (All-weaker (λ k. is_fresh old.fresh.items k ≡ false) (λ k. is_fresh new.fresh.items k ≡ false) (stays-gone old new fewer) (take i nodes) h) gone)

-- the takers of one node more wait
pub woken-more : (takers : List (List ℕ)) (nodes : List ℕ) (i : ℕ) (before after : List ℕ) → i < length nodes
    → ((k : ℕ) → Contains (take i nodes) k → All (Contains before) (get_or takers k [])) → StayWaiting before after → All (Contains after) (get_or takers (get_or nodes i 0) [])
    → (k : ℕ) → Contains (take (i + 1) nodes) k → All (Contains after) (get_or takers k [])
woken-more takers nodes i before after lt h kept all k c =
    elim (Contains-append_cases (take i nodes) (get_or nodes i 0 ∷ []) k (subst (λ (l : List ℕ). Contains l k) (take_more nodes i 0 lt) c)) [
      | inl old ↦ All-weaker (Contains before) (Contains after) kept (get_or takers k []) (h k old)
      | inr new ↦ subst (λ (j : ℕ). All (Contains after) (get_or takers j [])) (sym (one-has k (get_or nodes i 0) new)) all
    ]

-- a wire changes, and its nodes are forgotten
pub unread-more : (present : List (List ℕ)) (old mid new : List Vector) (wire : ℕ) (row : Vector) (memo memo2 : Memo) → AreUnread present old mid memo → new ≡ set mid wire row
    → StayFresh memo2 memo → All (λ k. is_fresh memo2.fresh.items k ≡ false) (get_or present wire []) → AreUnread present old new memo2
unread-more present old mid new wire row memo memo2 h e fewer gone n = elim (cases_eq n wire) [
  | inl same ↦ inr (subst (λ (j : ℕ). All (λ k. is_fresh memo2.fresh.items k ≡ false) (get_or present j [])) (sym same) gone)
  | inr other ↦ elim (h n) [
    | inl stays ↦ inl (ap (λ rows. get_or rows n []) e ∙ get_or-set_other mid wire n row [] other ∙ stays)
    | inr away ↦ inr (All-weaker (λ k. is_fresh memo.fresh.items k ≡ false) (λ k. is_fresh memo2.fresh.items k ≡ false) (stays-gone memo memo2 fewer) (get_or present n []) away)
  ]
]
