-- A walk up from a node that is forgotten.
use Rattle.std.proofs.Common.{◌≡◌, ℕ, suc, ◌+◌, ◌<◌, ◌≤◌, Bool, true, false, cond, List, [], ◌∷◌, ◌++◌, ◌⊎◌, length, get_or, set, drop, refl, sym, ap, ◌∙◌, subst, inl, inr, arith, length-set, length-append, append_assoc, drop-cons, add-one}
use Rattle.std.specs.Prelude.{All, Contains}
use Rattle.std.proofs.lemmas.Bool.{cases_eq, false≢true, false_from_ne_true}
use Rattle.std.proofs.lemmas.List.{get_or-set_same, get_or-set_other, append-nil, length_push, drop-append-le, drop_all}
use Rattle.std.proofs.lemmas.List.Sums.{sum_by-set}
use Rattle.std.proofs.lemmas.List.Elements.{All-nil, All-cons, All-append, All-weaker, All-contains, Contains-append_left, Contains-append_right, Contains-append_cases}
use Rattle.svex_shape.specs.declared.shape.Shape.{Shape}
use Rattle.svex_shape.specs.Shapes.{shape_at}
use Rattle.svex_arena.proofs.Numbering.{map_children, join_children}
use Rattle.node_memo.specs.Memos.{is_fresh, AreClosed, AreParents}
use Rattle.node_memo.specs.Walks.{AreDropped, AreClosedBut, fresh_marks}
use Rattle.node_memo.proofs.Rows.{has-one, one-has, none-has}

-- what is not fresh does not become so
fewer-gone : (fresh fresh2 : List Bool) → ((k : ℕ) → is_fresh fresh2 k ≡ true → is_fresh fresh k ≡ true) → (k : ℕ) → is_fresh fresh k ≡ false → is_fresh fresh2 k ≡ false
fewer-gone fresh fresh2 h k off = false_from_ne_true (is_fresh fresh2 k) (λ on. false≢true (sym off ∙ h k on))

-- ---- nodes are forgotten

pub dropped-start : (fresh : List Bool) (stale : List ℕ) → AreDropped [] fresh stale fresh stale
dropped-start fresh stale = record {
  marks = refl;
  gone = All-nil (λ k. is_fresh fresh k ≡ false);
  fewer = λ k h. h;
  count = refl;
  behind = ([], sym (append-nil stale), λ k h. inl h, All-nil (Contains []));
}

pub dropped-none : (node : ℕ) (fresh : List Bool) (stale : List ℕ) → is_fresh fresh node ≡ false → AreDropped (node ∷ []) fresh stale fresh stale
dropped-none node fresh stale off = record {
  marks = refl;
  gone = All-cons (λ k. is_fresh fresh k ≡ false) node [] off (All-nil (λ k. is_fresh fresh k ≡ false));
  fewer = λ k h. h;
  count = refl;
  behind = ([], sym (append-nil stale), λ k h. inl h, All-nil (Contains (node ∷ [])));
}

pub dropped-one : (node : ℕ) (fresh : List Bool) (stale : List ℕ) → node < length fresh → is_fresh fresh node ≡ true
    → AreDropped (node ∷ []) fresh stale (set fresh node false) (stale ++ node ∷ [])
dropped-one node fresh stale lt on = record {
  marks = length-set fresh node false;
  gone = All-cons (λ k. is_fresh (set fresh node false) k ≡ false) node [] here (All-nil (λ k. is_fresh (set fresh node false) k ≡ false));
  fewer = λ k h. elim (cases_eq k node) [
    | inl e ↦ absurd (false≢true (sym here ∙ ap (λ j. is_fresh (set fresh node false) j) (sym e) ∙ h))
    | inr ne ↦ sym (get_or-set_other fresh node k false false ne) ∙ h
  ];
  count = omega (arith, length_push stale node, one, sum_by-set opens fresh node false false lt);
  behind = (
    node ∷ [],
    refl,
    λ k h. elim (cases_eq k node) [
      | inl e ↦ inr (has-one k node e)
      | inr ne ↦ inl (get_or-set_other fresh node k false false ne ∙ h)
    ],
    All-cons (Contains (node ∷ [])) node [] (has-one node node refl) (All-nil (Contains (node ∷ []))),
  );
}
  where
    opens : Bool → ℕ
    opens b = cond b 1 0

    one : opens (get_or fresh node false) ≡ 1
    one = ap opens on

    here : is_fresh (set fresh node false) node ≡ false
    here = get_or-set_same fresh node false false lt

pub dropped-both : (a b : List ℕ) (f : List Bool) (s : List ℕ) (f2 : List Bool) (s2 : List ℕ) (f3 : List Bool) (s3 : List ℕ)
    → AreDropped a f s f2 s2 → AreDropped b f2 s2 f3 s3 → AreDropped (a ++ b) f s f3 s3
dropped-both a b f s f2 s2 f3 s3 p q = record {
  marks = q.marks ∙ p.marks;
  gone = All-append (λ k. is_fresh f3 k ≡ false) a b (All-weaker (λ k. is_fresh f2 k ≡ false) (λ k. is_fresh f3 k ≡ false) (fewer-gone f2 f3 q.fewer) a p.gone) q.gone;
  fewer = λ k h. p.fewer k (q.fewer k h);
  count = q.count ∙ p.count;
  behind = (
    first ++ second,
    q.behind.1 ∙ ap (λ l. l ++ second) p.behind.1 ∙ append_assoc s first second,
    λ k h. elim (p.behind.2 k h) [
      | inl on ↦ elim (q.behind.2 k on) [
        | inl still ↦ inl still
        | inr c ↦ inr (Contains-append_right first second k c)
      ]
      | inr c ↦ inr (Contains-append_left first second k c)
    ],
    All-append (Contains (a ++ b)) first second
        (All-weaker (Contains a) (Contains (a ++ b)) (λ k c. Contains-append_left a b k c) first p.behind.3)
        (All-weaker (Contains b) (Contains (a ++ b)) (λ k c. Contains-append_right a b k c) second q.behind.3),
  );
}
  where
    first : List ℕ
    first = p.behind.0

    second : List ℕ
    second = q.behind.0

-- ---- up

-- what holds in a walk up: these are the nodes that were forgotten, and the parents of the first so many were too
pub record IsUp (shapes : List Shape) (old : List Bool) (node : ℕ) (fresh : List Bool) (stale : List ℕ) (at : ℕ) : Type 0 where
  pub marks : length fresh ≡ length old
  pub count : fresh_marks fresh + length stale ≡ fresh_marks old
  pub within : at ≤ length stale
  pub gone : is_fresh fresh node ≡ false
  pub fewer : (k : ℕ) → is_fresh fresh k ≡ true → is_fresh old k ≡ true
  pub told : (k : ℕ) → is_fresh old k ≡ true → (is_fresh fresh k ≡ true) ⊎ Contains stale k
  pub inside : All (λ k. k < length shapes) stale
  pub closed : AreClosedBut shapes fresh (drop at stale)

pub up-begins : (shapes : List Shape) (old : List Bool) (node : ℕ) (fresh : List Bool) (stale : List ℕ) → AreClosed shapes old → node < length shapes
    → AreDropped (node ∷ []) old [] fresh stale → IsUp shapes old node fresh stale 0
up-begins shapes old node fresh stale closed lt d = record {
  marks = d.marks;
  count = omega (arith, d.count);
  within = omega arith;
  gone = d.gone 0 node (omega arith);
  fewer = d.fewer;
  told = λ k h. elim (d.behind.2 k h) [
    | inl on ↦ inl on
    | inr c ↦ inr (subst (λ (l : List ℕ). Contains l k) (sym d.behind.1) c)
  ];
  inside = subst (λ (l : List ℕ). All (λ k. k < length shapes) l) (sym d.behind.1)
      (All-weaker (Contains (node ∷ [])) (λ k. k < length shapes) (λ k c. subst (λ (j : ℕ). j < length shapes) (sym (one-has k node c)) lt) d.behind.0 d.behind.3);
  closed = λ k kl on. map_children (λ c. is_fresh old c ≡ true) (λ c. (is_fresh fresh c ≡ true) ⊎ Contains stale c)
      (λ c h. elim (d.behind.2 c h) [
        | inl still ↦ inl still
        | inr there ↦ inr (subst (λ (l : List ℕ). Contains l c) (sym d.behind.1) there)
      ]) (shape_at shapes k) (closed k kl (d.fewer k on));
}

pub up-more : (shapes : List Shape) (parents : List (List ℕ)) (old : List Bool) (node : ℕ) (fresh : List Bool) (stale : List ℕ) (at child : ℕ) (fresh2 : List Bool) (stale2 : List ℕ)
    → AreParents shapes parents → ((c k : ℕ) → Contains (get_or parents c []) k → k < length shapes)
    → IsUp shapes old node fresh stale at → at < length stale → child ≡ get_or stale at 0
    → AreDropped (get_or parents child []) fresh stale fresh2 stale2 → IsUp shapes old node fresh2 stale2 (at + 1)
up-more shapes parents old node fresh stale at child fresh2 stale2 listed inside u lt is d = record {
  marks = d.marks ∙ u.marks;
  count = d.count ∙ u.count;
  within = omega (arith, lt, ap (λ l. length l) d.behind.1, length-append stale more);
  gone = fewer-gone fresh fresh2 d.fewer node u.gone;
  fewer = λ k h. u.fewer k (d.fewer k h);
  told = λ k h. elim (u.told k h) [
    | inl on ↦ elim (d.behind.2 k on) [
      | inl still ↦ inl still
      | inr c ↦ inr (subst (λ (l : List ℕ). Contains l k) (sym d.behind.1) (Contains-append_right stale more k c))
    ]
    | inr c ↦ inr (subst (λ (l : List ℕ). Contains l k) (sym d.behind.1) (Contains-append_left stale more k c))
  ];
  inside = subst (λ (l : List ℕ). All (λ k. k < length shapes) l) (sym d.behind.1)
      (All-append (λ k. k < length shapes) stale more u.inside
      (All-weaker (Contains (get_or parents child [])) (λ k. k < length shapes) (λ k c. inside child k c) more d.behind.3));
  closed = λ k kl on.
      map_children (λ c. ((is_fresh fresh c ≡ true) ⊎ Contains (drop at stale) c) × Contains (get_or parents c []) k)
      (λ c. (is_fresh fresh2 c ≡ true) ⊎ Contains (drop (at + 1) stale2) c) (λ c p. next k on c p.0 p.1) (shape_at shapes k)
      (join_children (λ c. (is_fresh fresh c ≡ true) ⊎ Contains (drop at stale) c) (λ c. Contains (get_or parents c []) k) (shape_at shapes k)
      (u.closed k kl (d.fewer k on)) (listed k kl));
}
  where
    more : List ℕ
    more = d.behind.0

    rest : drop (at + 1) stale2 ≡ drop (at + 1) stale ++ more
    rest = ap (λ l. drop (at + 1) l) d.behind.1 ∙ drop-append-le (at + 1) stale more (omega (arith, lt))

    split : drop at stale ≡ (child ∷ []) ++ drop (at + 1) stale
    split = drop-cons stale at 0 lt ∙ ap (λ (x : ℕ). x ∷ drop (suc at) stale) (sym is) ∙ ap (λ c. child ∷ drop c stale) (sym (add-one at))

    next : (k : ℕ) → is_fresh fresh2 k ≡ true → (c : ℕ) → (is_fresh fresh c ≡ true) ⊎ Contains (drop at stale) c → Contains (get_or parents c []) k
        → (is_fresh fresh2 c ≡ true) ⊎ Contains (drop (at + 1) stale2) c
    next k on c (inl h) parent = elim (d.behind.2 c h) [
      | inl still ↦ inl still
      | inr there ↦ inr (subst (λ (l : List ℕ). Contains l c) (sym rest) (Contains-append_right (drop (at + 1) stale) more c there))
    ]
    next k on c (inr h) parent = elim (Contains-append_cases (child ∷ []) (drop (at + 1) stale) c (subst (λ (l : List ℕ). Contains l c) split h)) [
      | inl first ↦ absurd (false≢true (sym (All-contains (λ j. is_fresh fresh2 j ≡ false) (get_or parents child []) k d.gone (subst (λ (j : ℕ). Contains (get_or parents j []) k) (one-has c child first) parent)) ∙ on))
      | inr later ↦ inr (subst (λ (l : List ℕ). Contains l c) (sym rest) (Contains-append_left (drop (at + 1) stale) more c later))
    ]

pub up-ends : (shapes : List Shape) (old : List Bool) (node : ℕ) (fresh : List Bool) (stale : List ℕ) (at : ℕ) → IsUp shapes old node fresh stale at → length stale ≤ at → AreClosed shapes fresh
up-ends shapes old node fresh stale at u end k kl on =
    map_children (λ c. (is_fresh fresh c ≡ true) ⊎ Contains (drop at stale) c) (λ c. is_fresh fresh c ≡ true)
    (λ c h. elim h [
      | inl still ↦ still
      | inr there ↦ absurd (none-has c (subst (λ (l : List ℕ). Contains l c) (drop_all at stale end) there))
    ]) (shape_at shapes k) (u.closed k kl on)

pub up-told : (shapes : List Shape) (old : List Bool) (node : ℕ) (fresh : List Bool) (stale : List ℕ) (at : ℕ) → IsUp shapes old node fresh stale at
    → (k : ℕ) → is_fresh old k ≡ true → is_fresh fresh k ≡ false → Contains stale k
up-told shapes old node fresh stale at u k on off = elim (u.told k on) [
  | inl still ↦ absurd (false≢true (sym off ∙ still))
  | inr c ↦ c
]
