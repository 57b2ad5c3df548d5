-- What a tree keeps as entries come and go.
use Rattle.std.proofs.Common.{◌≡◌, ℕ, suc, ◌+◌, ◌/◌, ◌%◌, ◌<◌, ◌≤◌, inl, inr, List, length, sym, ap, ◌∙◌, subst, arith}
use Rattle.std.proofs.lemmas.Bool.{cases_eq}
use Rattle.std.specs.Prelude.{slice_index}
use Rattle.hash_index.specs.declared.tree.Place.{Place}
use Rattle.hash_index.specs.declared.tree.Place.TheVariants.{Root}
use Rattle.hash_index.specs.Tree.{owner, child, Reaches, IsTree, Puts, Leads, IsEnd, IsAhead}
use Rattle.hash_index.proofs.Ways.{cases_place, owner_child, none_reached, reaches_rest, reaches_next, reaches_here, reaches_kept}

-- ---- a tree with no entry, and the same tree

pub tree_none : (buckets : ℕ) (hashes : List ℕ) (links : Place → ℕ) → ((p : Place) → links p ≡ 0) → IsTree 0 buckets hashes links
tree_none buckets hashes links none = record {
  rising = record { within = λ p. omega (arith, none p); above = λ p l. absurd (omega (arith, none p)) };
  apart = λ p q k e. absurd (omega (arith, none p));
  reached = λ k l. absurd (omega arith);
}

pub tree_same : (n buckets : ℕ) (hashes more : List ℕ) (old new : Place → ℕ) → ((p : Place) → new p ≡ old p) → ((k : ℕ) → k < n → slice_index more k ≡ slice_index hashes k) → IsTree n buckets hashes old → IsTree n buckets more new
tree_same n buckets hashes more old new same below t = record {
  rising = record {
    within = λ p. omega (arith, same p, t.rising.within p);
    above = λ p some. omega (arith, same p, t.rising.above p (omega (arith, same p)));
  };
  apart = λ p q k e d. t.apart p q k (sym (same p) ∙ e) (sym (same q) ∙ d);
  reached = λ k l. subst (λ h. Reaches new h (new (Root (h % buckets))) (suc k)) (sym (below k l))
      (reaches_kept n n old new (slice_index hashes k) (Root (slice_index hashes k % buckets)) k t.rising (record { kept = λ p j _ e. same p ∙ e }) l (t.reached k l));
}

-- ---- one entry more

pub leads_start : (n : ℕ) (links : Place → ℕ) (hash b : ℕ) → Leads n links hash (Root b) hash (Root b)
leads_start n links hash b = record { owned = λ m w. omega arith; leads = λ new to kept r. r }

pub leads_next : (n : ℕ) (links : Place → ℕ) (hash : ℕ) (root : Place) (rest : ℕ) (place : Place) (at k : ℕ) → at ≡ suc k → links place ≡ at → at ≤ n → Leads n links hash root rest place → Leads n links hash root (rest / 2) (child rest k)
leads_next n links hash root rest place at k is here w leads = record {
  owned = λ m within. omega (arith, owner_child rest k, within place);
  leads = λ new to kept r. leads.leads new to kept (reaches_next new rest (new place) k to (kept.kept place k (omega arith) (here ∙ is)) r);
}

pub leads_end : (n : ℕ) (links : Place → ℕ) (hash : ℕ) (root : Place) (rest : ℕ) (place : Place) (at wanted : ℕ) → links place ≡ at → at ≡ wanted → Leads n links hash root rest place → IsEnd n links hash root wanted place
leads_end n links hash root rest place at wanted here is leads = record {
  link = here ∙ is;
  owned = leads.owned;
  leads = λ new to kept e. leads.leads new to kept (reaches_here new rest (new place) to e);
}

pub tree_more : (n l buckets : ℕ) (hashes : List ℕ) (old new : Place → ℕ) (hash : ℕ) (place : Place) → hash ≡ slice_index hashes n → IsEnd l old hash (Root (hash % buckets)) 0 place → Puts old new place (n + 1) → IsTree n buckets hashes old → IsTree (n + 1) buckets hashes new
tree_more n l buckets hashes old new hash place is end puts t =
    let stays : (p : Place) (k : ℕ) → old p ≡ suc k → new p ≡ suc k = λ p k e.
    elim (cases_place p place) [
      | inl same ↦ absurd (omega (arith, sym e ∙ ap old same ∙ end.link))
      | inr ne ↦ puts.others p ne ∙ e
    ] in
    record {
      rising = record {
        within = λ p. elim (cases_place p place) [
          | inl same ↦ omega (arith, ap new same ∙ puts.here)
          | inr ne ↦ omega (arith, puts.others p ne, t.rising.within p)
        ];
        above = λ p some. elim (cases_place p place) [
          | inl same ↦ omega (arith, ap new same ∙ puts.here, ap owner same, end.owned n t.rising.within)
          | inr ne ↦ omega (arith, puts.others p ne, t.rising.above p (omega (arith, puts.others p ne)))
        ];
      };
      apart = λ p q k e d. elim (cases_place p place) [
        | inl p_here ↦ elim (cases_place q place) [
          | inl q_here ↦ p_here ∙ sym q_here
          | inr q_not ↦ absurd (omega (arith, sym e ∙ ap new p_here ∙ puts.here, sym d ∙ puts.others q q_not, t.rising.within q))
        ]
        | inr p_not ↦ elim (cases_place q place) [
          | inl q_here ↦ absurd (omega (arith, sym d ∙ ap new q_here ∙ puts.here, sym e ∙ puts.others p p_not, t.rising.within p))
          | inr q_not ↦ t.apart p q k (sym (puts.others p p_not) ∙ e) (sym (puts.others q q_not) ∙ d)
        ]
      ];
      reached = λ k h. elim (cases_eq k n) [
        | inl last ↦
            let hashed : hash ≡ slice_index hashes k = is ∙ ap (slice_index hashes) (sym last) in
            subst (λ x. Reaches new x (new (Root (x % buckets))) (suc k)) hashed (end.leads new (suc k) (record { kept = λ p j _ e. stays p j e }) (omega (arith, puts.here)))
        | inr not ↦ reaches_kept n n old new (slice_index hashes k) (Root (slice_index hashes k % buckets)) k t.rising (record { kept = λ p j _ e. stays p j e }) (omega arith) (t.reached k (omega arith))
      ];
    }

-- ---- one entry less

pub tree_less : (n buckets : ℕ) (hashes : List ℕ) (old new : Place → ℕ) (place : Place) → old place ≡ n + 1 → Puts old new place 0 → IsTree (n + 1) buckets hashes old → IsTree n buckets hashes new
tree_less n buckets hashes old new place link puts t =
    let other : (p : Place) (k : ℕ) → new p ≡ suc k → p ≡ place → ⊥ = λ p k e same. omega (arith, sym e ∙ ap new same ∙ puts.here) in
    let was : (p : Place) (k : ℕ) → new p ≡ suc k → old p ≡ suc k = λ p k e. sym (puts.others p (other p k e)) ∙ e in
    let stays : (p : Place) (k : ℕ) → k < n → old p ≡ suc k → new p ≡ suc k = λ p k l e.
    elim (cases_place p place) [
      | inl same ↦ absurd (omega (arith, sym e ∙ ap old same ∙ link))
      | inr ne ↦ puts.others p ne ∙ e
    ] in
    record {
      rising = record {
        within = λ p. elim (cases_place p place) [
          | inl same ↦ omega (arith, ap new same ∙ puts.here)
          | inr ne ↦ elim (cases_eq (old p) (suc n)) [
            | inl last ↦ absurd (ne (t.apart p place n last (omega (arith, link))))
            | inr not ↦ omega (arith, puts.others p ne, t.rising.within p)
          ]
        ];
        above = λ p some. elim (cases_place p place) [
          | inl same ↦ absurd (omega (arith, ap new same ∙ puts.here))
          | inr ne ↦ omega (arith, puts.others p ne, t.rising.above p (omega (arith, puts.others p ne)))
        ];
      };
      apart = λ p q k e d. t.apart p q k (was p k e) (was q k d);
      reached = λ k h. reaches_kept n (n + 1) old new (slice_index hashes k) (Root (slice_index hashes k % buckets)) k t.rising (record { kept = stays }) h (t.reached k (omega arith));
    }

-- ---- a look

pub ahead_first : (buckets : ℕ) (hashes : List ℕ) (links : Place → ℕ) (Out : ℕ → Type 0) (hash at : ℕ) → at ≡ links (Root (hash % buckets)) → IsTree (length hashes) buckets hashes links → IsAhead hashes links Out hash hash at
ahead_first buckets hashes links Out hash at is t = record {
  within = omega (arith, t.rising.within (Root (hash % buckets)));
  ahead = λ j l e. inl (subst (λ a. Reaches links hash a (suc j)) (sym is) (subst (λ h. Reaches links h (links (Root (h % buckets))) (suc j)) e (t.reached j l)));
}

pub ahead_next : (buckets : ℕ) (hashes : List ℕ) (links : Place → ℕ) (Out : ℕ → Type 0) (hash rest at k : ℕ) → at ≡ suc k → (slice_index hashes k ≡ hash → Out k) → IsTree (length hashes) buckets hashes links → IsAhead hashes links Out hash rest at → IsAhead hashes links Out hash (rest / 2) (links (child rest k))
ahead_next buckets hashes links Out hash rest at k is out t a = record {
  within = t.rising.within (child rest k);
  ahead = λ j l e. elim (cases_eq j k) [
    | inl here ↦ inr (subst Out (sym here) (out (subst (λ i. slice_index hashes i ≡ hash) here e)))
    | inr other ↦ elim (a.ahead j l e) [
      | inl on ↦ inl (reaches_rest links rest at k (suc j) is (λ same. other (omega (arith, same, is))) on)
      | inr ruled ↦ inr ruled
    ]
  ];
}

pub none_ahead : (hashes : List ℕ) (links : Place → ℕ) (Out : ℕ → Type 0) (hash rest at : ℕ) → at ≤ 0 → IsAhead hashes links Out hash rest at → (j : ℕ) → j < length hashes → slice_index hashes j ≡ hash → Out j
none_ahead hashes links Out hash rest at z a j l e = elim (a.ahead j l e) [
  | inl on ↦ absurd (none_reached links rest at j (omega arith) on)
  | inr ruled ↦ ruled
]
