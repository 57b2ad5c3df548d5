-- How graphs grow.
use Rattle.std.proofs.Common.{◌≡◌, ℕ, suc, ◌+◌, ◌<◌, ⊎_elim, Bool, true, List, [], ◌∷◌, ◌++◌, length, refl, ap, subst, ◌∙◌, arith}
use Rattle.std.proofs.lemmas.Bool.{cases_eq, eq-eqb, lt-ltb, and_from}
use Rattle.std.proofs.lemmas.List.{length_push, get_or_append_left, get_or_push, take-append-le, take_all}
use Rattle.aig.specs.declared.gate.Lit.{Lit}
use Rattle.aig.specs.declared.gate.Gate.{Gate}
use Rattle.aig.specs.declared.gate.Gate.TheVariants.{False, Input, And}
use Rattle.aig.specs.Graph.{Says, Obeys, is_placed, count_inputs, IsGraph, Grows}

pub count_inputs-push_and : (gates : List Gate) (p q : Lit) → count_inputs (gates ++ And p q ∷ []) ≡ count_inputs gates
unfolding count_inputs
count_inputs-push_and [] p q = refl
count_inputs-push_and (False ∷ gates) p q = count_inputs-push_and gates p q
count_inputs-push_and (Input n ∷ gates) p q = ap (λ k. suc k) (count_inputs-push_and gates p q)
count_inputs-push_and (And a b ∷ gates) p q = count_inputs-push_and gates p q

pub count_inputs-push_input : (gates : List Gate) (n : ℕ) → count_inputs (gates ++ Input n ∷ []) ≡ count_inputs gates + 1
unfolding count_inputs
count_inputs-push_input [] n = refl
count_inputs-push_input (False ∷ gates) n = count_inputs-push_input gates n
count_inputs-push_input (Input m ∷ gates) n = let h = count_inputs-push_input gates n in omega arith
count_inputs-push_input (And a b ∷ gates) n = count_inputs-push_input gates n

pub IsGraph-push : (gates : List Gate) (g : Gate) → IsGraph gates → is_placed (length gates) (count_inputs gates) g ≡ true → IsGraph (gates ++ g ∷ [])
IsGraph-push gates g h fits =
    let n : ℕ = length gates in
    let long : length (gates ++ g ∷ []) ≡ n + 1 = length_push gates g in
    record {
      some = omega (arith, h.some);
      bottom = get_or_append_left gates (g ∷ []) False 0 h.some ∙ h.bottom;
      each = λ k lt. ⊎_elim
          (λ e. rw e (rw (get_or_push gates g False n refl, take-append-le n gates (g ∷ []) (omega arith), take_all n gates (omega arith)) fits))
          (λ ne. let below : k < length gates = omega arith in rw (get_or_append_left gates (g ∷ []) False k below, take-append-le k gates (g ∷ []) (omega arith)) (h.each k below))
          (cases_eq k n);
    }

pub start : IsGraph (False ∷ [])
start = record {
  some = omega arith;
  bottom = refl;
  each = λ k lt. let e : k ≡ 0 = omega arith in rw e refl;
}

pub none_counted : 0 ≡ count_inputs (False ∷ [])
unfolding count_inputs
none_counted = refl

pub IsGraph-push_and : (gates : List Gate) (p q : Lit) → IsGraph gates → p.node < length gates → q.node < length gates → IsGraph (gates ++ And p q ∷ [])
IsGraph-push_and gates p q h lp lq = IsGraph-push gates (And p q) h (and_from _ _ (lt-ltb p.node (length gates) lp) (lt-ltb q.node (length gates) lq))

pub IsGraph-push_input : (gates : List Gate) (n : ℕ) → IsGraph gates → n ≡ count_inputs gates → IsGraph (gates ++ Input n ∷ [])
IsGraph-push_input gates n h e = IsGraph-push gates (Input n) h (eq-eqb n (count_inputs gates) e)

pub Grows-refl : (gates : List Gate) → Grows gates gates
Grows-refl gates = record { longer = omega arith; same = λ k lt. refl; inputs = refl }

pub Grows-trans : (a b c : List Gate) → Grows a b → Grows b c → Grows a c
Grows-trans a b c h k = record {
  longer = omega (arith, h.longer, k.longer);
  same = λ i lt. k.same i (omega (arith, h.longer)) ∙ h.same i lt;
  inputs = k.inputs ∙ h.inputs;
}

pub Grows-push : (gates : List Gate) (p q : Lit) → Grows gates (gates ++ And p q ∷ [])
Grows-push gates p q = record {
  longer = omega (arith, length_push gates (And p q));
  same = λ k lt. get_or_append_left gates (And p q ∷ []) False k lt;
  inputs = count_inputs-push_and gates p q;
}

-- values that obey a graph obey what it was before
pub Obeys-older : (v : ℕ → Bool) (old new : List Gate) → Grows old new → Obeys v new → Obeys v old
Obeys-older v old new g h = record {
  bottom = h.bottom;
  each = λ k lt. subst (Says v k) (g.same k lt) (h.each k (omega (arith, g.longer)));
}
