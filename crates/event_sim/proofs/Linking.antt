-- What is kept of where nets lie and of what takes what, one number after another.
use Rattle.std.proofs.Common.{◌≡◌, ℕ, ◌+◌, ◌<◌, List, [], ◌∷◌, ◌++◌, length, get_or, take, sym, ap, ◌∙◌, subst, inl, inr}
use Rattle.std.specs.Prelude.{All, IfSome, Contains}
use Rattle.std.proofs.lemmas.List.{take_more}
use Rattle.std.proofs.lemmas.List.Elements.{All-push, All-weaker, Contains-append_cases}
use Rattle.node_memo.specs.Lists.{Gains}
use Rattle.node_memo.proofs.Rows.{one-has}
use Rattle.event_nets.specs.declared.gift.Gift.{Gift}
use Rattle.event_nets.specs.declared.gift.Source.{Source}
use Rattle.event_nets.specs.declared.gift.Source.TheVariants.{Value, Stimulus}
use Rattle.event_nets.specs.Needs.{node_of}
use Rattle.event_sim.specs.Linked.{IsTakenBy, AreTaken}

some-kept : (old new : List (List ℕ)) (number low : ℕ) → Gains old number new → (from : Source)
    → IfSome (node_of from) (λ k. Contains (get_or old k []) low) → IfSome (node_of from) (λ k. Contains (get_or new k []) low)
some-kept old new number low g (Value k) h = g.keeps k low h
some-kept old new number low g (Stimulus n) h = tt

pub taken-kept : (old new : List (List ℕ)) (number low : ℕ) → Gains old number new → (gifts : List Gift) → All (IsTakenBy old low) gifts → All (IsTakenBy new low) gifts
taken-kept old new number low g gifts h =
    All-weaker (IsTakenBy old low) (IsTakenBy new low) (λ x t. some-kept old new number low g x.from t) gifts h

pub taken-push : (old new : List (List ℕ)) (low : ℕ) (gifts : List Gift) (i : ℕ) (g : Gift) → i < length gifts → g ≡ get_or gifts i g → Gains old low new
    → All (IsTakenBy old low) (take i gifts) → IsTakenBy new low g → All (IsTakenBy new low) (take (i + 1) gifts)
taken-push old new low gifts i g lt is gains h own =
    let more : take (i + 1) gifts ≡ take i gifts ++ g ∷ [] = take_more gifts i g lt ∙ ap (λ (x : Gift). take i gifts ++ x ∷ []) (sym is) in
    subst (λ (l : List Gift). All (IsTakenBy new low) l) (sym more) (All-push (IsTakenBy new low) (take i gifts) g (taken-kept old new low low gains (take i gifts) h) own)

pub nets-more : (nets : List ℕ) (given : List (List Gift)) (old new : List (List ℕ)) (i : ℕ) → i < length nets → Gains old (get_or nets i 0) new
    → AreTaken (take i nets) given old → All (IsTakenBy new (get_or nets i 0)) (get_or given (get_or nets i 0) []) → AreTaken (take (i + 1) nets) given new
nets-more nets given old new i lt g h own low c =
    elim (Contains-append_cases (take i nets) (get_or nets i 0 ∷ []) low (subst (λ (l : List ℕ). Contains l low) (take_more nets i 0 lt) c)) [
      | inl before ↦ taken-kept old new (get_or nets i 0) low g (get_or given low []) (h low before)
      | inr last ↦ subst (λ (k : ℕ). All (IsTakenBy new k) (get_or given k [])) (sym (one-has low (get_or nets i 0) last)) own
    ]
