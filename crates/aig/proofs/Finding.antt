-- A look for a conjunction among entries by their hashes.
use Rattle.std.proofs.Common.{◌≡◌, ℕ, ◌<◌, List, Option, Some, None, IfNone, length, map, sym, ap, ◌∙◌, inl, inr, arith}
use Rattle.std.specs.Prelude.{slice_index}
use Rattle.std.proofs.lemmas.Bool.{cases_lt}
use Rattle.std.proofs.lemmas.List.{length-map, get_or_past}
use Rattle.std.proofs.Math.ListN.{get_or-map}
use Rattle.aig.specs.declared.gate.Lit.{Lit}
use Rattle.aig.specs.declared.gate.Gate.{Gate}
use Rattle.aig.specs.declared.gate.Gate.TheVariants.{False, And}
use Rattle.aig.specs.Graph.{gate_at}
use Rattle.aig.specs.Table.{hash_of, HasNone}

-- the hash of a node's gate
hash_at : (gates : List Gate) (hashes : List ℕ) (gate : Gate) (k : ℕ) → hashes ≡ map hash_of gates → gate_at gates k ≡ gate → slice_index hashes k ≡ hash_of gate
unfolding hash_of
hash_at gates hashes gate k is e = ap (λ (xs : List ℕ). slice_index xs k) is ∙ get_or-map hash_of gates k False ∙ ap hash_of e

none_has : (gates : List Gate) (hashes : List ℕ) (a b : Lit) (hash : ℕ) → hashes ≡ map hash_of gates → hash ≡ hash_of (And a b) → ((k : ℕ) → k < length gates → slice_index hashes k ≡ hash → gate_at gates k ≡ And a b → ⊥) → HasNone gates (And a b)
none_has gates hashes a b hash is e others = record {
  none = λ k g. elim (cases_lt k (length gates)) [
    | inl within ↦ others k within (hash_at gates hashes (And a b) k is g ∙ sym e) g
    | inr beyond ↦
        let no : And a b ≡ False = sym g ∙ get_or_past gates k False (omega arith) in
        cc
  ];
}

-- a look that rules out each node of the hash of a conjunction
pub none_found : (gates : List Gate) (hashes : List ℕ) (a b : Lit) (hash : ℕ) (result : Option ℕ) (Out : ℕ → Type 0) → hashes ≡ map hash_of gates → hash ≡ hash_of (And a b) → ((k : ℕ) → k < length gates → Out k → gate_at gates k ≡ And a b → ⊥) →
    IfNone result ((k : ℕ) → k < length hashes → slice_index hashes k ≡ hash → Out k) → IfNone result (HasNone gates (And a b))
none_found gates hashes a b hash (Some k) Out is e other none = tt
none_found gates hashes a b hash None Out is e other none =
    let many : length hashes ≡ length gates = ap (λ (xs : List ℕ). length xs) is ∙ length-map gates hash_of in
    none_has gates hashes a b hash is e (λ k within same. other k within (none k (omega arith) same))
