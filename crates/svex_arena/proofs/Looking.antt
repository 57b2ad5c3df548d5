-- A look for a shape among the nodes of its hash.
use Rattle.std.proofs.Common.{◌≡◌, ℕ, ◌<◌, List, [], Option, Some, None, IfNone, length, map, sym, ap, ◌∙◌, arith}
use Rattle.std.specs.Prelude.{slice_index}
use Rattle.std.proofs.lemmas.List.{get_or-map, length-map}
use Rattle.svex_shape.specs.declared.shape.Shape.{Shape}
use Rattle.svex_shape.specs.declared.shape.Shape.TheVariants.{Const}
use Rattle.svex_shape.specs.Shapes.{shape_at}
use Rattle.svex_arena.specs.Hashes.{hash_of}
use Rattle.svex_arena.specs.Looks.{HasNone}

-- a look that rules out each node of the hash of a shape
pub none_found : (shapes : List Shape) (hashes : List ℕ) (shape : Shape) (hash : ℕ) (result : Option ℕ) (Out : ℕ → Type 0) → hashes ≡ map hash_of shapes → hash ≡ hash_of shape → ((k : ℕ) → k < length shapes → Out k → shape_at shapes k ≡ shape → ⊥) →
    IfNone result ((k : ℕ) → k < length hashes → slice_index hashes k ≡ hash → Out k) → IfNone result (HasNone shapes shape (length shapes))
none_found shapes hashes shape hash (Some k) Out all is other none = tt
none_found shapes hashes shape hash None Out all is other none =
    let many : length hashes ≡ length shapes = ap (λ (hs : List ℕ). length hs) all ∙ length-map shapes hash_of in
    record {
      none = λ k l e. other k l (none k (omega arith) (ap (λ (hs : List ℕ). slice_index hs k) all ∙ get_or-map hash_of shapes k (Const []) 0 l ∙ ap hash_of e ∙ sym is)) e;
    }
