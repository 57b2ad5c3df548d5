-- What stays as graphs grow.
use Rattle.std.proofs.Common.{◌≡◌, ℕ, ◌+◌, ◌*◌, ◌<◌, ◌≤◌, false, List, [], ◌∷◌, ◌++◌, ◌-◌, length, get_or, take, drop, map, replicate, Result, IfOk, sym, subst, arith}
use Rattle.std.proofs.lemmas.Result.{IfOk-weaker}
use Rattle.std.proofs.lemmas.List.{length_push, length-replicate}
use Rattle.std.proofs.lemmas.List.Elements.{All-weaker, All-push, All-nil, All-map, All-replicate, All-append, All-take, All-drop, All-cons}
use Rattle.std.specs.List.{All}
use Rattle.aig.specs.declared.gate.Lit.{Lit}
use Rattle.aig.specs.declared.gate.Gate.{Gate}
use Rattle.aig.specs.Graph.{Grows, IsIn, negation, constant_lit}
use Rattle.aig.proofs.Growth.{Grows-refl, Grows-trans}
use Rattle.aig_words.specs.declared.lists.Way.{Way}
use Rattle.aig_words.specs.declared.lists.Way.TheVariants.{Up, Down}
use Rattle.aig_words.proofs.Steps.{stages_fit}
use Rattle.aig_words.specs.Words.{Grew, IsWord, moved, FillsFrom}

pub Grew-refl : (most : ℕ) (gates : List Gate) → Grew most gates gates
Grew-refl most gates = record { grows = Grows-refl gates; nodes = omega arith; flat = λ f. f }

-- one step after another, within a bound
pub Grew-then : (m n most : ℕ) (a b c : List Gate) → m + n ≤ most → Grew m a b → Grew n b c → Grew most a c
Grew-then m n most a b c le h k = record { grows = Grows-trans a b c h.grows k.grows; nodes = omega (arith, h.nodes, k.nodes); flat = λ f. k.flat (h.flat f) }

pub Grew-wider : (m most : ℕ) (a b : List Gate) → m ≤ most → Grew m a b → Grew most a b
Grew-wider m most a b le h = record { grows = h.grows; nodes = omega (arith, h.nodes); flat = h.flat }

-- the same, with the sums as they stand
pub Grew-both : (m n : ℕ) (a b c : List Gate) → Grew m a b → Grew n b c → Grew (m + n) a c
Grew-both m n a b c h k = Grew-then m n (m + n) a b c (omega arith) h k

pub Grew-more : (m n : ℕ) (a b : List Gate) → Grew m a b → Grew (m + n) a b
Grew-more m n a b h = Grew-wider m (m + n) a b (omega arith) h

pub IsIn-later : (old new : List Gate) (l : Lit) → Grows old new → IsIn old l → IsIn new l
IsIn-later old new l g h = omega (arith, g.longer)

pub negation_in : (gates : List Gate) (l m : Lit) → m ≡ negation l → IsIn gates l → IsIn gates m
negation_in gates l m e h = subst (λ (k : Lit). k.node < length gates) (sym e) h

pub All-later : (old new : List Gate) (word : List Lit) → Grows old new → All (IsIn old) word → All (IsIn new) word
All-later old new word g h = All-weaker (IsIn old) (IsIn new) (λ l i. IsIn-later old new l g i) word h

pub IsWord-later : (old new : List Gate) (width : ℕ) (word : List Lit) → Grows old new → IsWord old width word → IsWord new width word
IsWord-later old new width word g h = record { long = h.long; inside = All-later old new word g h.inside }

pub IsWord-nil : (gates : List Gate) → IsWord gates 0 []
IsWord-nil gates = record { long = omega arith; inside = All-nil (IsIn gates) }

-- one more literal, in a graph that has grown
pub IsWord-push : (old new : List Gate) (i : ℕ) (word : List Lit) (l : Lit) → Grows old new → IsWord old i word → IsIn new l → IsWord new (i + 1) (word ++ l ∷ [])
IsWord-push old new i word l g h k = record {
  long = omega (arith, length_push word l, h.long);
  inside = All-push (IsIn new) word l (All-later old new word g h.inside) k;
}

-- words made without gates
pub negated_in : (gates : List Gate) (a : List Lit) → All (IsIn gates) a → All (IsIn gates) (map negation a)
negated_in gates a h = All-map (IsIn gates) negation a h

pub zeros_in : (gates : List Gate) (n : ℕ) → 0 < length gates → All (IsIn gates) (replicate n (constant_lit false))
zeros_in gates n lt = All-replicate (IsIn gates) n (constant_lit false) lt

pub moved_in : (gates : List Gate) (way : Way) (k : ℕ) (a : List Lit) → 0 < length gates → FillsFrom gates way → All (IsIn gates) a → All (IsIn gates) (moved way k a)
moved_in gates Up k a lt fills h = All-append (IsIn gates) (replicate k (constant_lit false)) (take (length a - k) a) (zeros_in gates k lt) (All-take (IsIn gates) (length a - k) a h)
moved_in gates (Down fill) k a lt fills h = All-append (IsIn gates) (drop k a) (replicate k fill) (All-drop (IsIn gates) k a h) (All-replicate (IsIn gates) k fill fills)

pub fills_later : (old new : List Gate) (way : Way) → Grows old new → FillsFrom old way → FillsFrom new way
fills_later old new Up g h = tt
fills_later old new (Down fill) g h = IsIn-later old new fill g h

-- a graph with a literal in it has a node
pub some_node : (gates : List Gate) (a : List Lit) → 0 < length a → All (IsIn gates) a → 0 < length gates
some_node gates a lt h = let k : (get_or a 0 (constant_lit false)).node < length gates = h 0 (constant_lit false) lt in omega arith

pub IsWord-zeros : (gates : List Gate) (n : ℕ) → 0 < length gates → IsWord gates n (replicate n (constant_lit false))
IsWord-zeros gates n lt = record { long = length-replicate n (constant_lit false); inside = zeros_in gates n lt }

-- one more literal below, in a graph that has grown
pub IsWord-cons : (old new : List Gate) (i : ℕ) (word : List Lit) (l : Lit) → Grows old new → IsWord old i word → IsIn new l → IsWord new (i + 1) (l ∷ word)
IsWord-cons old new i word l g h k = record {
  long = omega (arith, h.long);
  inside = All-cons (IsIn new) l word k (All-later old new word g h.inside);
}

-- the stages of a shift, the test of the other bits and the last choice
pub Grew-stages : (l j : ℕ) (rest : List Lit) (a b c d : List Gate) → 0 < l → j ≤ l → length rest ≤ l → Grew (3 * l * j) a b → Grew (length rest) b c → Grew (3 * l) c d → Grew (7 * l * l) a d
Grew-stages l j rest a b c d some le few g h k =
    let most : 3 * l * j + (length rest + 3 * l) ≤ 7 * l * l = stages_fit l j (length rest) some le few in
    Grew-then (3 * l * j) (length rest + 3 * l) (7 * l * l) a b d most g (Grew-then (length rest) (3 * l) (length rest + 3 * l) b c d (omega arith) h k)

-- one turn of a division: a sum of n columns, the test of the other bits, one node, and a choice
pub turn_fits : (n d l : ℕ) → 0 < l → n + d ≤ l → 7 * n + (d + (1 + 3 * n)) ≤ 11 * l
turn_fits n d l some le = omega arith

-- what a last call promises of its result, for another promise
pub if_ok : {T E : Type 0} (r : Result T E) (P Q : T → Type 0) → IfOk r P → ((x : T) → P x → Q x) → IfOk r Q
if_ok r P Q h f = IfOk-weaker r P Q f h
