-- What stays as graphs grow.
use Rattle.std.proofs.Common.{◌≡◌, ℕ, ◌+◌, ◌-◌, ◌*◌, ◌<◌, ◌≤◌, List, [], ◌∷◌, ◌++◌, length, get_or, sym, subst, ◌∙◌, arith}
use Rattle.std.proofs.lemmas.Nat.{mul-le}
use Rattle.std.proofs.lemmas.List.{length_push}
use Rattle.std.proofs.lemmas.List.Elements.{All-weaker, All-push, All-nil}
use Rattle.std.specs.List.{All}
use Rattle.std.specs.Prelude.{Result, Ok, Err, IfOk}
use Rattle.aig.specs.declared.gate.Gate.{Gate}
use Rattle.aig.specs.declared.gate.Lit.{Lit}
use Rattle.aig.specs.Graph.{Grows, IsIn}
use Rattle.aig.proofs.Growth.{Grows-refl}
use Rattle.aig_words.specs.Words.{Grew, IsWord}
use Rattle.aig_words.proofs.Grown.{IsIn-later, IsWord-nil, IsWord-push}
use Rattle.pair_words.specs.declared.pairs.Pair.{Pair}
use Rattle.pair_words.specs.Rails.{IsWired, IsVector}

pub IsWired-later : (old new : List Gate) (p : Pair) → Grows old new → IsWired old p → IsWired new p
IsWired-later old new p g h = record { up = IsIn-later old new p.up g h.up; low = IsIn-later old new p.low g h.low }

pub wired-later : (old new : List Gate) (word : List Pair) → Grows old new → All (IsWired old) word → All (IsWired new) word
wired-later old new word g h = All-weaker (IsWired old) (IsWired new) (λ p i. IsWired-later old new p g i) word h

pub IsVector-later : (old new : List Gate) (width : ℕ) (word : List Pair) → Grows old new → IsVector old width word → IsVector new width word
IsVector-later old new width word g h = record { long = h.long; inside = wired-later old new word g h.inside }

pub IsVector-nil : (gates : List Gate) → IsVector gates 0 []
IsVector-nil gates = record { long = omega arith; inside = All-nil (IsWired gates) }

-- one more pair, in a graph that has grown
pub IsVector-push : (old new : List Gate) (i : ℕ) (word : List Pair) (p : Pair) → Grows old new → IsVector old i word → IsWired new p → IsVector new (i + 1) (word ++ p ∷ [])
IsVector-push old new i word p g h k = record {
  long = omega (arith, length_push word p, h.long);
  inside = All-push (IsWired new) word p (wired-later old new word g h.inside) k;
}

-- so many nodes for each bit, or for each pair of bits, within more of them
pub within_square : (k w n : ℕ) → k ≤ n → 0 < w → k * w ≤ n * w * w
within_square k w n le some = omega (arith, mul-le (n * w) 1 (n * w) w (omega arith) some, mul-le k w n w le (omega arith))

pub within_squares : (k w n : ℕ) → k ≤ n → k * w * w ≤ n * w * w
within_squares k w n le = mul-le (k * w) w (n * w) w (mul-le k w n w le (omega arith)) (omega arith)

pub within_both : (w : ℕ) → 0 < w → 11 * w * w + 40 * w ≤ 100 * w * w
within_both w some = let h = within_square 40 w 80 (omega arith) some in let e : 11 * w * w + 80 * w * w ≤ 100 * w * w = grind arith in omega (arith, h, e)

-- a graph with a pair in it has a node
pub some_gate : (gates : List Gate) (a : List Pair) (d : Pair) → 0 < length a → All (IsWired gates) a → 0 < length gates
some_gate gates a d lt h = let k = (h 0 d lt).up in omega (arith, k)

pub vector_at : (gates : List Gate) (m n : ℕ) (word : List Pair) → m ≡ n → IsVector gates m word → IsVector gates n word
vector_at gates m n word e h = record { long = h.long ∙ e; inside = h.inside }

pub Grew_at : (m n : ℕ) (old new : List Gate) → m ≡ n → Grew m old new → Grew n old new
Grew_at m n old new e h = record { grows = h.grows; nodes = omega (arith, h.nodes, e); flat = h.flat }

-- one place more, within all of them
pub one_place : (m i n : ℕ) → i < n → m * i + m ≤ m * n
one_place m i n lt = let h : m * i + m ≡ m * (i + 1) = grind arith in let k = mul-le m (i + 1) m n (omega arith) (omega (arith, lt)) in omega (arith, h, k)

-- an equal list is in the graph too
pub wired_at : (gates : List Gate) (a b : List Pair) → b ≡ a → All (IsWired gates) a → All (IsWired gates) b
wired_at gates a b e h = subst (λ (t : List Pair). All (IsWired gates) t) (sym e) h

-- what two promises of a result make of it
pub if_both : {T E : Type 0} (r : Result T E) (P Q S : T → Type 0) → IfOk r P → IfOk r Q → ((x : T) → P x → Q x → S x) → IfOk r S
if_both (Ok x) P Q S p q f = f x p q
if_both (Err e) P Q S p q f = tt

pub one_word : (gates : List Gate) (word : List Lit) (l : Lit) → word ≡ l ∷ [] → IsIn gates l → IsWord gates 1 word
one_word gates word l e h = subst (λ (xs : List Lit). IsWord gates 1 xs) (sym e) (IsWord-push gates gates 0 [] l (Grows-refl gates) (IsWord-nil gates) h)

pub literals_at : (gates : List Gate) (a b : List Lit) → b ≡ a → All (IsIn gates) a → All (IsIn gates) b
literals_at gates a b e h = subst (λ (t : List Lit). All (IsIn gates) t) (sym e) h

pub word_at : (gates : List Gate) (m n : ℕ) (word : List Lit) → m ≡ n → IsWord gates m word → IsWord gates n word
word_at gates m n word e h = record { long = h.long ∙ e; inside = h.inside }

pub top_in : (gates : List Gate) (a : List Lit) (d : Lit) → 0 < length a → All (IsIn gates) a → IsIn gates (get_or a (length a - 1) d)
top_in gates a d some h = h (length a - 1) d (omega arith)

-- the rails of a pair of an older graph
pub up_later : (old new : List Gate) (p : Pair) → Grows old new → IsWired old p → IsIn new p.up
up_later old new p g h = IsIn-later old new p.up g h.up

pub low_later : (old new : List Gate) (p : Pair) → Grows old new → IsWired old p → IsIn new p.low
low_later old new p g h = IsIn-later old new p.low g h.low
