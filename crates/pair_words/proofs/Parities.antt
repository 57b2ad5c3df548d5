-- Sums without carry, in halves.
use Rattle.std.proofs.Common.{◌≡◌, ℕ, ◌+◌, ◌-◌, ◌<◌, Bool, true, false, List, [], ◌∷◌, ◌++◌, length, get_or, take, drop, map, refl, sym, ap, ◌∙◌, arith}
use Rattle.std.proofs.lemmas.List.{map-append, map_more, take_more, length_push, take-append-drop, take_all, length-drop}
use Rattle.std.proofs.lemmas.List.Elements.{All-head, All-tail}
use Rattle.std.specs.List.{All}
use Rattle.aig.specs.declared.gate.Gate.{Gate}
use Rattle.aig.specs.declared.gate.Lit.{Lit}
use Rattle.aig.specs.Graph.{holds, Obeys, IsIn}
use Rattle.aig.proofs.Growth.{Grows-refl}
use Rattle.aig_words.specs.Words.{IsWord, differ, parity_of}
use Rattle.aig_words.proofs.Grown.{IsWord-nil, IsWord-push}
use Rattle.aig_words.proofs.Parities.{differ_apart, differ_none}
use Rattle.fourvec.specs.declared.Bit.{Bit}
use Rattle.fourvec.specs.declared.Bit.TheVariants.{Zero, One, Unknown, Floating}
use Rattle.fourvec.specs.Bits.{bit_of, over, truth_bit, xor_bit}
use Rattle.pair_words.specs.declared.pairs.Pair.{Pair}
use Rattle.pair_words.specs.Rails.{bit_at, bits}
use Rattle.pair_words.specs.Truths.{AreParts}

xor_apart : (a b c : Bit) → xor_bit (xor_bit a b) c ≡ xor_bit a (xor_bit b c)
xor_apart Zero Zero Zero = refl
xor_apart Zero Zero One = refl
xor_apart Zero Zero Unknown = refl
xor_apart Zero Zero Floating = refl
xor_apart Zero One Zero = refl
xor_apart Zero One One = refl
xor_apart Zero One Unknown = refl
xor_apart Zero One Floating = refl
xor_apart One Zero Zero = refl
xor_apart One Zero One = refl
xor_apart One Zero Unknown = refl
xor_apart One Zero Floating = refl
xor_apart One One Zero = refl
xor_apart One One One = refl
xor_apart One One Unknown = refl
xor_apart One One Floating = refl
xor_apart Zero Unknown c = refl
xor_apart Zero Floating c = refl
xor_apart One Unknown c = refl
xor_apart One Floating c = refl
xor_apart Unknown b c = refl
xor_apart Floating b c = refl

over_append : (f : Bit → Bit → Bit) (rest : Bit) (xs ys : List Bit) → over f rest (xs ++ ys) ≡ over f (over f rest ys) xs
unfolding over
over_append f rest [] ys = refl
over_append f rest (x ∷ xs) ys = ap (λ (t : Bit). f x t) (over_append f rest xs ys)

-- one bit
pub parity_one : (v : ℕ → Bool) (a : List Pair) (d : Pair) (rest : Bit) → length a ≡ 1 → xor_bit (bit_at v (get_or a 0 d)) rest ≡ over xor_bit rest (bits v a)
unfolding over
parity_one v [] d rest e = absurd (omega (arith, e))
parity_one v (p ∷ []) d rest e = refl
parity_one v (p ∷ q ∷ a) d rest e = absurd (omega (arith, e))

-- both halves
pub parity_both : (v : ℕ → Bool) (a : List Pair) (h : ℕ) (x y z rest : Bit) → z ≡ xor_bit x y →
    ((r : Bit) → xor_bit x r ≡ over xor_bit r (bits v (take h a))) → ((r : Bit) → xor_bit y r ≡ over xor_bit r (bits v (drop h a))) →
    xor_bit z rest ≡ over xor_bit rest (bits v a)
parity_both v a h x y z rest e first second =
    ap (λ (t : Bit). xor_bit t rest) e ∙
    xor_apart x y rest ∙
    ap (λ (t : Bit). xor_bit x t) (second rest) ∙
    first (over xor_bit rest (bits v (drop h a))) ∙
    sym (over_append xor_bit rest (bits v (take h a)) (bits v (drop h a))) ∙
    ap (λ (t : List Bit). over xor_bit rest t) (sym (map-append (bit_at v) (take h a) (drop h a)) ∙ ap (λ (t : List Pair). bits v t) (take-append-drop h a))

pub parity_none : (v : ℕ → Bool) (a : List Pair) (start : Bit) → length a ≡ 0 → start ≡ over xor_bit start (bits v a)
unfolding over
parity_none v [] start e = refl
parity_none v (p ∷ a) start e = absurd (omega (arith, e))

-- what is behind a place, to its end
pub behind_whole : (h : ℕ) (a : List Pair) → take (length a - h) (drop h a) ≡ drop h a
behind_whole h a = take_all (length a - h) (drop h a) (let e : length (drop h a) ≡ length a - h = length-drop h a in omega (arith, e))

-- ---- parts

parity-push : (v : ℕ → Bool) (xs : List Lit) (l : Lit) → parity_of v (xs ++ l ∷ []) ≡ differ (parity_of v xs) (holds v l)
unfolding parity_of
parity-push v [] l = differ_none (holds v l)
parity-push v (x ∷ xs) l = ap (λ (t : Bool). differ (holds v x) t) (parity-push v xs l) ∙ sym (differ_apart (holds v x) (parity_of v xs) (holds v l))

four_differ : (a b c d : Bool) → differ (differ a b) (differ c d) ≡ differ (differ a c) (differ b d)
four_differ true true true d = refl
four_differ true true false true = refl
four_differ true true false false = refl
four_differ true false true true = refl
four_differ true false true false = refl
four_differ true false false true = refl
four_differ true false false false = refl
four_differ false true true true = refl
four_differ false true true false = refl
four_differ false true false d = refl
four_differ false false true d = refl
four_differ false false false d = refl

pub parts_start : (gates : List Gate) (a : List Pair) (first second : List Lit) → first ≡ [] → second ≡ [] → AreParts gates (take 0 a) first second
unfolding parity_of
parts_start gates a first second e f = rw (e, f) (record {
  first_word = IsWord-nil gates;
  second_word = IsWord-nil gates;
  value = λ v o. refl;
})

-- the parts of one pair more
pub parts_more : (gates : List Gate) (a : List Pair) (i : ℕ) (d : Pair) (first second : List Lit) (x y : Lit) → i < length a → AreParts gates (take i a) first second → IsIn gates x → IsIn gates y →
    ((v : ℕ → Bool) → Obeys v gates → holds v (get_or a i d).up ≡ differ (holds v x) (holds v y)) → AreParts gates (take (i + 1) a) (first ++ x ∷ []) (second ++ y ∷ [])
parts_more gates a i d first second x y lt h hx hy is =
    let p : Pair = get_or a i d in
    let up : Pair → Lit = λ (q : Pair). q.up in
    let long : length (take (i + 1) a) ≡ length (take i a) + 1 = ap (λ (xs : List Pair). length xs) (take_more a i d lt) ∙ length_push (take i a) p in
    record {
      first_word = at (length (take i a) + 1) (length (take (i + 1) a)) (first ++ x ∷ []) (sym long) (IsWord-push gates gates (length (take i a)) first x (Grows-refl gates) h.first_word hx);
      second_word = at (length (take i a) + 1) (length (take (i + 1) a)) (second ++ y ∷ []) (sym long) (IsWord-push gates gates (length (take i a)) second y (Grows-refl gates) h.second_word hy);
      value = λ v o.
          ap (λ (t : Bool). differ t (parity_of v (second ++ y ∷ []))) (parity-push v first x) ∙
          ap (λ (t : Bool). differ (differ (parity_of v first) (holds v x)) t) (parity-push v second y) ∙
          four_differ (parity_of v first) (holds v x) (parity_of v second) (holds v y) ∙
          ap (λ (t : Bool). differ t (differ (holds v x) (holds v y))) (h.value v o) ∙
          ap (λ (t : Bool). differ (parity_of v (map up (take i a))) t) (sym (is v o)) ∙
          sym (parity-push v (map up (take i a)) p.up) ∙
          ap (λ (xs : List Lit). parity_of v xs) (sym (map_more up a i d lt));
    }
  where
    at : (m n : ℕ) (word : List Lit) → m ≡ n → IsWord gates m word → IsWord gates n word
    at m n word e w = record { long = w.long ∙ e; inside = w.inside }

truth_differ : (x y : Bool) → truth_bit (differ x y) ≡ xor_bit (truth_bit x) (truth_bit y)
truth_differ true true = refl
truth_differ true false = refl
truth_differ false true = refl
truth_differ false false = refl

bit_plain : (x : Bool) → bit_of x x ≡ truth_bit x
bit_plain true = refl
bit_plain false = refl

plain_bit : (v : ℕ → Bool) (p : Pair) → p.up ≡ p.low → bit_at v p ≡ truth_bit (holds v p.up)
plain_bit v p e = ap (λ (l : Lit). bit_of (holds v p.up) (holds v l)) (sym e) ∙ bit_plain (holds v p.up)

-- known bits one after another
pub plain_over : (v : ℕ → Bool) (a : List Pair) (rest : Bit) → 0 < length a → All (λ p. p.up ≡ p.low) a → xor_bit (truth_bit (parity_of v (map (λ p. p.up) a))) rest ≡ over xor_bit rest (bits v a)
unfolding over parity_of
plain_over v [] rest some h = absurd (omega arith)
plain_over v (p ∷ []) rest some h =
    ap (λ (t : Bool). xor_bit (truth_bit t) rest) (differ_none (holds v p.up)) ∙ ap (λ (t : Bit). xor_bit t rest) (sym (plain_bit v p (All-head (λ (q : Pair). q.up ≡ q.low) p [] h)))
plain_over v (p ∷ q ∷ a) rest some h =
    ap (λ (t : Bit). xor_bit t rest) (truth_differ (holds v p.up) (parity_of v (map (λ (p : Pair). p.up) (q ∷ a)))) ∙
    xor_apart (truth_bit (holds v p.up)) (truth_bit (parity_of v (map (λ (p : Pair). p.up) (q ∷ a)))) rest ∙
    ap (λ (t : Bit). xor_bit (truth_bit (holds v p.up)) t) (plain_over v (q ∷ a) rest (omega arith) (All-tail (λ (q : Pair). q.up ≡ q.low) p (q ∷ a) h)) ∙
    ap (λ (t : Bit). xor_bit t (over xor_bit rest (bits v (q ∷ a)))) (sym (plain_bit v p (All-head (λ (q : Pair). q.up ≡ q.low) p (q ∷ a) h)))

-- the parts of known bits
pub parts_over : (v : ℕ → Bool) (gates : List Gate) (a : List Pair) (first second : List Lit) (rest : Bit) → Obeys v gates → 0 < length a → All (λ p. p.up ≡ p.low) a → AreParts gates a first second →
    xor_bit (truth_bit (differ (parity_of v first) (parity_of v second))) rest ≡ over xor_bit rest (bits v a)
parts_over v gates a first second rest o some plain h = ap (λ (t : Bool). xor_bit (truth_bit t) rest) (h.value v o) ∙ plain_over v a rest some plain
