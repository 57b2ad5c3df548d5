-- Values of shapes by the vectors of their children.
use Rattle.std.proofs.Common.{◌≡◌, ℕ, zero, suc, ◌+◌, ◌-◌, ◌^◌, ◌<◌, ◌≤◌, Bool, true, false, cond, eqb, inl, inr, Vec, Global, IfOk, Result, Ok, Err, List, [], ◌∷◌, ◌++◌, length, get_or, take, drop, map, replicate, refl, sym, ap, subst, ◌∙◌, arith}
use Rattle.std.specs.List.{All}
use Rattle.std.proofs.lemmas.List.Elements.{All-append, All-take, All-drop, All-replicate, All-cons, All-nil}
use Rattle.std.proofs.lemmas.Bool.{eqb-true, eq-eqb, ne_eqb, cases_lt}
use Rattle.std.proofs.lemmas.Option.{get_or_from_slice_get}
use Rattle.std.specs.Prelude.{slice_get, Some}
use Rattle.std.proofs.lemmas.List.{map_more, length-map, length-replicate, length-append, length-take-le, length-drop, map-append, get_or-map, get_or_past}
use Rattle.aig.specs.declared.gate.Gate.{Gate}
use Rattle.aig.specs.Graph.{Obeys}
use Rattle.svex_shape.specs.declared.shape.VarName.{VarName}
use Rattle.svex_shape.specs.declared.shape.VarName.TheVariants.{Now, Prev, Stim, Chosen, Sampled}
use Rattle.svex_shape.specs.Values.{fitted}
use Rattle.fourvec.specs.declared.Bit.{Bit}
use Rattle.fourvec.specs.declared.Bit.TheVariants.{Zero, Unknown}
use Rattle.fourvec.specs.Bits.{number, vector, is_known, all_x, neg_of, sub_of, shl_of, shr_of, sar_of, moved_up, moved_down, top, each, each_pair, over, not_bit, or_bit, xor_bit, eq_of, concat_of, zext_of, sext_of, first, choose}
use Rattle.fourvec.proofs.Reduce.{eq_by_xor}
use Rattle.pair_words.specs.declared.pairs.Pair.{Pair}
use Rattle.pair_words.specs.Rails.{bit_at, bits, IsWired, IsVector}
use Rattle.pair_words.specs.Ways.{constant_pair}
use Rattle.svex_blast.specs.Reads.{reading_at, word_in, word_fitted, word_read}
use Rattle.pair_words.proofs.Moving.{constant_is, constant_wired, replicate_is}

-- from what an answer promises to what is wanted of it
pub word_from : {E : Type 0} (r : Result (Vec Pair Global) E) (gates : List Gate) (m n : ℕ) → IfOk r (λ w. IsVector gates m w.items) → m ≡ n → IfOk r (λ w. IsVector gates n w.items)
word_from (Ok w) gates m n h e = subst (λ k. IsVector gates k w.items) e h
word_from (Err x) gates m n h e = h

pub value_from : {E : Type 0} (r : Result (Vec Pair Global) E) (gates : List Gate) (f g : (ℕ → Bool) → List Bit) → IfOk r (λ w. (v : ℕ → Bool) → Obeys v gates → bits v w.items ≡ f v) → ((v : ℕ → Bool) → f v ≡ g v) →
    IfOk r (λ w. (v : ℕ → Bool) → Obeys v gates → bits v w.items ≡ g v)
value_from (Ok w) gates f g h e = λ v o. h v o ∙ e v
value_from (Err x) gates f g h e = h

zeros_known : (n : ℕ) → is_known (replicate n Zero) ≡ true
unfolding is_known
zeros_known zero = refl
zeros_known (suc n) = zeros_known n

zeros_number : (n : ℕ) → number (replicate n Zero) ≡ 0
unfolding number
zeros_number zero = refl
zeros_number (suc n) = omega (arith, zeros_number n)

-- the negation is 0 less the vector
pub neg_by_sub : (a : List Bit) → sub_of (replicate (length a) Zero) a ≡ neg_of a
unfolding sub_of neg_of
neg_by_sub a =
    rw (zeros_known (length a), length-replicate (length a) Zero, zeros_number (length a)) (ap (λ n. cond (is_known a) (vector (length a) n) (all_x (length a))) (let e : 0 + (2 ^ length a - number a) ≡ 2 ^ length a - number a = omega arith in e))

-- equality by differences
pub eq_by : (a b apart : List Bit) (s n : Bit) → length a ≡ length b → apart ≡ each_pair xor_bit a b → s ≡ over or_bit Zero apart → n ≡ not_bit s → n ∷ [] ≡ eq_of a b
unfolding each
eq_by a b apart s n same e f g =
    (let h : n ≡ not_bit (over or_bit Zero (each_pair xor_bit a b)) = g ∙ ap not_bit (f ∙ ap (over or_bit Zero) e) in ap (λ t. t ∷ []) h) ∙ sym (eq_by_xor a b same)

pub up_is : (a b : List Bit) → cond (is_known b) (moved_up (number b) a) (all_x (length a)) ≡ shl_of a b
unfolding shl_of
up_is a b = refl

pub down_is : (a b : List Bit) → cond (is_known b) (moved_down Zero (number b) a) (all_x (length a)) ≡ shr_of a b
unfolding shr_of
down_is a b = refl

pub down_signed_is : (a b : List Bit) → cond (is_known b) (moved_down (top a) (number b) a) (all_x (length a)) ≡ sar_of a b
unfolding sar_of
down_signed_is a b = refl

-- the top pair is the top bit
pub top_is : (v : ℕ → Bool) (a : List Pair) (d : Pair) → 0 < length a → bit_at v (get_or a (length a - 1) d) ≡ top (bits v a)
top_is v a d some =
    sym (ap (λ n. get_or (bits v a) (n - 1) Zero) (length-map a (bit_at v)) ∙ get_or-map (bit_at v) a (length a - 1) d Zero (omega arith))

pub first_is : (v : ℕ → Bool) (c : List Pair) (d : Pair) → length c ≡ 1 → bit_at v (get_or c 0 d) ≡ first (bits v c)
first_is v [] d e = absurd (omega arith)
first_is v (p ∷ c) d e = refl

pub concat_is : (v : ℕ → Bool) (a b : List Pair) → bits v (b ++ a) ≡ concat_of (bits v a) (bits v b)
concat_is v a b = map-append (bit_at v) b a

extended_is : (v : ℕ → Bool) (a : List Pair) (width : ℕ) (fill : Pair) (b : Bit) → bit_at v fill ≡ b → bits v (a ++ replicate (width - length a) fill) ≡ bits v a ++ replicate (width - length (bits v a)) b
extended_is v a width fill b e =
    map-append (bit_at v) a (replicate (width - length a) fill) ∙
    ap (λ (t : List Bit). bits v a ++ t) (replicate_is v (width - length a) fill ∙ ap (λ t. replicate (width - length a) t) e) ∙
    ap (λ n. bits v a ++ replicate (width - n) b) (sym (length-map a (bit_at v)))

pub zext_is : (v : ℕ → Bool) (a : List Pair) (width : ℕ) → v 0 ≡ false → bits v (a ++ replicate (width - length a) (constant_pair Zero)) ≡ zext_of (bits v a) width
zext_is v a width h = extended_is v a width (constant_pair Zero) Zero (constant_is v Zero h)

pub sext_is : (v : ℕ → Bool) (a : List Pair) (width : ℕ) (d : Pair) → 0 < length a → bits v (a ++ replicate (width - length a) (get_or a (length a - 1) d)) ≡ sext_of (bits v a) width
sext_is v a width d some = extended_is v a width (get_or a (length a - 1) d) (top (bits v a)) (top_is v a d some)

pub constants_are : (v : ℕ → Bool) (bs : List Bit) → v 0 ≡ false → bits v (map constant_pair bs) ≡ bs
constants_are v [] h = refl
constants_are v (b ∷ bs) h = ap (λ (t : Bit). t ∷ bits v (map constant_pair bs)) (constant_is v b h) ∙ ap (λ (t : List Bit). b ∷ t) (constants_are v bs h)

-- ---- vectors made without gates

pub chosen_at : (v : ℕ → Bool) (f : Bit → Bit → Bit) (c c' a a' b b' : List Pair) → c ≡ c' → a ≡ a' → b ≡ b' → choose f (first (bits v c)) (bits v a) (bits v b) ≡ choose f (first (bits v c')) (bits v a') (bits v b')
chosen_at v f c c' a a' b b' ec ea eb = λ i. choose f (first (bits v (ec i))) (bits v (ea i)) (bits v (eb i))

pub slice_in : (gates : List Gate) (a : List Pair) (lo width : ℕ) → lo + width ≤ length a → All (IsWired gates) a → IsVector gates width (take width (drop lo a))
slice_in gates a lo width le h = record {
  long = length-take-le width (drop lo a) (omega (arith, length-drop lo a));
  inside = All-take (IsWired gates) width (drop lo a) (All-drop (IsWired gates) lo a h);
}

pub extended_in : (gates : List Gate) (a : List Pair) (width : ℕ) (fill : Pair) → length a ≤ width → All (IsWired gates) a → IsWired gates fill → IsVector gates width (a ++ replicate (width - length a) fill)
extended_in gates a width fill le h k = record {
  long = omega (arith, length-append a (replicate (width - length a) fill), length-replicate (width - length a) fill);
  inside = All-append (IsWired gates) a (replicate (width - length a) fill) h (All-replicate (IsWired gates) (width - length a) fill k);
}

pub constants_in : (gates : List Gate) (bs : List Bit) → 0 < length gates → IsVector gates (length bs) (map constant_pair bs)
constants_in gates bs some = record { long = length-map bs constant_pair; inside = all_in bs }
  where
    all_in : (bs : List Bit) → All (IsWired gates) (map constant_pair bs)
    all_in [] = λ k d lt. absurd (omega arith)
    all_in (b ∷ bs) = All-cons (IsWired gates) (constant_pair b) (map constant_pair bs) (constant_wired gates b some) (all_in bs)

pub sext_at : (v : ℕ → Bool) (a a' : List Pair) (width : ℕ) (d : Pair) → 0 < length a → a ≡ a' → bits v (a ++ replicate (width - length a) (get_or a (length a - 1) d)) ≡ sext_of (bits v a') width
sext_at v a a' width d some e = sext_is v a width d some ∙ ap (λ (t : List Pair). sext_of (bits v t) width) e

-- ---- variables

x_word : (v : ℕ → Bool) (width : ℕ) → v 0 ≡ false → bits v (replicate width (constant_pair Unknown)) ≡ all_x width
x_word v width h = replicate_is v width (constant_pair Unknown) ∙ ap (λ (t : Bit). replicate width t) (constant_is v Unknown h)

x_fitted : (width : ℕ) → all_x width ≡ fitted width []
unfolding fitted
x_fitted zero = refl
x_fitted (suc width) = sym (ap (λ (t : Bool). cond t [] (all_x (suc width))) (ne_eqb 0 (suc width) (λ e. omega arith)))

fitted_is : (v : ℕ → Bool) (a : List Pair) (width : ℕ) → v 0 ≡ false → bits v (word_fitted width a) ≡ fitted width (bits v a)
unfolding fitted word_fitted
fitted_is v a width h = by_width (eqb (length a) width) (eqb (length (bits v a)) width) (ap (λ n. eqb n width) (sym (length-map a (bit_at v))))
  where
    by_width : (s t : Bool) → s ≡ t → bits v (cond s a (replicate width (constant_pair Unknown))) ≡ cond t (bits v a) (all_x width)
    by_width true true e = refl
    by_width true false e = cc
    by_width false true e = cc
    by_width false false e = x_word v width h

in_map : (v : ℕ → Bool) (vars : List (List Pair)) (k : ℕ) → bits v (get_or vars k []) ≡ get_or (map (bits v) vars) k []
in_map v [] k = refl
in_map v (a ∷ vars) zero = refl
in_map v (a ∷ vars) (suc k) = in_map v vars k

pub read_is : (v : ℕ → Bool) (vars : List (List Pair)) (name : VarName) (width : ℕ) → v 0 ≡ false → bits v (word_read vars name width) ≡ reading_at v vars name width
read_is v vars (Chosen k) width h = fitted_is v (get_or vars k []) width h ∙ ap (fitted width) (in_map v vars k)
read_is v vars (Now k) width h = x_word v width h ∙ x_fitted width
read_is v vars (Prev k) width h = x_word v width h ∙ x_fitted width
read_is v vars (Stim k) width h = x_word v width h ∙ x_fitted width
read_is v vars (Sampled k) width h = x_word v width h ∙ x_fitted width

x_in : (gates : List Gate) (width : ℕ) → 0 < length gates → IsVector gates width (replicate width (constant_pair Unknown))
x_in gates width some = record { long = length-replicate width (constant_pair Unknown); inside = All-replicate (IsWired gates) width (constant_pair Unknown) (constant_wired gates Unknown some) }

fitted_in : (gates : List Gate) (a : List Pair) (width : ℕ) → 0 < length gates → All (IsWired gates) a → IsVector gates width (word_fitted width a)
unfolding word_fitted
fitted_in gates a width some h = by_width (eqb (length a) width) refl
  where
    by_width : (s : Bool) → eqb (length a) width ≡ s → IsVector gates width (cond s a (replicate width (constant_pair Unknown)))
    by_width true e = record { long = eqb-true (length a) width e; inside = h }
    by_width false e = x_in gates width some

word_at : (gates : List Gate) (vars : List (List Pair)) (k : ℕ) → All (All (IsWired gates)) vars → All (IsWired gates) (get_or vars k [])
word_at gates vars k h =
    elim (cases_lt k (length vars)) [
      | inl lt ↦ h k [] lt
      | inr past ↦ subst (λ (t : List Pair). All (IsWired gates) t) (sym (get_or_past vars k [] past)) (All-nil (IsWired gates))
    ]

pub read_in : (gates : List Gate) (vars : List (List Pair)) (name : VarName) (width : ℕ) → 0 < length gates → All (All (IsWired gates)) vars → IsVector gates width (word_read vars name width)
read_in gates vars (Chosen k) width some h = fitted_in gates (get_or vars k []) width some (word_at gates vars k h)
read_in gates vars (Now k) width some h = x_in gates width some
read_in gates vars (Prev k) width some h = x_in gates width some
read_in gates vars (Stim k) width some h = x_in gates width some
read_in gates vars (Sampled k) width some h = x_in gates width some

pub fitted_same : (a : List Pair) (width : ℕ) → length a ≡ width → a ≡ word_fitted width a
unfolding word_fitted
fitted_same a width e = sym (ap (λ (t : Bool). cond t a (replicate width (constant_pair Unknown))) (eq-eqb (length a) width e))

pub fitted_other : (a : List Pair) (width : ℕ) → (length a ≡ width → ⊥) → replicate width (constant_pair Unknown) ≡ word_fitted width a
unfolding word_fitted
fitted_other a width ne = sym (ap (λ (t : Bool). cond t a (replicate width (constant_pair Unknown))) (ne_eqb (length a) width ne))

empty_fitted : (width : ℕ) → replicate width (constant_pair Unknown) ≡ word_fitted width []
unfolding word_fitted
empty_fitted zero = refl
empty_fitted (suc width) = fitted_other [] (suc width) (λ e. omega arith)

pub word_past : (vars : List (List Pair)) (k width : ℕ) → length vars ≤ k → replicate width (constant_pair Unknown) ≡ word_fitted width (word_in vars k)
word_past vars k width le = empty_fitted width ∙ ap (word_fitted width) (sym (get_or_past vars k [] le))

pub constants_more : (value : List Bit) (word : List Pair) (i : ℕ) (b : Bit) (p : Pair) → i < length value → slice_get value i ≡ Some b → word ≡ map constant_pair (take i value) → p ≡ constant_pair b →
    word ++ p ∷ [] ≡ map constant_pair (take (i + 1) value)
constants_more value word i b p lt get before here =
    ap (λ (t : List Pair). t ++ p ∷ []) before ∙ ap (λ (t : Pair). map constant_pair (take i value) ++ t ∷ []) (here ∙ ap constant_pair (sym (get_or_from_slice_get value i b Zero get))) ∙
    sym (map_more constant_pair value i Zero lt)
