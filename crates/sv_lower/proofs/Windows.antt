-- How parts lie over vectors.
use Rattle.std.proofs.Common.{◌≡◌, ℕ, zero, suc, ◌+◌, ◌-◌, ◌<◌, ◌≤◌, min, Bool, true, false, List, ◌∷◌, ◌++◌, length, take, get_or, refl, sym, ap, ◌∙◌, ◌⊎◌, inl, inr, arith}
use Rattle.std.specs.Prelude.{ℤ, pos, negsuc, neg_ℤ, ◌+ℤ◌}
use Rattle.std.proofs.lemmas.Int.{ints}
use Rattle.std.proofs.lemmas.Bool.{cases_lt}
use Rattle.std.proofs.lemmas.List.{drop_more, get_or_past}
use Rattle.fourvec.specs.declared.Bit.{Bit}
use Rattle.fourvec.specs.declared.Bit.TheVariants.{Unknown}
use Rattle.fourvec.specs.Bits.{all_x, slice_of}
use Rattle.fourvec.specs.Spots.{bit_from, window, reached}
use Rattle.sv_lower.specs.Nodes.{IsSpan}

-- ---- windows

pub window_within : (v : List Bit) (lo w : ℕ) → lo + w ≤ length v → window v (pos lo) w ≡ slice_of v lo w
unfolding window
window_within v lo zero h = refl
window_within v lo (suc w) h =
    ap (λ xs. get_or v lo Unknown ∷ xs) (window_within v (lo + 1) w (omega arith)) ∙ sym (ap (take (suc w)) (drop_more v lo Unknown (omega arith)))

pub window_past : (v : List Bit) (lo w : ℕ) → length v ≤ lo → window v (pos lo) w ≡ all_x w
unfolding window
window_past v lo zero h = refl
window_past v lo (suc w) h =
    ap (λ b. b ∷ window v (pos (lo + 1)) w) (get_or_past v lo Unknown h) ∙ ap (λ xs. Unknown ∷ xs) (window_past v (lo + 1) w (omega arith))

pub window_split : (v : List Bit) (z : ℤ) (k m : ℕ) → window v z (k + m) ≡ window v z k ++ window v (z +ℤ pos k) m
unfolding window
window_split v z zero m =
    let none : 0 + m ≡ m = omega arith in
    let here : z ≡ z +ℤ pos 0 = omega (arith, ints) in
    ap (window v z) none ∙ ap (λ y. window v y m) here
window_split v z (suc k) m =
    let next : suc k + m ≡ suc (k + m) = omega arith in
    let same : z +ℤ pos 1 +ℤ pos k ≡ z +ℤ pos (suc k) = omega (arith, ints) in
    ap (window v z) next ∙ ap (λ xs. bit_from v z ∷ xs) (window_split v (z +ℤ pos 1) k m) ∙ ap (λ y. bit_from v z ∷ window v (z +ℤ pos 1) k ++ window v y m) same

pub window_before : (v : List Bit) (j k : ℕ) → k ≤ suc j → window v (negsuc j) k ≡ all_x k
unfolding window
window_before v j zero h = refl
window_before v zero (suc k) h = let none : k ≡ 0 = omega arith in rw none refl
window_before v (suc j) (suc k) h =
    let next : negsuc (suc j) +ℤ pos 1 ≡ negsuc j = omega (arith, ints) in
    ap (λ z. Unknown ∷ window v z k) next ∙ ap (λ xs. Unknown ∷ xs) (window_before v j k (omega arith))

-- ---- spans

window_none : (v : List Bit) (z : ℤ) (w : ℕ) → w ≡ 0 → window v z w ≡ all_x w
unfolding window
window_none v z zero h = refl
window_none v z (suc w) h = absurd (omega arith)

up : (v : List Bit) (k w lo inside : ℕ) → lo ≡ min k (length v) → inside ≡ min w (length v - lo) → window v (pos k) w ≡ slice_of v lo inside ++ all_x (w - inside)
up v k w lo inside e f = elim (cases_lt (length v) k) [
  | inl past ↦
      let none : inside ≡ 0 = omega arith in
      let whole : w ≡ w - 0 = omega arith in
      window_past v k w (omega arith) ∙ ap (λ n. all_x n) whole ∙ sym (ap (λ n. slice_of v lo n ++ all_x (w - n)) none)
  | inr within ↦
      let here : k ≡ lo = omega arith in
      let parts : w ≡ inside + (w - inside) = omega arith in
      ap (window v (pos k)) parts ∙ window_split v (pos k) inside (w - inside)
      ∙ ap (λ n. window v (pos n) inside ++ window v (pos n +ℤ pos inside) (w - inside)) here
      ∙ ap (λ xs. xs ++ window v (pos (lo + inside)) (w - inside)) (window_within v lo inside (omega arith))
      ∙ ap (λ xs. slice_of v lo inside ++ xs) (rest (cases_lt (lo + inside) (length v)))
]
  where
    rest : ((lo + inside < length v) ⊎ (length v ≤ lo + inside)) → window v (pos (lo + inside)) (w - inside) ≡ all_x (w - inside)
    rest (inl lt) = window_none v (pos (lo + inside)) (w - inside) (omega arith)
    rest (inr le) = window_past v (lo + inside) (w - inside) le

down : (v : List Bit) (j w below inside : ℕ) → below ≡ min (suc j) w → inside ≡ min (w - below) (length v) → window v (negsuc j) w ≡ all_x below ++ (slice_of v 0 inside ++ all_x (w - below - inside))
down v j w below inside e f =
    let parts : w ≡ below + (w - below) = omega arith in
    ap (window v (negsuc j)) parts ∙ window_split v (negsuc j) below (w - below)
    ∙ ap (λ xs. xs ++ window v (negsuc j +ℤ pos below) (w - below)) (window_before v j below (omega arith))
    ∙ ap (λ xs. all_x below ++ xs) (rest (cases_lt j w))
  where
    rest : ((j < w) ⊎ (w ≤ j)) → window v (negsuc j +ℤ pos below) (w - below) ≡ slice_of v 0 inside ++ all_x (w - below - inside)
    rest (inl lt) =
        let all : below ≡ suc j = omega arith in
        let at : negsuc j +ℤ pos below ≡ pos 0 = omega (arith, ints) in
        ap (λ z. window v z (w - below)) at ∙ up v 0 (w - below) 0 inside (omega arith) (omega arith)
    rest (inr le) =
        let none : w - below ≡ 0 = omega arith in
        let nothing : inside ≡ 0 = omega arith in
        let whole : w - below ≡ w - below - 0 = omega arith in
        window_none v (negsuc j +ℤ pos below) (w - below) none ∙ ap (λ n. all_x n) whole ∙ sym (ap (λ n. slice_of v 0 n ++ all_x (w - below - n)) nothing)

down_from : (v : List Bit) (far w below inside : ℕ) → below ≡ min far w → inside ≡ min (w - below) (length v) → window v (neg_ℤ (pos far)) w ≡ all_x below ++ (slice_of v 0 inside ++ all_x (w - below - inside))
down_from v zero w below inside e f =
    let none : below ≡ 0 = omega arith in
    let same : w - below ≡ w = omega arith in
    up v 0 w 0 inside (omega arith) (omega arith) ∙ ap (λ n. slice_of v 0 inside ++ all_x (n - inside)) (sym same) ∙ ap (λ n. all_x n ++ (slice_of v 0 inside ++ all_x (w - below - inside))) (sym none)
down_from v (suc j) w below inside e f = down v j w below inside e f

pub span_up : (size : ℕ) (b : Bool) (width far lo inside above : ℕ) → b ≡ false → lo ≡ min far size → inside ≡ min width (size - lo) → above ≡ width - inside → IsSpan size (reached b far) width 0 lo inside above
span_up size false width far lo inside above p l i a = record {
  sum = omega arith;
  within = omega arith;
  gives = λ v e. up v far width lo inside (omega arith) (omega arith) ∙ ap (λ n. slice_of v lo inside ++ all_x n) (sym a);
}
span_up size true width far lo inside above p l i a = cc

pub span_down : (size : ℕ) (b : Bool) (width far below inside above : ℕ) → b ≡ true → below ≡ min far width → inside ≡ min (width - below) size → above ≡ width - below - inside → IsSpan size (reached b far) width below 0 inside above
span_down size true width far below inside above p b i a = record {
  sum = omega arith;
  within = omega arith;
  gives = λ v e. down_from v far width below inside (omega arith) (omega arith) ∙ ap (λ n. all_x below ++ (slice_of v 0 inside ++ all_x n)) (sym a);
}
span_down size false width far below inside above p b i a = cc

pub ruleset spans = (span_up, span_down)
