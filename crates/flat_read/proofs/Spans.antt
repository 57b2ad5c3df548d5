-- The bits of a list of segments, one segment after the other.
use Rattle.std.proofs.Common.{◌≡◌, ℕ, ◌+◌, ◌<◌, ◌≤◌, List, ◌∷◌, length, get_or, drop, map, sum, sym, ap, ◌∙◌}
use Rattle.std.proofs.lemmas.List.{at_drop_more, at_drop_all}
use Rattle.std.proofs.lemmas.List.Sums.{sum_by-cons}
use Rattle.lhs_alias.specs.declared.segs.Seg.{Seg}

abbrev spans : List Seg → ℕ
spans segs = sum (map (λ seg. seg.width) segs)

pub spans_more : (segs : List Seg) (i : ℕ) (s : Seg) → i < length segs → s ≡ get_or segs i s → sum (map (λ seg. seg.width) (drop i segs)) ≡ s.width + sum (map (λ seg. seg.width) (drop (i + 1) segs))
spans_more segs i s l is = at_drop_more spans segs i s l ∙ ap (λ x. spans (x ∷ drop (i + 1) segs)) (sym is) ∙ sum_by-cons (λ x. x) s.width (map (λ seg. seg.width) (drop (i + 1) segs))

pub spans_end : (segs : List Seg) (i : ℕ) → length segs ≤ i → sum (map (λ seg. seg.width) (drop i segs)) ≡ 0
spans_end segs i l = at_drop_all spans segs i l
