-- Clauses whose literals stand one after another.
use Rattle.std.proofs.Common.{◌≡◌, ℕ, ◌+◌, ◌-◌, ◌≤◌, List, [], ◌∷◌, ◌++◌, length, take, drop, sym, refl, ap, ◌∙◌, arith, length-append, map, get_or, subst, ◌<◌, Vec, Global}
use Rattle.std.specs.List.{All}
use Rattle.std.proofs.lemmas.List.{take_all, take-append-le, drop-append-le, length-drop, map-append, take-append-drop, get_or-map, length-map}
use Rattle.std.proofs.lemmas.List.Elements.{All-head, All-tail, All-weaker}
use Rattle.cnf.specs.declared.Dim.{Dim}
use Rattle.sat_state.specs.declared.store.Span.{Span}
use Rattle.sat_state.specs.Store.{IsInside, clause_in, clauses_in}
use Rattle.sat_state.specs.Narrow.{AreNarrow}

one_kept : (dims more : List Dim) (p : Span) → IsInside (length dims) p → clause_in (dims ++ more) p ≡ clause_in dims p
one_kept dims more p h =
    ap (take (p.end - p.start)) (drop-append-le p.start dims more (omega (arith, h.0, h.1)))
    ∙ take-append-le (p.end - p.start) (drop p.start dims) more (let l = length-drop p.start dims in omega (arith, h.0, h.1, l))

all_kept : (dims more : List Dim) (spans : List Span) → All (IsInside (length dims)) spans → clauses_in (dims ++ more) spans ≡ clauses_in dims spans
all_kept dims more [] h = refl
all_kept dims more (p ∷ ps) h =
    ap (λ c. c ∷ clauses_in (dims ++ more) ps) (one_kept dims more p (All-head (IsInside (length dims)) p ps h))
    ∙ ap (λ cs. clause_in dims p ∷ cs) (all_kept dims more ps (All-tail (IsInside (length dims)) p ps h))

-- more literals behind them change no clause
pub kept : (dims dims2 : List Dim) (spans : List Span) → All (IsInside (length dims)) spans → take (length dims) dims2 ≡ dims → clauses_in dims2 spans ≡ clauses_in dims spans
kept dims dims2 spans h front =
    let is : dims2 ≡ dims ++ drop (length dims) dims2 = sym (take-append-drop (length dims) dims2) ∙ ap (λ d. d ++ drop (length dims) dims2) front in
    ap (λ d. clauses_in d spans) is ∙ all_kept dims (drop (length dims) dims2) spans h

-- and leave each of them inside
pub inside_more : (n m : ℕ) (spans : List Span) → All (IsInside n) spans → n ≤ m → All (IsInside m) spans
inside_more n m spans h le = All-weaker (IsInside n) (IsInside m) (λ p i. (i.0, omega (arith, i.1, le))) spans h

-- what stands in front as literals come behind it
pub front_of : (old new more : List Dim) → new ≡ old ++ more → take (length old) new ≡ old
front_of old new more is = ap (take (length old)) is ∙ take-append-le (length old) old more (omega arith) ∙ take_all (length old) old (omega arith)

pub longer_than : (old new more : List Dim) → new ≡ old ++ more → length old ≤ length new
longer_than old new more is = (let l = ap length is ∙ length-append old more in omega (arith, l))

drop_front : (dims more : List Dim) → drop (length dims) (dims ++ more) ≡ more
drop_front [] more = refl
drop_front (d ∷ ds) more = drop_front ds more

-- one more clause
pub added : (dims more dims2 : List Dim) (spans spans2 : List Span) (s : Span) → All (IsInside (length dims)) spans → dims2 ≡ dims ++ more → s.start ≡ length dims → s.end ≡ length dims2 → spans2 ≡ spans ++ s ∷ [] →
    clauses_in dims2 spans2 ≡ clauses_in dims spans ++ more ∷ []
added dims more dims2 spans spans2 s h is start end is2 =
    let long : length dims2 ≡ length dims + length more = ap length is ∙ length-append dims more in
    let here : drop s.start dims2 ≡ more = ap (λ n. drop n dims2) start ∙ ap (drop (length dims)) is ∙ drop_front dims more in
    let one : clause_in dims2 s ≡ more = ap (take (s.end - s.start)) here ∙ take_all (s.end - s.start) more (omega (arith, long, start, end)) in
    ap (clauses_in dims2) is2 ∙ map-append (clause_in dims2) spans (s ∷ []) ∙ ap (λ cs. cs ++ clause_in dims2 s ∷ []) (ap (λ d. clauses_in d spans) is ∙ all_kept dims more spans h) ∙ ap (λ c. clauses_in dims spans ++ c ∷ []) one

-- a clause of a vector of clauses whose literals have numbers that fit
pub narrow_at : (clauses : List (Vec Dim Global)) (i : ℕ) (v : Vec Dim Global) (slice : List Dim) → i < length clauses → v ≡ get_or clauses i v → slice ≡ v.items →
    All AreNarrow (map (λ v. v.items) clauses) → AreNarrow slice
narrow_at clauses i v slice lt is e h =
    let at : get_or (map (λ v. v.items) clauses) i [] ≡ slice = get_or-map (λ v. v.items) clauses i v [] lt ∙ sym (ap (λ v. v.items) is) ∙ sym e in
    subst AreNarrow at (h i [] (let l = length-map clauses (λ v. v.items) in omega (arith, lt, l)))
