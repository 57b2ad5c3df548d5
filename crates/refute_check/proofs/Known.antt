-- The clauses that a step may cite.
use Rattle.std.proofs.Common.{◌≡◌, ℕ, ◌<◌, ◌≤◌, ◌+◌, ◌-◌, List, [], ◌∷◌, ◌++◌, length, get_or, map, take, Vec, Global, refl, sym, ap, ◌∙◌, arith, subst, ⊎_elim, length-take-le}
use Rattle.std.specs.List.{All}
use Rattle.std.proofs.lemmas.Bool.{cases_lt}
use Rattle.std.proofs.lemmas.List.{get_or_append_left, get_or-append-add, get_or-map, get_or-take, get_or_past, length-map}
use Rattle.std.proofs.lemmas.List.Elements.{All-nil, All-get_or}
use Rattle.cnf.specs.declared.Dim.{Dim}
use Rattle.cnf.specs.Clauses.{AreBelow, AllBelow}
use Rattle.refute_check.specs.Entry.{Entry}
use Rattle.refute_check.specs.Accepted.{clause_at, known_of}

abbrev listed : Vec Dim Global → List Dim
listed v = v.items

abbrev clause_in : Entry → List Dim
clause_in s = s.clause

pub known_given : (vs : List (Vec Dim Global)) (log : List Entry) (k h : ℕ) (v : Vec Dim Global) (items : List Dim) → h < length vs → v ≡ get_or vs h v → items ≡ v.items →
    items ≡ clause_at (known_of (map (λ v. v.items) vs) log k) h
known_given vs log k h v items lt is e =
    let len : length (map listed vs) ≡ length vs = length-map vs listed in
    let there : get_or (map listed vs ++ map clause_in (take k log)) h [] ≡ get_or (map listed vs) h [] = get_or_append_left (map listed vs) (map clause_in (take k log)) [] h (omega arith) in
    e ∙ ap listed is ∙ sym (there ∙ get_or-map listed vs h v [] lt)

pub known_step : (vs : List (Vec Dim Global)) (log : List Entry) (k h : ℕ) (s : Entry) → k ≤ length log → length vs ≤ h → h < length vs + k → s ≡ get_or log (h - length vs) s →
    s.clause ≡ clause_at (known_of (map (λ v. v.items) vs) log k) h
known_step vs log k h s kl le lt is =
    let a : List (List Dim) = map listed vs in
    let b : List (List Dim) = map clause_in (take k log) in
    let j : ℕ = h - length vs in
    let len : length a ≡ length vs = length-map vs listed in
    let t : length (take k log) ≡ k = length-take-le k log kl in
    let jk : j < k = omega arith in
    let jt : j < length (take k log) = omega arith in
    let place : h ≡ length a + j = omega arith in
    ap clause_in (is ∙ sym (get_or-take k log j s jk))
    ∙ sym (ap (λ i. get_or (a ++ b) i []) place ∙ get_or-append-add a b j [] ∙ get_or-map clause_in (take k log) j s [] jt)

pub below_at : (width : ℕ) (db : List (List Dim)) (h : ℕ) (clause : List Dim) → AllBelow width db → clause ≡ clause_at db h → AreBelow width clause
below_at width db h clause all e =
    let P : List Dim → Type 0 = λ c. All (λ (d : Dim). d.var < width) c in
    let here : P (get_or db h []) = ⊎_elim (λ lt. All-get_or P db h [] lt all)
    (λ le. subst P (sym (get_or_past db h [] le)) (All-nil (λ (d : Dim). d.var < width))) (cases_lt h (length db)) in
    subst P (sym e) here
