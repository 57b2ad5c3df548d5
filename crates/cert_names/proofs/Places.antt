-- The places of names as new numbers of variables.
use Rattle.std.proofs.Common.{◌≡◌, ◌↔◌, ℕ, ◌<◌, ◌≤◌, List, [], ◌∷◌, ◌++◌, length, get_or, Result, Ok, Err, IfOk, IsOk, refl, sym, ap, ◌∙◌, subst, arith, ⊎_elim}
use Rattle.std.specs.List.{All, AllZip, Contains, flat_map}
use Rattle.std.specs.List.Sorted.{IsStrictlyIncreasing, IsBinarySearchResult}
use Rattle.std.proofs.lemmas.Bool.{cases_lt}
use Rattle.std.proofs.lemmas.List.{length-map, get_or-map, get_or_default}
use Rattle.std.specs.Ordering.{nat_cmp}
use Rattle.std.proofs.lemmas.List.Sorted.{searched}
use Rattle.std.proofs.lemmas.List.Kept.{AllPairs-from_increasing}
use Rattle.std.proofs.lemmas.List.Elements.{All-nil, All-cons, All-head, All-tail, All-weaker, Contains-append_left, Contains-append_right, length_all_zip, AllZip-get_or}
use Rattle.cnf.specs.declared.Dim.{Dim}
use Rattle.cnf.specs.Formula.{Formula}
use Rattle.cnf.specs.Clauses.{AreBelow, AllBelow}
use Rattle.refute_check.specs.Entry.{Entry, no_entry}
use Rattle.refute_check.specs.Accepted.{IsAccepted, IsBadAt, entry_at}
use Rattle.cert_names.specs.Names.{NamesBelow, names_in, names_of, literals_in, roomy, IsAt, AreRenamed, IsRenamedStep, AreNamed, AreNew}
use Rattle.cert_names.proofs.Pairs.{IsOneToOne}
use Rattle.cert_names.proofs.Logs.{AreTwins, accepted_alike, bad_alike}

-- ---- names that rise are one to one with their places

apart : (names : List ℕ) (i j : ℕ) → IsStrictlyIncreasing names → i < length names → j < length names → get_or names i 0 ≡ get_or names j 0 → i ≡ j
apart names i j rising a b same = ⊎_elim (λ lt. absurd (let less : get_or names i 0 < get_or names j 0 = AllPairs-from_increasing names rising i j 0 lt b in omega arith)) later (cases_lt i j)
  where
    later : j ≤ i → i ≡ j
    later le = ⊎_elim (λ lt. absurd (let less : get_or names j 0 < get_or names i 0 = AllPairs-from_increasing names rising j i 0 lt a in omega arith)) (λ ge. omega arith) (cases_lt j i)

places_one : (names : List ℕ) → IsStrictlyIncreasing names → IsOneToOne (IsAt names)
places_one names rising = record {
  forth = λ v w x a b. apart names w x rising a.0 b.0 (a.1 ∙ sym b.1);
  back = λ v w x a b. sym a.1 ∙ b.1;
}

-- ---- new numbers are below how many names there are

new_clause : (names : List ℕ) (c e : List Dim) → AreRenamed names c e → AreBelow (length names) e
new_clause names [] [] h = All-nil (λ (d : Dim). d.var < length names)
new_clause names [] (y ∷ e) h = absurd h
new_clause names (x ∷ c) [] h = absurd h
new_clause names (x ∷ c) (y ∷ e) h = All-cons (λ (d : Dim). d.var < length names) y e h.0.0.0 (new_clause names c e h.1)

new_clauses : (names : List ℕ) (cs es : List (List Dim)) → AllZip (AreRenamed names) cs es → AllBelow (length names) es
new_clauses names [] [] h = All-nil (AreBelow (length names))
new_clauses names [] (e ∷ es) h = absurd h
new_clauses names (c ∷ cs) [] h = absurd h
new_clauses names (c ∷ cs) (e ∷ es) h = All-cons (AreBelow (length names)) e es (new_clause names c e h.0) (new_clauses names cs es h.1)

new_steps : (names : List ℕ) (log more : List Entry) → AllZip (IsRenamedStep names) log more → (k : ℕ) → k < length more → AreBelow (length names) (entry_at more k).clause
new_steps names log more h k within =
    let long = length_all_zip (IsRenamedStep names) log more h in
    let inside : k < length log = omega arith in
    let pair : IsRenamedStep names (entry_at log k) (entry_at more k) = AllZip-get_or (IsRenamedStep names) log more k no_entry no_entry h inside in
    new_clause names (entry_at log k).clause (entry_at more k).clause pair.0

wider : (n m : ℕ) (f : Formula) (log : List Entry) → n ≤ m → NamesBelow n f log → NamesBelow m f log
wider n m f log le h = record {
  clauses = All-weaker (AreBelow n) (AreBelow m) (λ c b. All-weaker (λ (d : Dim). d.var < n) (λ (d : Dim). d.var < m) (λ d x. omega arith) c b) f.clauses h.clauses;
  steps = λ k within. All-weaker (λ (d : Dim). d.var < n) (λ (d : Dim). d.var < m) (λ d x. omega arith) (entry_at log k).clause (h.steps k within);
}

new_below : (names : List ℕ) (f : Formula) (log : List Entry) (g : Formula) (more : List Entry) → AreNew names f log g more → NamesBelow (length names) g more
new_below names f log g more n = record { clauses = new_clauses names f.clauses g.clauses n.clauses; steps = new_steps names log more n.steps }

own_below : (names : List ℕ) (f : Formula) (log : List Entry) (g : Formula) (more : List Entry) → AreNew names f log g more → NamesBelow g.vars g more
own_below names f log g more n = subst (λ (m : ℕ). NamesBelow m g more) (sym n.vars) (new_below names f log g more n)

twins : (names : List ℕ) (f : Formula) (log : List Entry) (g : Formula) (more : List Entry) → AreNew names f log g more → AreTwins (IsAt names) f log g more
twins names f log g more n = record { clauses = n.clauses; steps = n.steps }

-- ---- each variable is among the names

named_clause : (names : List ℕ) (clause : List Dim) → ((x : ℕ) → Contains (names_in clause) x → Contains names x) → AreNamed names clause
named_clause names clause has k d within =
    let e : Dim = get_or clause k d in
    let long = length-map clause (λ (d : Dim). d.var) in
    has e.var (k, omega arith, get_or-map (λ (d : Dim). d.var) clause k d e.var within)

named_clauses : (names : List ℕ) (clauses : List (List Dim)) → ((x : ℕ) → Contains (flat_map names_in clauses) x → Contains names x) → All (AreNamed names) clauses
named_clauses names [] has = All-nil (AreNamed names)
named_clauses names (c ∷ clauses) has =
    All-cons (AreNamed names) c clauses (named_clause names c (λ x h. has x (Contains-append_left (names_in c) (flat_map names_in clauses) x h))) (named_clauses names clauses (λ x h. has x (Contains-append_right (names_in c) (flat_map names_in clauses) x h)))

named_steps : (names : List ℕ) (log : List Entry) → ((x : ℕ) → Contains (flat_map (λ s. names_in s.clause) log) x → Contains names x) → All (λ s. AreNamed names s.clause) log
named_steps names [] has = All-nil (λ (s : Entry). AreNamed names s.clause)
named_steps names (s ∷ log) has =
    All-cons (λ (s : Entry). AreNamed names s.clause) s log (named_clause names s.clause (λ x h. has x (Contains-append_left (names_in s.clause) (flat_map (λ (s : Entry). names_in s.clause) log) x h)))
    (named_steps names log (λ x h. has x (Contains-append_right (names_in s.clause) (flat_map (λ (s : Entry). names_in s.clause) log) x h)))

-- ---- clauses and a log that stay

dense_clause : (bound : ℕ) (clause : List Dim) → All (λ n. n < bound) (names_in clause) → AreBelow bound clause
dense_clause bound clause all k d within =
    let long = length-map clause (λ (d : Dim). d.var) in
    subst (λ (n : ℕ). n < bound) (get_or-map (λ (d : Dim). d.var) clause k d 0 within) (all k 0 (omega arith))

all_front : (P : ℕ → Type 0) (xs ys : List ℕ) → All P (xs ++ ys) → All P xs
all_front P [] ys h = All-nil P
all_front P (x ∷ xs) ys h = All-cons P x xs (All-head P x (xs ++ ys) h) (all_front P xs ys (All-tail P x (xs ++ ys) h))

all_rest : (P : ℕ → Type 0) (xs ys : List ℕ) → All P (xs ++ ys) → All P ys
all_rest P [] ys h = h
all_rest P (x ∷ xs) ys h = all_rest P xs ys (All-tail P x (xs ++ ys) h)

dense_clauses : (bound : ℕ) (clauses : List (List Dim)) → All (λ n. n < bound) (flat_map names_in clauses) → AllBelow bound clauses
dense_clauses bound [] all = All-nil (AreBelow bound)
dense_clauses bound (c ∷ clauses) all =
    All-cons (AreBelow bound) c clauses (dense_clause bound c (all_front (λ n. n < bound) (names_in c) (flat_map names_in clauses) all)) (dense_clauses bound clauses (all_rest (λ n. n < bound) (names_in c) (flat_map names_in clauses) all))

dense_steps : (bound : ℕ) (log : List Entry) → All (λ n. n < bound) (flat_map (λ s. names_in s.clause) log) → All (λ s. AreBelow bound s.clause) log
dense_steps bound [] all = All-nil (λ (s : Entry). AreBelow bound s.clause)
dense_steps bound (s ∷ log) all =
    All-cons (λ (s : Entry). AreBelow bound s.clause) s log (dense_clause bound s.clause (all_front (λ n. n < bound) (names_in s.clause) (flat_map (λ (s : Entry). names_in s.clause) log) all))
    (dense_steps bound log (all_rest (λ n. n < bound) (names_in s.clause) (flat_map (λ (s : Entry). names_in s.clause) log) all))

pub dense_below : (f : Formula) (log : List Entry) (names : List ℕ) → names ≡ names_of f.clauses log → All (λ n. n < roomy (length names)) names → NamesBelow (roomy (literals_in f log)) f log
dense_below f log names is all =
    let bound = roomy (literals_in f log) in
    let whole : All (λ n. n < bound) (names_of f.clauses log) = subst (λ (l : List ℕ). All (λ n. n < roomy (length l)) l) is all in
    let clauses = all_front (λ n. n < bound) (flat_map names_in f.clauses) (flat_map (λ (s : Entry). names_in s.clause) log) whole in
    let steps = dense_steps bound log (all_rest (λ n. n < bound) (flat_map names_in f.clauses) (flat_map (λ (s : Entry). names_in s.clause) log) whole) in
    record { clauses = dense_clauses bound f.clauses clauses; steps = λ k within. steps k no_entry within }

-- ---- what is answered

pub clauses_named : (f : Formula) (log : List Entry) (all names : List ℕ) → all ≡ names_of f.clauses log → ((x : ℕ) → Contains all x → Contains names x) → All (AreNamed names) f.clauses
clauses_named f log all names is has =
    named_clauses names f.clauses (λ x h. has x (subst (λ (l : List ℕ). Contains l x) (sym is) (Contains-append_left (flat_map names_in f.clauses) (flat_map (λ (s : Entry). names_in s.clause) log) x h)))

pub steps_named : (f : Formula) (log : List Entry) (all names : List ℕ) → all ≡ names_of f.clauses log → ((x : ℕ) → Contains all x → Contains names x) → All (λ s. AreNamed names s.clause) log
steps_named f log all names is has =
    named_steps names log (λ x h. has x (subst (λ (l : List ℕ). Contains l x) (sym is) (Contains-append_right (flat_map names_in f.clauses) (flat_map (λ (s : Entry). names_in s.clause) log) x h)))

pub new_accepted : {E : Type 0} (names : List ℕ) (f : Formula) (log : List Entry) (r : Result (Formula × List Entry) E) → IsStrictlyIncreasing names → NamesBelow f.vars f log → IfOk r (λ p. AreNew names f log p.0 p.1) → IfOk r (λ p. IsAccepted p.0 p.1 ↔ IsAccepted f log)
new_accepted names f log (Ok p) rising below n = accepted_alike (IsAt names) (places_one names rising) f log p.0 p.1 (twins names f log p.0 p.1 n) below (own_below names f log p.0 p.1 n)
new_accepted names f log (Err e) rising below n = tt

pub new_bad : {E : Type 0} (names : List ℕ) (f : Formula) (log : List Entry) (r : Result (Formula × List Entry) E) → IsStrictlyIncreasing names → NamesBelow f.vars f log → IfOk r (λ p. AreNew names f log p.0 p.1) → IfOk r (λ p. (k : ℕ) → IsBadAt p.0 p.1 k ↔ IsBadAt f log k)
new_bad names f log (Ok p) rising below n = λ k. bad_alike (IsAt names) (places_one names rising) f log p.0 p.1 (twins names f log p.0 p.1 n) below (own_below names f log p.0 p.1 n) k
new_bad names f log (Err e) rising below n = tt

pub new_room : {E : Type 0} (all names : List ℕ) (f : Formula) (log : List Entry) (r : Result (Formula × List Entry) E) → all ≡ names_of f.clauses log → length names ≤ length all → IfOk r (λ p. AreNew names f log p.0 p.1)
    → IfOk r (λ p. NamesBelow (roomy (literals_in f log)) p.0 p.1)
new_room all names f log (Ok p) is few n =
    let long : length all ≡ literals_in f log = ap (λ (l : List ℕ). length l) is in
    wider (length names) (roomy (literals_in f log)) p.0 p.1 (omega arith) (new_below names f log p.0 p.1 n)
new_room all names f log (Err e) is few n = tt

pub new_own : {E : Type 0} (names : List ℕ) (f : Formula) (log : List Entry) (r : Result (Formula × List Entry) E) → IfOk r (λ p. AreNew names f log p.0 p.1) → IfOk r (λ p. NamesBelow p.0.vars p.0 p.1)
new_own names f log (Ok p) n = own_below names f log p.0 p.1 n
new_own names f log (Err e) n = tt

-- ---- a name is found by halves

not_falling : (names : List ℕ) → IsStrictlyIncreasing names → (i j : ℕ) → i ≤ j → j < length names → get_or names i 0 ≤ get_or names j 0
not_falling names rising i j le within = ⊎_elim (λ lt. let less : get_or names i 0 < get_or names j 0 = AllPairs-from_increasing names rising i j 0 lt within in omega arith)
    (λ ge. let same : get_or names i 0 ≡ get_or names j 0 = ap (λ (k : ℕ). get_or names k 0) (let e : i ≡ j = omega arith in e) in omega arith) (cases_lt i j)

pub found_at : (names : List ℕ) (var : ℕ) (r : Result ℕ ℕ) (at : ℕ) → IsStrictlyIncreasing names → IsBinarySearchResult (λ y. nat_cmp y var) names r → r ≡ Ok at → IsAt names var at
found_at names var r at rising s is = searched names var (Ok at) (subst (IsBinarySearchResult (λ y. nat_cmp y var) names) is s) (not_falling names rising)

pub is_found : (names : List ℕ) (var : ℕ) (r : Result ℕ ℕ) → IsStrictlyIncreasing names → Contains names var → IsBinarySearchResult (λ y. nat_cmp y var) names r → IsOk r
is_found names var (Ok at) rising inside s = refl
is_found names var (Err at) rising inside s = absurd (nowhere (searched names var (Err at) s (not_falling names rising)))
  where
    here : get_or names inside.0 0 ≡ var
    here = get_or_default names inside.0 0 var inside.1 ∙ inside.2

    nowhere : (at ≤ length names) × ((k : ℕ) → k < at → get_or names k 0 < var) × ((k : ℕ) → at ≤ k → k < length names → var < get_or names k 0) → ⊥
    nowhere told = ⊎_elim (λ lt. let low = told.1 inside.0 lt in let h = here in omega arith) (λ le. let high = told.2 inside.0 le inside.1 in let h = here in omega arith) (cases_lt inside.0 at)
