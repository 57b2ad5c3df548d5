-- What a step's row of numbers reads back as.
use Rattle.std.proofs.Common.{◌≡◌, ℕ, ◌<◌, ◌≤◌, ◌+◌, ◌*◌, ◌/◌, ◌%◌, ◌^◌, Bool, true, false, nat_eq, nat_le, ◌-◌, cond, List, [], ◌∷◌, ◌++◌, length, get_or, map, take, drop, refl, sym, ap, ◌∙◌, arith, subst, append_assoc}
use Rattle.std.specs.List.{All}
use Rattle.std.proofs.lemmas.Bool.{eq-eqb, ne_eqb, leb-true, leb-false}
use Rattle.std.proofs.lemmas.List.{append-nil, take_more, take_all, drop_all, drop_more, map-append, length-map, take-append-le, drop-append-le}
use Rattle.std.proofs.lemmas.List.Elements.{All-cons, All-append, All-map}
use Rattle.refute_check.specs.declared.number.Number.{Number}
use Rattle.refute_check.specs.Groups.{value, whole}
use Rattle.refute_check.proofs.Rows.{whole_small}
use Rattle.cnf.specs.declared.Dim.{Dim}
use Rattle.refute_check.specs.Entry.{Entry, entry_of}
use Rattle.refute_check.specs.Packed.{number_of, literal_of, distance, place_at, distances, places_at, hint_numbers, entry_from}

-- ---- literals

pub literal_back : (v : ℕ) (b : Bool) → v < 2 ^ 64 → literal_of (number_of (record { var = v; negated = b })) ≡ record { var = v; negated = b }
unfolding literal_of number_of
literal_back v true lt =
    let p : (v / 64 * 64 + (v % 64 * 2 + 1) / 2) % 2 ^ 64 ≡ v = omega arith in
    let q : nat_eq ((v % 64 * 2 + 1) % 2) 1 ≡ true = eq-eqb ((v % 64 * 2 + 1) % 2) 1 (omega arith) in
    λ i. record { var = p i; negated = q i }
literal_back v false lt =
    let p : (v / 64 * 64 + (v % 64 * 2 + 0) / 2) % 2 ^ 64 ≡ v = omega arith in
    let q : nat_eq ((v % 64 * 2 + 0) % 2) 1 ≡ false = ne_eqb ((v % 64 * 2 + 0) % 2) 1 (λ e. omega arith) in
    λ i. record { var = p i; negated = q i }

literal_small : (v : ℕ) (b : Bool) → (number_of (record { var = v; negated = b })).last < 128
unfolding number_of
literal_small v true = omega arith
literal_small v false = omega arith

-- ---- lists of them

pub put_more : {X Y : Type 0} (f : X → Y) (xs : List X) (i : ℕ) (d : X) (y : Y) (old now new : List Y) → i < length xs → y ≡ f (get_or xs i d) →
    now ≡ old ++ map f (take i xs) → new ≡ now ++ y ∷ [] → new ≡ old ++ map f (take (i + 1) xs)
put_more f xs i d y old now new lt e h is =
    is ∙ ap (λ l. l ++ y ∷ []) h ∙ append_assoc old (map f (take i xs)) (y ∷ []) ∙ ap (λ z. old ++ (map f (take i xs) ++ z ∷ [])) e
    ∙ ap (λ l. old ++ l) (sym (map-append f (take i xs) (get_or xs i d ∷ []))) ∙ ap (λ l. old ++ map f l) (sym (take_more xs i d lt))

pub back_more : {X Y : Type 0} (f : X → Y) (g : Y → X) (xs : List X) (i : ℕ) (d : X) → i < length xs → g (f (get_or xs i d)) ≡ get_or xs i d →
    map g (map f (take i xs)) ≡ take i xs → map g (map f (take (i + 1) xs)) ≡ take (i + 1) xs
back_more f g xs i d lt e h =
    let x = get_or xs i d in
    let t : take (i + 1) xs ≡ take i xs ++ x ∷ [] = take_more xs i d lt in
    ap (λ l. map g (map f l)) t ∙ ap (λ l. map g l) (map-append f (take i xs) (x ∷ [])) ∙ map-append g (map f (take i xs)) (f x ∷ [])
    ∙ ap (λ l. l ++ g (f x) ∷ []) h ∙ ap (λ z. take i xs ++ z ∷ []) e ∙ sym t

pub put_all : {X Y : Type 0} (f : X → Y) (xs : List X) (i : ℕ) (old now : List Y) → length xs ≤ i → now ≡ old ++ map f (take i xs) → now ≡ old ++ map f xs
put_all f xs i old now le h = h ∙ ap (λ l. old ++ map f l) (take_all i xs le)

pub back_all : {X Y : Type 0} (f : X → Y) (g : Y → X) (xs : List X) (i : ℕ) → length xs ≤ i → map g (map f (take i xs)) ≡ take i xs → map g (map f xs) ≡ xs
back_all f g xs i le h = ap (λ l. map g (map f l)) (sym (take_all i xs le)) ∙ h ∙ take_all i xs le

-- ---- hints

above_back : (from to : ℕ) → from ≤ to → to < 2 ^ 64 → (from + (to - from)) % 2 ^ 64 ≡ to
above_back from to le lt = omega arith

below_back : (from to : ℕ) → to < from → from < 2 ^ 64 → (from + (2 ^ 64 - (from - to))) % 2 ^ 64 ≡ to
below_back from to gt lt = omega arith

pub place_back : (from to : ℕ) → from < 2 ^ 64 → to < 2 ^ 64 → place_at from (distance from to) ≡ to
unfolding place_at distance
place_back from to a b = by_cases (nat_le from to) refl where
  by_cases : (t : Bool) → nat_le from to ≡ t → place_at from (cond t (record { var = to - from; negated = false }) (record { var = from - to; negated = true })) ≡ to
  by_cases true e = above_back from to (leb-true from to e) b
  by_cases false e = below_back from to (leb-false from to e) a

-- hints that are written read back
abbrev pub Back : ℕ → List ℕ → Type 0
Back last hints = places_at last (map literal_of (map number_of (distances last hints))) ≡ hints

pub back_one : (last h : ℕ) (more : List ℕ) → literal_of (number_of (distance last h)) ≡ distance last h → place_at last (distance last h) ≡ h → Back h more → Back last (h ∷ more)
back_one last h more l p b =
    ap (λ (d : Dim). place_at last d ∷ places_at (place_at last d) (map literal_of (map number_of (distances h more)))) l
    ∙ ap (λ (k : ℕ). k ∷ places_at k (map literal_of (map number_of (distances h more)))) p ∙ ap (λ (hs : List ℕ). h ∷ hs) b

pub hints_back_more : (hints : List ℕ) (i d last h : ℕ) (e : Dim) (P : Type 0) → i < length hints → h ≡ get_or hints i d → e ≡ distance last h →
    literal_of (number_of e) ≡ e → place_at last (distance last h) ≡ h → (Back last (drop i hints) → P) → Back h (drop (i + 1) hints) → P
hints_back_more hints i d last h e P lt is far l p goes b =
    goes (subst (λ (hs : List ℕ). Back last hs) (ap (λ (k : ℕ). k ∷ drop (i + 1) hints) is ∙ sym (drop_more hints i d lt))
    (back_one last h (drop (i + 1) hints) (subst (λ (x : Dim). literal_of (number_of x) ≡ x) far l) p b))

pub hints_more : (hints : List ℕ) (i d last h : ℕ) (e : Dim) (n : Number) (now new all : List Number) → i < length hints → h ≡ get_or hints i d → e ≡ distance last h → n ≡ number_of e →
    new ≡ now ++ n ∷ [] → now ++ map number_of (distances last (drop i hints)) ≡ all → new ++ map number_of (distances h (drop (i + 1) hints)) ≡ all
hints_more hints i d last h e n now new all lt is far made put kept =
    let rest : List Number = map number_of (distances h (drop (i + 1) hints)) in
    ap (λ l. l ++ rest) put ∙ append_assoc now (n ∷ []) rest ∙ ap (λ (k : Number). now ++ k ∷ rest) (made ∙ ap number_of far)
    ∙ ap (λ (hs : List ℕ). now ++ map number_of (distances last hs)) (ap (λ (k : ℕ). k ∷ drop (i + 1) hints) is ∙ sym (drop_more hints i d lt)) ∙ kept

pub hints_end : (hints : List ℕ) (i last : ℕ) (now all : List Number) → length hints ≤ i → now ++ map number_of (distances last (drop i hints)) ≡ all → now ≡ all
hints_end hints i last now all le kept =
    sym (append-nil now) ∙ ap (λ (hs : List ℕ). now ++ map number_of (distances last hs)) (sym (drop_all i hints le)) ∙ kept

pub hints_back_end : (hints : List ℕ) (i last : ℕ) (P : Type 0) → length hints ≤ i → (Back last (drop i hints) → P) → P
hints_back_end hints i last P le goes = goes (subst (λ (hs : List ℕ). Back last hs) (sym (drop_all i hints le)) refl)

-- ---- a step

pub numbers_made : (i0 i1 i2 i3 a b : List Number) (w n : Number) → i0 ≡ [] → i1 ≡ i0 ++ w ∷ [] → i2 ≡ i1 ++ a → i3 ≡ i2 ++ b → w ≡ n → i3 ≡ n ∷ (a ++ b)
numbers_made i0 i1 i2 i3 a b w n e0 e1 e2 e3 e =
    e3 ∙ ap (λ l. l ++ b) (e2 ∙ ap (λ l. l ++ a) (e1 ∙ ap (λ l. l ++ w ∷ []) e0)) ∙ ap (λ z. z ∷ (a ++ b)) e

pub row_small : (clause : List Dim) (hints : List ℕ) → All (λ n. n.last < 128) (whole (length clause) ∷ (map number_of clause ++ hint_numbers hints))
row_small clause hints =
    let P : Number → Type 0 = λ n. n.last < 128 in
    let ds : List Dim = distances 0 hints in
    All-cons P (whole (length clause)) (map number_of clause ++ hint_numbers hints) (whole_small (length clause))
    (All-append P (map number_of clause) (hint_numbers hints)
    (All-map P number_of clause (λ k d lt. literal_small (get_or clause k d).var (get_or clause k d).negated))
    (All-map P number_of ds (λ k d lt. literal_small (get_or ds k d).var (get_or ds k d).negated)))

take_front : {X : Type 0} (xs ys : List X) → take (length xs) (xs ++ ys) ≡ xs
take_front xs ys = take-append-le (length xs) xs ys (omega arith) ∙ take_all (length xs) xs (omega arith)

drop_front : {X : Type 0} (xs ys : List X) → drop (length xs) (xs ++ ys) ≡ ys
drop_front xs ys = drop-append-le (length xs) xs ys (omega arith) ∙ ap (λ l. l ++ ys) (drop_all (length xs) xs (omega arith))

entry_back : (clause : List Dim) (hints : List ℕ) → value (whole (length clause)) ≡ length clause → map literal_of (map number_of clause) ≡ clause → places_at 0 (map literal_of (hint_numbers hints)) ≡ hints →
    entry_from (whole (length clause) ∷ (map number_of clause ++ hint_numbers hints)) ≡ entry_of clause hints
unfolding entry_from
entry_back clause hints c b h =
    let a : List Number = map number_of clause in
    let r : List Number = hint_numbers hints in
    let n : ℕ = value (whole (length clause)) in
    let e : n ≡ length a = c ∙ sym (length-map clause number_of) in
    let t : take n (a ++ r) ≡ a = ap (λ k. take k (a ++ r)) e ∙ take_front a r in
    let d : drop n (a ++ r) ≡ r = ap (λ k. drop k (a ++ r)) e ∙ drop_front a r in
    let p : map literal_of (take n (a ++ r)) ≡ clause = ap (λ l. map literal_of l) t ∙ b in
    let q : places_at 0 (map literal_of (drop n (a ++ r))) ≡ hints = ap (λ l. places_at 0 (map literal_of l)) d ∙ h in
    λ i. record { clause = p i; hints = q i }

pub entry_made : (clause : List Dim) (hints : List ℕ) (row slice items : List Number) → row ≡ slice → slice ≡ items → items ≡ whole (length clause) ∷ (map number_of clause ++ hint_numbers hints) →
    value (whole (length clause)) ≡ length clause → map literal_of (map number_of clause) ≡ clause → places_at 0 (map literal_of (hint_numbers hints)) ≡ hints → entry_from row ≡ entry_of clause hints
entry_made clause hints row slice items e f g c b h = ap entry_from (e ∙ f ∙ g) ∙ entry_back clause hints c b h
