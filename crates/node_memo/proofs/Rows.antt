-- Lists of numbers into which numbers are put.
use Rattle.std.proofs.Common.{◌≡◌, ℕ, zero, suc, ◌<◌, List, [], ◌∷◌, ◌++◌, ◌⊎◌, length, get_or, set, refl, sym, ap, ◌∙◌, subst, inl, inr, arith, length-set, take, drop, take_all, Vec, Global}
use Rattle.std.specs.Prelude.{Contains, OnOk, Result, Ok, Err}
use Rattle.std.proofs.lemmas.Bool.{cases_eq, cases_lt}
use Rattle.std.proofs.lemmas.List.{get_or-set_same, get_or-set_other, get_or_past, get_or-map, length-map, map-set, drop_all, append-nil}
use Rattle.std.proofs.lemmas.List.Elements.{Contains-append_left, Contains-append_right, Contains-append_cases}
use Rattle.node_memo.specs.Lists.{Gains}
use Rattle.node_memo.specs.Memos.{rows_in}

-- ---- what a list has

pub has-one : (x y : ℕ) → x ≡ y → Contains (y ∷ []) x
has-one x y e = (zero, omega arith, sym e)

pub none-has : (x : ℕ) → Contains (let l : List ℕ = [] in l) x → ⊥
none-has x h = let lt = h.1 in omega (arith, lt)

pub one-has : (x y : ℕ) → Contains (y ∷ []) x → x ≡ y
one-has x y h = pick h.0 h.1 h.2
  where
    pick : (i : ℕ) → i < length (y ∷ []) → get_or (y ∷ []) i x ≡ x → x ≡ y
    pick zero lt e = sym e
    pick (suc i) lt e = absurd (omega (arith, lt))

pub has-or-not : (l : List ℕ) (x : ℕ) → Contains l x ⊎ (Contains l x → ⊥)
has-or-not [] x = inr (none-has x)
has-or-not (y ∷ l) x = elim (cases_eq y x) [
  | inl e ↦ inl (zero, omega arith, e)
  | inr ne ↦ elim (has-or-not l x) [
    | inl c ↦ inl (Contains-append_right (y ∷ []) l x c)
    | inr out ↦ inr (λ h. elim (Contains-append_cases (y ∷ []) l x h) [
      | inl one ↦ ne (sym (one-has x y one))
      | inr c ↦ out c
    ])
  ]
]

-- ---- a number is put into lists

pub gains-none : (rows : List (List ℕ)) (number : ℕ) → Gains rows number rows
gains-none rows number = record { len = refl; keeps = λ k n h. h; only = λ k n h. inl h }

pub gains-both : (a b c : List (List ℕ)) (number : ℕ) → Gains a number b → Gains b number c → Gains a number c
gains-both a b c number g h = record {
  len = h.len ∙ g.len;
  keeps = λ k n x. h.keeps k n (g.keeps k n x);
  only = λ k n x. elim (h.only k n x) [
    | inl y ↦ g.only k n y
    | inr e ↦ inr e
  ];
}

pub gains-set : (rows new : List (List ℕ)) (at number : ℕ) → at < length rows → new ≡ set rows at (get_or rows at [] ++ number ∷ []) → Gains rows number new
gains-set rows new at number lt e = record {
  len = ap (λ l. length l) e ∙ length-set rows at (get_or rows at [] ++ number ∷ []);
  keeps = λ k n h. subst (λ (l : List (List ℕ)). Contains (get_or l k []) n) (sym e) (kept k n h);
  only = λ k n h. known k n (subst (λ (l : List (List ℕ)). Contains (get_or l k []) n) e h);
}
  where
    more : List ℕ
    more = get_or rows at [] ++ number ∷ []

    kept : (k n : ℕ) → Contains (get_or rows k []) n → Contains (get_or (set rows at more) k []) n
    kept k n h = elim (cases_eq k at) [
      | inl same ↦
          subst (λ (l : List ℕ). Contains l n) (sym (ap (λ j. get_or (set rows at more) j []) same ∙ get_or-set_same rows at more [] lt))
          (Contains-append_left (get_or rows at []) (number ∷ []) n (subst (λ (j : ℕ). Contains (get_or rows j []) n) same h))
      | inr other ↦ subst (λ (l : List ℕ). Contains l n) (sym (get_or-set_other rows at k more [] other)) h
    ]

    known : (k n : ℕ) → Contains (get_or (set rows at more) k []) n → Contains (get_or rows k []) n ⊎ (n ≡ number)
    known k n h = elim (cases_eq k at) [
      | inl same ↦
          elim (Contains-append_cases (get_or rows at []) (number ∷ []) n
          (subst (λ (l : List ℕ). Contains l n) (ap (λ j. get_or (set rows at more) j []) same ∙ get_or-set_same rows at more [] lt) h)) [
            | inl c ↦ inl (subst (λ (j : ℕ). Contains (get_or rows j []) n) (sym same) c)
            | inr c ↦ inr (one-has n number c)
          ]
      | inr other ↦ inl (subst (λ (l : List ℕ). Contains l n) (get_or-set_other rows at k more [] other) h)
    ]

pub put-there : (rows new : List (List ℕ)) (at number : ℕ) → at < length rows → new ≡ set rows at (get_or rows at [] ++ number ∷ []) → Contains (get_or new at []) number
put-there rows new at number lt e =
    subst (λ (l : List ℕ). Contains l number) (sym (ap (λ l. get_or l at []) e ∙ get_or-set_same rows at (get_or rows at [] ++ number ∷ []) [] lt))
    (Contains-append_right (get_or rows at []) (number ∷ []) number (has-one number number refl))

-- ---- the lists as rows

pub rows-len : (lists : List (Vec ℕ Global)) → length (rows_in lists) ≡ length lists
rows-len lists = length-map lists (λ (v : Vec ℕ Global). v.items)

pub gains-len : (old new : List (Vec ℕ Global)) (number : ℕ) → Gains (rows_in old) number (rows_in new) → length new ≡ length old
gains-len old new number g = sym (rows-len new) ∙ g.len ∙ rows-len old

pub row-of : (lists : List (Vec ℕ Global)) (i : ℕ) (v : Vec ℕ Global) → i < length lists → v ≡ get_or lists i v → v.items ≡ get_or (rows_in lists) i []
row-of lists i v lt is = ap (λ (w : Vec ℕ Global). w.items) is ∙ sym (get_or-map (λ (w : Vec ℕ Global). w.items) lists i v [] lt)

pub rows-set : (lists : List (Vec ℕ Global)) (at number : ℕ) (v w : Vec ℕ Global) → at < length lists → w ≡ get_or lists at w → v.items ≡ w.items ++ number ∷ []
    → rows_in (set lists at v) ≡ set (rows_in lists) at (get_or (rows_in lists) at [] ++ number ∷ [])
rows-set lists at number v w lt is e =
    map-set (λ (x : Vec ℕ Global). x.items) lists at v
    ∙ ap (λ l. set (rows_in lists) at l) (e ∙ ap (λ (l : List ℕ). l ++ number ∷ []) (row-of lists at w lt is))

pub gains-push : (lists : List (Vec ℕ Global)) (at number : ℕ) (v w : Vec ℕ Global) → at < length lists → w ≡ get_or lists at w → v.items ≡ w.items ++ number ∷ []
    → Gains (rows_in lists) number (rows_in (set lists at v))
gains-push lists at number v w lt is e = gains-set (rows_in lists) (rows_in (set lists at v)) at number (omega (arith, lt, rows-len lists)) (rows-set lists at number v w lt is e)

pub push-there : (lists : List (Vec ℕ Global)) (at number : ℕ) (v w : Vec ℕ Global) → at < length lists → w ≡ get_or lists at w → v.items ≡ w.items ++ number ∷ []
    → Contains (get_or (rows_in (set lists at v)) at []) number
push-there lists at number v w lt is e = put-there (rows_in lists) (rows_in (set lists at v)) at number (omega (arith, lt, rows-len lists)) (rows-set lists at number v w lt is e)

-- one empty list more
pub no-more : (rows : List (List ℕ)) → ((k : ℕ) → get_or rows k [] ≡ []) → (k : ℕ) → get_or (rows ++ [] ∷ []) k [] ≡ []
no-more [] h zero = refl
no-more [] h (suc k) = get_or_past ([] ∷ []) (suc k) [] (omega arith)
no-more (r ∷ rows) h zero = h zero
no-more (r ∷ rows) h (suc k) = no-more rows (λ j. h (suc j)) k

pub no-rows : (rows : List (List ℕ)) → ((k : ℕ) → k < length rows → get_or rows k [] ≡ []) → (k : ℕ) → get_or rows k [] ≡ []
no-rows rows h k = elim (cases_lt k (length rows)) [
  | inl lt ↦ h k lt
  | inr past ↦ get_or_past rows k [] past
]

pub on_ok_two : {T E A B C : Type 0} (r : Result T E) → OnOk r A → OnOk r B → (A → B → C) → OnOk r C
on_ok_two (Ok x) a b f = f a b
on_ok_two (Err e) a b f = tt

-- what a call leaves in a vector whose slice it was lent
pub slice_back : {A : Type 0} → (n : ℕ) (new items was : List A) → n ≡ length items → length new ≡ length was → was ≡ items → take n (new ++ drop (length new) items) ≡ new
slice_back n new items was e same is =
    let l : length new ≡ length items = same ∙ ap length is in
    ap (λ r. take n (new ++ r)) (drop_all (length new) items (omega arith)) ∙ ap (take n) (append-nil new) ∙ take_all n new (omega arith)
