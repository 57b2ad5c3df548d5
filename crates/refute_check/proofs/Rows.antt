-- Bytes behind others, and numbers of a word in two parts.
use Rattle.std.proofs.Common.{◌≡◌, ℕ, ◌<◌, ◌≤◌, ◌+◌, ◌-◌, suc, ◌*◌, ◌/◌, ◌%◌, ◌^◌, Bool, true, false, cond, List, [], ◌∷◌, ◌++◌, length, get_or, take, drop, refl, sym, ap, ◌∙◌, subst, arith, drop-cons, add-one}
use Rattle.std.specs.Prelude.{nat_lt}
use Rattle.std.proofs.lemmas.Bool.{lt-ltb, le-ltb}
use Rattle.std.proofs.lemmas.List.{append-nil, drop_all, take_more}
use Rattle.refute_check.specs.declared.number.Number.{Number}
use Rattle.refute_check.specs.Groups.{grown, numbers_from, begun, whole, value}

-- ---- bytes behind others

begun_push : (f : ℕ) (bs : List ℕ) (b : ℕ) → begun f (bs ++ b ∷ []) ≡ cond (nat_lt b 128) 0 (grown (begun f bs) b)
begun_push f [] b = refl
begun_push f (x ∷ bs) b =
    let P : Bool → Type 0 = λ t. cond t (begun 0 (bs ++ b ∷ [])) (begun (grown f x) (bs ++ b ∷ [])) ≡ cond (nat_lt b 128) 0 (grown (cond t (begun 0 bs) (begun (grown f x) bs)) b) in
    let at : (t : Bool) → P t = λ t. elim t as P [ true ↦ begun_push 0 bs b | false ↦ begun_push (grown f x) bs b ] in
    at (nat_lt x 128)

numbers_push : (f : ℕ) (bs : List ℕ) (b : ℕ) → numbers_from f (bs ++ b ∷ []) ≡ numbers_from f bs ++ cond (nat_lt b 128) (record { front = begun f bs; last = b } ∷ []) []
numbers_push f [] b = refl
numbers_push f (x ∷ bs) b =
    let g : ℕ = grown f x in
    let r : Number = record { front = f; last = x } in
    let P : Bool → Type 0 = λ t. cond t (r ∷ numbers_from 0 (bs ++ b ∷ [])) (numbers_from g (bs ++ b ∷ []))
    ≡ cond t (r ∷ numbers_from 0 bs) (numbers_from g bs) ++ cond (nat_lt b 128) (record { front = cond t (begun 0 bs) (begun g bs); last = b } ∷ []) [] in
    let at : (t : Bool) → P t = λ t. elim t as P [ true ↦ ap (λ l. r ∷ l) (numbers_push 0 bs b) | false ↦ numbers_push g bs b ] in
    at (nat_lt x 128)

grown_back : (front : ℕ) → front < 2 ^ 64 → grown (front / 128) (128 + front % 128) ≡ front
unfolding grown
grown_back front lt = omega arith

-- a group of a front more
pub front_numbers : (old mid new : List ℕ) (b : ℕ) → 128 ≤ b → new ≡ mid ++ b ∷ [] → numbers_from 0 mid ≡ numbers_from 0 old → numbers_from 0 new ≡ numbers_from 0 old
front_numbers old mid new b le is h =
    let p : List Number = record { front = begun 0 mid; last = b } ∷ [] in
    ap (λ (bs : List ℕ). numbers_from 0 bs) is ∙ numbers_push 0 mid b ∙ ap (λ t. numbers_from 0 mid ++ cond t p []) (le-ltb b 128 le) ∙ append-nil (numbers_from 0 mid) ∙ h

pub front_begun : (mid new : List ℕ) (front b : ℕ) → front < 2 ^ 64 → b ≡ 128 + front % 128 → new ≡ mid ++ b ∷ [] → begun 0 mid ≡ front / 128 → begun 0 new ≡ front
front_begun mid new front b lt e is h =
    ap (λ (bs : List ℕ). begun 0 bs) is ∙ begun_push 0 mid b ∙ ap (λ t. cond t 0 (grown (begun 0 mid) b)) (le-ltb b 128 (omega arith))
    ∙ ap (λ f. grown f b) h ∙ ap (λ c. grown (front / 128) c) e ∙ grown_back front lt

-- the last group
pub last_numbers : (old mid new : List ℕ) (front b : ℕ) → b < 128 → new ≡ mid ++ b ∷ [] → numbers_from 0 mid ≡ numbers_from 0 old → begun 0 mid ≡ front →
    numbers_from 0 new ≡ numbers_from 0 old ++ record { front = front; last = b } ∷ []
last_numbers old mid new front b lt is h e =
    let q : ℕ → List Number = λ f. record { front = f; last = b } ∷ [] in
    ap (λ (bs : List ℕ). numbers_from 0 bs) is ∙ numbers_push 0 mid b ∙ ap (λ t. numbers_from 0 mid ++ cond t (q (begun 0 mid)) []) (lt-ltb b 128 lt)
    ∙ ap (λ f. numbers_from 0 mid ++ q f) e ∙ ap (λ l. l ++ q front) h

pub last_begun : (mid new : List ℕ) (b : ℕ) → b < 128 → new ≡ mid ++ b ∷ [] → begun 0 new ≡ 0
last_begun mid new b lt is = ap (λ (bs : List ℕ). begun 0 bs) is ∙ begun_push 0 mid b ∙ ap (λ t. cond t 0 (grown (begun 0 mid) b)) (lt-ltb b 128 lt)

abbrev pub no_number : Number
no_number = record { front = 0; last = 0 }

pub row_more : (numbers old new : List Number) (i : ℕ) → i < length numbers → old ≡ take i numbers → new ≡ old ++ get_or numbers i no_number ∷ [] → new ≡ take (i + 1) numbers
row_more numbers old new i lt h is = is ∙ ap (λ l. l ++ get_or numbers i no_number ∷ []) h ∙ sym (take_more numbers i no_number lt)

-- ---- the front of what is left

split_at : (bs : List ℕ) (i : ℕ) → i < length bs → drop i bs ≡ get_or bs i 0 ∷ drop (i + 1) bs
split_at bs i lt = rw (add-one, drop-cons bs i 0) refl

head_at : (f b : ℕ) (bs : List ℕ) (t : Bool) → nat_lt b 128 ≡ t → numbers_from f (b ∷ bs) ≡ cond t (record { front = f; last = b } ∷ numbers_from 0 bs) (numbers_from (grown f b) bs)
head_at f b bs t e = ap (λ t. cond t (record { front = f; last = b } ∷ numbers_from 0 bs) (numbers_from (grown f b) bs)) e

pub read_last : (bs : List ℕ) (f i : ℕ) → i < length bs → get_or bs i 0 < 128 → numbers_from f (drop i bs) ≡ numbers_from 0 bs →
    numbers_from 0 bs ≡ record { front = f; last = get_or bs i 0 } ∷ numbers_from 0 (drop (i + 1) bs)
read_last bs f i lt small h = sym h ∙ ap (λ (l : List ℕ). numbers_from f l) (split_at bs i lt) ∙ head_at f (get_or bs i 0) (drop (i + 1) bs) true (lt-ltb (get_or bs i 0) 128 small)

pub read_more : (bs : List ℕ) (f g i : ℕ) → i < length bs → 128 ≤ get_or bs i 0 → g ≡ grown f (get_or bs i 0) → numbers_from f (drop i bs) ≡ numbers_from 0 bs →
    numbers_from g (drop (i + 1) bs) ≡ numbers_from 0 bs
read_more bs f g i lt large e h =
    ap (λ n. numbers_from n (drop (i + 1) bs)) e ∙ sym (head_at f (get_or bs i 0) (drop (i + 1) bs) false (le-ltb (get_or bs i 0) 128 large))
    ∙ ap (λ (l : List ℕ). numbers_from f l) (sym (split_at bs i lt)) ∙ h

pub read_end : (bs : List ℕ) (f i : ℕ) → length bs ≤ i → numbers_from f (drop i bs) ≡ numbers_from 0 bs → numbers_from 0 bs ≡ []
read_end bs f i le h = sym h ∙ ap (λ (l : List ℕ). numbers_from f l) (drop_all i bs le)

-- ---- numbers of a word

pub mod_first : (a b : ℕ) → (a % 2 ^ 64 + b) % 2 ^ 64 ≡ (a + b) % 2 ^ 64
mod_first a b = omega arith

pub whole_back : (n : ℕ) → n < 2 ^ 64 → value (whole n) ≡ n
unfolding whole value
whole_back n lt = omega arith

pub whole_small : (n : ℕ) → (whole n).last < 128
unfolding whole
whole_small n = omega arith

-- ---- numbers that are gone behind

pub skip_more : (xs later all : List Number) (n : Number) (count i : ℕ) → i < count → xs ≡ n ∷ later → drop (count - i) xs ≡ all → drop (count - (i + 1)) later ≡ all
skip_more xs later all n count i lt e h =
    let k : ℕ = count - (i + 1) in
    let s : count - i ≡ suc k = omega arith in
    let one : drop k later ≡ drop (suc k) (n ∷ later) = refl in
    one ∙ ap (λ j. drop j (n ∷ later)) (sym s) ∙ ap (λ (l : List Number). drop (count - i) l) (sym e) ∙ h

pub skip_end : (xs all : List Number) (count i : ℕ) → count ≤ i → drop (count - i) xs ≡ all → xs ≡ all
skip_end xs all count i le h = let s : count - i ≡ 0 = omega arith in ap (λ j. drop j xs) (sym s) ∙ h

pub skip_none : (xs new all : List Number) (k : ℕ) → xs ≡ [] → new ≡ [] → drop k xs ≡ all → new ≡ all
skip_none xs new all k e n h = n ∙ sym (drop_all k [] (omega arith)) ∙ ap (λ (l : List Number). drop k l) (sym e) ∙ h
