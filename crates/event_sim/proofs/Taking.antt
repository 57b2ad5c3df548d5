-- One wire of a net after another takes what its classes are told.
use Rattle.std.proofs.Common.{◌≡◌, ◌≢◌, ℕ, ◌+◌, ◌<◌, Bool, true, false, cond, eqb, List, [], ◌∷◌, ◌++◌, length, get_or, set, take, map, refl, sym, ap, ◌∙◌, subst, inl, inr, arith, zero-add}
use Rattle.std.specs.Prelude.{Contains, Option, Some, None}
use Rattle.std.specs.List.{range_with_len}
use Rattle.std.proofs.lemmas.Bool.{cases_eq, eqb-true}
use Rattle.std.proofs.lemmas.List.{get_or-set_same, get_or-set_other, get_or-map, get_or_default, length-map, take_more}
use Rattle.std.proofs.lemmas.List.Elements.{Contains-append_left, Contains-append_right, Contains-append_cases}
use Rattle.std.proofs.lemmas.List.FromFn.{get_or-map-range_with_len, length-map-range_with_len}
use Rattle.fourvec.specs.declared.Bit.{Bit}
use Rattle.fourvec.specs.declared.Bit.TheVariants.{Unknown}
use Rattle.svex_shape.specs.Values.{Vector}
use Rattle.event_nets.specs.Gifts.{told_bit}
use Rattle.event_nets.specs.Runs.{is_at}
use Rattle.event_nets.proofs.Reading.{lengths-set}
use Rattle.event_sim.specs.Linked.{LieThere}
use Rattle.event_sim.specs.Rows.{low_at, passed_bit, passed_row, Passed}
use Rattle.event_sim.proofs.Flats.{row-whole}
use Rattle.node_memo.proofs.Rows.{none-has, has-one, one-has, has-or-not}
use Rattle.event_sim.proofs.Needing.{rows-alike}

-- ---- a row

pub length-passed : (homes : List ℕ) (lows : List (Option ℕ)) (low : ℕ) (told : List (Option Bit)) (start : ℕ) (row : Vector) → length (passed_row homes lows low told start row) ≡ length row
length-passed homes lows low told start row = length-map-range_with_len (λ k. passed_bit homes lows low told (start + k) (get_or row k Unknown)) 0 (length row)

-- a second pass changes nothing
pub passed-twice : (homes : List ℕ) (lows : List (Option ℕ)) (low : ℕ) (told : List (Option Bit)) (start : ℕ) (row : Vector)
    → passed_row homes lows low told start (passed_row homes lows low told start row) ≡ passed_row homes lows low told start row
passed-twice homes lows low told start row =
    let f : ℕ → Bit = λ k. passed_bit homes lows low told (start + k) (get_or row k Unknown) in
    let g : ℕ → Bit = λ k. passed_bit homes lows low told (start + k) (get_or (map f (range_with_len 0 (length row))) k Unknown) in
    ap (λ n. map g (range_with_len 0 n)) (length-passed homes lows low told start row)
    ∙ rows-alike g f (length row)
    (λ k lt. ap (λ x. passed_bit homes lows low told (start + k) x) (get_or-map-range_with_len f 0 (length row) k k Unknown lt (zero-add k))
    ∙ twice (is_at (low_at homes lows (start + k)) low) (told_bit (get_or told (get_or homes (start + k) 0) None)) (get_or row k Unknown))
  where
    twice : (t : Bool) (x y : Bit) → cond t x (cond t x y) ≡ cond t x y
    twice true x y = refl
    twice false x y = refl

-- a wire stays in which no bit lies in the net
pub passed-none : (homes : List ℕ) (lows : List (Option ℕ)) (low : ℕ) (told : List (Option Bit)) (start : ℕ) (row : Vector)
    → ((k : ℕ) → k < length row → low_at homes lows (start + k) ≡ Some low → ⊥) → passed_row homes lows low told start row ≡ row
passed-none homes lows low told start row h =
    rows-alike (λ k. passed_bit homes lows low told (start + k) (get_or row k Unknown)) (λ k. get_or row k Unknown) (length row)
    (λ k lt. stays (low_at homes lows (start + k)) (h k lt) (told_bit (get_or told (get_or homes (start + k) 0) None)) (get_or row k Unknown))
    ∙ row-whole row (length row) refl
  where
    pick : (l : ℕ) (t : Bool) → eqb l low ≡ t → ((Some l ≡ Some low) → ⊥) → (x y : Bit) → cond t x y ≡ y
    pick l true e out x y = absurd (out (ap (λ z. Some z) (eqb-true l low e)))
    pick l false e out x y = refl

    stays : (o : Option ℕ) → (o ≡ Some low → ⊥) → (x y : Bit) → cond (is_at o low) x y ≡ y
    stays None out x y = refl
    stays (Some l) out x y = pick l (eqb l low) refl out x y

-- ---- wires

-- these wires have what they are told, and the others stay
pub record WiresTaken (homes starts : List ℕ) (lows : List (Option ℕ)) (low : ℕ) (told : List (Option Bit)) (wires : List ℕ) (old new : List Vector) : Type 0 where
  pub sizes : map (λ row. length row) new ≡ map (λ row. length row) old
  pub rows : (n : ℕ) → Contains wires n → get_or new n [] ≡ passed_row homes lows low told (get_or starts n 0) (get_or old n [])
  pub left : (n : ℕ) → (Contains wires n → ⊥) → get_or new n [] ≡ get_or old n []

pub taken-none : (homes starts : List ℕ) (lows : List (Option ℕ)) (low : ℕ) (told : List (Option Bit)) (old : List Vector) → WiresTaken homes starts lows low told [] old old
taken-none homes starts lows low told old = record { sizes = refl; rows = λ n h. absurd (none-has n h); left = λ n h. refl }

-- how many wires there are
pub as-many-taken : (homes starts : List ℕ) (lows : List (Option ℕ)) (low : ℕ) (told : List (Option Bit)) (wires : List ℕ) (old new : List Vector)
    → WiresTaken homes starts lows low told wires old new → length new ≡ length old
as-many-taken homes starts lows low told wires old new t =
    let size : Vector → ℕ = λ row. length row in
    sym (length-map new size) ∙ ap (λ l. length l) t.sizes ∙ length-map old size

-- what a pass over a wire makes of it, whether it was taken before or not
pub taken-again : (homes starts : List ℕ) (lows : List (Option ℕ)) (low : ℕ) (told : List (Option Bit)) (wires : List ℕ) (old mid : List Vector)
    → WiresTaken homes starts lows low told wires old mid → (wire : ℕ)
    → passed_row homes lows low told (get_or starts wire 0) (get_or mid wire []) ≡ passed_row homes lows low told (get_or starts wire 0) (get_or old wire [])
taken-again homes starts lows low told wires old mid t wire =
    let passed : Vector → Vector = passed_row homes lows low told (get_or starts wire 0) in
    elim (has-or-not wires wire) [
      | inl c ↦ ap passed (t.rows wire c) ∙ passed-twice homes lows low told (get_or starts wire 0) (get_or old wire [])
      | inr out ↦ ap passed (t.left wire out)
    ]

pub taken-more : (homes starts : List ℕ) (lows : List (Option ℕ)) (low : ℕ) (told : List (Option Bit)) (wires : List ℕ) (old mid new : List Vector)
    → WiresTaken homes starts lows low told wires old mid → (wire : ℕ) → wire < length mid
    → new ≡ set mid wire (passed_row homes lows low told (get_or starts wire 0) (get_or mid wire []))
    → WiresTaken homes starts lows low told (wires ++ wire ∷ []) old new
taken-more homes starts lows low told wires old mid new t wire lt e =
    subst (λ (rows : List Vector). WiresTaken homes starts lows low told (wires ++ wire ∷ []) old rows) (sym e) (record {
      sizes = lengths-set mid wire row lt (length-passed homes lows low told (get_or starts wire 0) (get_or mid wire [])) ∙ t.sizes;
      rows = λ n h. elim (cases_eq n wire) [
        | inl same ↦
            ap (λ j. get_or (set mid wire row) j []) same ∙ get_or-set_same mid wire row [] lt
            ∙ taken-again homes starts lows low told wires old mid t wire
            ∙ ap (λ j. passed_row homes lows low told (get_or starts j 0) (get_or old j [])) (sym same)
        | inr other ↦ get_or-set_other mid wire n row [] other ∙ t.rows n (before n other h)
      ];
      left = λ n h.
          get_or-set_other mid wire n row [] (λ same. h (Contains-append_right wires (wire ∷ []) n (has-one n wire same)))
          ∙ t.left n (λ c. h (Contains-append_left wires (wire ∷ []) n c));
    })
  where
    row : Vector
    row = passed_row homes lows low told (get_or starts wire 0) (get_or mid wire [])

    before : (n : ℕ) → (n ≡ wire → ⊥) → Contains (wires ++ wire ∷ []) n → Contains wires n
    before n other h = elim (Contains-append_cases wires (wire ∷ []) n h) [
      | inl c ↦ c
      | inr c ↦ absurd (other (one-has n wire c))
    ]

-- a wire that changes has not what it had at first
pub changed-more : (homes starts : List ℕ) (lows : List (Option ℕ)) (low : ℕ) (told : List (Option Bit)) (wires : List ℕ) (old mid new : List Vector)
    → WiresTaken homes starts lows low told wires old mid → (wire : ℕ) → wire < length mid
    → new ≡ set mid wire (passed_row homes lows low told (get_or starts wire 0) (get_or mid wire []))
    → get_or new wire [] ≢ get_or mid wire [] → get_or new wire [] ≢ get_or old wire []
changed-more homes starts lows low told wires old mid new t wire lt e differ = elim (has-or-not wires wire) [
  | inl c ↦ absurd (differ (is ∙ taken-again homes starts lows low told wires old mid t wire ∙ sym (t.rows wire c)))
  | inr out ↦ (λ same. differ (same ∙ sym (t.left wire out)))
]
  where
    is : get_or new wire [] ≡ passed_row homes lows low told (get_or starts wire 0) (get_or mid wire [])
    is = ap (λ rows. get_or rows wire []) e ∙ get_or-set_same mid wire (passed_row homes lows low told (get_or starts wire 0) (get_or mid wire [])) [] lt

-- all wires of the net are taken: that is a pass
pub taken-all : (homes starts : List ℕ) (lows : List (Option ℕ)) (low : ℕ) (told : List (Option Bit)) (lists : List (List ℕ)) (old new : List Vector)
    → LieThere (map (λ row. length row) old) starts homes lows lists → WiresTaken homes starts lows low told (get_or lists low []) old new → Passed homes starts lows low told old new
taken-all homes starts lows low told lists old new lie t = record {
  as_many = as-many-taken homes starts lows low told (get_or lists low []) old new t;
  rows = λ n lt. elim (has-or-not (get_or lists low []) n) [
    | inl c ↦ t.rows n c
    | inr out ↦
        let size : Vector → ℕ = λ row. length row in
        let wide : get_or (map size old) n 0 ≡ length (get_or old n []) = get_or-map size old n [] 0 lt in
        t.left n out
        ∙ sym (passed-none homes lows low told (get_or starts n 0) (get_or old n [])
        (λ k kl is. out (lie n k low (omega (arith, lt, length-map old size)) (omega (arith, kl, wide)) is)))
  ];
}

-- ---- the wires of the net

pub number-there : (items list : List ℕ) (i m : ℕ) → items ≡ list → i < length items → ((n : ℕ) → Contains list n → n < m) → get_or items i 0 < m
number-there items list i m e lt h =
    h (get_or items i 0) (subst (λ (l : List ℕ). Contains l (get_or items i 0)) e (i, lt, get_or_default items i (get_or items i 0) 0 lt))

pub taken-next : (homes starts : List ℕ) (lows : List (Option ℕ)) (low : ℕ) (told : List (Option Bit)) (items list : List ℕ) (i : ℕ) (old mid new : List Vector) → items ≡ list → i < length items
    → WiresTaken homes starts lows low told (take i list) old mid → get_or items i 0 < length mid
    → new ≡ set mid (get_or items i 0) (passed_row homes lows low told (get_or starts (get_or items i 0) 0) (get_or mid (get_or items i 0) []))
    → WiresTaken homes starts lows low told (take (i + 1) list) old new
taken-next homes starts lows low told items list i old mid new e lt t below row =
    let more : take (i + 1) list ≡ take i list ++ get_or items i 0 ∷ [] =
    take_more list i 0 (omega (arith, lt, ap (λ l. length l) e)) ∙ ap (λ (l : List ℕ). take i list ++ get_or l i 0 ∷ []) (sym e) in
    subst (λ (l : List ℕ). WiresTaken homes starts lows low told l old new) (sym more)
    (taken-more homes starts lows low told (take i list) old mid new t (get_or items i 0) below row)
