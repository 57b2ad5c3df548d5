-- What is given to each net is gathered.
use Rattle.std.proofs.Common.{◌≡◌, ℕ, ◌+◌, ◌<◌, cond, List, [], ◌∷◌, ◌++◌, length, get_or, set, take, refl, sym, ap, ◌∙◌, inl, inr, arith, Vec, Global}
use Rattle.std.specs.Prelude.{All, Option, None, Some}
use Rattle.std.proofs.lemmas.Bool.{cases_eq, eq-eqb, ne_eqb, cases_lt}
use Rattle.std.proofs.lemmas.List.{get_or-set_same, get_or-set_other, get_or-map, get_or_past, length-map, map-set, take_more}
use Rattle.std.proofs.lemmas.List.Elements.{filter-append}
use Rattle.event_nets.specs.declared.gift.Gift.{Gift}
use Rattle.event_nets.specs.Runs.{is_at}
use Rattle.event_nets.specs.Needs.{gift_rows, given_to}

pub all_none : (rows : List (List Gift)) → All (λ row. row ≡ []) rows → (k : ℕ) → get_or rows k [] ≡ []
all_none rows h k = elim (cases_lt k (length rows)) [
  | inl lt ↦ h k [] lt
  | inr past ↦ get_or_past rows k [] past
]

pub gift_row : (given : List (Vec Gift Global)) (i : ℕ) (v : Vec Gift Global) → i < length given → v ≡ get_or given i v → v.items ≡ get_or (gift_rows given) i []
gift_row given i v lt is = ap (λ (w : Vec Gift Global). w.items) is ∙ sym (get_or-map (λ (w : Vec Gift Global). w.items) given i v [] lt)

pub gifts_set : (given : List (Vec Gift Global)) (low : ℕ) (v : Vec Gift Global) (row : List Gift) → low < length given → v.items ≡ get_or (gift_rows given) low [] ++ row
    → (k : ℕ) → k < length given → get_or (gift_rows (set given low v)) k [] ≡ get_or (gift_rows given) k [] ++ cond (is_at (Some low) k) row []
gifts_set given low v row lt is k kl = elim (cases_eq k low) [
  | inl e ↦
      ap (λ l. get_or l k []) (map-set (λ v. v.items) given low v) ∙ ap (λ j. get_or (set (gift_rows given) low v.items) j []) e
      ∙ get_or-set_same (gift_rows given) low v.items [] (omega (arith, lt, length-map given (λ (v : Vec Gift Global). v.items)))
      ∙ is ∙ ap (λ j. get_or (gift_rows given) j [] ++ row) (sym e)
      ∙ ap (λ t. get_or (gift_rows given) k [] ++ cond t row []) (sym (eq-eqb low k (sym e)))
  | inr ne ↦
      ap (λ l. get_or l k []) (map-set (λ v. v.items) given low v) ∙ get_or-set_other (gift_rows given) low k v.items [] ne
      ∙ sym (nil (get_or (gift_rows given) k [])) ∙ ap (λ t. get_or (gift_rows given) k [] ++ cond t row []) (sym (ne_eqb low k (λ e. ne (sym e))))
]
  where
    nil : (l : List Gift) → l ++ [] ≡ l
    nil [] = refl
    nil (x ∷ l) = ap (λ m. x ∷ m) (nil l)

pub given_more : (lows : List (Option ℕ)) (gifts : List Gift) (i low : ℕ) (g : Gift) → i < length gifts → get_or gifts i g ≡ g
    → given_to lows (take i gifts) low ++ cond (is_at (get_or lows g.to None) low) (g ∷ []) [] ≡ given_to lows (take (i + 1) gifts) low
given_more lows gifts i low g lt is =
    sym (ap (λ l. given_to lows l low) (take_more gifts i g lt ∙ ap (λ x. take i gifts ++ x ∷ []) is)
    ∙ filter-append (λ x. is_at (get_or lows x.to None) low) (take i gifts) (g ∷ []))
