-- One net is told the same where what is given to it alone is evaluated.
use Rattle.std.proofs.Common.{◌≡◌, ℕ, ◌+◌, ◌<◌, ◌≤◌, Bool, true, false, cond, eqb, List, [], ◌∷◌, length, get_or, map, refl, sym, ap, ◌∙◌, subst, inl, inr, arith, zero-add}
use Rattle.std.specs.Prelude.{All, Option, None, IfSome, filter}
use Rattle.std.specs.List.{range_with_len}
use Rattle.std.proofs.lemmas.Bool.{cases_lt, eqb-true}
use Rattle.std.proofs.lemmas.List.{get_or_past, ext_get_or}
use Rattle.std.proofs.lemmas.List.Elements.{All-filter}
use Rattle.std.proofs.lemmas.List.FromFn.{get_or-map-range_with_len, length-map-range_with_len}
use Rattle.fourvec.specs.declared.Bit.{Bit}
use Rattle.fourvec.specs.declared.Bit.TheVariants.{Unknown}
use Rattle.svex_shape.specs.declared.shape.Shape.{Shape}
use Rattle.svex_shape.specs.Values.{Vector, Reading}
use Rattle.node_memo.specs.declared.memo.Memo.{Memo}
use Rattle.node_memo.specs.Memos.{HasFresh, is_fresh}
use Rattle.event_nets.specs.declared.gift.Gift.{Gift}
use Rattle.event_nets.specs.declared.gift.Source.{Source}
use Rattle.event_nets.specs.declared.gift.Source.TheVariants.{Value, Stimulus}
use Rattle.event_nets.specs.Gifts.{IsGift, IsTold, source_in, gift_bit, given_at, told_of, told_bit, has_gift}
use Rattle.event_nets.specs.Needs.{IsRoot, node_of, given_to}
use Rattle.event_nets.specs.Runs.{is_at}
use Rattle.event_nets.proofs.NetPlaces.{map-same}
use Rattle.event_sim.specs.Passes.{IsToldOf}
use Rattle.event_sim.specs.Queues.{IsGivenFresh}
use Rattle.event_sim.specs.Rows.{low_at, passed_bit, Passed}
use Rattle.event_sim.proofs.Valued.{ideal, ideal-has}

-- ---- what is given has the same value in two lists

abbrev pub IsAlike : List Vector → List Vector → List Vector → Gift → Type 0
IsAlike values other stim g = source_in values stim g.from ≡ source_in other stim g.from

pub given-alike : (values other stim : List Vector) (own : List Gift) → All (IsAlike values other stim) own → (place : ℕ) → given_at values stim place own ≡ given_at other stim place own
given-alike values other stim own h place =
    map-same (IsAlike values other stim) (λ g. gift_bit values stim g) (λ g. gift_bit other stim g) (λ g e. ap (λ (v : Vector). get_or v g.at Unknown) e)
    (filter (λ g. eqb g.to place) own) (All-filter (λ g. eqb g.to place) (IsAlike values other stim) own h)

source-fresh : (r : Reading) (shapes : List Shape) (memo : Memo) (stim : List Vector) → HasFresh r shapes memo → (from : Source)
    → IfSome (node_of from) (λ k. k < length shapes) → IfSome (node_of from) (λ k. is_fresh memo.fresh.items k ≡ true) → source_in memo.values.items stim from ≡ source_in (ideal r shapes) stim from
source-fresh r shapes memo stim e (Value k) lt on = e.is k on ∙ sym ((ideal-has r shapes).is k lt)
source-fresh r shapes memo stim e (Stimulus n) lt on = refl

-- fresh values are those that an evaluation of all nodes gives
pub fresh-alike : (r : Reading) (shapes : List Shape) (memo : Memo) (stim : List Vector) → HasFresh r shapes memo → (own : List Gift) → All (IsRoot (length shapes)) own
    → All (IsGivenFresh memo) own → All (IsAlike memo.values.items (ideal r shapes) stim) own
fresh-alike r shapes memo stim e own roots fresh k d lt = source-fresh r shapes memo stim e (get_or own k d).from (roots k d lt) (fresh k d lt)

pub gifts-same : (values other stim : List Vector) (places : ℕ) (own : List Gift) → All (IsAlike values other stim) own → All (IsGift other stim places) own → All (IsGift values stim places) own
gifts-same values other stim places own h g k d lt =
    let x = get_or own k d in
    let is = g k d lt in
    record { class = is.class; source = subst (λ (v : Vector). x.at < length v) (sym (h k d lt)) is.source }

-- what the net is given at the place of one of its classes is all that is given there
filter-own : (p q : Gift → Bool) → ((g : Gift) → p g ≡ true → q g ≡ true) → (l : List Gift) → filter p (filter q l) ≡ filter p l
filter-own p q h [] = refl
filter-own p q h (g ∷ l) = pick (p g) refl (q g) refl (filter-own p q h l)
  where
    apart : false ≡ true → ⊥
    apart e = cc

    pick : (t : Bool) → p g ≡ t → (u : Bool) → q g ≡ u → filter p (filter q l) ≡ filter p l → filter p (cond u (g ∷ filter q l) (filter q l)) ≡ cond t (g ∷ filter p l) (filter p l)
    pick true e true f r = ap (λ t. cond t (g ∷ filter p (filter q l)) (filter p (filter q l))) e ∙ ap (λ m. g ∷ m) r
    pick true e false f r = absurd (apart (sym f ∙ h g e))
    pick false e true f r = ap (λ t. cond t (g ∷ filter p (filter q l)) (filter p (filter q l))) e ∙ r
    pick false e false f r = r

pub own-given : (values stim : List Vector) (lows : List (Option ℕ)) (low place : ℕ) → is_at (get_or lows place None) low ≡ true → (gifts : List Gift)
    → given_at values stim place (given_to lows gifts low) ≡ given_at values stim place gifts
own-given values stim lows low place on gifts =
    ap (λ l. map (λ g. gift_bit values stim g) l)
    (filter-own (λ g. eqb g.to place) (λ g. is_at (get_or lows g.to None) low) (λ g same. ap (λ (p : ℕ). is_at (get_or lows p None) low) (eqb-true g.to place same) ∙ on) gifts)

pub rows-alike : (f g : ℕ → Bit) (w : ℕ) → ((k : ℕ) → k < w → f k ≡ g k) → map f (range_with_len 0 w) ≡ map g (range_with_len 0 w)
rows-alike f g w h =
    let long = length-map-range_with_len f 0 w in
    ext_get_or Unknown (map f (range_with_len 0 w)) (map g (range_with_len 0 w)) (long ∙ sym (length-map-range_with_len g 0 w))
    (λ i lt.
    let below : i < w = omega (arith, lt, long) in
    get_or-map-range_with_len f 0 w i i Unknown below (zero-add i) ∙ h i below ∙ sym (get_or-map-range_with_len g 0 w i i Unknown below (zero-add i)))

-- a pass over one net reads what its own classes are told
pub passed-same : (homes starts : List ℕ) (lows : List (Option ℕ)) (low : ℕ) (told told2 : List (Option Bit)) (old new : List Vector)
    → ((n k : ℕ) → n < length old → k < length (get_or old n []) → is_at (low_at homes lows (get_or starts n 0 + k)) low ≡ true
    → get_or told (get_or homes (get_or starts n 0 + k) 0) None ≡ get_or told2 (get_or homes (get_or starts n 0 + k) 0) None)
    → Passed homes starts lows low told old new → Passed homes starts lows low told2 old new
passed-same homes starts lows low told told2 old new same p = record {
  as_many = p.as_many;
  rows = λ n lt. p.rows n lt
      ∙ rows-alike (λ k. passed_bit homes lows low told (get_or starts n 0 + k) (get_or (get_or old n []) k Unknown))
      (λ k. passed_bit homes lows low told2 (get_or starts n 0 + k) (get_or (get_or old n []) k Unknown)) (length (get_or old n []))
      (λ k kl. pick (get_or starts n 0 + k) (get_or (get_or old n []) k Unknown) (is_at (low_at homes lows (get_or starts n 0 + k)) low) refl (same n k lt kl));
}
  where
    pick : (place : ℕ) (x : Bit) (t : Bool) → is_at (low_at homes lows place) low ≡ t
        → (is_at (low_at homes lows place) low ≡ true → get_or told (get_or homes place 0) None ≡ get_or told2 (get_or homes place 0) None)
        → cond t (told_bit (get_or told (get_or homes place 0) None)) x ≡ cond t (told_bit (get_or told2 (get_or homes place 0) None)) x
    pick place x true e h = ap told_bit (h e)
    pick place x false e h = refl

-- what classes would be told
abbrev pub ideal-told : List Vector → List Vector → List Gift → ℕ → List (Option Bit)
ideal-told values stim gifts count = map (λ place. told_of (given_at values stim place gifts)) (range_with_len 0 count)

pub ideal-is : (values stim : List Vector) (gifts : List Gift) (count place : ℕ) → place < count → get_or (ideal-told values stim gifts count) place None ≡ told_of (given_at values stim place gifts)
ideal-is values stim gifts count place lt = get_or-map-range_with_len (λ p. told_of (given_at values stim p gifts)) 0 count place place None lt (zero-add place)

pub ideal-long : (values stim : List Vector) (gifts : List Gift) (count : ℕ) → length (ideal-told values stim gifts count) ≡ count
ideal-long values stim gifts count = length-map-range_with_len (λ p. told_of (given_at values stim p gifts)) 0 count

pub ideal-tells : (values stim : List Vector) (gifts : List Gift) (count : ℕ) → IsTold values stim gifts (ideal-told values stim gifts count)
ideal-tells values stim gifts count place lt = ideal-is values stim gifts count place (omega (arith, lt, ideal-long values stim gifts count))

-- the classes of a net are told so
pub net-told : (values other stim : List Vector) (lows : List (Option ℕ)) (gifts own : List Gift) (low : ℕ) → own ≡ given_to lows gifts low → All (IsAlike values other stim) own
    → (told : List (Option Bit)) (count : ℕ) → length told ≡ count → length lows ≡ count → IsToldOf own values stim own told
    → (home : ℕ) → is_at (get_or lows home None) low ≡ true → has_gift own home ≡ true → get_or told home None ≡ get_or (ideal-told other stim gifts count) home None
net-told values other stim lows gifts own low is alike told count long wide tells home on has =
    let below : home < count = inside in
    tells home (omega (arith, below, long)) has
    ∙ ap told_of (given-alike values other stim own alike home)
    ∙ ap (λ l. told_of (given_at other stim home l)) is
    ∙ ap told_of (own-given other stim lows low home on gifts)
    ∙ sym (ideal-is other stim gifts count home below)
  where
    apart : false ≡ true → ⊥
    apart f = cc

    nowhere : is_at (get_or lows home None) low ≡ true → length lows ≤ home → ⊥
    nowhere t past = apart (ap (λ (x : Option ℕ). is_at x low) (sym (get_or_past lows home None past)) ∙ t)

    inside : home < count
    inside = elim (cases_lt home count) [
      | inl lt ↦ lt
      | inr past ↦ absurd (nowhere on (omega (arith, past, wide)))
    ]
