-- Nodes of rows, of pieces and of runs.
use Rattle.std.proofs.Common.{◌≡◌, ◌⊎◌, ◌↔◌, ℕ, ◌+◌, ◌-◌, ◌<◌, ◌≤◌, List, [], ◌∷◌, ◌++◌, length, get_or, map, take, sym, ap, ◌∙◌, subst, inl, inr, arith, add-zero}
use Rattle.std.specs.Prelude.{All, slice_index}
use Rattle.std.proofs.lemmas.Bool.{cases_eq, cases_lt}
use Rattle.std.specs.List.{Contains, range_with_len}
use Rattle.std.proofs.lemmas.List.{take_all, take_more, ext_get_or, get_or-map, get_or_push, get_or_append_left, length-map, map-append, length-take}
use Rattle.std.proofs.lemmas.List.Elements.{All-contains, Contains-append_left, Contains-get_or, Contains-push, Contains-push_cases}
use Rattle.fourvec.specs.declared.Bit.{Bit}
use Rattle.fourvec.specs.declared.Bit.TheVariants.{Unknown}
use Rattle.fourvec.specs.Bits.{res_bit, res_of}
use Rattle.fourvec.proofs.Order.{both}
use Rattle.settling.specs.Events.{resolved}
use Rattle.svex_shape.specs.declared.shape.Bin.TheVariants.{Res, Concat}
use Rattle.svex_shape.specs.declared.shape.Shape.{Shape}
use Rattle.svex_shape.specs.Values.{Vector, value_at}
use Rattle.svex_arena.specs.Arenas.{IsArena, Extends}
use Rattle.driver_resolve.specs.Drivers.{Phase, reading}
use Rattle.event_nets.specs.declared.gift.Gift.{Gift}
use Rattle.event_nets.specs.declared.gift.Source.TheVariants.{Stimulus}
use Rattle.event_nets.proofs.NetPlaces.{map-same}
use Rattle.lhs_alias.specs.declared.segs.Seg.{Seg}
use Rattle.driver_resolve.specs.declared.driver.NetEq.{NetEq}
use Rattle.net_equations.specs.Equations.{is_of_phase, seg_at}
use Rattle.net_equations.specs.Groups.{Mentions}
use Rattle.net_resolve.specs.Pieces.{HasSource, source_width, source_value, IsWithin, row_at, AreMoved, IsGivenRow, IsGivenRun, bit_of, row_bit, part_value, row_value, run_value, SomeMentions, IsMade, IsPair, IsOne, HasInRun}
use Rattle.net_resolve.proofs.Ranges.{range-same, range-split, pairs-mapped, resolved-push, resolved-one}
use Rattle.net_resolve.proofs.Making.{some-of, made_kept, made_since, made_alike, made_same, bit_of-kept}

-- ---- two nodes together

-- a gift of one of two kinds
abbrev pub Either : (Gift → Type 0) → (Gift → Type 0) → Gift → Type 0
Either From More g = From g ⊎ More g

both-mention : (widths : List ℕ) (base : List Shape) (From More : Gift → Type 0) (u v : ℕ) (f g : Phase → Vector) (old : List Shape) (a b wire : ℕ)
    → IsMade widths base From u f old a → IsMade widths base More v g old b → (Mentions old a wire ⊎ Mentions old b wire) ↔ SomeMentions base (Either From More) wire
both-mention widths base From More u v f g old a b wire x y = (
  λ m. elim m [
    | inl h ↦ some-of base From (Either From More) wire (λ k one. inl one) ((x.mentions wire).0 h)
    | inr h ↦ some-of base More (Either From More) wire (λ k one. inr one) ((y.mentions wire).0 h)
  ],
  λ s. elim s.is [
    | inl one ↦ inl ((x.mentions wire).1 (record { gift = s.gift; is = one; node = s.node; from = s.from; mentions = s.mentions }))
    | inr one ↦ inr ((y.mentions wire).1 (record { gift = s.gift; is = one; node = s.node; from = s.from; mentions = s.mentions }))
  ],
)

-- the resolution of two nodes of one width
pub resolved_pair : (widths : List ℕ) (base : List Shape) (From More : Gift → Type 0) (width : ℕ) (f g : Phase → Vector) (old new : List Shape) (a b node : ℕ)
    → IsMade widths base From width f old a → IsMade widths base More width g old b → IsPair Res old new a b node → IsMade widths base (Either From More) width (λ p. res_of (f p) (g p)) new node
resolved_pair widths base From More width f g old new a b node x y n = record {
  there = n.there;
  wide = n.wide ∙ x.wide;
  value = λ p. n.value (reading p) ∙ ap (λ v. res_of v (value_at (reading p) old b)) (x.value p) ∙ ap (λ v. res_of (f p) v) (y.value p);
  phase = n.variables (is_of_phase widths) ∙ both _ _ x.phase y.phase;
  mentions = λ wire. let two = both-mention widths base From More width width f g old a b wire x y in (
    λ m. two.0 ((n.mentions wire).0 m),
    λ s. (n.mentions wire).1 (two.1 s),
  );
}

-- one node above another
pub pair_above : (widths : List ℕ) (base : List Shape) (From More : Gift → Type 0) (high low : ℕ) (f g : Phase → Vector) (old new : List Shape) (a b node : ℕ)
    → IsMade widths base From high f old a → IsMade widths base More low g old b → IsPair Concat old new a b node → IsMade widths base (Either From More) (low + high) (λ p. g p ++ f p) new node
pair_above widths base From More high low f g old new a b node x y n =
    let wide = n.wide in
    let up = x.wide in
    let down = y.wide in
    record {
      there = n.there;
      wide = omega (arith, wide, up, down);
      value = λ p. n.value (reading p) ∙ ap (λ v. v ++ value_at (reading p) old a) (y.value p) ∙ ap (λ v. g p ++ v) (x.value p);
      phase = n.variables (is_of_phase widths) ∙ both _ _ x.phase y.phase;
      mentions = λ wire. let two = both-mention widths base From More high low f g old a b wire x y in (
        λ m. two.0 ((n.mentions wire).0 m),
        λ s. (n.mentions wire).1 (two.1 s),
      );
    }

-- ---- rows

has_source : (widths : List ℕ) (shapes : List Shape) (width : ℕ) (row : List Gift) → All (IsWithin widths shapes width) row → (g : Gift) → Contains row g → HasSource widths shapes g.from
has_source widths shapes width row h g c = (All-contains (IsWithin widths shapes width) row g h c).source

part_value-kept : (widths : List ℕ) (base old : List Shape) (g : Gift) (width : ℕ) → Extends base old → HasSource widths base g.from → (p : Phase) → part_value widths old g width p ≡ part_value widths base g width p
part_value-kept widths base old g width e h p = range-same (λ j. bit_of widths old p j g) (λ j. bit_of widths base p j g) width (λ j lt. bit_of-kept widths base old p j g e h)

-- a part of a gift of a row, by the arena in which the row began
part_in_row : (widths : List ℕ) (base old new : List Shape) (row : List Gift) (i width node : ℕ) (g : Gift) → IsArena base → Extends base old → i < length row → get_or row i g ≡ g
    → All (IsWithin widths base width) row → IsMade widths old (IsOne g) width (part_value widths old g width) new node → IsMade widths base (IsOne g) width (part_value widths base g width) new node
part_in_row widths base old new row i width node g a e lt is h m =
    let has = has_source widths base width row h g (i, lt, is) in
    made_since widths base old new (IsOne g) width (part_value widths old g width) (part_value widths base g width) node a e (λ x one. subst (λ y. HasSource widths base y.from) (sym one) has) (part_value-kept widths base old g width e has) m

-- the first gift of a row
pub first_of_row : (widths : List ℕ) (base new : List Shape) (row : List Gift) (width node : ℕ) (g : Gift) → IsArena base → Extends base base → 0 < length row → get_or row 0 g ≡ g
    → All (IsWithin widths base width) row → IsMade widths base (IsOne g) width (part_value widths base g width) new node
    → IsMade widths base (Contains (take 1 row)) width (row_value widths base (take 1 row) width) new node
first_of_row widths base new row width node g a e lt is h m =
    let one : take 1 row ≡ g ∷ [] = take_more row 0 g lt ∙ ap (λ x. x ∷ []) is in
    made_same widths base (IsOne g) (Contains (take 1 row)) width (part_value widths base g width) (row_value widths base (take 1 row) width) new node
    (λ x own. subst (λ l. Contains l x) (sym one) (0, omega arith, sym own))
    (λ x c. elim (Contains-push_cases [] g x (subst (λ l. Contains l x) one c)) [ inl none ↦ absurd (omega (arith, none.1)) | inr own ↦ sym own ])
    (λ p. range-same (λ j. bit_of widths base p j g) (λ j. row_bit widths base p j (take 1 row)) width
    (λ j k. sym (resolved-one (bit_of widths base p j g)) ∙ ap (λ l. row_bit widths base p j l) (sym one)))
    (part_in_row widths base base new row 0 width node g a e lt is h m)

-- one gift more of a row
pub more_of_row : (widths : List ℕ) (base old mid new : List Shape) (row : List Gift) (i width so_far part node : ℕ) (g : Gift) → IsArena base → IsArena old → Extends base old → Extends old mid
    → 1 ≤ i → i < length row → get_or row i g ≡ g → All (IsWithin widths base width) row
    → IsMade widths base (Contains (take i row)) width (row_value widths base (take i row) width) old so_far → IsMade widths old (IsOne g) width (part_value widths old g width) mid part
    → IsPair Res mid new so_far part node → IsMade widths base (Contains (take (i + 1) row)) width (row_value widths base (take (i + 1) row) width) new node
more_of_row widths base old mid new row i width so_far part node g a b e f some lt is h x y n =
    let Before : Gift → Type 0 = Contains (take i row) in
    let After : Gift → Type 0 = Contains (take (i + 1) row) in
    let before : Phase → Vector = row_value widths base (take i row) width in
    let own : Phase → Vector = part_value widths base g width in
    let after : Phase → Vector = row_value widths base (take (i + 1) row) width in
    let more : take (i + 1) row ≡ take i row ++ g ∷ [] = take_more row i g lt ∙ ap (λ z. take i row ++ z ∷ []) is in
    let kept = made_kept widths base Before width before old mid so_far b f x in
    let next = part_in_row widths base old mid row i width part g a e lt is h y in
    made_same widths base (Either Before (IsOne g)) After width (λ p. res_of (before p) (own p)) after new node
    (λ z either. subst (λ l. Contains l z) (sym more) (elim either [ inl c ↦ Contains-append_left (take i row) (g ∷ []) z c | inr one ↦ subst (λ u. Contains (take i row ++ g ∷ []) u) (sym one) (Contains-push (take i row) g) ]))
    (λ z c. elim (Contains-push_cases (take i row) g z (subst (λ l. Contains l z) more c)) [ inl earlier ↦ inl earlier | inr one ↦ inr (sym one) ])
    (λ p.
    let bits : ℕ → List Bit = λ j. map (bit_of widths base p j) (take i row) in
    pairs-mapped res_bit (λ j. row_bit widths base p j (take i row)) (λ j. bit_of widths base p j g) (range_with_len 0 width)
    ∙ range-same (λ j. res_bit (row_bit widths base p j (take i row)) (bit_of widths base p j g)) (λ j. row_bit widths base p j (take (i + 1) row)) width
    (λ j k.
    sym (resolved-push (bits j) (bit_of widths base p j g) (omega (arith, length-map (take i row) (bit_of widths base p j), length-take i row, lt, some)))
    ∙ ap resolved (sym (map-append (bit_of widths base p j) (take i row) (g ∷ [])) ∙ ap (λ l. map (bit_of widths base p j) l) (sym more))))
    (resolved_pair widths base Before (IsOne g) width before own mid new so_far part node kept next n)

-- the whole row
pub whole_row : (widths : List ℕ) (base new : List Shape) (row : List Gift) (i width node : ℕ) → length row ≤ i → IsMade widths base (Contains (take i row)) width (row_value widths base (take i row) width) new node
    → IsMade widths base (Contains row) width (row_value widths base row width) new node
whole_row widths base new row i width node le m = subst (λ l. IsMade widths base (Contains l) width (row_value widths base l width) new node) (take_all i row le) m

-- ---- pieces

moved-bits : (widths : List ℕ) (shapes : List Shape) (p : Phase) (by : ℕ) (a b : List Gift) → AreMoved by a b → map (bit_of widths shapes p by) a ≡ map (bit_of widths shapes p 0) b
moved-bits widths shapes p by a b m =
    let f : Gift → Bit = bit_of widths shapes p by in
    let g : Gift → Bit = bit_of widths shapes p 0 in
    let none : Gift = record { to = 0; from = Stimulus 0; at = 0 } in
    ext_get_or Unknown (map f a) (map g b) (length-map a f ∙ m.as_many ∙ sym (length-map b g))
    (λ i lt.
    let below : i < length a = omega (arith, lt, length-map a f) in
    let same = m.as_many in
    let x = get_or a i none in
    let y = get_or b i none in
    let is = m.each i none none below in
    let at : x.at + by ≡ y.at + 0 = is.at ∙ sym (add-zero y.at) in
    get_or-map f a i none Unknown below
    ∙ ap (λ s. get_or (source_value widths shapes s p) (x.at + by) Unknown) is.from
    ∙ ap (λ k. get_or (source_value widths shapes y.from p) k Unknown) at
    ∙ sym (get_or-map g b i none Unknown (omega (arith, below, same))))

-- the sources of a piece's lowest row have all its bits
pub piece-within : (widths : List ℕ) (shapes : List Shape) (rows : List (List Gift)) (low width : ℕ) → IsGivenRun widths shapes rows low width
    → ((j : ℕ) → j < width → AreMoved j (row_at rows low) (row_at rows (low + j))) → All (IsWithin widths shapes width) (row_at rows low)
piece-within widths shapes rows low width run moved i d lt =
    let some = run.some in
    let last : width - 1 < width = omega (arith, some) in
    let up = moved (width - 1) last in
    let many = up.as_many in
    let x = get_or (row_at rows low) i d in
    let y = get_or (row_at rows (low + (width - 1))) i d in
    let is = up.each i d d lt in
    let in_last : i < length (row_at rows (low + (width - 1))) = omega (arith, lt, many) in
    let top = (run.given (width - 1) last).within i d in_last in
    let ends = top.ends in
    let at = is.at in
    let wide : source_width widths shapes x.from ≡ source_width widths shapes y.from = ap (λ s. source_width widths shapes s) is.from in
    record {
      source = subst (λ s. HasSource widths shapes s) (sym is.from) top.source;
      ends = omega (arith, ends, at, wide, some);
    }

-- the gifts of a piece's lowest row mention what all its gifts do
piece-mentions : (base : List Shape) (rows : List (List Gift)) (low width wire : ℕ) → 1 ≤ width → ((j : ℕ) → j < width → AreMoved j (row_at rows low) (row_at rows (low + j)))
    → SomeMentions base (Contains (row_at rows low)) wire ↔ SomeMentions base (HasInRun rows low width) wire
piece-mentions base rows low width wire some moved = (
  λ s. record {
    gift = s.gift;
    is = record { above = 0; below = omega (arith, some); is = subst (λ k. Contains (row_at rows k) s.gift) (sym (add-zero low)) s.is };
    node = s.node;
    from = s.from;
    mentions = s.mentions;
  },
  λ s.
      let m = moved s.is.above s.is.below in
      let c = s.is.is in
      let many = m.as_many in
      let lt : c.0 < length (row_at rows low) = omega (arith, c.1, many) in
      let own = get_or (row_at rows low) c.0 s.gift in
      record {
        gift = own;
        is = Contains-get_or (row_at rows low) c.0 s.gift lt;
        node = s.node;
        from = (m.each c.0 s.gift s.gift lt).from ∙ ap (λ (g : Gift). g.from) c.2 ∙ s.from;
        mentions = s.mentions;
      },
)

-- the node of a piece
pub piece_made : (widths : List ℕ) (old new : List Shape) (rows : List (List Gift)) (low width node : ℕ) → IsGivenRun widths old rows low width
    → ((j : ℕ) → j < width → AreMoved j (row_at rows low) (row_at rows (low + j)))
    → IsMade widths old (Contains (row_at rows low)) width (row_value widths old (row_at rows low) width) new node
    → IsMade widths old (HasInRun rows low width) width (run_value widths old rows low width) new node
piece_made widths old new rows low width node run moved m =
    made_alike widths old (Contains (row_at rows low)) (HasInRun rows low width) width (row_value widths old (row_at rows low) width) (run_value widths old rows low width) new node
    (λ wire. piece-mentions old rows low width wire run.some moved)
    (λ p. range-same (λ j. row_bit widths old p j (row_at rows low)) (λ j. row_bit widths old p 0 (row_at rows (low + j))) width
    (λ j lt. ap resolved (moved-bits widths old p j (row_at rows low) (row_at rows (low + j)) (moved j lt))))
    m

-- ---- runs

-- the part of a run from a bit on
pub run-part : (widths : List ℕ) (shapes : List Shape) (rows : List (List Gift)) (low width at part : ℕ) → IsGivenRun widths shapes rows low width → 1 ≤ part → at + part ≤ width
    → IsGivenRun widths shapes rows (low + at) part
run-part widths shapes rows low width at part run some fits =
    let most = run.most in
    let inside = run.inside in
    record {
      some = some;
      most = omega (arith, most, fits);
      inside = omega (arith, inside, fits);
      given = λ j lt.
          let same : low + (at + j) ≡ low + at + j = omega arith in
          subst (λ k. IsGivenRow widths shapes (row_at rows k)) same (run.given (at + j) (omega (arith, lt, fits)));
    }

run_value-kept : (widths : List ℕ) (base old : List Shape) (rows : List (List Gift)) (low width : ℕ) → Extends base old → IsGivenRun widths base rows low width → (p : Phase)
    → run_value widths old rows low width p ≡ run_value widths base rows low width p
run_value-kept widths base old rows low width e run p =
    range-same (λ j. row_bit widths old p 0 (row_at rows (low + j))) (λ j. row_bit widths base p 0 (row_at rows (low + j))) width
    (λ j lt. ap resolved (row-kept (row_at rows (low + j)) (run.given j lt).within))
  where
    row-kept : (row : List Gift) → All (IsWithin widths base 1) row → map (bit_of widths old p 0) row ≡ map (bit_of widths base p 0) row
    row-kept row h = map-same (IsWithin widths base 1) (bit_of widths old p 0) (bit_of widths base p 0) (λ g w. bit_of-kept widths base old p 0 g e w.source) row h

run-has : (widths : List ℕ) (shapes : List Shape) (rows : List (List Gift)) (low width : ℕ) → IsGivenRun widths shapes rows low width → (g : Gift) → HasInRun rows low width g → HasSource widths shapes g.from
run-has widths shapes rows low width run g h = has_source widths shapes 1 (row_at rows (low + h.above)) (run.given h.above h.below).within g h.is

-- the gifts of two neighbouring parts are those of both
run-parts : (rows : List (List Gift)) (low at part : ℕ) (g : Gift) → Either (HasInRun rows (low + at) part) (HasInRun rows low at) g → HasInRun rows low (at + part) g
run-parts rows low at part g (inl h) =
    let lt = h.below in
    let same : low + at + h.above ≡ low + (at + h.above) = omega arith in
    record { above = at + h.above; below = omega (arith, lt); is = subst (λ k. Contains (row_at rows k) g) same h.is }
run-parts rows low at part g (inr h) = let lt = h.below in record { above = h.above; below = omega (arith, lt); is = h.is }

run-halves : (rows : List (List Gift)) (low at part : ℕ) (g : Gift) → HasInRun rows low (at + part) g → Either (HasInRun rows (low + at) part) (HasInRun rows low at) g
run-halves rows low at part g h = elim (cases_lt h.above at) [
  | inl low_half ↦ inr (record { above = h.above; below = low_half; is = h.is })
  | inr behind ↦
      let lt = h.below in
      let same : low + h.above ≡ low + at + (h.above - at) = omega (arith, behind) in
      inl (record { above = h.above - at; below = omega (arith, lt, behind); is = subst (λ k. Contains (row_at rows k) g) same h.is })
]

-- a piece more above the pieces of a run
pub more_of_run : (widths : List ℕ) (base old mid new : List Shape) (rows : List (List Gift)) (low width at part so_far high node : ℕ) → IsArena base → IsArena old → Extends base old → Extends old mid
    → IsGivenRun widths base rows low width → 1 ≤ part → at + part ≤ width
    → IsMade widths base (HasInRun rows low at) at (run_value widths base rows low at) old so_far
    → IsMade widths old (HasInRun rows (low + at) part) part (run_value widths old rows (low + at) part) mid high
    → IsPair Concat mid new high so_far node
    → IsMade widths base (HasInRun rows low (at + part)) (at + part) (run_value widths base rows low (at + part)) new node
more_of_run widths base old mid new rows low width at part so_far high node a b e f run some fits x y n =
    let Low : Gift → Type 0 = HasInRun rows low at in
    let High : Gift → Type 0 = HasInRun rows (low + at) part in
    let before : Phase → Vector = run_value widths base rows low at in
    let own : Phase → Vector = run_value widths base rows (low + at) part in
    let after : Phase → Vector = run_value widths base rows low (at + part) in
    let upper = run-part widths base rows low width at part run some fits in
    let kept = made_kept widths base Low at before old mid so_far b f x in
    let next = made_since widths base old mid High part (run_value widths old rows (low + at) part) own high a e (run-has widths base rows (low + at) part upper)
    (run_value-kept widths base old rows (low + at) part e upper) y in
    made_same widths base (Either High Low) (HasInRun rows low (at + part)) (at + part) (λ p. before p ++ own p) after new node (run-parts rows low at part) (run-halves rows low at part)
    (λ p.
    let bit_at : ℕ → Bit = λ j. row_bit widths base p 0 (row_at rows (low + j)) in
    ap (λ l. before p ++ l) (range-same (λ j. row_bit widths base p 0 (row_at rows (low + at + j))) (λ j. bit_at (at + j)) part
    (λ j lt. let same : low + at + j ≡ low + (at + j) = omega arith in ap (λ k. row_bit widths base p 0 (row_at rows k)) same))
    ∙ sym (range-split bit_at at part))
    (pair_above widths base High Low part at own before mid new high so_far node next kept n)

-- the node of a run in an arena that has grown
pub run_since : (widths : List ℕ) (base old new : List Shape) (rows : List (List Gift)) (low width node : ℕ) → IsArena base → Extends base old → IsGivenRun widths base rows low width
    → IsMade widths old (HasInRun rows low width) width (run_value widths old rows low width) new node → IsMade widths base (HasInRun rows low width) width (run_value widths base rows low width) new node
run_since widths base old new rows low width node a e run m =
    made_since widths base old new (HasInRun rows low width) width (run_value widths old rows low width) (run_value widths base rows low width) node a e (run-has widths base rows low width run)
    (run_value-kept widths base old rows low width e run) m

-- ---- one equation after another

pub segs_more : (segs : List Seg) (i : ℕ) (eqs more : List NetEq) (value : ℕ) → i < length segs → more ≡ eqs ++ (let e : NetEq = record { seg = seg_at segs i; value = value } in e) ∷ []
    → map (λ (e : NetEq). e.seg) eqs ≡ take i segs → map (λ (e : NetEq). e.seg) more ≡ take (i + 1) segs
segs_more segs i eqs more value lt e h =
    let last : NetEq = record { seg = seg_at segs i; value = value } in
    ap (λ l. map (λ (x : NetEq). x.seg) l) e ∙ map-append (λ (x : NetEq). x.seg) eqs (last ∷ []) ∙ ap (λ l. l ++ seg_at segs i ∷ []) h
    ∙ sym (take_more segs i (record { wire = 0; lo = 0; width = 0 }) lt)

-- the equation of a net is made
abbrev pub IsMadeAt : List ℕ → List Shape → List (List Gift) → List ℕ → List Seg → List Shape → List ℕ → ℕ → Type 0
IsMadeAt widths base rows nets segs new nodes i =
    IsMade widths base (HasInRun rows (slice_index nets i) (seg_at segs i).width) (seg_at segs i).width (run_value widths base rows (slice_index nets i) (seg_at segs i).width) new (slice_index nodes i)

pub equation_more : (widths : List ℕ) (base old new : List Shape) (rows : List (List Gift)) (nets : List ℕ) (segs : List Seg) (i : ℕ) (eqs more : List NetEq) (value : ℕ) → IsArena base → IsArena old → Extends base old → Extends old new
    → i < length segs → more ≡ eqs ++ (let e : NetEq = record { seg = seg_at segs i; value = value } in e) ∷ [] → map (λ (e : NetEq). e.seg) eqs ≡ take i segs
    → IsGivenRun widths base rows (slice_index nets i) (seg_at segs i).width
    → ((j : ℕ) → j < i → IsMadeAt widths base rows nets segs old (map (λ (e : NetEq). e.value) eqs) j)
    → IsMade widths old (HasInRun rows (slice_index nets i) (seg_at segs i).width) (seg_at segs i).width (run_value widths old rows (slice_index nets i) (seg_at segs i).width) new value
    → (j : ℕ) → j < i + 1 → IsMadeAt widths base rows nets segs new (map (λ (e : NetEq). e.value) more) j
equation_more widths base old new rows nets segs i eqs more value a b e f lt pushed so_far run each m j below = elim (cases_eq j i) [
  | inl is ↦
      let made = run_since widths base old new rows (slice_index nets i) (seg_at segs i).width value a e run m in
      let here : slice_index (map node more) j ≡ value = ap (λ l. get_or l j 0) nodes ∙ get_or_push (map node eqs) value 0 j (long ∙ sym is) in
      subst (λ n. IsMade widths base (HasInRun rows (slice_index nets j) (seg_at segs j).width) (seg_at segs j).width (run_value widths base rows (slice_index nets j) (seg_at segs j).width) new n) (sym here)
      (subst (λ k. IsMade widths base (HasInRun rows (slice_index nets k) (seg_at segs k).width) (seg_at segs k).width (run_value widths base rows (slice_index nets k) (seg_at segs k).width) new value) (sym is) made)
  | inr ne ↦
      let lower : j < i = omega (arith, below, ne) in
      let inside : j < length (map node eqs) = omega (arith, lower, long) in
      let here : slice_index (map node more) j ≡ slice_index (map node eqs) j = ap (λ l. get_or l j 0) nodes ∙ get_or_append_left (map node eqs) (value ∷ []) 0 j inside in
      subst (λ n. IsMade widths base (HasInRun rows (slice_index nets j) (seg_at segs j).width) (seg_at segs j).width (run_value widths base rows (slice_index nets j) (seg_at segs j).width) new n) (sym here)
      (made_kept widths base (HasInRun rows (slice_index nets j) (seg_at segs j).width) (seg_at segs j).width (run_value widths base rows (slice_index nets j) (seg_at segs j).width) old new (slice_index (map node eqs) j) b f (each j lower))
]
  where
    node : NetEq → ℕ
    node x = x.value

    nodes : map node more ≡ map node eqs ++ value ∷ []
    nodes = ap (λ l. map node l) pushed ∙ map-append node eqs ((let x : NetEq = record { seg = seg_at segs i; value = value } in x) ∷ [])

    long : length (map node eqs) ≡ i
    long =
        let taken : length (take i segs) ≡ i = omega (arith, lt, length-take i segs) in
        length-map eqs node ∙ sym (length-map eqs (λ (x : NetEq). x.seg)) ∙ ap (λ l. length l) so_far ∙ taken
