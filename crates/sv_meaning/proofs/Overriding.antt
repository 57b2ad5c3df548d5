-- Where wires are overridden, their stimuli do not count: all that is given may come from one store.
use Rattle.std.proofs.Common.{◌≡◌, ℕ, zero, suc, ◌+◌, Bool, true, false, ◌||◌, not, List, [], ◌∷◌, ◌++◌, map, refl, sym, ap, ◌∙◌, subst, cond}
use Rattle.std.specs.Prelude.{filter}
use Rattle.std.specs.List.{list_any}
use Rattle.fourvec.specs.declared.Bit.{Bit}
use Rattle.lhs_alias.specs.declared.segs.WireBit.{WireBit}
use Rattle.lhs_alias.specs.Segs.{bit}
use Rattle.settling.specs.Settling.{Store, value_at, Link, Contribution, is_one_class, same_bit, first_bit}
use Rattle.settling.specs.Overriding.{is_given, overridden}
use Rattle.std.proofs.lemmas.Bool.{eq-eqb}
use Rattle.fourvec.proofs.Order.{both}
use Rattle.sv_outside.specs.declared.text.Signal.{Signal}
use Rattle.sv_meaning.specs.Designs.{Design, Overriding, bits_of_wire, has_wire, outside, overriding_from, stimuli_from}

-- ---- lists

filter-append : (p : Contribution → Bool) (a b : List Contribution) → filter p (a ++ b) ≡ filter p a ++ filter p b
filter-append p [] b = refl
filter-append p (c ∷ a) b = pick (p c) (filter-append p a b)
  where
    pick : (t : Bool) → filter p (a ++ b) ≡ filter p a ++ filter p b → cond t (c ∷ filter p (a ++ b)) (filter p (a ++ b)) ≡ cond t (c ∷ filter p a) (filter p a) ++ filter p b
    pick true e = ap (λ l. c ∷ l) e
    pick false e = e

append-assoc : (a b c : List Contribution) → (a ++ b) ++ c ≡ a ++ (b ++ c)
append-assoc [] b c = refl
append-assoc (x ∷ a) b c = ap (λ l. x ∷ l) (append-assoc a b c)

given-append : (links : List Link) (a b : List Contribution) (x : WireBit) → is_given links (a ++ b) x ≡ (is_given links a x || is_given links b x)
given-append links [] b x = refl
given-append links (c ∷ a) b x = pick (is_one_class links c.0 x) (given-append links a b x)
  where
    pick : (t : Bool) → is_given links (a ++ b) x ≡ (is_given links a x || is_given links b x) → (t || is_given links (a ++ b) x) ≡ ((t || is_given links a x) || is_given links b x)
    pick true e = refl
    pick false e = e

or-true : (t : Bool) → (t || true) ≡ true
or-true true = refl
or-true false = refl

-- ---- the bits of an overridden wire

-- each of these bits
unfoldable AllBits : (WireBit → Type 0) → List WireBit → Type 0
AllBits P [] = Unit {0}
AllBits P (b ∷ more) = P b × AllBits P more

abbrev Hides : List Link → List Contribution → WireBit → Type 0
Hides links over b = is_given links over b ≡ true

abbrev pub values : (WireBit → Bit) → List WireBit → List Contribution
values v bits = map (λ b. (b, v b)) bits

-- a contribution to a class that is not among these
abbrev is_kept : List Link → List Contribution → Contribution → Bool
is_kept links over c = not (is_given links over c.0)

same-refl : (a : WireBit) → same_bit a a ≡ true
same-refl a = both _ _ (eq-eqb a.wire a.wire refl) (eq-eqb a.at a.at refl)

own-more : (links : List Link) (v : WireBit → Bit) (c b : WireBit) (bits : List WireBit) → Hides links (values v bits) b → Hides links (values v (c ∷ bits)) b
own-more links v c b bits h = ap (λ t. is_one_class links c b || t) h ∙ or-true (is_one_class links c b)

all-more : (links : List Link) (v : WireBit → Bit) (c : WireBit) (bits some : List WireBit) → AllBits (Hides links (values v bits)) some → AllBits (Hides links (values v (c ∷ bits))) some
unfolding AllBits
all-more links v c bits [] h = tt
all-more links v c bits (b ∷ some) h = (own-more links v c b bits h.0, all-more links v c bits some h.1)

-- a list of bits hides each of them
own-bits : (links : List Link) (v : WireBit → Bit) (bits : List WireBit) → AllBits (Hides links (values v bits)) bits
unfolding AllBits
own-bits links v [] = tt
own-bits links v (b ∷ bits) = (
  ap (λ t. t || is_given links (values v bits) b) (same-refl (first_bit links b)),
  all-more links v b bits bits (own-bits links v bits),
)

-- so does a longer one
within : (links : List Link) (front own rest : List Contribution) (bits : List WireBit) → AllBits (Hides links own) bits → AllBits (Hides links (front ++ (own ++ rest))) bits
unfolding AllBits
within links front own rest [] h = tt
within links front own rest (b ∷ bits) h = (
  given-append links front (own ++ rest) b
      ∙ ap (λ t. is_given links front b || t) (given-append links own rest b ∙ ap (λ t. t || is_given links rest b) h.0)
      ∙ or-true (is_given links front b),
  within links front own rest bits h.1,
)

-- nothing is left of what is given to hidden bits
none-left : (links : List Link) (over : List Contribution) (v : WireBit → Bit) (bits : List WireBit) → AllBits (Hides links over) bits
    → filter (is_kept links over) (values v bits) ≡ []
unfolding AllBits
none-left links over v [] h = refl
none-left links over v (b ∷ bits) h =
    ap (λ t. cond (not t) ((b, v b) ∷ filter (is_kept links over) (values v bits)) (filter (is_kept links over) (values v bits))) h.0
    ∙ none-left links over v bits h.1

-- ---- one wire

abbrev setting : Overriding → ℕ → Signal → List Contribution
setting o n w = cond (has_wire o.wires n) (values (value_at o.values) (bits_of_wire n 0 w.width)) []

abbrev stimulus : ℕ → Signal → Store → List Contribution
stimulus n w stim = cond w.input (values (value_at stim) (bits_of_wire n 0 w.width)) []

-- a wire that is not overridden has its stimulus
same-stimulus : (o : Overriding) (n : ℕ) (stim : Store) → has_wire o.wires n ≡ false → (k width : ℕ)
    → values (value_at (outside stim o)) (bits_of_wire n k width) ≡ values (value_at stim) (bits_of_wire n k width)
unfolding bits_of_wire
same-stimulus o n stim e k zero = refl
same-stimulus o n stim e k (suc width) =
    ap (λ t. let c : Contribution = (bit n k, cond t (o.values n k) (stim n k)) in c ∷ values (value_at (outside stim o)) (bits_of_wire n (suc k) width)) e
    ∙ ap (λ l. let c : Contribution = (bit n k, stim n k) in c ∷ l) (same-stimulus o n stim e (suc k) width)

-- a wire that is overridden has what it is set to
pub same-setting : (o : Overriding) (n : ℕ) (stim : Store) → has_wire o.wires n ≡ true → (k width : ℕ)
    → values (value_at (outside stim o)) (bits_of_wire n k width) ≡ values (value_at o.values) (bits_of_wire n k width)
unfolding bits_of_wire
same-setting o n stim e k zero = refl
same-setting o n stim e k (suc width) =
    ap (λ t. let c : Contribution = (bit n k, cond t (o.values n k) (stim n k)) in c ∷ values (value_at (outside stim o)) (bits_of_wire n (suc k) width)) e
    ∙ ap (λ l. let c : Contribution = (bit n k, o.values n k) in c ∷ l) (same-setting o n stim e (suc k) width)

one-wire : (links : List Link) (o : Overriding) (stim : Store) (front rest : List Contribution) (n : ℕ) (w : Signal)
    → filter (is_kept links (front ++ (setting o n w ++ rest))) (stimulus n w (outside stim o))
    ≡ filter (is_kept links (front ++ (setting o n w ++ rest))) (stimulus n w stim)
one-wire links o stim front rest n w = pick (has_wire o.wires n) refl w.input
  where
    over : Bool → List Contribution
    over t = front ++ (cond t (values (value_at o.values) (bits_of_wire n 0 w.width)) [] ++ rest)

    pick : (t : Bool) → has_wire o.wires n ≡ t → (i : Bool)
        → filter (is_kept links (over t)) (cond i (values (value_at (outside stim o)) (bits_of_wire n 0 w.width)) [])
        ≡ filter (is_kept links (over t)) (cond i (values (value_at stim) (bits_of_wire n 0 w.width)) [])
    pick t e false = refl
    pick true e true =
        let bits = bits_of_wire n 0 w.width in
        let own = values (value_at o.values) bits in
        let hidden = within links front own rest bits (own-bits links (value_at o.values) bits) in
        none-left links (over true) (value_at (outside stim o)) bits hidden ∙ sym (none-left links (over true) (value_at stim) bits hidden)
    pick false e true = ap (λ l. filter (is_kept links (over false)) l) (same-stimulus o n stim e 0 w.width)

-- ---- all wires

all-wires : (links : List Link) (o : Overriding) (stim : Store) (front : List Contribution) (n : ℕ) (wires : List Signal)
    → filter (is_kept links (front ++ overriding_from n wires o)) (stimuli_from n wires (outside stim o))
    ≡ filter (is_kept links (front ++ overriding_from n wires o)) (stimuli_from n wires stim)
unfolding overriding_from stimuli_from
all-wires links o stim front n [] = refl
all-wires links o stim front n (w ∷ more) =
    let rest = overriding_from (suc n) more o in
    let over = front ++ (setting o n w ++ rest) in
    let kept : Contribution → Bool = is_kept links over in
    filter-append kept (stimulus n w (outside stim o)) (stimuli_from (suc n) more (outside stim o))
    ∙ ap (λ l. l ++ filter kept (stimuli_from (suc n) more (outside stim o))) (one-wire links o stim front rest n w)
    ∙ ap (λ l. filter kept (stimulus n w stim) ++ l)
    (subst (λ all. filter (is_kept links all) (stimuli_from (suc n) more (outside stim o)) ≡ filter (is_kept links all) (stimuli_from (suc n) more stim))
    (append-assoc front (setting o n w) rest) (all-wires links o stim (front ++ setting o n w) (suc n) more))
    ∙ sym (filter-append kept (stimulus n w stim) (stimuli_from (suc n) more stim))

-- what overrides hides the stimuli of overridden wires
pub outside_counts : (links : List Link) (o : Overriding) (stim : Store) (wires : List Signal) (all : List Contribution)
    → overridden links (overriding_from 0 wires o) (all ++ stimuli_from 0 wires (outside stim o)) ≡ overridden links (overriding_from 0 wires o) (all ++ stimuli_from 0 wires stim)
unfolding overridden
outside_counts links o stim wires all =
    let over = overriding_from 0 wires o in
    let kept : Contribution → Bool = is_kept links over in
    ap (λ l. l ++ over)
    (filter-append kept all (stimuli_from 0 wires (outside stim o)) ∙ ap (λ l. filter kept all ++ l) (all-wires links o stim [] 0 wires)
    ∙ sym (filter-append kept all (stimuli_from 0 wires stim)))
