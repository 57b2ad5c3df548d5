-- What is read so far, with one line more and at the end.
use Rattle.std.proofs.Common.{◌≡◌, ◌≢◌, ℕ, ◌+◌, ◌-◌, ◌^◌, ◌<◌, Bool, true, false, List, [], ◌∷◌, ◌++◌, length, map, codes, take, drop, refl, sym, ap, ◌∙◌, subst, arith}
use Rattle.std.specs.List.{All, AllZip}
use Rattle.std.specs.Prelude.{slice_index, bytes_eq}
use Rattle.std.proofs.lemmas.List.{append-nil, length_push, length-append, take-append-drop, take_at}
use Rattle.std.proofs.lemmas.List.Elements.{All-nil, All-cons, All-head, All-tail, All-push}
use Rattle.std.proofs.lemmas.Slice.Eq.{bytes_eq-Decides}
use Rattle.svex_shape.specs.declared.shape.Shape.{Shape}
use Rattle.svex_arena.specs.Arenas.{IsArena}
use Rattle.driver_resolve.specs.declared.driver.Driver.{Driver}
use Rattle.driver_resolve.specs.Drivers.{widths_of, is_of_wires, IsDriver}
use Rattle.flat_net.specs.declared.flat.Flat.{Flat}
use Rattle.flat_net.specs.Flats.{IsFlat, IsSignal, IsJoin, links_of}
use Rattle.lhs_alias.specs.Pairs.{HaveOwnChildren}
use Rattle.flat_text.specs.Lines.{Text, ended, text_of}
use Rattle.flat_text.specs.FlatTexts.{AreNodes, FlatText, SameDriver, IsUnbroken, BreaksAt}
use Rattle.flat_text.proofs.Renaming.{width_part, variables_part, expr_part}
use Rattle.flat_read.specs.declared.reader.Reader.{Reader}
use Rattle.flat_read.specs.Designs.{front_of, with_item}
use Rattle.flat_read.specs.States.{Holds, AreNumbered, over, IsCut, HasRead, HasReadAll, TookLine, RefusedLine, nothing_shown}
use Rattle.flat_read.proofs.Adding.{part_of}
use Rattle.flat_read.proofs.Telling.{lines_are}
use Rattle.flat_read.proofs.Going.{next_front}
use Rattle.flat_read.proofs.Breaking.{all_unbroken, text_more, breaks_at_line, refused_begins, breaks_at_end, breaks_behind, breaks_first}

pub start_read : (r : Reader) (text : Text) → Holds nothing_shown r → HasRead (ended (codes "flat 1") ++ text) text 1 r
start_read r text h = record { shown = nothing_shown; holds = h; is = refl; count = refl; unbroken = All-cons IsUnbroken (codes "flat 1") [] (all_unbroken (codes "flat 1") refl) (All-nil IsUnbroken) }

pub read_more : (whole text line more : Text) (n : ℕ) (old new : Reader) (h : HasRead whole text n old) → IsCut text line more → TookLine h.shown line new → HasRead whole more (n + 1) new
read_more whole text line more n old new h c t =
    let front : front_of (with_item h.shown t.it) ≡ front_of h.shown ++ line ∷ [] = next_front h.shown t.it t.added.0 ∙ ap (λ l. front_of h.shown ++ l ∷ []) (sym t.is) in
    record {
      shown = with_item h.shown t.it;
      holds = t.added.1;
      is = text_more (front_of h.shown) whole text line more h.is c ∙ ap (λ l. text_of l ++ more) (sym front);
      count = ap (λ m. m + 1) h.count ∙ sym (ap length front ∙ length_push (front_of h.shown) line);
      unbroken = subst (All IsUnbroken) (sym front) (All-push IsUnbroken (front_of h.shown) line h.unbroken c.unbroken);
    }

pub cut_shorter : (text line more : Text) → IsCut text line more → length more < length text
cut_shorter text line more c = let a = ap length c.is in let b = length-append (ended line) more in let d = length_push line 10 in omega arith

pub read_all : (whole text line more : Text) (n : ℕ) (r : Reader) → HasRead whole text n r → IsCut text line more → line ≡ codes "end" → more ≡ [] → HasReadAll whole r
read_all whole text line more n r h c last none = record {
  shown = h.shown;
  holds = h.holds;
  is = text_more (front_of h.shown) whole text line more h.is c ∙ (λ i. text_of (front_of h.shown ++ last i ∷ []) ++ none i) ∙ append-nil (text_of (front_of h.shown ++ codes "end" ∷ [])) ∙ ap text_of (sym (lines_are h.shown));
}

-- ---- where the form is broken

pub bad_line : (whole text line more : Text) (n m : ℕ) (r : Reader) (h : HasRead whole text n r) → IsCut text line more → n < 2 ^ 64 - 1 → line ≢ codes "end" → RefusedLine h.shown line → n + 1 ≡ m → BreaksAt whole m
bad_line whole text line more n m r h c few last refused e =
    subst (BreaksAt whole) (ap (λ k. k + 1) (sym h.count) ∙ e) (breaks_at_line whole text line more h.shown h.holds.told h.is h.unbroken c (refused_begins h.shown line h.holds.told (subst (λ k. k < 2 ^ 64 - 1) h.count few) last refused))

pub bad_end : (whole rest : Text) (n m : ℕ) (r : Reader) → HasRead whole rest n r → IsUnbroken rest → n + 1 ≡ m → BreaksAt whole m
bad_end whole rest n m r h last e = subst (BreaksAt whole) (ap (λ k. k + 1) (sym h.count) ∙ e) (breaks_at_end whole rest h.shown h.holds.told h.is h.unbroken last)

pub bad_behind : (whole text line more : Text) (n m : ℕ) (r : Reader) → HasRead whole text n r → IsCut text line more → line ≡ codes "end" → (more ≡ [] → ⊥) → n + 2 ≡ m → BreaksAt whole m
bad_behind whole text line more n m r h c last goes e = subst (BreaksAt whole) (ap (λ k. k + 2) (sym h.count) ∙ e) (breaks_behind whole text line more h.shown h.holds.told h.is h.unbroken c last goes)

-- ---- the design that is read

over_same : (shown : Flat) (arena : List Shape) (numbers : List ℕ) → AreNodes shown.arena → IsArena arena → AreNumbered shown.arena arena numbers → (drivers : List Driver) → All (IsDriver (widths_of shown.wires) shown.arena) drivers → AllZip (SameDriver shown.arena arena) drivers (map (over numbers) drivers)
over_same shown arena numbers nodes a n [] h = tt
over_same shown arena numbers nodes a n (d ∷ more) h =
    let here = All-head (IsDriver (widths_of shown.wires) shown.arena) d more h in
    (record { target = refl; value = expr_part shown.arena arena (λ k. slice_index numbers k) nodes.children a.children (part_of shown.arena arena numbers n) d.value here.there }, over_same shown arena numbers nodes a n more (All-tail (IsDriver (widths_of shown.wires) shown.arena) d more h))

over_sound : (shown : Flat) (arena : List Shape) (numbers : List ℕ) → AreNodes shown.arena → IsArena arena → AreNumbered shown.arena arena numbers → (drivers : List Driver) → All (IsDriver (widths_of shown.wires) shown.arena) drivers → All (IsDriver (widths_of shown.wires) arena) (map (over numbers) drivers)
over_sound shown arena numbers nodes a n [] h = All-nil (IsDriver (widths_of shown.wires) arena)
over_sound shown arena numbers nodes a n (d ∷ more) h =
    let here = All-head (IsDriver (widths_of shown.wires) shown.arena) d more h in
    let part = part_of shown.arena arena numbers n in
    All-cons (IsDriver (widths_of shown.wires) arena) (over numbers d) (map (over numbers) more)
    (record {
      lies = here.lies;
      there = n.there d.value here.there;
      wide = sym (width_part shown.arena arena (λ k. slice_index numbers k) nodes.children a.children part d.value here.there) ∙ here.wide;
      mentions = sym (variables_part (is_of_wires (widths_of shown.wires)) shown.arena arena (λ k. slice_index numbers k) nodes.children a.children part d.value here.there) ∙ here.mentions;
    })
    (over_sound shown arena numbers nodes a n more (All-tail (IsDriver (widths_of shown.wires) shown.arena) d more h))

pub stands_of : (whole : Text) (r : Reader) (flat : Flat) → HasReadAll whole r → flat.arena ≡ r.arena → flat.wires ≡ r.wires → flat.drivers ≡ r.drivers → flat.joins ≡ r.joins → FlatText whole flat
stands_of whole r flat h arena wires drivers joins = record {
  shown = h.shown;
  told = h.holds.told;
  is = h.is;
  wires = sym (wires ∙ h.holds.wires);
  joins = sym (joins ∙ h.holds.joins);
  drivers = subst (λ a. AllZip (SameDriver h.shown.arena a) h.shown.drivers flat.drivers) (sym arena) (subst (AllZip (SameDriver h.shown.arena r.arena) h.shown.drivers) (sym (drivers ∙ h.holds.drivers))
      (over_same h.shown r.arena r.numbers.items h.holds.told.nodes h.holds.arena h.holds.nodes h.shown.drivers h.holds.told.sound.drivers));
}

pub sound_of : (whole : Text) (r : Reader) (flat : Flat) → HasReadAll whole r → flat.arena ≡ r.arena → flat.wires ≡ r.wires → flat.drivers ≡ r.drivers → flat.joins ≡ r.joins → IsFlat flat
sound_of whole r flat h arena wires drivers joins =
    let same_wires : h.shown.wires ≡ flat.wires = sym (wires ∙ h.holds.wires) in
    let same_joins : h.shown.joins ≡ flat.joins = sym (joins ∙ h.holds.joins) in
    record {
      wires = subst (All IsSignal) same_wires h.holds.told.sound.wires;
      drivers = subst (λ w. All (IsDriver (widths_of w) flat.arena) flat.drivers) same_wires (subst (λ a. All (IsDriver (widths_of h.shown.wires) a) flat.drivers) (sym arena) (subst (All (IsDriver (widths_of h.shown.wires) r.arena)) (sym (drivers ∙ h.holds.drivers))
          (over_sound h.shown r.arena r.numbers.items h.holds.told.nodes h.holds.arena h.holds.nodes h.shown.drivers h.holds.told.sound.drivers)));
      joins = subst (λ w. All (IsJoin (widths_of w)) flat.joins) same_wires (subst (All (IsJoin (widths_of h.shown.wires))) same_joins h.holds.told.sound.joins);
      own_children = subst (λ j. HaveOwnChildren (links_of j)) same_joins h.holds.told.sound.own_children;
    }

-- ---- the first line

pub first_there : (text rest : Text) → bytes_eq (take 7 text) (codes "flat 1\n") ≡ true → rest ≡ drop 7 text → text ≡ ended (codes "flat 1") ++ rest
first_there text rest front back =
    sym (take-append-drop 7 text) ∙ ap (λ t. t ++ drop 7 text) ((bytes_eq-Decides (take 7 text) (codes "flat 1\n")).0 front) ∙ ap (λ t. codes "flat 1\n" ++ t) (sym back)

pub first_missing : (text : Text) → bytes_eq (take 7 text) (codes "flat 1\n") ≡ false → BreaksAt text 1
first_missing text front = breaks_first text (λ rest e. apart ((bytes_eq-Decides (take 7 text) (codes "flat 1\n")).1 (ap (take 7) e ∙ take_at (codes "flat 1\n") rest 7 refl)) front)
  where
    apart : {b : Bool} → b ≡ true → b ≡ false → ⊥
    apart e f = cc
