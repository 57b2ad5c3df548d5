-- Drivers of parts of targets.
use Rattle.std.proofs.Common.{◌≡◌, ℕ, zero, suc, ◌+◌, ◌<◌, ◌≤◌, List, [], ◌∷◌, ◌++◌, length, take, drop, min, map, get_or, refl, sym, ap, ◌∙◌, subst, arith, IsTrue, length-append, append_assoc}
use Rattle.std.specs.List.{All, zip, range_with_len}
use Rattle.std.proofs.lemmas.List.{append-nil, take_all, at_drop_more, at_drop_all}
use Rattle.std.proofs.lemmas.List.Elements.{All-nil, All-push, All-weaker}
use Rattle.fourvec.specs.declared.Bit.{Bit}
use Rattle.fourvec.specs.Bits.{slice_of}
use Rattle.lhs_alias.specs.declared.segs.Seg.{Seg}
use Rattle.lhs_alias.specs.Segs.{bit, seg_bits, lhs_bits}
use Rattle.lhs_alias.specs.Lies.{LieIn}
use Rattle.svex_shape.specs.declared.shape.Shape.{Shape}
use Rattle.svex_shape.specs.Shapes.{width_at}
use Rattle.svex_shape.specs.Values.{each_variable}
use Rattle.svex_arena.specs.Arenas.{IsArena, Extends}
use Rattle.svex_arena.proofs.Steps.{value-extends, width-extends, variables-extends}
use Rattle.driver_resolve.specs.declared.driver.Driver.{Driver}
use Rattle.driver_resolve.specs.Drivers.{bitwise, Phase, bits_in, driver_gives, drivers_give}
use Rattle.sv_lower.specs.Nodes.{bits_at_node, FromOne}
use Rattle.sv_lower.proofs.Sizing.{length-node}
use Rattle.sv_lower.proofs.Trees.{taken_more}
use Rattle.sv_targets.specs.declared.parts.Part.{Part}
use Rattle.sv_targets.specs.Slots.{Slots, AreParts}
use Rattle.sv_stmt.specs.Passed.{IsPlaced}
use Rattle.sv_stmt.proofs.Passed.{gives_push, gives_kept, placed_kept, mentions_kept}
use Rattle.sv_elab.specs.Working.{IsWithin, Puts, PutAll, Fills, parts_give}
use Rattle.sv_elab.proofs.Slotting.{Lies, driven_are}

-- ---- how many bits segments have

seg_long : (n k w : ℕ) → length (map (bit n) (range_with_len k w)) ≡ w
seg_long n k zero = refl
seg_long n k (suc w) = ap suc (seg_long n (k + 1) w)

one_more : (s : Seg) (rest : List Seg) → length (lhs_bits (s ∷ rest)) ≡ s.width + length (lhs_bits rest)
unfolding seg_bits
one_more s rest = let e = length-append (lhs_bits rest) (seg_bits s) in let w = seg_long s.wire s.lo s.width in omega (arith, e, w)

pub bits_more : (segs : List Seg) (i : ℕ) (s : Seg) → i < length segs → length (lhs_bits (drop i segs)) ≡ (get_or segs i s).width + length (lhs_bits (drop (i + 1) segs))
bits_more segs i s l = at_drop_more (λ xs. length (lhs_bits xs)) segs i s l ∙ one_more (get_or segs i s) (drop (i + 1) segs)

pub bits_end : (segs : List Seg) (i : ℕ) → length segs ≤ i → length (lhs_bits (drop i segs)) ≡ 0
bits_end segs i l = at_drop_all (λ xs. length (lhs_bits xs)) segs i l

pub sum_more : (count w rest here next all : ℕ) → here ≡ w + rest → next ≡ min (count + w) 255 → min 255 (count + here) ≡ all → min 255 (next + rest) ≡ all
sum_more count w rest here next all h n e = grind (arith, h, n, e)

pub sum_end : (count rest all : ℕ) → count ≤ 255 → rest ≡ 0 → min 255 (count + rest) ≡ all → count ≡ all
sum_end count rest all c r e = grind (arith, c, r, e)

-- ---- one part

counted : (count n : ℕ) → count ≡ min 255 n → n ≤ 128 → count ≡ n
counted count n e l = grind (arith, e, l)

pub puts : (widths : List ℕ) (old new : List Shape) (value count node : ℕ) (part : Part) (target : List Seg) → width_at old value ≤ 128 → count ≡ min 255 (length (lhs_bits part.to)) → IsWithin (width_at old value) part → LieIn widths part.to
    → FromOne old new (λ v. slice_of v part.lo count) value count node → target ≡ part.to → Puts widths old new value part (record { target = target; value = node })
puts widths old new value count node part target most short within lies h t =
    let ends = within.ends in
    let c = counted count (length (lhs_bits part.to)) short (omega (arith, most, ends)) in
    record {
      target = t;
      within = within.ends;
      value_is = λ bits. h.value bits ∙ ap (λ n. slice_of (bits_at_node bits old value) part.lo n) c;
      lies = subst (LieIn widths) (sym t) lies;
      placed = record { there = h.within; wide = h.width ∙ c ∙ ap (λ xs. length (lhs_bits xs)) (sym t) };
      mentions = h.mentions;
    }

-- ---- parts one after another

pub part_within : (old mid : List Shape) (value : ℕ) (parts : List Part) (i : ℕ) (part : Part) → Extends old mid → value < length old → i < length parts → part ≡ get_or parts i part → All (IsWithin (width_at old value)) parts → IsWithin (width_at mid value) part
part_within old mid value parts i part e there l is h = subst (λ w. IsWithin w part) (sym (width-extends old mid value e there)) (subst (IsWithin (width_at old value)) (sym is) (h i part l))

give_push : (v : List Bit) (parts : List Part) (p : Part) → parts_give v (parts ++ p ∷ []) ≡ parts_give v parts ++ zip (lhs_bits p.to) (slice_of v p.lo (length (lhs_bits p.to)))
unfolding parts_give
give_push v [] p = append-nil (zip (lhs_bits p.to) (slice_of v p.lo (length (lhs_bits p.to))))
give_push v (x ∷ parts) p =
    ap (λ zs. zip (lhs_bits x.to) (slice_of v x.lo (length (lhs_bits x.to))) ++ zs) (give_push v parts p)
    ∙ sym (append_assoc (zip (lhs_bits x.to) (slice_of v x.lo (length (lhs_bits x.to)))) (parts_give v parts) (zip (lhs_bits p.to) (slice_of v p.lo (length (lhs_bits p.to)))))

pub put_none : (widths : List ℕ) (old : List Shape) (value : ℕ) (parts : List Part) → PutAll widths old old value (take 0 parts) []
unfolding drivers_give parts_give
put_none widths old value parts = record {
  gives = λ p. refl;
  within = All-nil _;
  lies = All-nil (λ d. LieIn widths d.target);
  placed = All-nil (IsPlaced old);
  mentions = λ p a. All-nil (λ d. IsTrue (each_variable p old d.value));
}

pub put_more : (widths : List ℕ) (old mid new : List Shape) (value : ℕ) (parts : List Part) (i : ℕ) (part : Part) (all : List Driver) (d : Driver) → value < length old → Extends old mid → Extends mid new → i < length parts → part ≡ get_or parts i part
    → PutAll widths old mid value (take i parts) all → Puts widths mid new value part d → PutAll widths old new value (take (i + 1) parts) (all ++ d ∷ [])
put_more widths old mid new value parts i part all d there e f l is h k =
    let P : List Part → Type 0 = λ xs. PutAll widths old new value xs (all ++ d ∷ []) in
    subst P (sym (taken_more parts i part l is)) (record {
      gives = λ p.
          let v = bits_at_node (bits_in p) old value in
          gives_push new all d p
          ∙ ap (λ g. g ++ driver_gives new p d) (gives_kept mid new all p f h.placed ∙ h.gives p)
          ∙ ap (λ g. parts_give v (take i parts) ++ g) (own p)
          ∙ sym (give_push v (take i parts) part);
      within = All-push (λ x. x.lo + length (lhs_bits x.to) ≤ width_at old value) (take i parts) part h.within (subst (λ w. part.lo + length (lhs_bits part.to) ≤ w) (width-extends old mid value e there) k.within);
      lies = All-push (λ x. LieIn widths x.target) all d h.lies k.lies;
      placed = All-push (IsPlaced new) all d (All-weaker (IsPlaced mid) (IsPlaced new) (placed_kept mid new f) all h.placed) k.placed;
      mentions = λ p a. All-push (λ x. IsTrue (each_variable p new x.value)) all d (mentions_kept p mid new f all h.placed (h.mentions p a)) (k.mentions p (variables-extends p old mid value e there ∙ a));
    })
  where
    own : (p : Phase) → driver_gives new p d ≡ zip (lhs_bits part.to) (slice_of (bits_at_node (bits_in p) old value) part.lo (length (lhs_bits part.to)))
    own p =
        ap (λ t. zip (lhs_bits t) (bits_at_node (bits_in p) new d.value)) k.target
        ∙ ap (zip (lhs_bits part.to)) (k.value_is (bits_in p) ∙ ap (λ v. slice_of v part.lo (length (lhs_bits part.to))) (value-extends (bitwise (bits_in p)) old mid value e there))

pub put_end : (widths : List ℕ) (old new : List Shape) (value : ℕ) (parts : List Part) (i : ℕ) (all : List Driver) → length parts ≤ i → PutAll widths old new value (take i parts) all → PutAll widths old new value parts all
put_end widths old new value parts i all l h = let P : List Part → Type 0 = λ xs. PutAll widths old new value xs all in subst P (take_all i parts l) h

pub fills : (widths : List ℕ) (old new : List Shape) (value : ℕ) (parts : List Part) (all : List Driver) → IsArena old → value < length old → PutAll widths old new value parts all → (slots : Slots) → AreParts slots parts → Fills widths old new value slots all
fills widths old new value parts all ar there h slots a = record {
  gives = λ p.
      let v = bits_at_node (bits_in p) old value in
      let long = length-node (bits_in p) old value ar there in
      h.gives p ∙ sym (driven_are slots parts v a (All-weaker (λ (x : Part). x.lo + length (lhs_bits x.to) ≤ width_at old value) (Lies v) (λ x g. subst (λ n. x.lo + length (lhs_bits x.to) ≤ n) (sym long) g) parts h.within));
  lies = h.lies;
  placed = h.placed;
  mentions = h.mentions;
}
