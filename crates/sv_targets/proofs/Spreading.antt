-- Runs of bits as parts.
use Rattle.std.proofs.Common.{◌≡◌, ℕ, zero, suc, ◌+◌, ◌-◌, ◌≤◌, ◌<◌, Bool, false, List, [], ◌∷◌, ◌++◌, length, take, get_or, map, replicate, Option, Some, None, Result, Ok, Err, IfOk, All, refl, sym, ap, ◌∙◌, subst, arith, append_assoc}
use Rattle.std.proofs.lemmas.List.{append-nil, map-append, take_all}
use Rattle.std.proofs.lemmas.List.Elements.{All-from_recursion, recursion_from_All, All-push}
use Rattle.std.specs.Prelude.{◌==◌}
use Rattle.std.proofs.lemmas.Bool.Decides.{nat_tests}
use Rattle.std.proofs.Math.Seq.{take-suc}
use Rattle.std.specs.List.{AllByRecursion}
use Rattle.lhs_alias.specs.declared.segs.Seg.{Seg}
use Rattle.lhs_alias.specs.declared.segs.WireBit.{WireBit}
use Rattle.lhs_alias.specs.Segs.{lhs_bits, AreSegs}
use Rattle.sv_targets.specs.declared.parts.Part.{Part}
use Rattle.sv_targets.specs.Slots.{Slots, spread, Ascend, end_of, Runs, AreParts}

next : (i : ℕ) → i + 1 ≡ suc i
next i = omega arith

spread_more : (at : ℕ) (parts : List Part) (p : Part) → spread at (parts ++ p ∷ []) ≡ (spread at parts ++ replicate (p.lo - end_of at parts) None) ++ map Some (lhs_bits p.to)
unfolding spread end_of
spread_more at [] p = append-nil (replicate (p.lo - at) None ++ map Some (lhs_bits p.to))
spread_more at (q ∷ parts) p =
    let here : Slots = replicate (q.lo - at) None ++ map Some (lhs_bits q.to) in
    let next : ℕ = q.lo + length (lhs_bits q.to) in
    let gap : Slots = replicate (p.lo - end_of next parts) None in
    ap (λ (z : Slots). here ++ z) (spread_more next parts p)
    ∙ sym (append_assoc here (spread next parts ++ gap) (map Some (lhs_bits p.to)))
    ∙ ap (λ (z : Slots). z ++ map Some (lhs_bits p.to)) (sym (append_assoc here (spread next parts) gap))

end_more : (at : ℕ) (parts : List Part) (p : Part) → end_of at (parts ++ p ∷ []) ≡ p.lo + length (lhs_bits p.to)
unfolding end_of
end_more at [] p = refl
end_more at (q ∷ parts) p = end_more (q.lo + length (lhs_bits q.to)) parts p

ascend_more : (at : ℕ) (parts : List Part) (p : Part) → Ascend at parts → end_of at parts ≤ p.lo → Ascend at (parts ++ p ∷ [])
unfolding Ascend end_of
ascend_more at [] p h k = (k, tt)
ascend_more at (q ∷ parts) p h k = (h.0, ascend_more (q.lo + length (lhs_bits q.to)) parts p h.1 k)

segs_more : (parts : List Part) (p : Part) → AllByRecursion (λ x. AreSegs x.to) parts → AreSegs p.to → AllByRecursion (λ x. AreSegs x.to) (parts ++ p ∷ [])
segs_more [] p h k = (k, h)
segs_more (q ∷ parts) p h k = (h.0, segs_more parts p h.1 k)

none_more : (n : ℕ) (s : Slots) → s ≡ None ∷ [] → replicate (suc n) None ≡ replicate n None ++ s
none_more zero s e = sym e
none_more (suc n) s e = ap (λ (z : Slots). None ∷ z) (none_more n s e)

take_more : (all : Slots) (i : ℕ) (x : Option WireBit) → i < length all → x ≡ get_or all i x → take (i + 1) all ≡ take i all ++ x ∷ []
take_more all i x h e = ap (λ (k : ℕ). take k all) (next i) ∙ take-suc all i x h ∙ ap (λ (z : Option WireBit). take i all ++ z ∷ []) (sym e)

pub runs_begin : (all : Slots) (parts : List Part) (run : List WireBit) → parts ≡ [] → run ≡ [] → Runs all 0 parts run
unfolding spread end_of Ascend
runs_begin all parts run p r =
    let R : List Part → List WireBit → Type 0 = λ x y. Runs all 0 x y in
    subst (λ (x : List Part). R x run) (sym p) (subst (λ (y : List WireBit). R [] y) (sym r) (record { gap = 0; is = refl; place = omega arith; ascend = tt; segs = λ k d lt. absurd (omega arith); some = λ k d lt. absurd (omega arith) }))

pub runs_bit : (all : Slots) (i : ℕ) (parts : List Part) (run now : List WireBit) (b : WireBit) → i < length all → Some b ≡ get_or all i (Some b) → now ≡ run ++ b ∷ [] → Runs all i parts run → Runs all (i + 1) parts now
runs_bit all i parts run now b lt e g h =
    subst (λ (z : List WireBit). Runs all (i + 1) parts z) (sym g) (record {
      gap = h.gap;
      is =
          take_more all i (Some b) lt e ∙ ap (λ (z : Slots). z ++ Some b ∷ []) h.is
          ∙ append_assoc (spread 0 parts ++ replicate h.gap None) (map Some run) (Some b ∷ [])
          ∙ ap (λ (z : Slots). (spread 0 parts ++ replicate h.gap None) ++ z) (sym (map-append Some run (b ∷ [])));
      place = let l = length_more run b in let p = h.place in omega arith;
      ascend = h.ascend;
      segs = h.segs;
      some = h.some;
    })
  where
    length_more : (xs : List WireBit) (x : WireBit) → length (xs ++ x ∷ []) ≡ length xs + 1
    length_more [] x = refl
    length_more (y ∷ xs) x = let e = length_more xs x in omega arith

pub runs_none : (all : Slots) (i : ℕ) (parts : List Part) (now : List WireBit) → i < length all → None ≡ get_or all i None → now ≡ [] → Runs all i parts [] → Runs all (i + 1) parts now
runs_none all i parts now lt e g h =
    subst (λ (z : List WireBit). Runs all (i + 1) parts z) (sym g) (record {
      gap = suc h.gap;
      is =
          take_more all i None lt e ∙ ap (λ (z : Slots). z ++ None ∷ []) (h.is ∙ append-nil (spread 0 parts ++ replicate h.gap None))
          ∙ append_assoc (spread 0 parts) (replicate h.gap None) (None ∷ [])
          ∙ ap (λ (z : Slots). spread 0 parts ++ z) (sym (none_more h.gap (None ∷ []) refl)) ∙ sym (append-nil (spread 0 parts ++ replicate (suc h.gap) None));
      place = let p = h.place in omega arith;
      ascend = h.ascend;
      segs = h.segs;
      some = h.some;
    })

pub runs_closed : (all : Slots) (end : ℕ) (parts now : List Part) (run : List WireBit) (segs : List Seg) → 1 ≤ length run → Runs all end parts run → lhs_bits segs ≡ run → AreSegs segs → now ≡ parts ++ record { lo = end - length run; to = segs } ∷ [] → Runs all end now []
runs_closed all end parts now run segs there h e s g =
    let p : Part = record { lo = end - length run; to = segs } in
    let l : length (lhs_bits segs) ≡ length run = ap length e in
    let pl = h.place in
    let d : (end - length run) - end_of 0 parts ≡ h.gap = omega arith in
    let m : end_of 0 (parts ++ p ∷ []) ≡ (end - length run) + length (lhs_bits segs) = end_more 0 parts p in
    let made : Runs all end (parts ++ p ∷ []) [] = record {
      gap = 0;
      is =
          h.is ∙ (λ i. (spread 0 parts ++ replicate (sym d i) None) ++ map Some (sym e i)) ∙ sym (spread_more 0 parts p)
          ∙ sym (append-nil (spread 0 (parts ++ p ∷ []))) ∙ sym (append-nil (spread 0 (parts ++ p ∷ []) ++ []));
      place = omega arith;
      ascend = ascend_more 0 parts p h.ascend (omega arith);
      segs = All-from_recursion (λ x. AreSegs x.to) (parts ++ p ∷ []) (segs_more parts p (recursion_from_All (λ x. AreSegs x.to) parts h.segs) s);
      some = All-push (λ (x : Part). 1 ≤ length (lhs_bits x.to)) parts p h.some (omega (arith, l, there));
    } in
    subst (λ (z : List Part). Runs all end z []) (sym g) made

pub nonempty : (b : Bool) (n : ℕ) → b ≡ (n == 0) → b ≡ false → 1 ≤ n
nonempty b n e f = grind (arith, nat_tests)

pub runs_as : (all : Slots) (end : ℕ) (parts : List Part) (run : List WireBit) → run ≡ [] → Runs all end parts run → Runs all end parts []
runs_as all end parts run e h = subst (λ (z : List WireBit). Runs all end parts z) e h

pub runs_end : (all : Slots) (end : ℕ) (parts : List Part) → length all ≤ end → Runs all end parts [] → AreParts all parts
runs_end all end parts lt h = record {
  gap = h.gap;
  is = sym (take_all end all lt) ∙ h.is ∙ append-nil (spread 0 parts ++ replicate h.gap None);
  ascend = h.ascend;
  segs = h.segs;
  some = h.some;
}

pub parts_final : {E : Type 0} (all : Slots) (end : ℕ) (r : Result (List Part) E) → length all ≤ end → IfOk r (λ parts. Runs all end parts []) → IfOk r (λ parts. AreParts all parts)
parts_final all end (Ok parts) h k = runs_end all end parts h k
parts_final all end (Err e) h k = tt

near_by : (run : List WireBit) (b : WireBit) → AllByRecursion (λ x. x.at < 128) run → b.at < 128 → AllByRecursion (λ x. x.at < 128) (run ++ b ∷ [])
near_by [] b h k = (k, h)
near_by (x ∷ run) b h k = (h.0, near_by run b h.1 k)

pub near_more : (run now : List WireBit) (b : WireBit) → now ≡ run ++ b ∷ [] → All (λ x. x.at < 128) run → b.at < 128 → All (λ x. x.at < 128) now
near_more run now b e h k = subst (All (λ x. x.at < 128)) (sym e) (All-from_recursion (λ x. x.at < 128) (run ++ b ∷ []) (near_by run b (recursion_from_All (λ x. x.at < 128) run h) k))
