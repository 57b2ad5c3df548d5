-- What an equation gives depends only on the equations that it reaches, and these are in earlier groups or in its own.
use Rattle.std.proofs.Common.{◌≡◌, ℕ, ◌<◌, ◌≤◌, Bool, true, List, [], ◌∷◌, length, map, refl, sym, ◌∙◌, subst, arith}
use Rattle.std.specs.Prelude.{slice_index, Contains}
use Rattle.std.specs.List.{range_with_len}
use Rattle.std.proofs.lemmas.List.{ext_get_or, length-map}
use Rattle.std.proofs.lemmas.List.FromFn.{length-map-range_with_len, get_or-map-range_with_len}
use Rattle.fourvec.specs.declared.Bit.{Bit}
use Rattle.fourvec.specs.declared.Bit.TheVariants.{Unknown}
use Rattle.lhs_alias.specs.declared.segs.Seg.{Seg}
use Rattle.lhs_alias.specs.Segs.{bit}
use Rattle.lhs_alias.specs.Joined.{Kept, Stands, first_of}
use Rattle.settling.specs.Settling.{Store, Link, first_bit}
use Rattle.svex_shape.specs.declared.shape.Shape.{Shape}
use Rattle.svex_shape.specs.declared.shape.Shape.TheVariants.{Var}
use Rattle.svex_shape.specs.declared.shape.VarName.{VarName}
use Rattle.svex_shape.specs.declared.shape.VarName.TheVariants.{Now, Prev, Stim, Chosen, Sampled}
use Rattle.svex_shape.specs.Shapes.{shape_at}
use Rattle.svex_shape.specs.Values.{Vector}
use Rattle.svex_arena.specs.Arenas.{IsArena}
use Rattle.svex_arena.specs.Marks.{IsMarked, IsReached}
use Rattle.driver_resolve.specs.declared.driver.NetEq.{NetEq}
use Rattle.driver_resolve.specs.Drivers.{reading}
use Rattle.net_equations.specs.Equations.{phase_of, is_of_phase, has_bit, seg_at}
use Rattle.net_equations.specs.Groups.{Depends, IsOrder, members_of}
use Rattle.compose_rounds.specs.Rounds.{found, store_of, DependsOn}
use Rattle.compose_rounds.specs.States.{gives_of, IsProblem}
use Rattle.compose_rounds.proofs.Found.{found-alike}
use Rattle.compose_rounds.proofs.Systems.{first-as, wire-bit}
use Rattle.compose_rounds.proofs.Standing.{variable_wire}
use Rattle.svex_compose.proofs.Reaching.{mentions-reached, values-reached}

module _ (kept : Kept) (shapes : List Shape) (eqs : List NetEq) (free : List Seg) (groups : List (List ℕ)) (marks : List Bool) (a : IsArena shapes)
    (p : IsProblem kept shapes (map (λ e. e.seg) eqs) free (map (λ e. e.value) eqs)) (o : IsOrder kept shapes eqs groups) (g : ℕ) (in_groups : g < length groups)
    (marked : (h j : ℕ) → h ≤ g → h < length groups → Contains (members_of groups h) j → IsMarked marks j) (i : ℕ) (member : Contains (members_of groups g) i)
    (links : List Link) (s : Stands kept links) (stim previous : Store) where
  abbrev segs : List Seg
  segs = map (λ e. e.seg) eqs

  abbrev values : List ℕ
  values = map (λ e. e.value) eqs

  inside : i < length segs
  inside = let there = o.there g i in_groups member in omega (arith, there, length-map eqs (λ e. e.seg))

  -- the segment that has a bit of a wire that is mentioned is marked
  one-bit : (at n w k : ℕ) → IsReached shapes (slice_index values i ∷ []) at → shape_at shapes at ≡ Var (Now n) w → k < w → (v u : ℕ → Vector) → ((j : ℕ) → j < length segs → IsMarked marks j → v j ≡ u j)
      → found segs v (first_bit links (bit n k)) ≡ found segs u (first_bit links (bit n k))
  one-bit at n w k on is lt v u same =
      let m = mentions-reached (is_of_phase kept.widths) shapes (slice_index values i) at a (p.there i inside) (p.mentions i inside) on in
      let wire = variable_wire kept.widths shapes at n w a m.0 is m.1 in
      let b = wire-bit kept.widths n w k wire lt in
      found-alike segs v u (first_bit links (bit n k))
      (λ j l has.
      let joined : has_bit (seg_at segs j) (first_of kept (bit n k)) ≡ true = subst (λ c. has_bit (seg_at segs j) c ≡ true) (sym (first-as kept links s (bit n k) b)) has in
      let depends : Depends kept shapes eqs i j = record { wire = n; mentions = record { at = at; width = w; reached = on; is = is }; place = k; inside = b; joined = joined } in
      let there = o.covers j (omega (arith, l, length-map eqs (λ e. e.seg))) in
      same j l (marked there.0 j (o.earlier g there.0 i j in_groups there.1.0 member there.1.1 depends) there.1.0 there.1.1))

  agree : (v u : ℕ → Vector) → ((j : ℕ) → j < length segs → IsMarked marks j → v j ≡ u j) → (at : ℕ) (name : VarName) (w : ℕ) → IsReached shapes (slice_index values i ∷ []) at → shape_at shapes at ≡ Var name w
      → reading (phase_of stim previous (store_of links segs v)) name w ≡ reading (phase_of stim previous (store_of links segs u)) name w
  unfolding store_of
  agree v u same at (Now n) w on is =
      let f : ℕ → Bit = λ k. found segs v (first_bit links (bit n k)) in
      let h : ℕ → Bit = λ k. found segs u (first_bit links (bit n k)) in
      ext_get_or Unknown (map f (range_with_len 0 w)) (map h (range_with_len 0 w)) (length-map-range_with_len f 0 w ∙ sym (length-map-range_with_len h 0 w))
      (λ k l.
      let lt : k < w = omega (arith, l, length-map-range_with_len f 0 w) in
      get_or-map-range_with_len f 0 w k k Unknown lt (omega arith)
      ∙ one-bit at n w k on is lt v u same
      ∙ sym (get_or-map-range_with_len h 0 w k k Unknown lt (omega arith)))
  agree v u same at (Prev n) w on is = refl
  agree v u same at (Stim n) w on is = refl
  agree v u same at (Chosen n) w on is = refl
  agree v u same at (Sampled n) w on is = refl

  pub depends-on : DependsOn links segs (gives_of stim previous shapes values) (IsMarked marks) i
  depends-on = record {
    alike = λ v u same.
        values-reached (reading (phase_of stim previous (store_of links segs v))) (reading (phase_of stim previous (store_of links segs u))) shapes (slice_index values i) a (p.there i inside) (agree v u same);
  }
