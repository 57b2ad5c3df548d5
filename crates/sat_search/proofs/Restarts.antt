-- The search starts anew.
use Rattle.std.proofs.Common.{◌≡◌, ℕ, ◌<◌, ◌+◌, List, [], ◌∷◌, ◌++◌, length, get_or, take, drop, None, sym, ap, ◌∙◌, arith, subst, ⊎_elim, append_assoc}
use Rattle.std.proofs.lemmas.List.{take_all}
use Rattle.cnf.specs.declared.Dim.{Dim}
use Rattle.cnf.specs.Clauses.{Valuation, valuation, denied}
use Rattle.sat_state.specs.declared.trail.Assigned.{Assigned}
use Rattle.sat_state.specs.declared.watch.Pair.{Pair}
use Rattle.sat_state.specs.declared.watch.Watch.{Watch}
use Rattle.sat_state.specs.Lists.{TrailLists}
use Rattle.sat_state.specs.Trail.{falses, Tracks}
use Rattle.sat_search.specs.Learn.{StopsBelow, WentBack, no_assigned}
use Rattle.sat_search.specs.Lesson.{IsReady, IsHalfway}
use Rattle.sat_state.specs.Watch.{AllHalf}
use Rattle.sat_search.proofs.Steps.{explained_front, place_is, front_is}
use Rattle.sat_search.proofs.Pushes.{was_below}

-- the front of the trail up to a decision
pub stops_at : (entries front : List Assigned) (n : ℕ) → n < length entries → (get_or entries n no_assigned).reason ≡ None → front ≡ take n entries → StopsBelow entries front
stops_at entries front n lt none is =
    let x : Assigned = get_or entries n no_assigned in
    let split : entries ≡ take n entries ++ x ∷ drop (n + 1) entries = front_is entries (n + 1) ∙ ap (λ l. l ++ drop (n + 1) entries) (place_is entries n no_assigned lt) ∙ append_assoc (take n entries) (x ∷ []) (drop (n + 1) entries) in
    (x, drop (n + 1) entries, split ∙ ap (λ l. l ++ x ∷ drop (n + 1) entries) (sym is), none)

pub restarted : (vars : ℕ) (db : List (List Dim)) (pairs : List Pair) (rows : List (List Watch)) (t0 t1 : TrailLists) (from place : ℕ) → IsReady vars db pairs rows t0 → IsHalfway db pairs t0 from →
    Tracks t1.values t1.entries → length t1.values ≡ length t0.values → WentBack t0 t1 from place → IsReady vars db pairs rows t1 × IsHalfway db pairs t1 place
restarted vars db pairs rows t0 t1 from place ready half tracks wide back = ⊎_elim
    (λ same. (
      subst (λ (t : TrailLists). IsReady vars db pairs rows t) (sym same.0) ready,
      subst (λ (t : TrailLists). IsHalfway db pairs t place) (sym same.0) (subst (λ (n : ℕ). IsHalfway db pairs t0 n) (sym same.1) half),
    ))
    (λ cut. let below = cut.0 in
    let was = was_below db pairs t0.entries t1.entries below ready.was in
    let whole : take place t1.entries ≡ t1.entries = take_all place t1.entries (omega (arith, cut.1)) in (
      record {
        below = ready.below;
        sound = record { tracks = tracks; explained = explained_front db t0.entries t1.entries (below.0 ∷ below.1) below.2 ready.sound.explained };
        width = wide ∙ ready.width;
        paired = ready.paired;
        filed = ready.filed;
        listed = ready.listed;
        was = was.1;
      },
      record {
        range = omega (arith, cut.1);
        half = subst (λ (l : List Assigned). AllHalf db pairs (denied (falses l)) (valuation t1.values)) (sym whole)
            (subst (λ (a : Valuation). AllHalf db pairs (denied (falses t1.entries)) a) (sym tracks.same) was.0);
      },
    ))
    back
