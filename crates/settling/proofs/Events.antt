-- Events from X at every bit.
use Rattle.std.proofs.Common.{◌≡◌, Bool, true, false, List, [], ◌∷◌, refl, sym, ◌∙◌, cond}
use Rattle.fourvec.specs.Bits.{bit_below}
use Rattle.lhs_alias.specs.Segs.{bit}
use Rattle.settling.specs.Settling.{Store, Link, SettlesBy}
use Rattle.settling.specs.Least.{Under, Giving, Rises}
use Rattle.settling.specs.Events.{step, Net, event, all_unknown, after_events, EventsStayBelow, EventsRaise, RestIsLeast}
use Rattle.settling.proofs.Classes.{first-joined}
use Rattle.settling.proofs.Rounds.{step-rises, below-resolution, below-refl, given-more, under-trans}
use Rattle.settling.proofs.Least.{even-step, is-resolved}

-- what holds of a valuation after events
record Grown (links : List Link) (gives : Giving) (s : Store) : Type 0 where
  -- each net has at most what its resolution gives
  grows : Under s (step links gives s)
  below : (t : Store) → SettlesBy links (gives t) t → Under s t

start : (links : List Link) (gives : Giving) → Grown links gives all_unknown
start links gives = record { grows = λ n k. refl; below = λ t e n k. refl }

between : (p : Bool) (x y : _) → bit_below x y ≡ true → (bit_below x (cond p y x) ≡ true) × (bit_below (cond p y x) y ≡ true)
between true x y h = (h, below-refl y)
between false x y h = (below-refl x, h)

raised : (links : List Link) (gives : Giving) (s : Store) → Grown links gives s → (net : Net) → Under s (event links gives net s)
raised links gives s g net n k = (between (net (bit n k)) (s n k) (step links gives s n k) (g.grows n k)).0

within : (links : List Link) (gives : Giving) (s : Store) → Grown links gives s → (net : Net) → Under (event links gives net s) (step links gives s)
within links gives s g net n k = (between (net (bit n k)) (s n k) (step links gives s n k) (g.grows n k)).1

step-below : (links : List Link) (gives : Giving) → Rises gives → (s t : Store) → Under s t → SettlesBy links (gives t) t → Under (step links gives s) t
step-below links gives r s t h e n k = below-resolution (t n k) _ _ (given-more links (bit n k) _ _ (r s t h)) (e.1 (bit n k))

next : (links : List Link) (gives : Giving) → Rises gives → (s : Store) → Grown links gives s → (net : Net) → Grown links gives (event links gives net s)
next links gives r s g net = record {
  grows = under-trans _ _ _ (within links gives s g net) (step-rises links gives gives s (event links gives net s) (r _ _ (raised links gives s g net)));
  below = λ t e. under-trans _ _ _ (within links gives s g net) (step-below links gives r s t (g.below t e) e);
}

grown : (links : List Link) (gives : Giving) → Rises gives → (nets : List Net) → Grown links gives (after_events links gives nets)
unfolding after_events
grown links gives r [] = start links gives
grown links gives r (net ∷ before) = next links gives r (after_events links gives before) (grown links gives r before) net

pub events_stay_below : EventsStayBelow
events_stay_below links gives r nets t e = (grown links gives r nets).below t e

pub events_raise : EventsRaise
events_raise links gives r nets net = raised links gives (after_events links gives nets) (grown links gives r nets) net

pub rest_is_least : RestIsLeast
rest_is_least links gives r nets e = record {
  settles = (
    λ b c k. sym (e b) ∙ even-step links gives (after_events links gives nets) b c (first-joined links b c k) ∙ e c,
    λ b. is-resolved _ _ (sym (e b)),
  );
  least = λ t k. (grown links gives r nets).below t k;
}
