-- A flat design that is narrow in one order of its nets is so in all.
use Rattle.std.proofs.Common.{◌≡◌, ℕ, ◌<◌, ◌≤◌, List, length, None, Some, subst, arith}
use Rattle.lhs_alias.specs.declared.segs.Seg.{Seg}
use Rattle.lhs_alias.specs.Segs.{bit}
use Rattle.settling.specs.Settling.{first_bit}
use Rattle.flat_net.specs.declared.flat.Flat.{Flat}
use Rattle.flat_net.specs.Flats.{links_of}
use Rattle.net_equations.specs.Groups.{members_of, bits_in}
use Rattle.phase_fsm.specs.Machines.{row_of}
use Rattle.phase_fsm.specs.Sets.{NetDepends, AreGroups, HasGroups, AreNarrow, IsFirstWide}
use Rattle.phase_fsm.proofs.Members.{seg-there, fewer-bits, some-member, wide-group, narrow-groups}
use Rattle.phase_fsm.proofs.Nets.{nets-same}
use Rattle.phase_fsm.proofs.Orders.{together}

-- a group that is wide in one order has its members in one group of the other
no-wide : (flat : Flat) (over : List ℕ) (segs : List Seg) (a b : List (List ℕ)) → AreGroups flat over segs a → AreGroups flat over segs b
    → ((g : ℕ) → g < length a → bits_in segs (members_of a g) ≤ 1024) → (g : ℕ) → g < length b → 1024 < bits_in segs (members_of b g) → ⊥
no-wide flat over segs a b x y narrow g gl wide =
    let On : ℕ → ℕ → Type 0 = NetDepends flat over segs in
    let m = some-member segs (members_of b g) (omega (arith, wide)) in
    let place = x.covers m.0 (y.there g m.0 gl m.1) in
    let h = place.0 in
    let fewer = fewer-bits segs (members_of b g) (members_of a h) (y.distinct g gl)
    (λ j jc. together On (length segs) (λ i k d. seg-there segs k (first_bit (links_of flat.joins) (bit d.wire d.place)) d.joined) a b x y g m.0 j gl m.1 jc h place.1.0 place.1.1) in
    let most = narrow h place.1.0 in
    omega (arith, fewer, most, wide)

pub one-excludes : (flat : Flat) (over : List ℕ) (bits : ℕ) → HasGroups flat over None → HasGroups flat over (Some bits) → ⊥
one-excludes flat over bits x y =
    let same : x.segs ≡ y.segs = nets-same flat over x.segs y.segs x.nets y.nets in
    let w = wide-group y.segs y.groups bits y.first in
    let many = w.count in
    let large = w.wide in
    no-wide flat over y.segs x.groups y.groups (subst (λ l. AreGroups flat over l x.groups) same x.order) y.order
    (subst (λ l. (g : ℕ) → g < length x.groups → bits_in l (members_of x.groups g) ≤ 1024) same (narrow-groups x.segs x.groups x.first))
    w.group w.there (omega (arith, many, large))

pub first-excludes : (flat : Flat) (sets : List (List ℕ)) (bits : ℕ) → AreNarrow flat sets (length sets) → IsFirstWide flat sets bits → ⊥
first-excludes flat sets bits narrow first = one-excludes flat (row_of sets first.set) bits (narrow first.set first.there) first.wide
