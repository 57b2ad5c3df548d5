-- Where nets depend on each other, their wires feed each other. The bits of a net are first bits, so its wire is a first wire. A dependence
-- comes of a driver whose value mentions a wire, and the driver stems from a work: that work names the wire and reaches the driver's target.
-- So chains of dependences are chains of feeding, turned round, and the bits of a group that has more than one member are a loop.
use Rattle.std.proofs.Common.{◌≡◌, ◌≢◌, ℕ, zero, suc, ◌<◌, ◌≤◌, List, [], ◌∷◌, length, get_or, refl, sym, ap, ◌∙◌, subst, inl, inr, arith}
use Rattle.std.specs.Prelude.{Contains, IsTrue, slice_index, slice_get}
use Rattle.std.proofs.lemmas.List.Elements.{All-contains, Contains-get_or}
use Rattle.fourvec.proofs.Tables.{left_of}
use Rattle.sv_outside.specs.declared.text.Signal.{Signal}
use Rattle.lhs_alias.specs.declared.segs.Seg.{Seg}
use Rattle.lhs_alias.specs.declared.segs.WireBit.{WireBit}
use Rattle.lhs_alias.specs.Segs.{bit}
use Rattle.lhs_alias.specs.Lies.{LiesIn, IsBitOf}
use Rattle.lhs_alias.specs.Pairs.{Linked}
use Rattle.settling.specs.Settling.{first_bit}
use Rattle.settling.proofs.Classes.{same-name, joined-first}
use Rattle.svex_arena.specs.Arenas.{IsArena}
use Rattle.driver_resolve.specs.Drivers.{widths_of, IsDriver}
use Rattle.flat_net.specs.declared.flat.Flat.{Flat}
use Rattle.flat_net.specs.Flats as f
use Rattle.event_nets.specs.Nets.{is_net_bit}
use Rattle.net_equations.specs.Equations.{has_bit, seg_at}
use Rattle.net_equations.specs.Groups as g
use Rattle.net_equations.specs.Groups.{members_of, bits_in}
use Rattle.net_equations.specs.Groups.Reaches.{one, more}
use Rattle.net_resolve.specs.Resolving.{IsReadFor}
use Rattle.net_resolve.proofs.Running.{has-parts}
use Rattle.phase_fsm.specs.Sets.{AreNets, NetDepends, AreGroups}
use Rattle.phase_fsm.proofs.Members.{seg-there}
use Rattle.phase_fsm.proofs.Nets.{bit-inside, nets-apart}
use Rattle.sv_meaning.specs.Designs.{Design, links_of, width_of_wire, width_at, IsFirst, Touches, Feeds, Reaches}
use Rattle.sv_meaning.specs.Designs.Reaches.{once, further}
use Rattle.sv_elab.specs.Elaborated.{IsElaborated}
use Rattle.design_loops.specs.Loops.{IsLoop}
use Rattle.design_loops.proofs.Stemming.{HasWork, work-of, target-reached, mention-named}
use Rattle.design_loops.proofs.Segments.{has-lowest, group_bits, bit-of, group-distinct, other-member}

width-is : (wires : List Signal) (n : ℕ) → n < length (widths_of wires) → slice_index (widths_of wires) n ≡ width_of_wire (slice_get wires n)
width-is [] n lt = absurd (omega (arith, lt))
width-is (w ∷ wires) zero lt = refl
width-is (w ∷ wires) (suc n) lt = width-is wires n (omega (arith, lt))

reaches-on : (d : Design) (a b c : ℕ) → Reaches d a b → Reaches d b c → Reaches d a c
reaches-on d a b c (once x) k = further x k
reaches-on d a b c (further x r) k = further x (reaches-on d _ b c r k)

-- a bit of a net is the first of its class
net-first : (flat : Flat) (over : List ℕ) (b : WireBit) → IsTrue (is_net_bit flat over b) → first_bit (f.links_of flat.joins) b ≡ b
unfolding is_net_bit
net-first flat over b t = same-name (first_bit (f.links_of flat.joins) b) b (left_of _ _ t)

abbrev no_seg : Seg
no_seg = record { wire = 0; lo = 0; width = 0 }

module _ (d : Design) (flat : Flat) (over : List ℕ) (segs : List Seg) (arena : IsArena flat.arena) (made : IsElaborated d flat) (nets : AreNets flat over segs) where
  abbrev seg : ℕ → Seg
  seg i = seg_at segs i

  -- ---- bits of wires

  inside-wire : (b : WireBit) → IsBitOf (widths_of flat.wires) b → b.at < width_at d b.wire
  inside-wire b ib =
      let own : IsBitOf (widths_of d.wires) b = subst (λ l. IsBitOf l b) (ap widths_of made.wires) ib in
      subst (λ n. b.at < n) (width-is d.wires b.wire own.wire) own.place

  lies : (i : ℕ) → i < length segs → LiesIn (widths_of flat.wires) (seg i)
  lies i lt = nets.inside i no_seg lt

  inside : (i : ℕ) (b : WireBit) → i < length segs → IsTrue (has_bit (seg i) b) → IsBitOf (widths_of flat.wires) b
  inside i b lt h = bit-inside (widths_of flat.wires) (seg i) b (lies i lt) h

  bit-first : (i : ℕ) (b : WireBit) → i < length segs → IsTrue (has_bit (seg i) b) → first_bit (links_of d.works) b ≡ b
  bit-first i b lt h =
      let test = (nets.whole i no_seg lt b (inside i b lt h)).0 h in
      subst (λ l. first_bit l b ≡ b) made.links (net-first flat over b test.0)

  -- ---- one dependence

  is-first : (i : ℕ) → i < length segs → IsFirst d (seg i).wire
  is-first i lt =
      let s = seg i in
      let lowest = has-lowest s (lies i lt).whole.some in
      record {
        at = s.lo;
        in_wire = inside-wire (bit s.wire s.lo) (inside i (bit s.wire s.lo) lt lowest);
        is_first = bit-first i (bit s.wire s.lo) lt lowest;
      }

  -- what is joined to a bit of a net touches its wire
  touches : (i : ℕ) (b first : WireBit) → i < length segs → IsTrue (has_bit (seg i) first) → Linked (f.links_of flat.joins) b first → Touches d b (seg i).wire
  touches i b first lt h k =
      let wire : first.wire ≡ (seg i).wire = sym (has-parts (seg i) first h).0 in
      let same : first ≡ bit (seg i).wire first.at = λ p. record { wire = wire p; at = first.at } in
      record {
        place = first.at;
        in_wire = subst (λ n. first.at < width_at d n) wire (inside-wire first (inside i first lt h));
        joined = subst (λ l. Linked l b (bit (seg i).wire first.at)) made.links (subst (Linked (f.links_of flat.joins) b) same k);
      }

  feeds : (i j : ℕ) → i < length segs → NetDepends flat over segs i j → (j < length segs) × Feeds d (seg j).wire (seg i).wire
  feeds i j lt x =
      let links = f.links_of flat.joins in
      let read = bit x.wire x.place in
      let jl : j < length segs = seg-there segs j (first_bit links read) x.joined in
      let r : IsReadFor flat over (seg i) x.wire = x.reads in
      let ok : IsDriver (widths_of flat.wires) flat.arena r.driver = All-contains (IsDriver (widths_of flat.wires) flat.arena) flat.drivers r.driver made.sound.drivers r.stands in
      let h : HasWork d.wires flat.arena d.works r.driver = work-of d.wires flat.arena d.works flat.drivers r.driver made.stem r.stands in (
        jl,
        record {
          from_first = is-first j jl;
          to_first = is-first i lt;
          work = h.work;
          is_there = h.there;
          reached = r.target;
          contributes = target-reached d.wires (widths_of flat.wires) flat.arena d.works r.driver r.target arena ok r.drives h;
          into = touches i r.target (first_bit links r.target) lt r.joined (joined-first links r.target);
          name = x.wire;
          named = mention-named d.wires (widths_of flat.wires) flat.arena d.works r.driver x.wire arena ok r.mentions h;
          place = x.place;
          in_wire = inside-wire read x.inside;
          from = touches j read (first_bit links read) jl x.joined (joined-first links read);
        },
      )

  -- ---- chains

  chain : (i j : ℕ) → i < length segs → g.Reaches (NetDepends flat over segs) i j → (j < length segs) × Reaches d (seg j).wire (seg i).wire
  chain i j lt (one _ _ x) = let first = feeds i j lt x in (first.0, once first.1)
  chain i k lt (more _ j _ x r) =
      let first = feeds i j lt x in
      let rest = chain j k first.0 r in
      (rest.0, reaches-on d (seg k).wire (seg j).wire (seg i).wire rest.1 (once first.1))

  module _ (groups : List (List ℕ)) (order : AreGroups flat over segs groups) (group : ℕ) (there : group < length groups) (large : 1024 < bits_in segs (members_of groups group)) where
    abbrev members : List ℕ
    members = members_of groups group

    member-there : (i : ℕ) → Contains members i → i < length segs
    member-there i c = order.there group i there c

    narrow : (i : ℕ) → Contains members i → (seg i).width ≤ 128
    narrow i c = let ends = (lies i (member-there i c)).whole.ends in omega (arith, ends)

    -- a net reaches another of its group
    other-reached : (i j : ℕ) → Contains members i → Contains members j → j ≢ i → Reaches d (seg i).wire (seg j).wire
    other-reached i j ic jc differ = elim (order.loops group j i there jc ic) [
      | inl same ↦ absurd (differ same)
      | inr r ↦ (chain j i (member-there j jc) r).1
    ]

    all-reached : (i j : ℕ) → Contains members i → Contains members j → Reaches d (seg i).wire (seg j).wire
    all-reached i j ic jc = elim (order.loops group j i there jc ic) [
      | inl same ↦
          let other = other-member segs members (order.distinct group there) narrow (omega (arith, large)) i in
          let k = other.0 in
          reaches-on d (seg i).wire (seg k).wire (seg j).wire
          (other-reached i k ic other.1.0 other.1.1)
          (other-reached k j other.1.0 jc (λ e. other.1.1 (sym e ∙ same)))
      | inr r ↦ (chain j i (member-there j jc) r).1
    ]

    pub is-loop : IsLoop d (group_bits segs members)
    is-loop = record {
      inside = λ k e lt.
          let b = get_or (group_bits segs members) k e in
          let own = bit-of segs members b (Contains-get_or (group_bits segs members) k e lt) in
          inside-wire b (inside own.member b (member-there own.member own.listed) own.has);
      first = λ k e lt.
          let b = get_or (group_bits segs members) k e in
          let own = bit-of segs members b (Contains-get_or (group_bits segs members) k e lt) in
          bit-first own.member b (member-there own.member own.listed) own.has;
      distinct = group-distinct segs members (order.distinct group there) (λ i j b ic jc ih jh. nets-apart flat over segs nets i j b ih jh);
      round = λ a b ac bc.
          let x = bit-of segs members a ac in
          let y = bit-of segs members b bc in
          subst (λ n. Reaches d n b.wire) (has-parts (seg x.member) a x.has).0
          (subst (λ n. Reaches d (seg x.member).wire n) (has-parts (seg y.member) b y.has).0 (all-reached x.member y.member x.listed y.listed));
    }
