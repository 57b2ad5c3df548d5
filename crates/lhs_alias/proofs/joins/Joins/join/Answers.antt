use Rattle.std.proofs.Common.{◌≡◌, ◌++◌, ◌&&◌, Bool, not, true, false, ℕ, List, length, sym, ap, subst, ◌∙◌}
use Rattle.std.specs.List.{zip, list_any}
use Rattle.std.proofs.lemmas.Bool.{and_parts, not-true}
use Rattle.std.proofs.lemmas.List.{with_items_is}
use Rattle.std.specs.Vec.{with_items}
use Rattle.lhs_alias.specs.declared.segs.Seg.{Seg}
use Rattle.lhs_alias.specs.Segs.{lhs_bits}
use Rattle.lhs_alias.specs.Lies.{LieIn}
use Rattle.lhs_alias.specs.Joined.{Kept, widths_of, Stands, is_marked, marked, are_free, all_merged, IsLaid}
use Rattle.lhs_alias.proofs.Lying.{whole-segs}
use Rattle.lhs_alias.proofs.Marks.{length-marked}
use Rattle.lhs_alias.proofs.Joining.{places-at, laid-after, joined-stands, joined-free, joined-distinct, joined-taken}
use Rattle.lhs_alias.proofs.joins.Joins.join.Goals as goal

pub mark_free-requires-clause-places : goal.mark_free-requires-clause-places
mark_free-requires-clause-places c =
    let inside = c.self.inside in
    let kept : Kept = record { widths = inside.widths.items; firsts = inside.forest; joined = inside.joined.items } in
    places-at kept c.args.self.now inside.starts.items _ inside.bits.items c.args.child.now _ (length c.deref_mut.result.now)
    c.self.view_is c.self.invariant c.requires.child c.segs.ensures c.deref.ensures.value
    (ap length c.deref_mut.ensures.value ∙ c.self.invariant.as_many_joined)

pub unite_all-requires-clause-child_places : goal.unite_all-requires-clause-child_places
unite_all-requires-clause-child_places c =
    let inside = c.self.inside in
    let kept : Kept = record { widths = inside.widths.items; firsts = inside.forest; joined = inside.joined.items } in
    places-at kept c.args.self.now inside.starts.items _ inside.bits.items c.args.child.now _ (length inside.forest)
    c.self.view_is c.self.invariant c.requires.child c.segs-2.ensures c.deref-2.ensures.value c.self.invariant.as_many_firsts

pub unite_all-requires-clause-parent_places : goal.unite_all-requires-clause-parent_places
unite_all-requires-clause-parent_places c =
    let inside = c.self.inside in
    let kept : Kept = record { widths = inside.widths.items; firsts = inside.forest; joined = inside.joined.items } in
    places-at kept c.args.self.now inside.starts.items _ inside.bits.items c.args.parent.now _ (length inside.forest)
    c.self.view_is c.self.invariant c.requires.parent c.segs-3.ensures c.deref-2.ensures.value c.self.invariant.as_many_firsts

pub returns-then-not-mark_free-clause-taken : goal.returns-then-not-mark_free-clause-taken
returns-then-not-mark_free-clause-taken c = λ _ pairs stands.
    let inside = c.self.inside in
    let kept : Kept = record { widths = inside.widths.items; firsts = inside.forest; joined = inside.joined.items } in
    let kept_is : kept ≡ c.args.self.now = c.self.view_is in
    let Lie : Kept → Type 0 = λ q. LieIn (widths_of q) c.args.child.now in
    let Stand : Kept → Type 0 = λ q. Stands q pairs in
    let test = λ (starts : List ℕ) (joined : List Bool) (segs : List Seg). not (list_any (is_marked starts joined) (lhs_bits segs)) && are_free starts joined (lhs_bits segs) in
    let taken : test inside.starts.items inside.joined.items c.args.child.now ≡ false =
    sym (ap (λ s. test s c.deref_mut.result.now c.segs.result.now) c.deref.ensures.value
    ∙ ap (λ j. test inside.starts.items j c.segs.result.now) c.deref_mut.ensures.value
    ∙ ap (λ t. test inside.starts.items inside.joined.items t) c.segs.ensures)
    ∙ sym c.mark_free.ensures.free ∙ c.if-not-mark_free.true in
    joined-taken kept inside.starts.items inside.bits.items c.self.invariant c.args.child.now (subst Lie (sym kept_is) c.requires.child) taken pairs (subst Stand (sym kept_is) stands)

pub invariant_of-self-2 : goal.invariant_of-self-2
invariant_of-self-2 c =
    let inside = c.self.inside in
    let kept : Kept = record { widths = inside.widths.items; firsts = inside.forest; joined = inside.joined.items } in
    let bits = lhs_bits c.args.child.now in
    let more = zip bits (lhs_bits c.args.parent.now) in
    let forest : c.unite_all.new.forest ≡ all_merged inside.starts.items inside.forest more =
    c.unite_all.ensures
    ∙ ap (λ s. all_merged s inside.forest (zip (lhs_bits c.segs-2.result.now) (lhs_bits c.segs-3.result.now))) c.deref-2.ensures.value
    ∙ ap (λ t. all_merged inside.starts.items inside.forest (zip (lhs_bits t) (lhs_bits c.segs-3.result.now))) c.segs-2.ensures
    ∙ ap (λ t. all_merged inside.starts.items inside.forest (zip bits (lhs_bits t))) c.segs-3.ensures in
    let marks : c.mark_free.new.joined ≡ marked inside.starts.items true inside.joined.items bits =
    c.if-not-mark_free.ensures.marks
    ∙ ap (λ s. marked s true c.deref_mut.result.now (lhs_bits c.segs.result.now)) c.deref.ensures.value
    ∙ ap (λ j. marked inside.starts.items true j (lhs_bits c.segs.result.now)) c.deref_mut.ensures.value
    ∙ ap (λ t. marked inside.starts.items true inside.joined.items (lhs_bits t)) c.segs.ensures in
    let long : length c.mark_free.new.joined ≡ inside.joined.len =
    ap length marks ∙ length-marked inside.starts.items true inside.joined.items bits ∙ ap length (sym c.deref_mut.ensures.value) ∙ c.deref_mut.ensures.len in
    let written : (with_items inside.joined c.mark_free.new.joined).items ≡ marked inside.starts.items true inside.joined.items bits =
    with_items_is inside.joined c.mark_free.new.joined long ∙ marks in
    let Laid : List ℕ → List Bool → Type 0 = λ firsts joined. IsLaid inside.widths.items inside.starts.items inside.bits.items firsts joined in
    subst (λ j. Laid c.unite_all.new.forest j) (sym written)
    (subst (λ f. Laid f (marked inside.starts.items true inside.joined.items bits)) (sym forest)
    (laid-after kept inside.starts.items inside.bits.items bits more c.self.invariant))

pub returns-clause-joined : goal.returns-clause-joined
returns-clause-joined c = λ pairs stands.
    let inside = c.self.inside in
    let kept : Kept = record { widths = inside.widths.items; firsts = inside.forest; joined = inside.joined.items } in
    let bits = lhs_bits c.args.child.now in
    let more = zip bits (lhs_bits c.args.parent.now) in
    let forest : c.unite_all.new.forest ≡ all_merged inside.starts.items inside.forest more =
    c.unite_all.ensures
    ∙ ap (λ s. all_merged s inside.forest (zip (lhs_bits c.segs-2.result.now) (lhs_bits c.segs-3.result.now))) c.deref-2.ensures.value
    ∙ ap (λ t. all_merged inside.starts.items inside.forest (zip (lhs_bits t) (lhs_bits c.segs-3.result.now))) c.segs-2.ensures
    ∙ ap (λ t. all_merged inside.starts.items inside.forest (zip bits (lhs_bits t))) c.segs-3.ensures in
    let marks : c.mark_free.new.joined ≡ marked inside.starts.items true inside.joined.items bits =
    c.if-not-mark_free.ensures.marks
    ∙ ap (λ s. marked s true c.deref_mut.result.now (lhs_bits c.segs.result.now)) c.deref.ensures.value
    ∙ ap (λ j. marked inside.starts.items true j (lhs_bits c.segs.result.now)) c.deref_mut.ensures.value
    ∙ ap (λ t. marked inside.starts.items true inside.joined.items (lhs_bits t)) c.segs.ensures in
    let long : length c.mark_free.new.joined ≡ inside.joined.len =
    ap length marks ∙ length-marked inside.starts.items true inside.joined.items bits ∙ ap length (sym c.deref_mut.ensures.value) ∙ c.deref_mut.ensures.len in
    let written : (with_items inside.joined c.mark_free.new.joined).items ≡ marked inside.starts.items true inside.joined.items bits =
    with_items_is inside.joined c.mark_free.new.joined long ∙ marks in
    let test = λ (starts : List ℕ) (joined : List Bool) (segs : List Seg). not (list_any (is_marked starts joined) (lhs_bits segs)) && are_free starts joined (lhs_bits segs) in
    let tested : test inside.starts.items inside.joined.items c.args.child.now ≡ true =
    sym (ap (λ s. test s c.deref_mut.result.now c.segs.result.now) c.deref.ensures.value
    ∙ ap (λ j. test inside.starts.items j c.segs.result.now) c.deref_mut.ensures.value
    ∙ ap (λ t. test inside.starts.items inside.joined.items t) c.segs.ensures)
    ∙ sym c.if-not-mark_free.ensures.free in
    let parts = and_parts _ _ tested in
    let kept_is : kept ≡ c.args.self.now = c.self.view_is in
    let Child : Kept → Type 0 = λ q. LieIn (widths_of q) c.args.child.now in
    let Parent : Kept → Type 0 = λ q. LieIn (widths_of q) c.args.parent.now in
    let child = subst Child (sym kept_is) c.requires.child in
    let parent = subst Parent (sym kept_is) c.requires.parent in
    let Stand : Kept → Type 0 = λ q. Stands q pairs in
    let After : List ℕ → List Bool → Type 0 = λ firsts joined. Stands (record { widths = inside.widths.items; firsts = firsts; joined = joined }) (pairs ++ more) in
    subst (λ j. After c.unite_all.new.forest j) (sym written)
    (subst (λ f. After f (marked inside.starts.items true inside.joined.items bits)) (sym forest)
    (joined-stands kept inside.starts.items inside.bits.items c.self.invariant c.args.child.now child c.args.parent.now parent
    c.requires.falls.as_many c.requires.falls.falls parts.1 pairs (subst Stand (sym kept_is) stands)))

pub returns-clause-free : goal.returns-clause-free
returns-clause-free c = λ pairs stands.
    let inside = c.self.inside in
    let kept : Kept = record { widths = inside.widths.items; firsts = inside.forest; joined = inside.joined.items } in
    let test = λ (starts : List ℕ) (joined : List Bool) (segs : List Seg). not (list_any (is_marked starts joined) (lhs_bits segs)) && are_free starts joined (lhs_bits segs) in
    let tested : test inside.starts.items inside.joined.items c.args.child.now ≡ true =
    sym (ap (λ s. test s c.deref_mut.result.now c.segs.result.now) c.deref.ensures.value
    ∙ ap (λ j. test inside.starts.items j c.segs.result.now) c.deref_mut.ensures.value
    ∙ ap (λ t. test inside.starts.items inside.joined.items t) c.segs.ensures)
    ∙ sym c.if-not-mark_free.ensures.free in
    let parts = and_parts _ _ tested in
    let kept_is : kept ≡ c.args.self.now = c.self.view_is in
    let Child : Kept → Type 0 = λ q. LieIn (widths_of q) c.args.child.now in
    let child = subst Child (sym kept_is) c.requires.child in
    let Stand : Kept → Type 0 = λ q. Stands q pairs in
    joined-free kept inside.starts.items inside.bits.items c.self.invariant c.args.child.now child (not-true _ parts.0) pairs (subst Stand (sym kept_is) stands)

pub returns-clause-distinct : goal.returns-clause-distinct
returns-clause-distinct c =
    let inside = c.self.inside in
    let kept : Kept = record { widths = inside.widths.items; firsts = inside.forest; joined = inside.joined.items } in
    let test = λ (starts : List ℕ) (joined : List Bool) (segs : List Seg). not (list_any (is_marked starts joined) (lhs_bits segs)) && are_free starts joined (lhs_bits segs) in
    let tested : test inside.starts.items inside.joined.items c.args.child.now ≡ true =
    sym (ap (λ s. test s c.deref_mut.result.now c.segs.result.now) c.deref.ensures.value
    ∙ ap (λ j. test inside.starts.items j c.segs.result.now) c.deref_mut.ensures.value
    ∙ ap (λ t. test inside.starts.items inside.joined.items t) c.segs.ensures)
    ∙ sym c.if-not-mark_free.ensures.free in
    let parts = and_parts _ _ tested in
    let kept_is : kept ≡ c.args.self.now = c.self.view_is in
    let Child : Kept → Type 0 = λ q. LieIn (widths_of q) c.args.child.now in
    let child = subst Child (sym kept_is) c.requires.child in
    joined-distinct kept inside.starts.items inside.bits.items c.self.invariant c.args.child.now child parts.1

-- ---- where nothing is joined

pub invariant_of-self : goal.invariant_of-self
invariant_of-self c =
    let inside = c.self.inside in
    let same : c.mark_free.new.joined ≡ inside.joined.items = c.if-not-mark_free.ensures.unchanged ∙ c.deref_mut.ensures.value in
    let written : (with_items inside.joined c.mark_free.new.joined).items ≡ inside.joined.items =
    with_items_is inside.joined c.mark_free.new.joined (c.mark_free.auto.joined ∙ c.deref_mut.ensures.len) ∙ same in
    let Laid : List Bool → Type 0 = λ joined. IsLaid inside.widths.items inside.starts.items inside.bits.items inside.forest joined in
    subst Laid (sym written) c.self.invariant

pub returns-then-not-mark_free-clause-unchanged : goal.returns-then-not-mark_free-clause-unchanged
returns-then-not-mark_free-clause-unchanged c =
    let inside = c.self.inside in
    let same : c.mark_free.new.joined ≡ inside.joined.items = c.if-not-mark_free.ensures.unchanged ∙ c.deref_mut.ensures.value in
    let written : (with_items inside.joined c.mark_free.new.joined).items ≡ inside.joined.items =
    with_items_is inside.joined c.mark_free.new.joined (c.mark_free.auto.joined ∙ c.deref_mut.ensures.len) ∙ same in
    let Shown : List Bool → Kept = λ joined. record { widths = inside.widths.items; firsts = inside.forest; joined = joined } in
    ap Shown written ∙ c.self.view_is

pub returns-then-not-mark_free-clause-widths : goal.returns-then-not-mark_free-clause-widths
returns-then-not-mark_free-clause-widths c =
    let inside = c.self.inside in
    let kept : Kept = record { widths = inside.widths.items; firsts = inside.forest; joined = inside.joined.items } in
    let kept_is : kept ≡ c.args.self.now = c.self.view_is in
    ap widths_of kept_is

pub returns-clause-widths : goal.returns-clause-widths
returns-clause-widths c =
    let inside = c.self.inside in
    let kept : Kept = record { widths = inside.widths.items; firsts = inside.forest; joined = inside.joined.items } in
    let kept_is : kept ≡ c.args.self.now = c.self.view_is in
    ap widths_of kept_is

-- ---- which answer it is

pub returns-then-not-mark_free-clause-no_memory : goal.returns-then-not-mark_free-clause-no_memory
returns-then-not-mark_free-clause-no_memory c = λ e. cc

pub returns-clause-no_memory : goal.returns-clause-no_memory
returns-clause-no_memory c = λ e. cc

pub returns-clause-taken : goal.returns-clause-taken
returns-clause-taken c = λ e. cc

-- ---- the segments are whole

pub mark_free-requires-clause-segs : goal.mark_free-requires-clause-segs
mark_free-requires-clause-segs c = whole-segs (widths_of c.args.self.now) c.args.child.now c.segs.result.now c.segs.ensures c.requires.child

pub unite_all-requires-clause-child : goal.unite_all-requires-clause-child
unite_all-requires-clause-child c = whole-segs (widths_of c.args.self.now) c.args.child.now c.segs-2.result.now c.segs-2.ensures c.requires.child

pub unite_all-requires-clause-parent : goal.unite_all-requires-clause-parent
unite_all-requires-clause-parent c = whole-segs (widths_of c.args.self.now) c.args.parent.now c.segs-3.result.now c.segs-3.ensures c.requires.parent
