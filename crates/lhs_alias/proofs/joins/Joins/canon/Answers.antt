use Rattle.std.proofs.lemmas.Result.{IfOk-from_err}
use Rattle.std.proofs.Common.{◌≡◌, ◌<◌, List, length, map, sym, ap, subst, ◌∙◌}
use Rattle.std.specs.Prelude.{All, Contains}
use Rattle.std.specs.List.{AllZip}
use Rattle.lhs_alias.specs.declared.segs.Seg.{Seg}
use Rattle.lhs_alias.specs.declared.segs.WireBit.{WireBit}
use Rattle.lhs_alias.specs.Segs.{lhs_bits, AreSegs}
use Rattle.lhs_alias.specs.Lies.{IsBitOf, LieIn}
use Rattle.lhs_alias.specs.Pairs.{IsFirst}
use Rattle.lhs_alias.specs.Joined.{Kept, widths_of, Stands, first_of, first_bit}
use Rattle.lhs_alias.proofs.Lying.{lie-from_bits}
use Rattle.lhs_alias.proofs.Joining.{places-at, firsts-of, firsts-stand, known-lie, known-narrow}
use Rattle.lhs_alias.proofs.joins.Joins.canon.Goals as goal

pub first_bits-requires-clause-places : goal.first_bits-requires-clause-places
first_bits-requires-clause-places c =
    let inside = c.self.inside in
    let kept : Kept = record { widths = inside.widths.items; firsts = inside.forest; joined = inside.joined.items } in
    places-at kept c.args.self.now inside.starts.items _ inside.bits.items c.args.of.now _ (length inside.forest)
    c.self.view_is c.self.invariant c.requires c.segs.ensures c.deref-2.ensures.value c.self.invariant.as_many_firsts

pub segs_of-requires : goal.segs_of-requires
segs_of-requires c =
    let inside = c.self.inside in
    let kept : Kept = record { widths = inside.widths.items; firsts = inside.forest; joined = inside.joined.items } in
    let kept_is : kept ≡ c.args.self.now = c.self.view_is in
    let Lie : Kept → Type 0 = λ q. LieIn (widths_of q) c.args.of.now in
    let known : All (Contains inside.bits.items) c.in_ok-firsts.firsts.items =
    subst (λ bits. All (Contains bits) c.in_ok-firsts.firsts.items) c.deref.ensures.value c.in_ok-firsts.ensures.known in
    let narrow = known-narrow kept inside.starts.items inside.bits.items c.self.invariant c.args.of.now (subst Lie (sym kept_is) c.requires) c.in_ok-firsts.firsts.items known in
    let P : List WireBit → Type 0 = All (λ bit. bit.at < 128) in
    subst P (sym c.deref-3.ensures.value) narrow

pub returns-clause-firsts : goal.returns-clause-firsts
returns-clause-firsts c =
    let inside = c.self.inside in
    let kept : Kept = record { widths = inside.widths.items; firsts = inside.forest; joined = inside.joined.items } in
    let kept_is : kept ≡ c.args.self.now = c.self.view_is in
    let Lie : Kept → Type 0 = λ q. LieIn (widths_of q) c.args.of.now in
    let of = c.args.of.now in
    ap lhs_bits c.from_vec.ensures ∙ c.in_ok-segs.ensures.bits ∙ c.deref-3.ensures.value ∙ c.in_ok-firsts.ensures.firsts
    ∙ ap (λ bits. map (first_bit bits c.deref-2.result.now inside.forest) (lhs_bits c.segs.result.now)) c.deref.ensures.value
    ∙ ap (λ starts. map (first_bit inside.bits.items starts inside.forest) (lhs_bits c.segs.result.now)) c.deref-2.ensures.value
    ∙ ap (λ segs. map (first_bit inside.bits.items inside.starts.items inside.forest) (lhs_bits segs)) c.segs.ensures
    ∙ firsts-of kept inside.starts.items inside.bits.items c.self.invariant of (subst Lie (sym kept_is) c.requires)
    ∙ ap (λ q. map (first_of q) (lhs_bits of)) kept_is

pub returns-clause-classes : goal.returns-clause-classes
returns-clause-classes c = λ pairs stands.
    let inside = c.self.inside in
    let kept : Kept = record { widths = inside.widths.items; firsts = inside.forest; joined = inside.joined.items } in
    let kept_is : kept ≡ c.args.self.now = c.self.view_is in
    let Lie : Kept → Type 0 = λ q. LieIn (widths_of q) c.args.of.now in
    let of = lhs_bits c.args.of.now in
    let Stand : Kept → Type 0 = λ q. Stands q pairs in
    let ForKept : Kept → Type 0 = λ q. AllZip (IsFirst pairs) of (map (first_of q) of) in
    let ForBits : List WireBit → Type 0 = AllZip (IsFirst pairs) of in
    subst ForBits (sym (returns-clause-firsts c))
    (subst ForKept kept_is
    (firsts-stand kept inside.starts.items inside.bits.items c.self.invariant c.args.of.now (subst Lie (sym kept_is) c.requires) pairs (subst Stand (sym kept_is) stands)))

pub returns-clause-lies : goal.returns-clause-lies
returns-clause-lies c =
    let inside = c.self.inside in
    let kept : Kept = record { widths = inside.widths.items; firsts = inside.forest; joined = inside.joined.items } in
    let kept_is : kept ≡ c.args.self.now = c.self.view_is in
    let Lie : Kept → Type 0 = λ q. LieIn (widths_of q) c.args.of.now in
    let known : All (Contains inside.bits.items) c.in_ok-firsts.firsts.items =
    subst (λ bits. All (Contains bits) c.in_ok-firsts.firsts.items) c.deref.ensures.value c.in_ok-firsts.ensures.known in
    let lie = known-lie kept inside.starts.items inside.bits.items c.self.invariant c.args.of.now (subst Lie (sym kept_is) c.requires) c.in_ok-firsts.firsts.items known in
    let bits : lhs_bits c.from_vec.result ≡ c.in_ok-firsts.firsts.items = ap lhs_bits c.from_vec.ensures ∙ c.in_ok-segs.ensures.bits ∙ c.deref-3.ensures.value in
    let Bits : List WireBit → Type 0 = All (IsBitOf inside.widths.items) in
    let Segs : List Seg → Type 0 = AreSegs in
    let Answer : Kept → Type 0 = λ q. LieIn (widths_of q) c.from_vec.result in
    subst Answer kept_is
    (lie-from_bits inside.widths.items c.from_vec.result (subst Segs (sym c.from_vec.ensures) c.in_ok-segs.ensures.segs) (subst Bits (sym bits) lie))

pub returns-in_err-firsts-clause-classes : goal.returns-in_err-firsts-clause-classes
returns-in_err-firsts-clause-classes c = IfOk-from_err _ _ c.from_residual.ensures.0

pub returns-in_err-firsts-clause-firsts : goal.returns-in_err-firsts-clause-firsts
returns-in_err-firsts-clause-firsts c = IfOk-from_err _ _ c.from_residual.ensures.0

pub returns-in_err-firsts-clause-lies : goal.returns-in_err-firsts-clause-lies
returns-in_err-firsts-clause-lies c = IfOk-from_err _ _ c.from_residual.ensures.0

pub returns-in_err-firsts-clause-united : goal.returns-in_err-firsts-clause-united
returns-in_err-firsts-clause-united c = IfOk-from_err _ _ c.from_residual.ensures.0

pub returns-in_err-segs-clause-classes : goal.returns-in_err-segs-clause-classes
returns-in_err-segs-clause-classes c = IfOk-from_err _ _ c.from_residual-in_err-segs.ensures.0

pub returns-in_err-segs-clause-firsts : goal.returns-in_err-segs-clause-firsts
returns-in_err-segs-clause-firsts c = IfOk-from_err _ _ c.from_residual-in_err-segs.ensures.0

pub returns-in_err-segs-clause-lies : goal.returns-in_err-segs-clause-lies
returns-in_err-segs-clause-lies c = IfOk-from_err _ _ c.from_residual-in_err-segs.ensures.0

pub returns-in_err-segs-clause-united : goal.returns-in_err-segs-clause-united
returns-in_err-segs-clause-united c = IfOk-from_err _ _ c.from_residual-in_err-segs.ensures.0
