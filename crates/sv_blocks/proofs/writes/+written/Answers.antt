use Rattle.std.proofs.lemmas.Result.{IfOk-from_err}
use Rattle.std.proofs.Common.{◌≡◌, ◌-◌, ◌<◌, ◌∙◌, true, false, eqb, length, drop, subst, sym, arith, length-take, length-drop}
use Rattle.std.proofs.lemmas.List.{nil_from_length, take_rest}
use Rattle.std.proofs.lemmas.List.Elements.{All-take, All-drop}
use Rattle.std.proofs.lemmas.Bool.Decides.{nat_tests}
use Rattle.svex_arena.proofs.Keeping.{extends_self, extends_on}
use Rattle.sv_typed.specs.Typed.{PickIsSound}
use Rattle.sv_typed.proofs.Below as below
use Rattle.sv_lower.proofs.Lowered.{if_ok, element}
use Rattle.sv_blocks.specs.Fitting.{PickSits}
use Rattle.sv_blocks.specs.Parts.{IsWritten, SpotIsWide}
use Rattle.sv_stores.proofs.Stores.{state_kept}
use Rattle.sv_blocks.proofs.Writing.{written_none, written_last, written_more, last_wide, rest_wide}
use Rattle.sv_blocks.proofs.writes.+written.Goals as goal

pub returns-then-is_empty-clause-ok : goal.returns-then-is_empty-clause-ok
returns-then-is_empty-clause-ok t c =
    let e : true ≡ eqb (length c.args.picks.now) 0 = c.if-is_empty.ensures in
    let z : length c.args.picks.now ≡ 0 = grind (arith, nat_tests, e) in
    written_none _ _ _ _ _ _ c.requires.value (nil_from_length c.args.picks.now z) c.requires.wide

pub returns-then-picks-eq1-clause-ok : goal.returns-then-picks-eq1-clause-ok
returns-then-picks-eq1-clause-ok t c =
    let one : length c.args.picks.now ≡ 1 = c.if-picks-eq1.true in
    if_ok _ _ _ c.put_part.ensures.ok (λ n h. written_last _ _ _ _ _ _ _ _ _ _ _ (omega arith) c.index-picks-0.is one c.requires.of c.requires.value c.in_ok-at.ensures.stays c.in_ok-at.ensures.ok h)

pub read_part-requires-clause-some : goal.read_part-requires-clause-some
read_part-requires-clause-some t c =
    let e : false ≡ eqb (length c.args.picks.now) 0 = c.if-is_empty.ensures in
    let some : 0 < length c.args.picks.now = grind (arith, nat_tests, e) in
    below.some_picked _ (element PickIsSound c.args.picks.now 0 c.index-picks-0.result c.requires.sound some c.index-picks-0.is)

pub read_part-requires-clause-most : goal.read_part-requires-clause-most
read_part-requires-clause-most t c =
    let e : false ≡ eqb (length c.args.picks.now) 0 = c.if-is_empty.ensures in
    let some : 0 < length c.args.picks.now = grind (arith, nat_tests, e) in
    below.most_picked _ (element PickIsSound c.args.picks.now 0 c.index-picks-0.result c.requires.sound some c.index-picks-0.is)

pub written-requires : goal.written-requires
written-requires t c =
    let e : false ≡ eqb (length c.args.picks.now) 0 = c.if-is_empty.ensures in
    let some : 0 < length c.args.picks.now = grind (arith, nat_tests, e) in
    let grown = extends_on _ _ _ c.in_ok-at.ensures.stays c.in_ok-part.ensures.stays in (
      (let d = c.decreases in omega (arith, length-take (length c.args.picks.now - 1) (drop 1 c.args.picks.now), length-drop 1 c.args.picks.now)),
      (
        c.requires.scene,
        (
          state_kept _ _ _ _ grown c.requires.state,
          (
            All-take PickIsSound (length c.args.picks.now - 1) (drop 1 c.args.picks.now) (All-drop PickIsSound 1 c.args.picks.now c.requires.sound),
            (
              All-take (PickSits c.args.scene.now) (length c.args.picks.now - 1) (drop 1 c.args.picks.now) (All-drop (PickSits c.args.scene.now) 1 c.args.picks.now c.requires.narrow),
              (
                c.in_ok-part.ensures.ok.within,
                (
                  (let a = grown.longer in let b = c.requires.value in omega arith),
                  rest_wide _ _ _ _ _ _ _ _ some c.index-picks-0.is (take_rest c.args.picks.now 1) c.requires.value c.requires.wide grown c.in_ok-part.ensures.ok.width,
                ),
              ),
            ),
          ),
        ),
      ),
    )

pub returns-clause-ok : goal.returns-clause-ok
returns-clause-ok t c =
    let e : false ≡ eqb (length c.args.picks.now) 0 = c.if-is_empty.ensures in
    let some : 0 < length c.args.picks.now = grind (arith, nat_tests, e) in
    if_ok _ _ _ c.put_part-2.ensures.ok (λ n h.
    written_more _ _ _ _ _ _ _ _ _ _ _ _ _ _ _ some c.index-picks-0.is c.requires.scene c.requires.state.nodes c.requires.of c.requires.value c.in_ok-at.ensures.stays c.in_ok-part.ensures.stays c.in_ok-inner.ensures.stays
    c.in_ok-at.ensures.ok c.in_ok-part.ensures.ok
    (subst (λ xs. IsWritten c.args.scene.now c.read_part.new.arena c.written.new.arena c.args.state.now.nodes xs c.in_ok-part.part c.args.value c.in_ok-inner.inner) (take_rest c.args.picks.now 1) c.in_ok-inner.ensures.ok)
    h)

pub put_part-requires-clause-wide : goal.put_part-requires-clause-wide
put_part-requires-clause-wide t c =
    let one : length c.args.picks.now ≡ 1 = c.if-picks-eq1.true in
    last_wide _ _ _ _ _ _ _ (omega arith) c.index-picks-0.is one c.requires.value c.requires.wide c.in_ok-at.ensures.stays c.in_ok-at.ensures.ok.wide

pub put_part-requires-2-clause-wide : goal.put_part-requires-2-clause-wide
put_part-requires-2-clause-wide t c = subst (SpotIsWide c.in_ok-at.at) (sym (c.in_ok-inner.ensures.ok.width ∙ c.in_ok-part.ensures.ok.width)) c.in_ok-at.ensures.ok.wide

pub spot_of-requires-clause-narrow : goal.spot_of-requires-clause-narrow
spot_of-requires-clause-narrow t c =
    let e : false ≡ eqb (length c.args.picks.now) 0 = c.if-is_empty.ensures in
    let some : 0 < length c.args.picks.now = grind (arith, nat_tests, e) in
    element (PickSits c.args.scene.now) c.args.picks.now 0 c.index-picks-0.result c.requires.narrow some c.index-picks-0.is

pub returns-then-is_empty-clause-stays : goal.returns-then-is_empty-clause-stays
returns-then-is_empty-clause-stays t c =
    extends_self _

pub returns-then-picks-eq1-clause-stays : goal.returns-then-picks-eq1-clause-stays
returns-then-picks-eq1-clause-stays t c =
    extends_on _ _ _ c.in_ok-at.ensures.stays c.put_part.ensures.stays

pub returns-clause-stays : goal.returns-clause-stays
returns-clause-stays t c =
    extends_on _ _ _ (extends_on _ _ _ (extends_on _ _ _ c.in_ok-at.ensures.stays c.in_ok-part.ensures.stays) c.in_ok-inner.ensures.stays) c.put_part-2.ensures.stays

pub returns-in_err-at-clause-stays : goal.returns-in_err-at-clause-stays
returns-in_err-at-clause-stays t c =
    c.in_err-at.ensures.stays

pub returns-in_err-part-clause-stays : goal.returns-in_err-part-clause-stays
returns-in_err-part-clause-stays t c =
    extends_on _ _ _ c.in_ok-at.ensures.stays c.in_err-part.ensures.stays

pub returns-in_err-inner-clause-stays : goal.returns-in_err-inner-clause-stays
returns-in_err-inner-clause-stays t c =
    extends_on _ _ _ (extends_on _ _ _ c.in_ok-at.ensures.stays c.in_ok-part.ensures.stays) c.in_err-inner.ensures.stays

pub returns-in_err-at-clause-ok : goal.returns-in_err-at-clause-ok
returns-in_err-at-clause-ok t c =
    IfOk-from_err _ _ c.from_residual.ensures.0

pub returns-in_err-part-clause-ok : goal.returns-in_err-part-clause-ok
returns-in_err-part-clause-ok t c =
    IfOk-from_err _ _ c.from_residual-in_err-part.ensures.0

pub returns-in_err-inner-clause-ok : goal.returns-in_err-inner-clause-ok
returns-in_err-inner-clause-ok t c =
    IfOk-from_err _ _ c.from_residual-in_err-inner.ensures.0

pub spot_of-requires-clause-sound : goal.spot_of-requires-clause-sound
spot_of-requires-clause-sound t c =
    let e : false ≡ eqb (length c.args.picks.now) 0 = c.if-is_empty.ensures in
    let some : 0 < length c.args.picks.now = grind (arith, nat_tests, e) in
    element PickIsSound c.args.picks.now 0 c.index-picks-0.result c.requires.sound some c.index-picks-0.is

pub read_part-requires-clause-of : goal.read_part-requires-clause-of
read_part-requires-clause-of t c =
    let a = c.in_ok-at.ensures.stays.longer in let b = c.requires.of in omega arith

pub put_part-requires-clause-of : goal.put_part-requires-clause-of
put_part-requires-clause-of t c =
    let a = c.in_ok-at.ensures.stays.longer in let b = c.requires.of in omega arith

pub put_part-requires-clause-part : goal.put_part-requires-clause-part
put_part-requires-clause-part t c =
    let a = c.in_ok-at.ensures.stays.longer in let b = c.requires.value in omega arith

pub put_part-requires-2-clause-of : goal.put_part-requires-2-clause-of
put_part-requires-2-clause-of t c =
    let a = c.in_ok-at.ensures.stays.longer in let d = c.in_ok-part.ensures.stays.longer in let e = c.in_ok-inner.ensures.stays.longer in let b = c.requires.of in omega arith
