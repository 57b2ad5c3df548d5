use Rattle.std.proofs.Common.{ℕ, Bool, ◌+◌, ◌*◌, ◌&&◌, length, ap, ◌∙◌, arith}
use Rattle.std.proofs.lemmas.Result.{IfOk-from_err}
use Rattle.aig.specs.Graph.{holds}
use Rattle.aig.proofs.Growth.{Obeys-older}
use Rattle.aig_words.specs.Words.{Grew}
use Rattle.aig_words.proofs.Grown.{Grew-then, Grew-wider, if_ok, IsIn-later}
use Rattle.fourvec.specs.Bits.{is_known}
use Rattle.pair_words.specs.Rails.{bits}
use Rattle.pair_words.proofs.Growing.{wired-later}
use Rattle.pair_words.proofs.numbers.both_known.Goals as goal

pub returns-clause-value : goal.returns-clause-value
returns-clause-value c = if_ok c.and.result _ _ c.and.ensures.value (λ r h v o.
    let o2 = Obeys-older v _ _ c.and.ensures.grows o in
    let o1 = Obeys-older v _ _ c.in_ok-second.ensures.grew.grows o2 in
    h.obeyed v o ∙ ap (λ (t : Bool). t && holds v c.in_ok-second.second) (c.in_ok-first.ensures.value v o1) ∙
    ap (λ (t : Bool). is_known (bits v c.args.a.now) && t) (c.in_ok-second.ensures.value v o2))

pub returns-clause-grew : goal.returns-clause-grew
returns-clause-grew c =
    let m : ℕ = 4 * length c.args.a.now in
    let n : ℕ = 4 * length c.args.b.now in
    let s : Grew 1 _ _ = record { grows = c.and.ensures.grows; nodes = c.and.ensures.nodes; flat = c.and.ensures.flat } in
    Grew-then (m + n) 1 (m + n + 1) c.args.aig.now _ _ (omega arith) (Grew-then m n (m + n) c.args.aig.now _ _ (omega arith) c.in_ok-first.ensures.grew c.in_ok-second.ensures.grew) s

pub returns-in_err-second-clause-grew : goal.returns-in_err-second-clause-grew
returns-in_err-second-clause-grew c =
    let m : ℕ = 4 * length c.args.a.now in
    let n : ℕ = 4 * length c.args.b.now in
    Grew-then m n (m + n + 1) c.args.aig.now _ _ (omega arith) c.in_ok-first.ensures.grew c.in_err-second.ensures.grew

pub returns-in_err-first-clause-grew : goal.returns-in_err-first-clause-grew
returns-in_err-first-clause-grew c =
    let m : ℕ = 4 * length c.args.a.now in
    Grew-wider m (m + 4 * length c.args.b.now + 1) _ _ (omega arith) c.in_err-first.ensures.grew

pub returns-in_err-second-clause-value : goal.returns-in_err-second-clause-value
returns-in_err-second-clause-value c = IfOk-from_err _ _ c.from_residual-in_err-second.ensures.0

pub returns-in_err-second-clause-within : goal.returns-in_err-second-clause-within
returns-in_err-second-clause-within c = IfOk-from_err _ _ c.from_residual-in_err-second.ensures.0

pub returns-in_err-first-clause-value : goal.returns-in_err-first-clause-value
returns-in_err-first-clause-value c = IfOk-from_err _ _ c.from_residual.ensures.0

pub returns-in_err-first-clause-within : goal.returns-in_err-first-clause-within
returns-in_err-first-clause-within c = IfOk-from_err _ _ c.from_residual.ensures.0

pub known-requires-clause-node : goal.known-requires-clause-node
known-requires-clause-node c = c.requires.node

pub known-requires-clause-a_in : goal.known-requires-clause-a_in
known-requires-clause-a_in c = c.requires.a_in

pub known-requires-2-clause-node : goal.known-requires-2-clause-node
known-requires-2-clause-node c = let longer = c.in_ok-first.ensures.grew.grows.longer in omega (arith, c.requires.node, longer)

pub known-requires-2-clause-a_in : goal.known-requires-2-clause-a_in
known-requires-2-clause-a_in c = wired-later c.args.aig.now c.known.new.aig c.args.b.now c.in_ok-first.ensures.grew.grows c.requires.b_in

pub and-requires-clause-a_in : goal.and-requires-clause-a_in
and-requires-clause-a_in c = IsIn-later c.known.new.aig c.known-2.new.aig c.in_ok-first.first c.in_ok-second.ensures.grew.grows c.in_ok-first.ensures.within

pub and-requires-clause-b_in : goal.and-requires-clause-b_in
and-requires-clause-b_in c = c.in_ok-second.ensures.within

pub returns-clause-within : goal.returns-clause-within
returns-clause-within c = c.and.ensures.within
