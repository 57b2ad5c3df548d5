use Rattle.std.proofs.Common.{◌≡◌, ◌-◌, [], length, ap, sym, refl, ◌∙◌, arith}
use Rattle.idx_list.specs.Order.{Order}
use Rattle.idx_list.proofs.Rings.{ring-own, ring-none, closed-order}
use Rattle.idx_list.proofs.list.IdxList.new.Goals as goal

pub invariant_of-result : goal.invariant_of-result
invariant_of-result c =
    let links = c.loop-number.links.items in
    let long : length links ≡ c.loop-number.number = sym c.loop-number.links.ok.0 ∙ c.loop-number.invariant.long in
    ring-own links [] (ring-none links (omega arith) (λ k h. c.loop-number.invariant.same k (omega arith)))

pub returns : goal.returns
returns c =
    let links = c.loop-number.links.items in
    let long : length links ≡ c.loop-number.number = sym c.loop-number.links.ok.0 ∙ c.loop-number.invariant.long in
    let none = ring-none links (omega arith) (λ k h. c.loop-number.invariant.same k (omega arith)) in
    let room : length links - 1 ≡ c.args.room = omega arith in
    closed-order links links links [] refl refl none ∙ ap (λ n. let order : Order = record { room = n; items = [] } in order) room
