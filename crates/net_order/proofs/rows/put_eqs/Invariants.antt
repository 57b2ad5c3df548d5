use Rattle.std.proofs.Common.{◌≡◌, ◌++◌, ◌∷◌, [], map, take}
use Rattle.std.specs.Prelude.{slice_index}
use Rattle.net_order.specs.Rows.{values_in}
use Rattle.net_order.proofs.rows.put_eqs.Given as goal

abbrev pub invariant-eqs : goal.invariant-eqs
invariant-eqs l = l.rows.items ≡ l.initial.rows.items ++ map (λ v. slice_index l.places v ∷ []) (values_in (take l.eq-index l.eqs))
