use Rattle.std.proofs.Common.{◌≡◌, ◌++◌, ◌∷◌, [], take, flat_map}
use Rattle.vcd_text.proofs.declarations.path_in.Given as goal

abbrev pub invariant-scopes : goal.invariant-scopes
invariant-scopes l = l.path.items ≡ flat_map (λ s. s ++ 46 ∷ []) (take l.scope-index l.scopes)
