-- Truth tables of small circuits.
use Rattle.std.proofs.Common.{◌≡◌, ℕ, ◌+◌, ◌*◌, Bool, true, false, not, ◌&&◌, ◌||◌, cond, refl, ap, ◌∙◌}
use Rattle.aig.specs.declared.gate.Lit.{Lit}
use Rattle.aig.specs.Graph.{holds, negation}
use Rattle.aig_words.specs.Words.{weight, differ, less_column}

not_twice : (n x : Bool) → cond (not n) (not x) x ≡ not (cond n (not x) x)
not_twice true true = refl
not_twice true false = refl
not_twice false true = refl
not_twice false false = refl

pub holds-negation : (v : ℕ → Bool) (l m : Lit) → m ≡ negation l → holds v m ≡ not (holds v l)
holds-negation v l m e = ap (λ (k : Lit). holds v k) e ∙ not_twice l.negated (v l.node)

pick_table : (c x y : Bool) → ((c && x) || (not c && y)) ≡ cond c x y
pick_table true true y = refl
pick_table true false y = refl
pick_table false x y = refl

or_table : (x y : Bool) → not (not x && not y) ≡ (x || y)
or_table true true = refl
or_table true false = refl
or_table false true = refl
or_table false false = refl

pub or_by : (x y nx ny neither r : Bool) → nx ≡ not x → ny ≡ not y → neither ≡ (nx && ny) → r ≡ not neither → r ≡ (x || y)
or_by x y nx ny neither r e1 e2 e3 e4 = let h : r ≡ not (not x && not y) = cc in h ∙ or_table x y

pub pick_by : (c x y nc first second d : Bool) → nc ≡ not c → first ≡ (c && x) → second ≡ (nc && y) → d ≡ (first || second) → d ≡ cond c x y
pick_by c x y nc first second d e1 e2 e3 e4 = let h : d ≡ ((c && x) || (not c && y)) = cc in h ∙ pick_table c x y

column_table : (x y z : Bool) → weight (differ (differ x y) z) + 2 * weight ((x && y) || (differ x y && z)) ≡ weight x + weight y + weight z
column_table true true true = refl
column_table true true false = refl
column_table true false true = refl
column_table true false false = refl
column_table false true true = refl
column_table false true false = refl
column_table false false true = refl
column_table false false false = refl

pub column_by : (x y z both one passed sum carry : Bool) → both ≡ (x && y) → one ≡ differ x y → passed ≡ (one && z) → sum ≡ differ one z → carry ≡ (both || passed) → weight sum + 2 * weight carry ≡ weight x + weight y + weight z
column_by x y z both one passed sum carry e1 e2 e3 e4 e5 =
    let h : sum ≡ differ (differ x y) z = cc in
    let k : carry ≡ ((x && y) || (differ x y && z)) = cc in
    ap (λ (t : Bool). weight t + 2 * weight carry) h ∙ ap (λ (t : Bool). weight (differ (differ x y) z) + 2 * weight t) k ∙ column_table x y z

pub less_by : (x y l below above kept r nx ny na : Bool) → nx ≡ not x → ny ≡ not y → na ≡ not above → below ≡ (nx && y) → above ≡ (x && ny) → kept ≡ (l && na) → r ≡ (below || kept) → r ≡ less_column x y l
less_by x y l below above kept r nx ny na e1 e2 e3 e4 e5 e6 e7 = cc

pub and_true : (b : Bool) → (b && true) ≡ b
and_true true = refl
and_true false = refl

pub and_false : (b : Bool) → (b && false) ≡ false
and_false true = refl
and_false false = refl

pub or_true : (b : Bool) → (b || true) ≡ true
or_true true = refl
or_true false = refl

pub or_false : (b : Bool) → (b || false) ≡ b
or_false true = refl
or_false false = refl

pub cond_same : (c : Bool) (n : ℕ) → n ≡ cond c n n
cond_same true n = refl
cond_same false n = refl
