-- The bits that a port joins are bits of its own wire, each of them once.
use Rattle.std.proofs.Common.{◌≡◌, ◌≢◌, ℕ, zero, suc, ◌≤◌, Bool, true, false, cond, List, [], ◌∷◌, ◌++◌, map, refl, sym, ap, ◌∙◌, subst, arith}
use Rattle.std.specs.List.{All, AllPairs}
use Rattle.std.proofs.lemmas.List.{append-nil, map-append}
use Rattle.std.proofs.lemmas.List.Elements.{All-nil, All-cons, All-head, All-append, All-map, All-weaker}
use Rattle.std.proofs.lemmas.List.Kept.{AllPairs-cons}
use Rattle.lhs_alias.specs.declared.segs.WireBit.{WireBit}
use Rattle.lhs_alias.specs.Segs.{bit}
use Rattle.lhs_alias.specs.Pairs.{HaveOwnChildren}
use Rattle.settling.specs.Settling.{Link}
use Rattle.sv_tree.specs.declared.exprs.Expr.{Expr}
use Rattle.sv_tree.specs.declared.design.Way.{Way}
use Rattle.sv_meaning.specs.Layouts.{Layout, width, Scope}
use Rattle.sv_meaning.specs.Targets.{bits_named}
use Rattle.sv_meaning.specs.Designs as d
use Rattle.sv_meaning.specs.Designs.{is_joined, as_targets, index_scope, bits_of_wire, pairs}
use Rattle.sv_hierarchy.specs.Scopes as h
use Rattle.scope_laws.specs.Wires.{port_wire, connected_wires}
use Rattle.scope_laws.proofs.Pairs.{pairs_none, pairs_both, pairs_cross}
use Rattle.scope_laws.proofs.Connecting.{wires_both}
use Rattle.sv_elab.specs.Working.{TaskIsFree}
use Rattle.sv_elab.proofs.Lists.{left_all, right_all}

abbrev child : Link → WireBit
child link = link.0

-- ---- the bits that a port joins

abbrev IsOf : ℕ → ℕ → Link → Type 0
IsOf n k link = (link.0.wire ≡ n) × (k ≤ link.0.at)

run_of : (n k w : ℕ) (bits : List WireBit) → All (IsOf n k) (pairs (bits_of_wire n k w) bits)
unfolding bits_of_wire pairs
run_of n k zero [] = All-nil (IsOf n k)
run_of n k zero (b ∷ bits) = All-nil (IsOf n k)
run_of n k (suc w) [] = All-nil (IsOf n k)
run_of n k (suc w) (b ∷ bits) =
    All-cons (IsOf n k) (bit n k, b) (pairs (bits_of_wire n (suc k) w) bits) (refl, omega arith)
    (All-weaker (IsOf n (suc k)) (IsOf n k) (λ link i. (i.0, (let l = i.1 in omega (arith, l)))) (pairs (bits_of_wire n (suc k) w) bits) (run_of n (suc k) w bits))

run_apart : (n k w : ℕ) (bits : List WireBit) → HaveOwnChildren (pairs (bits_of_wire n k w) bits)
unfolding bits_of_wire pairs
run_apart n k zero [] = pairs_none ◌≢◌
run_apart n k zero (b ∷ bits) = pairs_none ◌≢◌
run_apart n k (suc w) [] = pairs_none ◌≢◌
run_apart n k (suc w) (b ∷ bits) =
    let rest = pairs (bits_of_wire n (suc k) w) bits in
    let differs : (link : Link) → IsOf n (suc k) link → bit n k ≢ link.0 = λ link i e. let same : k ≡ link.0.at = ap (λ (z : WireBit). z.at) e in let l = i.1 in omega (arith, same, l) in
    AllPairs-cons ◌≢◌ (bit n k) (map child rest) (All-map (λ c. bit n k ≢ c) child rest (All-weaker (IsOf n (suc k)) (λ link. bit n k ≢ link.0) differs rest (run_of n (suc k) w bits))) (run_apart n (suc k) w bits)

abbrev IsOfWire : ℕ → Link → Type 0
IsOfWire n link = link.0.wire ≡ n

port_of : (at : Scope) (way : Way) (n : ℕ) (x : Layout) (actual : Expr) → All (IsOfWire n) (d.links_of_work (d.port at way n x actual))
port_of at way n x actual = go (is_joined (index_scope way at) at x actual)
  where
    named : List WireBit
    named = bits_named (as_targets (index_scope way at) at actual)

    go : (b : Bool) → All (IsOfWire n) (cond b (pairs (bits_of_wire n 0 (width x)) named) [])
    go true = All-weaker (IsOf n 0) (IsOfWire n) (λ link i. i.0) (pairs (bits_of_wire n 0 (width x)) named) (run_of n 0 (width x) named)
    go false = All-nil (IsOfWire n)

port_apart : (at : Scope) (way : Way) (n : ℕ) (x : Layout) (actual : Expr) → HaveOwnChildren (d.links_of_work (d.port at way n x actual))
port_apart at way n x actual = go (is_joined (index_scope way at) at x actual)
  where
    named : List WireBit
    named = bits_named (as_targets (index_scope way at) at actual)

    go : (b : Bool) → HaveOwnChildren (cond b (pairs (bits_of_wire n 0 (width x)) named) [])
    go true = run_apart n 0 (width x) named
    go false = pairs_none ◌≢◌

-- ---- one task more

nothing_more : (links : List Link) → HaveOwnChildren links → HaveOwnChildren (links ++ [])
nothing_more links h = subst HaveOwnChildren (sym (append-nil links)) h

-- the joins of a task whose wire was free
pub own_more : (at : Scope) (t : h.Task) (links : List Link) → TaskIsFree links t → HaveOwnChildren links → HaveOwnChildren (links ++ d.links_of_work (h.work_of at t))
own_more at (h.assigning to x) links f own = nothing_more links own
own_more at (h.running b) links f own = nothing_more links own
own_more at (h.connecting way n x actual) links f own =
    let more = d.links_of_work (d.port at way n x actual) in
    let there : All (λ (c : WireBit). c.wire ≡ n) (map child more) = All-map (λ (c : WireBit). c.wire ≡ n) child more (port_of at way n x actual) in
    let apart : (b : WireBit) → b.wire ≢ n → All (λ c. b ≢ c) (map child more) =
    λ b g. All-weaker (λ (c : WireBit). c.wire ≡ n) (λ c. b ≢ c) (λ c e same. g (ap (λ (z : WireBit). z.wire) same ∙ e)) (map child more) there in
    subst (AllPairs ◌≢◌) (sym (map-append child links more))
    (pairs_both ◌≢◌ (map child links) (map child more) own (port_apart at way n x actual)
    (All-weaker (λ (b : WireBit). b.wire ≢ n) (λ b. All (λ c. b ≢ c) (map child more)) apart (map child links) (All-map (λ (b : WireBit). b.wire ≢ n) child links f)))

-- ---- the next task

abbrev IsNotOf : ℕ → Link → Type 0
IsNotOf n link = link.0.wire ≢ n

task_free : (at : Scope) (t : h.Task) (n : ℕ) → All (λ m. m ≢ n) (port_wire t) → All (IsNotOf n) (d.links_of_work (h.work_of at t))
task_free at (h.assigning to x) n f = All-nil (IsNotOf n)
task_free at (h.running b) n f = All-nil (IsNotOf n)
task_free at (h.connecting way m x actual) n f =
    let differs : m ≢ n = All-head (λ k. k ≢ n) m [] f in
    All-weaker (IsOfWire m) (IsNotOf n) (λ link e same. differs (sym e ∙ same)) (d.links_of_work (d.port at way m x actual)) (port_of at way m x actual)

works_free : (levels : List h.Level) (n : ℕ) (all : List h.Standing) → All (λ m. m ≢ n) (connected_wires all) → All (IsNotOf n) (d.links_of (map (h.work_at levels) all))
unfolding connected_wires d.links_of
works_free levels n [] f = All-nil (IsNotOf n)
works_free levels n (w ∷ more) f =
    All-append (IsNotOf n) (d.links_of_work (h.work_at levels w)) (d.links_of (map (h.work_at levels) more)) (task_free (h.live_at levels w.at) w.task n (left_all (λ m. m ≢ n) (port_wire w.task) (connected_wires more) f))
    (works_free levels n more (right_all (λ m. m ≢ n) (port_wire w.task) (connected_wires more) f))

-- what the works in front join leaves the wire of the next one free
pub next_free : (levels : List h.Level) (front rest : List h.Standing) (w : h.Standing) → AllPairs ◌≢◌ (connected_wires (front ++ w ∷ rest)) → TaskIsFree (d.links_of (map (h.work_at levels) front)) w.task
unfolding connected_wires
next_free levels front rest w apart = go w.task (pairs_cross ◌≢◌ (connected_wires front) (connected_wires (w ∷ rest)) (subst (AllPairs ◌≢◌) (wires_both front (w ∷ rest)) apart))
  where
    go : (t : h.Task) → All (λ m. All (λ k. m ≢ k) (port_wire t ++ connected_wires rest)) (connected_wires front) → TaskIsFree (d.links_of (map (h.work_at levels) front)) t
    go (h.assigning to x) f = tt
    go (h.running b) f = tt
    go (h.connecting way n x actual) f =
        works_free levels n front
        (All-weaker (λ m. All (λ k. m ≢ k) (n ∷ connected_wires rest)) (λ m. m ≢ n) (λ m g. All-head (λ k. m ≢ k) n (connected_wires rest) g) (connected_wires front) f)
