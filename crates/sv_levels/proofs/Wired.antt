-- What an instance gives to a module.
use Rattle.std.proofs.Common.{◌≡◌, List, map, Option, Some, None, Result, Ok, Err, refl, sym, ap, ◌∙◌, subst, Bor}
use Rattle.std.specs.Global.{Vec}
use Rattle.std.specs.Option.{option_copied}
use Rattle.std.specs.Result.{IsErrAnd}
use Rattle.sv_outside.specs.declared.refusal.TextErr.{TextErr}
use Rattle.sv_outside.specs.declared.refusal.TextErr.TheVariants.{No, Memory}
use Rattle.sv_tree.specs.declared.design.Module.{Module}
use Rattle.sv_tree.specs.declared.design.Pins.{Pins}
use Rattle.sv_meaning.specs.Faults.{Judged, ◌>>=◌}
use Rattle.sv_meaning.specs.Layouts.{Name, Scope}
use Rattle.sv_meaning.specs.Params.{Connection, connections}
use Rattle.sv_hierarchy.specs.Scopes as m
use Rattle.sv_loops.specs.Answers.{Answers}
use Rattle.sv_modules.specs.Connections.{connection_is}
use Rattle.sv_modules.specs.declared.connect.Connection.{Connection as Listed}
use Rattle.sv_levels.specs.Library.{IsListed, IsWiring, wiring}
use Rattle.sv_levels.specs.Tasks.{lent}
use Rattle.sv_levels.specs.declared.library.Wiring.{Wiring}
use Rattle.sv_levels.proofs.ByNumber.{answers_memory}

-- ---- answers

-- what is refused first is refused
pub refused_first : {A B C D : Type 0} (r : A → B → Type 0) (s : C → D → Type 0) (j : Judged A) (f : A → Judged C) (e : TextErr) → Answers r j (Err e) → Answers s (j >>= f) (Err e)
refused_first r s (Ok x) f (No e) h = absurd h
refused_first r s (Ok x) f Memory h = answers_memory s (f x)
refused_first r s (Err all) f (No e) h = h
refused_first r s (Err all) f Memory h = tt

-- the same of another relation
pub same_refusal : {A B D : Type 0} (r : A → B → Type 0) (s : A → D → Type 0) (j : Judged A) (e : TextErr) → Answers r j (Err e) → Answers s j (Err e)
same_refusal r s (Ok x) (No e) h = absurd h
same_refusal r s (Ok x) Memory h = tt
same_refusal r s (Err all) (No e) h = h
same_refusal r s (Err all) Memory h = tt

-- what `?` hands on
pub passed_on : {A B D : Type 0} (r : A → B → Type 0) (s : A → D → Type 0) (j : Judged A) (q : Result D TextErr) (e : TextErr) → IsErrAnd q (λ y. y ≡ e) → Answers r j (Err e) → Answers s j q
passed_on r s j (Ok u) e h g = absurd h
passed_on r s j (Err y) e h g = subst (λ z. Answers s j (Err z)) (sym h) (same_refusal r s j e g)

-- ---- connections

pub lent_is : {A : Type 0} (o : Option (Bor A)) → option_copied o ≡ lent o
lent_is None = refl
lent_is (Some x) = refl

pub connected_as : {B : Type 0} (r : List Connection → B → Type 0) (at : Scope) (a b : List Name) (o p : Option Pins) (q : Result B TextErr) → a ≡ b → o ≡ p → Answers r (connections at a o) q → Answers r (connections at b p) q
connected_as r at a b o p q e f h = subst (λ (j : Judged (List Connection)). Answers r j q) (ap (λ (x : List Name). connections at x o) e ∙ ap (connections at b) f) h

listed_is : (j : Judged (List Connection)) (y : Vec Listed) → Answers IsListed j (Ok y) → j ≡ Ok (map connection_is y.items)
listed_is (Ok x) y h = ap Ok (sym h)
listed_is (Err all) y h = absurd h

pub no_params : {D : Type 0} (s : List Connection × List Connection → D → Type 0) (at : Scope) (t : Module) (c : m.Child) (q : Result D TextErr) (e : TextErr) → IsErrAnd q (λ y. y ≡ e) →
    Answers IsListed (connections at (m.open_params t) c.params) (Err e) → Answers s (wiring at t c) q
no_params s at t c (Ok u) e h g = absurd h
no_params s at t c (Err y) e h g =
    subst (λ z. Answers s (wiring at t c) (Err z)) (sym h) (refused_first IsListed s (connections at (m.open_params t) c.params) (λ a. connections at (m.port_texts (m.ports_of t)) c.pins >>= λ b. Ok (a, b)) e g)

wired_from : (at : Scope) (t : Module) (c : m.Child) (params : Vec Listed) → Answers IsListed (connections at (m.open_params t) c.params) (Ok params) →
    wiring at t c ≡ (connections at (m.port_texts (m.ports_of t)) c.pins >>= λ b. Ok (map connection_is params.items, b))
wired_from at t c params h = ap (λ (j : Judged (List Connection)). j >>= λ a. connections at (m.port_texts (m.ports_of t)) c.pins >>= λ b. Ok (a, b)) (listed_is (connections at (m.open_params t) c.params) params h)

pub no_pins : {D : Type 0} (s : List Connection × List Connection → D → Type 0) (at : Scope) (t : Module) (c : m.Child) (params : Vec Listed) (q : Result D TextErr) (e : TextErr) → IsErrAnd q (λ y. y ≡ e) →
    Answers IsListed (connections at (m.open_params t) c.params) (Ok params) → Answers IsListed (connections at (m.port_texts (m.ports_of t)) c.pins) (Err e) → Answers s (wiring at t c) q
no_pins s at t c params (Ok u) e h f g = absurd h
no_pins s at t c params (Err y) e h f g =
    subst (λ z. Answers s (wiring at t c) (Err z)) (sym h)
    (subst (λ (j : Judged (List Connection × List Connection)). Answers s j (Err e)) (sym (wired_from at t c params f))
    (refused_first IsListed s (connections at (m.port_texts (m.ports_of t)) c.pins) (λ b. Ok (map connection_is params.items, b)) e g))

pub wired : (at : Scope) (t : Module) (c : m.Child) (w : Wiring) → Answers IsListed (connections at (m.open_params t) c.params) (Ok w.params) → Answers IsListed (connections at (m.port_texts (m.ports_of t)) c.pins) (Ok w.pins) →
    Answers IsWiring (wiring at t c) (Ok w)
wired at t c w f g =
    subst (λ (j : Judged (List Connection × List Connection)). Answers IsWiring j (Ok w))
    (sym (wired_from at t c w.params f ∙ ap (λ (j : Judged (List Connection)). j >>= λ b. Ok (map connection_is w.params.items, b)) (listed_is (connections at (m.port_texts (m.ports_of t)) c.pins) w.pins g)))
    (refl, refl)
