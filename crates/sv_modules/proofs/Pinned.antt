-- Connections, one by one.
use Rattle.std.proofs.Common.{◌≡◌, inl, inr, ℕ, ◌+◌, ◌<◌, ◌≤◌, Bool, true, false, ◌||◌, List, [], ◌∷◌, ◌++◌, length, take, drop, get_or, map, Some, refl, sym, ap, ◌∙◌, subst, append_assoc, Ok, Err, Result, arith, not, Vec, Global}
use Rattle.std.proofs.lemmas.List.{append-nil, map-append}
use Rattle.std.specs.List.{Contains}
use Rattle.std.specs.Result.{IsErrAnd}
use Rattle.std.specs.Str.{bytes_eq}
use Rattle.sv_outside.specs.declared.refusal.Refusal.{Refusal}
use Rattle.sv_outside.specs.declared.refusal.Place.{Place}
use Rattle.sv_outside.specs.declared.refusal.TextErr.{TextErr}
use Rattle.sv_outside.specs.declared.refusal.TextErr.TheVariants.{No, Memory}
use Rattle.sv_tree.specs.declared.word.Word.{Word}
use Rattle.sv_tree.specs.declared.exprs.Expr.{Expr}
use Rattle.sv_tree.specs.declared.design.NamedPin.{NamedPin}
use Rattle.sv_meaning.specs.Faults.{Faults, fault_if, or_then, Judged, provided, both, ◌>>=◌, port_unknown, port_twice}
use Rattle.sv_meaning.specs.Layouts.{Name, Scope}
use Rattle.sv_meaning.specs.Names.{has_name}
use Rattle.sv_meaning.specs.Values.{mean}
use Rattle.sv_meaning.specs.Params.{Connection, by_name, in_order, pinned, pin_faults, joined_pins}
use Rattle.sv_loops.specs.Answers.{Answers, Gives}
use Rattle.sv_loops.proofs.Chains.{then_err, answers_err, answers_ok}
use Rattle.sv_tree.specs.declared.design.Pin.{Pin}
use Rattle.sv_modules.specs.declared.connect.Connection.{Connection as Coded}
use Rattle.sv_modules.specs.Connections.{joined_is, connection_is}
use Rattle.sv_modules.specs.Naming.{Holds, Adds}
use Rattle.sv_modules.specs.Putting.{IsPut, PutsPin}
use Rattle.sv_modules.specs.declared.name_set.NameSet.{NameSet}
use Rattle.sv_modules.proofs.Turns.{drop_next, drop_none, map_next}
use Rattle.sv_modules.proofs.Sets.{has_append, holds_more}
use Rattle.sv_typing.proofs.Lists.{in_left, in_first, in_second, in_fault, no_fault, then_clear}

-- those so far, and the rest
abbrev pub behind : List Connection → Judged (List Connection) → Judged (List Connection)
behind all j = j >>= λ rest. Ok (all ++ rest)

behind_more : (all : List Connection) (c : Connection) (j : Judged (List Connection)) → behind all (j >>= λ rest. Ok (c ∷ rest)) ≡ behind (all ++ c ∷ []) j
behind_more all c (Ok rest) = ap Ok (sym (append_assoc all (c ∷ []) rest))
behind_more all c (Err why) = refl

pub behind_none : (j : Judged (List Connection)) → j ≡ behind [] j
behind_none (Ok rest) = refl
behind_none (Err why) = refl

-- ---- by name

-- which are used counts, and not in which order
abbrev pub SameNames : List Name → List Name → Type 0
SameNames a b = (name : Name) → has_name name a ≡ has_name name b

by_same : (names a b : List Name) (pins : List NamedPin) → SameNames a b → by_name names a pins ≡ by_name names b pins
unfolding by_name has_name
by_same names a b [] h = refl
by_same names a b (x ∷ pins) h =
    ap (λ f. both (provided (or_then (fault_if (not (has_name x.name.text names)) port_unknown x.name.place) (fault_if f port_twice x.name.place)) x) (by_name names (x.name.text ∷ a) pins) >>= λ found. Ok (joined_pins found.0 found.1)) (h x.name.text)
    ∙ ap (λ j. both (provided (pin_faults names b x.name) x) j >>= λ found. Ok (joined_pins found.0 found.1)) (by_same names (x.name.text ∷ a) (x.name.text ∷ b) pins (λ name. ap (λ c. bytes_eq x.name.text name || c) (h name)))

-- a fault of one pin is one of all
one_fault : (all : Faults) (x : NamedPin) (j : Judged (List Connection)) (r : Refusal) → Contains all r → Gives (both (provided all x) j >>= λ found. Ok (joined_pins found.0 found.1)) (Err (No r))
one_fault [] x j r h = absurd (omega (arith, h.1))
one_fault (f ∷ all) x (Ok c) r h = in_left (f ∷ all) [] r h
one_fault (f ∷ all) x (Err why) r h = in_left (f ∷ all) why r h

-- none stands against it
no_fault_in : (all : Faults) (x : NamedPin) (j : Judged (List Connection)) → all ≡ [] → (both (provided all x) j >>= λ found. Ok (joined_pins found.0 found.1)) ≡ (j >>= λ rest. Ok (joined_pins x rest))
no_fault_in [] x (Ok c) h = refl
no_fault_in [] x (Err why) h = refl
no_fault_in (f ∷ all) x j h = cc

-- the names of pins
abbrev pub pin_names : List NamedPin → List Name
pin_names pins = map (λ (p : NamedPin). p.name.text) pins

or_swapped : (a b : Bool) → (a || b) ≡ (b || a)
or_swapped true true = refl
or_swapped true false = refl
or_swapped false true = refl
or_swapped false false = refl

or_false : (a : Bool) → (a || false) ≡ a
or_false true = refl
or_false false = refl

-- one more at either end
either_end : (a : List Name) (n : Name) → SameNames (n ∷ a) (a ++ n ∷ [])
unfolding has_name
either_end a n name =
    or_swapped (bytes_eq n name) (has_name name a) ∙ ap (λ x. has_name name a || x) (sym (or_false (bytes_eq n name))) ∙ sym (has_append name a (n ∷ []))

names_next : (pins : List NamedPin) (i : ℕ) (x : NamedPin) → i < length pins → x ≡ get_or pins i x → pin_names (take (i + 1) pins) ≡ pin_names (take i pins) ++ x.name.text ∷ []
names_next pins i x h e = map_next (λ (p : NamedPin). p.name.text) pins i x h e

pub holds_pin : (s t : NameSet) (pins : List NamedPin) (i : ℕ) (x : NamedPin) → i < length pins → x ≡ get_or pins i x → Holds s (pin_names (take i pins)) → Adds s (x.name.text ∷ []) t → Holds t (pin_names (take (i + 1) pins))
holds_pin s t pins i x h e f g = subst (Holds t) (sym (names_next pins i x h e)) (holds_more s t (pin_names (take i pins)) (x.name.text ∷ []) f g)

pin_is : (names used : List Name) (x : NamedPin) (more : List NamedPin) →
    by_name names used (x ∷ more) ≡ (both (provided (pin_faults names used x.name) x) (by_name names (x.name.text ∷ used) more) >>= λ found. Ok (joined_pins found.0 found.1))
unfolding by_name
pin_is names used x more = refl

pub named_next : (j : Judged (List Connection)) (names : List Name) (pins : List NamedPin) (i : ℕ) (x : NamedPin) (all : List Connection) → i < length pins → x ≡ get_or pins i x →
    has_name x.name.text names ≡ true → has_name x.name.text (pin_names (take i pins)) ≡ false → j ≡ behind all (by_name names (pin_names (take i pins)) (drop i pins)) →
    j ≡ behind (all ++ (x.name.text, pinned x.name x.pin) ∷ []) (by_name names (pin_names (take (i + 1) pins)) (drop (i + 1) pins))
named_next j names pins i x all h e k u g =
    let used = pin_names (take i pins) in
    let more = drop (i + 1) pins in
    g ∙ ap (λ (ps : List NamedPin). behind all (by_name names used ps)) (drop_next pins i x h e) ∙ ap (behind all) (pin_is names used x more)
    ∙ ap (behind all) (no_fault_in (pin_faults names used x.name) x (by_name names (x.name.text ∷ used) more) (then_clear _ _ (no_fault _ port_unknown x.name.place (ap not k)) (no_fault _ port_twice x.name.place u)))
    ∙ behind_more all (x.name.text, pinned x.name x.pin) (by_name names (x.name.text ∷ used) more)
    ∙ ap (behind (all ++ (x.name.text, pinned x.name x.pin) ∷ [])) (by_same names (x.name.text ∷ used) (used ++ x.name.text ∷ []) more (either_end used x.name.text))
    ∙ ap (λ (u : List Name). behind (all ++ (x.name.text, pinned x.name x.pin) ∷ []) (by_name names u more)) (sym (names_next pins i x h e))

named_fault : (j : Judged (List Connection)) (names : List Name) (pins : List NamedPin) (i : ℕ) (x : NamedPin) (all : List Connection) (r : Refusal) → i < length pins → x ≡ get_or pins i x →
    Contains (pin_faults names (pin_names (take i pins)) x.name) r → j ≡ behind all (by_name names (pin_names (take i pins)) (drop i pins)) → Gives j (Err (No r))
named_fault j names pins i x all r h e k g =
    let used = pin_names (take i pins) in
    let more = drop (i + 1) pins in
    subst (λ z. Gives z (Err (No r))) (sym (g ∙ ap (λ (ps : List NamedPin). behind all (by_name names used ps)) (drop_next pins i x h e) ∙ ap (behind all) (pin_is names used x more)))
    (then_err _ (λ rest. Ok (all ++ rest)) (No r) (one_fault (pin_faults names used x.name) x (by_name names (x.name.text ∷ used) more) r k))

pub named_unknown : (j : Judged (List Connection)) (names : List Name) (pins : List NamedPin) (i : ℕ) (x : NamedPin) (all : List Connection) → i < length pins → x ≡ get_or pins i x → has_name x.name.text names ≡ false →
    j ≡ behind all (by_name names (pin_names (take i pins)) (drop i pins)) → Gives j (Err (No (record { number = port_unknown; place = x.name.place; count = 0 })))
named_unknown j names pins i x all h e k g = named_fault j names pins i x all _ h e (in_first _ _ _ (in_fault _ port_unknown x.name.place (ap not k))) g

pub named_twice : (j : Judged (List Connection)) (names : List Name) (pins : List NamedPin) (i : ℕ) (x : NamedPin) (all : List Connection) → i < length pins → x ≡ get_or pins i x → has_name x.name.text names ≡ true →
    has_name x.name.text (pin_names (take i pins)) ≡ true → j ≡ behind all (by_name names (pin_names (take i pins)) (drop i pins)) → Gives j (Err (No (record { number = port_twice; place = x.name.place; count = 0 })))
named_twice j names pins i x all h e k u g =
    named_fault j names pins i x all _ h e (in_second _ _ _ (no_fault _ port_unknown x.name.place (ap not k)) (in_fault _ port_twice x.name.place u)) g

pub named_end : (j : Judged (List Connection)) (names : List Name) (pins : List NamedPin) (i : ℕ) (all : List Connection) → length pins ≤ i → j ≡ behind all (by_name names (pin_names (take i pins)) (drop i pins)) → j ≡ Ok all
unfolding by_name
named_end j names pins i all h g = g ∙ ap (λ (ps : List NamedPin). behind all (by_name names (pin_names (take i pins)) ps)) (drop_none pins i h) ∙ ap Ok (append-nil all)

-- ---- in order

order_is : (at : Scope) (n : Name) (names : List Name) (x : Expr) (more : List Expr) → in_order at (n ∷ names) (x ∷ more) ≡ (in_order at names more >>= λ rest. Ok ((n, Some x) ∷ rest))
unfolding in_order
order_is at n names x more = refl

pub order_next : (at : Scope) (j : Judged (List Connection)) (names : List Name) (exprs : List Expr) (i : ℕ) (n : Name) (x : Expr) (all : List Connection) → i < length names → n ≡ get_or names i n → i < length exprs → x ≡ get_or exprs i x →
    j ≡ behind all (in_order at (drop i names) (drop i exprs)) → j ≡ behind (all ++ (n, Some x) ∷ []) (in_order at (drop (i + 1) names) (drop (i + 1) exprs))
order_next at j names exprs i n x all h e k f g =
    g ∙ ap (λ (ns : List Name). behind all (in_order at ns (drop i exprs))) (drop_next names i n h e) ∙ ap (λ (xs : List Expr). behind all (in_order at (n ∷ drop (i + 1) names) xs)) (drop_next exprs i x k f)
    ∙ ap (behind all) (order_is at n (drop (i + 1) names) x (drop (i + 1) exprs)) ∙ behind_more all (n, Some x) (in_order at (drop (i + 1) names) (drop (i + 1) exprs))

pub order_unknown : (at : Scope) (j : Judged (List Connection)) (names : List Name) (exprs : List Expr) (i : ℕ) (x : Expr) (p : Place) (all : List Connection) → length names ≤ i → i < length exprs → x ≡ get_or exprs i x → (mean at x).start ≡ p →
    j ≡ behind all (in_order at (drop i names) (drop i exprs)) → Gives j (Err (No (record { number = port_unknown; place = p; count = 0 })))
unfolding in_order
order_unknown at j names exprs i x p all h k f s g =
    subst (λ z. Gives z (Err (No (record { number = port_unknown; place = p; count = 0 }))))
    (sym (g ∙ ap (λ (ns : List Name). behind all (in_order at ns (drop i exprs))) (drop_none names i h) ∙ ap (λ (xs : List Expr). behind all (in_order at [] xs)) (drop_next exprs i x k f)))
    (0, omega arith, ap (λ q. record { number = port_unknown; place = q; count = 0 }) s)

pub order_end : (at : Scope) (j : Judged (List Connection)) (names : List Name) (exprs : List Expr) (i : ℕ) (all : List Connection) → length exprs ≤ i → j ≡ behind all (in_order at (drop i names) (drop i exprs)) → j ≡ Ok all
unfolding in_order
order_end at j names exprs i all h g = g ∙ ap (λ (xs : List Expr). behind all (in_order at (drop i names) xs)) (drop_none exprs i h) ∙ ap Ok (append-nil all)

-- ---- connections as code lists them

abbrev pub Listed : Judged (List Connection) → Result (Vec Coded Global) TextErr → Type 0
Listed j r = Answers (λ all (list : Vec Coded Global). map connection_is list.items ≡ all) j r

pub listed_err : (j : Judged (List Connection)) (e : TextErr) → Gives j (Err e) → Listed j (Err e)
listed_err j e h = answers_err (λ all (list : Vec Coded Global). map connection_is list.items ≡ all) j e h

pub listed_ok : (j : Judged (List Connection)) (list : Vec Coded Global) → j ≡ Ok (map connection_is list.items) → Listed j (Ok list)
listed_ok j list h = answers_ok (λ all (l : Vec Coded Global). map connection_is l.items ≡ all) j (map connection_is list.items) list h refl

pub listed_next : (old new : List Coded) (c : Coded) (w : Word) (p : Pin) → new ≡ old ++ c ∷ [] → c.name.now ≡ w → ((v : Word) → joined_is v c.joined ≡ pinned v p) →
    map connection_is new ≡ map connection_is old ++ (w.text, pinned w p) ∷ []
listed_next old new c w p h e g =
    ap (map connection_is) h ∙ map-append connection_is old (c ∷ [])
    ∙ ap (λ x. map connection_is old ++ (c.name.now.text, x) ∷ []) (g c.name.now) ∙ ap (λ (v : Word). map connection_is old ++ (v.text, pinned v p) ∷ []) e

pub given_next : (old new : List Coded) (c : Coded) (n : Name) (x : Expr) → new ≡ old ++ c ∷ [] → connection_is c ≡ (n, Some x) → map connection_is new ≡ map connection_is old ++ (n, Some x) ∷ []
given_next old new c n x h e = ap (map connection_is) h ∙ map-append connection_is old (c ∷ []) ∙ ap (λ y. map connection_is old ++ y ∷ []) e

-- ---- a connection by name

-- what refuses one refuses all
pub put_refused : (j : Judged (List Connection)) (known used more : NameSet) (list now : List Coded) (names : List Name) (pins : List NamedPin) (i : ℕ) (x : NamedPin) (all : List Connection) (e : TextErr) → i < length pins → x ≡ get_or pins i x →
    Holds known names → Holds used (pin_names (take i pins)) → j ≡ behind all (by_name names (pin_names (take i pins)) (drop i pins)) → PutsPin known used list x more now (Err e) → Listed j (Err e)
put_refused j known used more list now names pins i x all (No r) h e k u g (inl p) =
    listed_err j (No r) (subst (λ (q : Refusal). Gives j (Err (No q))) (sym p.1) (named_unknown j names pins i x all h e (sym (k x.name.text) ∙ p.0) g))
put_refused j known used more list now names pins i x all (No r) h e k u g (inr p) =
    listed_err j (No r) (subst (λ (q : Refusal). Gives j (Err (No q))) (sym p.2) (named_twice j names pins i x all h e (sym (k x.name.text) ∙ p.0) (sym (u x.name.text) ∙ p.1) g))
put_refused (Ok y) known used more list now names pins i x all Memory h e k u g p = tt
put_refused (Err y) known used more list now names pins i x all Memory h e k u g p = tt

pub put_handed : (j : Judged (List Connection)) (known used more : NameSet) (list now : List Coded) (names : List Name) (pins : List NamedPin) (i : ℕ) (x : NamedPin) (all : List Connection) (e : TextErr) (z : Result (Vec Coded Global) TextErr) →
    i < length pins → x ≡ get_or pins i x → Holds known names → Holds used (pin_names (take i pins)) → j ≡ behind all (by_name names (pin_names (take i pins)) (drop i pins)) → PutsPin known used list x more now (Err e) → IsErrAnd z (λ y. y ≡ e) → Listed j z
put_handed j known used more list now names pins i x all e (Ok v) h g k u f p q = absurd q
put_handed j known used more list now names pins i x all e (Err y) h g k u f p q = subst (λ (w : TextErr). Listed j (Err w)) (sym q) (put_refused j known used more list now names pins i x all e h g k u f p)

pub put_handed_memory : (known used more : NameSet) (list now : List Coded) (x : NamedPin) (z : Result (Unit {0}) TextErr) → IsErrAnd z (λ y. y ≡ Memory) → PutsPin known used list x more now z
put_handed_memory known used more list now x (Ok v) q = absurd q
put_handed_memory known used more list now x (Err y) q = subst (λ (w : TextErr). PutsPin known used list x more now (Err w)) (sym q) tt

pub put_next : (j : Judged (List Connection)) (known used more : NameSet) (list now : List Coded) (names : List Name) (pins : List NamedPin) (i : ℕ) (x : NamedPin) → i < length pins → x ≡ get_or pins i x →
    Holds known names → Holds used (pin_names (take i pins)) → j ≡ behind (map connection_is list) (by_name names (pin_names (take i pins)) (drop i pins)) → IsPut known used list x more now →
    j ≡ behind (map connection_is now) (by_name names (pin_names (take (i + 1) pins)) (drop (i + 1) pins))
put_next j known used more list now names pins i x h e k u g p =
    named_next j names pins i x (map connection_is list) h e (sym (k x.name.text) ∙ p.is_known) (sym (u x.name.text) ∙ p.is_new) g
    ∙ ap (λ (all : List Connection). behind all (by_name names (pin_names (take (i + 1) pins)) (drop (i + 1) pins))) (sym p.all_is)
