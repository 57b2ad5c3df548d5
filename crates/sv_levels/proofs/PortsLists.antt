-- Ports and connections in lists that loops go through.
use Rattle.std.proofs.Common.{◌≡◌, ℕ, ◌+◌, ◌<◌, ◌≤◌, List, [], ◌∷◌, ◌++◌, length, take, drop, get_or, map, bytes_eq, Bool, true, false, cond, Option, Some, None, refl, sym, ap, ◌∙◌, subst, append_assoc, if◌then◌else◌, Bor}
use Rattle.std.specs.List.{find, slice_get}
use Rattle.std.specs.Option.{option_map, option_copied, IfSome}
use Rattle.std.specs.Slice.{IsItemAt}
use Rattle.std.proofs.lemmas.Option.{slice_get_past, slice_get_read}
use Rattle.std.specs.Cmp.Lexicographic.{nat_list_eq_equiv}
use Rattle.sv_names.specs.declared.layout.Layout.{Layout as Coded}
use Rattle.std.proofs.lemmas.List.{append-nil, map-append}
use Rattle.std.proofs.lemmas.List.Elements.{All-get_or}
use Rattle.sv_tree.specs.declared.word.Word.{Word}
use Rattle.sv_tree.specs.declared.exprs.Expr.{Expr}
use Rattle.sv_tree.specs.declared.design.Port.{Port}
use Rattle.sv_names.specs.Kinds.{IsSound, layout_is}
use Rattle.sv_meaning.specs.Layouts.{Name}
use Rattle.sv_modules.specs.declared.connect.Connection.{Connection}
use Rattle.sv_modules.specs.Connections.{connection_is, joined_is}
use Rattle.name_index.specs.declared.index.NameIndex.{NameIndex}
use Rattle.name_index.specs.Indexing.{Indexes, number_under}
use Rattle.sv_modules.specs.Naming.{texts_of}
use Rattle.sv_levels.proofs.PortsIndexed.{first_at, first_missing}
use Rattle.sv_modules.proofs.Turns.{take_next, drop_next, drop_none}
use Rattle.sv_hierarchy.specs.Scopes as m
use Rattle.sv_levels.specs.declared.ports.OpenPort.{OpenPort}
use Rattle.sv_levels.specs.declared.levels.Front.{Front}
use Rattle.sv_levels.specs.declared.tasks.Actual.{Actual}
use Rattle.sv_levels.specs.declared.tasks.Given.{Given}
use Rattle.sv_levels.specs.declared.tasks.Work.{Work}
use Rattle.sv_levels.specs.declared.tasks.Task.TheVariants.{Connecting}
use Rattle.sv_levels.specs.Levels.{front_is}
use Rattle.sv_levels.specs.Tasks.{actual_is, given_is, work_is}
use Rattle.sv_levels.specs.Ports.{port_is, port_name, PortsAreSound}

-- ---- the first port of a name

pub named_is : (n : Name) (all : List OpenPort) → option_map port_is (find (λ p. bytes_eq n (port_name p)) all) ≡ m.port_named n (map port_is all)
unfolding m.port_named
named_is n [] = refl
named_is n (p ∷ all) = by_test (bytes_eq n (port_name p)) (bytes_eq (port_name p) n) (find (λ x. bytes_eq n (port_name x)) all) (m.port_named n (map port_is all)) (nat_list_eq_equiv.symm n (port_name p)) (named_is n all)
  where
    by_test : (b c : Bool) (o : Option OpenPort) (w : Option m.OpenPort) → b ≡ c → option_map port_is o ≡ w → option_map port_is (cond b (Some p) o) ≡ (if c then Some (port_is p) else w)
    by_test true true o w e h = refl
    by_test true false o w e h = cc
    by_test false true o w e h = cc
    by_test false false o w e h = h

-- the port of a number, by an index of the names
pub port_at : (index : NameIndex) (n : Name) (all : List OpenPort) (i : ℕ) (o : Option OpenPort) → Indexes index (map port_name all) → Some i ≡ number_under index n → o ≡ slice_get all i → option_map port_is o ≡ m.port_named n (map port_is all)
port_at index n all i o indexed e g = ap (option_map port_is) (g ∙ first_at port_name index all n i indexed e) ∙ named_is n all

pub no_port : (index : NameIndex) (n : Name) (all : List OpenPort) → Indexes index (map port_name all) → None ≡ number_under index n → None ≡ m.port_named n (map port_is all)
no_port index n all indexed e = sym (ap (option_map port_is) (first_missing port_name index all n indexed e)) ∙ named_is n all

port_sound : (all : List OpenPort) (i : ℕ) (x : OpenPort) → i < length all → x ≡ get_or all i x → PortsAreSound all → IsSound x.layout
port_sound all i x h e s = subst (λ (y : OpenPort). IsSound y.layout) (sym e) (All-get_or (λ (p : OpenPort). IsSound p.layout) all i x h s)

pub got : {A : Type 0} (all : List A) (i : ℕ) (o : Option (Bor A)) → IsItemAt all i o → option_copied o ≡ slice_get all i
got all i None h = sym (slice_get_past all i h.3)
got all i (Some x) h = sym (slice_get_read all (length all) i x.now refl h.3.0 h.1)

pub sound_got : (all : List OpenPort) (i : ℕ) (o : Option (Bor OpenPort)) → IsItemAt all i o → PortsAreSound all → IfSome o (λ p. IsSound p.now.layout)
sound_got all i None h s = tt
sound_got all i (Some x) h s = port_sound all i x.now h.3.0 h.1 s

-- ---- works of ports

pub nothing_connected : (at : m.Front) (p : Option m.OpenPort) → m.connected at p None ≡ []
nothing_connected at (Some p) = refl
nothing_connected at None = refl

pub works_next : (at : m.Front) (ports : List m.OpenPort) (all : List Connection) (i : ℕ) (x : Connection) (a b w : List m.Standing) → i < length all → x ≡ get_or all i x →
    a ++ m.port_works at (map connection_is (drop i all)) ports ≡ w → b ≡ a ++ m.connected at (m.port_named (connection_is x).0 ports) (connection_is x).1 → b ++ m.port_works at (map connection_is (drop (i + 1) all)) ports ≡ w
unfolding m.port_works
works_next at ports all i x a b w h e k l =
    let more : List m.Standing = m.port_works at (map connection_is (drop (i + 1) all)) ports in
    ap (λ (y : List m.Standing). y ++ more) l ∙ append_assoc a (m.connected at (m.port_named (connection_is x).0 ports) (connection_is x).1) more
    ∙ sym (ap (λ y. a ++ m.port_works at (map connection_is y) ports) (drop_next all i x h e)) ∙ k

pub works_end : (at : m.Front) (ports : List m.OpenPort) (all : List Connection) (i : ℕ) (a w : List m.Standing) → length all ≤ i → a ++ m.port_works at (map connection_is (drop i all)) ports ≡ w → a ≡ w
unfolding m.port_works
works_end at ports all i a w h k = sym (append-nil a) ∙ sym (ap (λ y. a ++ m.port_works at (map connection_is y) ports) (drop_none all i h)) ∙ k

pub no_port_works : (at : m.Front) (o : Option m.OpenPort) (x : Expr) (a : List m.Standing) → None ≡ o → a ≡ a ++ m.connected at o (Some x)
no_port_works at o x a e = sym (append-nil a) ∙ ap (λ (y : Option m.OpenPort). a ++ m.connected at y (Some x)) e

pub no_works : (at : m.Front) (p : Option m.OpenPort) (o : Option Expr) (a : List m.Standing) → None ≡ o → a ≡ a ++ m.connected at p o
no_works at p o a e = sym (append-nil a) ∙ ap (λ (l : List m.Standing). a ++ l) (sym (nothing_connected at p)) ∙ ap (λ (y : Option Expr). a ++ m.connected at p y) e

pub connected_push : (at : Front) (o : Option m.OpenPort) (p : OpenPort) (l : Coded) (x : Actual) (a b : List Work) → Some (port_is p) ≡ o → l ≡ p.layout → b ≡ a ++ record { at = at; task = Connecting p.way p.wire l x } ∷ [] →
    map work_is b ≡ map work_is a ++ m.connected (front_is at) o (Some (actual_is x))
connected_push at o p l x a b e f h =
    ap (map work_is) h ∙ map-append work_is a (record { at = at; task = Connecting p.way p.wire l x } ∷ [])
    ∙ ap (λ (y : Coded). map work_is a ++ record { at = front_is at; task = m.connecting p.way p.wire (layout_is y) (actual_is x) } ∷ []) f
    ∙ ap (λ (y : Option m.OpenPort). map work_is a ++ m.connected (front_is at) y (Some (actual_is x))) e

-- ---- what is given

by_value : (at : m.Front) (more : List (Name × Option Expr)) (n : Name) (v : Option Expr) → m.given_by at ((n, v) ∷ more) ≡ m.given_by at ((n, v) ∷ []) ++ m.given_by at more
unfolding m.given_by
by_value at more n None = refl
by_value at more n (Some v) = refl

pub given_none : (at : m.Front) (n : Name) (v : Option Expr) (a : List m.Given) → v ≡ None → a ≡ a ++ m.given_by at ((n, v) ∷ [])
unfolding m.given_by
given_none at n v a e = sym (append-nil a) ∙ ap (λ (y : Option Expr). a ++ m.given_by at ((n, y) ∷ [])) (sym e)

pub given_some : (at : m.Front) (n : Name) (v : Option Expr) (x : Expr) → v ≡ Some x → record { name = n; at = at; value = x } ∷ [] ≡ m.given_by at ((n, v) ∷ [])
unfolding m.given_by
given_some at n v x e = ap (λ (y : Option Expr). m.given_by at ((n, y) ∷ [])) (sym e)

given_append : (at : m.Front) (x : Connection) (more : List Connection) → m.given_by at (map connection_is (x ∷ more)) ≡ m.given_by at (connection_is x ∷ []) ++ m.given_by at (map connection_is more)
given_append at x more = by_value at (map connection_is more) (connection_is x).0 (connection_is x).1

pub given_push : (at : Front) (c : Connection) (x : Actual) (a b : List Given) → Some (actual_is x) ≡ joined_is c.name.now c.joined → b ≡ a ++ record { name = c.name; at = at; value = x } ∷ [] →
    map given_is b ≡ map given_is a ++ m.given_by (front_is at) (connection_is c ∷ [])
given_push at c x a b e h =
    ap (map given_is) h ∙ map-append given_is a (record { name = c.name; at = at; value = x } ∷ [])
    ∙ ap (λ (l : List m.Given). map given_is a ++ l) (given_some (front_is at) c.name.now.text (joined_is c.name.now c.joined) (actual_is x) (sym e))

pub given_next : (at : m.Front) (all : List Connection) (i : ℕ) (x : Connection) (a b w : List m.Given) → i < length all → x ≡ get_or all i x →
    a ++ m.given_by at (map connection_is (drop i all)) ≡ w → b ≡ a ++ m.given_by at (connection_is x ∷ []) → b ++ m.given_by at (map connection_is (drop (i + 1) all)) ≡ w
given_next at all i x a b w h e k l =
    let more : List m.Given = m.given_by at (map connection_is (drop (i + 1) all)) in
    ap (λ (y : List m.Given). y ++ more) l ∙ append_assoc a (m.given_by at (connection_is x ∷ [])) more ∙ ap (λ (y : List m.Given). a ++ y) (sym (given_append at x (drop (i + 1) all)))
    ∙ sym (ap (λ y. a ++ m.given_by at (map connection_is y)) (drop_next all i x h e)) ∙ k

pub given_end : (at : m.Front) (all : List Connection) (i : ℕ) (a w : List m.Given) → length all ≤ i → a ++ m.given_by at (map connection_is (drop i all)) ≡ w → a ≡ w
unfolding m.given_by
given_end at all i a w h k = sym (append-nil a) ∙ sym (ap (λ y. a ++ m.given_by at (map connection_is y)) (drop_none all i h)) ∙ k

-- ---- names of ports

texts_append : (a : List Port) (x : Port) → m.port_texts (a ++ x ∷ []) ≡ m.port_texts a ++ x.name.text ∷ []
unfolding m.port_texts
texts_append [] x = refl
texts_append (y ∷ a) x = ap (λ (n : List Name). y.name.text ∷ n) (texts_append a x)

pub no_texts : [] ≡ m.port_texts []
unfolding m.port_texts
no_texts = refl

pub texts_next : (all : List Port) (i : ℕ) (x : Port) (a b : List (Bor Word)) (w : Bor Word) → i < length all → x ≡ get_or all i x → texts_of a ≡ m.port_texts (take i all) → b ≡ a ++ w ∷ [] → w.now ≡ x.name →
    texts_of b ≡ m.port_texts (take (i + 1) all)
texts_next all i x a b w h e k l n =
    ap texts_of l ∙ map-append (λ (y : Bor Word). y.now.text) a (w ∷ []) ∙ ap (λ (y : List Name). y ++ w.now.text ∷ []) k ∙ ap (λ (y : Word). m.port_texts (take i all) ++ y.text ∷ []) n
    ∙ sym (ap m.port_texts (take_next all i x h e) ∙ texts_append (take i all) x)
