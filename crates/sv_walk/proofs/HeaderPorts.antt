-- The ports of a header.
use Rattle.std.proofs.Common.{◌≡◌, ℕ, ◌+◌, ◌<◌, ◌≤◌, List, [], ◌∷◌, ◌++◌, length, drop, get_or, Bool, true, false, ◌&&◌, Option, Some, None, Result, Ok, Err, refl, sym, ap, ◌∙◌, subst, append_assoc, if◌then◌else◌}
use Rattle.std.specs.Result.{IsErrAnd}
use Rattle.std.specs.Option.{unwrap_or}
use Rattle.sv_outside.specs.declared.refusal.TextErr.{TextErr}
use Rattle.sv_tree.specs.declared.forms.TypeTree.{TypeTree}
use Rattle.sv_names.specs.declared.layout.Layout.{Layout as Coded}
use Rattle.sv_loops.specs.Answers.{Answers}
use Rattle.std.proofs.lemmas.List.{append-nil}
use Rattle.sv_tree.specs.declared.word.Word.{Word}
use Rattle.sv_tree.specs.declared.design.Port.{Port}
use Rattle.sv_tree.specs.declared.design.NetWord.{NetWord as PortKind}
use Rattle.sv_tree.specs.declared.design.Way.{Way}
use Rattle.sv_names.specs.Kinds.{layout_is}
use Rattle.sv_meaning.specs.Faults.{Judged, ◌>>=◌}
use Rattle.sv_meaning.specs.Layouts.{Name, Layout, scalar}
use Rattle.sv_modules.proofs.Turns.{drop_next, drop_none}
use Rattle.sv_hierarchy.specs.Scopes as m
use Rattle.sv_levels.specs.declared.ports.OpenPort.{OpenPort}
use Rattle.sv_levels.specs.Ports.{port_is, one_port}
use Rattle.sv_walk.proofs.Walking.{Ends, handed}

-- ---- the ports of a header

abbrev opened : Name → Way → ℕ → Layout → m.State → m.OpenPort × m.State
opened name d n x s = (record { name = name; way = d; wire = n; layout = x }, s)

abbrev open_after : Name → Way → (Layout × m.State → ℕ) → (Layout × m.State → Judged m.State) → Layout × m.State → Judged (m.OpenPort × m.State)
open_after name d number wired found = wired found >>= λ s. Ok (opened name d (number found) found.0 s)

abbrev before_rest : (List m.OpenPort → List m.OpenPort) → Judged (List m.OpenPort × m.State) → Judged (List m.OpenPort × m.State)
before_rest f j = j >>= λ more. Ok (pair_of (f more.0) more.1)
  where
    pair_of : List m.OpenPort → m.State → List m.OpenPort × m.State
    pair_of a s = (a, s)

-- what stands before the rest is of the port that was opened
by_wire : (k : Judged m.State) (name : Name) (d : Way) (n : ℕ) (x : Layout) (rest : Way → Layout → m.State → Judged (List m.OpenPort × m.State)) →
    (k >>= (λ s. Ok (opened name d n x s)) >>= λ one. before_rest (λ l. one.0 ∷ l) (rest d x one.1)) ≡ (k >>= (λ s. Ok (opened name d n x s)) >>= λ one. before_rest (λ l. one.0 ∷ l) (rest one.0.way one.0.layout one.1))
by_wire (Ok s) name d n x rest = refl
by_wire (Err all) name d n x rest = refl

ports_by : (j : Judged (Layout × m.State)) (wired : Layout × m.State → Judged m.State) (name : Name) (d : Way) (number : Layout × m.State → ℕ) (rest : Way → Layout → m.State → Judged (List m.OpenPort × m.State)) →
    (j >>= λ found. open_after name d number wired found >>= λ one. before_rest (λ l. one.0 ∷ l) (rest d found.0 one.1)) ≡
    (j >>= (λ found. open_after name d number wired found) >>= λ one. before_rest (λ l. one.0 ∷ l) (rest one.0.way one.0.layout one.1))
ports_by (Err all) wired name d number rest = refl
ports_by (Ok found) wired name d number rest = by_wire (wired found) name d (number found) found.0 rest

-- those that are open, and the rest
abbrev pub behind : List m.OpenPort → Judged (List m.OpenPort × m.State) → Judged (List m.OpenPort × m.State)
behind all j = before_rest (λ l. all ++ l) j

header_one : (top : Bool) (d : Way) (x : Layout) (p : Port) (more : List Port) (st : m.State) →
    m.header_ports top d x (p ∷ more) st ≡ (one_port top d x p st >>= λ (one : m.OpenPort × m.State). behind (one.0 ∷ []) (m.header_ports top one.0.way one.0.layout more one.1))
unfolding m.header_ports
header_one top d x p more st =
    ports_by (m.port_form p x st) (λ found. m.add_wire (top && m.is_input (m.or_way p.way d)) found.0 p.name found.1) p.name.text (m.or_way p.way d) (λ found. length found.1.wires) (λ e y s. m.header_ports top e y more s)

behind_more : (all : List m.OpenPort) (one : m.OpenPort) (j : Judged (List m.OpenPort × m.State)) → behind all (behind (one ∷ []) j) ≡ behind (all ++ one ∷ []) j
behind_more all one (Ok more) = λ i. Ok (sym (append_assoc all (one ∷ []) more.0) i, more.1)
behind_more all one (Err why) = refl

pub ports_at : (top : Bool) (d : Way) (x : Layout) (list : List Port) (i : ℕ) (p : Port) (all : List m.OpenPort) (st : m.State) (j : Judged (List m.OpenPort × m.State)) → i < length list → p ≡ get_or list i p →
    j ≡ behind all (m.header_ports top d x (drop i list) st) →
    j ≡ (one_port top d x p st >>= λ (one : m.OpenPort × m.State). behind (all ++ one.0 ∷ []) (m.header_ports top one.0.way one.0.layout (drop (i + 1) list) one.1))
ports_at top d x list i p all st j h e k =
    k ∙ ap (λ l. behind all (m.header_ports top d x l st)) (drop_next list i p h e) ∙ ap (behind all) (header_one top d x p (drop (i + 1) list) st)
    ∙ by_one (one_port top d x p st) (λ one. m.header_ports top one.0.way one.0.layout (drop (i + 1) list) one.1)
  where
    by_one : (o : Judged (m.OpenPort × m.State)) (f : m.OpenPort × m.State → Judged (List m.OpenPort × m.State)) →
        behind all (o >>= λ one. behind (one.0 ∷ []) (f one)) ≡ (o >>= λ one. behind (all ++ one.0 ∷ []) (f one))
    by_one (Ok one) f = behind_more all one.0 (f one)
    by_one (Err why) f = refl

pub ports_next : (top : Bool) (d : Way) (x : Layout) (list : List Port) (i : ℕ) (p : Port) (all : List m.OpenPort) (st : m.State) (j : Judged (List m.OpenPort × m.State)) (one : m.OpenPort) (s : m.State) →
    i < length list → p ≡ get_or list i p → j ≡ behind all (m.header_ports top d x (drop i list) st) → one_port top d x p st ≡ Ok (one, s) →
    j ≡ behind (all ++ one ∷ []) (m.header_ports top one.way one.layout (drop (i + 1) list) s)
ports_next top d x list i p all st j one s h e k o =
    ports_at top d x list i p all st j h e k
    ∙ ap (λ (y : Judged (m.OpenPort × m.State)). y >>= λ z. behind (all ++ z.0 ∷ []) (m.header_ports top z.0.way z.0.layout (drop (i + 1) list) z.1)) o

pub ports_none : (top : Bool) (d : Way) (x : Layout) (list : List Port) (i : ℕ) (all : List m.OpenPort) (st : m.State) (j : Judged (List m.OpenPort × m.State)) → length list ≤ i →
    j ≡ behind all (m.header_ports top d x (drop i list) st) → j ≡ Ok (all, st)
unfolding m.header_ports
ports_none top d x list i all st j h k = k ∙ ap (λ l. behind all (m.header_ports top d x l st)) (drop_none list i h) ∙ λ i. Ok (append-nil all i, st)

pub behind_none : (j : Judged (List m.OpenPort × m.State)) → j ≡ behind [] j
behind_none (Ok more) = refl
behind_none (Err why) = refl

-- ---- one port

pub found_is : {A B : Type 0} (g : B → A) (t : m.State) (j : Judged (A × m.State)) (y : B) → Answers (λ found x. (found.0 ≡ g x) × (found.1 ≡ t)) j (Ok y) → j ≡ Ok (g y, t)
found_is g t (Ok x) y h = λ i. Ok (h.0 i, h.1 i)
found_is g t (Err all) y h = absurd h

pub finds : {A B : Type 0} (g : B → A) (t : m.State) (j : Judged (A × m.State)) (y : B) → j ≡ Ok (g y, t) → Answers (λ found x. (found.0 ≡ g x) × (found.1 ≡ t)) j (Ok y)
finds g t j y e = subst (λ k. Answers (λ found x. (found.0 ≡ g x) × (found.1 ≡ t)) k (Ok y)) (sym e) (refl, refl)

pub form_refused : (top : Bool) (d : Way) (x : Layout) (p : Port) (s t u : m.State) (y : Result Coded TextErr) (e : TextErr) (z : Result OpenPort TextErr) → y ≡ Err e →
    Answers (λ found l. (found.0 ≡ layout_is l) × (found.1 ≡ t)) (m.port_form p x s) y → IsErrAnd z (λ w. w ≡ e) → Answers (λ found o. (found.0 ≡ port_is o) × (found.1 ≡ u)) (one_port top d x p s) z
form_refused top d x p s t u y e z h k i =
    handed (λ found l. (found.0 ≡ layout_is l) × (found.1 ≡ t)) (λ found o. (found.0 ≡ port_is o) × (found.1 ≡ u)) (m.port_form p x s) (λ found. m.add_port top (m.or_way p.way d) found.0 p.name found.1) y e z h k i

one_is : (top : Bool) (d e : Way) (x l : Layout) (p : Port) (s t : m.State) → m.port_form p x s ≡ Ok (l, t) → e ≡ m.or_way p.way d →
    one_port top d x p s ≡ (m.add_wire (top && m.is_input e) l p.name t >>= λ v. Ok (opened p.name.text e (length t.wires) l v))
one_is top d e x l p s t h k =
    ap (λ j. j >>= λ found. m.add_port top (m.or_way p.way d) found.0 p.name found.1) h ∙ ap (λ (w : Way). m.add_wire (top && m.is_input w) l p.name t >>= λ v. Ok (opened p.name.text w (length t.wires) l v)) (sym k)

pub wire_refused : (top b : Bool) (d e : Way) (x : Layout) (l : Coded) (p : Port) (s t q u : m.State) (y : Result (Unit {0}) TextErr) (why : TextErr) (z : Result OpenPort TextErr) →
    Answers (λ found c. (found.0 ≡ layout_is c) × (found.1 ≡ t)) (m.port_form p x s) (Ok l) → e ≡ m.or_way p.way d → b ≡ (top && m.is_input e) → y ≡ Err why → Ends q (m.add_wire b (layout_is l) p.name t) y →
    IsErrAnd z (λ w. w ≡ why) → Answers (λ found o. (found.0 ≡ port_is o) × (found.1 ≡ u)) (one_port top d x p s) z
wire_refused top b d e x l p s t q u y why z h k i a c f =
    subst (λ j. Answers (λ found o. (found.0 ≡ port_is o) × (found.1 ≡ u)) j z) (sym (one_is top d e x (layout_is l) p s t (found_is layout_is t (m.port_form p x s) l h) k))
    (handed (λ st v. st ≡ q) (λ found o. (found.0 ≡ port_is o) × (found.1 ≡ u)) (m.add_wire (top && m.is_input e) (layout_is l) p.name t) (λ v. Ok (opened p.name.text e (length t.wires) (layout_is l) v)) y why z a
    (subst (λ (r : Bool). Ends q (m.add_wire r (layout_is l) p.name t) y) i c) f)

pub port_opened : (top b : Bool) (d e : Way) (x : Layout) (l : Coded) (p : Port) (s t u : m.State) (o : OpenPort) → Answers (λ found c. (found.0 ≡ layout_is c) × (found.1 ≡ t)) (m.port_form p x s) (Ok l) →
    e ≡ m.or_way p.way d → b ≡ (top && m.is_input e) → m.add_wire b (layout_is l) p.name t ≡ Ok u → port_is o ≡ record { name = p.name.text; way = e; wire = length t.wires; layout = layout_is l } →
    Answers (λ found o. (found.0 ≡ port_is o) × (found.1 ≡ u)) (one_port top d x p s) (Ok o)
port_opened top b d e x l p s t u o h k i a c =
    finds port_is u (one_port top d x p s) o
    (one_is top d e x (layout_is l) p s t (found_is layout_is t (m.port_form p x s) l h) k
    ∙ ap (λ (r : Bool). m.add_wire r (layout_is l) p.name t >>= λ v. Ok (opened p.name.text e (length t.wires) (layout_is l) v)) (sym i)
    ∙ ap (λ (j : Judged m.State). j >>= λ v. Ok (opened p.name.text e (length t.wires) (layout_is l) v)) a ∙ λ n. Ok (sym c n, u))

pub one_refused : {D : Type 0} (k : List m.OpenPort × m.State → D → Type 0) (top : Bool) (d : Way) (x : Layout) (list : List Port) (i : ℕ) (p : Port) (all : List m.OpenPort) (st t : m.State) (j : Judged (List m.OpenPort × m.State))
    (y : Result OpenPort TextErr) (e : TextErr) (z : Result D TextErr) → i < length list → p ≡ get_or list i p → j ≡ behind all (m.header_ports top d x (drop i list) st) → y ≡ Err e →
    Answers (λ found o. (found.0 ≡ port_is o) × (found.1 ≡ t)) (one_port top d x p st) y → IsErrAnd z (λ w. w ≡ e) → Answers k j z
one_refused k top d x list i p all st t j y e z h g f a b c =
    subst (λ n. Answers k n z) (sym (ports_at top d x list i p all st j h g f))
    (handed (λ found o. (found.0 ≡ port_is o) × (found.1 ≡ t)) k (one_port top d x p st) (λ one. behind (all ++ one.0 ∷ []) (m.header_ports top one.0.way one.0.layout (drop (i + 1) list) one.1)) y e z a b c)

pub unwrapped : (o : Option Way) (d : Way) → unwrap_or o d ≡ m.or_way o d
unwrapped None d = refl
unwrapped (Some w) d = refl

-- ---- the form of a port

abbrev form_after : Option TypeTree → m.State → Judged (Layout × m.State)
form_after None s = Ok (scalar false, s)
form_after (Some t) s = m.formed t s

form_of : (w : Option Way) (k : Option PortKind) (f : Option TypeTree) (n : Word) (x : Layout) (s : m.State) → let p : Port = record { way = w; kind = k; form = f; name = n } in
    m.port_form p x s ≡ (if m.is_bare p then Ok (x, s) else form_after f s)
form_of w k None n x s = refl
form_of w k (Some t) n x s = refl

form_by : (b : Bool) (p : Port) (x : Layout) (s : m.State) → m.is_bare p ≡ b → m.port_form p x s ≡ (if b then Ok (x, s) else form_after p.form s)
form_by b p x s e = form_of p.way p.kind p.form p.name x s ∙ ap (λ t. if t then Ok (x, s) else form_after p.form s) e

pub bare_form : (p : Port) (x : Layout) (s : m.State) → m.is_bare p ≡ true → m.port_form p x s ≡ Ok (x, s)
bare_form p x s e = form_by true p x s e

pub typed_form : (p : Port) (x : Layout) (s : m.State) (t : TypeTree) → m.is_bare p ≡ false → p.form ≡ Some t → m.port_form p x s ≡ m.formed t s
typed_form p x s t e f = form_by false p x s e ∙ ap (λ o. form_after o s) f

pub bit_form : (p : Port) (x : Layout) (s : m.State) → m.is_bare p ≡ false → p.form ≡ None → m.port_form p x s ≡ Ok (scalar false, s)
bit_form p x s e f = form_by false p x s e ∙ ap (λ o. form_after o s) f
