-- Members of structures, type by type.
use Rattle.std.proofs.Common.{◌≡◌, ℕ, zero, suc, ◌+◌, ◌≤◌, ◌<◌, List, [], ◌∷◌, ◌++◌, length, drop, get_or, Ok, Err, refl, sym, ap, ◌∙◌, arith, append_assoc}
use Rattle.std.proofs.lemmas.List.{map-append, append-nil}
use Rattle.std.proofs.Math.Seq.{drop-cons, drop-nil}
use Rattle.sv_outside.specs.declared.refusal.TextErr.{TextErr}
use Rattle.sv_tree.specs.declared.word.Word.{Word}
use Rattle.sv_tree.specs.declared.forms.TypeTree.{TypeTree}
use Rattle.sv_tree.specs.declared.forms.Member.{Member}
use Rattle.sv_tree.specs.declared.forms.Member.TheVariants as member
use Rattle.sv_meaning.specs.Faults.{Judged, provided, ◌>>=◌}
use Rattle.sv_meaning.specs.Layouts as m
use Rattle.sv_meaning.specs.Forms as f
use Rattle.sv_names.specs.declared.layout.Layout.{Layout}
use Rattle.sv_names.specs.declared.layout.Field.{Field}
use Rattle.sv_names.specs.declared.names.Names.{Names}
use Rattle.sv_names.specs.Kinds.{layout_is, members_of}
use Rattle.sv_types.specs.declared.enumerators.Enumerator.{Enumerator}
use Rattle.sv_types.specs.declared.forms.Listed.{Listed}
use Rattle.sv_types.specs.Types.{Refused, declared_is, all_declared, field_names, fields_of, forms_of, joined_form, IsListed, IsJoined}
use Rattle.sv_types.proofs.Above.{with_none, with_both}
use Rattle.sv_types.proofs.Judging.{then_err, refused_as}
use Rattle.sv_types.proofs.Membership.{chained, members_append}
use Rattle.sv_types.proofs.Trees.{forms_more}

-- ---- members of one type

abbrev pub Found : Type 0
Found = m.Members × List f.Declared

-- what comes behind members
abbrev pub behind : m.Members → List f.Declared → Judged Found → Judged Found
behind a done j = j >>= λ r. Ok (chained a r.0, done ++ r.1)

-- members of these names, and what comes behind them
abbrev pub then_members : m.Scope → List m.Name → ℕ → List Word → List Member → f.Formed → Judged Found
then_members at used bits words rest y = forms_of (m.with_names at (f.entries_of y.1)) (used ++ f.texts_of words) (bits + f.bits_of words (m.width y.0)) rest >>= λ r. Ok (f.members_of words y.0 r.0, y.1 ++ r.1)

then_twice : {A B C : Type 0} (j : Judged A) (g : A → Judged B) (h : B → Judged C) → (j >>= λ x. g x >>= h) ≡ ((j >>= g) >>= h)
then_twice (Ok x) g h = refl
then_twice (Err all) g h = refl

forms_joined : (at : m.Scope) (x : Listed) (t : TypeTree) (words : List Word) (rest : List Member) →
    forms_of at (field_names x.fields) x.bits (member.Of t words ∷ rest) ≡ (joined_form (f.form at t) x words >>= then_members at (field_names x.fields) x.bits words rest)
forms_joined at x t words rest =
    forms_more at (field_names x.fields) x.bits t words rest
    ∙ then_twice (f.form at t) (λ y. provided (f.member_faults (field_names x.fields) x.bits y.0 words) y) (then_members at (field_names x.fields) x.bits words rest)

chained_twice : (a b c : m.Members) → chained (chained a b) c ≡ chained a (chained b c)
unfolding chained
chained_twice m.no_members b c = refl
chained_twice (m.member n x a) b c = ap (m.member n x) (chained_twice a b c)

named_members : (words : List Word) (x : Layout) (rest : m.Members) → f.members_of words (layout_is x) rest ≡ chained (members_of (fields_of x words)) rest
unfolding f.members_of chained
named_members [] x rest = refl
named_members (w ∷ words) x rest = ap (m.member w.text (layout_is x)) (named_members words x rest)

names_of_fields : (words : List Word) (x : Layout) → field_names (fields_of x words) ≡ f.texts_of words
names_of_fields [] x = refl
names_of_fields (w ∷ words) x = ap (λ z. w.text ∷ z) (names_of_fields words x)

bits_of_fields : (words : List Word) (x : Layout) → m.width_all (members_of (fields_of x words)) ≡ f.bits_of words (m.width (layout_is x))
unfolding f.bits_of
bits_of_fields [] x = refl
bits_of_fields (w ∷ words) x = ap (λ z. m.width (layout_is x) + z) (bits_of_fields words x)

width_chained : (a b : m.Members) → m.width_all (chained a b) ≡ m.width_all a + m.width_all b
unfolding chained
width_chained m.no_members b = omega arith
width_chained (m.member n x a) b = let e = width_chained a b in omega arith

-- ---- what is gathered so far

abbrev pub Gathers : m.Scope → List Member → Listed → List Member → Type 0
Gathers at all x rest = forms_of at [] 0 all ≡ behind (members_of x.fields) (all_declared x.declared) (forms_of (m.with_names at (f.entries_of (all_declared x.declared))) (field_names x.fields) x.bits rest)

behind_nothing : (j : Judged Found) → behind m.no_members [] j ≡ j
unfolding chained
behind_nothing (Ok x) = refl
behind_nothing (Err all) = refl

behind_more : (a b : m.Members) (d e : List f.Declared) (j : Judged Found) → behind a d (j >>= λ r. Ok (chained b r.0, e ++ r.1)) ≡ behind (chained a b) (d ++ e) j
behind_more a b d e (Ok r) = ap Ok (λ i. (sym (chained_twice a b r.0) i, sym (append_assoc d e r.1) i))
behind_more a b d e (Err all) = refl

pub gathers_begin : (at : m.Scope) (all : List Member) (x : Listed) → x.fields ≡ [] → x.bits ≡ 0 → x.declared ≡ [] → Gathers at all x all
gathers_begin at all x f0 b0 d0 =
    sym (ap (λ (z : List Field). behind (members_of z) (all_declared x.declared) (forms_of (m.with_names at (f.entries_of (all_declared x.declared))) (field_names z) x.bits all)) f0
    ∙ ap (λ (z : ℕ). behind m.no_members (all_declared x.declared) (forms_of (m.with_names at (f.entries_of (all_declared x.declared))) [] z all)) b0
    ∙ ap (λ (z : List Enumerator). behind m.no_members (all_declared z) (forms_of (m.with_names at (f.entries_of (all_declared z))) [] 0 all)) d0
    ∙ behind_nothing (forms_of (m.with_names at []) [] 0 all) ∙ ap (λ (z : m.Scope). forms_of z [] 0 all) (with_none at))

split : (all : List Member) (i : ℕ) (x : Member) → i < length all → x ≡ get_or all i x → drop i all ≡ x ∷ drop (suc i) all
split all i x h e = drop-cons all i x h ∙ ap (λ (z : Member). z ∷ drop (suc i) all) (sym e)

declared_both : (a b : List Enumerator) → all_declared (a ++ b) ≡ all_declared a ++ all_declared b
declared_both a b = map-append declared_is a b

scope_both : (at : m.Scope) (a b : List Enumerator) → m.with_names (m.with_names at (f.entries_of (all_declared a))) (f.entries_of (all_declared b)) ≡ m.with_names at (f.entries_of (all_declared (a ++ b)))
scope_both at a b =
    with_both at (f.entries_of (all_declared a)) (f.entries_of (all_declared b))
    ∙ ap (m.with_names at) (sym (ap f.entries_of (declared_both a b) ∙ map-append f.entry_of (all_declared a) (all_declared b)))

then_named : (at : m.Scope) (used : List m.Name) (bits : ℕ) (words : List Word) (rest : List Member) (x : Layout) (d : List f.Declared) →
    then_members at used bits words rest (layout_is x, d) ≡ (forms_of (m.with_names at (f.entries_of d)) (used ++ f.texts_of words) (bits + f.bits_of words (m.width (layout_is x))) rest >>= λ r. Ok (chained (members_of (fields_of x words)) r.0, d ++ r.1))
then_named at used bits words rest x d =
    ap (λ (g : Found → Judged Found). forms_of (m.with_names at (f.entries_of d)) (used ++ f.texts_of words) (bits + f.bits_of words (m.width (layout_is x))) rest >>= g) (λ i r. Ok (named_members words x r.0 i, d ++ r.1))

next_fields : (x next : Listed) (layout : Layout) (words : List Word) → next.fields ≡ x.fields ++ fields_of layout words → members_of next.fields ≡ chained (members_of x.fields) (members_of (fields_of layout words))
next_fields x next layout words e = ap members_of e ∙ members_append x.fields (fields_of layout words)

next_names : (x next : Listed) (layout : Layout) (words : List Word) → next.fields ≡ x.fields ++ fields_of layout words → field_names next.fields ≡ field_names x.fields ++ f.texts_of words
next_names x next layout words e = ap field_names e ∙ map-append (λ (y : Field). y.name) x.fields (fields_of layout words) ∙ ap (λ z. field_names x.fields ++ z) (names_of_fields words layout)

next_bits : (x next : Listed) (layout : Layout) (words : List Word) → IsListed x → IsListed next → next.fields ≡ x.fields ++ fields_of layout words → next.bits ≡ x.bits + f.bits_of words (m.width (layout_is layout))
next_bits x next layout words h k e =
    let g = ap m.width_all (next_fields x next layout words e) ∙ width_chained (members_of x.fields) (members_of (fields_of layout words)) in
    let b = bits_of_fields words layout in
    let i = h.bits in
    let j = k.bits in
    omega arith

pub gathers_go : (at : m.Scope) (all : List Member) (i j : ℕ) (x next : Listed) (c : Member) (t : TypeTree) (words : List Word) (old new : Names) → i < length all → j ≡ suc i → c ≡ get_or all i c → c ≡ member.Of t words → IsListed x →
    IsJoined (f.form (m.with_names at (f.entries_of (all_declared x.declared))) t) old new x words next → Gathers at all x (drop i all) → Gathers at all next (drop j all)
gathers_go at all i j x next c t words old new lt ji g e l h k =
    let here = m.with_names at (f.entries_of (all_declared x.declared)) in
    let rest = drop (suc i) all in
    let nf = next_fields x next h.layout words h.fields in
    let nn = next_names x next h.layout words h.fields in
    let nb = next_bits x next h.layout words l h.listed h.fields in
    let nd : all_declared next.declared ≡ all_declared x.declared ++ all_declared h.more = ap all_declared h.declared ∙ declared_both x.declared h.more in
    let ns : m.with_names here (f.entries_of (all_declared h.more)) ≡ m.with_names at (f.entries_of (all_declared next.declared)) = scope_both at x.declared h.more ∙ ap (λ (z : List Enumerator). m.with_names at (f.entries_of (all_declared z))) (sym h.declared) in
    k
    ∙ ap (λ (z : List Member). behind (members_of x.fields) (all_declared x.declared) (forms_of here (field_names x.fields) x.bits z)) (split all i c lt g ∙ ap (λ (z : Member). z ∷ rest) e)
    ∙ ap (behind (members_of x.fields) (all_declared x.declared)) (forms_joined here x t words rest)
    ∙ ap (λ (z : Judged f.Formed). behind (members_of x.fields) (all_declared x.declared) (z >>= then_members here (field_names x.fields) x.bits words rest)) h.is
    ∙ ap (behind (members_of x.fields) (all_declared x.declared)) (then_named here (field_names x.fields) x.bits words rest h.layout (all_declared h.more))
    ∙ behind_more (members_of x.fields) (members_of (fields_of h.layout words)) (all_declared x.declared) (all_declared h.more) (forms_of (m.with_names here (f.entries_of (all_declared h.more))) (field_names x.fields ++ f.texts_of words) (x.bits + f.bits_of words (m.width (layout_is h.layout))) rest)
    ∙ (λ k. behind (sym nf k) (sym nd k) (forms_of (ns k) (sym nn k) (sym nb k) rest))
    ∙ ap (λ (z : ℕ). behind (members_of next.fields) (all_declared next.declared) (forms_of (m.with_names at (f.entries_of (all_declared next.declared))) (field_names next.fields) next.bits (drop z all))) (sym ji)

pub gathers_refused : (at : m.Scope) (all : List Member) (i : ℕ) (x : Listed) (c : Member) (t : TypeTree) (words : List Word) (e : TextErr) → i < length all → c ≡ get_or all i c → c ≡ member.Of t words →
    Refused (joined_form (f.form (m.with_names at (f.entries_of (all_declared x.declared))) t) x words) e → Gathers at all x (drop i all) → Refused (forms_of at [] 0 all) e
gathers_refused at all i x c t words e lt g d h k =
    let here = m.with_names at (f.entries_of (all_declared x.declared)) in
    let rest = drop (suc i) all in
    refused_as _ _ e
    (k ∙ ap (λ (z : List Member). behind (members_of x.fields) (all_declared x.declared) (forms_of here (field_names x.fields) x.bits z)) (split all i c lt g ∙ ap (λ (z : Member). z ∷ rest) d)
    ∙ ap (behind (members_of x.fields) (all_declared x.declared)) (forms_joined here x t words rest))
    (then_err (joined_form (f.form here t) x words >>= then_members here (field_names x.fields) x.bits words rest) _ e (then_err (joined_form (f.form here t) x words) _ e h))

drop_none : (all : List Member) (i : ℕ) → length all ≤ i → drop i all ≡ []
drop_none [] i h = drop-nil i
drop_none (r ∷ all) zero h = absurd (omega arith)
drop_none (r ∷ all) (suc i) h = drop_none all i (omega arith)

chained_none : (a : m.Members) → chained a m.no_members ≡ a
unfolding chained
chained_none m.no_members = refl
chained_none (m.member n x a) = ap (m.member n x) (chained_none a)

forms_none : (at : m.Scope) (used : List m.Name) (bits : ℕ) → forms_of at used bits [] ≡ Ok (m.no_members, [])
unfolding forms_of
forms_none at used bits = refl

pub gathers_end : (at : m.Scope) (all : List Member) (i : ℕ) (x : Listed) → length all ≤ i → Gathers at all x (drop i all) → forms_of at [] 0 all ≡ Ok (members_of x.fields, all_declared x.declared)
gathers_end at all i x lt k =
    let here = m.with_names at (f.entries_of (all_declared x.declared)) in
    k ∙ ap (λ (z : List Member). behind (members_of x.fields) (all_declared x.declared) (forms_of here (field_names x.fields) x.bits z)) (drop_none all i lt)
    ∙ ap (behind (members_of x.fields) (all_declared x.declared)) (forms_none here (field_names x.fields) x.bits)
    ∙ ap Ok (λ i. (chained_none (members_of x.fields) i, append-nil (all_declared x.declared) i))
