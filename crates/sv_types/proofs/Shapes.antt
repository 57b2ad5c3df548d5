-- Types by their productions.
use Rattle.std.proofs.Common.{◌≡◌, ℕ, suc, min, ◌≤◌, Bool, true, false, List, [], ◌∷◌, ◌++◌, map, pos, Result, Ok, Err, Option, IfOk, All, not, nat_lt, eqb, length, refl, sym, ap, ◌∙◌, subst, arith}
use Rattle.std.proofs.lemmas.List.{map-append}
use Rattle.std.proofs.lemmas.Bool.{false≢true}
use Rattle.std.proofs.lemmas.Bool.Decides.{nat_tests}
use Rattle.std.specs.List.{AllByRecursion}
use Rattle.std.proofs.lemmas.List.Elements.{All-from_recursion, recursion_from_All}
use Rattle.sv_outside.specs.declared.refusal.TextErr.{TextErr}
use Rattle.sv_outside.specs.declared.refusal.TextErr.TheVariants.{No}
use Rattle.sv_tree.specs.declared.word.Word.{Word}
use Rattle.sv_tree.specs.declared.exprs.Sign.{Sign}
use Rattle.sv_tree.specs.declared.forms.BitsWord.{BitsWord}
use Rattle.sv_tree.specs.declared.forms.Range.{Range}
use Rattle.sv_tree.specs.declared.forms.EnumLabel.{EnumLabel}
use Rattle.sv_tree.specs.declared.forms.TypeTree.{TypeTree}
use Rattle.sv_tree.specs.declared.forms.TypeTree.TheVariants as t
use Rattle.sv_tree.specs.declared.forms.Member.{Member}
use Rattle.sv_meaning.specs.Faults.{Faults, Judged, provided, ◌>>=◌, bad_width}
use Rattle.sv_meaning.specs.Meanings.{nowhere_in_text}
use Rattle.sv_meaning.specs.Layouts as m
use Rattle.sv_meaning.specs.Forms as f
use Rattle.sv_names.specs.declared.layout.Layout.{Layout}
use Rattle.sv_names.specs.declared.layout.Field.{Field}
use Rattle.sv_names.specs.declared.layout.Form.TheVariants as form
use Rattle.sv_names.specs.declared.layout.Form.TheBlock.{shape-the_row-Field-1, hidden-the_row-Field-1, shape-the_row-Form-Members-0-1-2, hidden-the_row-Form-Members-0-1-2}
use Rattle.sv_names.specs.declared.names.Names.{Names}
use Rattle.sv_names.specs.Kinds.{layout_is, form_is, members_of, IsSound, FormIsSound, FieldIsSound, MembersAreSound}
use Rattle.sv_typing.specs.Judging.{IsCause}
use Rattle.sv_typing.proofs.Lists.{in_fault, no_fault}
use Rattle.sv_names.specs.Names.{constants_are}
use Rattle.sv_names.proofs.Sound.{sound_is, row_members}
use Rattle.sv_types.specs.declared.enumerators.Enumerator.{Enumerator}
use Rattle.sv_types.specs.declared.forms.Formed.{Formed}
use Rattle.sv_types.specs.declared.forms.Listed.{Listed}
use Rattle.sv_types.specs.Types.{Refused, Left, IsLeft, IsAbove, pushed, all_declared, IsLayout, JudgesLayout, AreLabels, JudgesLabels, IsListed, AreMembers, JudgesMembers, AreFields, fields_of, field_names, joined_form, IsJoined, Forms, IsForm, alone_form, enum_form, struct_of, struct_form, forms_of, JudgesForm, layout_part}
use Rattle.sv_types.proofs.Judging.{then_ok, then_err, refused_as, provided_ok, provided_err}
use Rattle.sv_types.proofs.Above.{above_names, above_then, left_then}
use Rattle.sv_types.proofs.Trees.{form_vector, form_integer, form_named, form_enum, form_struct}

-- ---- structures

row_sound : (all : List Field) → AllByRecursion FieldIsSound all → MembersAreSound (hidden-the_row-Field-1 all)
unfolding shape-the_row-Field-1 hidden-the_row-Field-1 denote.Hole.Carrier.hidden
row_sound [] h = h
row_sound (x ∷ all) h = (h.0, row_sound all h.1)

-- a structure of shared members, which are those that were given
module _ (s : Bool) (all given : List Field) (same : all ≡ given) where
  pub structure_is : form_is s (form.Members all) ≡ m.struct s (members_of given)
  unfolding shape-the_row-Field-1 hidden-the_row-Field-1 shape-the_row-Form-Members-0-1-2 hidden-the_row-Form-Members-0-1-2 denote.Hole.Carrier.hidden
  structure_is = ap (m.struct s) (row_members all ∙ ap members_of same)

  pub structure_sound : (w d : ℕ) → All FieldIsSound given → w ≡ m.width_all (members_of given) → 1 ≤ w → w ≤ 128 → d ≡ min 1000 (suc (m.deepest (members_of given))) → FormIsSound w s d (form.Members all)
  unfolding m.depth shape-the_row-Field-1 hidden-the_row-Field-1 shape-the_row-Form-Members-0-1-2 hidden-the_row-Form-Members-0-1-2 denote.Hole.Carrier.hidden
  structure_sound w d h e some most deep =
      let members = sym (row_members all ∙ ap members_of same) in
      (((e ∙ ap m.width_all members, some, most), deep ∙ ap (λ (z : m.Members). min 1000 (suc (m.deepest z))) members), row_sound all (recursion_from_All FieldIsSound all (subst (All FieldIsSound) (sym same) h)))

some_bits : (all : m.Members) (n : ℕ) → n ≡ m.width_all all → 1 ≤ n → f.some_member all ≡ []
some_bits all n e h = no_fault _ bad_width nowhere_in_text (ap not (is_some (m.width_all all) (subst (λ (k : ℕ). 1 ≤ k) e h)))
  where
    is_some : (k : ℕ) → 1 ≤ k → nat_lt 0 k ≡ true
    is_some k l = grind (arith, nat_tests)

no_bits : (all : m.Members) (n : ℕ) → n ≡ m.width_all all → n ≡ 0 → IsCause (f.some_member all) (No (record { number = bad_width; place = nowhere_in_text; count = 0 }))
no_bits all n e h = in_fault _ bad_width nowhere_in_text (ap not (ap (nat_lt 0) (sym e ∙ h)))

pub struct_none : (at : m.Scope) (s : Bool) (ranges : List Range) (all : m.Members) (n : ℕ) → n ≡ m.width_all all → n ≡ 0 → Refused (struct_of at s ranges all) (No (record { number = bad_width; place = nowhere_in_text; count = 0 }))
struct_none at s ranges all n e h =
    let why : TextErr = No (record { number = bad_width; place = nowhere_in_text; count = 0 }) in
    then_err (provided (f.some_member all) all) (f.struct_layout at s ranges) why (provided_err (f.some_member all) all why (no_bits all n e h))

struct_some : (at : m.Scope) (s : Bool) (ranges : List Range) (all : m.Members) (n : ℕ) → n ≡ m.width_all all → 1 ≤ n → struct_of at s ranges all ≡ f.struct_layout at s ranges all
struct_some at s ranges all n e h = ap (λ z. z >>= f.struct_layout at s ranges) (provided_ok (f.some_member all) all (some_bits all n e h))

pub struct_plain : (at : m.Scope) (s : Bool) (ranges : List Range) (all : m.Members) (n : ℕ) (x : Layout) → n ≡ m.width_all all → 1 ≤ n → ranges ≡ [] → layout_is x ≡ m.struct s all → IsSound x → IsLayout (struct_of at s ranges all) x
struct_plain at s ranges all n x w l e i h = record { is = struct_some at s ranges all n w l ∙ ap (λ (z : List Range). f.struct_layout at s z all) e ∙ ap Ok (sym i); sound = h }

pub not_empty : (all : List Range) → false ≡ eqb (length all) 0 → all ≡ [] → ⊥
not_empty all h e = false≢true (h ∙ ap (λ (z : List Range). eqb (length z) 0) e)

over_some : (at : m.Scope) (s : Bool) (ranges : List Range) (all : m.Members) (x : Layout) (r : Result Layout TextErr) → (ranges ≡ [] → ⊥) → layout_is x ≡ m.struct false all → JudgesLayout (f.over_ranges at s ranges (layout_is x)) r → JudgesLayout (f.struct_layout at s ranges all) r
over_some at s [] all x r n e h = absurd (n refl)
over_some at s (q ∷ ranges) all x r n e h = subst (λ z. JudgesLayout (f.over_ranges at s (q ∷ ranges) z) r) e h

pub struct_ranges : (at : m.Scope) (s : Bool) (ranges : List Range) (all : m.Members) (n : ℕ) (x : Layout) (r : Result Layout TextErr) → n ≡ m.width_all all → 1 ≤ n → (ranges ≡ [] → ⊥) → layout_is x ≡ m.struct false all → JudgesLayout (f.over_ranges at s ranges (layout_is x)) r → JudgesLayout (struct_of at s ranges all) r
struct_ranges at s ranges all n x r w l some e h = subst (λ z. JudgesLayout z r) (sym (struct_some at s ranges all n w l)) (over_some at s ranges all x r some e h)

-- a layout with the constants that the types of its members declare
abbrev with_constants : List f.Declared → m.Layout → Judged f.Formed
with_constants more x = Ok (x, more)

struct_found : (why : Faults) (all : m.Members) (more : List f.Declared) (layout : List f.Declared → m.Members → Judged m.Layout) →
    (provided why (all, more) >>= λ (found : m.Members × List f.Declared). layout found.1 found.0 >>= with_constants found.1) ≡ ((provided why all >>= layout more) >>= with_constants more)
struct_found [] all more layout = refl
struct_found (x ∷ why) all more layout = refl

struct_formed : (j : Judged (m.Members × List f.Declared)) (at now : Names) (s : Bool) (ranges : List Range) (l : Listed) → AreMembers j at now l →
    struct_form (constants_are at) s ranges j ≡ (struct_of (constants_are now) s ranges (members_of l.fields) >>= with_constants (all_declared l.declared))
struct_formed j at now s ranges l h =
    ap (λ (z : Judged (m.Members × List f.Declared)). struct_form (constants_are at) s ranges z) h.is
    ∙ struct_found (f.some_member (members_of l.fields)) (members_of l.fields) (all_declared l.declared) (λ (more : List f.Declared). f.struct_layout (m.with_names (constants_are at) (f.entries_of more)) s ranges)
    ∙ ap (λ (z : m.Scope). struct_of z s ranges (members_of l.fields) >>= with_constants (all_declared l.declared)) (sym (above_names at now l.declared h.names))

pub struct_ok : (j : Judged (m.Members × List f.Declared)) (at now : Names) (s : Bool) (ranges : List Range) (l : Listed) (x : Formed) → AreMembers j at now l → IsLayout (struct_of (constants_are now) s ranges (members_of l.fields)) x.layout → x.declared ≡ l.declared →
    IsForm (struct_form (constants_are at) s ranges j) at now x
struct_ok j at now s ranges l x h k e = record {
  is =
      struct_formed j at now s ranges l h
      ∙ ap (λ (z : Judged m.Layout). z >>= with_constants (all_declared l.declared)) k.is
      ∙ ap (λ (z : List Enumerator). Ok (layout_is x.layout, all_declared z)) (sym e);
  names = subst (λ (z : List Enumerator). IsAbove at now (map pushed z)) (sym e) h.names;
  sound = k.sound;
}

pub struct_refused : (j : Judged (m.Members × List f.Declared)) (at now : Names) (s : Bool) (ranges : List Range) (l : Listed) (e : TextErr) → AreMembers j at now l → Refused (struct_of (constants_are now) s ranges (members_of l.fields)) e →
    IsLeft (struct_form (constants_are at) s ranges j) at now e
struct_refused j at now s ranges l e h k = record {
  cause = refused_as (struct_form (constants_are at) s ranges j) _ e (struct_formed j at now s ranges l h) (then_err (struct_of (constants_are now) s ranges (members_of l.fields)) (with_constants (all_declared l.declared)) e k);
  left = (map pushed l.declared, h.names);
}

pub members_of_result : (j : Judged (m.Members × List f.Declared)) (at now : Names) (r : Result Listed TextErr) (l : Listed) → r ≡ Ok l → JudgesMembers j at now r → AreMembers j at now l
members_of_result j at now r l e h = subst (JudgesMembers j at now) e h

-- ---- enumerations

pub enum_ok : (at new : Names) (s : Bool) (o : Option Range) (all : List EnumLabel) (x : Formed) → IsLayout (f.vector_layout (constants_are at) s (f.option_to_list o)) x.layout → AreLabels (f.labels (constants_are at) x.layout.width s (pos 0) all) at new x.declared → IsForm (enum_form (constants_are at) s o all) at new x
enum_ok at new s o all x h k =
    let w = sound_is x.layout h.sound in
    record {
      is =
          ap (λ (z : Judged m.Layout). z >>= λ (base : m.Layout). f.labels (constants_are at) (m.width base) s (pos 0) all >>= λ (found : List f.Declared). Ok (base, found)) h.is
          ∙ ap (λ (z : ℕ). f.labels (constants_are at) z s (pos 0) all >>= λ (found : List f.Declared). Ok (layout_is x.layout, found)) (sym w)
          ∙ ap (λ (z : Judged (List f.Declared)). z >>= λ (found : List f.Declared). Ok (layout_is x.layout, found)) k.is;
      names = k.names;
      sound = h.sound;
    }

pub enum_refused : (at new : Names) (s : Bool) (o : Option Range) (all : List EnumLabel) (x : Layout) (e : TextErr) → IsLayout (f.vector_layout (constants_are at) s (f.option_to_list o)) x → IsLeft (f.labels (constants_are at) x.width s (pos 0) all) at new e → IsLeft (enum_form (constants_are at) s o all) at new e
enum_refused at new s o all x e h k =
    let w = sound_is x h.sound in
    record {
      cause = refused_as (enum_form (constants_are at) s o all) (f.labels (constants_are at) x.width s (pos 0) all >>= λ (found : List f.Declared). Ok (layout_is x, found)) e
          (ap (λ (z : Judged m.Layout). z >>= λ (base : m.Layout). f.labels (constants_are at) (m.width base) s (pos 0) all >>= λ (found : List f.Declared). Ok (base, found)) h.is
          ∙ ap (λ (z : ℕ). f.labels (constants_are at) z s (pos 0) all >>= λ (found : List f.Declared). Ok (layout_is x, found)) (sym w))
          (then_err (f.labels (constants_are at) x.width s (pos 0) all) (λ (found : List f.Declared). Ok (layout_is x, found)) e k.cause);
      left = k.left;
    }

pub labels_of_result : (j : Judged (List f.Declared)) (at now : Names) (r : Result (List Enumerator) TextErr) (l : List Enumerator) → r ≡ Ok l → JudgesLabels j at now r → AreLabels j at now l
labels_of_result j at now r l e h = subst (JudgesLabels j at now) e h

pub labels_refused : (j : Judged (List f.Declared)) (at now : Names) (r : Result (List Enumerator) TextErr) (e : TextErr) → r ≡ Err e → JudgesLabels j at now r → IsLeft j at now e
labels_refused j at now r e k h = subst (JudgesLabels j at now) k h

-- ---- members of one type more

pub form_of_result : (j : Judged f.Formed) (at now : Names) (r : Result Formed TextErr) (x : Formed) → r ≡ Ok x → Forms j at now r → IsForm j at now x
form_of_result j at now r x e h = subst (Forms j at now) e h

pub form_refused : (j : Judged f.Formed) (at now : Names) (r : Result Formed TextErr) (e : TextErr) → r ≡ Err e → Forms j at now r → IsLeft j at now e
form_refused j at now r e k h = subst (Forms j at now) k h

pub sound_of_forms : (j : Judged f.Formed) (at now : Names) (r : Result Formed TextErr) → Forms j at now r → IfOk r (λ x. IsSound x.layout)
sound_of_forms j at now (Ok x) h = h.sound
sound_of_forms j at now (Err e) h = tt

joined_is : (j : Judged f.Formed) (l : Listed) (words : List Word) (x : Formed) → j ≡ Ok (layout_is x.layout, all_declared x.declared) → IsListed l →
    joined_form j l words ≡ provided (f.member_faults (field_names l.fields) (m.width_all (members_of l.fields)) (layout_is x.layout) words) (layout_is x.layout, all_declared x.declared)
joined_is j l words x e h =
    ap (λ (z : Judged f.Formed). joined_form z l words) e
    ∙ (λ i. provided (f.member_faults (field_names l.fields) (h.bits i) (layout_is x.layout) words) (layout_is x.layout, all_declared x.declared))

fields_sound : (x : Layout) (words : List Word) → IsSound x → AllByRecursion FieldIsSound (fields_of x words)
fields_sound x [] h = tt
fields_sound x (w ∷ words) h = (h, fields_sound x words h)

sound_append : (a b : List Field) → AllByRecursion FieldIsSound a → AllByRecursion FieldIsSound b → AllByRecursion FieldIsSound (a ++ b)
sound_append [] b h k = k
sound_append (x ∷ a) b h k = (h.0, sound_append a b h.1 k)

pub joined_ok : (j : Judged f.Formed) (a b c : Names) (l next : Listed) (words : List Word) (x : Formed) → IsAbove a b (map pushed l.declared) → IsForm j b c x → IsListed l → AreFields x.layout words l.fields next.fields next.bits → next.declared ≡ l.declared ++ x.declared →
    IsJoined j a c l words next
joined_ok j a b c l next words x above h lis k e = record {
  layout = x.layout;
  more = x.declared;
  is = joined_is j l words x h.is lis ∙ provided_ok _ (layout_is x.layout, all_declared x.declared) k.clear;
  fields = k.is;
  declared = e;
  names = subst (IsAbove a c) (sym (ap (map pushed) e ∙ map-append pushed l.declared x.declared)) (above_then a b c (map pushed l.declared) (map pushed x.declared) above h.names);
  listed = record {
    bits = k.counted;
    most = k.most;
    sound = subst (All FieldIsSound) (sym k.is) (All-from_recursion FieldIsSound (l.fields ++ fields_of x.layout words) (sound_append l.fields (fields_of x.layout words) (recursion_from_All FieldIsSound l.fields lis.sound) (fields_sound x.layout words h.sound)));
  };
}

pub joined_cause : (j : Judged f.Formed) (a b c : Names) (l : Listed) (words : List Word) (x : Formed) (e : TextErr) → IsAbove a b (map pushed l.declared) → IsForm j b c x → IsListed l → IsCause (f.member_faults (field_names l.fields) (m.width_all (members_of l.fields)) (layout_is x.layout) words) e →
    IsLeft (joined_form j l words) a c e
joined_cause j a b c l words x e above h lis k =
    let v : f.Formed = (layout_is x.layout, all_declared x.declared) in
    record {
      cause = refused_as (joined_form j l words) (provided (f.member_faults (field_names l.fields) (m.width_all (members_of l.fields)) (layout_is x.layout) words) v) e (joined_is j l words x h.is lis) (provided_err _ v e k);
      left = left_then a b c (map pushed l.declared) above (map pushed x.declared, h.names);
    }

pub joined_left : (j : Judged f.Formed) (a b c : Names) (l : Listed) (words : List Word) (e : TextErr) → IsAbove a b (map pushed l.declared) → IsLeft j b c e → IsLeft (joined_form j l words) a c e
joined_left j a b c l words e above h = record {
  cause = then_err j (λ y. provided (f.member_faults (field_names l.fields) l.bits y.0 words) y) e h.cause;
  left = left_then a b c (map pushed l.declared) above h.left;
}

-- ---- productions

forms_as : (j k : Judged f.Formed) (a b : Names) (r : Result Formed TextErr) → j ≡ k → Forms k a b r → Forms j a b r
forms_as j k a b r h x = subst (λ (z : Judged f.Formed). Forms z a b r) (sym h) x

pub arm_vector : (names : Names) (tree : TypeTree) (word : Option BitsWord) (s : Option Sign) (ranges : List Range) (b : Bool) (rs : List Range) (l : Result Layout TextErr) (r : Result Formed TextErr) → tree ≡ t.Vector word s ranges → b ≡ f.has_sign s → rs ≡ ranges →
    JudgesLayout (f.vector_layout (constants_are names) b rs) l → ((j : Judged m.Layout) (n : Names) → JudgesLayout j l → Forms (alone_form j) n n r) → Forms (f.form (constants_are names) tree) names names r
arm_vector names tree word s ranges b rs l r e h k x rule =
    forms_as _ (alone_form (f.vector_layout (constants_are names) (f.has_sign s) ranges)) names names r (ap (f.form (constants_are names)) e ∙ form_vector (constants_are names) word s ranges)
    (rule (f.vector_layout (constants_are names) (f.has_sign s) ranges) names (subst (λ (z : List Range). JudgesLayout (f.vector_layout (constants_are names) (f.has_sign s) z) l) k (subst (λ z. JudgesLayout (f.vector_layout (constants_are names) z rs) l) h x)))

pub arm_integer : (names : Names) (tree : TypeTree) (l : Result Layout TextErr) (r : Result Formed TextErr) → tree ≡ t.Integer →
    JudgesLayout (Ok (m.plain 32 true)) l → ((j : Judged m.Layout) (n : Names) → JudgesLayout j l → Forms (alone_form j) n n r) → Forms (f.form (constants_are names) tree) names names r
arm_integer names tree l r e x rule =
    forms_as _ (alone_form (Ok (m.plain 32 true))) names names r (ap (f.form (constants_are names)) e ∙ form_integer (constants_are names)) (rule (Ok (m.plain 32 true)) names x)

pub arm_named : (names : Names) (tree : TypeTree) (w : Word) (ranges rs : List Range) (l : Result Layout TextErr) (r : Result Formed TextErr) → tree ≡ t.Named w ranges → rs ≡ ranges →
    JudgesLayout (f.named_layout (constants_are names) w (m.find w.text (constants_are names)) rs) l → ((j : Judged m.Layout) (n : Names) → JudgesLayout j l → Forms (alone_form j) n n r) → Forms (f.form (constants_are names) tree) names names r
arm_named names tree w ranges rs l r e k x rule =
    forms_as _ (alone_form (f.named_layout (constants_are names) w (m.find w.text (constants_are names)) ranges)) names names r (ap (f.form (constants_are names)) e ∙ form_named (constants_are names) w ranges)
    (rule (f.named_layout (constants_are names) w (m.find w.text (constants_are names)) ranges) names (subst (λ (z : List Range). JudgesLayout (f.named_layout (constants_are names) w (m.find w.text (constants_are names)) z) l) k x))

pub arm_enum : (names new : Names) (tree : TypeTree) (word : BitsWord) (s : Option Sign) (o q : Option Range) (all given : List EnumLabel) (b : Bool) (r : Result Formed TextErr) → tree ≡ t.Enum word s o all → b ≡ f.has_sign s → q ≡ o → given ≡ all →
    Forms (enum_form (constants_are names) b q given) names new r → Forms (f.form (constants_are names) tree) names new r
arm_enum names new tree word s o q all given b r e h k l x =
    forms_as _ (enum_form (constants_are names) b q given) names new r (ap (f.form (constants_are names)) e ∙ form_enum (constants_are names) word s o all ∙ (λ i. enum_form (constants_are names) (sym h i) (sym k i) (sym l i))) x

pub arm_struct : (names new : Names) (tree : TypeTree) (s : Option Sign) (all given : List Member) (ranges rs : List Range) (b : Bool) (l : Result Listed TextErr) (r : Result Formed TextErr) → tree ≡ t.Struct s all ranges → b ≡ f.has_sign s → given ≡ all → rs ≡ ranges →
    JudgesMembers (forms_of (constants_are names) [] 0 given) names new l → ((j : Judged (m.Members × List f.Declared)) (at : Names) → JudgesMembers j at new l → Forms (struct_form (constants_are at) b rs j) at new r) → Forms (f.form (constants_are names) tree) names new r
arm_struct names new tree s all given ranges rs b l r e h k g x rule =
    forms_as _ (struct_form (constants_are names) b rs (forms_of (constants_are names) [] 0 given)) names new r
    (ap (f.form (constants_are names)) e ∙ form_struct (constants_are names) s all ranges ∙ (λ i. struct_form (constants_are names) (sym h i) (sym g i) (forms_of (constants_are names) [] 0 (sym k i)))) (rule (forms_of (constants_are names) [] 0 given) names x)

-- ---- what callers see

pub judges_form : (j : Judged f.Formed) (a b : Names) (r : Result Formed TextErr) → Forms j a b r → JudgesForm j r
judges_form j a b (Ok x) h = record { is = h.is; sound = h.sound }
judges_form j a b (Err e) h = h.cause

pub left_of : (j : Judged f.Formed) (a b : Names) (r : Result Formed TextErr) → Forms j a b r → Left a b
left_of j a b (Ok x) h = (map pushed x.declared, h.names)
left_of j a b (Err e) h = h.left

pub type_ok : (j : Judged f.Formed) (r : Result Formed TextErr) (x : Formed) → r ≡ Ok x → JudgesForm j r → IsLayout (j >>= layout_part) x.layout
type_ok j r x e h = let g = subst (JudgesForm j) e h in record { is = then_ok j layout_part (layout_is x.layout, all_declared x.declared) (layout_is x.layout) g.is refl; sound = g.sound }

pub type_err : (j : Judged f.Formed) (r : Result Formed TextErr) (e : TextErr) → r ≡ Err e → JudgesForm j r → Refused (j >>= layout_part) e
type_err j r e k h = then_err j layout_part e (subst (JudgesForm j) k h)

-- ---- what is sound of parts that are judged

pub formed_sound : (j : Judged f.Formed) (a b : Names) (r : Result Formed TextErr) → Forms j a b r → IfOk r (λ x. IsSound x.layout)
formed_sound j a b (Ok x) h = h.sound
formed_sound j a b (Err e) h = tt

pub members_listed : (j : Judged (m.Members × List f.Declared)) (a b : Names) (r : Result Listed TextErr) → JudgesMembers j a b r → IfOk r (λ x. IsListed x)
members_listed j a b (Ok x) h = h.listed
members_listed j a b (Err e) h = tt
