-- The meaning of types as code makes them, with lists of members.
use Rattle.std.proofs.Common.{◌≡◌, ℕ, ◌+◌, true, List, [], ◌∷◌, ◌++◌, Option, Ok, refl, ap}
use Rattle.sv_tree.specs.declared.word.Word.{Word}
use Rattle.sv_tree.specs.declared.exprs.Sign.{Sign}
use Rattle.sv_tree.specs.declared.forms.BitsWord.{BitsWord}
use Rattle.sv_tree.specs.declared.forms.Range.{Range}
use Rattle.sv_tree.specs.declared.forms.EnumLabel.{EnumLabel}
use Rattle.sv_tree.specs.declared.forms.TypeTree.{TypeTree}
use Rattle.sv_tree.specs.declared.forms.TypeTree.TheVariants as t
use Rattle.sv_tree.specs.declared.forms.Member.{Member, Of', end_of-TypeTree, more_of-TypeTree}
use Rattle.sv_tree.specs.declared.forms.Member.TheVariants as member
use Rattle.sv_tree.specs.declared.forms.Member.TheBlock.{shape-the_row-TypeTree-0, hidden-the_row-TypeTree-0, shape-the_row-Member-1, hidden-the_row-Member-1}
use Rattle.sv_meaning.specs.Faults.{provided, ◌>>=◌}
use Rattle.sv_meaning.specs.Layouts as m
use Rattle.sv_meaning.specs.Forms as f
use Rattle.sv_types.specs.Types.{forms_of, enum_form, struct_form}

pub form_vector : (at : m.Scope) (word : Option BitsWord) (s : Option Sign) (ranges : List Range) → f.form at (t.Vector word s ranges) ≡ (f.vector_layout at (f.has_sign s) ranges >>= λ x. Ok (f.alone x))
unfolding f.form
form_vector at word s ranges = refl

pub form_integer : (at : m.Scope) → f.form at t.Integer ≡ (Ok (m.plain 32 true) >>= λ x. Ok (f.alone x))
unfolding f.form
form_integer at = refl

pub form_named : (at : m.Scope) (w : Word) (ranges : List Range) → f.form at (t.Named w ranges) ≡ (f.named_layout at w (m.find w.text at) ranges >>= λ x. Ok (f.alone x))
unfolding f.form
form_named at w ranges = refl

pub form_enum : (at : m.Scope) (word : BitsWord) (s : Option Sign) (r : Option Range) (all : List EnumLabel) → f.form at (t.Enum word s r all) ≡ enum_form at (f.has_sign s) r all
unfolding f.form
form_enum at word s r all = refl

forms_row : (at : m.Scope) (used : List m.Name) (bits : ℕ) (all : List Member) → f.forms at used bits (hidden-the_row-Member-1 all) ≡ forms_of at used bits all
unfolding f.form forms_of shape-the_row-Member-1 hidden-the_row-Member-1 denote.Hole.Carrier.hidden
forms_row at used bits [] = refl
forms_row at used bits (Of' r (more_of-TypeTree t end_of-TypeTree) names ∷ all) =
    ap (λ g. f.form at t >>= λ x. provided (f.member_faults used bits x.0 names) x >>= g) (λ i y. forms_row (m.with_names at (f.entries_of y.1)) (used ++ f.texts_of names) (bits + f.bits_of names (m.width y.0)) all i >>= λ rest. Ok (f.members_of names y.0 rest.0, y.1 ++ rest.1))

pub form_struct : (at : m.Scope) (s : Option Sign) (all : List Member) (ranges : List Range) → f.form at (t.Struct s all ranges) ≡ struct_form at (f.has_sign s) ranges (forms_of at [] 0 all)
unfolding f.form shape-the_row-Member-1 hidden-the_row-Member-1 denote.Hole.Carrier.hidden
form_struct at s all ranges = ap (struct_form at (f.has_sign s) ranges) (forms_row at [] 0 all)

pub forms_more : (at : m.Scope) (used : List m.Name) (bits : ℕ) (t : TypeTree) (names : List Word) (all : List Member) →
    forms_of at used bits (member.Of t names ∷ all) ≡ (f.form at t >>= λ x. provided (f.member_faults used bits x.0 names) x >>= λ y. forms_of (m.with_names at (f.entries_of y.1)) (used ++ f.texts_of names) (bits + f.bits_of names (m.width y.0)) all >>= λ rest. Ok (f.members_of names y.0 rest.0, y.1 ++ rest.1))
unfolding forms_of shape-the_row-TypeTree-0 hidden-the_row-TypeTree-0 denote.Hole.Carrier.hidden
forms_more at used bits t names all = refl
