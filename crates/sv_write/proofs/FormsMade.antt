-- Types as code makes them, with lists of parts: what is written of them.
use Rattle.std.proofs.Common.{◌≡◌, List, [], ◌∷◌, codes, Option, refl, ap}
use Rattle.sv_tree.specs.declared.word.Word.{Word}
use Rattle.sv_tree.specs.declared.exprs.Sign.{Sign}
use Rattle.sv_tree.specs.declared.forms.BitsWord.{BitsWord}
use Rattle.sv_tree.specs.declared.forms.Range.{Range}
use Rattle.sv_tree.specs.declared.forms.EnumLabel.{EnumLabel}
use Rattle.sv_tree.specs.declared.forms.TypeTree.{TypeTree, Vector, Integer, Enum, Named}
use Rattle.sv_tree.specs.declared.forms.TypeTree.TheVariants as ty
use Rattle.sv_tree.specs.declared.forms.Member.TheBlock.{shape-the_row-TypeTree-0, hidden-the_row-TypeTree-0, shape-the_row-Member-1, hidden-the_row-Member-1}
use Rattle.sv_tree.specs.declared.forms.Member.{Member}
use Rattle.sv_tree.specs.declared.forms.Member.TheVariants as mem
use Rattle.sv_write.specs.declared.lexeme.Lexeme.{Lexeme}
use Rattle.sv_write.specs.Writing.{Write, ◌⨾◌, mark, key, name, maybe, each, commas}
use Rattle.sv_write.specs.Forms.{write_bits_key, write_sign_key, write_range, write_enum_label, write_type, write_members, write_more_members, write_member}

-- ---- lists of parts

rows_more_members : (all : List Member) → ◌≡◌ {A = Write} (write_more_members (hidden-the_row-Member-1 all)) (each write_member all)
unfolding each write_type write_members write_more_members write_member shape-the_row-TypeTree-0 hidden-the_row-TypeTree-0 shape-the_row-Member-1 hidden-the_row-Member-1 denote.Hole.Carrier.hidden
rows_more_members [] = refl
rows_more_members (x ∷ all) = ap (λ (f : Write). write_member x ⨾ f) (rows_more_members all)

rows_members : (all : List Member) → ◌≡◌ {A = Write} (write_members (hidden-the_row-Member-1 all)) (each write_member all)
unfolding each write_type write_members write_more_members write_member shape-the_row-TypeTree-0 hidden-the_row-TypeTree-0 shape-the_row-Member-1 hidden-the_row-Member-1 denote.Hole.Carrier.hidden
rows_members [] = refl
rows_members (x ∷ all) = ap (λ (f : Write). write_member x ⨾ f) (rows_more_members all)

-- ---- trees as code makes them

pub made_vector : (w : Option BitsWord) (s : Option Sign) (ranges : List Range) (l : List Lexeme) → write_type (ty.Vector w s ranges) l ≡ (maybe write_bits_key w ⨾ maybe write_sign_key s ⨾ each write_range ranges) l
unfolding write_type write_members write_more_members write_member
made_vector w s ranges l = refl

pub made_struct : (s : Option Sign) (all : List Member) (ranges : List Range) (l : List Lexeme) → write_type (ty.Struct s all ranges) l ≡ (key (codes "struct") ⨾ key (codes "packed") ⨾ maybe write_sign_key s ⨾ mark (codes "{") ⨾ each write_member all ⨾ mark (codes "}") ⨾ each write_range ranges) l
unfolding write_type write_members write_more_members write_member shape-the_row-TypeTree-0 hidden-the_row-TypeTree-0 shape-the_row-Member-1 hidden-the_row-Member-1 denote.Hole.Carrier.hidden
made_struct s all ranges l = ap (λ (f : Write). (key (codes "struct") ⨾ key (codes "packed") ⨾ maybe write_sign_key s ⨾ mark (codes "{") ⨾ f ⨾ mark (codes "}") ⨾ each write_range ranges) l) (rows_members all)

pub made_enum : (w : BitsWord) (s : Option Sign) (r : Option Range) (all : List EnumLabel) (l : List Lexeme) → write_type (ty.Enum w s r all) l ≡ (key (codes "enum") ⨾ write_bits_key w ⨾ maybe write_sign_key s ⨾ maybe write_range r ⨾ mark (codes "{") ⨾ commas write_enum_label all ⨾ mark (codes "}")) l
unfolding write_type write_members write_more_members write_member
made_enum w s r all l = refl

pub made_named : (w : Word) (ranges : List Range) (l : List Lexeme) → write_type (ty.Named w ranges) l ≡ (name w ⨾ each write_range ranges) l
unfolding write_type write_members write_more_members write_member
made_named w ranges l = refl

pub made_of : (t : TypeTree) (names : List Word) (l : List Lexeme) → write_member (mem.Of t names) l ≡ (write_type t ⨾ commas name names ⨾ mark (codes ";")) l
unfolding write_type write_members write_more_members write_member shape-the_row-TypeTree-0 hidden-the_row-TypeTree-0 shape-the_row-Member-1 hidden-the_row-Member-1 denote.Hole.Carrier.hidden
made_of t names l = refl

pub made_integer : (l : List Lexeme) → write_type ty.Integer l ≡ (key (codes "integer")) l
unfolding write_type write_members write_more_members write_member shape-the_row-TypeTree-0 hidden-the_row-TypeTree-0 shape-the_row-Member-1 hidden-the_row-Member-1 denote.Hole.Carrier.hidden
made_integer l = refl
