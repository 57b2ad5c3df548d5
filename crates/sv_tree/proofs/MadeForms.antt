-- Types as code makes them, with lists of parts: what spells them, and how deep their tokens lie.
use Rattle.std.proofs.Common.{◌≡◌, List, [], ◌∷◌, ◌++◌, codes, Option, Some, None, refl, sym, ap, ◌∙◌, subst}
use Rattle.sv_outside.specs.declared.text.Token.{Token}
use Rattle.sv_tree.specs.declared.word.Word.{Word}
use Rattle.sv_tree.specs.declared.exprs.Sign.{Sign}
use Rattle.sv_tree.specs.declared.forms.BitsWord.{BitsWord}
use Rattle.sv_tree.specs.declared.forms.Range.{Range}
use Rattle.sv_tree.specs.declared.forms.EnumLabel.{EnumLabel}
use Rattle.sv_tree.specs.declared.forms.TypeTree.{TypeTree, Vector, Integer, Struct', Enum, Named, roll-TypeTree, roll-out-TypeTree}
use Rattle.sv_tree.specs.declared.forms.TypeTree.TheVariants as ty
use Rattle.sv_tree.specs.declared.forms.Member.TheBlock.{shape-the_row-TypeTree-0, hidden-the_row-TypeTree-0, shape-the_row-Member-1, hidden-the_row-Member-1, shown-the_row-Member-1}
use Rattle.sv_tree.specs.declared.forms.Member.{Member, Of', end_of-TypeTree, more_of-TypeTree}
use Rattle.sv_tree.specs.declared.forms.Member.TheVariants as mem
use Rattle.sv_tree.specs.Spelling.{Spelled, never, ◌⨟◌, mark, key, name, maybe, each, commas}
use Rattle.sv_tree.specs.GrammarForms.{bits_key, sign_key, SpellsRange, SpellsLabel, SpellsType, SpellsMembers, MoreMembers, SpellsMember}
use Rattle.sv_tree.specs.Nesting.{one, two, in_type, if_given, each_depths, commas_depths, word_depths}
use Rattle.sv_tree.specs.NestingDesign.{range_depths, enum_label_depths, named_type_depths, type_depths, members_depths, member_depths}
use Rattle.sv_tree.proofs.MadeStmts.{some}

-- ---- lists of members

more_row_members : (all : List Member) (i o : List Token) → each SpellsMember all i o → MoreMembers (hidden-the_row-Member-1 all) i o
unfolding shape-the_row-TypeTree-0 hidden-the_row-TypeTree-0 shape-the_row-Member-1 hidden-the_row-Member-1 denote.Hole.Carrier.hidden
more_row_members [] i o h = h
more_row_members (x ∷ all) i o h = (h.0, h.1, more_row_members all h.0 o h.2)

row_more_members : (all : List Member) (i o : List Token) → MoreMembers (hidden-the_row-Member-1 all) i o → each SpellsMember all i o
unfolding shape-the_row-TypeTree-0 hidden-the_row-TypeTree-0 shape-the_row-Member-1 hidden-the_row-Member-1 denote.Hole.Carrier.hidden
row_more_members [] i o h = h
row_more_members (x ∷ all) i o h = (h.0, h.1, row_more_members all h.0 o h.2)

pub row_members : (all : List Member) (i o : List Token) → some SpellsMember all i o → SpellsMembers (hidden-the_row-Member-1 all) i o
unfolding shape-the_row-TypeTree-0 hidden-the_row-TypeTree-0 shape-the_row-Member-1 hidden-the_row-Member-1 denote.Hole.Carrier.hidden
row_members [] i o h = h
row_members (x ∷ all) i o h = (h.0, h.1, more_row_members all h.0 o h.2)

pub members_row : (all : List Member) (i o : List Token) → SpellsMembers (hidden-the_row-Member-1 all) i o → some SpellsMember all i o
unfolding shape-the_row-TypeTree-0 hidden-the_row-TypeTree-0 shape-the_row-Member-1 hidden-the_row-Member-1 denote.Hole.Carrier.hidden
members_row [] i o h = h
members_row (x ∷ all) i o h = (h.0, h.1, row_more_members all h.0 o h.2)

pub nests_members : (all : List Member) → members_depths (hidden-the_row-Member-1 all) ≡ each_depths member_depths all
unfolding type_depths shape-the_row-TypeTree-0 hidden-the_row-TypeTree-0 shape-the_row-Member-1 hidden-the_row-Member-1 denote.Hole.Carrier.hidden
nests_members [] = refl
nests_members (x ∷ all) = ap (λ d. member_depths x ++ d) (nests_members all)

-- ---- types

-- the word, the sign or a range is written
abbrev pub vector_spelled : Option BitsWord → Option Sign → List Range → Spelled
vector_spelled None None [] = never
vector_spelled w s ranges = maybe bits_key w ⨟ maybe sign_key s ⨟ each SpellsRange ranges

pub to_vector : (w : Option BitsWord) (s : Option Sign) (ranges : List Range) (i o : List Token) → vector_spelled w s ranges i o → SpellsType (ty.Vector w s ranges) i o
to_vector None None [] i o h = h
to_vector None None (r ∷ ranges) i o h = h
to_vector None (Some s) ranges i o h = h
to_vector (Some w) s ranges i o h = h

pub of_vector : (w : Option BitsWord) (s : Option Sign) (ranges : List Range) (i o : List Token) → SpellsType (ty.Vector w s ranges) i o → vector_spelled w s ranges i o
of_vector None None [] i o h = h
of_vector None None (r ∷ ranges) i o h = h
of_vector None (Some s) ranges i o h = h
of_vector (Some w) s ranges i o h = h

pub nests_vector : (w : Option BitsWord) (s : Option Sign) (ranges : List Range) → type_depths (ty.Vector w s ranges) ≡ in_type (if_given word_depths w ++ if_given word_depths s ++ each_depths range_depths ranges)
unfolding type_depths
nests_vector w s ranges = refl

pub nests_integer : type_depths ty.Integer ≡ in_type one
unfolding type_depths
nests_integer = refl

pub to_struct : (s : Option Sign) (all : List Member) (ranges : List Range) (i o : List Token) → (key (codes "struct") ⨟ key (codes "packed") ⨟ maybe sign_key s ⨟ mark (codes "{") ⨟ some SpellsMember all ⨟ mark (codes "}") ⨟ each SpellsRange ranges) i o → SpellsType (ty.Struct s all ranges) i o
unfolding shape-the_row-TypeTree-0 hidden-the_row-TypeTree-0 shape-the_row-Member-1 hidden-the_row-Member-1 denote.Hole.Carrier.hidden
to_struct s all ranges i o h = (h.0, h.1, (h.2.0, h.2.1, (h.2.2.0, h.2.2.1, (h.2.2.2.0, h.2.2.2.1, (h.2.2.2.2.0, row_members all h.2.2.2.0 h.2.2.2.2.0 h.2.2.2.2.1, h.2.2.2.2.2)))))

pub of_struct : (s : Option Sign) (all : List Member) (ranges : List Range) (i o : List Token) → SpellsType (ty.Struct s all ranges) i o → (key (codes "struct") ⨟ key (codes "packed") ⨟ maybe sign_key s ⨟ mark (codes "{") ⨟ some SpellsMember all ⨟ mark (codes "}") ⨟ each SpellsRange ranges) i o
unfolding shape-the_row-TypeTree-0 hidden-the_row-TypeTree-0 shape-the_row-Member-1 hidden-the_row-Member-1 denote.Hole.Carrier.hidden
of_struct s all ranges i o h = (h.0, h.1, (h.2.0, h.2.1, (h.2.2.0, h.2.2.1, (h.2.2.2.0, h.2.2.2.1, (h.2.2.2.2.0, members_row all h.2.2.2.0 h.2.2.2.2.0 h.2.2.2.2.1, h.2.2.2.2.2)))))

pub nests_struct : (s : Option Sign) (all : List Member) (ranges : List Range) → type_depths (ty.Struct s all ranges) ≡ in_type (two ++ if_given word_depths s ++ one ++ each_depths member_depths all ++ one ++ each_depths range_depths ranges)
unfolding type_depths shape-the_row-TypeTree-0 hidden-the_row-TypeTree-0 shape-the_row-Member-1 hidden-the_row-Member-1 denote.Hole.Carrier.hidden
nests_struct s all ranges = ap (λ d. in_type (two ++ if_given word_depths s ++ one ++ d ++ one ++ each_depths range_depths ranges)) (nests_members all)

pub to_enum : (w : BitsWord) (s : Option Sign) (r : Option Range) (all : List EnumLabel) (i o : List Token) → (key (codes "enum") ⨟ bits_key w ⨟ maybe sign_key s ⨟ maybe SpellsRange r ⨟ mark (codes "{") ⨟ commas SpellsLabel all ⨟ mark (codes "}")) i o → SpellsType (ty.Enum w s r all) i o
to_enum w s r all i o h = h

pub of_enum : (w : BitsWord) (s : Option Sign) (r : Option Range) (all : List EnumLabel) (i o : List Token) → SpellsType (ty.Enum w s r all) i o → (key (codes "enum") ⨟ bits_key w ⨟ maybe sign_key s ⨟ maybe SpellsRange r ⨟ mark (codes "{") ⨟ commas SpellsLabel all ⨟ mark (codes "}")) i o
of_enum w s r all i o h = h

pub nests_enum : (w : BitsWord) (s : Option Sign) (r : Option Range) (all : List EnumLabel) → type_depths (ty.Enum w s r all) ≡ in_type (two ++ if_given word_depths s ++ if_given range_depths r ++ one ++ commas_depths enum_label_depths all ++ one)
unfolding type_depths
nests_enum w s r all = refl

pub to_named : (w : Word) (ranges : List Range) (i o : List Token) → (name w ⨟ each SpellsRange ranges) i o → SpellsType (ty.Named w ranges) i o
to_named w ranges i o h = h

pub of_named : (w : Word) (ranges : List Range) (i o : List Token) → SpellsType (ty.Named w ranges) i o → (name w ⨟ each SpellsRange ranges) i o
of_named w ranges i o h = h

pub nests_named : (w : Word) (ranges : List Range) → type_depths (ty.Named w ranges) ≡ named_type_depths w ranges
unfolding type_depths
nests_named w ranges = refl

pub to_of : (t : TypeTree) (names : List Word) (i o : List Token) → (SpellsType t ⨟ commas name names ⨟ mark (codes ";")) i o → SpellsMember (mem.Of t names) i o
unfolding shape-the_row-TypeTree-0 hidden-the_row-TypeTree-0 shape-the_row-Member-1 hidden-the_row-Member-1 denote.Hole.Carrier.hidden
to_of t names i o h = h

pub of_of : (t : TypeTree) (names : List Word) (i o : List Token) → SpellsMember (mem.Of t names) i o → (SpellsType t ⨟ commas name names ⨟ mark (codes ";")) i o
unfolding shape-the_row-TypeTree-0 hidden-the_row-TypeTree-0 shape-the_row-Member-1 hidden-the_row-Member-1 denote.Hole.Carrier.hidden
of_of t names i o h = h

pub nests_of : (t : TypeTree) (names : List Word) → member_depths (mem.Of t names) ≡ type_depths t ++ commas_depths word_depths names ++ one
unfolding type_depths shape-the_row-TypeTree-0 hidden-the_row-TypeTree-0 shape-the_row-Member-1 hidden-the_row-Member-1 denote.Hole.Carrier.hidden
nests_of t names = refl

pub by_cases_type {ℓ} : (P : TypeTree → Type ℓ)
    → ((w : Option BitsWord) (s : Option Sign) (ranges : List Range) → P (ty.Vector w s ranges))
    → P ty.Integer
    → ((s : Option Sign) (all : List Member) (ranges : List Range) → P (ty.Struct s all ranges))
    → ((w : BitsWord) (s : Option Sign) (r : Option Range) (all : List EnumLabel) → P (ty.Enum w s r all))
    → ((w : Word) (ranges : List Range) → P (ty.Named w ranges))
    → (x : TypeTree) → P x
unfolding shown-the_row-Member-1 denote.Hole.Carrier.shown shape-the_row-TypeTree-0 hidden-the_row-TypeTree-0 shape-the_row-Member-1 hidden-the_row-Member-1 denote.Hole.Carrier.hidden
by_cases_type P vector whole struct enum named (Vector w s ranges) = vector w s ranges
by_cases_type P vector whole struct enum named Integer = whole
by_cases_type P vector whole struct enum named (Struct' s r all ranges) = subst P (sym (ty.rolls-Struct s (shown-the_row-Member-1 r all) ranges) ∙ (ap roll-TypeTree (sym (ty.outs-Struct' s r all ranges)) ∙ roll-out-TypeTree (Struct' s r all ranges))) (struct s (shown-the_row-Member-1 r all) ranges)
by_cases_type P vector whole struct enum named (Enum w s r all) = enum w s r all
by_cases_type P vector whole struct enum named (Named w ranges) = named w ranges

pub by_cases_member {ℓ} : (P : Member → Type ℓ) → ((t : TypeTree) (names : List Word) → P (mem.Of t names)) → (x : Member) → P x
unfolding shape-the_row-TypeTree-0 hidden-the_row-TypeTree-0 shape-the_row-Member-1 hidden-the_row-Member-1 denote.Hole.Carrier.hidden
by_cases_member P of (Of' r (more_of-TypeTree t end_of-TypeTree) names) = of t names
