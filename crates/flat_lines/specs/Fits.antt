-- What lines say whose numbers code can hold, and how it stands behind the word that says the kind of a line.
use Rattle.std.specs.Prelude.{List, [], ◌∷◌, ◌++◌, codes, decimal}
use Rattle.sv_outside.specs.declared.text.Signal.{Signal}
use Rattle.lhs_alias.specs.declared.segs.Seg.{Seg}
use Rattle.svex_shape.specs.declared.shape.VarName.{VarName}
use Rattle.svex_shape.specs.declared.shape.VarName.TheVariants.{Now, Prev}
use Rattle.svex_shape.specs.declared.shape.Shape.{Shape}
use Rattle.svex_shape.specs.declared.shape.Shape.TheVariants.{Const, Var, Unary, Binary, Cond, Pick, Slice, Zext, Sext, DynSlice, DynPut}
use Rattle.driver_resolve.specs.declared.driver.Driver.{Driver}
use Rattle.flat_net.specs.declared.flat.Join.{Join}
use Rattle.flat_net.specs.Flats.{IsSignal}
use Rattle.flat_text.specs.Lines.{Text, lhs_text, kind_text}
use Rattle.flat_words.specs.Fits.{FitsNumber, FitsByte, FitsVector, FitsParts}
use Rattle.flat_lines.specs.Items.{Item, a_wire, a_join, a_node, a_drive, the_end}

-- the present or the previous value of a wire
abbrev pub FitsName : VarName → Type 0
FitsName (Now n) = FitsNumber n
FitsName (Prev n) = FitsNumber n
FitsName name = ⊥

abbrev pub FitsShape : Shape → Type 0
FitsShape (Const v) = FitsVector v
FitsShape (Var name w) = FitsName name × FitsByte w
FitsShape (Unary op a) = FitsNumber a
FitsShape (Binary op a b) = FitsNumber a × FitsNumber b
FitsShape (Cond c a b) = FitsNumber c × (FitsNumber a × FitsNumber b)
FitsShape (Pick c a b) = FitsNumber c × (FitsNumber a × FitsNumber b)
FitsShape (Slice a lo w) = FitsNumber a × (FitsByte lo × FitsByte w)
FitsShape (Zext a w) = FitsNumber a × FitsByte w
FitsShape (Sext a w) = FitsNumber a × FitsByte w
FitsShape (DynSlice a at spot) = FitsNumber a × (FitsNumber at × FitsParts spot)
FitsShape (DynPut a at spot put) = FitsNumber a × (FitsNumber at × (FitsParts spot × FitsNumber put))

abbrev pub FitsSeg : Seg → Type 0
FitsSeg s = FitsNumber s.wire × (FitsByte s.lo × FitsByte s.width)

abbrev pub EachFits : List Seg → Type 0
EachFits [] = Unit {0}
EachFits (s ∷ more) = FitsSeg s × EachFits more

-- a list of segments that has a first
abbrev pub FitsLhs : List Seg → Type 0
FitsLhs [] = ⊥
FitsLhs (s ∷ more) = FitsSeg s × EachFits more

abbrev pub FitsJoin : Join → Type 0
FitsJoin j = FitsLhs j.child × FitsLhs j.parent

abbrev pub FitsDrive : Driver → Type 0
FitsDrive d = FitsLhs d.target × FitsNumber d.value

-- `W in PATH` or `W net PATH`
abbrev pub wire_words : Signal → Text
wire_words s = decimal s.width ++ (kind_text s.input ++ s.path)

-- `LHS = LHS`
abbrev pub join_words : Join → Text
join_words j = lhs_text j.child ++ (codes " = " ++ lhs_text j.parent)

-- `LHS = K`
abbrev pub drive_words : Driver → Text
drive_words d = lhs_text d.target ++ (codes " = " ++ decimal d.value)

abbrev pub FitsItem : Item → Type 0
FitsItem (a_wire s) = IsSignal s
FitsItem (a_join j) = FitsJoin j
FitsItem (a_node s) = FitsShape s
FitsItem (a_drive d) = FitsDrive d
FitsItem the_end = Unit {0}
