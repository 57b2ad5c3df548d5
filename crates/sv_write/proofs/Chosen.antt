-- Trees as code takes them apart, where the arm tells little.
use Rattle.std.proofs.Common.{◌≡◌, List, sym}
use borrow.Enum.Total.{values_d}
use Rattle.sv_tree.specs.contracts.forms.Member as contract
use Rattle.sv_tree.specs.declared.word.Word.{Word}
use Rattle.sv_tree.specs.declared.forms.TypeTree.{TypeTree}
use Rattle.sv_tree.specs.declared.forms.Member.{out-Member, Member, Of', end_of-TypeTree, more_of-TypeTree}
use Rattle.sv_tree.specs.declared.forms.Member.TheVariants as mem
use Rattle.sv_tree.specs.declared.forms.Member.TheBlock.{shape-the_row-TypeTree-0, hidden-the_row-TypeTree-0, shown-the_row-TypeTree-0}

pub member_is : (g : Member) (dv dw : _) (t : TypeTree) (names : List Word) → t ≡ (values_d contract.enum 0 dv g).0 → names ≡ (values_d contract.enum 0 dw g).1.0 → g ≡ mem.Of t names
unfolding out-Member shape-the_row-TypeTree-0 hidden-the_row-TypeTree-0 shown-the_row-TypeTree-0 denote.Hole.Carrier.hidden denote.Hole.Carrier.shown denote.Hole.Carrier.out
member_is (Of' r (more_of-TypeTree t end_of-TypeTree) words) dv dw u names h k = (λ i. mem.Of (sym h i) (sym k i))
