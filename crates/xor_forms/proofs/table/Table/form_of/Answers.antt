use Rattle.xor_forms.proofs.Sums.{alone}
use Rattle.xor_forms.proofs.table.Table.form_of.Goals as goal

pub returns-in_ok-from_slice-in-None : goal.returns-in_ok-from_slice-in-None
returns-in_ok-from_slice-in-None c = λ v known. rw c.in_ok-from_slice-in-None.ensures.items (alone v c.args.node c.args.negated)
