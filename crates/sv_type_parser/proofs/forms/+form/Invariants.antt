use Rattle.sv_type_parser.proofs.forms.+form.Given as goal

abbrev pub decreases-form : goal.decreases-form
decreases-form l = l.depth
