use Rattle.sv_hierarchy.proofs.Found.{library_is}
use Rattle.sv_hierarchy.proofs.libraries_have_the_modules_in_order.Goals as goal

pub returns-clause-is : goal.returns-clause-is
returns-clause-is c = library_is
