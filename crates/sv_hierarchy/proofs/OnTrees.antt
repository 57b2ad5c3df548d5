-- What an answer unfolds to compute what a source that is written out means.
use Rattle.std.specs.Prelude.{⊤}
use Rattle.std.specs.Fmt as fmt
use Rattle.settling.specs.Settling as settling
use Rattle.sv_meaning.specs.Params as params
use Rattle.sv_meaning.specs.Targets as targets
use Rattle.sv_meaning.specs.Deeds as deeds
use Rattle.sv_meaning.specs.Blocks as blocks
use Rattle.sv_meaning.specs.Designs as designs
use Rattle.sv_meaning.proofs.OnTrees.{expressions}
use Rattle.sv_hierarchy.specs.Scopes as scopes

unfoldable pub designs_on_trees : ⊤
unfolding expressions settling.first_bit fmt.digits params.by_name params.in_order targets.targets targets.widths targets.lvalue_faults targets.bit_names targets.slots_from targets.chain_slots targets.slots targets.present targets.chain_fixed targets.are_fixed targets.put targets.write_all deeds.turns_on deeds.target_names deeds.longest deeds.all_signed deeds.all_faults deeds.all_names deeds.matches deeds.case_chain deeds.labels_of deeds.in_turn deeds.deed blocks.has_bit blocks.distinct blocks.edges_of blocks.trigger blocks.first_mark blocks.marks blocks.events_faults designs.as_targets designs.part_faults designs.are_present designs.bits_of_wire designs.pairs designs.links_of designs.driven designs.contributions_of designs.faults_from designs.stimuli_from scopes.level_at scopes.with_level scopes.seen_along scopes.live_along scopes.walk_all scopes.given_or scopes.act scopes.header_params scopes.header_ports scopes.list_params scopes.item_names scopes.body_params scopes.params_of_items scopes.module_named scopes.port_named scopes.port_texts scopes.port_works scopes.given_by scopes.child scopes.instances_from scopes.library scopes.instantiated scopes.instantiated_by scopes.all_used scopes.unused
designs_on_trees = tt
