-- A wide group of nets is a wide loop of the design's wires.
use Rattle.std.proofs.Common.{◌<◌, ℕ, List, ◌∙◌, subst, sym}
use Rattle.svex_arena.specs.Arenas.{IsArena}
use Rattle.flat_net.specs.declared.flat.Flat.{Flat}
use Rattle.net_equations.specs.Groups.{bits_in, members_of}
use Rattle.phase_fsm.specs.Machines.{row_of}
use Rattle.phase_fsm.specs.Sets.{IsFirstWide}
use Rattle.phase_fsm.proofs.Members.{wide-group}
use Rattle.sv_meaning.specs.Designs.{Design}
use Rattle.sv_elab.specs.Elaborated.{IsElaborated}
use Rattle.design_loops.specs.Loops.{HasWideLoop}
use Rattle.design_loops.proofs.Segments.{group_bits, count-bits}
use Rattle.design_loops.proofs.Feeding.{is-loop}

pub wide-groups-loop : (d : Design) (flat : Flat) (sets : List (List ℕ)) (bits : ℕ) → IsArena flat.arena → IsElaborated d flat → IsFirstWide flat sets bits → HasWideLoop d bits
wide-groups-loop d flat sets bits arena made first =
    let h = first.wide in
    let w = wide-group h.segs h.groups bits h.first in
    let members = members_of h.groups w.group in
    let large : 1024 < bits_in h.segs members = subst (λ n. 1024 < n) (sym w.count) w.wide in
    record {
      bits = group_bits h.segs members;
      loop = is-loop d flat (row_of sets first.set) h.segs arena made h.nets h.groups h.order w.group w.there large;
      as_many = count-bits h.segs members ∙ w.count;
      wide = w.wide;
    }
