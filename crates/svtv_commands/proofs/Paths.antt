-- The paths of the wires of a legal design have parts that a value change dump can print.
use Rattle.std.proofs.Common.{[], ◌∷◌, List, refl}
use Rattle.std.specs.List.{All}
use Rattle.std.proofs.lemmas.List.Elements.{All-weaker}
use Rattle.sv_elab.specs.Passed.{HaveParts, IsPart}
use Rattle.sv_outside.specs.declared.text.Signal.{Signal}
use Rattle.vcd_print.specs.Printed as print
use Rattle.svtv_files.specs.Files.{Text}

can_print : (part : Text) → IsPart part → print.IsPart part
can_print [] h = (h.some, (h.printed, (refl, refl)))
can_print (b ∷ more) h = (h.some, (h.printed, (h.no_dollar, h.no_bracket)))

pub can_be_dumped : (wires : List Signal) → HaveParts wires → All print.HasParts wires
can_be_dumped wires h =
    All-weaker (λ (w : Signal). All IsPart (print.parts_of w.path)) print.HasParts (λ w parts. All-weaker IsPart print.IsPart can_print (print.parts_of w.path) parts) wires h
