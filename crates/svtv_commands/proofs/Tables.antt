-- Why other files are refused.
use Rattle.std.proofs.Common.{◌≡◌, List, sym, subst, inr}
use Rattle.sv_outside.specs.declared.refusal.Place.{Place}
use Rattle.sv_outside.specs.declared.refusal.Refusal.{Refusal}
use Rattle.sv_outside.specs.declared.refusal.TextErr.{TextErr}
use Rattle.sv_outside.specs.declared.refusal.TextErr.TheVariants as e
use Rattle.sv_outside.specs.declared.text.Signal.{Signal}
use Rattle.svtv_table.specs.Binding.{bind_faults}
use Rattle.svtv_table.specs.Faults as faults
use Rattle.table_cells.specs.declared.table.Table.{Table}
use Rattle.svtv_files.specs.Files.{Text, Told, IsTableText}
use Rattle.svtv_files.specs.Refusals.{RefusesTable, TooLong, at_first}
use Rattle.svtv_files.specs.Stopping.{Stops, StopsAt, IsOf}
use Rattle.svtv_files.specs.declared.stop.Stop.{Stop}
use Rattle.svtv_files.specs.declared.stop.Stop.TheVariants.{Refused, Unread, Memory}

-- what one file's name and cause make of a stop
abbrev pub StopsAs : Text → (Refusal → Type 0) → Stop → Type 0
StopsAs name Why stop = Stops (λ file r. (file ≡ name) × Why r) (λ file place. (file ≡ name) × (place ≡ at_first)) stop

pub read_stops : (told : Told) (name : Text) (Why : Refusal → Type 0) (stop : Stop) → ((r : Refusal) → TooLong told name r → Why r) → StopsAt told name stop → StopsAs name Why stop
read_stops told name Why (Refused file r) f h = (h.0, f r h.1)
read_stops told name Why (Unread file place) f h = h
read_stops told name Why Memory f h = tt

-- an error of this cause, of the file of that name
abbrev pub Causes : (Refusal → Type 0) → TextErr → Type 0
Causes Why (e.No r) = Why r
Causes Why e.Memory = Unit {0}

pub error_stops : (name : Text) (Why : Refusal → Type 0) (error : TextErr) (stop : Stop) → Causes Why error → IsOf name error stop → StopsAs name Why stop
error_stops name Why (e.No r) (Refused file own) c h = (h.1, subst Why (sym h.0) c)
error_stops name Why (e.No r) (Unread file place) c h = absurd h
error_stops name Why (e.No r) Memory c h = tt
error_stops name Why e.Memory (Refused file own) c h = absurd h
error_stops name Why e.Memory (Unread file place) c h = absurd h
error_stops name Why e.Memory Memory c h = tt

-- other causes
pub stops_weaker : (R S : Text → Refusal → Type 0) (P Q : Text → Place → Type 0) (stop : Stop) → ((file : Text) (r : Refusal) → R file r → S file r) → ((file : Text) (place : Place) → P file place → Q file place)
    → Stops R P stop → Stops S Q stop
stops_weaker R S P Q (Refused file r) f g h = f file r h
stops_weaker R S P Q (Unread file place) f g h = g file place h
stops_weaker R S P Q Memory f g h = tt

-- ---- tables

pub bind_causes : (told : Told) (name : Text) (wires : List Signal) (table : Table) (error : TextErr) → IsTableText told name table → faults.Stops (bind_faults wires table) error
    → Causes (RefusesTable told name wires) error
unfolding faults.Stops
bind_causes told name wires table (e.No r) t h = inr (inr (record { table = table; read = t; first = h }))
bind_causes told name wires table e.Memory t h = tt
