-- What a reader says of a whole line, by what it says of the words behind its kind.
use Rattle.std.proofs.Common.{◌≡◌, ℕ, Bool, true, false, IsTrue, ◌++◌, codes, Some, None, get_or, refl, sym, ap, ◌∙◌, subst, arith}
use Rattle.std.specs.Prelude.{Result, IfOk}
use Rattle.std.proofs.lemmas.Result.{IfOk-weaker}
use Rattle.std.proofs.lemmas.List.{append_cancel_left}
use Rattle.sv_outside.specs.declared.text.Signal.{Signal}
use Rattle.svex_shape.specs.declared.shape.Shape.{Shape}
use Rattle.driver_resolve.specs.declared.driver.Driver.{Driver}
use Rattle.flat_net.specs.declared.flat.Flat.{Flat}
use Rattle.flat_net.specs.declared.flat.Join.{Join}
use Rattle.flat_net.specs.Flats.{IsSignal}
use Rattle.flat_text.specs.Lines.{Text, shape_text}
use Rattle.flat_text.specs.FlatTexts.{IsTold}
use Rattle.flat_words.specs.Readers.{behind}
use Rattle.flat_words.proofs.Forms.{behind_takes}
use Rattle.flat_lines.specs.Fits.{FitsShape, FitsJoin, FitsDrive, FitsItem, wire_words, join_words, drive_words}
use Rattle.flat_lines.specs.Items.{Item, a_wire, a_join, a_node, a_drive, the_end, item_line}
use Rattle.flat_read.specs.declared.reader.Reader.{Reader}
use Rattle.flat_read.specs.Designs.{with_item, comes}
use Rattle.flat_read.specs.States.{Judged, CannotCome, Took, Refused, TookLine, RefusedLine}

abbrev first : Text → ℕ
first t = get_or t 0 0

differ : {A : Type 0} (a b : Text) → (first a ≡ first b → ⊥) → a ≡ b → A
differ a b apart e = absurd (apart (ap first e))

-- a line of a kind is that of something of the kind
abbrev Only : (A : Type 0) → (A → Item) → (A → Type 0) → Flat → Text → Type 0
Only A make Fits shown text = (x : Item) → text ≡ item_line x → FitsItem x → IsTrue (comes shown x) → (a : A) × ((x ≡ make a) × Fits a)

only_wire : (shown : Flat) (rest : Text) → Only Signal a_wire IsSignal shown (codes "wire " ++ rest)
only_wire shown rest (a_wire b) e f c = (b, (refl, f))
only_wire shown rest (a_join b) e f c = differ (codes "wire " ++ rest) (item_line (a_join b)) (λ k. omega arith) e
only_wire shown rest (a_node b) e f c = differ (codes "wire " ++ rest) (item_line (a_node b)) (λ k. omega arith) e
only_wire shown rest (a_drive b) e f c = differ (codes "wire " ++ rest) (item_line (a_drive b)) (λ k. omega arith) e
only_wire shown rest the_end e f c = differ (codes "wire " ++ rest) (item_line the_end) (λ k. omega arith) e

only_join : (shown : Flat) (rest : Text) → Only Join a_join FitsJoin shown (codes "join " ++ rest)
only_join shown rest (a_wire b) e f c = differ (codes "join " ++ rest) (item_line (a_wire b)) (λ k. omega arith) e
only_join shown rest (a_join b) e f c = (b, (refl, f))
only_join shown rest (a_node b) e f c = differ (codes "join " ++ rest) (item_line (a_node b)) (λ k. omega arith) e
only_join shown rest (a_drive b) e f c = differ (codes "join " ++ rest) (item_line (a_drive b)) (λ k. omega arith) e
only_join shown rest the_end e f c = differ (codes "join " ++ rest) (item_line the_end) (λ k. omega arith) e

only_node : (shown : Flat) (rest : Text) → Only Shape a_node FitsShape shown (codes "node " ++ rest)
only_node shown rest (a_wire b) e f c = differ (codes "node " ++ rest) (item_line (a_wire b)) (λ k. omega arith) e
only_node shown rest (a_join b) e f c = differ (codes "node " ++ rest) (item_line (a_join b)) (λ k. omega arith) e
only_node shown rest (a_node b) e f c = (b, (refl, f))
only_node shown rest (a_drive b) e f c = differ (codes "node " ++ rest) (item_line (a_drive b)) (λ k. omega arith) e
only_node shown rest the_end e f c = differ (codes "node " ++ rest) (item_line the_end) (λ k. omega arith) e

only_drive : (shown : Flat) (rest : Text) → Only Driver a_drive FitsDrive shown (codes "drive " ++ rest)
only_drive shown rest (a_wire b) e f c = differ (codes "drive " ++ rest) (item_line (a_wire b)) (λ k. omega arith) e
only_drive shown rest (a_join b) e f c = differ (codes "drive " ++ rest) (item_line (a_join b)) (λ k. omega arith) e
only_drive shown rest (a_node b) e f c = differ (codes "drive " ++ rest) (item_line (a_node b)) (λ k. omega arith) e
only_drive shown rest (a_drive b) e f c = (b, (refl, f))
only_drive shown rest the_end e f c = differ (codes "drive " ++ rest) (item_line the_end) (λ k. omega arith) e

judged : {E : Type 0} (r : Result Bool E) (A : Type 0) (make : A → Item) (Fits : A → Type 0) (print : A → Text) (mark : Text) (shown : Flat) (text rest : Text) (new : Reader) → ((a : A) → item_line (make a) ≡ mark ++ print a) → ((a : A) → Fits a → FitsItem (make a)) → Only A make Fits shown (mark ++ rest) → text ≡ mark ++ rest
    → IfOk r (λ b. Judged b (Took A make Fits print shown rest new) (Refused A make Fits print shown rest)) → IfOk r (λ b. Judged b (TookLine shown text new) (RefusedLine shown text))
judged r A make Fits print mark shown text rest new shows fits only e h =
    IfOk-weaker r (λ b. Judged b (Took A make Fits print shown rest new) (Refused A make Fits print shown rest)) (λ b. Judged b (TookLine shown text new) (RefusedLine shown text)) each h
  where
    each : (b : Bool) → Judged b (Took A make Fits print shown rest new) (Refused A make Fits print shown rest) → Judged b (TookLine shown text new) (RefusedLine shown text)
    each true t = record { it = make t.it; is = e ∙ ap (λ x. mark ++ x) t.is ∙ sym (shows t.it); fits = fits t.it t.fits; added = t.added }
    each false t = record {
      refused = λ x k f may told.
          let one = only x (sym e ∙ k) f may in
          let same : rest ≡ print one.0 = append_cancel_left mark rest (print one.0) (sym e ∙ k ∙ ap item_line one.1.0 ∙ shows one.0) in
          t.refused one.0 same one.1.1 (subst (λ y. IsTrue (comes shown y)) one.1.0 may) (subst (λ y. IsTold (with_item shown y)) one.1.0 told);
    }

pub wire_judged : {E : Type 0} (r : Result Bool E) (shown : Flat) (text rest : Text) (new : Reader) → text ≡ codes "wire " ++ rest
    → IfOk r (λ b. Judged b (Took Signal a_wire IsSignal wire_words shown rest new) (Refused Signal a_wire IsSignal wire_words shown rest)) → IfOk r (λ b. Judged b (TookLine shown text new) (RefusedLine shown text))
wire_judged r shown text rest new e h = judged r Signal a_wire IsSignal wire_words (codes "wire ") shown text rest new (λ a. refl) (λ a f. f) (only_wire shown rest) e h

pub join_judged : {E : Type 0} (r : Result Bool E) (shown : Flat) (text rest : Text) (new : Reader) → text ≡ codes "join " ++ rest
    → IfOk r (λ b. Judged b (Took Join a_join FitsJoin join_words shown rest new) (Refused Join a_join FitsJoin join_words shown rest)) → IfOk r (λ b. Judged b (TookLine shown text new) (RefusedLine shown text))
join_judged r shown text rest new e h = judged r Join a_join FitsJoin join_words (codes "join ") shown text rest new (λ a. refl) (λ a f. f) (only_join shown rest) e h

pub node_judged : {E : Type 0} (r : Result Bool E) (shown : Flat) (text rest : Text) (new : Reader) → text ≡ codes "node " ++ rest
    → IfOk r (λ b. Judged b (Took Shape a_node FitsShape shape_text shown rest new) (Refused Shape a_node FitsShape shape_text shown rest)) → IfOk r (λ b. Judged b (TookLine shown text new) (RefusedLine shown text))
node_judged r shown text rest new e h = judged r Shape a_node FitsShape shape_text (codes "node ") shown text rest new (λ a. refl) (λ a f. f) (only_node shown rest) e h

pub drive_judged : {E : Type 0} (r : Result Bool E) (shown : Flat) (text rest : Text) (new : Reader) → text ≡ codes "drive " ++ rest
    → IfOk r (λ b. Judged b (Took Driver a_drive FitsDrive drive_words shown rest new) (Refused Driver a_drive FitsDrive drive_words shown rest)) → IfOk r (λ b. Judged b (TookLine shown text new) (RefusedLine shown text))
drive_judged r shown text rest new e h = judged r Driver a_drive FitsDrive drive_words (codes "drive ") shown text rest new (λ a. refl) (λ a f. f) (only_drive shown rest) e h

not_behind : {A : Type 0} (mark text rest : Text) → None ≡ behind mark text → text ≡ mark ++ rest → A
not_behind mark text rest n e = never (n ∙ ap (behind mark) e ∙ behind_takes mark rest)
  where
    never : {A : Type 0} → None ≡ Some rest → A
    never h = cc

pub no_kind : (shown : Flat) (text : Text) → None ≡ behind (codes "wire ") text → None ≡ behind (codes "join ") text → None ≡ behind (codes "node ") text → None ≡ behind (codes "drive ") text → RefusedLine shown text
no_kind shown text w j n d = record { refused = each }
  where
    each : (x : Item) → text ≡ item_line x → FitsItem x → CannotCome shown x
    each (a_wire s) e f = λ c t. not_behind (codes "wire ") text (wire_words s) w e
    each (a_join s) e f = λ c t. not_behind (codes "join ") text (join_words s) j e
    each (a_node s) e f = λ c t. not_behind (codes "node ") text (shape_text s) n e
    each (a_drive s) e f = λ c t. not_behind (codes "drive ") text (drive_words s) d e
    each the_end e f = λ c t. cc
