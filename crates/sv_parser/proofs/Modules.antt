-- Modules are read as they are spelled.
use Rattle.std.proofs.Common.{◌≡◌, ℕ, ◌+◌, ◌≤◌, Bool, true, false, List, [], ◌∷◌, ◌++◌, length, drop, Option, Some, None, refl, sym, ◌∙◌, ap, subst, append_assoc, arith}
use Rattle.sv_outside.specs.declared.refusal.Place.{Place}
use Rattle.sv_outside.specs.declared.text.Token.{Token}
use Rattle.sv_tree.specs.declared.word.Word.{Word}
use Rattle.sv_tree.specs.declared.design.Way.{Way as WayWord}
use Rattle.sv_tree.specs.declared.design.NetWord.{NetWord}
use Rattle.sv_tree.specs.declared.design.Port.{Port}
use Rattle.sv_tree.specs.declared.design.ParPort.{ParPort}
use Rattle.sv_tree.specs.declared.design.Item.{Item}
use Rattle.sv_tree.specs.declared.design.Module.{Module}
use Rattle.sv_tree.specs.Spelling.{Spelled, ◌⨟◌, mark as mark_spelled, key, maybe, after_commas, label}
use Rattle.sv_tree.specs.GrammarForms.{SpellsParPort, way_key, SpellsPort}
use Rattle.sv_tree.specs.GrammarDesign.{SpellsParams, HasWay, port_list, SpellsPorts, SpellsModule}
use Rattle.sv_tree.specs.Nesting.{Nesting, one, if_given, each_depths, commas_depths, label_depths}
use Rattle.sv_tree.specs.NestingDesign.{port_depths, item_depths, params_depths, ports_depths, module_depths}
use Rattle.sv_tree.proofs.Counted.{counted_end_label}
use Rattle.sv_cursor.specs.declared.sort.Keyword.TheVariants as k
use Rattle.sv_cursor.specs.declared.sort.Mark.TheVariants as m
use Rattle.sv_cursor.specs.declared.sort.Sort.TheVariants as so
use Rattle.sv_cursor.specs.Sorts.{mark_text, keyword_text}
use Rattle.sv_cursor.specs.Tests.{same_mark, same_keyword, mark_test}
use Rattle.sv_cursor.specs.Parsers.{told, cons}
use Rattle.sv_cursor.proofs.Readers.{IsReader, IsMoved, BadAt, less_reader, nests_reader}
use Rattle.sv_expr_reader.proofs.Tokens.{Any, Stops}
use Rattle.sv_word_parser.specs.Combined.{word_of, word_test}
use Rattle.sv_word_parser.specs.Words.{way_by_word, net_by_word}
use Rattle.sv_type_parser.specs.Params.{TypedName, made_port}
use Rattle.sv_stmt_parser.specs.Targets.{label_behind}
use Rattle.sv_item_parser.specs.Items.{item}
use Rattle.sv_parser.specs.Source.{list_of, made_first, first_port, more_ports, some_ports, ports_inside, ports, maybe_ports, more_par_ports, params_inside, made_params, params, ModuleRest, made_module, module_rest, modul}
use Rattle.sv_type_parser.proofs.Rules.{Rule, the_mark, the_key, before, seq, seq_by, closing, optional, tree_reads, tree_moved, after_rule, name_rule, moved_counted, mark_begins, IsFirst, first_of_mark, told_word, no_mark}
use Rattle.sv_type_parser.proofs.Words.{way_rule, way_begins, net_rule, net_begins}
use Rattle.sv_type_parser.proofs.Limits.{Over, first_end, end_mark}
use Rattle.sv_type_parser.proofs.Params.{par_port_rule}
use Rattle.sv_type_parser.proofs.Ports.{TypedStops, typed_ends, typed_no_net, typed_name_rule, port_rule}
use Rattle.sv_stmt_parser.proofs.Steps.{NoColon, label_behind_reads}
use Rattle.sv_item_parser.proofs.Gens.{each_item_done, each_item, gen_key_no_else}
use Rattle.sv_item_parser.proofs.GenLevel.{no_item, items_rule}
use Rattle.sv_item_parser.proofs.ItemLevel.{item_reads}

-- ---- ports

-- a port with a direction
abbrev FirstPort : Port → Spelled
FirstPort p i o = HasWay (p ∷ []) × SpellsPort p i o

abbrev SomePorts : List Port → Spelled
SomePorts [] i o = ⊥
SomePorts (p ∷ all) i o = (FirstPort p ⨟ after_commas SpellsPort all) i o

abbrev PortsInside : List Port → Spelled
PortsInside all i o = HasWay all × port_list all i o

has_way : (w : Option WayWord) (p : Port) → p.way ≡ w → HasWay (p ∷ []) → (x : WayWord) × (w ≡ Some x)
has_way None p e h = let f = ap is_given e in absurd (cc)
  where
    is_given : Option WayWord → Bool
    is_given None = false
    is_given (Some x) = true
has_way (Some x) p e h = (x, refl)

way_first : (all : List Port) (i o : List Token) → SomePorts all i o → (w : WayWord) × (told (word_test way_by_word) i ≡ Some w)
way_first [] i o h = absurd h
way_first (p ∷ all) i o h = by_way p.way refl
  where
    by_way : (w : Option WayWord) → p.way ≡ w → (w : WayWord) × (told (word_test way_by_word) i ≡ Some w)
    by_way w e =
        let x = has_way w p e h.1.0 in
        let g : maybe way_key (Some x.0) i h.1.1.0 = subst (λ w. maybe way_key w i h.1.1.0) (e ∙ x.1) h.1.1.1 in way_begins x.0 i h.1.1.0 g

comma_ends_port : (i : List Token) → IsFirst (so.Mark m.Comma) i → TypedStops i
comma_ends_port i h = typed_ends (so.Mark m.Comma) i h refl

paren_ends_ports : (i o : List Token) → mark_spelled (mark_text m.RightParen) i o → (told (word_test way_by_word) i ≡ None) × ((told (mark_test m.Comma) i ≡ None) × TypedStops i)
unfolding same_mark
paren_ends_ports i o h =
    let f = first_of_mark m.RightParen i o h in (told_word way_by_word i ∙ ap (word_of way_by_word) f, (no_mark m.Comma (so.Mark m.RightParen) i refl f, typed_ends (so.Mark m.RightParen) i f refl))

ports_nested : (q : Option (List Port)) → if_given (commas_depths port_depths) q ≡ commas_depths port_depths (list_of q)
ports_nested None = refl
ports_nested (Some all) = refl

ports_to : (q : Option (List Port)) (i o : List Token) → maybe SomePorts q i o → PortsInside (list_of q) i o
ports_to None i o h = (tt, h)
ports_to (Some []) i o h = absurd h
ports_to (Some (p ∷ all)) i o h = (h.1.0, (h.0, h.1.1, h.2))

ports_from : (all : List Port) (i o : List Token) → PortsInside all i o → (q : Option (List Port)) × (list_of q ≡ all) × maybe SomePorts q i o
ports_from [] i o h = (None, refl, h.1)
ports_from (p ∷ all) i o h = (Some (p ∷ all), refl, (h.1.0, (h.0, h.1.1), h.1.2))

ports_same : (all : List Port) → ports_depths all ≡ one ++ (commas_depths port_depths all ++ one)
ports_same all = simp append_assoc

module _ (s g d : ℕ) (le : d ≤ 200) where
  abbrev B : Nesting → Type 0
  B = Over s g 201

  abbrev first_tuple : Rule B d (WayWord × (Option NetWord × TypedName))
  first_tuple = seq (way_rule B d) (seq (optional (word_test net_by_word) (net_rule B d) net_begins) (typed_name_rule s g d le) (λ w x i o h stops. (typed_no_net x i o h, tt))) (λ x y i o h stops. tt)

  first_from : (p : Port) (i o : List Token) → FirstPort p i o → (c : WayWord × (Option NetWord × TypedName)) × (made_first c ≡ p) × first_tuple.spelled c i o
  first_from p i o h =
      let x = has_way p.way p refl h.0 in
      ((x.0, (p.kind, (p.form, p.name))), ap (λ w. made_port (w, (p.kind, (p.form, p.name)))) (sym x.1), (h.1.0, subst (λ w. maybe way_key w i h.1.0) x.1 h.1.1, h.1.2))

  first_reads : IsReader B d FirstPort FirstPort port_depths TypedStops first_port
  unfolding first_port
  first_reads = tree_reads first_tuple made_first FirstPort port_depths (λ c. simp append_assoc) (λ c i o h. (refl, h)) first_from

  first_moved : IsMoved FirstPort port_depths
  first_moved = tree_moved first_tuple made_first FirstPort port_depths (λ c. simp append_assoc) first_from

  abbrev first_rule : Rule B d Port
  first_rule = record { spelled = FirstPort; nests = port_depths; stops = TypedStops; parser = first_port; reads = first_reads; moved = first_moved }

  abbrev more_rule : Rule B d (List Port)
  more_rule = after_rule (port_rule s g d le) comma_ends_port

  stops_before : (all : List Port) (i o : List Token) → after_commas SpellsPort all i o → TypedStops o → TypedStops i
  unfolding mark_text
  stops_before [] i o h stops = subst TypedStops (sym h) stops
  stops_before (x ∷ all) i o h stops = comma_ends_port i (first_of_mark m.Comma i h.0 h.1)

  abbrev some_tuple : Rule B d (Port × List Port)
  some_tuple = seq first_rule more_rule (λ x all i o h stops. stops_before all i o h stops.1)

  some_from : (all : List Port) (i o : List Token) → SomePorts all i o → (c : Port × List Port) × (cons c ≡ all) × some_tuple.spelled c i o
  some_from [] i o h = absurd h
  some_from (p ∷ all) i o h = ((p, all), refl, h)

  abbrev PortsStop : List Token → Type 0
  PortsStop o = (told (mark_test m.Comma) o ≡ None) × TypedStops o

  some_reads : IsReader B d SomePorts SomePorts (commas_depths port_depths) PortsStop some_ports
  unfolding some_ports more_ports
  some_reads = tree_reads some_tuple cons SomePorts (commas_depths port_depths) (λ c. refl) (λ c i o h. h) some_from

  some_moved : IsMoved SomePorts (commas_depths port_depths)
  some_moved = tree_moved some_tuple cons SomePorts (commas_depths port_depths) (λ c. refl) some_from

  abbrev some_rule : Rule B d (List Port)
  some_rule = record { spelled = SomePorts; nests = commas_depths port_depths; stops = PortsStop; parser = some_ports; reads = some_reads; moved = some_moved }

  abbrev inside_tuple : Rule B d (Option (List Port))
  inside_tuple = optional (word_test way_by_word) some_rule way_first

  inside_reads : IsReader B d PortsInside PortsInside (commas_depths port_depths) inside_tuple.stops ports_inside
  unfolding ports_inside
  inside_reads = tree_reads inside_tuple list_of PortsInside (commas_depths port_depths) ports_nested ports_to ports_from

  inside_moved : IsMoved PortsInside (commas_depths port_depths)
  inside_moved = tree_moved inside_tuple list_of PortsInside (commas_depths port_depths) ports_nested ports_from

  abbrev inside_rule : Rule B d (List Port)
  inside_rule = record { spelled = PortsInside; nests = commas_depths port_depths; stops = inside_tuple.stops; parser = ports_inside; reads = inside_reads; moved = inside_moved }

  abbrev ports_tuple : Rule B d (List Port)
  ports_tuple = before (the_mark B m.LeftParen) (closing inside_rule (the_mark B m.RightParen) paren_ends_ports)

  ports_reads : IsReader B d SpellsPorts SpellsPorts ports_depths Any ports
  unfolding ports mark_text
  ports_reads =
      nests_reader B B ports_tuple.nests ports_depths (λ all. ap length (ports_same all)) (λ all k h. subst (λ l. BadAt B l k) (sym (ports_same all)) h) d SpellsPorts SpellsPorts Any ports_tuple.parser
      (less_reader B d d ports_tuple.spelled ports_tuple.spelled SpellsPorts SpellsPorts ports_tuple.nests Any Any ports_tuple.parser ports_tuple.reads (omega arith)
      (λ all i o h. (h.2.1.0, (h.0, h.1, (h.2.0, h.2.1.1, h.2.2)))) (λ all i o h. (h.1.0, h.1.1, (h.1.2.0, (h.0, h.1.2.1), h.1.2.2))) (λ o h. h))

  ports_moved : IsMoved SpellsPorts ports_depths
  unfolding mark_text
  ports_moved = record {
    count = λ all i o h. ports_tuple.moved.count all i o (h.1.0, h.1.1, (h.1.2.0, (h.0, h.1.2.1), h.1.2.2)) ∙ ap (λ l. length l + length o) (sym (ports_same all));
    rest = λ all i o h. ports_tuple.moved.rest all i o (h.1.0, h.1.1, (h.1.2.0, (h.0, h.1.2.1), h.1.2.2)) ∙ ap (λ l. drop (length l) i) (sym (ports_same all));
  }

  abbrev ports_rule : Rule B d (List Port)
  ports_rule = record { spelled = SpellsPorts; nests = ports_depths; stops = Any; parser = ports; reads = ports_reads; moved = ports_moved }

  ports_begin : (all : List Port) (i o : List Token) → SpellsPorts all i o → (p : Place) × (told (mark_test m.LeftParen) i ≡ Some p)
  unfolding mark_text
  ports_begin all i o h = mark_begins m.LeftParen i h.1.0 h.1.1

  abbrev ports_optional : Rule B d (Option (List Port))
  ports_optional = optional (mark_test m.LeftParen) ports_rule ports_begin

  abbrev PortsEnd : List Token → Type 0
  PortsEnd o = (told (mark_test m.LeftParen) o ≡ None) × Any o

  maybe_ports_reads : IsReader B d (maybe SpellsPorts) (maybe SpellsPorts) (if_given ports_depths) PortsEnd maybe_ports
  unfolding maybe_ports
  maybe_ports_reads = ports_optional.reads

  abbrev maybe_ports_rule : Rule B d (Option (List Port))
  maybe_ports_rule = record { spelled = maybe SpellsPorts; nests = if_given ports_depths; stops = PortsEnd; parser = maybe_ports; reads = maybe_ports_reads; moved = ports_optional.moved }

  -- ---- parameters

  paren_ends_params : (i o : List Token) → mark_spelled (mark_text m.RightParen) i o → (told (mark_test m.Comma) i ≡ None) × Stops 0 i
  unfolding same_mark
  paren_ends_params i o h = (no_mark m.Comma (so.Mark m.RightParen) i refl (first_of_mark m.RightParen i o h), end_mark m.RightParen refl i o h)

  stops_param : (all : List ParPort) (i o : List Token) → after_commas SpellsParPort all i o → Stops 0 o → Stops 0 i
  unfolding mark_text
  stops_param [] i o h stops = subst (Stops 0) (sym h) stops
  stops_param (x ∷ all) i o h stops = first_end m.Comma refl i (first_of_mark m.Comma i h.0 h.1)

  abbrev some_params : Rule B d (ParPort × List ParPort)
  some_params = seq (par_port_rule s g 201 d le) (after_rule (par_port_rule s g 201 d le) (first_end m.Comma refl)) (λ x all i o h stops. stops_param all i o h stops.1)

  abbrev params_tuple : Rule B d (ParPort × List ParPort)
  params_tuple = before (the_mark B m.Hash) (before (the_mark B m.LeftParen) (closing some_params (the_mark B m.RightParen) paren_ends_params))

  abbrev maybe_params : Rule B d (Option (ParPort × List ParPort))
  maybe_params = optional (mark_test m.Hash) params_tuple (λ c i o h. mark_begins m.Hash i h.0 h.1)

  params_nested : (q : Option (ParPort × List ParPort)) → maybe_params.nests q ≡ params_depths (made_params q)
  params_nested None = refl
  params_nested (Some c) = simp append_assoc

  params_to : (q : Option (ParPort × List ParPort)) (i o : List Token) → maybe_params.spelled q i o → SpellsParams (made_params q) i o
  unfolding mark_text
  params_to None i o h = h
  params_to (Some c) i o h = h

  params_from : (all : List ParPort) (i o : List Token) → SpellsParams all i o → (q : Option (ParPort × List ParPort)) × (made_params q ≡ all) × maybe_params.spelled q i o
  unfolding mark_text
  params_from [] i o h = (None, refl, h)
  params_from (p ∷ all) i o h = (Some (p, all), refl, h)

  abbrev ParamsEnd : List Token → Type 0
  ParamsEnd o = (told (mark_test m.Hash) o ≡ None) × Any o

  params_reads : IsReader B d SpellsParams SpellsParams params_depths ParamsEnd params
  unfolding params params_inside more_par_ports
  params_reads = tree_reads maybe_params made_params SpellsParams params_depths params_nested params_to params_from

  abbrev params_rule : Rule B d (List ParPort)
  params_rule = record { spelled = SpellsParams; nests = params_depths; stops = ParamsEnd; parser = params; reads = params_reads; moved = tree_moved maybe_params made_params SpellsParams params_depths params_nested params_from }

-- ---- modules

semicolon_ends_ports : (i o : List Token) → mark_spelled (mark_text m.Semicolon) i o → (told (mark_test m.LeftParen) i ≡ None) × Any i
unfolding same_mark
semicolon_ends_ports i o h = (no_mark m.LeftParen (so.Mark m.Semicolon) i refl (first_of_mark m.Semicolon i o h), tt)

no_hash : (q : Option (List Port)) (i t o : List Token) → maybe SpellsPorts q i t → mark_spelled (mark_text m.Semicolon) t o → told (mark_test m.Hash) i ≡ None
unfolding same_mark mark_text
no_hash None i t o h e = no_mark m.Hash (so.Mark m.Semicolon) i refl (subst (IsFirst (so.Mark m.Semicolon)) (sym h) (first_of_mark m.Semicolon t o e))
no_hash (Some all) i t o h e = no_mark m.Hash (so.Mark m.LeftParen) i refl (first_of_mark m.LeftParen i h.1.0 h.1.1)

endmodule_no_else : (i o : List Token) → key (keyword_text k.Endmodule) i o → Rattle.sv_stmt_parser.proofs.Begins.NoElse i
unfolding same_keyword
endmodule_no_else i o h = gen_key_no_else k.Endmodule refl i o h

abbrev Top : Nesting → Type 0
Top = Over 201 201 201

abbrev label_rule : Word → Rule Top 200 (Option Word)
label_rule n = record { spelled = label n; nests = if_given label_depths; stops = NoColon; parser = label_behind n; reads = label_behind_reads Top 200 n; moved = moved_counted (counted_end_label n) }

abbrev all_items : Rule Top 200 (List Item)
all_items = items_rule 201 200 (omega arith) (item 200) (item_reads 200 (omega arith))

abbrev rest_rule : Word → Rule Top 200 ModuleRest
rest_rule n =
    seq (params_rule 201 201 200 (omega arith))
    (seq (maybe_ports_rule 201 201 200 (omega arith))
    (before (the_mark Top m.Semicolon) (seq all_items (before (the_key Top k.Endmodule) (label_rule n)) (λ x y i o h stops. no_item k.Endmodule refl i h.0 h.1)))
    (λ x y i o h stops. semicolon_ends_ports i h.0 h.1))
    (λ x c i o h stops. (no_hash c.0 i h.0 h.2.0 h.1 h.2.1, tt))

abbrev module_tuple : Rule Top 200 (Word × ModuleRest)
module_tuple =
    before (the_key Top k.Module)
    (seq_by (name_rule Top 200) (λ n c. (rest_rule n).spelled c) (λ c. params_depths c.0 ++ (if_given ports_depths c.1.0 ++ (one ++ (each_depths item_depths c.1.1.0 ++ (one ++ if_given label_depths c.1.1.1))))) NoColon module_rest
    (λ n. (rest_rule n).reads) (λ n. (rest_rule n).moved) (λ n c i o h stops. tt))

module_to : (c : Word × ModuleRest) (i o : List Token) → module_tuple.spelled c i o → SpellsModule (made_module c) i o
unfolding mark_text keyword_text
module_to c i o h =
    let a = h.2.2 in
    let b = a.2.2 in
    let d = b.2 in
    (h.0, h.1, (h.2.0, h.2.1, (a.0, a.1, (a.2.0, a.2.1, (b.0, b.1, (d.0, each_item c.1.1.1.0 b.0 d.0 d.1, d.2))))))

module_from : (x : Module) (i o : List Token) → SpellsModule x i o → (c : Word × ModuleRest) × (made_module c ≡ x) × module_tuple.spelled c i o
unfolding mark_text keyword_text
module_from x i o h =
    let a = h.2.2 in
    let b = a.2.2 in
    let d = b.2 in (
      (x.name, (x.params, (x.ports, (x.items, x.label)))),
      refl,
      (h.0, h.1, (h.2.0, h.2.1, (a.0, a.1, (a.2.0, a.2.1, (b.0, b.1, (d.0, each_item_done x.items b.0 d.0 d.1 (endmodule_no_else d.0 d.2.0 d.2.1), d.2)))))),
    )

module_nested : (c : Word × ModuleRest) → module_tuple.nests c ≡ module_depths (made_module c)
module_nested c = simp append_assoc

pub module_reads : IsReader Top 200 SpellsModule SpellsModule module_depths NoColon modul
unfolding modul
module_reads = tree_reads module_tuple made_module SpellsModule module_depths module_nested module_to module_from

pub module_moved : IsMoved SpellsModule module_depths
module_moved = tree_moved module_tuple made_module SpellsModule module_depths module_nested module_from

abbrev pub module_rule : Rule Top 200 Module
module_rule = record { spelled = SpellsModule; nests = module_depths; stops = NoColon; parser = modul; reads = module_reads; moved = module_moved }
