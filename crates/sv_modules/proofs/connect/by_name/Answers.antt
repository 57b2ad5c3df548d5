use Rattle.std.proofs.Common.{[], map, arith}
use Rattle.sv_meaning.specs.Params.{by_name}
use Rattle.sv_modules.specs.Naming.{texts_of}
use Rattle.sv_modules.specs.Connections.{connection_is}
use Rattle.sv_modules.proofs.Pinned.{holds_pin, listed_ok, named_end, put_handed, put_next}
use Rattle.sv_modules.proofs.connect.by_name.Goals as goal

pub returns-in_err-put_pin : goal.returns-in_err-put_pin
returns-in_err-put_pin c =
    put_handed (by_name (texts_of c.args.names.now) [] c.args.pins.now) c.in_ok-known.known c.pins.used c.put_pin.new.used c.pins.list.items c.put_pin.new.list.items (texts_of c.args.names.now) c.args.pins.now c.pins.pin-index c.pin-item.result
    (map connection_is c.pins.list.items) c.in_err-put_pin.field-0.0 c.from_residual-in_err-put_pin.result c.pins-test.true c.pin-item.is c.in_ok-known.ensures c.pins.invariant.used c.pins.invariant.rest c.in_err-put_pin.ensures c.from_residual-in_err-put_pin.ensures.1

pub pins-preserved : goal.pins-preserved
pins-preserved c = record {
  used = holds_pin c.pins.used c.put_pin.new.used c.args.pins.now c.pins.pin-index c.pin-item.result c.pins-test.true c.pin-item.is c.pins.invariant.used c.in_ok-put_pin.ensures.adds;
  rest = put_next (by_name (texts_of c.args.names.now) [] c.args.pins.now) c.in_ok-known.known c.pins.used c.put_pin.new.used c.pins.list.items c.put_pin.new.list.items (texts_of c.args.names.now) c.args.pins.now c.pins.pin-index c.pin-item.result
      c.pins-test.true c.pin-item.is c.in_ok-known.ensures c.pins.invariant.used c.pins.invariant.rest c.in_ok-put_pin.ensures;
}

pub returns : goal.returns
returns c = listed_ok (by_name (texts_of c.args.names.now) [] c.args.pins.now) c.pins.list (named_end (by_name (texts_of c.args.names.now) [] c.args.pins.now) (texts_of c.args.names.now) c.args.pins.now c.pins.pin-index (map connection_is c.pins.list.items) (omega (arith, c.pins-test.false)) c.pins.invariant.rest)
