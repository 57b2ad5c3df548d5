use Rattle.std.proofs.Common.{◌≡◌, ℕ, ◌++◌, ◌∷◌, [], refl, ap, ◌∙◌}
use Rattle.std.proofs.lemmas.Bool.{both_ways}
use Rattle.driver_resolve.specs.declared.driver.Driver.{Driver}
use Rattle.flat_read.proofs.Adding.{DriverFits, driver_tested, driver_fits, driver_added, number_read}
use Rattle.flat_read.proofs.reader.Reader.add_driver.Goals as goal

pub returns-then-not-is_driver-clause-judged : goal.returns-then-not-is_driver-clause-judged
returns-then-not-is_driver-clause-judged c shown h comes told =
    let tested = driver_tested c.args.self.now c.args.driver c.deref.result.now c.deref-2.result.now c.is_driver.result c.deref.ensures.value c.deref-2.ensures.value c.is_driver.ensures in
    both_ways c.is_driver.result c.if-not-is_driver.true (tested.1 (driver_fits shown c.args.self.now c.args.driver h told))

pub returns-clause-judged : goal.returns-clause-judged
returns-clause-judged c shown h =
    let tested = driver_tested c.args.self.now c.args.driver c.deref.result.now c.deref-2.result.now c.is_driver.result c.deref.ensures.value c.deref-2.ensures.value c.is_driver.ensures in
    let fits : DriverFits c.args.self.now c.args.driver = tested.0 c.if-not-is_driver.false in
    let number : c.index-2.result.now ≡ _ = number_read c.args.self.now.numbers.items c.index.result c.args.driver.value c.index-2.result.now c.index-2.ensures c.index.ensures fits.1.0 in
    driver_added shown c.args.self.now (record c.args.self.now { drivers = c.push.new.self }) c.args.driver h fits (record {
      wires = refl;
      widths = refl;
      joins = refl;
      made = refl;
      arena = refl;
      numbers = refl;
      drivers = c.in_ok-push.ensures.ok ∙ ap (λ (n : ℕ). c.args.self.now.drivers ++ (let d : Driver = record { target = c.args.driver.target; value = n } in d) ∷ []) number;
    })
