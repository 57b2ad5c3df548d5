use Rattle.std.proofs.Common.{◌≡◌, ◌∙◌, ◌∷◌, [], true, false, inl, inr, sym, ap, subst, refl, arith}
use Rattle.std.proofs.lemmas.Grind.{common_steps}
use Rattle.sv_meaning.specs.Layouts.{Name}
use Rattle.sv_modules.specs.Naming.{holds, Adds}
use Rattle.sv_modules.proofs.Pinned.{listed_next, put_handed_memory}
use Rattle.sv_modules.proofs.connect.put_pin.Goals as goal

pub returns-then-not-has : goal.returns-then-not-has
returns-then-not-has c =
    let f : c.has.result ≡ false = grind (arith, common_steps) in
    inl (ap (λ (n : Name). holds c.args.known.now n) (sym c.bytes.ensures) ∙ sym c.has.ensures ∙ f, c.refusal.ensures)

pub returns-then-has : goal.returns-then-has
returns-then-has c =
    let f : c.has.result ≡ true = grind (arith, common_steps) in
    let g : c.has-2.result ≡ true = grind (arith, common_steps) in
    inr (ap (λ (n : Name). holds c.args.known.now n) (sym c.bytes.ensures) ∙ sym c.has.ensures ∙ f, ap (λ (n : Name). holds c.args.used.now n) (sym c.bytes-2.ensures) ∙ sym c.has-2.ensures ∙ g, c.refusal-then-has.ensures)

pub returns-in_err-add : goal.returns-in_err-add
returns-in_err-add c = put_handed_memory c.args.known.now c.args.used.now c.add.new.self c.args.list.now.items c.args.list.now.items c.args.pin.now c.from_residual.result c.from_residual.ensures.1

pub returns-in_err-push : goal.returns-in_err-push
returns-in_err-push c = put_handed_memory c.args.known.now c.args.used.now c.add.new.self c.args.list.now.items c.push.new.self.items c.args.pin.now c.from_residual-in_err-push.result c.from_residual-in_err-push.ensures.1

pub returns : goal.returns
returns c =
    let f : c.has.result ≡ true = grind (arith, common_steps) in
    let g : c.has-2.result ≡ false = grind (arith, common_steps) in
    record {
      is_known = ap (λ (n : Name). holds c.args.known.now n) (sym c.bytes.ensures) ∙ sym c.has.ensures ∙ f;
      is_new = ap (λ (n : Name). holds c.args.used.now n) (sym c.bytes-2.ensures) ∙ sym c.has-2.ensures ∙ g;
      adds = subst (λ (n : Name). Adds c.args.used.now (n ∷ []) c.add.new.self) c.bytes-3.ensures c.in_ok-add.ensures;
      all_is = listed_next c.args.list.now.items c.push.new.self.items _ c.args.pin.now.name c.args.pin.now.pin c.in_ok-push.ensures.items refl c.joined_of.ensures;
    }
