use Rattle.std.proofs.Common.{◌≡◌, ◌+◌, ◌∙◌, ◌++◌, ◌∷◌, [], List, Bool, true, false, length, get_or, sym, ap, subst, arith}
use Rattle.std.proofs.lemmas.Result.{IfOk-from_err}
use Rattle.std.proofs.lemmas.List.{length_push, get_or_push}
use Rattle.aig.proofs.Cones.{slice_back}
use Rattle.aig.proofs.eval.cone_of.Goals as goal

pub returns-in_err-resize : goal.returns-in_err-resize
returns-in_err-resize c =
    let e = c.from_residual.ensures.0 in
    record {
      long = IfOk-from_err _ _ e;
      marked = IfOk-from_err _ _ e;
      closed = IfOk-from_err _ _ e;
    }

pub returns-in_err-push : goal.returns-in_err-push
returns-in_err-push c =
    let e = c.from_residual-in_err-push.ensures.0 in
    record {
      long = IfOk-from_err _ _ e;
      marked = IfOk-from_err _ _ e;
      closed = IfOk-from_err _ _ e;
    }

pub returns : goal.returns
returns c =
    let back = slice_back c.push.new.self.len c.mark_cone.new.marks c.push.new.self.items c.as_mut_slice.result.now c.push.new.self.ok.0 c.mark_cone.auto.marks c.as_mut_slice.ensures.value in
    let pushed : c.as_mut_slice.result.now ≡ c.resize.new.self.items ++ true ∷ [] = c.as_mut_slice.ensures.value ∙ c.in_ok-push.ensures.items in
    let full : length c.resize.new.self.items ≡ c.args.node = omega (arith, c.in_ok-resize.ensures.len) in
    let long : length c.as_mut_slice.result.now ≡ c.args.node + 1 = ap length pushed ∙ length_push c.resize.new.self.items true ∙ ap (λ n. n + 1) full in
    record {
      long = rw back (c.mark_cone.auto.marks ∙ long);
      marked = rw back (c.mark_cone.ensures.kept c.args.node (subst (λ (xs : List Bool). get_or xs c.args.node false ≡ true) (sym pushed) (get_or_push c.resize.new.self.items true false c.args.node full)));
      closed = rw back c.mark_cone.ensures.closed;
    }
