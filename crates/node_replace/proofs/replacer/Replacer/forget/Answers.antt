use Rattle.node_replace.proofs.Replacing.{forgotten_replacing}
use Rattle.node_replace.proofs.replacer.Replacer.forget.Goals as goal

pub returns-clause-replacing : goal.returns-clause-replacing
returns-clause-replacing c = λ shapes by other h named. forgotten_replacing shapes by other c.args.self.now c.take_back.new.self c.take_back.ensures h named
