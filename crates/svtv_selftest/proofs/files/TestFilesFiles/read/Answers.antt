use Rattle.svtv_selftest.proofs.Short.{told_short}
use Rattle.svtv_selftest.proofs.files.TestFilesFiles.read.Goals as goal

pub returns-in-Ok-clause-limit : goal.returns-in-Ok-clause-limit
returns-in-Ok-clause-limit c = told_short c.args.self.now.count c.bytes.result.now c.in-Ok.text.items c.args.self.now.high c.in-Ok.ensures
