-- The path goes, and the index is as before.
use Rattle.sg_ramfs.specs.RamfsFiles.{files_of}
use Rattle.sg_ramfs.proofs.Indexing.{cancelled}
use Rattle.sg_ramfs.proofs.files.OpenFiles.cancel.Goals as goal

pub returns-clause-index : goal.returns-clause-index
returns-clause-index c = cancelled (files_of c.args.self.now) c.args.self.now.index c.remove.new.self c.args.path.now c.requires.new c.requires.prepared c.remove.ensures.updates
