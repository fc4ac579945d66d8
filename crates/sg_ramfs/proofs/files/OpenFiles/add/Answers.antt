-- The file goes last, where the index has its place.
use Rattle.std.proofs.Common.{sym, ◌∙◌, ap, map}
use Rattle.sg_ramfs.specs.RamfsFiles.{files_of, place_at}
use Rattle.sg_ramfs.proofs.Indexing.{list_more, pair_of, place_new, set_new}
use Rattle.sg_ramfs.proofs.files.OpenFiles.add.Goals as goal

pub returns-clause-files : goal.returns-clause-files
returns-clause-files c =
    ap (map pair_of) c.push_reserved.ensures.items ∙ list_more c.args.self.now.list.items (record { path = c.args.path; bytes = c.args.bytes })
    ∙ set_new (files_of c.args.self.now) c.args.path c.args.bytes.items c.requires.new

pub returns-clause-index : goal.returns-clause-index
returns-clause-index c = λ path.
    c.requires.prepared path ∙ sym (place_new (files_of c.args.self.now) c.args.path c.args.bytes.items path c.requires.new)
    ∙ sym (ap (λ l. place_at l path) (ap (map pair_of) c.push_reserved.ensures.items ∙ list_more c.args.self.now.list.items (record { path = c.args.path; bytes = c.args.bytes })))
