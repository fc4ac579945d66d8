-- A new id goes last.
use Rattle.std.proofs.Common.{◌∙◌, nat_eq}
use Rattle.indexmap.proofs.CallerLemmas.{insert_entry-new}
use Rattle.sg_track.proofs.Entries.{lookup_missed}
use Rattle.sg_track.proofs.kept.add_row.Goals as goal

pub returns : goal.returns
returns c =
    c.in-Ok.ensures.entries
    ∙ insert_entry-new nat_eq c.args.kept.now c.args.row.id _ (lookup_missed c.args.kept.now.entries c.args.row.id c.requires.keyed c.requires.unknown)
