-- The patch fits its file, which has room for it.
use Rattle.std.proofs.Common.{◌≡◌, ◌+◌, ◌≤◌, length, refl, sym, ◌∙◌, ap, subst, arith}
use Rattle.sg_store.specs.Stored.{HasRoom, bytes_of}
use Rattle.test_storage.proofs.Committing.{may_write}
use Rattle.test_storage.proofs.files.write.Goals as goal

pub commit-requires : goal.commit-requires
commit-requires c =
    let s = c.reserve.new.self in
    let last = subst (λ n. 1 ≤ n) (sym c.in_ok-reserve.ensures.clients) c.requires.client in
    let few = subst (λ b. length b ≤ 256) (sym c.in_ok-bytes.ensures) c.requires.few in
    may_write c.args.tables.now.iface.facts s c.call-twrite.result c.done.result (record { key = c.args.key; from = c.args.from; bytes = c.in_ok-bytes.bytes }) c.requires.files c.call-twrite.ensures c.done.ensures last
    (record {
      bytes = few;
      within = omega (arith, c.if-from-len.false, c.len.ensures);
      end = omega (arith, few, c.if-from-gt65280.false);
      room = c.in_ok-reserve.ensures.room;
    })
