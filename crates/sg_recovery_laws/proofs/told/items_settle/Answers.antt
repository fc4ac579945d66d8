use Rattle.std.proofs.Common.{[]}
use Rattle.sg_recovery_laws.proofs.Objects.Steady.{ascends}
use Rattle.sg_recovery_laws.proofs.LastItem.Noting.{admitted_last, client_tracked, least_told, load_settled, walk_settled}
use Rattle.sg_recovery_laws.proofs.told.items_settle.Goals as goal

pub returns : goal.returns
returns c = record {
  admitted = λ i walks h u older front item names told present o client call k its seqs lets.
      admitted_last i walks h u older front item names told present o k.object k.sound (ascends i.facts o k.sound) k.none k.items k.read client call its seqs lets;
  tracked = λ i walks h older front item names told present o held k. client_tracked i walks h [] older front item names told present o k.object k.sound (ascends i.facts o k.sound) k.none k.items k.read held;
  walked = λ i walks h older front item names told present o id n client r done rest fun k.
      walk_settled i walks h [] older front item names told present o k.object k.sound (ascends i.facts o k.sound) k.none k.items k.read id n client r done rest fun;
  least = λ i walks h older front item names told present o call id k. least_told i walks h [] older front item names told present o k.object k.sound (ascends i.facts o k.sound) k.none k.items k.read call id;
  loaded = λ i walks h u older front item names told present o client key call k.
      load_settled i walks h u older front item names told present o k.object k.sound (ascends i.facts o k.sound) k.none k.items k.read client key call;
}
