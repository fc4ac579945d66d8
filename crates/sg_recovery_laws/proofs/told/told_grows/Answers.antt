use Rattle.sg_recovery_laws.proofs.LastItem.Making.{read_made, read_put}
use Rattle.sg_recovery_laws.proofs.LastItem.Reading.{read_plain, read_walk}
use Rattle.sg_recovery_laws.proofs.told.told_grows.Goals as goal

pub returns : goal.returns
returns c = record {
  plain = λ facts walks h older front item names told present rows none read. read_plain facts walks h older front item none names told present rows read;
  walked = λ facts walks h older front item names told present rows id client r done rest fun good none read.
      read_walk facts walks h older front item none names told present rows read id client r done rest fun good;
  made = λ facts walks h later older front item names told present rows rows' client seq good other same ids read tag outcome makes new_id unnamed grown some.
      read_made facts walks h later older front item same ids names told present rows rows' read client seq good other tag outcome makes new_id unnamed grown some;
  put = λ facts walks h later older front item names told present rows same ids read. read_put facts walks h later older front item same ids names told present rows read;
}
