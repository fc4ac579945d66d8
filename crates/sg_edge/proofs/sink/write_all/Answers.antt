-- What the next write takes goes on where the last one stopped.
use Rattle.std.proofs.Common.{◌≡◌, ◌+◌, ◌-◌, ◌++◌, length, take, drop, sym, ◌∙◌, ap, subst, arith, length-drop}
use Rattle.std.proofs.lemmas.Grind.{common_steps}
use Rattle.std.proofs.lemmas.List.{take_all}
use Rattle.std.specs.Io.KnownBytes.{Appends}
use Rattle.sg_edge.proofs.Bytes.{Appends-trans}
use lib.Seq.{take-add}
use Rattle.sg_edge.proofs.sink.write_all.Goals as goal

pub pieces-preserved : goal.pieces-preserved
pieces-preserved g c =
    let bytes = c.args.bytes.now in
    let w = c.pieces.written in
    let n = c.in-Ok.count in
    let whole : take (length bytes - w) (drop w bytes) ≡ drop w bytes = take_all (length bytes - w) (drop w bytes) (omega (arith, length-drop w bytes)) in
    let more : take w bytes ++ take n (take (length bytes - w) (drop w bytes)) ≡ take (w + n) bytes =
    ap (λ l. take w bytes ++ take n l) whole ∙ sym (take-add w n bytes) in
    record {
      within = grind (arith, common_steps);
      front = subst (Appends (g.S.Sink.written c.args.sink.now) (g.S.Sink.written c.write.new.self)) more (Appends-trans _ _ _ _ _ c.pieces.invariant.front c.in-Ok.ensures.bytes);
      steady = c.in-Ok.ensures.steady ∙ c.pieces.invariant.steady;
    }
