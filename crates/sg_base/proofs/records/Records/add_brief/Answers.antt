-- The record in brief is read, and the others as before; it takes the room of one.
use Rattle.std.proofs.Common.{◌≡◌, ◌+◌, ◌≤◌, [], ◌∷◌, ◌++◌, length, map, sym, ◌∙◌, ap, subst, arith, vec_capacity, vec_len}
use Rattle.std.proofs.lemmas.List.{length-map}
use Rattle.sg_base.proofs.ReadBack.{brief_read, brief_there, extra_few}
use Rattle.sg_base.proofs.RoomLess.{room_less, spare_less}
use Rattle.sg_base.specs.Inside.Heads.{extra_of, head_of}
use Rattle.sg_base.specs.Inside.Rooms.{room_of, spare_of}
use Rattle.sg_base.specs.Records.{InBrief, word_of}
use Rattle.sg_base.proofs.records.Records.add_brief.Goals as goal

pub invariant_of-self : goal.invariant_of-self
invariant_of-self g c =
    let brief = c.args.brief.now in
    let args = map word_of c.args.args.now in
    let own = c.args.words.now in
    let words = c.self.inside.words.items in
    let longer : c.push_extra.new.list.items ≡ words ++ args ++ own ++ extra_of brief
    = c.push_extra.ensures.items ∙ ap (λ l. l ++ extra_of brief) (c.push_words.ensures.items ∙ ap (λ l. l ++ own) c.push_args.ensures.items) in
    let head : c.of-head.result ≡ head_of brief (length words) (length args) (length own)
    = c.of-head.ensures ∙ ap (λ p. head_of brief p c.len.result (length own)) (ap length c.as_slice.ensures.value)
    ∙ ap (λ n. head_of brief (length words) n (length own)) (c.len.ensures ∙ sym (length-map c.args.args.now word_of)) in
    brief_there words c.push_extra.new.list.items c.self.inside.whole.items c.self.inside.heads.items c.push_reserved.new.self.items c.of-head.result brief args own
    longer c.push_reserved.ensures.items head c.push_extra.ensures.turn c.self.invariant

pub returns-clause-items : goal.returns-clause-items
returns-clause-items g c =
    let brief = c.args.brief.now in
    let args = map word_of c.args.args.now in
    let own = c.args.words.now in
    let words = c.self.inside.words.items in
    let longer : c.push_extra.new.list.items ≡ words ++ args ++ own ++ extra_of brief
    = c.push_extra.ensures.items ∙ ap (λ l. l ++ extra_of brief) (c.push_words.ensures.items ∙ ap (λ l. l ++ own) c.push_args.ensures.items) in
    let head : c.of-head.result ≡ head_of brief (length words) (length args) (length own)
    = c.of-head.ensures ∙ ap (λ p. head_of brief p c.len.result (length own)) (ap length c.as_slice.ensures.value)
    ∙ ap (λ n. head_of brief (length words) n (length own)) (c.len.ensures ∙ sym (length-map c.args.args.now word_of)) in
    brief_read words c.push_extra.new.list.items c.self.inside.whole.items c.self.inside.heads.items c.push_reserved.new.self.items c.of-head.result brief args own
    longer c.push_reserved.ensures.items head c.push_extra.ensures.turn c.self.invariant
    ∙ ap (λ v. v.items ++ InBrief brief args own ∷ []) c.self.view_is

pub returns-clause-room : goal.returns-clause-room
returns-clause-room g c =
    let heads = c.self.inside.heads in
    let words = c.self.inside.words in
    let whole = c.self.inside.whole in
    let heads' = c.push_reserved.new.self in
    let words' = c.push_extra.new.list in
    let few = extra_few c.args.brief.now in
    let args_fit = c.requires.args in
    let words_fit = c.requires.words in
    let a = c.push_args.ensures.len in
    let w = c.push_words.ensures.len in
    let e = c.push_extra.ensures.len in
    let a_capacity = c.push_args.ensures.capacity in
    let w_capacity = c.push_words.ensures.capacity in
    let e_capacity = c.push_extra.ensures.capacity in
    let h = c.push_reserved.ensures.len in
    let h_capacity = c.push_reserved.ensures.capacity in
    let more = length c.args.args.now + length c.args.words.now + length (extra_of c.args.brief.now) in
    let less_heads : spare_of (vec_len heads) (vec_capacity heads) ≤ spare_of (vec_len heads') (vec_capacity heads') + 1
    = spare_less (vec_len heads) (vec_capacity heads) (vec_len heads') (vec_capacity heads') 1 1 h (omega (arith, h_capacity)) (omega arith) in
    let less_words : spare_of (vec_len words) (vec_capacity words) ≤ spare_of (vec_len words') (vec_capacity words') + 11
    = spare_less (vec_len words) (vec_capacity words) (vec_len words') (vec_capacity words') more 11 (omega (arith, a, w, e)) (omega (arith, a_capacity, w_capacity, e_capacity))
    (omega (arith, few, args_fit, words_fit)) in
    let now : room_of (spare_of (vec_len heads) (vec_capacity heads)) (spare_of (vec_len words) (vec_capacity words)) (spare_of (vec_len whole) (vec_capacity whole)) ≡ c.args.self.now.room
    = ap (λ v. v.room) c.self.view_is in
    subst (λ r. r ≤ room_of (spare_of (vec_len heads') (vec_capacity heads')) (spare_of (vec_len words') (vec_capacity words')) (spare_of (vec_len whole) (vec_capacity whole)) + 1) now
    (room_less (spare_of (vec_len heads) (vec_capacity heads)) (spare_of (vec_len words) (vec_capacity words)) (spare_of (vec_len whole) (vec_capacity whole))
    (spare_of (vec_len heads') (vec_capacity heads')) (spare_of (vec_len words') (vec_capacity words')) (spare_of (vec_len whole) (vec_capacity whole))
    less_heads less_words (omega arith))
