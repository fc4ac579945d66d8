-- An item that is kept in brief is read as it was.
use Rattle.std.proofs.Common.{◌≡◌, true, List, [], ◌∷◌, ◌++◌, None, map, ◌∙◌, ap}
use Rattle.std.proofs.lemmas.List.{map-append}
use Rattle.sg_facts.specs.declared.kept.Kept.{Kept}
use Rattle.sg_facts.specs.declared.outcome.Outcome.TheVariants.{Replied}
use Rattle.sg_facts.specs.declared.trace.Item.{Item}
use Rattle.sg_facts.specs.Inside.Items.{IsBriefItem, IsBriefOutcome, item_of, outcome_of, reply_words}
use Rattle.sg_base.specs.declared.brief.Brief.{Brief}
use Rattle.sg_base.specs.declared.brief.Gave.{Gave}
use Rattle.sg_base.specs.declared.brief.Gave.TheVariants.{Good, Refused, Blocks, Stopped, NoMemory}
use Rattle.sg_base.specs.declared.reply.Reply.{Reply}
use Rattle.sg_base.specs.Records.{IsBriefReply, Record, InBrief, is_reply, reply_of, word_of, words_of}

-- a reply in brief is an outcome with nothing written
reply_back : (gave : Gave) (reply : Reply) → is_reply gave ≡ true → reply_of gave (words_of reply) ≡ reply → outcome_of gave (words_of reply) ≡ Replied reply None
reply_back (Good desc) reply is same = ap (λ r. Replied r None) same
reply_back (Refused code) reply is same = ap (λ r. Replied r None) same
reply_back Blocks reply is same = cc is
reply_back Stopped reply is same = cc is
reply_back NoMemory reply is same = cc is

pub reply_in_brief : (gave : Gave) (reply : Reply) → IsBriefReply gave reply → IsBriefOutcome gave (Replied reply None)
reply_in_brief gave reply is = record { few = is.few; same = reply_back gave reply is.replies is.same }

-- an item in brief
pub item_back : (brief : Brief) (item : Item) → IsBriefItem brief item → item_of (InBrief brief (map word_of item.shown.args) (reply_words item.outcome)) ≡ item
item_back brief item is =
    let shown = map word_of item.shown.args in
    let words = reply_words item.outcome in
    ap (λ t. record (item_of (InBrief brief shown words)) { tag = t }) is.tag
    ∙ ap (λ s. record (item_of (InBrief brief shown words)) { tag = item.tag; shown = s }) is.shown
    ∙ ap (λ r. record (item_of (InBrief brief shown words)) { tag = item.tag; shown = item.shown; real = r }) is.real
    ∙ ap (λ p. record (item_of (InBrief brief shown words)) { tag = item.tag; shown = item.shown; real = item.real; points = p }) is.points
    ∙ ap (λ o. record item { outcome = o }) is.outcome

-- a record more is an item more
pub item_added : (old new : List (Record Kept)) (more : Record Kept) (item : Item) → new ≡ old ++ more ∷ [] → item_of more ≡ item → map item_of new ≡ map item_of old ++ item ∷ []
item_added old new more item is same = ap (map item_of) is ∙ map-append item_of old (more ∷ []) ∙ ap (λ i. map item_of old ++ i ∷ []) same
