-- The drafts begin blank, and come to what the effects make of them.
use Rattle.std.proofs.Common.{◌≡◌, ◌∙◌, ap, subst, sym, length, map, drop}
use Rattle.std.proofs.lemmas.List.{length-map}
use Rattle.sg_facts.specs.Facts.{fun_of_shape}
use Rattle.sg_facts.specs.Track.{fields_after}
use Rattle.sg_track.specs.Drafts.{EachNew, IsValue, blank_draft, drafted}
use Rattle.sg_track.proofs.DraftLists.{blank_values, front_again}
use Rattle.sg_track.proofs.make.made_fields.Goals as goal

pub draft_each-requires : goal.draft_each-requires
draft_each-requires c =
    let begun = ap (map (drafted c.args.call.now)) c.blank_drafts-drafts.ensures ∙ blank_values c.args.call.now c.args.fields.now in
    subst (EachNew IsValue c.args.call.now c.args.good.now (fun_of_shape c.args.fun.now).effects) (sym begun) c.requires.values

pub returns : goal.returns
returns c =
    let n = length c.args.fields.now in
    let begun = ap (map (drafted c.args.call.now)) c.blank_drafts-drafts.ensures ∙ blank_values c.args.call.now c.args.fields.now in
    let whole : length c.draft_each.new.drafts ≡ n = c.draft_each.ensures.len ∙ ap length c.blank_drafts-drafts.ensures ∙ length-map c.args.fields.now blank_draft in
    c.fill.ensures
    ∙ ap (map (drafted c.args.call.now)) (front_again n c.draft_each.new.drafts (drop n c.blank_drafts-drafts.result) whole)
    ∙ c.draft_each.ensures.set
    ∙ ap (fields_after c.args.call.now c.args.good.now (fun_of_shape c.args.fun.now).effects) begun
