-- What a step notes in the run of its member: nothing, or one item of its client's turn.
use Rattle.std.proofs.Common.{◌≡◌, ◌⊎◌, ℕ, List, [], refl, sym, ◌∙◌, ap, subst, inl, inr}
use Rattle.sg_facts.specs.declared.trace.Item.{Item}
use Rattle.sg_facts.specs.declared.trace.Tag.{Tag}
use Rattle.sg_facts.specs.declared.trace.Tag.TheVariants.{Client, Load, Walk}
use Rattle.sg_facts.specs.Trace.{Boot}
use Rattle.sg_multi.proofs.sg_sim.sg_play.sg_plain.sg_hist.Growing.{items_booted, items_struck, places-booted, places-struck}
use Rattle.sg_multi.specs.sg_sim.sg_play.sg_hist.Ending.{client_of}
use Rattle.sg_multi.specs.sg_sim.sg_play.sg_hist.Growing.{noted, struck}
use Rattle.sg_multi.specs.sg_sim.sg_play.sg_hist.Reading.{items_of, places_from}
use Rattle.sg_multi.specs.sg_sim.sg_clients.WorldView.{WorldView, seat_of}
use Rattle.sg_multi.specs.sg_sim.sg_clients.declared.phase.Phase.TheVariants.{Asked}
use Rattle.sg_multi.specs.sg_sim.sg_world.declared.did.Did.{Did}
use Rattle.sg_multi.specs.sg_sim.sg_world.declared.did.Did.TheVariants.{Answered, Blocked as Waits, Booted, Loaded, Lost, Replayed, Served, Skipped, Struck}
use Rattle.sg_multi.specs.sg_sim.sg_world.Steps.{AsksService, Commits, HasStepped, Steps}
use Rattle.sg_multi.specs.sg_sim.sg_world_laws.Setting.{Setting}

-- boots have the items of others, at their places
pub record SamePlaces (boots later : List Boot) : Type 0 where
  pub items : items_of later ≡ items_of boots
  pub places : places_from [] later ≡ places_from [] boots

-- what is noted in a client's turn is of that turn; where it is a client's call, it is the one that this client asks
abbrev pub IsOwnTag : WorldView → ℕ → Tag → Type 0
IsOwnTag w c (Walk id k client) = client ≡ c
IsOwnTag w c (Load key client) = client ≡ c
IsOwnTag w c (Client client seq) = (client ≡ c) × ((seat_of w c).phase ≡ Asked) × (seq ≡ (seat_of w c).call.seq)

pub own_client : (w : WorldView) (c : ℕ) (tag : Tag) → IsOwnTag w c tag → client_of tag ≡ c
own_client w c (Walk id k client) own = own
own_client w c (Load key client) own = own
own_client w c (Client client seq) own = own.0

-- boots have one item more than those of a world
pub record NotesItem (w : WorldView) (c : ℕ) (later : List Boot) : Type 0 where
  pub item : Item
  pub own : IsOwnTag w c item.tag
  pub same : SamePlaces (noted w.run.boots item) later

-- or they have as many
abbrev pub Notes : WorldView → ℕ → List Boot → Type 0
Notes w c later = SamePlaces w.run.boots later ⊎ NotesItem w c later

module _ (z : Setting) (w : WorldView) (c : ℕ) where
  same_boots : (later : List Boot) → later ≡ w.run.boots → Notes w c later
  same_boots later same = inl (record { items = ap items_of same; places = ap (places_from []) same })

  struck_boots : (boots later : List Boot) (stop : ℕ) → later ≡ struck boots stop → SamePlaces boots later
  struck_boots boots later stop is = record { items = ap items_of is ∙ items_struck boots stop; places = ap (places_from []) is ∙ places-struck [] boots stop }

  one : (item : Item) → IsOwnTag w c item.tag → (later : List Boot) → SamePlaces (noted w.run.boots item) later → Notes w c later
  one item own later same = inr (record { item = item; own = own; same = same })

  kept : (item : Item) (later : List Boot) → later ≡ noted w.run.boots item → SamePlaces (noted w.run.boots item) later
  kept item later is = record { items = ap items_of is; places = ap (places_from []) is }

  walked : (item : Item) (id k : ℕ) → item.tag ≡ Walk id k c → IsOwnTag w c item.tag
  walked item id k tag = subst (IsOwnTag w c) (sym tag) refl

  loaded : (item : Item) (key : List ℕ) → item.tag ≡ Load key c → IsOwnTag w c item.tag
  loaded item key tag = subst (IsOwnTag w c) (sym tag) refl

  asked : (a : AsksService z w c) → IsOwnTag w c a.item.tag
  asked a = subst (IsOwnTag w c) (sym a.tag) (refl, a.reaches.uses.let_in.phase, refl)

  commits : (between : WorldView) (l : Commits z w c between) → between.run.boots ≡ noted w.run.boots l.asks.item
  commits between l = ap (λ x. x.run.boots) l.now

  step_notes : (did : Did) (later : WorldView) → Steps z w c did later → Notes w c later.run.boots
  step_notes Skipped later l = same_boots later.run.boots (ap (λ x. x.run.boots) l.now)
  step_notes (Answered reply) later (inl l) = same_boots later.run.boots (ap (λ x. x.run.boots) l.now)
  step_notes (Answered reply) later (inr (inl l)) = same_boots later.run.boots (ap (λ x. x.run.boots) l.now)
  step_notes (Answered reply) later (inr (inr l)) = same_boots later.run.boots (ap (λ x. x.run.boots) l.now)
  step_notes Lost later l = same_boots later.run.boots (ap (λ x. x.run.boots) l.now)
  step_notes Booted later l = inl (record {
    items = ap (λ x. items_of x.run.boots) l.now ∙ items_booted w.run.boots;
    places = ap (λ x. places_from [] x.run.boots) l.now ∙ places-booted [] w.run.boots;
  })
  step_notes Struck later (inl l) = inl (struck_boots w.run.boots later.run.boots _ (ap (λ x. x.run.boots) l.now))
  step_notes Struck later (inr (inl l)) = one l.item (walked l.item l.id l.k l.tag) later.run.boots (struck_boots (noted w.run.boots l.item) later.run.boots _ (ap (λ x. x.run.boots) l.now))
  step_notes Struck later (inr (inr (inl l))) = one l.asks.item (asked l.asks) later.run.boots (struck_boots (noted w.run.boots l.asks.item) later.run.boots _ (ap (λ x. x.run.boots) l.now))
  step_notes Struck later (inr (inr (inr l))) =
      one l.commits.asks.item (asked l.commits.asks) later.run.boots
      (subst (λ b. SamePlaces b later.run.boots) (commits l.between l.commits) (struck_boots l.between.run.boots later.run.boots _ (ap (λ x. x.run.boots) l.now)))
  step_notes Replayed later l = one l.item (walked l.item l.id l.k l.tag) later.run.boots (kept l.item later.run.boots (ap (λ x. x.run.boots) l.now))
  step_notes Loaded later l = one l.item (loaded l.item l.key l.tag) later.run.boots (kept l.item later.run.boots (ap (λ x. x.run.boots) l.now))
  step_notes Waits later l = one l.asks.item (asked l.asks) later.run.boots (kept l.asks.item later.run.boots (ap (λ x. x.run.boots) l.now))
  step_notes Served later (inl l) = one l.commits.asks.item (asked l.commits.asks) later.run.boots (kept l.commits.asks.item later.run.boots (ap (λ x. x.run.boots) l.now ∙ commits l.between l.commits))
  step_notes Served later (inr l) = one l.asks.item (asked l.asks) later.run.boots (kept l.asks.item later.run.boots (ap (λ x. x.run.boots) l.now))

  pub notes : (did : Did) (now : WorldView) → HasStepped z w c did now → Notes w c now.run.boots
  notes did now stepped = subst (Notes w c) (sym (ap (λ (x : WorldView). x.run.boots) stepped.counted)) (step_notes did stepped.later stepped.steps)
